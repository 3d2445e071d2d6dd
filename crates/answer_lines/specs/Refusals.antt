-- The table of refusals: each one is a row of number, name and the texts of what it carries.
use Rattle.std.specs.Prelude.{ℕ, List, [], ◌∷◌, ◌++◌, codes}
use Rattle.std.specs.Fmt.{decimal}
use Rattle.manifest_json.specs.declared.spot.Spot.{Spot}
use Rattle.manifest_json.specs.declared.spot.Spot.TheVariants.{Top, File, Folder as of_folder}
use Rattle.tree_fs.specs.Texts.{place_text}
use Rattle.answer_lines.specs.Lines.{line}
use Rattle.answer_lines.specs.declared.refusal.Refusal.{Refusal}
use Rattle.answer_lines.specs.declared.refusal.Refusal.TheVariants.{Profile, Edit, Rules, Scan, Manifest, Plan, Recovery, Input, Early, Named, Foreign}
use Rattle.answer_lines.specs.declared.refusal.ProfileRefusal.{ProfileRefusal}
use Rattle.answer_lines.specs.declared.refusal.ProfileRefusal.TheVariants.{ProfileNotToml, ProfileDeep, ProfileFloat, ProfileVersion, ProfileShape, SameMod, SameOverride, BadPath, BadKind, TooManyMods, TooLong, BadRelease, BadRange, SameType, NoType}
use Rattle.answer_lines.specs.declared.refusal.EditRefusal.{EditRefusal}
use Rattle.answer_lines.specs.declared.refusal.EditRefusal.TheVariants.{NoMod, SameRule, NoRule, NoOverride, KeyTaken, OldProfile}
use Rattle.answer_lines.specs.declared.refusal.RuleRefusal.{RuleRefusal}
use Rattle.answer_lines.specs.declared.refusal.RuleRefusal.TheVariants.{Missing, Conflict, Cycle}
use Rattle.answer_lines.specs.declared.refusal.ScanRefusal.{ScanRefusal}
use Rattle.answer_lines.specs.declared.refusal.ScanRefusal.TheVariants.{NoFolder, OddEntry, BadEntry, Reserved, TooManyEntries, FileAndFolder, TargetLong, TwoSpellings, FoldReserved}
use Rattle.answer_lines.specs.declared.refusal.ManifestRefusal.{ManifestRefusal}
use Rattle.answer_lines.specs.declared.refusal.ManifestRefusal.TheVariants.{ManifestNotJson, ManifestVersion, ManifestShape, ManifestBadPath, ManifestOrder, ManifestNested, ManifestSource}
use Rattle.answer_lines.specs.declared.refusal.PlanRefusal.{PlanRefusal}
use Rattle.answer_lines.specs.declared.refusal.PlanRefusal.TheVariants.{ChangesFound, Turned, Blocked, BackupTaken, AsideFull, PlanTooLong}
use Rattle.answer_lines.specs.declared.refusal.RecoveryRefusal.{RecoveryRefusal}
use Rattle.answer_lines.specs.declared.refusal.RecoveryRefusal.TheVariants.{BadIntent, SourceGone, CannotBack}
use Rattle.answer_lines.specs.declared.refusal.InputRefusal.{InputRefusal}
use Rattle.answer_lines.specs.declared.refusal.InputRefusal.TheVariants.{LineTooLong, TooManyLines, BadLine, BadAnswer}
use Rattle.answer_lines.specs.declared.refusal.EarlyRefusal.{EarlyRefusal}
use Rattle.answer_lines.specs.declared.refusal.EarlyRefusal.TheVariants.{Taken, Folder, NotBuilt}
use Rattle.answer_lines.specs.declared.refusal.NamedRefusal.{NamedRefusal}
use Rattle.answer_lines.specs.declared.refusal.NamedRefusal.TheVariants.{NoName, NameTaken, NoProfile}
use Rattle.answer_lines.specs.declared.refusal.ForeignRefusal.{ForeignRefusal}
use Rattle.answer_lines.specs.declared.refusal.ForeignRefusal.TheVariants.{ForeignLong, ForeignNotJson, ForeignShape}

-- a row: the number, the name, and the texts of the carried values in their order
pub record RefusalRow : Type 0 where
  pub number : ℕ
  pub name : List ℕ
  pub carried : List (List ℕ)

abbrev pub refusal : ℕ → List ℕ → List (List ℕ) → RefusalRow
refusal number name carried = record { number = number; name = name; carried = carried }

-- the part of a manifest or list that a fault is about, counted from 0
abbrev pub spot_text : Spot → List ℕ
spot_text Top = codes "top"
spot_text (File i) = codes "file " ++ decimal i
spot_text (of_folder i) = codes "folder " ++ decimal i

abbrev pub profile_row : ProfileRefusal → RefusalRow
profile_row ProfileNotToml = refusal 1 (codes "ProfileNotToml") []
profile_row ProfileDeep = refusal 2 (codes "ProfileDeep") []
profile_row ProfileFloat = refusal 3 (codes "ProfileFloat") []
profile_row ProfileVersion = refusal 4 (codes "ProfileVersion") []
profile_row (ProfileShape key) = refusal 5 (codes "ProfileShape") (key ∷ [])
profile_row (SameMod id) = refusal 6 (codes "SameMod") (id ∷ [])
profile_row (SameOverride path) = refusal 7 (codes "SameOverride") (path ∷ [])
profile_row (BadPath text) = refusal 8 (codes "BadPath") (text ∷ [])
profile_row (BadKind text) = refusal 9 (codes "BadKind") (text ∷ [])
profile_row (TooManyMods count) = refusal 10 (codes "TooManyMods") (decimal count ∷ [])
profile_row (TooLong place) = refusal 11 (codes "TooLong") (place_text place ∷ [])
profile_row (BadRelease text) = refusal 46 (codes "BadRelease") (text ∷ [])
profile_row (BadRange text) = refusal 47 (codes "BadRange") (text ∷ [])
profile_row (SameType id) = refusal 50 (codes "SameType") (id ∷ [])
profile_row (NoType text) = refusal 51 (codes "NoType") (text ∷ [])

abbrev pub edit_row : EditRefusal → RefusalRow
edit_row (NoMod id) = refusal 12 (codes "NoMod") (id ∷ [])
edit_row SameRule = refusal 13 (codes "SameRule") []
edit_row NoRule = refusal 14 (codes "NoRule") []
edit_row (NoOverride path) = refusal 15 (codes "NoOverride") (path ∷ [])
edit_row (KeyTaken key) = refusal 48 (codes "KeyTaken") (key ∷ [])
edit_row OldProfile = refusal 49 (codes "OldProfile") []

abbrev pub rule_row : RuleRefusal → RefusalRow
rule_row (Missing id needs) = refusal 16 (codes "Missing") (id ∷ needs ∷ [])
rule_row (Conflict id other) = refusal 17 (codes "Conflict") (id ∷ other ∷ [])
rule_row (Cycle ids) = refusal 18 (codes "Cycle") ids

abbrev pub scan_row : ScanRefusal → RefusalRow
scan_row (NoFolder id) = refusal 19 (codes "NoFolder") (id ∷ [])
scan_row (OddEntry folder name) = refusal 20 (codes "OddEntry") (place_text folder ∷ name ∷ [])
scan_row (BadEntry folder name) = refusal 21 (codes "BadEntry") (place_text folder ∷ name ∷ [])
scan_row (Reserved place) = refusal 22 (codes "Reserved") (place_text place ∷ [])
scan_row (TooManyEntries limit) = refusal 23 (codes "TooManyEntries") (decimal limit ∷ [])
scan_row (FileAndFolder path) = refusal 24 (codes "FileAndFolder") (path ∷ [])
scan_row (TargetLong id path) = refusal 52 (codes "TargetLong") (id ∷ path ∷ [])
scan_row (TwoSpellings id path) = refusal 55 (codes "TwoSpellings") (id ∷ path ∷ [])
scan_row (FoldReserved id path) = refusal 56 (codes "FoldReserved") (id ∷ path ∷ [])

abbrev pub manifest_row : ManifestRefusal → RefusalRow
manifest_row ManifestNotJson = refusal 25 (codes "ManifestNotJson") []
manifest_row ManifestVersion = refusal 26 (codes "ManifestVersion") []
manifest_row (ManifestShape spot) = refusal 27 (codes "ManifestShape") (spot_text spot ∷ [])
manifest_row (ManifestBadPath spot) = refusal 28 (codes "ManifestBadPath") (spot_text spot ∷ [])
manifest_row (ManifestOrder spot) = refusal 29 (codes "ManifestOrder") (spot_text spot ∷ [])
manifest_row (ManifestNested spot) = refusal 30 (codes "ManifestNested") (spot_text spot ∷ [])
manifest_row (ManifestSource spot) = refusal 53 (codes "ManifestSource") (spot_text spot ∷ [])

abbrev pub plan_row : PlanRefusal → RefusalRow
plan_row (ChangesFound path count) = refusal 31 (codes "ChangesFound") (path ∷ decimal count ∷ [])
plan_row (Turned path) = refusal 32 (codes "Turned") (path ∷ [])
plan_row (Blocked place) = refusal 33 (codes "Blocked") (place_text place ∷ [])
plan_row (BackupTaken path) = refusal 34 (codes "BackupTaken") (path ∷ [])
plan_row AsideFull = refusal 35 (codes "AsideFull") []
plan_row (PlanTooLong length) = refusal 36 (codes "PlanTooLong") (decimal length ∷ [])

abbrev pub recovery_row : RecoveryRefusal → RefusalRow
recovery_row BadIntent = refusal 37 (codes "BadIntent") []
recovery_row (SourceGone place) = refusal 38 (codes "SourceGone") (place_text place ∷ [])
recovery_row CannotBack = refusal 54 (codes "CannotBack") []

abbrev pub input_row : InputRefusal → RefusalRow
input_row (LineTooLong line) = refusal 39 (codes "LineTooLong") (decimal line ∷ [])
input_row TooManyLines = refusal 40 (codes "TooManyLines") []
input_row (BadLine line) = refusal 41 (codes "BadLine") (decimal line ∷ [])
input_row (BadAnswer line) = refusal 42 (codes "BadAnswer") (decimal line ∷ [])

abbrev pub early_row : EarlyRefusal → RefusalRow
early_row (Taken path) = refusal 43 (codes "Taken") (path ∷ [])
early_row (Folder place) = refusal 44 (codes "Folder") (place_text place ∷ [])
early_row NotBuilt = refusal 45 (codes "NotBuilt") []

abbrev pub named_row : NamedRefusal → RefusalRow
named_row (NoName id) = refusal 57 (codes "NoName") (id ∷ [])
named_row (NameTaken id) = refusal 58 (codes "NameTaken") (id ∷ [])
named_row NoProfile = refusal 59 (codes "NoProfile") []

abbrev pub foreign_row : ForeignRefusal → RefusalRow
foreign_row ForeignLong = refusal 60 (codes "ForeignLong") []
foreign_row ForeignNotJson = refusal 61 (codes "ForeignNotJson") []
foreign_row (ForeignShape spot) = refusal 62 (codes "ForeignShape") (spot_text spot ∷ [])

-- the row of a refusal
abbrev pub row_of : Refusal → RefusalRow
row_of (Profile refusal) = profile_row refusal
row_of (Edit refusal) = edit_row refusal
row_of (Rules refusal) = rule_row refusal
row_of (Scan refusal) = scan_row refusal
row_of (Manifest refusal) = manifest_row refusal
row_of (Plan refusal) = plan_row refusal
row_of (Recovery refusal) = recovery_row refusal
row_of (Input refusal) = input_row refusal
row_of (Early refusal) = early_row refusal
row_of (Named refusal) = named_row refusal
row_of (Foreign refusal) = foreign_row refusal

-- the line of a row: `refused`, the number, the name, and the carried values
abbrev pub line_of_row : RefusalRow → List ℕ
line_of_row r = line (codes "refused") (decimal r.number ∷ r.name ∷ r.carried)

-- the line of a refusal
abbrev pub refusal_line : Refusal → List ℕ
refusal_line refusal = line_of_row (row_of refusal)
