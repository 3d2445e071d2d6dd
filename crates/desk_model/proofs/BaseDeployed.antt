-- A worked case: a mod's file is deployed below the base folder of the mod's type, so that its path isn't its source; then the base is taken off.
use Rattle.std.proofs.Common.{◌≡◌, ◌≢◌, ◌⊎◌, ℕ, Bool, true, false, ◌||◌, if◌then◌else◌, List, [], ◌∷◌, ◌++◌, map, codes, refl, sym, ap, ◌∙◌, inl, inr, subst}
use Rattle.std.specs.List.{Contains}
use Rattle.std.specs.List.Sorted.{IsStrictlySortedBy}
use Rattle.std.specs.Ordering.{nat_cmp}
use Rattle.std.specs.Cmp.Lexicographic.{slice_cmp}
use Rattle.std.specs.declared.option.Option.TheVariants.{None, Some}
use Rattle.sha2.specs.Sha256.{sha256}
use Rattle.rel_paths.specs.Names.{names_of, backup_names}
use Rattle.rel_paths.proofs.NamesOf.{same_text}
use Rattle.rel_paths.proofs.Truths.{either_second}
use Rattle.tree_fs.specs.declared.place.Root.{Root}
use Rattle.tree_fs.specs.declared.place.Root.TheVariants.{Stage, Game, Keep}
use Rattle.tree_fs.specs.Spot.{Spot, spot_eq, root_spot, IsBelow}
use Rattle.tree_fs.specs.Places.{mod_spot, game_spot}
use Rattle.tree_fs.specs.Disk.{Disk, Value, none, file}
use Rattle.tree_fs.proofs.Spots.{spot_eq_tells}
use Rattle.tree_fs.proofs.Lists.{contains_here, contains_cases, contains_none}
use Rattle.manifest_json.specs.declared.manifest.Row.{Row}
use Rattle.manifest_json.specs.declared.manifest.Manifest.{Manifest}
use Rattle.manifest_json.specs.Manifests.{manifest_value}
use Rattle.desk_model.specs.Places.{Names, names_eq, in_game, in_stage, manifest_spot}
use Rattle.desk_model.specs.Desk.{without_manifest, plain, plain_by, found, found_by, desk}
use Rattle.desk_model.specs.Records.{nothing, recorded, rows_of, own_of, read_as, recorded_by, manifest_of, row_at, row_behind, rows_on}
use Rattle.desk_model.specs.Folders.{lies_in_game, lies_by, lies, IsNeeded, IsOwn, IsOwnOrNeeded, Goes, FolderRule, OwnRule}
use Rattle.desk_model.specs.Deployed.{Win, Deployed, winner_of, won_file, row_by, won_row}
use Rattle.desk_model.proofs.Agreeing.{without-agree}
use Rattle.desk_model.proofs.Cases.{names_off, names_tell, spot_off, nothing_there, empty, tail_is, head_is}
use Rattle.list_laws.proofs.Texts.{names_eq-Decides}

abbrev x_source : List ℕ
x_source = codes "x.txt"

abbrev below_base : List ℕ
below_base = codes "bin/x.txt"

abbrev a_file : Names
a_file = codes "a" ∷ codes "x.txt" ∷ []

abbrev bin : Spot
bin = in_game (codes "bin" ∷ [])

abbrev now_staged : Spot → Value
now_staged s = if spot_eq s (in_stage a_file) then file 1 else none

-- the staged file at a path of the game too
abbrev now_at : List ℕ → ℕ → Spot → Value
now_at path m s = if spot_eq s (in_game (names_of path)) then file 1 else if spot_eq s (in_stage a_file) then file 1 else if spot_eq s manifest_spot then file m else none

abbrev one_mod : Spot → Bool
one_mod s = spot_eq s (root_spot Stage) || spot_eq s (root_spot Game) || spot_eq s (root_spot Keep) || spot_eq s (mod_spot (codes "a"))

abbrev with_bin : Spot → Bool
with_bin s = spot_eq s bin || one_mod s

abbrev pub staged_disk : (ℕ → List ℕ) → Disk
staged_disk bytes = record { folders = one_mod; now = now_staged; before = λ s. []; bytes = bytes; firm = λ n. true; fresh = 4 }

abbrev disk_at : (Spot → Bool) → List ℕ → ℕ → (ℕ → List ℕ) → Disk
disk_at folders path m bytes = record { folders = folders; now = now_at path m; before = λ s. []; bytes = bytes; firm = λ n. true; fresh = 4 }

-- deployed below the base, and deployed with no base
abbrev pub based_disk : (ℕ → List ℕ) → Disk
based_disk bytes = disk_at with_bin below_base 2 bytes

abbrev pub plain_disk : (ℕ → List ℕ) → Disk
plain_disk bytes = disk_at one_mod x_source 3 bytes

abbrev row : (ℕ → List ℕ) → List ℕ → Row
row bytes path = record { path = path; mod_id = codes "a"; source = x_source; digest = record { bytes = sha256 (bytes 1) }; shadowed = false }

abbrev manifest : (ℕ → List ℕ) → List ℕ → List (List ℕ) → Manifest
manifest bytes path own = record { rows = row bytes path ∷ []; folders = own }

abbrev wins : List ℕ → List Win
wins path = record { path = path; mod_id = codes "a"; source = x_source } ∷ []

-- the two places of the file
data IsFileOf (path : List ℕ) (x : Spot) : Type 0 where
  in_place : in_game (names_of path) ≡ x → IsFileOf path x
  in_mod : in_stage a_file ≡ x → IsFileOf path x

spot_on : (s : Spot) → spot_eq s s ≡ true
spot_on s = elim (spot_eq_tells s s) [ inl t ↦ t.0 | inr t ↦ absurd (t.1 refl) ]

-- What a disk with one row shows

module _ (folders : Spot → Bool) (path : List ℕ) (m : ℕ) (bytes : ℕ → List ℕ) (own : List (List ℕ)) (not_manifest : spot_eq (in_game (names_of path)) manifest_spot ≡ false) (manifest_off : spot_eq manifest_spot (in_game (names_of path)) ≡ false) where
  abbrev here : Disk
  here = disk_at folders path m bytes

  value_on : without_manifest (now_at path m) (in_game (names_of path)) ≡ file 1
  unfolding without_manifest
  value_on = (λ i. if not_manifest i then none else now_at path m (in_game (names_of path))) ∙ (λ i. if spot_on (in_game (names_of path)) i then file 1 else if spot_eq (in_game (names_of path)) (in_stage a_file) then file 1 else if spot_eq (in_game (names_of path)) manifest_spot then file m else none)

  value_off : (p : Names) → names_of path ≢ p → without_manifest (now_at path m) (in_game p) ≡ none
  unfolding spot_eq
  value_off p ne =
      without-agree (now_at path m) (λ x. none) (in_game p) (λ apart.
      let off : spot_eq (in_game p) (in_game (names_of path)) ≡ false = spot_off Game p (names_of path) (λ e. ne (sym e)) in
      let m_off : spot_eq (in_game p) manifest_spot ≡ false = elim (spot_eq_tells (in_game p) manifest_spot) [ inl t ↦ absurd (apart t.1) | inr t ↦ t.0 ] in
      λ i. if off i then file 1 else if m_off i then file m else none)
      ∙ nothing_there (in_game p)

  plain_row : (p : Names) → plain (row bytes path ∷ []) (without_manifest (now_at path m)) p ≡ none
  unfolding plain row_at row_behind
  plain_row p = elim (names_tell (names_of path) p) [
    | inl is ↦ subst (λ q. plain (row bytes path ∷ []) (without_manifest (now_at path m)) q ≡ none) is (by_test (names_eq (names_of path) (names_of path)) ((names_eq-Decides (names_of path) (names_of path)).1 refl))
    | inr ne ↦ (λ i. plain_by (if names_off (names_of path) p ne i then Some (row bytes path) else None) None (value_off p ne i) (without_manifest (now_at path m) (in_game (backup_names p))))
  ]
    where
      by_test : (t : Bool) → t ≡ true → plain_by (if t then Some (row bytes path) else None) None (without_manifest (now_at path m) (in_game (names_of path))) (without_manifest (now_at path m) (in_game (backup_names (names_of path)))) ≡ none
      by_test true e = refl
      by_test false e = absurd (cc)

  found_row : (p : Names) → found (row bytes path ∷ []) (without_manifest (now_at path m)) p ≡ (if names_eq (names_of path) p then file 1 else none)
  unfolding found row_at
  found_row p = elim (names_tell (names_of path) p) [
    | inl is ↦ subst (λ q. found (row bytes path ∷ []) (without_manifest (now_at path m)) q ≡ (if names_eq (names_of path) q then file 1 else none)) is (at_path (names_eq (names_of path) (names_of path)) ((names_eq-Decides (names_of path) (names_of path)).1 refl))
    | inr ne ↦ let off = names_off (names_of path) p ne in (λ i. found_by (if off i then Some (row bytes path) else None) (without_manifest (now_at path m) (in_game p))) ∙ sym (λ i. if off i then file 1 else none)
  ]
    where
      at_path : (t : Bool) → t ≡ true → found_by (if t then Some (row bytes path) else None) (without_manifest (now_at path m) (in_game (names_of path))) ≡ (if t then file 1 else none)
      at_path true e = ap (found_by (Some (row bytes path))) value_on
      at_path false e = absurd (cc)

  staged_is : (p : Names) → (desk here).staged p ≡ (if names_eq p a_file then file 1 else none)
  unfolding without_manifest spot_eq
  staged_is p = refl

  aside_is : (p : Names) → (desk here).aside p ≡ none
  unfolding without_manifest spot_eq
  aside_is [] = refl
  aside_is (n ∷ ns) = refl

  no_profile : (desk here).profile ≡ None
  unfolding spot_eq
  no_profile = refl

  module _ (is_text : manifest_value (bytes m) ≡ Some (manifest bytes path own)) where
    read_there : now_at path m manifest_spot ≡ file m
    unfolding spot_eq
    read_there = λ i. if manifest_off i then file 1 else file m

    told : manifest_of here ≡ recorded (manifest bytes path own)
    told = ap (recorded_by bytes) read_there ∙ ap (read_as (bytes m)) is_text

    rows_are : rows_on here ≡ row bytes path ∷ []
    rows_are = ap rows_of told

    plain_is : (p : Names) → (desk here).plain p ≡ none
    plain_is p = ap (λ rows. plain rows (without_manifest (now_at path m)) p) rows_are ∙ plain_row p

    found_is : (p : Names) → (desk here).found p ≡ (if names_eq (names_of path) p then file 1 else none)
    found_is p = ap (λ rows. found rows (without_manifest (now_at path m)) p) rows_are ∙ found_row p

    lies_off : (p : Names) → names_of path ≢ p → lies_in_game (desk here) p (row_at (row bytes path ∷ []) p) (row_behind (row bytes path ∷ []) p) ≡ none
    unfolding row_at row_behind
    lies_off p ne = (λ i. lies_in_game (desk here) p (if names_off (names_of path) p ne i then Some (row bytes path) else None) None) ∙ plain_is p

    lies_in_stage : (p : Names) (n : ℕ) → (desk here).staged p ≡ file n → IsFileOf path (in_stage p)
    lies_in_stage p n e = elim (names_tell a_file p) [
      | inl is ↦ in_mod (ap in_stage is)
      | inr ne ↦ let off = names_off p a_file (λ h. ne (sym h)) in let t : none ≡ file n = sym (λ i. if off i then file 1 else none) ∙ sym (staged_is p) ∙ e in absurd (cc)
    ]

    lies_at : (x : Spot) (n : ℕ) → lies (desk here) x ≡ file n → IsFileOf path x
    lies_at x n e = by_root x.root x.names e
      where
        by_root : (r : Root) (p : Names) → lies_by (desk here) r p ≡ file n → IsFileOf path (record { root = r; names = p })
        by_root Stage p is = lies_in_stage p n is
        by_root Keep p is = absurd (cc)
        by_root Game p is = elim (names_tell (names_of path) p) [
          | inl same ↦ in_place (ap in_game same)
          | inr ne ↦
              let rows = ap (λ rows. lies_in_game (desk here) p (row_at rows p) (row_behind rows p)) rows_are in
              let t : none ≡ file n = sym (rows ∙ lies_off p ne) ∙ is in absurd (cc)
        ]

    lies_place : lies (desk here) (in_game (names_of path)) ≡ file 1
    unfolding row_at
    lies_place = ap (λ rows. lies_in_game (desk here) (names_of path) (row_at rows (names_of path)) (row_behind rows (names_of path))) rows_are
        ∙ (λ i. lies_in_game (desk here) (names_of path) (if on i then Some (row bytes path) else None) (row_behind (row bytes path ∷ []) (names_of path)))
        ∙ found_is (names_of path) ∙ (λ i. if on i then file 1 else none)
      where
        on : names_eq (names_of path) (names_of path) ≡ true
        on = (names_eq-Decides (names_of path) (names_of path)).1 refl

-- Which folders lie above the files

above_stage : (name : List ℕ) (rest : Names) (r : Root) (ns : Names) → r ≡ Stage → a_file ≡ ns ++ name ∷ rest → one_mod (record { root = r; names = ns }) ≡ true
unfolding spot_eq
above_stage name rest Stage [] e h = refl
above_stage name rest Stage (y ∷ []) e h = subst (λ z. one_mod (mod_spot z) ≡ true) (head_is (codes "a") y _ (name ∷ rest) h) refl
above_stage name rest Stage (y ∷ z ∷ zs) e h =
    absurd (empty zs name rest (tail_is (codes "x.txt") z [] (zs ++ name ∷ rest) (tail_is (codes "a") y (codes "x.txt" ∷ []) (z ∷ (zs ++ name ∷ rest)) h)))
above_stage name rest Game ns e h = absurd (cc)
above_stage name rest Keep ns e h = absurd (cc)

above_plain : (name : List ℕ) (rest : Names) (r : Root) (ns : Names) → r ≡ Game → codes "x.txt" ∷ [] ≡ ns ++ name ∷ rest → one_mod (record { root = r; names = ns }) ≡ true
unfolding spot_eq
above_plain name rest Game [] e h = refl
above_plain name rest Game (y ∷ ys) e h = absurd (empty ys name rest (tail_is (codes "x.txt") y [] (ys ++ name ∷ rest) h))
above_plain name rest Stage ns e h = absurd (cc)
above_plain name rest Keep ns e h = absurd (cc)

above_based : (name : List ℕ) (rest : Names) (r : Root) (ns : Names) → r ≡ Game → codes "bin" ∷ codes "x.txt" ∷ [] ≡ ns ++ name ∷ rest → (record { root = r; names = ns } ≡ bin) ⊎ (one_mod (record { root = r; names = ns }) ≡ true)
unfolding spot_eq
above_based name rest Game [] e h = inr refl
above_based name rest Game (y ∷ []) e h = inl (sym (ap (λ z. in_game (z ∷ [])) (head_is (codes "bin") y _ (name ∷ rest) h)))
above_based name rest Game (y ∷ z ∷ zs) e h =
    absurd (empty zs name rest (tail_is (codes "x.txt") z [] (zs ++ name ∷ rest) (tail_is (codes "bin") y (codes "x.txt" ∷ []) (z ∷ (zs ++ name ∷ rest)) h)))
above_based name rest Stage ns e h = absurd (cc)
above_based name rest Keep ns e h = absurd (cc)

above_in_plain : (x s : Spot) → IsFileOf x_source x → IsBelow s x → one_mod s ≡ true
above_in_plain x s (in_place is) b = let c = subst (IsBelow s) (sym is) b in above_plain c.name c.rest s.root s.names (sym c.root) c.names
above_in_plain x s (in_mod is) b = let c = subst (IsBelow s) (sym is) b in above_stage c.name c.rest s.root s.names (sym c.root) c.names

above_in_based : (x s : Spot) → IsFileOf below_base x → IsBelow s x → (s ≡ bin) ⊎ (one_mod s ≡ true)
above_in_based x s (in_place is) b = let c = subst (IsBelow s) (sym is) b in above_based c.name c.rest s.root s.names (sym c.root) c.names
above_in_based x s (in_mod is) b = let c = subst (IsBelow s) (sym is) b in inr (above_stage c.name c.rest s.root s.names (sym c.root) c.names)

bin_or_mod : (s : Spot) → with_bin s ≡ true → (s ≡ bin) ⊎ (one_mod s ≡ true)
bin_or_mod s e = elim (spot_eq_tells s bin) [ inl t ↦ inl t.1 | inr t ↦ inr (sym (ap (λ b. b || one_mod s) t.0) ∙ e) ]

with_bin-mod : (s : Spot) → one_mod s ≡ true → with_bin s ≡ true
with_bin-mod s e = either_second (spot_eq s bin) (one_mod s) e

no_bin : one_mod bin ≡ false
unfolding spot_eq
no_bin = refl

is_bin : with_bin bin ≡ true
unfolding spot_eq
is_bin = refl

not_deep : (name : List ℕ) (rest : Names) → one_mod (in_game (codes "bin" ∷ name ∷ rest)) ≡ false
unfolding spot_eq
not_deep name rest = refl

no_folder_below : (x : Spot) → IsBelow bin x → with_bin x ≡ true → ⊥
no_folder_below x b there = elim (bin_or_mod x there) [
  | inl is ↦ empty [] b.name b.rest (tail_is (codes "bin") (codes "bin") [] (b.name ∷ b.rest) (sym (ap (λ (s : Spot). s.names) is) ∙ b.names))
  | inr in_one ↦ let t : true ≡ false = sym in_one ∙ (λ i. one_mod (record { root = b.root i; names = b.names i })) ∙ not_deep b.name b.rest in cc
]

only_bin : (path : List ℕ) → Contains (codes "bin" ∷ []) path → path ≡ codes "bin"
only_bin path c = elim (contains_cases (codes "bin") path [] c) [ inl is ↦ is | inr there ↦ absurd (contains_none path there) ]

-- Deployed

abbrev win : List ℕ → Win
win path = record { path = path; mod_id = codes "a"; source = x_source }

module _ (bytes : ℕ → List ℕ) (first : manifest_value (bytes 2) ≡ Some (manifest bytes below_base (codes "bin" ∷ []))) where
  off : spot_eq (in_game (names_of below_base)) manifest_spot ≡ false
  unfolding spot_eq
  off = refl

  turned : spot_eq manifest_spot (in_game (names_of below_base)) ≡ false
  unfolding spot_eq
  turned = refl

  based_lies : (x : Spot) (n : ℕ) → lies (desk (based_disk bytes)) x ≡ file n → IsFileOf below_base x
  based_lies = lies_at with_bin below_base 2 bytes (codes "bin" ∷ []) off turned first

  told_none : manifest_of (staged_disk bytes) ≡ nothing
  unfolding spot_eq
  told_none = refl

  told_based : manifest_of (based_disk bytes) ≡ recorded (manifest bytes below_base (codes "bin" ∷ []))
  told_based = told with_bin below_base 2 bytes (codes "bin" ∷ []) off turned first

  staged_plain : (p : Names) → (desk (staged_disk bytes)).plain p ≡ none
  unfolding plain row_at row_behind without_manifest spot_eq
  staged_plain p = by_test (spot_eq (in_game p) manifest_spot)
    where
      by_test : (t : Bool) → (if t then none else none) ≡ none
      by_test true = refl
      by_test false = refl

  found_won : (p : Names) → (if names_eq (names_of below_base) p then file 1 else none) ≡ won_file (staged_disk bytes) (winner_of (wins below_base) p)
  unfolding spot_eq
  found_won p = by_test (names_eq (names_of below_base) p)
    where
      by_test : (t : Bool) → (if t then file 1 else none) ≡ won_file (staged_disk bytes) (if t then Some (win below_base) else None)
      by_test true = refl
      by_test false = refl

  staged_stays : (p : Names) → (desk (based_disk bytes)).staged p ≡ (desk (staged_disk bytes)).staged p
  unfolding without_manifest spot_eq
  staged_stays p = refl

  aside_stays : (p : Names) → (desk (based_disk bytes)).aside p ≡ (desk (staged_disk bytes)).aside p
  unfolding without_manifest spot_eq
  aside_stays [] = refl
  aside_stays (n ∷ ns) = refl

  profile_stays : (desk (based_disk bytes)).profile ≡ (desk (staged_disk bytes)).profile
  unfolding spot_eq
  profile_stays = refl

  row_made : row bytes below_base ∷ [] ≡ map (won_row (staged_disk bytes)) (wins below_base)
  unfolding row_at spot_eq
  row_made = refl

  -- the base's folder is needed
  bin_needed : IsNeeded (staged_disk bytes) (desk (based_disk bytes)) bin
  bin_needed = record {
    missing = no_bin;
    place = in_game (names_of below_base);
    below = record { root = refl; name = codes "x.txt"; rest = []; names = refl };
    number = 1;
    there = lies_place with_bin below_base 2 bytes (codes "bin" ∷ []) off turned first;
  }

  needed_bin : (s : Spot) → IsNeeded (staged_disk bytes) (desk (based_disk bytes)) s → s ≡ bin
  needed_bin s h = elim (above_in_based h.place s (based_lies h.place h.number h.there) h.below) [ inl is ↦ is | inr there ↦ let t : true ≡ false = sym there ∙ h.missing in absurd (cc) ]

  own_bin : (s : Spot) → IsOwnOrNeeded (staged_disk bytes) (desk (based_disk bytes)) s → s ≡ bin
  own_bin s (inl o) = absurd (contains_none o.path (subst (λ m. Contains (own_of m) o.path) told_none o.listed))
  own_bin s (inr h) = needed_bin s h.1

  bin_stays : ¬ Goes (staged_disk bytes) (desk (based_disk bytes)) bin
  bin_stays goes = let t : none ≡ file bin_needed.number = sym (goes.no_value bin_needed.place bin_needed.below) ∙ bin_needed.there in cc

  no_going : (s : Spot) → ¬ Goes (staged_disk bytes) (desk (based_disk bytes)) s
  no_going s goes = bin_stays (subst (Goes (staged_disk bytes) (desk (based_disk bytes))) (own_bin s goes.own) goes)

  based_folders : FolderRule (staged_disk bytes) (desk (based_disk bytes))
  based_folders s = (
    λ h. (h.0, elim (bin_or_mod s h.1) [ inl is ↦ inr (subst (IsNeeded (staged_disk bytes) (desk (based_disk bytes))) (sym is) bin_needed) | inr there ↦ inl there ], no_going s),
    λ h. (h.0, elim h.1 [ inl there ↦ with_bin-mod s there | inr needed ↦ subst (λ q. with_bin q ≡ true) (sym (needed_bin s needed)) is_bin ]),
  )

  based_own : OwnRule (staged_disk bytes) (desk (based_disk bytes))
  unfolding IsStrictlySortedBy
  based_own = record {
    folders = λ path. (
      λ c. let is = only_bin path (subst (λ m. Contains (own_of m) path) told_based c) in (inr (refl, subst (λ q. IsNeeded (staged_disk bytes) (desk (based_disk bytes)) (game_spot q)) (sym is) bin_needed), no_going (game_spot path)),
      λ h. let is : path ≡ codes "bin" = same_text path (codes "bin") (ap (λ (q : Spot). q.names) (own_bin (game_spot path) h.0)) in
          subst (λ m. Contains (own_of m) path) (sym told_based) (subst (Contains (codes "bin" ∷ [])) (sym is) (contains_here (codes "bin") [])),
    );
    order = subst (λ m. IsStrictlySortedBy (slice_cmp nat_cmp) (own_of m)) (sym told_based) (tt, tt);
  }

  -- the deployment below the base: the row has its source, the base's folder is made and listed
  pub based-deployed : Deployed (staged_disk bytes) (wins below_base) (desk (based_disk bytes))
  based-deployed = record {
    plain = λ i p. (plain_is with_bin below_base 2 bytes (codes "bin" ∷ []) off turned first p ∙ sym (staged_plain p)) i;
    manifest = manifest bytes below_base (codes "bin" ∷ []);
    is_manifest = told_based;
    rows = row_made;
    found = λ p. found_is with_bin below_base 2 bytes (codes "bin" ∷ []) off turned first p ∙ found_won p;
    staged = λ i p. staged_stays p i;
    aside = λ i p. aside_stays p i;
    profile = profile_stays;
    folders = based_folders;
    own = based_own;
    bytes = λ n named. refl;
  }

  -- The base is taken off
  module _ (second : manifest_value (bytes 3) ≡ Some (manifest bytes x_source [])) where
    plain_off : spot_eq (in_game (names_of x_source)) manifest_spot ≡ false
    unfolding spot_eq
    plain_off = refl

    plain_turned : spot_eq manifest_spot (in_game (names_of x_source)) ≡ false
    unfolding spot_eq
    plain_turned = refl

    told_plain : manifest_of (plain_disk bytes) ≡ recorded (manifest bytes x_source [])
    told_plain = told one_mod x_source 3 bytes [] plain_off plain_turned second

    plain_lies : (x : Spot) (n : ℕ) → lies (desk (plain_disk bytes)) x ≡ file n → IsFileOf x_source x
    plain_lies = lies_at one_mod x_source 3 bytes [] plain_off plain_turned second

    made_anew : row_by (based_disk bytes) (win x_source) (row_at (row bytes below_base ∷ []) (names_of x_source)) ∷ [] ≡ row bytes x_source ∷ []
    unfolding row_at spot_eq
    made_anew = refl

    row_remade : row bytes x_source ∷ [] ≡ map (won_row (based_disk bytes)) (wins x_source)
    row_remade = sym (ap (λ rows. row_by (based_disk bytes) (win x_source) (row_at rows (names_of x_source)) ∷ []) (ap rows_of told_based) ∙ made_anew)

    found_rewon : (p : Names) → (if names_eq (names_of x_source) p then file 1 else none) ≡ won_file (based_disk bytes) (winner_of (wins x_source) p)
    unfolding spot_eq
    found_rewon p = by_test (names_eq (names_of x_source) p)
      where
        by_test : (t : Bool) → (if t then file 1 else none) ≡ won_file (based_disk bytes) (if t then Some (win x_source) else None)
        by_test true = refl
        by_test false = refl

    no_need : (s : Spot) → ¬ IsNeeded (based_disk bytes) (desk (plain_disk bytes)) s
    no_need s h = let t : true ≡ false = sym (with_bin-mod s (above_in_plain h.place s (plain_lies h.place h.number h.there) h.below)) ∙ h.missing in cc

    was_own : (s : Spot) → IsOwn (based_disk bytes) s → s ≡ bin
    was_own s o = o.here ∙ ap game_spot (only_bin o.path (subst (λ m. Contains (own_of m) o.path) told_based o.listed))

    own_was : (s : Spot) → IsOwnOrNeeded (based_disk bytes) (desk (plain_disk bytes)) s → s ≡ bin
    own_was s (inl o) = was_own s o
    own_was s (inr h) = absurd (no_need s h.1)

    nothing_below : (r : Root) (p : Names) → r ≡ Game → names_of x_source ≢ p → lies_by (desk (plain_disk bytes)) r p ≡ none
    nothing_below Game p e ne =
        ap (λ rows. lies_in_game (desk (plain_disk bytes)) p (row_at rows p) (row_behind rows p)) (rows_are one_mod x_source 3 bytes [] plain_off plain_turned second)
        ∙ lies_off one_mod x_source 3 bytes [] plain_off plain_turned second p ne
    nothing_below Stage p e ne = absurd (cc)
    nothing_below Keep p e ne = refl

    -- the base's folder goes
    bin_goes : Goes (based_disk bytes) (desk (plain_disk bytes)) bin
    bin_goes = record {
      own = inl (record { path = codes "bin"; listed = subst (λ m. Contains (own_of m) (codes "bin")) (sym told_based) (contains_here (codes "bin") []); here = refl; is_there = is_bin });
      no_value = λ x b. nothing_below x.root x.names b.root (λ e. empty [] b.name b.rest (tail_is (codes "x.txt") (codes "bin") [] (b.name ∷ b.rest) (e ∙ b.names)));
      no_folder = λ x b. elim_there x b;
    }
      where
        elim_there : (x : Spot) → IsBelow bin x → (with_bin x ≡ true) ⊎ IsNeeded (based_disk bytes) (desk (plain_disk bytes)) x → IsOwnOrNeeded (based_disk bytes) (desk (plain_disk bytes)) x
        elim_there x b (inr needed) = absurd (no_need x needed)
        elim_there x b (inl there) = absurd (no_folder_below x b there)

    plain_folders : FolderRule (based_disk bytes) (desk (plain_disk bytes))
    plain_folders s = (
      λ h. (h.0, inl (with_bin-mod s h.1), λ goes. let t : true ≡ false = sym h.1 ∙ ap one_mod (own_was s goes.own) ∙ no_bin in absurd (cc)),
      λ h. (
        h.0,
        elim h.1 [
          | inl there ↦ elim (bin_or_mod s there) [ inl is ↦ absurd (h.2 (subst (Goes (based_disk bytes) (desk (plain_disk bytes))) (sym is) bin_goes)) | inr in_one ↦ in_one ]
          | inr needed ↦ absurd (no_need s needed)
        ],
      ),
    )

    plain_own : OwnRule (based_disk bytes) (desk (plain_disk bytes))
    unfolding IsStrictlySortedBy
    plain_own = record {
      folders = λ path. (
        λ c. absurd (contains_none path (subst (λ m. Contains (own_of m) path) told_plain c)),
        λ h. absurd (h.1 (subst (Goes (based_disk bytes) (desk (plain_disk bytes))) (sym (own_was (game_spot path) h.0)) bin_goes)),
      );
      order = subst (λ m. IsStrictlySortedBy (slice_cmp nat_cmp) (own_of m)) (sym told_plain) tt;
    }

    plain_both : (p : Names) → (desk (plain_disk bytes)).plain p ≡ (desk (based_disk bytes)).plain p
    plain_both p = plain_is one_mod x_source 3 bytes [] plain_off plain_turned second p ∙ sym (plain_is with_bin below_base 2 bytes (codes "bin" ∷ []) off turned first p)

    -- the next deployment, with no base: another row, and the base's folder is gone
    pub base-taken_off : Deployed (based_disk bytes) (wins x_source) (desk (plain_disk bytes))
    base-taken_off = record {
      plain = λ i p. plain_both p i;
      manifest = manifest bytes x_source [];
      is_manifest = told_plain;
      rows = row_remade;
      found = λ p. found_is one_mod x_source 3 bytes [] plain_off plain_turned second p ∙ found_rewon p;
      staged = λ i p. (staged_is one_mod x_source 3 bytes [] plain_off plain_turned p ∙ sym (staged_is with_bin below_base 2 bytes (codes "bin" ∷ []) off turned p)) i;
      aside = λ i p. (aside_is one_mod x_source 3 bytes [] plain_off plain_turned p ∙ sym (aside_is with_bin below_base 2 bytes (codes "bin" ∷ []) off turned p)) i;
      profile = no_profile one_mod x_source 3 bytes [] plain_off plain_turned ∙ sym (no_profile with_bin below_base 2 bytes (codes "bin" ∷ []) off turned);
      folders = plain_folders;
      own = plain_own;
      bytes = λ n named. refl;
    }
