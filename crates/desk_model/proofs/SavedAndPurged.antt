-- A worked case: a game file is saved to its backup by a deployment, and a purge brings it back.
use Rattle.std.proofs.Common.{◌≡◌, ◌≢◌, ◌⊎◌, ℕ, Bool, true, false, ◌||◌, if◌then◌else◌, List, [], ◌∷◌, ◌++◌, map, codes, refl, sym, ap, ◌∙◌, inl, inr, subst}
use Rattle.std.specs.declared.option.Option.TheVariants.{None, Some}
use Rattle.sha2.specs.Sha256.{sha256}
use Rattle.rel_paths.specs.Names.{names_of, backup_names}
use Rattle.tree_fs.specs.declared.place.Root.{Root}
use Rattle.tree_fs.specs.declared.place.Root.TheVariants.{Stage, Game, Keep}
use Rattle.tree_fs.specs.Spot.{Spot, spot_eq, root_spot, IsBelow}
use Rattle.tree_fs.specs.Places.{mod_spot}
use Rattle.tree_fs.specs.Disk.{Disk, Value, none, file}
use Rattle.tree_fs.proofs.Spots.{spot_eq_tells}
use Rattle.manifest_json.specs.declared.manifest.Row.{Row}
use Rattle.manifest_json.specs.declared.manifest.Manifest.{Manifest}
use Rattle.manifest_json.specs.Manifests.{manifest_value}
use Rattle.desk_model.specs.Places.{Names, names_eq, in_game, in_stage, manifest_spot, in_aside}
use Rattle.desk_model.specs.Desk.{without_manifest, plain, plain_by, found, found_by, desk}
use Rattle.desk_model.specs.Records.{nothing, recorded, rows_of, own_of, read_as, manifest_of, row_at, row_behind}
use Rattle.desk_model.specs.Folders.{lies_in_game, lies_by, lies}
use Rattle.desk_model.specs.Deployed.{Win, Deployed, winner_of, won_file, won_row}
use Rattle.desk_model.specs.Purged.{Purged, purged_aside, stands_over, saved_of}
use Rattle.backup_keep.specs.Origins.{origin_of}
use Rattle.desk_model.specs.Settled.{set_aside}
use Rattle.desk_model.proofs.Agreeing.{without-agree}
use Rattle.desk_model.proofs.Cases.{names_off, names_tell, spot_off, nothing_there, empty, tail_is, head_is, folders-stay, own-stays}
use Rattle.std.specs.declared.option.Option.{Option}

abbrev pub x_path : List ℕ
x_path = codes "x.txt"

abbrev pub x_name : Names
x_name = codes "x.txt" ∷ []

abbrev pub x_behind : Names
x_behind = codes "x.txt.vortex_backup" ∷ []

abbrev pub x_staged : Names
x_staged = codes "b" ∷ codes "x.txt" ∷ []

one_name : names_of x_path ≡ x_name
one_name = refl

-- before: the game's own file 1, and the staged file 2
abbrev pub now_before : Spot → Value
now_before s = if spot_eq s (in_game x_name) then file 1 else if spot_eq s (in_stage x_staged) then file 2 else none

-- what is found, the staged file, the game's own file behind, and the manifest, file 3
abbrev pub now_over : Value → Spot → Value
now_over f s =
    if spot_eq s (in_game x_name) then f else if spot_eq s (in_stage x_staged) then file 2 else if spot_eq s (in_game x_behind) then file 1 else if spot_eq s manifest_spot then file 3 else none

-- deployed: the staged file at both places
abbrev pub now_deployed : Spot → Value
now_deployed = now_over (file 2)

abbrev pub folders_there : Spot → Bool
folders_there s = spot_eq s (root_spot Stage) || spot_eq s (root_spot Game) || spot_eq s (root_spot Keep) || spot_eq s (mod_spot (codes "b"))

abbrev pub before : (ℕ → List ℕ) → Disk
before bytes = record { folders = folders_there; now = now_before; before = λ s. []; bytes = bytes; firm = λ n. true; fresh = 5 }

abbrev pub over : Value → (ℕ → List ℕ) → Disk
over f bytes = record { folders = folders_there; now = now_over f; before = λ s. []; bytes = bytes; firm = λ n. true; fresh = 5 }

abbrev pub deployed : (ℕ → List ℕ) → Disk
deployed bytes = over (file 2) bytes

abbrev pub row : (ℕ → List ℕ) → Row
row bytes = record { path = x_path; mod_id = codes "b"; source = x_path; digest = record { bytes = sha256 (bytes 2) }; shadowed = true }

abbrev pub the_manifest : (ℕ → List ℕ) → Manifest
the_manifest bytes = record { rows = row bytes ∷ []; folders = [] }

abbrev pub wins : List Win
wins = record { path = x_path; mod_id = codes "b"; source = x_path } ∷ []

-- a path of the game is that of the file, that of its backup, or another
pub data Which (p : Names) : Type 0 where
  its_path : x_name ≡ p → Which p
  its_backup : x_behind ≡ p → Which p
  another : x_name ≢ p → x_behind ≢ p → Which p

pub which : (p : Names) → Which p
which p = elim (names_tell x_name p) [ inl is ↦ its_path is | inr ne ↦ elim (names_tell x_behind p) [ inl is ↦ its_backup is | inr other ↦ another ne other ] ]

module _ (p : Names) (ne : x_name ≢ p) (other : x_behind ≢ p) where
  off_game : spot_eq (in_game p) (in_game x_name) ≡ false
  off_game = spot_off Game p x_name (λ e. ne (sym e))

  off_behind : spot_eq (in_game p) (in_game x_behind) ≡ false
  off_behind = spot_off Game p x_behind (λ e. other (sym e))

  off_stage : spot_eq (in_game p) (in_stage x_staged) ≡ false
  unfolding spot_eq
  off_stage = refl

  before_none : without_manifest now_before (in_game p) ≡ none
  before_none = without-agree now_before (λ x. none) (in_game p) (λ apart. λ i. if off_game i then file 1 else if off_stage i then file 2 else none) ∙ nothing_there (in_game p)

  over_none : (f : Value) → without_manifest (now_over f) (in_game p) ≡ none
  over_none f = without-agree (now_over f) (λ x. none) (in_game p) (λ apart. let m : spot_eq (in_game p) manifest_spot ≡ false = elim (spot_eq_tells (in_game p) manifest_spot) [ inl s ↦ absurd (apart s.1) | inr s ↦ s.0 ] in λ i. if off_game i then f else if off_stage i then file 2 else if off_behind i then file 1 else if m i then file 3 else none) ∙ nothing_there (in_game p)

-- Folders

above_game : (one name : List ℕ) (rest : Names) (r : Root) (ns : Names) → Game ≡ r → one ∷ [] ≡ ns ++ name ∷ rest → folders_there (record { root = r; names = ns }) ≡ true
unfolding spot_eq
above_game one name rest Game [] e f = refl
above_game one name rest Game (y ∷ ys) e f = absurd (empty ys name rest (tail_is one y [] (ys ++ name ∷ rest) f))
above_game one name rest Stage ns e f = absurd (cc)
above_game one name rest Keep ns e f = absurd (cc)

above_stage : (name : List ℕ) (rest : Names) (r : Root) (ns : Names) → Stage ≡ r → x_staged ≡ ns ++ name ∷ rest → folders_there (record { root = r; names = ns }) ≡ true
unfolding spot_eq
above_stage name rest Stage [] e f = refl
above_stage name rest Stage (y ∷ []) e f = subst (λ z. folders_there (record { root = Stage; names = z ∷ [] }) ≡ true) (head_is (codes "b") y _ _ f) refl
above_stage name rest Stage (y ∷ z ∷ zs) e f = absurd (empty zs name rest (tail_is (codes "x.txt") z [] (zs ++ name ∷ rest) (tail_is (codes "b") y (codes "x.txt" ∷ []) (z ∷ (zs ++ name ∷ rest)) f)))
above_stage name rest Game ns e f = absurd (cc)
above_stage name rest Keep ns e f = absurd (cc)

abbrev pub OneOfThree : Spot → Type 0
OneOfThree x = (x ≡ in_game x_name) ⊎ (x ≡ in_game x_behind) ⊎ (x ≡ in_stage x_staged)

pub above : (x s : Spot) → OneOfThree x → IsBelow s x → folders_there s ≡ true
above x s (inl is) b = let c = subst (IsBelow s) is b in above_game (codes "x.txt") c.name c.rest s.root s.names c.root c.names
above x s (inr (inl is)) b = let c = subst (IsBelow s) is b in above_game (codes "x.txt.vortex_backup") c.name c.rest s.root s.names c.root c.names
above x s (inr (inr is)) b = let c = subst (IsBelow s) is b in above_stage c.name c.rest s.root s.names c.root c.names

module _ (bytes : ℕ → List ℕ) (is_text : manifest_value (bytes 3) ≡ Some (the_manifest bytes)) where
  pub told_before : manifest_of (before bytes) ≡ nothing
  unfolding spot_eq
  told_before = refl

  pub told_over : (f : Value) → manifest_of (over f bytes) ≡ recorded (the_manifest bytes)
  unfolding spot_eq
  told_over f = ap (read_as (bytes 3)) is_text

  pub told_deployed : manifest_of (deployed bytes) ≡ recorded (the_manifest bytes)
  told_deployed = told_over (file 2)

  -- the game folder without mods is the same
  plain_at : (f : Value) (p : Names) → Which p → plain (row bytes ∷ []) (without_manifest (now_over f)) p ≡ plain [] (without_manifest now_before) p
  unfolding plain row_at row_behind without_manifest spot_eq
  plain_at f p (its_path is) = subst (λ q. plain (row bytes ∷ []) (without_manifest (now_over f)) q ≡ plain [] (without_manifest now_before) q) is refl
  plain_at f p (its_backup is) = subst (λ q. plain (row bytes ∷ []) (without_manifest (now_over f)) q ≡ plain [] (without_manifest now_before) q) is refl
  plain_at f p (another ne other) =
      (λ i. plain_by (if names_off x_name p ne i then Some (row bytes) else None) (if names_off x_behind p other i then Some (row bytes) else None) (over_none p ne other f i) (without_manifest (now_over f) (in_game (backup_names p))))
      ∙ sym (before_none p ne other)

  pub plain_over : (f : Value) (p : Names) → (desk (over f bytes)).plain p ≡ (desk (before bytes)).plain p
  plain_over f p =
      ap (λ m. plain (rows_of m) (without_manifest (now_over f)) p) (told_over f) ∙ plain_at f p (which p)
      ∙ sym (ap (λ m. plain (rows_of m) (without_manifest now_before) p) told_before)

  pub plain_same : (p : Names) → (desk (deployed bytes)).plain p ≡ (desk (before bytes)).plain p
  plain_same p = plain_over (file 2) p

  found_at : (p : Names) → Which p → found (row bytes ∷ []) (without_manifest now_deployed) p ≡ won_file (before bytes) (winner_of wins p)
  unfolding found row_at without_manifest spot_eq
  found_at p (its_path is) = subst (λ q. found (row bytes ∷ []) (without_manifest now_deployed) q ≡ won_file (before bytes) (winner_of wins q)) is refl
  found_at p (its_backup is) = subst (λ q. found (row bytes ∷ []) (without_manifest now_deployed) q ≡ won_file (before bytes) (winner_of wins q)) is refl
  found_at p (another ne other) =
      (λ i. found_by (if names_off x_name p ne i then Some (row bytes) else None) (without_manifest now_deployed (in_game p)))
      ∙ sym (λ i. won_file (before bytes) (if names_off x_name p ne i then Some (record { path = x_path; mod_id = codes "b"; source = x_path }) else None))

  staged_same : (desk (deployed bytes)).staged ≡ (desk (before bytes)).staged
  unfolding without_manifest spot_eq
  staged_same = refl

  aside_at : (p : Names) → (desk (deployed bytes)).aside p ≡ (desk (before bytes)).aside p
  unfolding without_manifest spot_eq
  aside_at [] = refl
  aside_at (n ∷ ns) = refl

  profile_same : (desk (deployed bytes)).profile ≡ (desk (before bytes)).profile
  unfolding spot_eq
  profile_same = refl

  -- where files lie
  lies_staged : (p : Names) (n : ℕ) → (desk (before bytes)).staged p ≡ file n → OneOfThree (in_stage p)
  unfolding without_manifest spot_eq
  lies_staged p n e = elim (names_tell x_staged p) [
    | inl is ↦ inr (inr (ap in_stage (sym is)))
    | inr ne ↦ let off : names_eq p x_staged ≡ false = names_off p x_staged (λ h. ne (sym h)) in let t : none ≡ file n = sym (λ i. if off i then file 2 else none) ∙ e in absurd (cc)
  ]

  plain_none : (p : Names) → x_name ≢ p → x_behind ≢ p → (desk (before bytes)).plain p ≡ none
  unfolding plain row_at row_behind spot_eq
  plain_none p ne other = before_none p ne other

  lies_before : (x : Spot) (n : ℕ) → lies (desk (before bytes)) x ≡ file n → OneOfThree x
  unfolding row_at row_behind spot_eq
  lies_before x n e = by_root x.root x.names e
    where
      by_root : (r : Root) (p : Names) → lies_by (desk (before bytes)) r p ≡ file n → OneOfThree (record { root = r; names = p })
      by_root Stage p is = lies_staged p n is
      by_root Keep p is = absurd (cc)
      by_root Game p is = elim (which p) [
        | its_path here ↦ inl (ap in_game (sym here))
        | its_backup here ↦ inr (inl (ap in_game (sym here)))
        | another ne other ↦ let t : none ≡ file n = sym (plain_none p ne other) ∙ is in absurd (cc)
      ]

  elsewhere : (p : Names) → x_name ≢ p → x_behind ≢ p → lies_in_game (desk (deployed bytes)) p (row_at (row bytes ∷ []) p) (row_behind (row bytes ∷ []) p) ≡ none
  unfolding row_at row_behind
  elsewhere p ne other =
      (λ i. lies_in_game (desk (deployed bytes)) p (if names_off x_name p ne i then Some (row bytes) else None) (if names_off x_behind p other i then Some (row bytes) else None))
      ∙ plain_same p ∙ plain_none p ne other

  lies_deployed : (x : Spot) (n : ℕ) → lies (desk (deployed bytes)) x ≡ file n → OneOfThree x
  lies_deployed x n e = by_root x.root x.names e
    where
      by_root : (r : Root) (p : Names) → lies_by (desk (deployed bytes)) r p ≡ file n → OneOfThree (record { root = r; names = p })
      by_root Stage p is = lies_staged p n (ap (λ f. f p) (sym staged_same) ∙ is)
      by_root Keep p is = absurd (cc)
      by_root Game p is = elim (which p) [
        | its_path here ↦ inl (ap in_game (sym here))
        | its_backup here ↦ inr (inl (ap in_game (sym here)))
        | another ne other ↦
            let told = ap (λ m. lies_in_game (desk (deployed bytes)) p (row_at (rows_of m) p) (row_behind (rows_of m) p)) told_deployed in
            let t : none ≡ file n = sym (told ∙ elsewhere p ne other) ∙ is in absurd (cc)
      ]

  pub above_before : (x s : Spot) (n : ℕ) → lies (desk (before bytes)) x ≡ file n → IsBelow s x → folders_there s ≡ true
  above_before x s n there below = above x s (lies_before x n there) below

  above_deployed : (x s : Spot) (n : ℕ) → lies (desk (deployed bytes)) x ≡ file n → IsBelow s x → folders_there s ≡ true
  above_deployed x s n there below = above x s (lies_deployed x n there) below

  made : (the_manifest bytes).rows ≡ map (won_row (before bytes)) wins
  unfolding row_at spot_eq
  made = refl

  -- the deployment: the original is at the backup place, `shadowed` is true
  pub saved-deployed : Deployed (before bytes) wins (desk (deployed bytes))
  saved-deployed = record {
    plain = λ i p. plain_same p i;
    manifest = the_manifest bytes;
    is_manifest = told_deployed;
    rows = made;
    found = λ p. ap (λ m. found (rows_of m) (without_manifest now_deployed) p) told_deployed ∙ found_at p (which p);
    staged = staged_same;
    aside = λ i p. aside_at p i;
    profile = profile_same;
    folders = folders-stay (before bytes) (desk (deployed bytes)) (ap own_of told_before) above_deployed (λ s. (λ h. h, λ h. h));
    own = own-stays (before bytes) (desk (deployed bytes)) (ap own_of told_before) above_deployed (ap own_of told_deployed);
    bytes = λ n named. refl;
  }

  stays_linked : stands_over (deployed bytes) (row bytes) ≡ false
  unfolding spot_eq
  stays_linked = refl

  aside_row : (there : Value) (p : Names) → Which p → set_aside (deployed bytes) (stands_over (deployed bytes)) (in_game p) there (row_at (row bytes ∷ []) p) ≡ there
  unfolding row_at
  aside_row there p (its_path is) = subst (λ q. set_aside (deployed bytes) (stands_over (deployed bytes)) (in_game q) there (row_at (row bytes ∷ []) q) ≡ there) is (ap (λ b. if b then (deployed bytes).now (in_game x_name) else there) stays_linked)
  aside_row there p (its_backup is) = subst (λ q. set_aside (deployed bytes) (stands_over (deployed bytes)) (in_game q) there (row_at (row bytes ∷ []) q) ≡ there) is refl
  aside_row there p (another ne other) = λ i. set_aside (deployed bytes) (stands_over (deployed bytes)) (in_game p) there (if names_off x_name p ne i then Some (row bytes) else None)

  saved_stays : (there : Value) (r : Root) (p : Names) → saved_of (deployed bytes) there r p ≡ there
  saved_stays there Stage p = refl
  saved_stays there Keep p = refl
  saved_stays there Game p = ap (λ m. set_aside (deployed bytes) (stands_over (deployed bytes)) (in_game p) there (row_at (rows_of m) p)) told_deployed ∙ aside_row there p (which p)

  aside_stays : (there : Value) (o : Option Spot) → purged_aside (deployed bytes) there o ≡ there
  aside_stays there None = refl
  aside_stays there (Some x) = saved_stays there x.root x.names

  nothing_found : (p : Names) → (desk (before bytes)).found p ≡ none
  unfolding found row_at spot_eq
  nothing_found p = refl

  -- the purge: the original is at its path again, no backup, no manifest
  pub saved-purged : Purged (deployed bytes) (desk (before bytes))
  saved-purged = record {
    plain = λ i p. sym (plain_same p) i;
    manifest = told_before;
    found = nothing_found;
    staged = sym staged_same;
    aside = λ n next p. sym (aside_at p) ∙ sym (aside_stays ((desk (deployed bytes)).aside p) (origin_of n (in_aside p)));
    profile = sym profile_same;
    folders = folders-stay (deployed bytes) (desk (before bytes)) (ap own_of told_deployed) above_before (λ s. (λ h. h, λ h. h));
    bytes = λ n named. refl;
  }
