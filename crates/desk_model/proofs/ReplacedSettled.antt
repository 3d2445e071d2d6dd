-- A worked case: others replaced a deployed file. A settlement sets the found file aside, imports it,
-- or gives it up.
use Rattle.std.proofs.Common.{◌≡◌, ◌≢◌, ◌⊎◌, ◌↔◌, ℕ, Bool, true, false, ◌&&◌, ◌||◌, if◌then◌else◌, List, [], ◌∷◌, ◌++◌, map, codes, refl, sym, ap, ◌∙◌, inl, inr, subst}
use Rattle.std.specs.Str.{bytes_eq}
use Rattle.std.specs.Fmt.{decimal}
use Rattle.std.specs.List.{Contains}
use Rattle.std.specs.declared.option.Option.TheVariants.{None, Some}
use Rattle.sha2.specs.Sha256.{sha256}
use Rattle.rel_paths.specs.Names.{backup_names}
use Rattle.tree_fs.specs.declared.name.Kind.TheVariants.{Absent}
use Rattle.tree_fs.specs.declared.place.Root.{Root}
use Rattle.tree_fs.specs.declared.place.Root.TheVariants.{Stage, Game, Keep}
use Rattle.tree_fs.specs.Spot.{Spot, spot_eq, root_spot, IsBelow}
use Rattle.tree_fs.specs.Places.{mod_spot, game_spot}
use Rattle.tree_fs.specs.Disk.{Disk, Value, none, file, odd, IsValid, kind_at, kind_of}
use Rattle.tree_fs.proofs.Spots.{spot_eq_tells}
use Rattle.tree_fs.proofs.Lists.{contains_here, contains_cases, contains_none}
use Rattle.manifest_json.specs.declared.manifest.Row.{Row}
use Rattle.manifest_json.specs.declared.manifest.Manifest.{Manifest}
use Rattle.manifest_json.specs.Manifests.{manifest_value}
use Rattle.manifest_json.specs.Apart.{HasApartPaths, HasApartSources}
use Rattle.desk_model.specs.Places.{Names, names_eq, in_game, in_stage, in_aside, manifest_spot, IsUsers}
use Rattle.desk_model.specs.Desk.{without_manifest, file_or_none, plain, plain_by, found, found_by, desk, SameDesk}
use Rattle.desk_model.specs.Records.{recorded, rows_of, own_of, read_as, manifest_of, row_at, row_behind, rows_on, row_staged}
use Rattle.desk_model.specs.Folders.{lies_in_game, lies_by, lies}
use Rattle.change_choices.specs.declared.class.Class.{Class}
use Rattle.change_choices.specs.declared.class.Class.TheVariants.{Replaced, Changed, Deleted, SourceDeleted, Gone}
use Rattle.change_choices.specs.declared.action.Action.{Action}
use Rattle.change_choices.specs.declared.action.Action.TheVariants.{Aside, Import, Revert, Restore, Drop}
use Rattle.change_choices.specs.declared.action.Action.TheVariants as action
use Rattle.change_choices.specs.Allowed.{is_allowed}
use Rattle.std.specs.declared.option.Option.{Option}
use Rattle.backup_keep.specs.Asides.{IsNextAside}
use Rattle.desk_model.specs.Settled.{Choice, Deed, imported, reverted, deed_by, deed_of, kept_by, kept_spot, value_at, settled_row, some_rows, settled_rows, settled_found, restages, settled_staged, set_aside, settled_aside, Settled, IsAllowed, deed_for, kept_of, put_aside, sets_found_aside, sets_staged_aside}
use Rattle.backup_keep.specs.Origins.{origin_of}
use Rattle.desk_model.specs.Standing.{IsOpen}
use Rattle.desk_model.proofs.SettledClean.{settled-clean}
use Rattle.desk_model.proofs.Agreeing.{without-agree}
use Rattle.desk_model.proofs.Cases.{names_off, names_tell, spot_off, asides-right, nothing_there, empty, tail_is, head_is, folders-stay, own-stays}
use Rattle.change_detect.specs.Classes.{staged_of, class_of}

abbrev x_path : List ℕ
x_path = codes "x.txt"

abbrev x_source : List ℕ
x_source = codes "x.txt"

abbrev x_name : Names
x_name = codes "x.txt" ∷ []

abbrev b_file : Names
b_file = codes "b" ∷ codes "x.txt" ∷ []

abbrev a_file : Names
a_file = codes "a" ∷ codes "x.txt" ∷ []

abbrev staged_aside : Names
staged_aside = codes "1" ∷ codes "stage" ∷ b_file

abbrev found_aside : Names
found_aside = codes "1" ∷ codes "game" ∷ x_name

-- the found file, the staged file, a file of a mod that doesn't win, the manifest, and what stands aside
abbrev now_with : (found staged : Value) (manifest : ℕ) (old_staged old_found : Value) → Spot → Value
now_with f s m v w x =
    if spot_eq x (in_game x_name) then f else if spot_eq x (in_stage b_file) then s else if spot_eq x (in_stage a_file) then file 1 else if spot_eq x manifest_spot then file m
    else if spot_eq x (in_aside staged_aside) then v else if spot_eq x (in_aside found_aside) then w else none

abbrev two_mods : Spot → Bool
two_mods s = spot_eq s (root_spot Stage) || spot_eq s (root_spot Game) || spot_eq s (root_spot Keep) || spot_eq s (mod_spot (codes "a")) || spot_eq s (mod_spot (codes "b"))

-- what lies in `keep/aside/1`
abbrev and_aside : Names → Spot → Bool
and_aside last s = spot_eq s (in_aside []) || spot_eq s (in_aside (codes "1" ∷ [])) || spot_eq s (in_aside (codes "1" ∷ last)) || two_mods s

abbrev disk_with : (Spot → Bool) → (found staged : Value) (manifest : ℕ) (old_staged old_found : Value) → (ℕ → List ℕ) → Disk
disk_with folders f s m v w bytes = record { folders = folders; now = now_with f s m v w; before = λ x. []; bytes = bytes; firm = λ n. true; fresh = 6 }

abbrev row : (ℕ → List ℕ) → ℕ → Row
row bytes k = record { path = x_path; mod_id = codes "b"; source = x_source; digest = record { bytes = sha256 (bytes k) }; shadowed = false }

abbrev manifest : (ℕ → List ℕ) → ℕ → Manifest
manifest bytes k = record { rows = row bytes k ∷ []; folders = [] }

-- others put the new file 4 at the game place; file 2 is the staged one still
abbrev pub replaced_disk : (ℕ → List ℕ) → Disk
replaced_disk bytes = disk_with two_mods (file 4) (file 2) 3 none none bytes

-- imported: the found file at both places, the old staged one aside
abbrev pub imported_disk : (ℕ → List ℕ) → Disk
imported_disk bytes = disk_with (λ s. spot_eq s (in_aside (codes "1" ∷ codes "stage" ∷ codes "b" ∷ [])) || and_aside (codes "stage" ∷ []) s) (file 4) (file 4) 5 (file 2) none bytes

-- set aside: the staged file at both places, the found file aside
abbrev pub put_aside_disk : (ℕ → List ℕ) → Disk
put_aside_disk bytes = disk_with (and_aside (codes "game" ∷ [])) (file 2) (file 2) 5 none (file 4) bytes

-- reverted: the staged file at both places, nothing aside but folders
abbrev pub reverted_disk : (ℕ → List ℕ) → Disk
reverted_disk bytes = disk_with (and_aside (codes "game" ∷ [])) (file 2) (file 2) 5 none none bytes

-- the choice of an action for what was replaced, and the usual one for the others
abbrev pub replaced_by : Action → Choice
replaced_by to path Replaced = to
replaced_by to path Changed = action.Keep
replaced_by to path Deleted = Restore
replaced_by to path SourceDeleted = Restore
replaced_by to path Gone = Drop

allowed_by : (to : Action) → is_allowed Replaced to ≡ true → IsAllowed (replaced_by to)
allowed_by to ok path Replaced = ok
allowed_by to ok path Changed = refl
allowed_by to ok path Deleted = refl
allowed_by to ok path SourceDeleted = refl
allowed_by to ok path Gone = refl

-- What these disks show

module _ (folders : Spot → Bool) (f s : Value) (m : ℕ) (v w : Value) (bytes : ℕ → List ℕ) (k : ℕ) where
  abbrev here : Disk
  here = disk_with folders f s m v w bytes

  told : manifest_value (bytes m) ≡ Some (manifest bytes k) → manifest_of here ≡ recorded (manifest bytes k)
  unfolding spot_eq
  told is_text = ap (read_as (bytes m)) is_text

  elsewhere_none : (p : Names) → x_name ≢ p → without_manifest (now_with f s m v w) (in_game p) ≡ none
  unfolding spot_eq
  elsewhere_none p ne =
      without-agree (now_with f s m v w) (λ x. none) (in_game p) (λ apart.
      let off : spot_eq (in_game p) (in_game x_name) ≡ false = spot_off Game p x_name (λ e. ne (sym e)) in
      let m_off : spot_eq (in_game p) manifest_spot ≡ false = elim (spot_eq_tells (in_game p) manifest_spot) [ inl t ↦ absurd (apart t.1) | inr t ↦ t.0 ] in
      λ i. if off i then f else if m_off i then file m else none)
      ∙ nothing_there (in_game p)

  plain_row : (p : Names) → plain (row bytes k ∷ []) (without_manifest (now_with f s m v w)) p ≡ none
  unfolding plain row_at row_behind
  plain_row p = elim (names_tell x_name p) [
    | inl is ↦ subst (λ q. plain (row bytes k ∷ []) (without_manifest (now_with f s m v w)) q ≡ none) is refl
    | inr ne ↦ (λ i. plain_by (if names_off x_name p ne i then Some (row bytes k) else None) None (elsewhere_none p ne i) (without_manifest (now_with f s m v w) (in_game (backup_names p))))
  ]

  found_row : (p : Names) → found (row bytes k ∷ []) (without_manifest (now_with f s m v w)) p ≡ (if names_eq x_name p then file_or_none f else none)
  unfolding found row_at without_manifest spot_eq
  found_row p = elim (names_tell x_name p) [
    | inl is ↦ subst (λ q. found (row bytes k ∷ []) (without_manifest (now_with f s m v w)) q ≡ (if names_eq x_name q then file_or_none f else none)) is refl
    | inr ne ↦ (λ i. found_by (if names_off x_name p ne i then Some (row bytes k) else None) (without_manifest (now_with f s m v w) (in_game p))) ∙ sym (λ i. if names_off x_name p ne i then file_or_none f else none)
  ]

  staged_is : (p : Names) → (desk here).staged p ≡ (if names_eq p b_file then s else if names_eq p a_file then file 1 else none)
  unfolding without_manifest spot_eq
  staged_is p = refl

  aside_is : (p : Names) → (desk here).aside p ≡ (if names_eq p staged_aside then v else if names_eq p found_aside then w else none)
  unfolding without_manifest spot_eq
  aside_is [] = refl
  aside_is (n ∷ ns) = refl

  no_profile : (desk here).profile ≡ None
  unfolding spot_eq
  no_profile = refl

  module _ (is_text : manifest_value (bytes m) ≡ Some (manifest bytes k)) where
    rows_are : rows_on here ≡ row bytes k ∷ []
    rows_are = ap rows_of (told is_text)

    plain_is : (p : Names) → (desk here).plain p ≡ none
    plain_is p = ap (λ rows. plain rows (without_manifest (now_with f s m v w)) p) rows_are ∙ plain_row p

    found_is : (p : Names) → (desk here).found p ≡ (if names_eq x_name p then file_or_none f else none)
    found_is p = ap (λ rows. found rows (without_manifest (now_with f s m v w)) p) rows_are ∙ found_row p

-- Where files lie

data IsFileOf (x : Spot) : Type 0 where
  at_game : in_game x_name ≡ x → IsFileOf x
  at_b : in_stage b_file ≡ x → IsFileOf x
  at_a : in_stage a_file ≡ x → IsFileOf x

above_game : (name : List ℕ) (rest : Names) (r : Root) (ns : Names) → r ≡ Game → x_name ≡ ns ++ name ∷ rest → two_mods (record { root = r; names = ns }) ≡ true
unfolding spot_eq
above_game name rest Game [] e h = refl
above_game name rest Game (y ∷ ys) e h = absurd (empty ys name rest (tail_is (codes "x.txt") y [] (ys ++ name ∷ rest) h))
above_game name rest Stage ns e h = absurd (cc)
above_game name rest Keep ns e h = absurd (cc)

above_stage : (id : List ℕ) → two_mods (mod_spot id) ≡ true → (name : List ℕ) (rest : Names) (r : Root) (ns : Names) → r ≡ Stage → id ∷ x_name ≡ ns ++ name ∷ rest → two_mods (record { root = r; names = ns }) ≡ true
unfolding spot_eq
above_stage id there name rest Stage [] e h = refl
above_stage id there name rest Stage (y ∷ []) e h = subst (λ z. two_mods (mod_spot z) ≡ true) (head_is id y x_name (name ∷ rest) h) there
above_stage id there name rest Stage (y ∷ z ∷ zs) e h =
    absurd (empty zs name rest (tail_is (codes "x.txt") z [] (zs ++ name ∷ rest) (tail_is id y x_name (z ∷ (zs ++ name ∷ rest)) h)))
above_stage id there name rest Game ns e h = absurd (cc)
above_stage id there name rest Keep ns e h = absurd (cc)

mod_there : (id : List ℕ) → (id ≡ codes "a") ⊎ (id ≡ codes "b") → two_mods (mod_spot id) ≡ true
unfolding spot_eq
mod_there id (inl is) = subst (λ z. two_mods (mod_spot z) ≡ true) (sym is) refl
mod_there id (inr is) = subst (λ z. two_mods (mod_spot z) ≡ true) (sym is) refl

above : (x s : Spot) → IsFileOf x → IsBelow s x → two_mods s ≡ true
above x s (at_game is) b = let c = subst (IsBelow s) (sym is) b in above_game c.name c.rest s.root s.names (sym c.root) c.names
above x s (at_b is) b = let c = subst (IsBelow s) (sym is) b in above_stage (codes "b") (mod_there (codes "b") (inr refl)) c.name c.rest s.root s.names (sym c.root) c.names
above x s (at_a is) b = let c = subst (IsBelow s) (sym is) b in above_stage (codes "a") (mod_there (codes "a") (inl refl)) c.name c.rest s.root s.names (sym c.root) c.names

module _ (folders : Spot → Bool) (f s : Value) (m : ℕ) (v w : Value) (bytes : ℕ → List ℕ) (k : ℕ) (is_text : manifest_value (bytes m) ≡ Some (manifest bytes k)) where
  lies_in_stage : (p : Names) (n : ℕ) → (desk (here folders f s m v w bytes k)).staged p ≡ file n → IsFileOf (in_stage p)
  lies_in_stage p n e = elim (names_tell b_file p) [
    | inl is ↦ at_b (ap in_stage is)
    | inr not_b ↦ elim (names_tell a_file p) [
      | inl is ↦ at_a (ap in_stage is)
      | inr not_a ↦
          let b_off = names_off p b_file (λ h. not_b (sym h)) in
          let a_off = names_off p a_file (λ h. not_a (sym h)) in
          let t : none ≡ file n = sym (λ i. if b_off i then s else if a_off i then file 1 else none) ∙ sym (staged_is folders f s m v w bytes k p) ∙ e in absurd (cc)
    ]
  ]

  lies_off : (p : Names) → x_name ≢ p → lies_in_game (desk (here folders f s m v w bytes k)) p (row_at (row bytes k ∷ []) p) (row_behind (row bytes k ∷ []) p) ≡ none
  unfolding row_at row_behind
  lies_off p ne = (λ i. lies_in_game (desk (here folders f s m v w bytes k)) p (if names_off x_name p ne i then Some (row bytes k) else None) None) ∙ plain_is folders f s m v w bytes k is_text p

  lies_at : (x : Spot) (n : ℕ) → lies (desk (here folders f s m v w bytes k)) x ≡ file n → IsFileOf x
  lies_at x n e = by_root x.root x.names e
    where
      by_root : (r : Root) (p : Names) → lies_by (desk (here folders f s m v w bytes k)) r p ≡ file n → IsFileOf (record { root = r; names = p })
      by_root Stage p is = lies_in_stage p n is
      by_root Keep p is = absurd (cc)
      by_root Game p is = elim (names_tell x_name p) [
        | inl same ↦ at_game (ap in_game same)
        | inr ne ↦
            let rows = ap (λ rows. lies_in_game (desk (here folders f s m v w bytes k)) p (row_at rows p) (row_behind rows p)) (rows_are folders f s m v w bytes k is_text) in
            let t : none ≡ file n = sym (rows ∙ lies_off p ne) ∙ is in absurd (cc)
      ]

  above_each : (x q : Spot) (n : ℕ) → lies (desk (here folders f s m v w bytes k)) x ≡ file n → IsBelow q x → two_mods q ≡ true
  above_each x q n there below = above x q (lies_at x n there) below

-- Settled

nothing_aside : (bytes : ℕ → List ℕ) (k : ℕ) → kind_of (replaced_disk bytes) (in_aside (decimal k ∷ [])) ≡ Absent
unfolding spot_eq
nothing_aside bytes k = by_test (bytes_eq (decimal k) (codes "1"))
  where
    by_test : (t : Bool) → kind_at (if t && false then none else if t && false then none else none) ≡ Absent
    by_test true = refl
    by_test false = refl

one_aside : (bytes : ℕ → List ℕ) (n : ℕ) → IsNextAside (replaced_disk bytes) n → n ≡ 1
one_aside bytes n next = elim next.least [ inl is ↦ is | inr greatest ↦ absurd (greatest.1.1 (nothing_aside bytes greatest.0)) ]

-- a deed that gives the two names the file f, leaves the row with its digest, and puts v aside
module _ (choice : Choice) (deed : Deed) (f s v w : Value) (k : ℕ) (folders : Spot → Bool) (bytes : ℕ → List ℕ)
    (first : manifest_value (bytes 3) ≡ Some (manifest bytes 2)) (second : manifest_value (bytes 5) ≡ Some (manifest bytes k))
    (is_deed : deed_of choice (replaced_disk bytes) (row bytes 2) ≡ deed)
    (gives_row : settled_row (replaced_disk bytes) (row bytes 2) deed ≡ Some (row bytes k))
    (gives_found : value_at (replaced_disk bytes) (kept_spot (row bytes 2) (kept_by deed)) ≡ file_or_none f)
    (gives_staged : (if restages deed then file 4 else file 2) ≡ s)
    (gives_staged_aside : (if sets_staged_aside deed then file 2 else none) ≡ v)
    (gives_found_aside : (if sets_found_aside deed then file 4 else none) ≡ w)
    (users : (q : Spot) → IsUsers q.root → folders q ≡ two_mods q) where
  abbrev old : Disk
  old = replaced_disk bytes

  abbrev new : Disk
  new = here folders f s 5 v w bytes k

  old_rows : rows_on old ≡ row bytes 2 ∷ []
  old_rows = rows_are two_mods (file 4) (file 2) 3 none none bytes 2 first

  rows_made : row bytes k ∷ [] ≡ settled_rows choice old
  rows_made = sym (ap (λ rows. some_rows (map (λ r. settled_row old r (deed_of choice old r)) rows)) old_rows ∙ ap (λ d. some_rows (settled_row old (row bytes 2) d ∷ [])) is_deed ∙ ap (λ o. some_rows (o ∷ [])) gives_row)

  found_by_row : (p : Names) → settled_found choice old (row_at (row bytes 2 ∷ []) p) ≡ (if names_eq x_name p then file_or_none f else none)
  unfolding row_at
  found_by_row p = by_test (names_eq x_name p)
    where
      by_test : (t : Bool) → settled_found choice old (if t then Some (row bytes 2) else None) ≡ (if t then file_or_none f else none)
      by_test true = ap (λ d. value_at old (kept_spot (row bytes 2) (kept_by d))) is_deed ∙ gives_found
      by_test false = refl

  found_made : (p : Names) → (desk new).found p ≡ settled_found choice old (row_at (rows_on old) p)
  found_made p = found_is folders f s 5 v w bytes k second p ∙ sym (ap (λ rows. settled_found choice old (row_at rows p)) old_rows ∙ found_by_row p)

  staged_by_row : (p : Names) → settled_staged choice old ((desk old).staged p) (row_staged (row bytes 2 ∷ []) p) ≡ (if names_eq p b_file then s else if names_eq p a_file then file 1 else none)
  unfolding row_staged spot_eq without_manifest
  staged_by_row p = elim (names_tell b_file p) [
    | inl is ↦
        subst (λ q. settled_staged choice old ((desk old).staged q) (row_staged (row bytes 2 ∷ []) q) ≡ (if names_eq q b_file then s else if names_eq q a_file then file 1 else none)) is
        (ap (λ d. if restages d then file 4 else file 2) is_deed ∙ gives_staged)
    | inr ne ↦
        let off = names_off b_file p ne in
        let turned = names_off p b_file (λ h. ne (sym h)) in
        (λ i. settled_staged choice old ((desk old).staged p) (if off i then Some (row bytes 2) else None)) ∙ (λ i. if turned i then file 2 else if names_eq p a_file then file 1 else none) ∙ sym (λ i. if turned i then s else if names_eq p a_file then file 1 else none)
  ]

  staged_made : (p : Names) → (desk new).staged p ≡ settled_staged choice old ((desk old).staged p) (row_staged (rows_on old) p)
  staged_made p = staged_is folders f s 5 v w bytes k p ∙ sym (ap (λ rows. settled_staged choice old ((desk old).staged p) (row_staged rows p)) old_rows ∙ staged_by_row p)

  kept_game : (q : Names) → kept_of choice old none Game q ≡ (if names_eq q x_name then w else none)
  unfolding row_at spot_eq
  kept_game q = ap (λ rows. set_aside old (λ r. sets_found_aside (deed_of choice old r)) (in_game q) none (row_at rows q)) old_rows ∙ elim (names_tell x_name q) [
    | inl is ↦ subst (λ p. set_aside old (λ r. sets_found_aside (deed_of choice old r)) (in_game p) none (row_at (row bytes 2 ∷ []) p) ≡ (if names_eq p x_name then w else none)) is at_place
    | inr ne ↦
        let off = names_off x_name q ne in
        let turned = names_off q x_name (λ h. ne (sym h)) in
        (λ i. set_aside old (λ r. sets_found_aside (deed_of choice old r)) (in_game q) none (if off i then Some (row bytes 2) else None)) ∙ sym (λ i. if turned i then w else none)
  ]
    where
      at_place : (if sets_found_aside (deed_of choice old (row bytes 2)) then file 4 else none) ≡ w
      at_place = ap (λ d. if sets_found_aside d then file 4 else none) is_deed ∙ gives_found_aside

  kept_stage : (q : Names) → kept_of choice old none Stage q ≡ (if names_eq q b_file then v else none)
  unfolding row_staged spot_eq
  kept_stage q = ap (λ rows. set_aside old (λ r. sets_staged_aside (deed_of choice old r)) (in_stage q) none (row_staged rows q)) old_rows ∙ elim (names_tell b_file q) [
    | inl is ↦ subst (λ p. set_aside old (λ r. sets_staged_aside (deed_of choice old r)) (in_stage p) none (row_staged (row bytes 2 ∷ []) p) ≡ (if names_eq p b_file then v else none)) is at_place
    | inr ne ↦
        let off = names_off b_file q ne in
        let turned = names_off q b_file (λ h. ne (sym h)) in
        (λ i. set_aside old (λ r. sets_staged_aside (deed_of choice old r)) (in_stage q) none (if off i then Some (row bytes 2) else None)) ∙ sym (λ i. if turned i then v else none)
  ]
    where
      at_place : (if sets_staged_aside (deed_of choice old (row bytes 2)) then file 2 else none) ≡ v
      at_place = ap (λ d. if sets_staged_aside d then file 2 else none) is_deed ∙ gives_staged_aside

  abbrev kept_at : Names → Value
  kept_at p = if names_eq p staged_aside then v else if names_eq p found_aside then w else none

  aside_right : (p : Names) → settled_aside choice old none (origin_of 1 (in_aside p)) ≡ kept_at p
  aside_right p = asides-right b_file x_name v w (settled_aside choice old none) refl kept_stage kept_game (λ q. refl) p

  none_there : (p : Names) → (desk old).aside p ≡ none
  none_there p = aside_is two_mods (file 4) (file 2) 3 none none bytes 2 p ∙ by_test (names_eq p staged_aside) (names_eq p found_aside)
    where
      by_test : (t u : Bool) → (if t then none else if u then none else none) ≡ none
      by_test true u = refl
      by_test false true = refl
      by_test false false = refl

  aside_made : (n : ℕ) → IsNextAside old n → (p : Names) → (desk new).aside p ≡ settled_aside choice old ((desk old).aside p) (origin_of n (in_aside p))
  aside_made n next p =
      aside_is folders f s 5 v w bytes k p ∙ sym (aside_right p)
      ∙ sym (ap (λ there. settled_aside choice old there (origin_of n (in_aside p))) (none_there p) ∙ ap (λ number. settled_aside choice old none (origin_of number (in_aside p))) (one_aside bytes n next))

  settled_with : Settled old choice (desk new)
  settled_with = record {
    plain = λ i p. (plain_is folders f s 5 v w bytes k second p ∙ sym (plain_is two_mods (file 4) (file 2) 3 none none bytes 2 first p)) i;
    manifest = manifest bytes k;
    is_manifest = told folders f s 5 v w bytes k second;
    rows = rows_made;
    found = found_made;
    staged = staged_made;
    aside = aside_made;
    profile = no_profile folders f s 5 v w bytes k ∙ sym (no_profile two_mods (file 4) (file 2) 3 none none bytes 2);
    folders = folders-stay old (desk new) (ap own_of (told two_mods (file 4) (file 2) 3 none none bytes 2 first)) (above_each folders f s 5 v w bytes k second)
        (λ q. (λ h. (h.0, sym (users q h.0) ∙ h.1), λ h. (h.0, users q h.0 ∙ h.1)));
    own = own-stays old (desk new) (ap own_of (told two_mods (file 4) (file 2) 3 none none bytes 2 first)) (above_each folders f s 5 v w bytes k second) (ap own_of (told folders f s 5 v w bytes k second));
    bytes = λ n named. refl;
  }

abbrev class_read : (ℕ → List ℕ) → Option Class
class_read bytes = class_of (replaced_disk bytes) (row bytes 2)

pub is_replaced : (bytes : ℕ → List ℕ) → class_read bytes ≡ Some Replaced
unfolding class_of spot_eq
is_replaced bytes = refl

-- the next aside number is 1
pub next_aside : (bytes : ℕ → List ℕ) → IsNextAside (replaced_disk bytes) 1
next_aside bytes = record { above = λ k has. absurd (has.1 (free k)); least = inl refl }
  where
    free : (k : ℕ) → kind_of (replaced_disk bytes) (in_aside (decimal k ∷ [])) ≡ Absent
    free k = nothing_aside bytes k

module _ (bytes : ℕ → List ℕ) (before : manifest_value (bytes 3) ≡ Some (manifest bytes 2)) where
  is_deed : (to : Action) → deed_of (replaced_by to) (replaced_disk bytes) (row bytes 2) ≡ deed_by Replaced to
  is_deed to = ap (deed_for (replaced_by to x_path)) (is_replaced bytes)

  -- set aside: the staged file is linked again, the row is as before, and the found file stands aside
  pub replaced-set_aside : manifest_value (bytes 5) ≡ Some (manifest bytes 2) → Settled (replaced_disk bytes) (replaced_by Aside) (desk (put_aside_disk bytes))
  unfolding spot_eq
  replaced-set_aside after =
      settled_with (replaced_by Aside) put_aside (file 2) (file 2) none (file 4) 2 _ bytes before after (is_deed Aside) refl refl refl refl refl by_root_of
    where
      by_root_of : (q : Spot) → IsUsers q.root → (put_aside_disk bytes).folders q ≡ two_mods q
      by_root_of q users = at_root q.root q.names users
        where
          at_root : (r : Root) (ns : Names) → IsUsers r → (put_aside_disk bytes).folders (record { root = r; names = ns }) ≡ two_mods (record { root = r; names = ns })
          at_root Stage ns u = refl
          at_root Game ns u = refl
          at_root Keep ns u = absurd u

  -- the import: the found file is staged and linked, the row has its digest, the old staged file stands aside at `stage/<mod>/<source>`
  pub replaced-imported : manifest_value (bytes 5) ≡ Some (manifest bytes 4) → Settled (replaced_disk bytes) (replaced_by Import) (desk (imported_disk bytes))
  unfolding spot_eq
  replaced-imported after =
      settled_with (replaced_by Import) imported (file 4) (file 4) (file 2) none 4 _ bytes before after (is_deed Import) refl refl refl refl refl by_root
    where
      by_root : (q : Spot) → IsUsers q.root → (imported_disk bytes).folders q ≡ two_mods q
      by_root q users = at_root q.root q.names users
        where
          at_root : (r : Root) (ns : Names) → IsUsers r → (imported_disk bytes).folders (record { root = r; names = ns }) ≡ two_mods (record { root = r; names = ns })
          at_root Stage ns u = refl
          at_root Game ns u = refl
          at_root Keep ns u = absurd u

  -- the revert: the staged file is linked again, the row and what stands aside are as before
  pub replaced-reverted : manifest_value (bytes 5) ≡ Some (manifest bytes 2) → Settled (replaced_disk bytes) (replaced_by Revert) (desk (reverted_disk bytes))
  unfolding spot_eq
  replaced-reverted after =
      settled_with (replaced_by Revert) reverted (file 2) (file 2) none none 2 _ bytes before after (is_deed Revert) refl refl refl refl refl by_root
    where
      by_root : (q : Spot) → IsUsers q.root → (reverted_disk bytes).folders q ≡ two_mods q
      by_root q users = at_root q.root q.names users
        where
          at_root : (r : Root) (ns : Names) → IsUsers r → (reverted_disk bytes).folders (record { root = r; names = ns }) ≡ two_mods (record { root = r; names = ns })
          at_root Stage ns u = refl
          at_root Game ns u = refl
          at_root Keep ns u = absurd u

-- the law of clean rows has its premises here
module _ (bytes : ℕ → List ℕ) (before : manifest_value (bytes 3) ≡ Some (manifest bytes 2)) where
  one_row : (r : Row) → Contains (rows_on (replaced_disk bytes)) r → r ≡ row bytes 2
  one_row r c = elim (contains_cases (row bytes 2) r [] (subst (λ rows. Contains rows r) (rows_are two_mods (file 4) (file 2) 3 none none bytes 2 before) c)) [ inl is ↦ is | inr there ↦ absurd (contains_none r there) ]

  open_at : IsOpen (replaced_disk bytes) (in_game x_name) × IsOpen (replaced_disk bytes) (in_stage b_file)
  unfolding spot_eq
  open_at = (record { not_odd = λ h. not_held 4 h; no_folder = refl }, record { not_odd = λ h. not_held 2 h; no_folder = refl })
    where
      not_held : (n : ℕ) → (odd ≡ file n) ⊎ ⊥ → ⊥
      not_held n (inl e) = cc
      not_held n (inr never) = never

  pub imported-clean : manifest_value (bytes 5) ≡ Some (manifest bytes 4) → IsValid (imported_disk bytes) → class_of (imported_disk bytes) (row bytes 4) ≡ None
  imported-clean after valid =
      settled-clean (replaced_disk bytes) (imported_disk bytes) (replaced_by Import)
      (subst HasApartPaths (sym rows) (tt, tt)) (subst HasApartSources (sym rows) (tt, tt))
      (λ r c. subst (λ q. IsOpen (replaced_disk bytes) (game_spot q.path) × IsOpen (replaced_disk bytes) (staged_of q)) (sym (one_row r c)) open_at)
      (allowed_by Import refl)
      valid (replaced-imported bytes before after) (row bytes 4)
      (subst (λ rs. Contains rs (row bytes 4)) (sym (rows_are (imported_disk bytes).folders (file 4) (file 4) 5 (file 2) none bytes 4 after)) (contains_here (row bytes 4) []))
    where
      rows : rows_on (replaced_disk bytes) ≡ row bytes 2 ∷ []
      rows = rows_are two_mods (file 4) (file 2) 3 none none bytes 2 before

-- after the revert the desk is that of the deployment before others replaced the file
abbrev pub linked_disk : (ℕ → List ℕ) → Disk
linked_disk bytes = disk_with two_mods (file 2) (file 2) 3 none none bytes

pub reverted-linked : (bytes : ℕ → List ℕ) → manifest_value (bytes 3) ≡ Some (manifest bytes 2) → manifest_value (bytes 5) ≡ Some (manifest bytes 2) → SameDesk (desk (reverted_disk bytes)) (desk (linked_disk bytes))
unfolding spot_eq
reverted-linked bytes before after = let with_folders = and_aside (codes "game" ∷ []) in record {
  plain = λ i p. (plain_is with_folders (file 2) (file 2) 5 none none bytes 2 after p ∙ sym (plain_is two_mods (file 2) (file 2) 3 none none bytes 2 before p)) i;
  manifest = told with_folders (file 2) (file 2) 5 none none bytes 2 after ∙ sym (told two_mods (file 2) (file 2) 3 none none bytes 2 before);
  found = λ i p. (found_is with_folders (file 2) (file 2) 5 none none bytes 2 after p ∙ sym (found_is two_mods (file 2) (file 2) 3 none none bytes 2 before p)) i;
  staged = λ i p. (staged_is with_folders (file 2) (file 2) 5 none none bytes 2 p ∙ sym (staged_is two_mods (file 2) (file 2) 3 none none bytes 2 p)) i;
  aside = λ i p. (aside_is with_folders (file 2) (file 2) 5 none none bytes 2 p ∙ sym (aside_is two_mods (file 2) (file 2) 3 none none bytes 2 p)) i;
  profile = no_profile with_folders (file 2) (file 2) 5 none none bytes 2 ∙ sym (no_profile two_mods (file 2) (file 2) 3 none none bytes 2);
  folders = λ q out. at_root q.root q.names;
  bytes = λ n named. refl;
}
  where
    at_root : (r : Root) (ns : Names) → ((desk (reverted_disk bytes)).folders (record { root = r; names = ns }) ↔ (desk (linked_disk bytes)).folders (record { root = r; names = ns }))
    at_root Stage ns = (λ h. h, λ h. h)
    at_root Game ns = (λ h. h, λ h. h)
    at_root Keep ns = (λ h. absurd h.0, λ h. absurd h.0)
