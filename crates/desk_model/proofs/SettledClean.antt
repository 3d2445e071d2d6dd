-- After a settlement every row is clean.
use Rattle.std.proofs.Common.{◌≡◌, ◌≢◌, ℕ, Bool, true, false, ◌==◌, if◌then◌else◌, List, [], ◌∷◌, map, refl, sym, ap, ◌∙◌, inl, inr, subst}
use Rattle.std.specs.Bool.{Decides}
use Rattle.std.specs.List.{Contains}
use Rattle.std.specs.Str.{bytes_eq}
use Rattle.std.specs.declared.option.Option.{Option}
use Rattle.std.specs.declared.option.Option.TheVariants.{None, Some}
use Rattle.std.proofs.lemmas.Bool.Decides.{Decides-eqb}
use Rattle.std.proofs.lemmas.Slice.Eq.{bytes_eq-Decides}
use Rattle.sha2.specs.Sha256.{sha256}
use Rattle.rel_paths.specs.Names.{names_of}
use Rattle.tree_fs.specs.declared.name.Kind.TheVariants.{File, Folder}
use Rattle.tree_fs.specs.Spot.{Spot, spot_eq}
use Rattle.tree_fs.specs.Places.{game_spot}
use Rattle.tree_fs.specs.Disk.{Disk, Value, none, file, odd, IsValid, kind_at, kind_of, is_one_file}
use Rattle.tree_fs.specs.Parts.{bytes_at, bytes_of}
use Rattle.tree_fs.proofs.Lists.{contains_here, contains_there, contains_cases, contains_none}
use Rattle.manifest_json.specs.declared.manifest.Row.{Row}
use Rattle.manifest_json.specs.Apart.{HasApartPaths, HasApartSources}
use Rattle.desk_model.specs.Places.{Names, in_game, manifest_spot}
use Rattle.desk_model.specs.Desk.{without_manifest, found, found_by, desk, in_found}
use Rattle.desk_model.specs.Records.{rows_of, row_at, rows_on, staged_names}
use Rattle.change_choices.specs.declared.class.Class.{Class}
use Rattle.change_choices.specs.declared.class.Class.TheVariants.{Replaced, Deleted, SourceDeleted, Gone, Changed}
use Rattle.change_choices.specs.declared.action.Action.{Action}
use Rattle.change_choices.specs.declared.action.Action.TheVariants.{Aside, Import, Revert, Keep, Restore, Drop}
use Rattle.desk_model.specs.Settled.{Choice, Deed, left_whole, put_aside, imported, reverted, accepted, linked_again, staged_again, let_go, dropped, deed_by, deed_of, kept_by, kept_spot, value_at, new_digest, settled_row, some_rows, settled_rows, settled_found, restages, Settled, IsAllowed, deed_for}
use Rattle.desk_model.specs.Standing.{IsOpen}
use Rattle.desk_model.specs.Laws.{HasOpenRows, SettledIsClean}
use Rattle.desk_model.proofs.Sourced.{row_at-right, in_desk, settled-restages}
use Rattle.change_choices.specs.Allowed.{is_allowed}
use Rattle.desk_model.proofs.Apart.{rows-apart}
use Rattle.change_detect.specs.Classes.{staged_of, class_by, class_of}

-- what a deed finds at the game place and at the staged place, where its class allows it
abbrev Fits : Deed → (here staged : Value) → (same_digest : Bool) → Type 0
Fits left_whole here staged same = (n : ℕ) × (here ≡ file n) × (staged ≡ file n) × (same ≡ true)
Fits put_aside here staged same = (n : ℕ) × (staged ≡ file n)
Fits imported here staged same = (n : ℕ) × (here ≡ file n)
Fits reverted here staged same = (n : ℕ) × (staged ≡ file n)
Fits accepted here staged same = (n : ℕ) × (here ≡ file n) × (staged ≡ file n)
Fits linked_again here staged same = (n : ℕ) × (staged ≡ file n)
Fits staged_again here staged same = (n : ℕ) × (here ≡ file n)
Fits let_go here staged same = Unit {0}
Fits dropped here staged same = Unit {0}

never_allowed : {P : Type 0} → false ≡ true → P
never_allowed e = absurd (cc)

fits_changed : (n : ℕ) (action : Action) → is_allowed Changed action ≡ true → Fits (deed_by Changed action) (file n) (file n) false
fits_changed n Keep ok = (n, refl, refl)
fits_changed n _ ok = never_allowed ok

fits_replaced : (m n : ℕ) (same : Bool) (action : Action) → is_allowed Replaced action ≡ true → Fits (deed_by Replaced action) (file m) (file n) same
fits_replaced m n same Aside ok = (n, refl)
fits_replaced m n same Import ok = (m, refl)
fits_replaced m n same Revert ok = (n, refl)
fits_replaced m n same _ ok = never_allowed ok

fits_deleted : (n : ℕ) (same : Bool) (action : Action) → is_allowed Deleted action ≡ true → Fits (deed_by Deleted action) none (file n) same
fits_deleted n same Restore ok = (n, refl)
fits_deleted n same Drop ok = tt
fits_deleted n same _ ok = never_allowed ok

fits_source_deleted : (m : ℕ) (same : Bool) (action : Action) → is_allowed SourceDeleted action ≡ true → Fits (deed_by SourceDeleted action) (file m) none same
fits_source_deleted m same Restore ok = (m, refl)
fits_source_deleted m same Drop ok = tt
fits_source_deleted m same _ ok = never_allowed ok

fits_gone : (same : Bool) (action : Action) → is_allowed Gone action ≡ true → Fits (deed_by Gone action) none none same
fits_gone same Drop ok = tt
fits_gone same _ ok = never_allowed ok

abbrev class_at : (here staged : Value) → Bool → Option Class
class_at here staged same = class_by (kind_at here) (kind_at staged) (is_one_file here staged) same

-- of each two values that aren't odd
fits : (here staged : Value) (same : Bool) (choose : Class → Action) → here ≢ odd → staged ≢ odd → ((class : Class) → is_allowed class (choose class) ≡ true) → Fits (deed_for choose (class_at here staged same)) here staged same
fits odd staged same choose not_odd _ ok = absurd (not_odd refl)
fits none odd same choose _ not_odd ok = absurd (not_odd refl)
fits (file m) odd same choose _ not_odd ok = absurd (not_odd refl)
fits none none same choose _ _ ok = fits_gone same (choose Gone) (ok Gone)
fits none (file n) same choose _ _ ok = fits_deleted n same (choose Deleted) (ok Deleted)
fits (file m) none same choose _ _ ok = fits_source_deleted m same (choose SourceDeleted) (ok SourceDeleted)
fits (file m) (file n) same choose _ _ ok = by_test (m == n) (Decides-eqb m n) same
  where
    by_test : (t : Bool) → Decides t (m ≡ n) → (s : Bool) → Fits (deed_for choose (class_by File File t s)) (file m) (file n) s
    by_test true d true = (m, refl, ap file (sym (d.0 refl)), refl)
    by_test true d false = subst (λ k. Fits (deed_by Changed (choose Changed)) (file m) (file k) false) (d.0 refl) (fits_changed m (choose Changed) (ok Changed))
    by_test false d s = fits_replaced m n s (choose Replaced) (ok Replaced)

-- Where a row of afterwards comes from

record ComesFrom (a : Disk) (choice : Choice) (rows : List Row) (made : Row) : Type 0 where
  before : Row
  listed : Contains rows before
  is_made : settled_row a before (deed_of choice a before) ≡ Some made

comes_from : (a : Disk) (choice : Choice) (rows : List Row) (made : Row) → Contains (some_rows (map (λ r. settled_row a r (deed_of choice a r)) rows)) made → ComesFrom a choice rows made
comes_from a choice [] made c = absurd (contains_none made c)
comes_from a choice (r ∷ rs) made c = by_row (comes_from a choice rs made) (settled_row a r (deed_of choice a r)) refl c
  where
    later : ComesFrom a choice rs made → ComesFrom a choice (r ∷ rs) made
    later h = record { before = h.before; listed = contains_there r h.before rs h.listed; is_made = h.is_made }

    by_row : (Contains (some_rows (map (λ q. settled_row a q (deed_of choice a q)) rs)) made → ComesFrom a choice rs made) → (o : Option Row) → settled_row a r (deed_of choice a r) ≡ o
        → Contains (some_rows (o ∷ map (λ q. settled_row a q (deed_of choice a q)) rs)) made → ComesFrom a choice (r ∷ rs) made
    by_row rest None e h = later (rest h)
    by_row rest (Some s) e h = elim (contains_cases s made _ h) [
      | inl is ↦ record { before = r; listed = contains_here r rs; is_made = e ∙ ap Some (sym is) }
      | inr there ↦ later (rest there)
    ]

-- What stands on the disk afterwards

found_file : (o : Option Row) (t : Bool) (v : Value) (n : ℕ) → found_by o (if t then none else v) ≡ file n → v ≡ file n
found_file None t v n e = absurd (cc)
found_file (Some r) true v n e = absurd (cc)
found_file (Some r) false none n e = absurd (cc)
found_file (Some r) false odd n e = absurd (cc)
found_file (Some r) false (file m) n e = e

found_now : (b : Disk) (p : Names) (n : ℕ) → (desk b).found p ≡ file n → b.now (in_game p) ≡ file n
unfolding found without_manifest
found_now b p n e = found_file (row_at (rows_on b) p) (spot_eq (in_game p) manifest_spot) (b.now (in_game p)) n e

file_kind : (b : Disk) → IsValid b → (x : Spot) (n : ℕ) → b.now x ≡ file n → kind_of b x ≡ File
file_kind b valid x n e = by_test (b.folders x) refl
  where
    by_test : (t : Bool) → b.folders x ≡ t → (if t then Folder else kind_at (b.now x)) ≡ File
    by_test true is = let h : none ≡ file n = sym (valid.bare x is) ∙ e in absurd (cc)
    by_test false is = ap kind_at e

-- one file at both places, with the row's digest
linked : (b : Disk) → IsValid b → (r : Row) (n : ℕ) → b.now (game_spot r.path) ≡ file n → b.now (staged_of r) ≡ file n → sha256 (b.bytes n) ≡ r.digest.bytes → class_of b r ≡ None
unfolding class_of
linked b valid r n here staged digest =
    (λ i. class_by (file_kind b valid (game_spot r.path) n here i) (file_kind b valid (staged_of r) n staged i) (is_one_file (here i) (staged i)) (bytes_eq (sha256 (bytes_of b (here i))) r.digest.bytes))
    ∙ (λ i. class_by File File (one i) (same i))
  where
    one : (n == n) ≡ true
    one = (Decides-eqb n n).1 refl

    same : bytes_eq (sha256 (b.bytes n)) r.digest.bytes ≡ true
    same = (bytes_eq-Decides (sha256 (b.bytes n)) r.digest.bytes).1 digest

module _ (a b : Disk) (choice : Choice) (paths : HasApartPaths (rows_on a)) (sources : HasApartSources (rows_on a)) (opens : HasOpenRows a) (allowed : IsAllowed choice) (valid : IsValid b) (h : Settled a choice (desk b)) where
  module _ (r : Row) (c : Contains (rows_on a) r) where
    abbrev same_digest : Bool
    same_digest = bytes_eq (sha256 (bytes_at a (game_spot r.path))) r.digest.bytes

    open_kind : (x : Spot) → IsOpen a x → kind_of a x ≡ kind_at (a.now x)
    open_kind x o = λ i. if o.no_folder i then Folder else kind_at (a.now x)

    class_is : class_of a r ≡ class_at (a.now (game_spot r.path)) (a.now (staged_of r)) same_digest
    unfolding class_of
    class_is = let o = opens r c in λ i. class_by (open_kind (game_spot r.path) o.0 i) (open_kind (staged_of r) o.1 i) (is_one_file (a.now (game_spot r.path)) (a.now (staged_of r))) same_digest

    it_fits : Fits (deed_of choice a r) (a.now (game_spot r.path)) (a.now (staged_of r)) same_digest
    it_fits =
        let o = opens r c in
        subst (λ k. Fits (deed_for (choice r.path) k) (a.now (game_spot r.path)) (a.now (staged_of r)) same_digest) (sym class_is)
        (fits (a.now (game_spot r.path)) (a.now (staged_of r)) same_digest (choice r.path) (λ e. o.0.not_odd (inl (sym e))) (λ e. o.1.not_odd (inl (sym e))) (allowed r.path))

    is_found : (d : Deed) → deed_of choice a r ≡ d → (desk b).found (names_of r.path) ≡ value_at a (kept_spot r (kept_by d))
    is_found d is = h.found (names_of r.path) ∙ ap (settled_found choice a) (row_at-right (rows_on a) r paths c) ∙ ap (λ e. value_at a (kept_spot r (kept_by e))) is

    is_staged : (d : Deed) → deed_of choice a r ≡ d → b.now (staged_of r) ≡ (if restages d then a.now (game_spot r.path) else a.now (staged_of r))
    is_staged d is = sym (in_desk b (staged_names r)) ∙ (settled-restages a b choice sources h r c).staged ∙ ap (λ e. if restages e then a.now (game_spot r.path) else a.now (staged_of r)) is

    -- a row with the digest of the file that both names have
    renewed : (x : Spot) (n : ℕ) (made : Row) → a.now x ≡ file n → (desk b).found (names_of r.path) ≡ a.now x → b.now (staged_of r) ≡ file n → Some (new_digest a r x) ≡ Some made → class_of b made ≡ None
    renewed x n made value there staged is =
        let e : new_digest a r x ≡ made = cc in
        let bytes = h.bytes n (in_found (names_of r.path) (there ∙ value)) ∙ sym (ap (bytes_of a) value) in
        subst (λ q. class_of b q ≡ None) e (linked b valid (new_digest a r x) n (found_now b (names_of r.path) n (there ∙ value)) staged (ap sha256 bytes))

    by_deed : (d : Deed) → deed_of choice a r ≡ d → Fits d (a.now (game_spot r.path)) (a.now (staged_of r)) same_digest → (made : Row) → settled_row a r d ≡ Some made → class_of b made ≡ None
    by_deed left_whole is fit made e =
        let same : r ≡ made = cc in
        let there = is_found left_whole is ∙ fit.1 in
        let bytes = h.bytes fit.0 (in_found (names_of r.path) there) ∙ sym (ap (bytes_of a) fit.1) in
        let digest = (bytes_eq-Decides (sha256 (bytes_at a (game_spot r.path))) r.digest.bytes).0 fit.3 in
        subst (λ q. class_of b q ≡ None) same (linked b valid r fit.0 (found_now b (names_of r.path) fit.0 there) (is_staged left_whole is ∙ fit.2) (ap sha256 bytes ∙ digest))
    by_deed put_aside is fit made e = renewed (staged_of r) fit.0 made fit.1 (is_found put_aside is) (is_staged put_aside is ∙ fit.1) e
    by_deed imported is fit made e = renewed (game_spot r.path) fit.0 made fit.1 (is_found imported is) (is_staged imported is ∙ fit.1) e
    by_deed reverted is fit made e = renewed (staged_of r) fit.0 made fit.1 (is_found reverted is) (is_staged reverted is ∙ fit.1) e
    by_deed accepted is fit made e = renewed (game_spot r.path) fit.0 made fit.1 (is_found accepted is) (is_staged accepted is ∙ fit.2) e
    by_deed linked_again is fit made e = renewed (staged_of r) fit.0 made fit.1 (is_found linked_again is) (is_staged linked_again is ∙ fit.1) e
    by_deed staged_again is fit made e = renewed (game_spot r.path) fit.0 made fit.1 (is_found staged_again is) (is_staged staged_again is ∙ fit.1) e
    by_deed let_go is fit made e = absurd (cc)
    by_deed dropped is fit made e = absurd (cc)

  each_clean : (r : Row) → Contains (rows_on b) r → class_of b r ≡ None
  each_clean r c =
      let rows : rows_on b ≡ settled_rows choice a = ap rows_of h.is_manifest ∙ h.rows in
      let from = comes_from a choice (rows_on a) r (subst (λ rs. Contains rs r) rows c) in
      by_deed from.before from.listed (deed_of choice a from.before) refl (it_fits from.before from.listed) r from.is_made

pub settled-clean : (a b : Disk) (choice : Choice) → HasApartPaths (rows_on a) → HasApartSources (rows_on a) → HasOpenRows a → IsAllowed choice → IsValid b → Settled a choice (desk b)
    → (r : Row) → Contains (rows_on b) r → class_of b r ≡ None
settled-clean a b choice paths sources opens allowed valid h = each_clean a b choice paths sources opens allowed valid h

pub settled-is_clean : SettledIsClean
settled-is_clean a b choice rows opens allowed valid h = settled-clean a b choice (rows-apart (rows_on a) rows) rows.apart opens allowed valid h
