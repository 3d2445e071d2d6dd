-- What is known of a row by what is done with it.
use Rattle.std.proofs.Common.{◌≡◌, ℕ, Bool, true, false, List, [], ◌∷◌, refl, sym, inl, inr, subst}
use Rattle.std.specs.List.{Contains}
use Rattle.std.specs.Str.{bytes_eq}
use Rattle.std.specs.declared.option.Option.TheVariants.{Some}
use Rattle.sha2.specs.Sha256.{sha256}
use Rattle.rel_paths.specs.Names.{names_of, IsFreePath}
use Rattle.list_laws.proofs.Containing.{contains_here, contains_there, contains_cases, contains_none, find-none}
use Rattle.tree_fs.specs.declared.name.Kind.{Kind}
use Rattle.tree_fs.specs.declared.name.Kind.TheVariants.{Absent, File, Folder, Other}
use Rattle.tree_fs.specs.Spot.{Spot}
use Rattle.tree_fs.specs.Places.{game_spot}
use Rattle.tree_fs.specs.Disk.{Disk, kind_of, is_one_file}
use Rattle.tree_fs.specs.Parts.{bytes_at}
use Rattle.tree_fs.proofs.KindOf.{kind-file}
use Rattle.manifest_json.specs.declared.manifest.Row.{Row}
use Rattle.manifest_json.specs.declared.manifest.Manifest.{Manifest}
use Rattle.change_choices.specs.declared.action.Action.{Action}
use Rattle.change_choices.specs.declared.action.Action.TheVariants.{Aside, Import, Revert, Keep, Restore, Drop}
use Rattle.change_choices.specs.declared.class.Class.{Class}
use Rattle.change_choices.specs.declared.class.Class.TheVariants.{Replaced, Changed, Deleted, SourceDeleted, Gone}
use Rattle.change_choices.specs.Allowed.{is_allowed}
use Rattle.change_detect.specs.Classes.{staged_of, class_by, class_of}
use Rattle.change_detect.specs.Refusals.{is_blocking, places_of}
use Rattle.desk_model.specs.Records.{row_at, staged_names, row_staged}
use Rattle.desk_model.specs.Settled.{Choice, Deed, left_whole, put_aside, imported, reverted, accepted, linked_again, staged_again, let_go, dropped, deed_by, deed_for, deed_of}
use Rattle.desk_model.proofs.Sourced.{row_staged-right}
use Rattle.plan_model.proofs.Firsts.{row-here}
use Rattle.plan_model.proofs.Rows.{row_free}
use Rattle.plan_model.proofs.Values.{HasFile, has_file, one_file-tells}
use Rattle.change_settle.specs.Plans.{CanSettle}

-- both names are there, and they are one file
pub record Linked (a : Disk) (r : Row) : Type 0 where
  pub here : kind_of a (game_spot r.path) ≡ File
  pub staged : kind_of a (staged_of r) ≡ File
  pub one : a.now (game_spot r.path) ≡ a.now (staged_of r)

-- both are there
pub record Both (a : Disk) (r : Row) : Type 0 where
  pub here : kind_of a (game_spot r.path) ≡ File
  pub staged : kind_of a (staged_of r) ≡ File

-- only the staged file is there
pub record StagedAlone (a : Disk) (r : Row) : Type 0 where
  pub here : kind_of a (game_spot r.path) ≡ Absent
  pub staged : kind_of a (staged_of r) ≡ File

-- only the found file is there
pub record FoundAlone (a : Disk) (r : Row) : Type 0 where
  pub here : kind_of a (game_spot r.path) ≡ File
  pub staged : kind_of a (staged_of r) ≡ Absent

-- nothing is found
pub record NotFound (a : Disk) (r : Row) : Type 0 where
  pub here : kind_of a (game_spot r.path) ≡ Absent

abbrev pub Told : Disk → Row → Deed → Type 0
Told a r left_whole = Linked a r
Told a r accepted = Linked a r
Told a r put_aside = Both a r
Told a r imported = Both a r
Told a r reverted = Both a r
Told a r linked_again = StagedAlone a r
Told a r staged_again = FoundAlone a r
Told a r let_go = FoundAlone a r
Told a r dropped = NotFound a r

module _ (a : Disk) (r : Row) where
  never : {P : Type 0} → false ≡ true → P
  never e = absurd (cc)

  told_replaced : (x : Action) → is_allowed Replaced x ≡ true → Both a r → Told a r (deed_by Replaced x)
  told_replaced Aside ok h = h
  told_replaced Import ok h = h
  told_replaced Revert ok h = h
  told_replaced _ ok h = never ok

  told_changed : (x : Action) → is_allowed Changed x ≡ true → Linked a r → Told a r (deed_by Changed x)
  told_changed Keep ok h = h
  told_changed _ ok h = never ok

  told_deleted : (x : Action) → is_allowed Deleted x ≡ true → StagedAlone a r → Told a r (deed_by Deleted x)
  told_deleted Restore ok h = h
  told_deleted Drop ok h = record { here = h.here }
  told_deleted _ ok h = never ok

  told_source_deleted : (x : Action) → is_allowed SourceDeleted x ≡ true → FoundAlone a r → Told a r (deed_by SourceDeleted x)
  told_source_deleted Restore ok h = h
  told_source_deleted Drop ok h = h
  told_source_deleted _ ok h = never ok

  told_gone : (x : Action) → is_allowed Gone x ≡ true → NotFound a r → Told a r (deed_by Gone x)
  told_gone Drop ok h = h
  told_gone _ ok h = never ok

  module _ (choose : Class → Action) (ok : (class : Class) → is_allowed class (choose class) ≡ true) where
    by_files : (one same : Bool) → kind_of a (game_spot r.path) ≡ File → kind_of a (staged_of r) ≡ File → is_one_file (a.now (game_spot r.path)) (a.now (staged_of r)) ≡ one
        → Told a r (deed_for choose (class_by File File one same))
    by_files true true e f t = record { here = e; staged = f; one = (one_file-tells (a.now (game_spot r.path)) (a.now (staged_of r)) t).1 }
    by_files true false e f t = told_changed (choose Changed) (ok Changed) (record { here = e; staged = f; one = (one_file-tells (a.now (game_spot r.path)) (a.now (staged_of r)) t).1 })
    by_files false same e f t = told_replaced (choose Replaced) (ok Replaced) (record { here = e; staged = f })

    by_kinds : (g s : Kind) (one same : Bool) → kind_of a (game_spot r.path) ≡ g → kind_of a (staged_of r) ≡ s → is_one_file (a.now (game_spot r.path)) (a.now (staged_of r)) ≡ one
        → is_blocking g ≡ false → is_blocking s ≡ false → Told a r (deed_for choose (class_by g s one same))
    by_kinds Absent Absent one same e f t g s = told_gone (choose Gone) (ok Gone) (record { here = e })
    by_kinds Absent File one same e f t g s = told_deleted (choose Deleted) (ok Deleted) (record { here = e; staged = f })
    by_kinds File Absent one same e f t g s = told_source_deleted (choose SourceDeleted) (ok SourceDeleted) (record { here = e; staged = f })
    by_kinds File File one same e f t g s = by_files one same e f t
    by_kinds Absent Folder one same e f t g s = absurd (cc)
    by_kinds Absent Other one same e f t g s = absurd (cc)
    by_kinds File Folder one same e f t g s = absurd (cc)
    by_kinds File Other one same e f t g s = absurd (cc)
    by_kinds Folder k one same e f t g s = absurd (cc)
    by_kinds Other k one same e f t g s = absurd (cc)

    told_class : is_blocking (kind_of a (game_spot r.path)) ≡ false → is_blocking (kind_of a (staged_of r)) ≡ false → Told a r (deed_for choose (class_of a r))
    unfolding class_of
    told_class g s =
        by_kinds (kind_of a (game_spot r.path)) (kind_of a (staged_of r)) (is_one_file (a.now (game_spot r.path)) (a.now (staged_of r)))
        (bytes_eq (sha256 (bytes_at a (game_spot r.path))) r.digest.bytes) refl refl refl g s

-- the places of a listed row
in_places : (rows : List Row) (r : Row) → Contains rows r → Contains (places_of rows) (game_spot r.path) × Contains (places_of rows) (staged_of r)
in_places [] r c = absurd (contains_none r c)
in_places (s ∷ rows) r c = elim (contains_cases s r rows c) [
  | inl is ↦ subst (λ q. Contains (places_of (s ∷ rows)) (game_spot q.path) × Contains (places_of (s ∷ rows)) (staged_of q)) (sym is)
      (contains_here (game_spot s.path) (staged_of s ∷ places_of rows), contains_there (game_spot s.path) (staged_of s) (staged_of s ∷ places_of rows) (contains_here (staged_of s) (places_of rows)))
  | inr there ↦ let h = in_places rows r there in (later (game_spot r.path) h.0, later (staged_of r) h.1)
]
  where
    later : (x : Spot) → Contains (places_of rows) x → Contains (places_of (s ∷ rows)) x
    later x d = contains_there (game_spot s.path) x (staged_of s ∷ places_of rows) (contains_there (staged_of s) x (places_of rows) d)

module _ (choice : Choice) (a : Disk) (old : Manifest) (n : ℕ) (can : CanSettle choice a old n) where
  -- no place of a row is in the way
  row_open : (r : Row) → Contains old.rows r → (is_blocking (kind_of a (game_spot r.path)) ≡ false) × (is_blocking (kind_of a (staged_of r)) ≡ false)
  row_open r c =
      let h = in_places old.rows r c in
      let test = λ (x : Spot). is_blocking (kind_of a x) in
      (find-none test (places_of old.rows) (game_spot r.path) can.unblocked h.0, find-none test (places_of old.rows) (staged_of r) can.unblocked h.1)

  pub told : (r : Row) → Contains old.rows r → Told a r (deed_of choice a r)
  told r c = let h = row_open r c in told_class a r (choice r.path) (can.allowed r.path) h.0 h.1

  pub told_at : (r : Row) → Contains old.rows r → (d : Deed) → deed_of choice a r ≡ d → Told a r d
  told_at r c d e = subst (Told a r) e (told r c)

  pub at_path : (r : Row) → Contains old.rows r → row_at old.rows (names_of r.path) ≡ Some r
  at_path r c = row-here old.rows r can.rows.rise c

  pub at_staged : (r : Row) → Contains old.rows r → row_staged old.rows (staged_names r) ≡ Some r
  at_staged r c = row_staged-right old.rows r can.rows.apart c

  pub free_path : (r : Row) → Contains old.rows r → IsFreePath r.path
  free_path r c = row_free old.rows can.rows r c

pub kind_has_file : (a : Disk) (x : Spot) → kind_of a x ≡ File → HasFile (a.now x)
kind_has_file a x k = has_file a x (kind-file a x k).1
