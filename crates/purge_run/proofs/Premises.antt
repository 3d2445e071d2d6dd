-- What the absence of refusals tells, row by row.
use Rattle.std.proofs.Common.{◌≡◌, ◌⊎◌, ℕ, Bool, true, false, cond, if◌then◌else◌, List, [], ◌∷◌, find, flat_map, refl, sym, ap, ◌∙◌, inl, inr}
use Rattle.std.specs.List.{Contains}
use Rattle.std.specs.Option.{option_or}
use Rattle.std.specs.declared.option.Option.{Option}
use Rattle.std.specs.declared.option.Option.TheVariants.{None, Some}
use Rattle.std.proofs.lemmas.List.Folds.{find-append}
use Rattle.list_laws.proofs.Containing.{contains_cases, contains_none}
use Rattle.tree_fs.specs.declared.name.Kind.{Kind}
use Rattle.tree_fs.specs.declared.name.Kind.TheVariants.{Absent, File, Folder, Other}
use Rattle.tree_fs.specs.Spot.{Spot}
use Rattle.tree_fs.specs.Places.{game_spot}
use Rattle.tree_fs.specs.Disk.{Disk, kind_of}
use Rattle.backup_keep.specs.Places.{backup_spot}
use Rattle.backup_keep.specs.Asides.{HasAside, IsNextAside, IsAsideOpen}
use Rattle.manifest_json.specs.declared.manifest.Row.{Row}
use Rattle.manifest_json.specs.declared.manifest.Manifest.{Manifest}
use Rattle.change_detect.specs.Refusals.{is_blocking}
use Rattle.desk_model.specs.Purged.{stands_over}
use Rattle.plan_model.specs.Rows.{IsFileOrAbsent}
use Rattle.purge_run.specs.Refusals.{places_of_row, first_in_the_way, SetsSomeAside}
use Rattle.purge_run.specs.Plans.{CanPurge}

neither : {A : Type 0} (o u : Option A) → option_or o u ≡ None → (o ≡ None) × (u ≡ None)
neither None u e = (refl, e)
neither (Some x) u e = absurd (cc)

none_first : {A : Type 0} (b : Bool) (x : A) (rest : Option A) → cond b (Some x) rest ≡ None → (b ≡ false) × (rest ≡ None)
none_first false x rest e = (refl, e)
none_first true x rest e = absurd (cc)

open_kind : (k : Kind) → is_blocking k ≡ false → (k ≡ Absent) ⊎ (k ≡ File)
open_kind Absent e = inl refl
open_kind File e = inr refl
open_kind Folder e = absurd (cc)
open_kind Other e = absurd (cc)

module _ (a : Disk) where
  abbrev test : Spot → Bool
  test x = is_blocking (kind_of a x)

  row_open : (rows : List Row) → first_in_the_way a rows ≡ None → (r : Row) → Contains rows r → find test (places_of_row r) ≡ None
  row_open [] none r c = absurd (contains_none r c)
  row_open (s ∷ rows) none r c =
      let parts = neither (find test (places_of_row s)) (find test (flat_map places_of_row rows)) (sym (find-append test (places_of_row s) (flat_map places_of_row rows)) ∙ none) in
      elim (contains_cases s r rows c) [
        | inl is ↦ ap (λ q. find test (places_of_row q)) is ∙ parts.0
        | inr there ↦ row_open rows parts.1 r there
      ]

  pub row_place : (rows : List Row) → first_in_the_way a rows ≡ None → (r : Row) → Contains rows r → IsFileOrAbsent a (game_spot r.path)
  row_place rows none r c = open_kind (kind_of a (game_spot r.path)) (by r.shadowed (row_open rows none r c))
    where
      by : (b : Bool) → find test (if b then game_spot r.path ∷ backup_spot r.path ∷ [] else game_spot r.path ∷ []) ≡ None → test (game_spot r.path) ≡ false
      by true e = (none_first (test (game_spot r.path)) (game_spot r.path) _ e).0
      by false e = (none_first (test (game_spot r.path)) (game_spot r.path) _ e).0

  pub backup_place : (rows : List Row) → first_in_the_way a rows ≡ None → (r : Row) → Contains rows r → r.shadowed ≡ true → IsFileOrAbsent a (backup_spot r.path)
  backup_place rows none r c shadowed = open_kind (kind_of a (backup_spot r.path)) (by r.shadowed shadowed (row_open rows none r c))
    where
      by : (b : Bool) → b ≡ true → find test (if b then game_spot r.path ∷ backup_spot r.path ∷ [] else game_spot r.path ∷ []) ≡ None → test (backup_spot r.path) ≡ false
      by true s e = (none_first (test (backup_spot r.path)) (backup_spot r.path) _ (none_first (test (game_spot r.path)) (game_spot r.path) _ e).1).0
      by false s e = absurd (cc)

-- the number is free, and a place below it can be made
pub record AsideReady (a : Disk) (n : ℕ) : Type 0 where
  pub next : IsNextAside a n
  pub folder : IsAsideOpen a
  pub room : ¬ HasAside a 4294967295

pub ready_for : (a : Disk) (old : Manifest) (n : ℕ) → CanPurge a old n → (r : Row) → Contains old.rows r → stands_over a r ≡ true → AsideReady a n
ready_for a old n can r c s =
    let some : SetsSomeAside a old.rows = record { row = r; listed = c; over = s } in
    let aside = can.passes.aside some in
    record { next = can.next some; folder = aside.may_be_made; room = aside.room }
