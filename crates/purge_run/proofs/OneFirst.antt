-- Where nothing refuses the plan, no reason is the first, and otherwise one at most.
use Rattle.plan_model.proofs.Values.{not_some}
use Rattle.std.proofs.Common.{◌≡◌, ◌⊎◌, List, refl, sym, ap, ◌∙◌, inl, inr}
use Rattle.std.specs.declared.option.Option.TheVariants.{Some}
use Rattle.tree_fs.specs.declared.name.Kind.TheVariants.{Absent, File, Folder, Other}
use Rattle.tree_fs.specs.Spot.{Spot, spot_of}
use Rattle.tree_fs.specs.Disk.{Disk, kind_of}
use Rattle.tree_fs.proofs.Spots.{same_place}
use Rattle.backup_keep.specs.Places.{aside_folder}
use Rattle.backup_keep.specs.Asides.{IsAsideOpen}
use Rattle.manifest_json.specs.declared.manifest.Row.{Row}
use Rattle.purge_run.specs.declared.error.PurgeError.{PurgeError}
use Rattle.purge_run.specs.declared.error.PurgeError.TheVariants.{Blocked, AsideFull, Failed, Memory}
use Rattle.purge_run.specs.Refusals.{first_in_the_way, NoRefusal, IsRefusal, IsPurgeRefusal}

open_not_taken : (a : Disk) → IsAsideOpen a → (kind_of a aside_folder ≡ File) ⊎ (kind_of a aside_folder ≡ Other) → ⊥
open_not_taken a (inl k) (inl t) = let e : Absent ≡ File = sym k ∙ t in cc
open_not_taken a (inl k) (inr t) = let e : Absent ≡ Other = sym k ∙ t in cc
open_not_taken a (inr k) (inl t) = let e : Folder ≡ File = sym k ∙ t in cc
open_not_taken a (inr k) (inr t) = let e : Folder ≡ Other = sym k ∙ t in cc

pub none_is_first : (a : Disk) (rows : List Row) (error : PurgeError) → NoRefusal a rows → IsRefusal error → ¬ IsPurgeRefusal a rows error
none_is_first a rows (Blocked place) none is (inl h) = not_some (first_in_the_way a rows) (spot_of place) none.unblocked h
none_is_first a rows (Blocked place) none is (inr h) = open_not_taken a (none.aside h.1).may_be_made h.3
none_is_first a rows AsideFull none is h = (none.aside h.1).room h.3
none_is_first a rows Failed none is h = is
none_is_first a rows Memory none is h = is

-- only one reason is the first
module _ (a : Disk) (rows : List Row) where
  of_some : (x y : Spot) → Some x ≡ Some y → x ≡ y
  of_some x y e = cc

  pub first_is_one : (e f : PurgeError) → IsRefusal e → IsRefusal f → IsPurgeRefusal a rows e → IsPurgeRefusal a rows f → e ≡ f
  first_is_one (Blocked x) (Blocked y) i j (inl h) (inl k) = ap Blocked (same_place x y (of_some (spot_of x) (spot_of y) (sym h ∙ k)))
  first_is_one (Blocked x) (Blocked y) i j (inl h) (inr k) = absurd (not_some (first_in_the_way a rows) (spot_of x) k.0 h)
  first_is_one (Blocked x) (Blocked y) i j (inr h) (inl k) = absurd (not_some (first_in_the_way a rows) (spot_of y) h.0 k)
  first_is_one (Blocked x) (Blocked y) i j (inr h) (inr k) = ap Blocked (same_place x y (h.2 ∙ sym k.2))
  first_is_one (Blocked x) AsideFull i j (inl h) k = absurd (not_some (first_in_the_way a rows) (spot_of x) k.0 h)
  first_is_one (Blocked x) AsideFull i j (inr h) k = absurd (open_not_taken a k.2 h.3)
  first_is_one AsideFull (Blocked y) i j h (inl k) = absurd (not_some (first_in_the_way a rows) (spot_of y) h.0 k)
  first_is_one AsideFull (Blocked y) i j h (inr k) = absurd (open_not_taken a h.2 k.3)
  first_is_one AsideFull AsideFull i j h k = refl
  first_is_one Failed f i j h k = absurd i
  first_is_one Memory f i j h k = absurd i
  first_is_one (Blocked x) Failed i j h k = absurd j
  first_is_one (Blocked x) Memory i j h k = absurd j
  first_is_one AsideFull Failed i j h k = absurd j
  first_is_one AsideFull Memory i j h k = absurd j
