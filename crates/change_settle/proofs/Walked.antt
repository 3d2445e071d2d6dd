-- How far the walk over the rows has come, and what is in its way.
use Rattle.std.proofs.Common.{◌≡◌, ◌≢◌, ◌⊎◌, ℕ, ◌+◌, ◌<◌, List, [], ◌∷◌, ◌++◌, length, get_or, take, drop, suc, map, refl, sym, ap, ◌∙◌, subst, inl, inr}
use Rattle.std.specs.List.{AllByRecursion, Contains}
use Rattle.std.specs.declared.option.Option.TheVariants.{Some}
use Rattle.std.proofs.lemmas.List.{map-append}
use Rattle.list_laws.proofs.Alls.{all_more}
use Rattle.list_laws.proofs.Lists.{one_more, around}
use Rattle.tree_fs.specs.declared.name.Kind.{Kind}
use Rattle.tree_fs.specs.declared.name.Kind.TheVariants.{Absent, File, Folder, Other}
use Rattle.tree_fs.specs.Spot.{Spot, spot_of, IsBelow}
use Rattle.tree_fs.specs.Disk.{Disk, IsValid, kind_of}
use Rattle.tree_fs.proofs.Below.{below-trans}
use Rattle.tree_fs.proofs.KindOf.{folder-kind}
use Rattle.manifest_json.specs.declared.manifest.Row.{Row}
use Rattle.desk_model.specs.Settled.{Deed}
use Rattle.plan_model.specs.Rows.{IsFolderOrAbsent}
use Rattle.deploy_plan.specs.Refusals.{HasOpenParents, IsOutermost}
use Rattle.change_settle.specs.declared.error.SettleError.{SettleError}
use Rattle.change_settle.specs.declared.error.SettleError.TheVariants.{Blocked, AsideFull, Failed, Memory}
use Rattle.change_settle.specs.Above.{IsFolderAbove, IsTaken, NoneAbove, IsOutermostOf, TellsAbove}
use Rattle.change_settle.specs.Refusals.{restored_spot}
use Rattle.change_settle.specs.Steps.{TellsFor, NoneAboveTask, IsTaskBlocked, IsOpen, IsInTaskWay, Refuses, IsFirstOf}

-- List by list

module _ {A X : Type 0} (seen : A → X) (xs : List A) (i : ℕ) (x : A) (lt : i < length xs) (is : x ≡ get_or xs i x) where
  pub seen_next : map seen (take (i + 1) xs) ≡ map seen (take i xs) ++ seen x ∷ []
  seen_next = ap (map seen) (one_more xs i x lt is) ∙ map-append seen (take i xs) (x ∷ [])

  pub all_next_seen : (P : X → Type 0) → AllByRecursion P (map seen (take i xs)) → P (seen x) → AllByRecursion P (map seen (take (i + 1) xs))
  all_next_seen P was now = subst (AllByRecursion P) (sym seen_next) (all_more P (map seen (take i xs)) (seen x) was now)

  pub mapped_next : {B C : Type 0} (f : X → C) (g : B → C) (old new : List B) (b : B) → map g old ≡ map f (map seen (take i xs)) → g b ≡ f (seen x) → new ≡ old ++ b ∷ [] → map g new ≡ map f (map seen (take (i + 1) xs))
  mapped_next f g old new b was now put =
      ap (map g) put ∙ map-append g old (b ∷ []) ∙ (λ j. was j ++ now j ∷ []) ∙ sym (map-append f (map seen (take i xs)) (seen x ∷ [])) ∙ ap (map f) (sym seen_next)

  pub same_next : {B : Type 0} (g : B → X) (old new : List B) (b : B) → map g old ≡ map seen (take i xs) → g b ≡ seen x → new ≡ old ++ b ∷ [] → map g new ≡ map seen (take (i + 1) xs)
  same_next g old new b was now put = ap (map g) put ∙ map-append g old (b ∷ []) ∙ (λ j. was j ++ now j ∷ []) ∙ sym seen_next

-- The parents of what is put back

open_or_taken : (k : Kind) → (k ≡ Absent) ⊎ (k ≡ Folder) ⊎ ((k ≡ File) ⊎ (k ≡ Other))
open_or_taken Absent = inl refl
open_or_taken Folder = inr (inl refl)
open_or_taken File = inr (inr (inl refl))
open_or_taken Other = inr (inr (inr refl))

module _ (a : Disk) (valid : IsValid a) (blocked : List Spot) (x : Spot) (tells : TellsAbove a blocked x) where
  not_taken : (s : Spot) → IsFolderAbove s x → ¬ Contains blocked s → IsFolderOrAbsent a s
  not_taken s f off = by (open_or_taken (kind_of a s))
    where
      by : (kind_of a s ≡ Absent) ⊎ (kind_of a s ≡ Folder) ⊎ IsTaken a s → IsFolderOrAbsent a s
      by (inl k) = inl k
      by (inr k) = elim k [ inl l ↦ inr l | inr taken ↦ absurd (off ((tells s f).1 taken)) ]

  -- the folders above a place of these
  open_over : (y : Spot) → (IsBelow y x ⊎ (y ≡ x)) → NoneAbove blocked y → HasOpenParents a y
  open_over y within none s b = by s.names refl
    where
      above : IsBelow s x
      above = elim within [ inl c ↦ below-trans s y x b c | inr e ↦ subst (IsBelow s) e b ]

      by : (ns : List (List ℕ)) → s.names ≡ ns → IsFolderOrAbsent a s
      by [] e = inr (folder-kind a s (ap a.folders (λ i. record { root = s.root; names = e i }) ∙ valid.roots s.root))
      by (n ∷ ns) e = let some : s.names ≢ [] = λ h. (let t : n ∷ ns ≡ [] = sym e ∙ h in cc) in not_taken s (record { below = above; some = some }) (λ c. none s c (record { below = b; some = some }))

  pub open_parents : NoneAbove blocked x → HasOpenParents a x
  open_parents none = open_over x (inr refl) none

  pub outermost_is : (s : Spot) → IsOutermostOf blocked x s → IsOutermost a x s
  outermost_is s h = record { above = h.above.below; taken = (tells s h.above).0 h.among; outermost = open_over s (inl h.above.below) h.outermost }

-- One row

pub opens : (a : Disk) → IsValid a → (blocked : List Spot) (t : Row × Deed) → TellsFor a blocked t → NoneAboveTask blocked t → (x : Spot) → restored_spot t.0 t.1 ≡ Some x → HasOpenParents a x
opens a valid blocked t tells none x e = open_parents a valid blocked x (tells x e) (none x e)

pub none_over : (blocked : List Spot) (t : Row × Deed) (y : Spot) → Some y ≡ restored_spot t.0 t.1 → NoneAbove blocked y → NoneAboveTask blocked t
none_over blocked t y is none x e =
    let both : Some y ≡ Some x = is ∙ e in
    let same : y ≡ x = cc in
    subst (NoneAbove blocked) same none

pub refuses_parent : (a : Disk) → IsValid a → (blocked : List Spot) (t : Row × Deed) (e : SettleError) → TellsFor a blocked t → IsTaskBlocked blocked t e → Refuses (IsInTaskWay a t) e
refuses_parent a valid blocked t (Blocked place) tells h = inl (record { place = h.place; restored = h.restored; outermost = outermost_is a valid blocked h.place (tells h.place h.restored) (spot_of place) h.outermost })
refuses_parent a valid blocked t AsideFull tells h = absurd h
refuses_parent a valid blocked t Failed tells h = absurd h
refuses_parent a valid blocked t Memory tells h = tt

pub refuses_as : (P Q : Spot → Type 0) (e : SettleError) → ((x : Spot) → P x → Q x) → Refuses P e → Refuses Q e
refuses_as P Q (Blocked place) f h = f (spot_of place) h
refuses_as P Q AsideFull f h = h
refuses_as P Q Failed f h = tt
refuses_as P Q Memory f h = tt

module _ {A : Type 0} (seen : A → Row × Deed) (xs : List A) (i : ℕ) (x : A) (lt : i < length xs) (is : x ≡ get_or xs i x) where
  pub first_of : (a : Disk) (s : Spot) → AllByRecursion (IsOpen a) (map seen (take i xs)) → IsInTaskWay a (seen x) s → IsFirstOf a (map seen xs) s
  first_of a s passed there = record {
    front = map seen (take i xs);
    task = seen x;
    back = map seen (drop (suc i) xs);
    split = ap (map seen) (around xs i x lt is) ∙ map-append seen (take i xs) (x ∷ drop (suc i) xs);
    passed = passed;
    there = there;
  }
