-- Stories: what comes after what.
use Rattle.std.proofs.Common.{◌≡◌, ◌⊎◌, ℕ, Bool, true, false, List, [], ◌∷◌, ◌++◌, refl, sym, ap, ◌∙◌, inl, inr, subst, append_assoc, append-nil, IfOk, OnOk}
use Rattle.std.proofs.lemmas.List.{append_cancel_left}
use Rattle.std.specs.declared.result.Result.{Result}
use Rattle.std.specs.declared.result.Result.TheVariants.{Ok, Err}
use Rattle.tree_fs.specs.declared.op.Op.{Op}
use Rattle.tree_fs.specs.declared.tree.TreeError.{TreeError}
use Rattle.tree_fs.specs.Disk.{Disk, after, after_all}
use Rattle.tree_fs.specs.Story.{Story, disk_of, with_ops}
use Rattle.tree_fs.specs.declared.op.Op.TheVariants.{Create, Fill}
use Rattle.tree_fs.specs.declared.place.Place.{Place}
use Rattle.tree_fs.specs.Calls.{AddsMaybe, AddsOne, AddsNew}

pub after_all-append : (d : Disk) (a b : List Op) → after_all d (a ++ b) ≡ after_all (after_all d a) b
after_all-append d [] b = refl
after_all-append d (op ∷ a) b = after_all-append (after d op) a b

pub with_ops-none : (s : Story) → with_ops s [] ≡ s
with_ops-none s = λ i. record { start = s.start; ops = append-nil s.ops i }

pub with_ops-append : (s : Story) (a b : List Op) → with_ops (with_ops s a) b ≡ with_ops s (a ++ b)
with_ops-append s a b = λ i. record { start = s.start; ops = append_assoc s.ops a b i }

-- a story goes on in one way only
pub with_ops-same : (s : Story) (a b : List Op) → with_ops s a ≡ with_ops s b → a ≡ b
with_ops-same s a b e = append_cancel_left s.ops a b (ap (λ (t : Story). t.ops) e)

pub disk_of-with_ops : (s : Story) (a : List Op) → disk_of (with_ops s a) ≡ after_all (disk_of s) a
disk_of-with_ops s a = after_all-append s.start s.ops a

pub disk_of-goes_on : (old new : Story) (a : List Op) → new ≡ with_ops old a → disk_of new ≡ after_all (disk_of old) a
disk_of-goes_on old new a is = ap disk_of is ∙ disk_of-with_ops old a

-- the disk after a call of one step that answered Ok
pub disk_of-ok : {T : Type 0} (op : Bool → Op) (old new : Story) (answer : T) → AddsOne op old new (Ok answer) → disk_of new ≡ after (disk_of old) (op true)
disk_of-ok op old new answer adds = disk_of-goes_on old new (op true ∷ []) adds.ok

-- whatever it answered, the disk is as before, or after the step done or not done
pub AddsOne-maybe : {T : Type 0} (op : Bool → Op) (old new : Story) (result : Result T TreeError) → AddsOne op old new result → AddsMaybe op old new
AddsOne-maybe op old new (Ok answer) adds = inr (inl adds.ok)
AddsOne-maybe op old new (Err e) adds = adds.err

pub disk_of-any : {T : Type 0} (op : Bool → Op) (old new : Story) (result : Result T TreeError) → AddsOne op old new result
    → (disk_of new ≡ disk_of old) ⊎ (disk_of new ≡ after (disk_of old) (op true)) ⊎ (disk_of new ≡ after (disk_of old) (op false))
disk_of-any op old new result adds = elim (AddsOne-maybe op old new result adds) [
  | inl nothing ↦ inl (ap disk_of nothing)
  | inr step ↦ elim step [
    | inl done ↦ inr (inl (disk_of-goes_on old new (op true ∷ []) done))
    | inr not_done ↦ inr (inr (disk_of-goes_on old new (op false ∷ []) not_done))
  ]
]

-- what the step keeps, done or not, the call keeps
pub AddsOne-keeps : {T : Type 0} (P : Disk → Type 0) (op : Bool → Op) (old new : Story) (result : Result T TreeError) → AddsOne op old new result
    → P (disk_of old) → P (after (disk_of old) (op true)) → P (after (disk_of old) (op false)) → P (disk_of new)
AddsOne-keeps P op old new result adds here done not_done = elim (disk_of-any op old new result adds) [
  | inl e ↦ subst P (sym e) here
  | inr step ↦ elim step [ inl e ↦ subst P (sym e) done | inr e ↦ subst P (sym e) not_done ]
]

-- the disk after a call that made a file with these bytes and answered Ok
pub disk_of-new : {T : Type 0} (at : Place) (bytes : List ℕ) (old new : Story) (answer : T) → AddsNew at bytes old new (Ok answer)
    → disk_of new ≡ after (after (disk_of old) (Create at true)) (Fill at bytes true)
disk_of-new at bytes old new answer adds = disk_of-goes_on old new (Create at true ∷ Fill at bytes true ∷ []) adds.ok

-- a fact of the disk after the step, where the call answered Ok
pub AddsOne-if_ok : {T : Type 0} (P : Disk → Type 0) (op : Bool → Op) (old new : Story) (result : Result T TreeError) → AddsOne op old new result → P (after (disk_of old) (op true)) → IfOk result (λ _. P (disk_of new))
AddsOne-if_ok P op old new (Ok answer) adds h = subst P (sym (disk_of-ok op old new answer adds)) h
AddsOne-if_ok P op old new (Err e) adds h = tt

pub AddsNew-if_ok : {T : Type 0} (P : Disk → Type 0) (at : Place) (bytes : List ℕ) (old new : Story) (result : Result T TreeError) → AddsNew at bytes old new result
    → P (after (after (disk_of old) (Create at true)) (Fill at bytes true)) → IfOk result (λ _. P (disk_of new))
AddsNew-if_ok P at bytes old new (Ok answer) adds h = subst P (sym (disk_of-new at bytes old new answer adds)) h
AddsNew-if_ok P at bytes old new (Err e) adds h = tt

pub AddsOne-on_ok : {T : Type 0} (P : Disk → Type 0) (op : Bool → Op) (old new : Story) (result : Result T TreeError) → AddsOne op old new result → P (after (disk_of old) (op true)) → OnOk result (P (disk_of new))
AddsOne-on_ok P op old new (Ok answer) adds h = subst P (sym (disk_of-ok op old new answer adds)) h
AddsOne-on_ok P op old new (Err e) adds h = tt
