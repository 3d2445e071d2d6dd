-- How many folders are synced.
use Rattle.std.proofs.Common.{[], ◌≡◌, ℕ, ◌+◌, ◌≤◌, Bool, true, false, List, ◌∷◌, ◌++◌, length, sym, ap, ◌∙◌, inl, inr, subst, arith, Result}
use Rattle.std.specs.List.{filter}
use Rattle.std.specs.declared.result.Result.TheVariants.{Ok, Err}
use Rattle.std.proofs.lemmas.List.{length-append}
use Rattle.std.proofs.lemmas.List.Elements.{filter-append}
use Rattle.tree_fs.specs.declared.op.Op.{Op}
use Rattle.tree_fs.specs.declared.op.Op.TheVariants.{Create, Fill}
use Rattle.tree_fs.specs.declared.place.Place.{Place}
use Rattle.tree_fs.specs.declared.tree.TreeError.{TreeError}
use Rattle.tree_fs.specs.Story.{Story, with_ops}
use Rattle.tree_fs.specs.Calls.{AddsOne, AddsMaybe, AddsNew}
use Rattle.tree_fs.proofs.Stories.{with_ops-none, with_ops-append, AddsOne-maybe}
use Rattle.intent_journal.specs.Counts.{is_sync, SyncsAtMost}

pub syncs_none : (s : Story) → SyncsAtMost 0 s s
syncs_none s = record { ops = []; goes_on = sym (with_ops-none s); count = omega arith }

pub syncs_more : (m n : ℕ) (s t : Story) → m ≤ n → SyncsAtMost m s t → SyncsAtMost n s t
syncs_more m n s t le h = record { ops = h.ops; goes_on = h.goes_on; count = let c = h.count in omega arith }

pub syncs_trans : (m n : ℕ) (s t u : Story) → SyncsAtMost m s t → SyncsAtMost n t u → SyncsAtMost (m + n) s u
syncs_trans m n s t u h k = record {
  ops = h.ops ++ k.ops;
  goes_on = k.goes_on ∙ ap (λ (r : Story). with_ops r k.ops) h.goes_on ∙ with_ops-append s h.ops k.ops;
  count =
      let c = h.count in
      let d = k.count in
      let e : length (filter is_sync (h.ops ++ k.ops)) ≡ length (filter is_sync h.ops) + length (filter is_sync k.ops) = ap length (filter-append is_sync h.ops k.ops) ∙ length-append (filter is_sync h.ops) (filter is_sync k.ops) in
      omega arith;
}

syncs_op : (n : ℕ) (op : Op) (s t : Story) → length (filter is_sync (op ∷ [])) ≤ n → t ≡ with_ops s (op ∷ []) → SyncsAtMost n s t
syncs_op n op s t le is = record { ops = op ∷ []; goes_on = is; count = le }

syncs_maybe : (n : ℕ) (op : Bool → Op) (s t : Story) → ((done : Bool) → length (filter is_sync (op done ∷ [])) ≤ n) → AddsMaybe op s t → SyncsAtMost n s t
syncs_maybe n op s t le adds = elim adds [
  | inl nothing ↦ subst (λ u. SyncsAtMost n s u) (sym nothing) (syncs_more 0 n s s (omega arith) (syncs_none s))
  | inr step ↦ elim step [ inl is ↦ syncs_op n (op true) s t (le true) is | inr is ↦ syncs_op n (op false) s t (le false) is ]
]

pub syncs_adds : {T : Type 0} (n : ℕ) (op : Bool → Op) (s t : Story) (r : Result T TreeError) → ((done : Bool) → length (filter is_sync (op done ∷ [])) ≤ n) → AddsOne op s t r → SyncsAtMost n s t
syncs_adds n op s t r le adds = syncs_maybe n op s t le (AddsOne-maybe op s t r adds)

pub syncs_same : (s t : Story) → t ≡ s → SyncsAtMost 0 s t
syncs_same s t is = subst (λ u. SyncsAtMost 0 s u) (sym is) (syncs_none s)

-- a call that adds nothing, then one that adds a step
pub syncs_after : {T : Type 0} (n : ℕ) (op : Bool → Op) (s t u : Story) (r : Result T TreeError) → ((done : Bool) → length (filter is_sync (op done ∷ [])) ≤ n) → t ≡ s → AddsOne op t u r → SyncsAtMost n s u
syncs_after n op s t u r le is adds = syncs_adds n op s u r le (subst (λ q. AddsOne op q u r) is adds)

-- a new file
pub syncs_new : {T : Type 0} (at : Place) (bytes : List ℕ) (s t : Story) (r : Result T TreeError) → AddsNew at bytes s t r → SyncsAtMost 0 s t
syncs_new at bytes s t (Ok a) adds = record { ops = Create at true ∷ Fill at bytes true ∷ []; goes_on = adds.ok; count = omega arith }
syncs_new at bytes s t (Err e) adds = elim adds.err [
  | inl first ↦ syncs_maybe 0 (Create at) s t (λ done. omega arith) first
  | inr part ↦ record { ops = Create at true ∷ Fill at part.front part.done ∷ []; goes_on = part.adds; count = omega arith }
]
