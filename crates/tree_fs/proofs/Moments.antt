-- Facts of every disk along a story.
use Rattle.std.proofs.Common.{◌≡◌, ℕ, Bool, true, false, List, [], ◌∷◌, ◌++◌, refl, sym, ap, ◌∙◌, inl, inr, subst, append-nil}
use Rattle.std.specs.declared.result.Result.{Result}
use Rattle.std.specs.declared.result.Result.TheVariants.{Ok, Err}
use Rattle.tree_fs.specs.declared.op.Op.{Op}
use Rattle.tree_fs.specs.declared.tree.TreeError.{TreeError}
use Rattle.tree_fs.specs.Disk.{Disk, after, after_all}
use Rattle.tree_fs.specs.Story.{Story, disk_of, with_ops, Through, Along}
use Rattle.tree_fs.specs.declared.op.Op.TheVariants.{Create, Fill}
use Rattle.tree_fs.specs.declared.place.Place.{Place}
use Rattle.tree_fs.specs.Calls.{AddsMaybe, AddsOne, AddsNew}
use Rattle.tree_fs.proofs.Stories.{with_ops-none, with_ops-append, with_ops-same, disk_of-goes_on, AddsOne-maybe}

-- Through

pub through_first : (P : Disk → Type 0) (d : Disk) (ops : List Op) → Through P d ops → P d
through_first P d [] h = h
through_first P d (op ∷ ops) h = h.0

pub through_last : (P : Disk → Type 0) (d : Disk) (ops : List Op) → Through P d ops → P (after_all d ops)
through_last P d [] h = h
through_last P d (op ∷ ops) h = through_last P (after d op) ops h.1

pub through_append : (P : Disk → Type 0) (d : Disk) (xs ys : List Op) → Through P d xs → Through P (after_all d xs) ys → Through P d (xs ++ ys)
through_append P d [] ys a b = b
through_append P d (x ∷ xs) ys a b = (a.0, through_append P (after d x) xs ys a.1 b)

pub through_front : (P : Disk → Type 0) (d : Disk) (xs ys : List Op) → Through P d (xs ++ ys) → Through P d xs
through_front P d [] ys h = through_first P d ys h
through_front P d (x ∷ xs) ys h = (h.0, through_front P (after d x) xs ys h.1)

pub through_back : (P : Disk → Type 0) (d : Disk) (xs ys : List Op) → Through P d (xs ++ ys) → Through P (after_all d xs) ys
through_back P d [] ys h = h
through_back P d (x ∷ xs) ys h = through_back P (after d x) xs ys h.1

-- the fact holds after every prefix of the steps
pub through_prefix : (P : Disk → Type 0) (d : Disk) (xs ys : List Op) → Through P d (xs ++ ys) → P (after_all d xs)
through_prefix P d xs ys h = through_last P d xs (through_front P d xs ys h)

-- and that is all that is said
pub through_all : (P : Disk → Type 0) (d : Disk) (ops : List Op) → ((xs ys : List Op) → ops ≡ xs ++ ys → P (after_all d xs)) → Through P d ops
through_all P d [] h = h [] [] refl
through_all P d (op ∷ ops) h = (h [] (op ∷ ops) refl, through_all P (after d op) ops (λ xs ys e. h (op ∷ xs) ys (ap (λ l. op ∷ l) e)))

pub through_weaken : (P Q : Disk → Type 0) (d : Disk) (ops : List Op) → ((e : Disk) → P e → Q e) → Through P d ops → Through Q d ops
through_weaken P Q d [] to h = to d h
through_weaken P Q d (op ∷ ops) to h = (to d h.0, through_weaken P Q (after d op) ops to h.1)

pub through_both : (P Q : Disk → Type 0) (d : Disk) (ops : List Op) → Through P d ops → Through Q d ops → Through (λ e. P e × Q e) d ops
through_both P Q d [] h k = (h, k)
through_both P Q d (op ∷ ops) h k = ((h.0, k.0), through_both P Q (after d op) ops h.1 k.1)

-- what each step keeps
pub through_kept : (P : Disk → Type 0) (d : Disk) (ops : List Op) → ((e : Disk) (op : Op) → P e → P (after e op)) → P d → Through P d ops
through_kept P d [] keeps h = h
through_kept P d (op ∷ ops) keeps h = (h, through_kept P (after d op) ops keeps (keeps d op h))

-- Along

pub along_here : (P : Disk → Type 0) (s : Story) → P (disk_of s) → Along P s s
along_here P s h = record { ops = []; goes_on = sym (with_ops-none s); each = h }

pub along_op : (P : Disk → Type 0) (op : Op) (s t : Story) → t ≡ with_ops s (op ∷ []) → P (disk_of s) → P (after (disk_of s) op) → Along P s t
along_op P op s t is h k = record { ops = op ∷ []; goes_on = is; each = (h, k) }

pub along_first : (P : Disk → Type 0) (s t : Story) → Along P s t → P (disk_of s)
along_first P s t a = through_first P (disk_of s) a.ops a.each

pub along_last : (P : Disk → Type 0) (s t : Story) → Along P s t → P (disk_of t)
along_last P s t a = subst P (sym (disk_of-goes_on s t a.ops a.goes_on)) (through_last P (disk_of s) a.ops a.each)

pub along_trans : (P : Disk → Type 0) (s t u : Story) → Along P s t → Along P t u → Along P s u
along_trans P s t u a b = record {
  ops = a.ops ++ b.ops;
  goes_on = b.goes_on ∙ ap (λ (r : Story). with_ops r b.ops) a.goes_on ∙ with_ops-append s a.ops b.ops;
  each = through_append P (disk_of s) a.ops b.ops a.each (subst (λ e. Through P e b.ops) (disk_of-goes_on s t a.ops a.goes_on) b.each);
}

pub along_weaken : (P Q : Disk → Type 0) (s t : Story) → ((e : Disk) → P e → Q e) → Along P s t → Along Q s t
along_weaken P Q s t to a = record { ops = a.ops; goes_on = a.goes_on; each = through_weaken P Q (disk_of s) a.ops to a.each }

-- two facts of one run are one fact
pub along_both : (P Q : Disk → Type 0) (s t : Story) → Along P s t → Along Q s t → Along (λ e. P e × Q e) s t
along_both P Q s t a b =
    let e : b.ops ≡ a.ops = with_ops-same s b.ops a.ops (sym b.goes_on ∙ a.goes_on) in
    record { ops = a.ops; goes_on = a.goes_on; each = through_both P Q (disk_of s) a.ops a.each (subst (λ l. Through Q (disk_of s) l) e b.each) }

along_maybe : (P : Disk → Type 0) (op : Bool → Op) (s t : Story) → AddsMaybe op s t → P (disk_of s) → P (after (disk_of s) (op true)) → P (after (disk_of s) (op false)) → Along P s t
along_maybe P op s t adds here done not_done = elim adds [
  | inl nothing ↦ subst (λ u. Along P s u) (sym nothing) (along_here P s here)
  | inr step ↦ elim step [
    | inl is ↦ along_op P (op true) s t is here done
    | inr is ↦ along_op P (op false) s t is here not_done
  ]
]

-- a call of the tree: the fact holds before it, and after its step, done or not
pub along_adds : {T : Type 0} (P : Disk → Type 0) (op : Bool → Op) (s t : Story) (result : Result T TreeError) → AddsOne op s t result
    → P (disk_of s) → P (after (disk_of s) (op true)) → P (after (disk_of s) (op false)) → Along P s t
along_adds P op s t result adds here done not_done = along_maybe P op s t (AddsOne-maybe op s t result adds) here done not_done

-- a call that makes a file: the fact holds before it, of the new file without bytes, and with any first part of them
pub along_new : {T : Type 0} (P : Disk → Type 0) (at : Place) (bytes : List ℕ) (s t : Story) (result : Result T TreeError) → AddsNew at bytes s t result
    → P (disk_of s) → P (after (disk_of s) (Create at true))
    → ((front rest : List ℕ) → bytes ≡ front ++ rest → P (after (after (disk_of s) (Create at true)) (Fill at front true)))
    → Along P s t
along_new P at bytes s t (Ok answer) adds here made with = record {
  ops = Create at true ∷ Fill at bytes true ∷ [];
  goes_on = adds.ok;
  each = (here, (made, with bytes [] (sym (append-nil bytes))));
}
along_new P at bytes s t (Err e) adds here made with = elim adds.err [
  | inl first ↦ along_maybe P (Create at) s t first here made here
  | inr part ↦ record {
    ops = Create at true ∷ Fill at part.front part.done ∷ [];
    goes_on = part.adds;
    each = (here, (made, with_part part.front part.rest part.parts part.done));
  }
]
  where
    with_part : (front rest : List ℕ) → bytes ≡ front ++ rest → (done : Bool) → P (after (after (disk_of s) (Create at true)) (Fill at front done))
    with_part front rest is true = with front rest is
    with_part front rest is false = made

-- one call more
pub along_then : {T : Type 0} (P : Disk → Type 0) (op : Bool → Op) (s t u : Story) (result : Result T TreeError) → Along P s t → AddsOne op t u result
    → (P (disk_of t) → P (after (disk_of t) (op true))) → (P (disk_of t) → P (after (disk_of t) (op false))) → Along P s u
along_then P op s t u result a adds done not_done =
    let here = along_last P s t a in
    along_trans P s t u a (along_adds P op t u result adds here (done here) (not_done here))

-- a call that adds nothing
pub along_same : (P : Disk → Type 0) (s t u : Story) → Along P s t → u ≡ t → Along P s u
along_same P s t u a is = subst (λ v. Along P s v) (sym is) a

pub along_from : (P : Disk → Type 0) (r s t : Story) → r ≡ s → Along P s t → Along P r t
along_from P r s t is a = subst (λ v. Along P v t) (sym is) a

pub along_unchanged : (P : Disk → Type 0) (s t : Story) → t ≡ s → P (disk_of s) → Along P s t
along_unchanged P s t is h = along_same P s s t (along_here P s h) is

-- the fact holds after every prefix of the steps
pub along_prefix : (P : Disk → Type 0) (s t : Story) (xs ys : List Op) → Along P s t → t ≡ with_ops s (xs ++ ys) → P (after_all (disk_of s) xs)
along_prefix P s t xs ys a is =
    let e : a.ops ≡ xs ++ ys = with_ops-same s a.ops (xs ++ ys) (sym a.goes_on ∙ is) in
    through_prefix P (disk_of s) xs ys (subst (λ l. Through P (disk_of s) l) e a.each)
