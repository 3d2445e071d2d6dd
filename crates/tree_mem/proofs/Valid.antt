-- What is added to a valid disk leaves it valid.
use Rattle.std.proofs.Common.{◌≡◌, ◌≢◌, ◌⊎◌, inl, inr, ℕ, ◌<◌, ◌≤◌, true, false, not, List, [], ◌∷◌, refl, sym, ap, subst, ◌∙◌, arith}
use Rattle.tree_fs.specs.Spot.{Spot, has_some, root_spot, parent, front_names}
use Rattle.tree_fs.specs.Disk.{Disk, Value, none, file, odd, IsIn, MayHold, IsFile, IsValid, set_at}
use Rattle.tree_fs.proofs.Functions.{set_at_tells}
use Rattle.tree_fs.specs.Calls.{CanPut}
use Rattle.tree_mem.specs.Changed.{empty_disk, with_file, with_link, with_folder, without_file, edited, settled_at}

-- a folder whose parent has no names is a root
no_names : (xs : List (List ℕ)) → not (has_some xs) ≡ true → not (has_some (front_names xs)) ≡ true
no_names [] e = refl
no_names (x ∷ []) e = refl
no_names (x ∷ y ∷ ys) e = e

pub valid_empty : IsValid empty_disk
unfolding parent
valid_empty = record {
  roots = λ r. refl;
  nested = λ q e. no_names q.names e;
  parents = λ q v h ne. absurd (nothing v h ne);
  bare = λ q e. refl;
  numbers = λ q n h. absurd (no_number n h);
}
  where
    nothing : (v : Value) → (v ≡ none) ⊎ ⊥ → v ≢ none → ⊥
    nothing v (inl e) ne = ne e
    nothing v (inr h) ne = h

    no_number : (n : ℕ) → (file n ≡ none) ⊎ ⊥ → ⊥
    no_number n (inl e) = cc
    no_number n (inr h) = h

-- a place is given a file, settled
valid_set : (d e : Disk) (at : Spot) (k : ℕ) → IsValid d → CanPut d at → ((q : Spot) → e.folders q ≡ d.folders q) → ((q : Spot) → e.now q ≡ set_at d.now at (file k) q) → ((q : Spot) → e.before q ≡ d.before q)
    → d.fresh ≤ e.fresh → k < e.fresh → IsValid e
valid_set d e at k valid can folders now before more known = record {
  roots = λ r. folders (root_spot r) ∙ valid.roots r;
  nested = λ q t. folders (parent q) ∙ valid.nested q (sym (folders q) ∙ t);
  parents = λ q v h ne. folders (parent q) ∙ parents_of q v h ne;
  bare = λ q t. now q ∙ bare_of q (sym (folders q) ∙ t);
  numbers = λ q n h. number_of q n h;
}
  where
    may : (q : Spot) (v : Value) → MayHold e q v → ((q ≡ at) × (v ≡ file k)) ⊎ MayHold d q v
    may q v (inl is) = elim (set_at_tells d.now at (file k) q) [ inl here ↦ inl (here.1, is ∙ now q ∙ here.0) | inr other ↦ inr (inl (is ∙ now q ∙ other.0)) ]
    may q v (inr h) = inr (inr (subst (IsIn v) (before q) h))

    parents_of : (q : Spot) (v : Value) → MayHold e q v → v ≢ none → d.folders (parent q) ≡ true
    parents_of q v h ne = elim (may q v h) [ inl here ↦ ap (λ p. d.folders (parent p)) here.0 ∙ can.in_folder | inr old ↦ valid.parents q v old ne ]

    bare_of : (q : Spot) → d.folders q ≡ true → set_at d.now at (file k) q ≡ none
    bare_of q t = elim (set_at_tells d.now at (file k) q) [
      | inl here ↦ let both : true ≡ false = sym t ∙ ap d.folders here.1 ∙ can.no_folder in absurd (cc)
      | inr other ↦ other.0 ∙ valid.bare q t
    ]

    number_of : (q : Spot) (n : ℕ) → MayHold e q (file n) → n < e.fresh
    number_of q n h = elim (may q (file n) h) [
      | inl here ↦ let same : n ≡ k = cc (here.1) in omega arith
      | inr old ↦ let known : n < d.fresh = valid.numbers q n old in omega arith
    ]

pub valid_file : (d : Disk) (at : Spot) (bytes : List ℕ) → IsValid d → CanPut d at → IsValid (with_file d at bytes)
valid_file d at bytes valid can = valid_set d (with_file d at bytes) at d.fresh valid can (λ q. refl) (λ q. refl) (λ q. refl) (omega arith) (omega arith)

pub valid_link : (d : Disk) (from to : Spot) → IsValid d → IsFile d from → CanPut d to → IsValid (with_link d from to)
valid_link d from to valid source can =
    valid_set d (with_link d from to) to source.0 valid can (λ q. refl) (λ q. ap (λ v. set_at d.now to v q) source.1) (λ q. refl) (omega arith) (valid.numbers from source.0 (inl (sym source.1)))

pub valid_folder : (d : Disk) (at : Spot) → IsValid d → CanPut d at → IsValid (with_folder d at)
valid_folder d at valid can = record {
  roots = λ r. stays (root_spot r) (valid.roots r);
  nested = λ q t. elim (set_at_tells d.folders at true q) [
    | inl here ↦ stays (parent q) (ap (λ p. d.folders (parent p)) here.1 ∙ can.in_folder)
    | inr other ↦ stays (parent q) (valid.nested q (sym other.0 ∙ t))
  ];
  parents = λ q v h ne. stays (parent q) (valid.parents q v h ne);
  bare = λ q t. elim (set_at_tells d.folders at true q) [ inl here ↦ ap d.now here.1 ∙ can.absent | inr other ↦ valid.bare q (sym other.0 ∙ t) ];
  numbers = valid.numbers;
}
  where
    stays : (q : Spot) → d.folders q ≡ true → set_at d.folders at true q ≡ true
    stays q t = elim (set_at_tells d.folders at true q) [ inl here ↦ here.0 | inr other ↦ other.0 ∙ t ]

-- fewer values, the same folders, no fewer files
valid_fewer : (d e : Disk) → ((q : Spot) → e.folders q ≡ d.folders q) → ((q : Spot) (v : Value) → MayHold e q v → (v ≡ none) ⊎ MayHold d q v) → ((q : Spot) → (e.now q ≡ none) ⊎ (e.now q ≡ d.now q)) → d.fresh ≤ e.fresh → IsValid d → IsValid e
valid_fewer d e folders may now more valid = record {
  roots = λ r. folders (root_spot r) ∙ valid.roots r;
  nested = λ q t. folders (parent q) ∙ valid.nested q (sym (folders q) ∙ t);
  parents = λ q v h ne. folders (parent q) ∙ elim (may q v h) [ inl is ↦ absurd (ne is) | inr old ↦ valid.parents q v old ne ];
  bare = λ q t. elim (now q) [ inl is ↦ is | inr same ↦ same ∙ valid.bare q (sym (folders q) ∙ t) ];
  numbers = λ q n h. elim (may q (file n) h) [ inl is ↦ absurd (cc is) | inr old ↦ let known : n < d.fresh = valid.numbers q n old in omega arith ];
}

pub valid_settled : (d : Disk) (at : Spot) → IsValid d → IsValid (settled_at d at)
valid_settled d at valid = valid_fewer d (settled_at d at) (λ q. refl) fewer (λ q. inr refl) (omega arith) valid
  where
    fewer : (q : Spot) (v : Value) → MayHold (settled_at d at) q v → (v ≡ none) ⊎ MayHold d q v
    fewer q v (inl is) = inr (inl is)
    fewer q v (inr h) = elim (set_at_tells d.before at [] q) [ inl here ↦ absurd (subst (IsIn v) here.0 h) | inr other ↦ inr (inr (subst (IsIn v) other.0 h)) ]

pub valid_edited : (d : Disk) (w : Value) (bytes : List ℕ) → IsValid d → IsValid (edited d w bytes)
valid_edited d (file n) bytes valid = valid_fewer d (edited d (file n) bytes) (λ q. refl) (λ q v h. inr h) (λ q. inr refl) (omega arith) valid
valid_edited d none bytes valid = valid
valid_edited d odd bytes valid = valid

pub valid_removed : (d : Disk) (at : Spot) → IsValid d → IsValid (without_file d at)
valid_removed d at valid = valid_fewer d (without_file d at) (λ q. refl) fewer (λ q. elim (set_at_tells d.now at none q) [ inl here ↦ inl here.0 | inr other ↦ inr other.0 ]) (omega arith) valid
  where
    fewer : (q : Spot) (v : Value) → MayHold (without_file d at) q v → (v ≡ none) ⊎ MayHold d q v
    fewer q v (inl is) = elim (set_at_tells d.now at none q) [ inl here ↦ inl (is ∙ here.0) | inr other ↦ inr (inl (is ∙ other.0)) ]
    fewer q v (inr h) = inr (inr h)
