-- What a new value and a sync do to a disk.
use Rattle.std.proofs.Common.{◌≡◌, ◌≢◌, ◌⊎◌, ℕ, ◌<◌, Bool, true, false, List, [], ◌∷◌, refl, sym, ap, ◌∙◌, arith, inl, inr, subst}
use Rattle.std.proofs.lemmas.Grind.{common_steps}
use Rattle.tree_fs.specs.Spot.{Spot, parent, is_entry}
use Rattle.tree_fs.specs.Disk.{Disk, Value, none, file, IsIn, MayHold, IsFile, IsValid, put, before_synced, synced}
use Rattle.tree_fs.proofs.Spots.{same_or_other}
use Rattle.tree_fs.proofs.Functions.{set_at-same, set_at-other}

pub in-now : (d : Disk) (q : Spot) → MayHold d q (d.now q)
in-now d q = inl refl

-- A new value.

pub now-put_at : (d : Disk) (p : Spot) (v : Value) → (put d p v).now p ≡ v
now-put_at d p v = set_at-same d.now p v

pub now-put_other : (d : Disk) (p : Spot) (v : Value) (q : Spot) → q ≢ p → (put d p v).now q ≡ d.now q
now-put_other d p v q ne = set_at-other d.now p v q ne

pub before-put_at : (d : Disk) (p : Spot) (v : Value) → (put d p v).before p ≡ d.now p ∷ d.before p
before-put_at d p v = set_at-same d.before p _

pub before-put_other : (d : Disk) (p : Spot) (v : Value) (q : Spot) → q ≢ p → (put d p v).before q ≡ d.before q
before-put_other d p v q ne = set_at-other d.before p _ q ne

pub MayHold-put_at : (d : Disk) (p : Spot) (v w : Value) → MayHold (put d p v) p w → (w ≡ v) ⊎ MayHold d p w
MayHold-put_at d p v w (inl e) = inl (e ∙ now-put_at d p v)
MayHold-put_at d p v w (inr h) = inr (subst (IsIn w) (before-put_at d p v) h)

pub MayHold-put_other : (d : Disk) (p q : Spot) (v w : Value) → q ≢ p → MayHold (put d p v) q w → MayHold d q w
MayHold-put_other d p q v w ne (inl e) = inl (e ∙ now-put_other d p v q ne)
MayHold-put_other d p q v w ne (inr h) = inr (subst (IsIn w) (before-put_other d p v q ne) h)

-- at any place, a value that was there, or the new one at its own
pub MayHold-put : (d : Disk) (p q : Spot) (v w : Value) → MayHold (put d p v) q w → ((q ≡ p) × (w ≡ v)) ⊎ MayHold d q w
MayHold-put d p q v w h = elim (same_or_other q p) [
  | inl same ↦ elim (MayHold-put_at d p v w (subst (λ s. MayHold (put d p v) s w) same h)) [
    | inl new ↦ inl (same, new)
    | inr old ↦ inr (subst (λ s. MayHold d s w) (sym same) old)
  ]
  | inr ne ↦ inr (MayHold-put_other d p q v w ne h)
]

-- what a place held it may hold still
pub MayHold-put_keeps : (d : Disk) (p q : Spot) (v w : Value) → MayHold d q w → MayHold (put d p v) q w
MayHold-put_keeps d p q v w h = elim (same_or_other q p) [
  | inl same ↦ subst (λ s. MayHold (put d p v) s w) (sym same) (inr (subst (IsIn w) (sym (before-put_at d p v)) (subst (λ s. MayHold d s w) same h)))
  | inr ne ↦ other ne h
]
  where
    other : q ≢ p → MayHold d q w → MayHold (put d p v) q w
    other ne (inl e) = inl (e ∙ sym (now-put_other d p v q ne))
    other ne (inr there) = inr (subst (IsIn w) (sym (before-put_other d p v q ne)) there)

pub MayHold-put_new : (d : Disk) (p : Spot) (v : Value) → MayHold (put d p v) p v
MayHold-put_new d p v = inl (sym (now-put_at d p v))

-- A sync.

pub before_synced_tells : (before : Spot → List Value) (folder q : Spot) → ((before_synced before folder q ≡ []) × (is_entry folder q ≡ true)) ⊎ ((before_synced before folder q ≡ before q) × (is_entry folder q ≡ false))
unfolding before_synced
before_synced_tells before folder q = grind (arith, common_steps)

pub before-synced_in : (d : Disk) (folder q : Spot) → is_entry folder q ≡ true → (synced d folder).before q ≡ []
before-synced_in d folder q e = elim (before_synced_tells d.before folder q) [ inl s ↦ s.0 | inr s ↦ let h : true ≡ false = sym e ∙ s.1 in absurd (cc) ]

pub before-synced_out : (d : Disk) (folder q : Spot) → is_entry folder q ≡ false → (synced d folder).before q ≡ d.before q
before-synced_out d folder q e = elim (before_synced_tells d.before folder q) [ inl s ↦ let h : true ≡ false = sym s.1 ∙ e in absurd (cc) | inr s ↦ s.0 ]

-- what was settled is settled still
pub before-synced_settled : (d : Disk) (folder q : Spot) → d.before q ≡ [] → (synced d folder).before q ≡ []
before-synced_settled d folder q e = elim (before_synced_tells d.before folder q) [ inl s ↦ s.0 | inr s ↦ s.0 ∙ e ]

-- a sync only takes values away
pub MayHold-synced : (d : Disk) (folder q : Spot) (v : Value) → MayHold (synced d folder) q v → MayHold d q v
MayHold-synced d folder q v (inl e) = inl e
MayHold-synced d folder q v (inr h) = elim (before_synced_tells d.before folder q) [
  | inl s ↦ absurd (subst (IsIn v) s.0 h)
  | inr s ↦ inr (subst (IsIn v) s.0 h)
]

pub MayHold-synced_in : (d : Disk) (folder q : Spot) (v : Value) → is_entry folder q ≡ true → MayHold (synced d folder) q v → v ≡ d.now q
MayHold-synced_in d folder q v e (inl is) = is
MayHold-synced_in d folder q v e (inr h) = absurd (subst (IsIn v) (before-synced_in d folder q e) h)

pub MayHold-synced_out : (d : Disk) (folder q : Spot) (v : Value) → is_entry folder q ≡ false → MayHold d q v → MayHold (synced d folder) q v
MayHold-synced_out d folder q v e (inl is) = inl is
MayHold-synced_out d folder q v e (inr h) = inr (subst (IsIn v) (sym (before-synced_out d folder q e)) h)

-- a place with nothing pending holds only what is there now
pub MayHold-settled : (d : Disk) (q : Spot) (v : Value) → d.before q ≡ [] → MayHold d q v → v ≡ d.now q
MayHold-settled d q v e (inl is) = is
MayHold-settled d q v e (inr h) = absurd (subst (IsIn v) e h)

-- What holds of every disk.

-- a file's place is no folder
pub file-no_folder : (d : Disk) (q : Spot) → IsValid d → IsFile d q → d.folders q ≡ false
file-no_folder d q valid is = by_test (d.folders q) refl
  where
    by_test : (b : Bool) → d.folders q ≡ b → d.folders q ≡ false
    by_test false e = e
    by_test true e = let f = is.1 in let n = valid.bare q e in absurd (cc)

-- what holds something now lies in a folder
pub now-in_folder : (d : Disk) (q : Spot) → IsValid d → d.now q ≢ none → d.folders (parent q) ≡ true
now-in_folder d q valid ne = valid.parents q (d.now q) (inl refl) ne

pub file-in_folder : (d : Disk) (q : Spot) → IsValid d → IsFile d q → d.folders (parent q) ≡ true
file-in_folder d q valid is = now-in_folder d q valid (λ e. let f = is.1 in cc)

pub file-number : (d : Disk) (q : Spot) (n : ℕ) → IsValid d → d.now q ≡ file n → n < d.fresh
file-number d q n valid e = valid.numbers q n (inl (sym e))

-- a new value may come where there is no folder, but in one
pub record TakesValue (d : Disk) (p : Spot) (v : Value) : Type 0 where
  pub no_folder : d.folders p ≡ false
  pub in_folder : (v ≢ none) → d.folders (parent p) ≡ true
  pub number : (n : ℕ) → v ≡ file n → n < d.fresh

pub valid-put : (d : Disk) (p : Spot) (v : Value) → IsValid d → TakesValue d p v → IsValid (put d p v)
valid-put d p v valid can = record {
  roots = valid.roots;
  nested = valid.nested;
  parents = λ q w h ne. elim (MayHold-put d p q v w h) [
    | inl new ↦ subst (λ s. d.folders (parent s) ≡ true) (sym new.0) (can.in_folder (λ gone. ne (new.1 ∙ gone)))
    | inr old ↦ valid.parents q w old ne
  ];
  bare = λ q e. elim (same_or_other q p) [
    | inl same ↦ let h : true ≡ false = sym e ∙ ap d.folders same ∙ can.no_folder in absurd (cc)
    | inr ne ↦ now-put_other d p v q ne ∙ valid.bare q e
  ];
  numbers = λ q n h. elim (MayHold-put d p q v (file n) h) [
    | inl new ↦ can.number n (sym new.1)
    | inr old ↦ valid.numbers q n old
  ];
}

pub valid-synced : (d : Disk) (folder : Spot) → IsValid d → IsValid (synced d folder)
valid-synced d folder valid = record {
  roots = valid.roots;
  nested = valid.nested;
  parents = λ q w h ne. valid.parents q w (MayHold-synced d folder q w h) ne;
  bare = valid.bare;
  numbers = λ q n h. valid.numbers q n (MayHold-synced d folder q (file n) h);
}
