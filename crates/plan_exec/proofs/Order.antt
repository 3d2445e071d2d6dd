-- The order of a plan's folders: what lies below another comes later, of the folders to take off earlier.
use Rattle.std.proofs.Common.{◌≡◌, ℕ, ◌+◌, ◌<◌, suc, length, get_or, take, drop, List, [], ◌∷◌, ◌++◌, refl, sym, ap, ◌∙◌, inl, inr, subst, append-nil}
use Rattle.std.specs.Prelude.{IfSome}
use Rattle.std.specs.List.{AllByRecursion, Contains}
use Rattle.std.specs.Ordering.{nat_cmp}
use Rattle.std.specs.Cmp.Lexicographic.{slice_cmp, nat_list_cmp_total}
use Rattle.std.specs.declared.cmp.Ordering.TheVariants.{Less}
use Rattle.std.specs.declared.option.Option.{Option}
use Rattle.std.specs.declared.option.Option.TheVariants.{None, Some}
use Rattle.std.proofs.lemmas.List.{append_cancel_left}
use Rattle.list_laws.proofs.Containing.{contains_here, contains_there, contains_cases, contains_none, contains_seam}
use Rattle.list_laws.proofs.Lists.{around}
use Rattle.list_laws.proofs.Alls.{all_left, all_right}
use Rattle.list_laws.proofs.Orders.{text_not_both, text_before_longer}
use Rattle.list_laws.proofs.Texts.{names_begin-test}
use Rattle.rel_paths.specs.Names.{names_of}
use Rattle.rel_paths.proofs.First.{told_names}
use Rattle.tree_fs.specs.declared.place.Root.{Root}
use Rattle.tree_fs.specs.declared.place.Place.{Place}
use Rattle.tree_fs.specs.Spot.{spot_of, IsBelow}
use Rattle.tree_fs.specs.Texts.{place_text, root_word, rel_text}
use Rattle.tree_fs.proofs.Texts.{place_cmp-one_root}
use Rattle.move_plan.specs.declared.plan.Plan.{Plan}
use Rattle.move_plan.specs.Entries.{Entry, folder, save, set, clear, off, key_of, Listed, listed}
use Rattle.move_plan.specs.Rules.{in_order, ComesBefore, InOrder, PassesRules}

-- a place below another has the greater text

below_text : (r : Root) (t o : List ℕ) (n : List ℕ) (ns : List (List ℕ)) → names_of t ≡ names_of o ++ n ∷ ns → slice_cmp nat_cmp (root_word r ++ 47 ∷ o) (root_word r ++ 47 ∷ t) ≡ Less
below_text r t o n ns e = elim (told_names t o (names_begin-test (names_of t) (names_of o) (n ∷ ns) e)) [
  | inl same ↦
      let h : n ∷ ns ≡ [] = append_cancel_left (names_of o) (n ∷ ns) [] (sym e ∙ ap names_of same ∙ sym (append-nil (names_of o))) in
      absurd (cc)
  | inr longer ↦ place_cmp-one_root r (47 ∷ o) (47 ∷ t) ∙ ap (λ u. slice_cmp nat_cmp (47 ∷ o) (47 ∷ u)) longer.1 ∙ text_before_longer (47 ∷ o) 47 longer.0
]

below_rel : (r : Root) (a b : Option (List ℕ)) → IsBelow (spot_of (record { root = r; rel = a })) (spot_of (record { root = r; rel = b })) → slice_cmp nat_cmp (root_word r ++ rel_text a) (root_word r ++ rel_text b) ≡ Less
below_rel r None None b = absurd (cc)
below_rel r (Some o) None b = absurd (empty (names_of o) b.name b.rest b.names)
  where
    empty : (l : List (List ℕ)) (n : List ℕ) (ns : List (List ℕ)) → [] ≡ l ++ n ∷ ns → ⊥
    empty [] n ns e = cc
    empty (x ∷ xs) n ns e = cc
below_rel r None (Some t) b = place_cmp-one_root r [] (47 ∷ t) ∙ text_before_longer [] 47 t
below_rel r (Some o) (Some t) b = below_text r t o b.name b.rest b.names

pub below-comes : (p q : Place) → IsBelow (spot_of p) (spot_of q) → ComesBefore p q
below-comes p q b =
    let root : p.root ≡ q.root = sym b.root in
    subst (λ s. slice_cmp nat_cmp (root_word p.root ++ rel_text p.rel) (root_word s ++ rel_text q.rel) ≡ Less) root
    (below_rel p.root p.rel q.rel (record { root = refl; name = b.name; rest = b.rest; names = b.names }))

-- in a list that is in order, what comes before an item stands in front of it
module _ (R : Place → Place → Type 0) (trans : (p q r : Place) → R p q → R q r → R p r) (not_both : (p q : Place) → R p q → R q p → ⊥) (to : Place → Entry) (keys : (p : Place) → key_of (to p) ≡ p) (steps : (p : Place) (front : Option Place) → InOrder (to p) front → IfSome front (λ q. R q p)) where
  abbrev Rises : ℕ → Option Place → List Place → Type 0
  Rises i front l = AllByRecursion (λ (x : Listed). InOrder x.entry x.front) (listed to i front l)

  after_front : (i : ℕ) (q : Place) (l : List Place) → Rises i (Some q) l → (a : Place) → Contains l a → R q a
  after_front i q [] all a c = absurd (contains_none a c)
  after_front i q (x ∷ xs) all a c = elim (contains_cases x a xs c) [
    | inl same ↦ subst (λ y. R q y) (sym same) (steps x (Some q) all.0)
    | inr there ↦ trans q x a (steps x (Some q) all.0) (subst (λ p. R p a) (keys x) (after_front (i + 1) (key_of (to x)) xs all.1 a there))
  ]

  in_front : (i : ℕ) (o : Option Place) (front later : List Place) (at x : Place) → Rises i o (front ++ at ∷ later) → Contains (front ++ at ∷ later) x → R x at → Contains front x
  in_front i o [] later at x all c before = elim (contains_cases at x later c) [
    | inl same ↦ let h = subst (λ y. R y at) same before in absurd (not_both at at h h)
    | inr there ↦ absurd (not_both x at before (subst (λ p. R p x) (keys at) (after_front (i + 1) (key_of (to at)) later all.1 x there)))
  ]
  in_front i o (f ∷ fs) later at x all c before = elim (contains_cases f x (fs ++ at ∷ later) c) [
    | inl same ↦ subst (λ y. Contains (f ∷ fs) y) (sym same) (contains_here f fs)
    | inr there ↦ contains_there f x fs (in_front (i + 1) (Some (key_of (to f))) fs later at x all.1 there before)
  ]

  -- and it comes before it
  front_before : (i : ℕ) (o : Option Place) (front later : List Place) (at x : Place) → Rises i o (front ++ at ∷ later) → Contains front x → R x at
  front_before i o [] later at x all c = absurd (contains_none x c)
  front_before i o (f ∷ fs) later at x all c = elim (contains_cases f x fs c) [
    | inl same ↦ subst (λ y. R y at) (sym same) (subst (λ p. R p at) (keys f) (after_front (i + 1) (key_of (to f)) (fs ++ at ∷ later) all.1 at (contains_seam fs at later)))
    | inr there ↦ front_before (i + 1) (Some (key_of (to f))) fs later at x all.1 there
  ]

before_trans : (p q r : Place) → ComesBefore p q → ComesBefore q r → ComesBefore p r
before_trans p q r a b = nat_list_cmp_total.trans (place_text p) (place_text q) (place_text r) a b

before_both : (p q : Place) → ComesBefore p q → ComesBefore q p → ⊥
before_both p q a b = text_not_both (place_text p) (place_text q) a b

module _ (plan : Plan) (passes : PassesRules plan) where
  abbrev Ordered : List Listed → Type 0
  Ordered = AllByRecursion (λ (x : Listed). InOrder x.entry x.front)

  -- of the folders to make
  pub above_first : (front later : List Place) (at x : Place) → plan.folders ≡ front ++ at ∷ later → Contains plan.folders x → IsBelow (spot_of x) (spot_of at) → Contains front x
  above_first front later at x split c below =
      let all = all_left (λ (y : Listed). InOrder y.entry y.front) (listed folder 0 None plan.folders) _ (passes in_order) in
      in_front ComesBefore before_trans before_both folder (λ p. refl) (λ p o h. h) 0 None front later at x
      (subst (λ l. Ordered (listed folder 0 None l)) split all) (subst (λ l. Contains l x) split c) (below-comes x at below)

  off_order : Ordered (listed off 0 None plan.folders_off)
  off_order =
      let Q = λ (y : Listed). InOrder y.entry y.front in
      let one = all_right Q (listed folder 0 None plan.folders) _ (passes in_order) in
      let two = all_right Q (listed save 0 None plan.saves) _ one in
      let three = all_right Q (listed set 0 None plan.sets) _ two in
      all_right Q (listed clear 0 None plan.clears) _ three

  -- of the folders to take off
  pub below_first : (front later : List Place) (at x : Place) → plan.folders_off ≡ front ++ at ∷ later → Contains plan.folders_off x → IsBelow (spot_of at) (spot_of x) → Contains front x
  below_first front later at x split c below =
      in_front (λ p q. ComesBefore q p) (λ p q r a b. before_trans r q p b a) (λ p q a b. before_both q p a b) off (λ p. refl) (λ p o h. h) 0 None front later at x
      (subst (λ l. Ordered (listed off 0 None l)) split off_order) (subst (λ l. Contains l x) split c) (below-comes at x below)

  -- none lies below one that was taken before it
  pub later_apart : (i : ℕ) (at : Place) → i < length plan.folders_off → at ≡ get_or plan.folders_off i at → (x : Place) → Contains (take i plan.folders_off) x → ¬ IsBelow (spot_of x) (spot_of at)
  later_apart i at lt is x c below =
      let split = around plan.folders_off i at lt is in
      let comes : ComesBefore at x = front_before (λ p q. ComesBefore q p) (λ p q r a b. before_trans r q p b a) (λ p q a b. before_both q p a b) off (λ p. refl) (λ p o h. h) 0 None
      (take i plan.folders_off) (drop (suc i) plan.folders_off) at x (subst (λ l. Ordered (listed off 0 None l)) split off_order) c in
      before_both x at (below-comes x at below) comes
