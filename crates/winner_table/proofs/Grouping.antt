-- Pairs of equal paths, which stand side by side, become one path with all its nodes.
use Rattle.std.proofs.Common.{◌≡◌, ◌≢◌, ℕ, ◌<◌, ◌+◌, Bool, true, false, cond, List, [], ◌∷◌, ◌++◌, length, map, filter, sym, refl, ap, subst, ◌∙◌, inl, inr, arith, true≢false}
use Rattle.std.specs.List.{AllByRecursion, Contains}
use Rattle.std.specs.List.Sorted.{IsStrictlySortedBy}
use Rattle.std.specs.Str.{bytes_eq}
use Rattle.std.specs.Ordering.{nat_cmp, is_lt, is_eq, ordering_reverse}
use Rattle.std.specs.Cmp.Lexicographic.{slice_cmp, nat_list_cmp_total}
use Rattle.std.specs.declared.cmp.Ordering.{Ordering}
use Rattle.std.specs.declared.cmp.Ordering.TheVariants.{Less, Equal, Greater}
use Rattle.std.proofs.lemmas.Slice.Eq.{bytes_eq-Decides}
use Rattle.std.proofs.lemmas.Cmp.{tied_itself}
use Rattle.std.proofs.lemmas.Map.Text.{is_eq-slice_cmp}
use Rattle.list_laws.proofs.Alls.{all_weaken, all_both, all_map, all_unmap, all_item, all_from_contains}
use Rattle.list_laws.proofs.Containing.{contains_here, contains_there, contains_cases, contains_none}
use Rattle.stage_scan.specs.Files.{AreInPathOrder}
use Rattle.list_laws.proofs.Texts.{bytes_eq-apart}
use Rattle.list_laws.proofs.Orders.{text_less-apart}
use Rattle.winner_table.specs.Offers.{put_group, grouped, HasPath, BeginsOther}
use Rattle.winner_table.specs.Merged.{is_below}
use Rattle.winner_table.proofs.Sorting.{either}
use Rattle.winner_table.proofs.StableSorts.{Rises}

abbrev pub Pair : Type 0
Pair = List ℕ × ℕ

abbrev pub Group : Type 0
Group = List ℕ × List ℕ

abbrev pub path : Pair → List ℕ
path x = x.0

abbrev pub node : Pair → ℕ
node x = x.1

abbrev pub at : List ℕ → Pair → Bool
at p x = bytes_eq p x.0

abbrev pub group_path : Group → List ℕ
group_path g = g.0

-- Equal texts

pub equal : (p q : List ℕ) → p ≡ q → bytes_eq p q ≡ true
equal p q e = (bytes_eq-Decides p q).1 e

pub same : (p q : List ℕ) → bytes_eq p q ≡ true → p ≡ q
same p q e = (bytes_eq-Decides p q).0 e

pub below_differs : (p q : List ℕ) → slice_cmp nat_cmp p q ≡ Less → bytes_eq p q ≡ false
below_differs p q below = bytes_eq-apart p q (text_less-apart p q below)

pub above_differs : (p q : List ℕ) → slice_cmp nat_cmp p q ≡ Less → bytes_eq q p ≡ false
above_differs p q below = bytes_eq-apart q p (λ e. text_less-apart p q below (sym e))

-- A group in front

head_of : (p : List ℕ) (k : ℕ) (gs : List Group) → (ns : List ℕ) × (rest : List Group) × (put_group p k gs ≡ (p, k ∷ ns) ∷ rest)
head_of p k [] = ([], [], refl)
head_of p k (g ∷ gs) = elim (either (bytes_eq p g.0)) [
  | inl e ↦ (g.1, gs, ap (λ b. cond b ((p, k ∷ g.1) ∷ gs) ((p, k ∷ []) ∷ g ∷ gs)) e)
  | inr e ↦ ([], g ∷ gs, ap (λ b. cond b ((p, k ∷ g.1) ∷ gs) ((p, k ∷ []) ∷ g ∷ gs)) e)
]

put_other : (p : List ℕ) (k : ℕ) (rest : List Pair) → BeginsOther p rest → put_group p k (grouped rest) ≡ (p, k ∷ []) ∷ grouped rest
put_other p k [] h = refl
put_other p k (x ∷ xs) h =
    let r = head_of x.0 x.1 (grouped xs) in
    let g : Group = (x.0, x.1 ∷ r.0) in
    subst (λ gs. put_group p k gs ≡ (p, k ∷ []) ∷ gs) (sym r.2) (ap (λ b. cond b ((p, k ∷ g.1) ∷ r.1) ((p, k ∷ []) ∷ g ∷ r.1)) h)

put_same : (p q : List ℕ) (k : ℕ) (ns : List ℕ) (gs : List Group) → q ≡ p → put_group q k ((p, ns) ∷ gs) ≡ (p, k ∷ ns) ∷ gs
put_same p q k ns gs e =
    ap (λ b. cond b ((q, k ∷ ns) ∷ gs) ((q, k ∷ []) ∷ (p, ns) ∷ gs)) (equal q p e) ∙ ap (λ r. (r, k ∷ ns) ∷ gs) e

front : (p : List ℕ) (x : Pair) (xs rest : List Pair) → AllByRecursion (HasPath p) (x ∷ xs) → BeginsOther p rest → grouped ((x ∷ xs) ++ rest) ≡ (p, map node (x ∷ xs)) ∷ grouped rest
front p x [] rest all other = ap (λ q. put_group q x.1 (grouped rest)) all.0 ∙ put_other p x.1 rest other
front p x (y ∷ ys) rest all other =
    ap (put_group x.0 x.1) (front p y ys rest all.1 other) ∙ put_same p x.0 x.1 (map node (y ∷ ys)) (grouped rest) all.0

abbrev pub Begins : List ℕ → List Pair → Type 0
Begins p [] = ⊥
Begins p (x ∷ xs) = x.0 ≡ p

not_both : (p : List ℕ) (xs : List Pair) → Begins p xs → BeginsOther p xs → ⊥
not_both p [] h other = h
not_both p (x ∷ xs) h other = true≢false (sym (equal p x.0 (sym h)) ∙ other)

pub group_step : (p : List ℕ) (ps xs bs : List Pair) → ps ≡ xs ++ bs → Begins p ps → AllByRecursion (HasPath p) xs → BeginsOther p bs → grouped ps ≡ (p, map node xs) ∷ grouped bs
group_step p ps [] bs is begins all other = absurd (not_both p bs (subst (Begins p) is begins) other)
group_step p ps (x ∷ xs) bs is begins all other = ap grouped is ∙ front p x xs bs all other

-- What the groups have, where the paths ascend

abbrev pub IsFirstGroup : List ℕ → List Group → Type 0
IsFirstGroup p [] = Unit {0}
IsFirstGroup p (g ∷ gs) = is_lt (slice_cmp nat_cmp g.0 p) ≡ false

pub record IsGroupOf (xs : List Pair) (g : Group) : Type 0 where
  pub nodes : g.1 ≡ map node (filter (at g.0) xs)
  pub some : 0 < length g.1

pub record AreGroups (xs : List Pair) (gs : List Group) : Type 0 where
  pub order : AreInPathOrder (map group_path gs)
  pub each : AllByRecursion (IsGroupOf xs) gs
  pub whole : (x : Pair) → Contains xs x → Contains (map group_path gs) x.0

-- at or above, and another: above
above_from_turned : (p q : List ℕ) (o : Ordering) → slice_cmp nat_cmp q p ≡ o → is_lt o ≡ false → bytes_eq p q ≡ false → ordering_reverse o ≡ Less
above_from_turned p q Less is up ne = absurd (true≢false up)
above_from_turned p q Equal is up ne = absurd (true≢false (sym (equal p q (sym (same q p (sym (is_eq-slice_cmp q p) ∙ ap is_eq is)))) ∙ ne))
above_from_turned p q Greater is up ne = refl

pub above_from : (p q : List ℕ) → is_lt (slice_cmp nat_cmp q p) ≡ false → bytes_eq p q ≡ false → slice_cmp nat_cmp p q ≡ Less
above_from p q up ne = nat_list_cmp_total.antisymm p q ∙ above_from_turned p q (slice_cmp nat_cmp q p) refl up ne

-- one pair more in front

pub filter_yes : (p : List ℕ) (x : Pair) (xs : List Pair) → bytes_eq p x.0 ≡ true → filter (at p) (x ∷ xs) ≡ x ∷ filter (at p) xs
filter_yes p x xs e = ap (λ b. cond b (x ∷ filter (at p) xs) (filter (at p) xs)) e

pub filter_no : (p : List ℕ) (x : Pair) (xs : List Pair) → bytes_eq p x.0 ≡ false → filter (at p) (x ∷ xs) ≡ filter (at p) xs
filter_no p x xs e = ap (λ b. cond b (x ∷ filter (at p) xs) (filter (at p) xs)) e

pub filter_none : (p : List ℕ) (xs : List Pair) → AllByRecursion (λ x. bytes_eq p x.0 ≡ false) xs → filter (at p) xs ≡ []
filter_none p [] h = refl
filter_none p (x ∷ xs) h = filter_no p x xs h.0 ∙ filter_none p xs h.1

still_group : (x : Pair) (xs : List Pair) (g : Group) → IsGroupOf xs g → slice_cmp nat_cmp x.0 g.0 ≡ Less → IsGroupOf (x ∷ xs) g
still_group x xs g is below = record {
  nodes = is.nodes ∙ ap (map node) (sym (filter_no g.0 x xs (above_differs x.0 g.0 below)));
  some = is.some;
}

module _ (x : Pair) (xs : List Pair) where
  fresh : (gs : List Group) → AreGroups xs gs → AllByRecursion (λ g. slice_cmp nat_cmp x.0 g.0 ≡ Less) gs → AreGroups (x ∷ xs) ((x.0, x.1 ∷ []) ∷ gs)
  unfolding IsStrictlySortedBy
  fresh gs w above =
      let paths = all_map (λ q. slice_cmp nat_cmp x.0 q ≡ Less) group_path gs above in
      let none = filter_none x.0 xs (all_from_contains (λ z. bytes_eq x.0 z.0 ≡ false) xs (λ z c. below_differs x.0 z.0 (all_item (λ q. slice_cmp nat_cmp x.0 q ≡ Less) (map group_path gs) z.0 paths (w.whole z c)))) in
      record {
        order = (paths, w.order);
        each = (
          record {
            nodes = ap (map node) (sym (filter_yes x.0 x xs (equal x.0 x.0 refl) ∙ ap (λ l. x ∷ l) none));
            some = omega arith;
          },
          all_both (IsGroupOf xs) (λ g. slice_cmp nat_cmp x.0 g.0 ≡ Less) (IsGroupOf (x ∷ xs)) gs (still_group x xs) w.each above,
        );
        whole = λ z c. elim (contains_cases x z xs c) [
          | inl e ↦ subst (Contains (x.0 ∷ map group_path gs)) (sym (ap path e)) (contains_here x.0 (map group_path gs))
          | inr d ↦ contains_there x.0 z.0 (map group_path gs) (w.whole z d)
        ];
      }

  joined : (g : Group) (gs : List Group) → x.0 ≡ g.0 → AreGroups xs (g ∷ gs) → AreGroups (x ∷ xs) ((x.0, x.1 ∷ g.1) ∷ gs)
  unfolding IsStrictlySortedBy
  joined g gs e w =
      let paths = subst (λ p. AllByRecursion (λ q. slice_cmp nat_cmp p q ≡ Less) (map group_path gs)) (sym e) w.order.0 in
      record {
        order = (paths, w.order.1);
        each = (
          record {
            nodes = ap (λ l. x.1 ∷ l) (w.each.0.nodes ∙ ap (λ p. map node (filter (at p) xs)) (sym e)) ∙ ap (map node) (sym (filter_yes x.0 x xs (equal x.0 x.0 refl)));
            some = omega arith;
          },
          all_both (IsGroupOf xs) (λ h. slice_cmp nat_cmp x.0 h.0 ≡ Less) (IsGroupOf (x ∷ xs)) gs (still_group x xs) w.each.1 (all_unmap (λ q. slice_cmp nat_cmp x.0 q ≡ Less) group_path gs paths),
        );
        whole = λ z c. elim (contains_cases x z xs c) [
          | inl f ↦ subst (Contains (x.0 ∷ map group_path gs)) (sym (ap path f)) (contains_here x.0 (map group_path gs))
          | inr d ↦ subst (λ p. Contains (p ∷ map group_path gs) z.0) (sym e) (w.whole z d)
        ];
      }

  first_above : (g : Group) (gs : List Group) → AreInPathOrder (g.0 ∷ map group_path gs) → slice_cmp nat_cmp x.0 g.0 ≡ Less → AllByRecursion (λ h. slice_cmp nat_cmp x.0 h.0 ≡ Less) (g ∷ gs)
  unfolding IsStrictlySortedBy
  first_above g gs order below = (
    below,
    all_weaken (λ h. slice_cmp nat_cmp g.0 h.0 ≡ Less) (λ h. slice_cmp nat_cmp x.0 h.0 ≡ Less) gs (λ h more. nat_list_cmp_total.trans x.0 g.0 h.0 below more)
        (all_unmap (λ q. slice_cmp nat_cmp g.0 q ≡ Less) group_path gs order.0),
  )

  put_in : (gs : List Group) → AreGroups xs gs → IsFirstGroup x.0 gs → AreGroups (x ∷ xs) (put_group x.0 x.1 gs)
  put_in [] w up = fresh [] w tt
  put_in (g ∷ gs) w up =
      let step = λ (b : Bool). cond b ((x.0, x.1 ∷ g.1) ∷ gs) ((x.0, x.1 ∷ []) ∷ g ∷ gs) in
      elim (either (bytes_eq x.0 g.0)) [
        | inl e ↦ subst (AreGroups (x ∷ xs)) (sym (ap step e)) (joined g gs (same x.0 g.0 e) w)
        | inr e ↦ subst (AreGroups (x ∷ xs)) (sym (ap step e)) (fresh (g ∷ gs) w (first_above g gs w.order (above_from x.0 g.0 up e)))
      ]

first_of : (p : List ℕ) (y : Pair) (ys : List Pair) → is_lt (slice_cmp nat_cmp y.0 p) ≡ false → IsFirstGroup p (grouped (y ∷ ys))
first_of p y ys up = let r = head_of y.0 y.1 (grouped ys) in subst (IsFirstGroup p) (sym r.2) up

none_ordered : AreInPathOrder []
unfolding IsStrictlySortedBy
none_ordered = tt

pub groups_are : (xs : List Pair) → Rises (is_below path) xs → AreGroups xs (grouped xs)
groups_are [] h = record { order = none_ordered; each = tt; whole = λ x c. absurd (contains_none x c) }
groups_are (x ∷ []) h = put_in x [] [] (groups_are [] h.1) tt
groups_are (x ∷ y ∷ ys) h = put_in x (y ∷ ys) (grouped (y ∷ ys)) (groups_are (y ∷ ys) h.1) (first_of x.0 y ys h.0)
