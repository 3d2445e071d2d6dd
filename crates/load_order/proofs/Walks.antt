-- The walk to a node that repeats.
use Rattle.std.proofs.Common.{◌≡◌, ◌<◌, ◌⊎◌, inl, inr, ℕ, List, [], ◌∷◌, ◌++◌, Bool, true, false, ◌||◌, nat_eq, Contains, length, get_or, set, refl, sym, ap, subst, ◌∙◌, arith}
use Rattle.std.proofs.lemmas.Bool.{eqb-false}
use Rattle.std.proofs.lemmas.List.{get_or-set_same, get_or-set_other, length-set, get_or_default}
use Rattle.std.proofs.lemmas.List.Folds.{list_any-append}
use Rattle.std.proofs.lemmas.List.Elements.{Contains-push}
use Rattle.std.proofs.lemmas.Map.Views.{exact_unsigned_eq}
use Rattle.load_order.specs.Orders.{HasNoRepeat}
use Rattle.load_order.specs.Counts.{has}
use Rattle.load_order.specs.Walks.{Goes, IsLasso}
use Rattle.list_laws.proofs.Texts.{number_in-from_any, any-from_number_in}
use Rattle.load_order.proofs.Members.{not_in}

-- what holds at the start of each turn of the walk
pub record Walking (before : List ℕ) (start : ℕ) (seen : List Bool) (path : List ℕ) (node : ℕ) : Type 0 where
  pub walk : List ℕ
  pub is : start ∷ walk ≡ path ++ node ∷ []
  pub goes : Goes before start walk
  pub once : HasNoRepeat path
  pub within : node < length before
  pub same_length : length seen ≡ length before
  pub marked : (y : ℕ) → y < length before → get_or seen y false ≡ has path y

goes_more : (before : List ℕ) (s : ℕ) (xs p : List ℕ) (n m : ℕ) → s ∷ xs ≡ p ++ n ∷ [] → Goes before s xs → m ≡ get_or before n 0 → Goes before s (xs ++ m ∷ [])
goes_more before s [] [] n m e h is = let same : s ≡ n = cc in (is ∙ ap (λ k. get_or before k 0) (sym same), tt)
goes_more before s [] (q ∷ []) n m e h is = cc
goes_more before s [] (q ∷ r ∷ p) n m e h is = cc
goes_more before s (x ∷ xs) [] n m e h is = cc
goes_more before s (x ∷ xs) (q ∷ p) n m e h is = let rest : x ∷ xs ≡ p ++ n ∷ [] = cc in (h.0, goes_more before x xs p n m rest h.1 is)

-- one more node that isn't in the list
once_push : (path : List ℕ) (n : ℕ) → HasNoRepeat path → (Contains path n → ⊥) → HasNoRepeat (path ++ n ∷ [])
once_push path n once out front node back e at = last front back e at
  where
    shorter : (xs f b : List ℕ) → xs ++ n ∷ [] ≡ f ++ node ∷ b → ((xs ≡ f) × (n ≡ node)) ⊎ ((c : List ℕ) × (xs ≡ f ++ node ∷ c))
    shorter [] [] b e = inl (refl, cc)
    shorter [] (y ∷ []) b e = cc
    shorter [] (y ∷ z ∷ f) b e = cc
    shorter (x ∷ xs) [] b e = inr (xs, ap (λ k. k ∷ xs) (let same : x ≡ node = cc in same))
    shorter (x ∷ xs) (y ∷ f) b e = more (shorter xs f b (let rest : xs ++ n ∷ [] ≡ f ++ node ∷ b = cc in rest)) (let same : x ≡ y = cc in same)
      where
        more : ((xs ≡ f) × (n ≡ node)) ⊎ ((c : List ℕ) × (xs ≡ f ++ node ∷ c)) → x ≡ y → ((x ∷ xs ≡ y ∷ f) × (n ≡ node)) ⊎ ((c : List ℕ) × (x ∷ xs ≡ (y ∷ f) ++ node ∷ c))
        more (inl h) s = inl (cc, h.1)
        more (inr h) s = inr (h.0, (let tail = h.1 in cc))

    last : (f b : List ℕ) → path ++ n ∷ [] ≡ f ++ node ∷ b → Contains f node → ⊥
    last f b e at = by (shorter path f b e)
      where
        by : ((path ≡ f) × (n ≡ node)) ⊎ ((c : List ℕ) × (path ≡ f ++ node ∷ c)) → ⊥
        by (inl h) = out (subst (Contains path) (sym h.1) (subst (λ l. Contains l node) (sym h.0) at))
        by (inr h) = once f node h.0 h.1 at

pub walk_begins : (before : List ℕ) (start : ℕ) (seen : List Bool) (path : List ℕ) → path ≡ [] → start < length before → length seen ≡ length before → ((y : ℕ) → y < length before → get_or seen y false ≡ false) → Walking before start seen path start
walk_begins before start seen path none within long unmarked = record {
  walk = [];
  is = ap (λ p. p ++ start ∷ []) (sym none);
  goes = tt;
  once = λ front node back e at. nothing front node back (sym none ∙ e);
  within = within;
  same_length = long;
  marked = λ y l. unmarked y l ∙ ap (λ p. has p y) (sym none);
}
  where
    nothing : (f : List ℕ) (n : ℕ) (b : List ℕ) → [] ≡ f ++ n ∷ b → ⊥
    nothing [] n b e = cc
    nothing (x ∷ f) n b e = cc

pub walk_more : (before : List ℕ) (start : ℕ) (seen : List Bool) (path : List ℕ) (node next : ℕ) → Walking before start seen path node → get_or seen node false ≡ false → next ≡ get_or before node 0 → next < length before
    → Walking before start (set seen node true) (path ++ node ∷ []) next
walk_more before start seen path node next h unseen is within = record {
  walk = h.walk ++ next ∷ [];
  is = ap (λ l. l ++ next ∷ []) h.is;
  goes = goes_more before start h.walk path node next h.is h.goes is;
  once = once_push path node h.once out;
  within = within;
  same_length = length-set seen node true ∙ h.same_length;
  marked = λ y l. mark y l (nat_eq y node) refl;
}
  where
    out : Contains path node → ⊥
    out = not_in path node (sym (h.marked node h.within) ∙ unseen)

    mark : (y : ℕ) → y < length before → (b : Bool) → nat_eq y node ≡ b → get_or (set seen node true) y false ≡ has (path ++ node ∷ []) y
    mark y l true e =
        let same : node ≡ y = sym (exact_unsigned_eq y node e) in
        let now : has (path ++ node ∷ []) node ≡ true = any-from_number_in (path ++ node ∷ []) node (Contains-push path node) in
        subst (λ k. get_or (set seen node true) k false ≡ has (path ++ node ∷ []) k) same (get_or-set_same seen node true false (omega (arith, h.within, h.same_length)) ∙ sym now)
    mark y l false e =
        let ne : y ≡ node → ⊥ = eqb-false y node e in
        get_or-set_other seen node y true false ne ∙ h.marked y l ∙ or_no (has path y) ∙ ap (λ b. has path y || (b || false)) (sym e) ∙ sym (list_any-append (nat_eq y) path (node ∷ []))
      where
        or_no : (b : Bool) → b ≡ (b || (false || false))
        or_no true = refl
        or_no false = refl

pub unseen_out : (before : List ℕ) (start : ℕ) (seen : List Bool) (path : List ℕ) (node : ℕ) → Walking before start seen path node → get_or seen node false ≡ false → Contains path node → ⊥
unseen_out before start seen path node h unseen = not_in path node (sym (h.marked node h.within) ∙ unseen)

pub walk_ends : (before : List ℕ) (start : ℕ) (seen : List Bool) (path : List ℕ) (node : ℕ) → Walking before start seen path node → get_or seen node false ≡ true → IsLasso before start path node
walk_ends before start seen path node h on = record { walk = h.walk; is = h.is; goes = h.goes; once = h.once; repeats = number_in-from_any path node (sym (h.marked node h.within) ∙ on) }

pub read_mark : (seen : List Bool) (node : ℕ) (r b : Bool) → node < length seen → r ≡ get_or seen node r → r ≡ b → get_or seen node false ≡ b
read_mark seen node r b l is same = get_or_default seen node false r l ∙ sym is ∙ same
