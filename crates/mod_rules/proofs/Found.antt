-- The edges that the loops find are those of the rules.
use Rattle.std.proofs.Common.{◌≡◌, ℕ, ◌+◌, ◌<◌, zero, suc, List, [], ◌∷◌, ◌++◌, Bool, true, Option, None, Some, ◌⊎◌, inl, inr, ◌↔◌, Contains, All, ◌||◌, length, append-nil, append_assoc, get_or, slice_get, add-zero, zero-add, refl, sym, ap, subst, ◌∙◌, nat_eq, arith}
use Rattle.std.proofs.lemmas.List.Elements.{Contains-get_or, Contains-append_left, Contains-append_right, Contains-append_cases}
use Rattle.std.proofs.lemmas.List.Folds.{list_any-append}
use Rattle.std.proofs.lemmas.Option.{slice_get_within}
use Rattle.std.proofs.lemmas.Map.Lookups.{exact_unsigned, exact_pairs}
use Rattle.std.specs.List.{list_any, filter_map, cons_option, IsDistinct}
use Rattle.std.specs.Map.{keys_of}
use Rattle.std.specs.Option.{option_map}
use Rattle.std.specs.Ordering.{nat_cmp, is_eq}
use Rattle.std.specs.declared.cmp.Ordering.{Ordering}
use Rattle.std.specs.declared.cmp.Ordering.TheVariants.{Less, Equal, Greater}
use Rattle.std.specs.Cmp.{nat_cmp_is}
use Rattle.std.specs.Cmp.Lexicographic.{pointwise}
use Rattle.list_laws.proofs.Containing.{contains_filter_map, filter_map_contains, any-from_contains, contains-from_any_one}
use Rattle.list_laws.proofs.Orders.{equal-from_test}
use Rattle.profile_toml.specs.declared.rule.RuleKind.{RuleKind}
use Rattle.profile_toml.specs.declared.rule.RuleKind.TheVariants.{Before, After, Requires, Conflicts, Recommends}
use Rattle.profile_toml.specs.Records.{ModData, RuleData}
use Rattle.mod_rules.specs.Nodes.{enabled_of}
use Rattle.mod_rules.specs.Edges.{IsEdge, edge_cmp}
use Rattle.mod_rules.specs.Pairs.{node_of, kind_pair, rule_pair, pairs_of, is_edge}
use Rattle.mod_rules.proofs.Steps.{enabled_of-on}
use Rattle.mod_rules.proofs.Counts.{node_of-Some, node_of-at}

-- ---- the edges of a mod's rules

-- ---- the edges of all

record Found (mods : List (List ℕ × ModData)) (n : ℕ) (nodes : List (List ℕ × ModData)) (q : ℕ × ℕ) : Type 0 where
  place : ℕ
  entry : List ℕ × ModData
  rule : RuleData
  at : slice_get nodes place ≡ Some entry
  among : Contains entry.1.rules rule
  is : rule_pair mods (n + place) rule ≡ Some q

module _ (mods : List (List ℕ × ModData)) where
  found : (n : ℕ) (nodes : List (List ℕ × ModData)) (q : ℕ × ℕ) → Contains (pairs_of mods n nodes) q → Found mods n nodes q
  found n [] q h = absurd (omega (arith, h.1))
  found n (m ∷ ms) q h =
      elim (Contains-append_cases (filter_map (rule_pair mods n) m.1.rules) (pairs_of mods (n + 1) ms) q h) [
        | inl here ↦
            let g = contains_filter_map (rule_pair mods n) m.1.rules q here in
            record { place = 0; entry = m; rule = g.0; at = refl; among = g.1; is = rw add-zero g.2 }
        | inr there ↦
            let f = found (n + 1) ms q there in
            record { place = suc f.place; entry = f.entry; rule = f.rule; at = f.at; among = f.among; is = subst (λ k. rule_pair mods k f.rule ≡ Some q) (omega arith) f.is }
      ]

  listed : (n : ℕ) (nodes : List (List ℕ × ModData)) (q : ℕ × ℕ) (k : ℕ) (m : List ℕ × ModData) (r : RuleData) → slice_get nodes k ≡ Some m → Contains m.1.rules r
      → rule_pair mods (n + k) r ≡ Some q → Contains (pairs_of mods n nodes) q
  listed n [] q k m r at among is = cc
  listed n (x ∷ xs) q zero m r at among is =
      let e : m ≡ x = cc in
      let own : Contains (filter_map (rule_pair mods n) m.1.rules) q = filter_map_contains (rule_pair mods n) m.1.rules r q among (subst (λ k. rule_pair mods k r ≡ Some q) (add-zero n) is) in
      Contains-append_left (filter_map (rule_pair mods n) x.1.rules) (pairs_of mods (n + 1) xs) q (subst (λ y. Contains (filter_map (rule_pair mods n) y.1.rules) q) e own)
  listed n (x ∷ xs) q (suc k) m r at among is =
      Contains-append_right (filter_map (rule_pair mods n) x.1.rules) (pairs_of mods (n + 1) xs) q
      (listed (n + 1) xs q k m r at among (subst (λ j. rule_pair mods j r ≡ Some q) (omega arith) is))

  parts : (p q : ℕ × ℕ) → Some p ≡ Some q → (p.0 ≡ q.0) × (p.1 ≡ q.1)
  parts p q h = let e : p ≡ q = cc in (ap (λ x. x.0) e, ap (λ x. x.1) e)

  -- ---- an edge found is an edge

  before_edge : (a b k : ℕ) (m : List ℕ × ModData) (r : RuleData) (o : Option ℕ) → slice_get (enabled_of mods) k ≡ Some m → Contains m.1.rules r → r.kind ≡ Before → node_of 0 r mods ≡ o
      → option_map {U = ℕ × ℕ} (λ j. (k, j)) o ≡ Some (a, b) → IsEdge (enabled_of mods) a b
  before_edge a b k m r None at among kind is h = cc
  before_edge a b k m r (Some j) at among kind is h =
      let same = parts (k, j) (a, b) h in
      let t = node_of-Some 0 r mods j is in
      let place : t.place ≡ b = omega (arith, t.is, same.1) in
      record {
        first = m;
        second = t.entry;
        first_at = subst (λ i. slice_get (enabled_of mods) i ≡ Some m) same.0 at;
        second_at = subst (λ i. slice_get (enabled_of mods) i ≡ Some t.entry) place t.at;
        ruled = inr (record { rule = r; among = among; of_kind = kind; refers_to = sym t.own; admitted = t.admitted });
      }

  after_edge : (a b k : ℕ) (m : List ℕ × ModData) (r : RuleData) (o : Option ℕ) → slice_get (enabled_of mods) k ≡ Some m → Contains m.1.rules r → r.kind ≡ After → node_of 0 r mods ≡ o
      → option_map {U = ℕ × ℕ} (λ j. (j, k)) o ≡ Some (a, b) → IsEdge (enabled_of mods) a b
  after_edge a b k m r None at among kind is h = cc
  after_edge a b k m r (Some j) at among kind is h =
      let same = parts (j, k) (a, b) h in
      let t = node_of-Some 0 r mods j is in
      let place : t.place ≡ a = omega (arith, t.is, same.0) in
      record {
        first = t.entry;
        second = m;
        first_at = subst (λ i. slice_get (enabled_of mods) i ≡ Some t.entry) place t.at;
        second_at = subst (λ i. slice_get (enabled_of mods) i ≡ Some m) same.1 at;
        ruled = inl (record { rule = r; among = among; of_kind = kind; refers_to = sym t.own; admitted = t.admitted });
      }

  kind_edge : (a b k : ℕ) (m : List ℕ × ModData) (r : RuleData) (kind : RuleKind) → slice_get (enabled_of mods) k ≡ Some m → Contains m.1.rules r → r.kind ≡ kind
      → kind_pair kind k (node_of 0 r mods) ≡ Some (a, b) → IsEdge (enabled_of mods) a b
  kind_edge a b k m r Before at among kind h = before_edge a b k m r (node_of 0 r mods) at among kind refl h
  kind_edge a b k m r After at among kind h = after_edge a b k m r (node_of 0 r mods) at among kind refl h
  kind_edge a b k m r Requires at among kind h = cc
  kind_edge a b k m r Conflicts at among kind h = cc
  kind_edge a b k m r Recommends at among kind h = cc

  pub edge_from_pair : (a b : ℕ) → Contains (pairs_of mods 0 (enabled_of mods)) (a, b) → IsEdge (enabled_of mods) a b
  edge_from_pair a b h =
      let f = found 0 (enabled_of mods) (a, b) h in
      kind_edge a b f.place f.entry f.rule f.rule.kind f.at f.among refl (subst (λ k. rule_pair mods k f.rule ≡ Some (a, b)) (zero-add f.place) f.is)

  -- ---- and each edge is found

  pub pair_from_edge : (a b : ℕ) → IsDistinct (pointwise nat_eq) (keys_of mods) → IsEdge (enabled_of mods) a b → Contains (pairs_of mods 0 (enabled_of mods)) (a, b)
  pair_from_edge a b apart h =
      elim h.ruled [
        | inl rule ↦
            let node : node_of 0 rule.rule mods ≡ Some a = node_of-at 0 rule.rule mods a h.first apart h.first_at rule.refers_to rule.admitted ∙ ap (λ j. Some j) (zero-add a) in
            listed 0 (enabled_of mods) (a, b) b h.second rule.rule h.second_at rule.among (rw (node, rule.of_kind) (ap (λ j. Some (a, j)) (zero-add b)))
        | inr rule ↦
            let node : node_of 0 rule.rule mods ≡ Some b = node_of-at 0 rule.rule mods b h.second apart h.second_at rule.refers_to rule.admitted ∙ ap (λ j. Some j) (zero-add b) in
            listed 0 (enabled_of mods) (a, b) a h.first rule.rule h.first_at rule.among (rw (node, rule.of_kind) (ap (λ j. Some (j, b)) (zero-add a)))
      ]

-- ---- the keys of the set

same_is : (q : ℕ × ℕ) → is_edge q q ≡ true
same_is q = rw (sym (nat_cmp_is q.0 q.0 Equal refl), sym (nat_cmp_is q.1 q.1 Equal refl)) refl

is_same : (p q : ℕ × ℕ) → is_edge p q ≡ true → p ≡ q
is_same p q h = exact_pairs nat_cmp nat_cmp exact_unsigned exact_unsigned p q (equal-from_test (edge_cmp p q) h)

-- the keys of a set that has the pairs are the edges
pub edges_are : (mods : List (List ℕ × ModData)) (keys : List (ℕ × ℕ)) → IsDistinct (pointwise nat_eq) (keys_of mods)
    → ((q : ℕ × ℕ) → list_any (λ e. is_edge q e) keys ≡ list_any (λ e. is_edge e q) (pairs_of mods 0 (enabled_of mods))) → (a b : ℕ) → Contains keys (a, b) ↔ IsEdge (enabled_of mods) a b
edges_are mods keys apart h a b = (
  λ has. edge_from_pair mods a b (contains-from_any_one (λ e. is_edge e (a, b)) (pairs_of mods 0 (enabled_of mods)) (a, b) (λ x s. is_same x (a, b) s)
      (sym (h (a, b)) ∙ any-from_contains (λ e. is_edge (a, b) e) keys (a, b) (same_is (a, b)) has)),
  λ edge. contains-from_any_one (λ e. is_edge (a, b) e) keys (a, b) (λ x s. sym (is_same (a, b) x s))
      (h (a, b) ∙ any-from_contains (λ e. is_edge e (a, b)) (pairs_of mods 0 (enabled_of mods)) (a, b) (same_is (a, b)) (pair_from_edge mods a b apart edge)),
)

-- both nodes of an edge are among the enabled mods
pub edges_within : (nodes : List (List ℕ × ModData)) (keys : List (ℕ × ℕ)) → ((a b : ℕ) → Contains keys (a, b) ↔ IsEdge nodes a b) → All (λ e. (e.0 < length nodes) × (e.1 < length nodes)) keys
edges_within nodes keys h k d below =
    let e = get_or keys k d in
    let edge = (h e.0 e.1).0 (Contains-get_or keys k d below) in
    (slice_get_within nodes e.0 edge.first edge.first_at, slice_get_within nodes e.1 edge.second edge.second_at)

-- ---- one more node

pairs_of-push : (mods : List (List ℕ × ModData)) (n : ℕ) (nodes : List (List ℕ × ModData)) (m : List ℕ × ModData) → pairs_of mods n (nodes ++ m ∷ []) ≡ pairs_of mods n nodes ++ filter_map (rule_pair mods (n + length nodes)) m.1.rules
pairs_of-push mods n [] m = append-nil (filter_map (rule_pair mods n) m.1.rules) ∙ ap (λ k. filter_map (rule_pair mods k) m.1.rules) (sym (add-zero n))
pairs_of-push mods n (x ∷ xs) m =
    let own = filter_map (rule_pair mods n) x.1.rules in
    let later = pairs_of mods (n + 1) xs in
    let place : (n + 1) + length xs ≡ n + suc (length xs) = omega arith in
    ap (λ l. own ++ l) (pairs_of-push mods (n + 1) xs m ∙ ap (λ k. later ++ filter_map (rule_pair mods k) m.1.rules) place)
    ∙ sym (append_assoc own later (filter_map (rule_pair mods (n + suc (length xs))) m.1.rules))

pub found_more : (mods ys : List (List ℕ × ModData)) (m : List ℕ × ModData) (all : List (List ℕ × ModData)) (n : ℕ) (q : ℕ × ℕ) (was now : Bool) → all ≡ ys ++ m ∷ [] → m.1.enabled ≡ true → n ≡ length (enabled_of ys)
    → now ≡ (was || list_any (λ e. is_edge e q) (filter_map (rule_pair mods n) m.1.rules)) → was ≡ list_any (λ e. is_edge e q) (pairs_of mods 0 (enabled_of ys))
    → now ≡ list_any (λ e. is_edge e q) (pairs_of mods 0 (enabled_of all))
found_more mods ys m all n q was now is on count_is now_is was_is =
    let p : ℕ × ℕ → Bool = λ e. is_edge e q in
    let pairs = pairs_of mods 0 (enabled_of ys) in
    let place : n ≡ 0 + length (enabled_of ys) = omega arith in
    now_is
    ∙ ap (λ b. b || list_any p (filter_map (rule_pair mods n) m.1.rules)) was_is
    ∙ sym (list_any-append p pairs (filter_map (rule_pair mods n) m.1.rules))
    ∙ ap (λ k. list_any p (pairs ++ filter_map (rule_pair mods k) m.1.rules)) place
    ∙ ap (list_any p) (sym (pairs_of-push mods 0 (enabled_of ys) m))
    ∙ ap (λ l. list_any p (pairs_of mods 0 l)) (sym (enabled_of-on ys m on))
    ∙ ap (λ l. list_any p (pairs_of mods 0 (enabled_of l))) (sym is)
