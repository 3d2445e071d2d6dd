-- Pairs of nodes, one node more at a time.
use Rattle.std.proofs.Common.{◌≡◌, ◌<◌, ◌≤◌, ◌+◌, ◌⊎◌, ◌↔◌, inl, inr, ℕ, List, [], ◌∷◌, ◌++◌, length, get_or, take, sym, ap, subst, ◌∙◌, arith}
use Rattle.std.specs.List.{AllByRecursion, Contains}
use Rattle.std.specs.List.Sorted.{IsStrictlySortedBy}
use Rattle.std.specs.Ordering.{nat_cmp, ordering_then}
use Rattle.std.specs.Cmp.{nat_cmp_is}
use Rattle.std.specs.declared.cmp.Ordering.TheVariants.{Less, Equal}
use Rattle.std.proofs.lemmas.Bool.{cases_lt}
use Rattle.std.proofs.lemmas.List.Elements.{Contains-append_left}
use Rattle.list_laws.proofs.Alls.{all_item, all_from_contains}
use Rattle.list_laws.proofs.Containing.{in_next, contains_seam, last_cases, contains_none}
use Rattle.list_laws.proofs.Sorted.{sorted_more}
use Rattle.mod_rules.specs.Edges.{AreAscending, edge_cmp}
use Rattle.winner_table.specs.declared.providers.Providers.{Providers}
use Rattle.conflict_report.specs.declared.relation.Relation.{Relation}
use Rattle.conflict_report.specs.Relations.{Holds, HoldsNowhere, GrowsBy}
use Rattle.conflict_report.specs.Shares.{PairsWith, PairsAmong, SharesOneOf}
use Rattle.conflict_report.proofs.Ends.{in_more, in_last}
use Rattle.conflict_report.proofs.Growing.{still, grown, grows_as, grows_more}

-- Marks

module _ (old mid : Relation) (nodes : List ℕ) (i x : ℕ) (low : i < length nodes) (is : x ≡ get_or nodes i x) where
  pub with_then : (new : Relation) (node : ℕ) → GrowsBy old mid (PairsWith (take i nodes) node) → GrowsBy mid new (λ a b. (a ≡ node) × (b ≡ x)) → node < x → GrowsBy old new (PairsWith (take (i + 1) nodes) node)
  with_then new node g f lt = grows_more g f (PairsWith (take (i + 1) nodes) node)
      (λ a b p. (p.0, in_more nodes i x low is b p.1, p.2))
      (λ a b q. inr (q.0, subst (Contains (take (i + 1) nodes)) (sym q.1) (in_last nodes i x low is), (let e = q.0 in let d = q.1 in omega (arith, e, d, lt))))
      (λ a b r. elim (in_next nodes i x b low is r.1) [
        | inl front ↦ still f a b (grown g a b (r.0, front, r.2))
        | inr last ↦ grown f a b (r.0, last)
      ])

  pub with_else : (node : ℕ) → GrowsBy old mid (PairsWith (take i nodes) node) → x ≤ node → GrowsBy old mid (PairsWith (take (i + 1) nodes) node)
  with_else node g ge = grows_as g (PairsWith (take (i + 1) nodes) node)
      (λ a b p. inr (p.0, in_more nodes i x low is b p.1, p.2))
      (λ a b r. elim (in_next nodes i x b low is r.1) [
        | inl front ↦ grown g a b (r.0, front, r.2)
        | inr last ↦ absurd (let e = r.0 in let lt = r.2 in omega (arith, e, last, lt, ge))
      ])

  pub among_more : (new : Relation) → GrowsBy old mid (PairsAmong (take i nodes) nodes) → GrowsBy mid new (PairsWith nodes x) → GrowsBy old new (PairsAmong (take (i + 1) nodes) nodes)
  among_more new g f = grows_more g f (PairsAmong (take (i + 1) nodes) nodes)
      (λ a b p. (in_more nodes i x low is a p.0, p.1, p.2))
      (λ a b q. inr (subst (Contains (take (i + 1) nodes)) (sym q.0) (in_last nodes i x low is), q.1, q.2))
      (λ a b r. elim (in_next nodes i x a low is r.0) [
        | inl front ↦ still f a b (grown g a b (front, r.1, r.2))
        | inr last ↦ grown f a b (last, r.1, r.2)
      ])

pub shares_none : (r : Relation) → HoldsNowhere r → (a b : ℕ) → Holds r a b ↔ SharesOneOf [] a b
shares_none r none a b = (λ h. absurd (none a b h), λ s. absurd (contains_none s.entry s.among))

pub shares_more : (mid new : Relation) (all : List Providers) (i : ℕ) (x : Providers) → i < length all → x ≡ get_or all i x → ((a b : ℕ) → Holds mid a b ↔ SharesOneOf (take i all) a b)
    → GrowsBy mid new (PairsAmong x.nodes.items x.nodes.items) → (a b : ℕ) → Holds new a b ↔ SharesOneOf (take (i + 1) all) a b
shares_more mid new all i x low is told g a b = (
  λ h. elim ((g.grows a b).0 h) [
    | inl m ↦ (let s = (told a b).0 m in record { entry = s.entry; among = in_more all i x low is s.entry s.among; pair = s.pair })
    | inr p ↦ record { entry = x; among = in_last all i x low is; pair = p }
  ],
  λ s. elim (in_next all i x s.entry low is s.among) [
    | inl front ↦ still g a b ((told a b).1 (record { entry = s.entry; among = front; pair = s.pair }))
    | inr last ↦ grown g a b (subst (λ (e : Providers). PairsAmong e.nodes.items e.nodes.items a b) last s.pair)
  ],
)

-- Lists of pairs

pair_below : (e f : ℕ × ℕ) → (e.0 < f.0) ⊎ ((e.0 ≡ f.0) × (e.1 < f.1)) → edge_cmp e f ≡ Less
pair_below e f (inl lt) = ap (λ o. ordering_then o (nat_cmp e.1 f.1)) (sym (nat_cmp_is e.0 f.0 Less lt))
pair_below e f (inr p) = ap (λ o. ordering_then o (nat_cmp e.1 f.1)) (sym (nat_cmp_is e.0 f.0 Equal p.0)) ∙ sym (nat_cmp_is e.1 f.1 Less p.1)

-- the pairs that were there, and those of the node with a second one below n where this holds
pub record HasRow (old : List (ℕ × ℕ)) (first n : ℕ) (Open : ℕ → ℕ → Type 0) (pairs : List (ℕ × ℕ)) : Type 0 where
  pub ascending : AreAscending pairs
  pub exact : (a b : ℕ) → Contains pairs (a, b) ↔ (Contains old (a, b) ⊎ ((a ≡ first) × (b < n) × Open a b))

pub row_none : (old : List (ℕ × ℕ)) (first : ℕ) (Open : ℕ → ℕ → Type 0) → AreAscending old → HasRow old first 0 Open old
row_none old first Open up = record {
  ascending = up;
  exact = λ a b. (λ c. inl c, λ s. elim s [ inl c ↦ c | inr q ↦ absurd (let lt = q.1 in omega arith) ]);
}

module _ (old : List (ℕ × ℕ)) (first n : ℕ) (Open : ℕ → ℕ → Type 0) (pairs : List (ℕ × ℕ)) (row : HasRow old first n Open pairs) where
  pub row_then : AllByRecursion (λ (e : ℕ × ℕ). e.0 < first) old → Open first n → HasRow old first (n + 1) Open (pairs ++ (first, n) ∷ [])
  row_then before open' = record {
    ascending = sorted_more edge_cmp pairs (first, n) row.ascending (all_from_contains (λ e. edge_cmp e (first, n) ≡ Less) pairs (λ e c. pair_below e (first, n) (below e c)));
    exact = λ a b. (there a b, back a b);
  }
    where
      below : (e : ℕ × ℕ) → Contains pairs e → (e.0 < first) ⊎ ((e.0 ≡ first) × (e.1 < n))
      below e c = elim ((row.exact e.0 e.1).0 c) [ inl o ↦ inl (all_item (λ (e : ℕ × ℕ). e.0 < first) old e before o) | inr q ↦ inr (q.0, q.1) ]

      there : (a b : ℕ) → Contains (pairs ++ (first, n) ∷ []) (a, b) → Contains old (a, b) ⊎ ((a ≡ first) × (b < n + 1) × Open a b)
      there a b c = elim (last_cases pairs (first, n) (a, b) c) [
        | inl was ↦ elim ((row.exact a b).0 was) [ inl o ↦ inl o | inr q ↦ inr (q.0, (let lt = q.1 in omega arith), q.2) ]
        | inr e ↦ (let x : a ≡ first = ap (λ (p : ℕ × ℕ). p.0) e in let y : b ≡ n = ap (λ (p : ℕ × ℕ). p.1) e in
            inr (x, omega (arith, y), subst (λ u. Open u b) (sym x) (subst (Open first) (sym y) open')))
      ]

      back : (a b : ℕ) → Contains old (a, b) ⊎ ((a ≡ first) × (b < n + 1) × Open a b) → Contains (pairs ++ (first, n) ∷ []) (a, b)
      back a b (inl o) = Contains-append_left pairs ((first, n) ∷ []) (a, b) ((row.exact a b).1 (inl o))
      back a b (inr q) = elim (cases_lt b n) [
        | inl lt ↦ Contains-append_left pairs ((first, n) ∷ []) (a, b) ((row.exact a b).1 (inr (q.0, lt, q.2)))
        | inr ge ↦ (let same : n ≡ b = (let lt = q.1 in omega (arith, lt, ge)) in
            subst (λ u. Contains (pairs ++ (first, n) ∷ []) (u, b)) (sym q.0) (subst (λ u. Contains (pairs ++ (first, n) ∷ []) (first, u)) same (contains_seam pairs (first, n) [])))
      ]

  pub row_else : (Open first n → ⊥) → HasRow old first (n + 1) Open pairs
  row_else shut = record {
    ascending = row.ascending;
    exact = λ a b. (
      λ c. elim ((row.exact a b).0 c) [ inl o ↦ inl o | inr q ↦ inr (q.0, (let lt = q.1 in omega arith), q.2) ],
      λ s. elim s [
        | inl o ↦ (row.exact a b).1 (inl o)
        | inr q ↦ elim (cases_lt b n) [
          | inl lt ↦ (row.exact a b).1 (inr (q.0, lt, q.2))
          | inr ge ↦ absurd (shut (subst (λ u. Open u n) q.0 (subst (Open a) (let lt = q.1 in omega (arith, lt, ge)) q.2)))
        ]
      ],
    );
  }

  pub row_all : ((a b : ℕ) → Open a b → b < n) → (a b : ℕ) → Contains pairs (a, b) ↔ (Contains old (a, b) ⊎ ((a ≡ first) × Open a b))
  row_all within a b = (
    λ c. elim ((row.exact a b).0 c) [ inl o ↦ inl o | inr q ↦ inr (q.0, q.2) ],
    λ s. (row.exact a b).1 (elim s [ inl o ↦ inl o | inr q ↦ inr (q.0, within a b q.1, q.1) ]),
  )

-- the pairs whose lower node is below n, where this holds
pub record HasRows (n : ℕ) (Open : ℕ → ℕ → Type 0) (pairs : List (ℕ × ℕ)) : Type 0 where
  pub ascending : AreAscending pairs
  pub exact : (a b : ℕ) → Contains pairs (a, b) ↔ ((a < n) × Open a b)

pub rows_none : (Open : ℕ → ℕ → Type 0) → HasRows 0 Open []
unfolding IsStrictlySortedBy
rows_none Open = record {
  ascending = tt;
  exact = λ a b. (λ c. absurd (contains_none (a, b) c), λ q. absurd (let lt = q.0 in omega arith));
}

pub rows_before : (n : ℕ) (Open : ℕ → ℕ → Type 0) (pairs : List (ℕ × ℕ)) → HasRows n Open pairs → AllByRecursion (λ (e : ℕ × ℕ). e.0 < n) pairs
rows_before n Open pairs rows = all_from_contains (λ (e : ℕ × ℕ). e.0 < n) pairs (λ e c. ((rows.exact e.0 e.1).0 c).0)

pub rows_more : (n : ℕ) (Open : ℕ → ℕ → Type 0) (pairs new : List (ℕ × ℕ)) → HasRows n Open pairs → AreAscending new → ((a b : ℕ) → Contains new (a, b) ↔ (Contains pairs (a, b) ⊎ ((a ≡ n) × Open a b))) → HasRows (n + 1) Open new
rows_more n Open pairs new rows up added = record {
  ascending = up;
  exact = λ a b. (
    λ c. elim ((added a b).0 c) [
      | inl o ↦ (let q = (rows.exact a b).0 o in ((let lt = q.0 in omega arith), q.1))
      | inr q ↦ ((let e = q.0 in omega arith), q.1)
    ],
    λ q. (added a b).1 (elim (cases_lt a n) [
      | inl lt ↦ inl ((rows.exact a b).1 (lt, q.1))
      | inr ge ↦ inr ((let lt = q.0 in omega (arith, lt, ge)), q.1)
    ]),
  );
}
