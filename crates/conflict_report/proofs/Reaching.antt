-- What each node leads to, taken from the last node of a lawful order on.
use Rattle.std.proofs.Common.{◌≡◌, ◌<◌, ◌+◌, ◌-◌, inl, inr, ℕ, List, [], ◌∷◌, ◌++◌, nat_eq, eq-eqb, All, length, get_or, take, drop, refl, sym, ap, subst, ◌∙◌, arith}
use Rattle.std.specs.List.{Contains}
use Rattle.std.proofs.lemmas.List.{append_assoc, get_or_default}
use Rattle.std.proofs.lemmas.List.Elements.{Contains-append_left, All-filter, All-weaker}
use Rattle.std.proofs.lemmas.Map.Views.{exact_unsigned_eq}
use Rattle.mod_rules.specs.Edges.{GraphData, AreWithin}
use Rattle.load_order.specs.Counts.{edges_from}
use Rattle.load_order.specs.Orders.{IsLawful}
use Rattle.list_laws.proofs.Containing.{at_seam, contains_cases, parts, contains_filter, filter_contains, in_this}
use Rattle.conflict_report.proofs.Ends.{from_end, drop_from_end}
use Rattle.conflict_report.specs.declared.relation.Relation.{Relation}
use Rattle.conflict_report.specs.Leading.{Leads}
use Rattle.conflict_report.specs.Relations.{Holds, HoldsNowhere, GrowsBy, FollowsFrom, TellsLeads}
use Rattle.conflict_report.proofs.Growing.{still, grown}
use Rattle.conflict_report.proofs.Walking.{leads_edge, leads_on, first_step, leads_within}

-- the relation holds from the node to all that it leads to
abbrev pub HasAllFrom : GraphData → Relation → ℕ → Type 0
HasAllFrom g r a = (b : ℕ) → Leads g a b → Holds r a b

-- what the relation tells, it tells rightly, and it tells all of the nodes that are done
pub record Tells (g : GraphData) (r : Relation) (done : List ℕ) : Type 0 where
  pub count : r.count ≡ g.count
  pub right : (a b : ℕ) → Holds r a b → Leads g a b
  pub all : (a : ℕ) → Contains done a → HasAllFrom g r a

-- an edge leads behind
pub edge_behind : (g : GraphData) (front : List ℕ) (node : ℕ) (back : List ℕ) (next : ℕ) → IsLawful g (front ++ node ∷ back) → AreWithin g.count g.edges → Contains g.edges (node, next) → Contains back next
edge_behind g front node back next lawful within e = elim (at_seam front node back next (lawful.every next (leads_within g within node next (leads_edge g node next e)).1)) [
  | inl before ↦ (let p = parts front next before in
      let split : front ++ node ∷ back ≡ p.front ++ next ∷ (p.back ++ node ∷ back) = ap (λ l. l ++ node ∷ back) p.is ∙ append_assoc p.front (next ∷ p.back) (node ∷ back) in
      let before_it = lawful.ordered node next e p.front (p.back ++ node ∷ back) split in
      absurd (lawful.once front node back refl (subst (λ l. Contains l node) (sym p.is) (Contains-append_left p.front (next ∷ p.back) node before_it))))
  | inr rest ↦ elim rest [
    | inl same ↦ absurd (lawful.once front node back refl (lawful.ordered node next e front back (ap (λ x. front ++ x ∷ back) (sym same))))
    | inr behind ↦ behind
  ]
]

module _ (g : GraphData) (within : AreWithin g.count g.edges) (old new : Relation) (front : List ℕ) (node : ℕ) (back : List ℕ) (lawful : IsLawful g (front ++ node ∷ back))
    (told : Tells g old back) (grew : GrowsBy old new (FollowsFrom old node (edges_from node g.edges))) where
  edge_is : (e : ℕ × ℕ) → Contains (edges_from node g.edges) e → Contains g.edges (node, e.1)
  edge_is e c = let p = contains_filter (λ (x : ℕ × ℕ). nat_eq x.0 node) g.edges e c in subst (λ n. Contains g.edges (n, e.1)) (exact_unsigned_eq e.0 node p.1) p.0

  rightly : (a b : ℕ) → Holds new a b → Leads g a b
  rightly a b h = elim ((grew.grows a b).0 h) [
    | inl o ↦ told.right a b o
    | inr f ↦ subst (λ x. Leads g x b) (sym f.is) (elim f.to [
      | inl to ↦ subst (λ y. Leads g node y) (sym to) (leads_edge g node f.edge.1 (edge_is f.edge f.among))
      | inr on ↦ leads_on g node f.edge.1 b (edge_is f.edge f.among) (told.right f.edge.1 b on)
    ])
  ]

  from_this : HasAllFrom g new node
  from_this b w =
      let s = first_step g node b w in
      grown grew node b (record {
        is = refl;
        edge = (node, s.next);
        among = filter_contains (λ (x : ℕ × ℕ). nat_eq x.0 node) g.edges (node, s.next) s.edge (eq-eqb node node refl);
        to = elim s.rest [ inl is ↦ inl is | inr on ↦ inr (told.all s.next (edge_behind g front node back s.next lawful within s.edge) b on) ];
      })

  pub told_more : Tells g new (node ∷ back)
  told_more = record {
    count = grew.count ∙ told.count;
    right = rightly;
    all = λ a c. elim (contains_cases node a back c) [
      | inl is ↦ subst (HasAllFrom g new) (sym is) from_this
      | inr later ↦ λ b w. still grew a b (told.all a later b w)
    ];
  }

pub told_none : (g : GraphData) (r : Relation) → r.count ≡ g.count → HoldsNowhere r → Tells g r []
told_none g r count none = record {
  count = count;
  right = λ a b h. absurd (none a b h);
  all = λ a c. absurd (let lt = c.1 in omega arith);
}

pub told_all : (g : GraphData) (r : Relation) (order : List ℕ) → AreWithin g.count g.edges → IsLawful g order → Tells g r order → TellsLeads g r
told_all g r order within lawful told = record {
  count = told.count;
  exact = λ a b. (told.right a b, λ w. told.all a (lawful.every a (leads_within g within a b w).0) b w);
}

-- the next node from the end of the order
pub told_next : (g : GraphData) → AreWithin g.count g.edges → (old new : Relation) (order : List ℕ) (i : ℕ) → i < length order → IsLawful g order → Tells g old (drop (length order - i) order)
    → GrowsBy old new (FollowsFrom old (get_or order (length order - 1 - i) 0) (edges_from (get_or order (length order - 1 - i) 0) g.edges)) → Tells g new (drop (length order - (i + 1)) order)
told_next g within old new order i low lawful told grew =
    let k = length order - 1 - i in
    subst (Tells g new) (sym (drop_from_end order i low))
    (told_more g within old new (take k order) (get_or order k 0) (drop (length order - i) order) (subst (IsLawful g) (from_end order i low) lawful) told grew)

pub follow_within : (g : GraphData) (r : Relation) (node : ℕ) → AreWithin g.count g.edges → r.count ≡ g.count → All (λ (e : ℕ × ℕ). e.1 < r.count) (edges_from node g.edges)
follow_within g r node within count =
    All-filter (λ (e : ℕ × ℕ). nat_eq e.0 node) (λ (e : ℕ × ℕ). e.1 < r.count) g.edges
    (All-weaker (λ (e : ℕ × ℕ). (e.0 < g.count) × (e.1 < g.count)) (λ (e : ℕ × ℕ). e.1 < r.count) (λ e h. (let lt = h.1 in omega (arith, lt, count))) g.edges within)

-- a node of the order at a place counted from its end
pub node_within : (g : GraphData) (order : List ℕ) (i : ℕ) → i < length order → IsLawful g order → get_or order (length order - 1 - i) 0 < g.count
node_within g order i low lawful =
    let k = length order - 1 - i in
    let below : k < length order = omega (arith, low) in
    lawful.only (get_or order k 0) (in_this order k (get_or order k 0) below (get_or_default order k 0 (get_or order k 0) below))
