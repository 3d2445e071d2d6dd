-- How relations grow.
use Rattle.std.proofs.Common.{◌≡◌, ◌<◌, ◌≤◌, ◌+◌, ◌⊎◌, inl, inr, ℕ, List, length, get_or, take, refl, sym, ap, subst, ◌∙◌, arith}
use Rattle.std.specs.List.{Contains}
use Rattle.std.proofs.lemmas.Bool.{cases_lt}
use Rattle.conflict_report.specs.declared.relation.Relation.{Relation}
use Rattle.conflict_report.specs.Relations.{Holds, GrowsBy, FollowsFrom}
use Rattle.list_laws.proofs.Containing.{in_next}
use Rattle.conflict_report.proofs.Ends.{in_more, in_last}

-- what held still does
pub still : {old new : Relation} {P : ℕ → ℕ → Type 0} → GrowsBy old new P → (a b : ℕ) → Holds old a b → Holds new a b
still g a b h = (g.grows a b).1 (inl h)

pub grown : {old new : Relation} {P : ℕ → ℕ → Type 0} → GrowsBy old new P → (a b : ℕ) → P a b → Holds new a b
grown g a b p = (g.grows a b).1 (inr p)

pub grows_none : (r : Relation) (P : ℕ → ℕ → Type 0) → ((a b : ℕ) → P a b → ⊥) → GrowsBy r r P
grows_none r P never = record {
  count = refl;
  grows = λ a b. (λ h. inl h, λ s. elim s [ inl h ↦ h | inr p ↦ absurd (never a b p) ]);
}

pub grows_as : {old new : Relation} {P : ℕ → ℕ → Type 0} → GrowsBy old new P → (Q : ℕ → ℕ → Type 0) → ((a b : ℕ) → P a b → Holds old a b ⊎ Q a b) → ((a b : ℕ) → Q a b → Holds new a b) → GrowsBy old new Q
grows_as g Q there back = record {
  count = g.count;
  grows = λ a b. (
    λ h. elim ((g.grows a b).0 h) [ inl o ↦ inl o | inr p ↦ there a b p ],
    λ s. elim s [ inl o ↦ still g a b o | inr q ↦ back a b q ],
  );
}

pub grows_more : {old mid new : Relation} {P Q : ℕ → ℕ → Type 0} → GrowsBy old mid P → GrowsBy mid new Q → (R : ℕ → ℕ → Type 0) → ((a b : ℕ) → P a b → R a b) → ((a b : ℕ) → Q a b → Holds old a b ⊎ R a b) → ((a b : ℕ) → R a b → Holds new a b) → GrowsBy old new R
grows_more f g R there then back = record {
  count = g.count ∙ f.count;
  grows = λ a b. (
    λ h. elim ((g.grows a b).0 h) [
      | inl m ↦ elim ((f.grows a b).0 m) [ inl o ↦ inl o | inr p ↦ inr (there a b p) ]
      | inr q ↦ then a b q
    ],
    λ s. elim s [ inl o ↦ still g a b (still f a b o) | inr r ↦ back a b r ],
  );
}

-- One row joined to another, mark by mark

abbrev pub Joined : Relation → ℕ → ℕ → ℕ → ℕ → ℕ → Type 0
Joined old first second n a b = (a ≡ first) × (b < n) × Holds old second b

-- what the second row has by now, it had before
was_there : (old new : Relation) (first second n b : ℕ) → GrowsBy old new (Joined old first second n) → Holds new second b → Holds old second b
was_there old new first second n b g h = elim ((g.grows second b).0 h) [ inl o ↦ o | inr j ↦ j.2 ]

pub joined_then : (old mid new : Relation) (first second n : ℕ) → GrowsBy old mid (Joined old first second n) → Holds mid second n → GrowsBy mid new (λ a b. (a ≡ first) × (b ≡ n)) → GrowsBy old new (Joined old first second (n + 1))
joined_then old mid new first second n g here f =
    let was = was_there old mid first second n n g here in
    grows_more g f (Joined old first second (n + 1))
    (λ a b j. (j.0, (let lt = j.1 in omega arith), j.2))
    (λ a b q. inr (q.0, (let e = q.1 in omega arith), subst (λ x. Holds old second x) (sym q.1) was))
    (λ a b j. elim (cases_lt b n) [
      | inl lt ↦ still f a b (grown g a b (j.0, lt, j.2))
      | inr ge ↦ grown f a b (j.0, (let lt = j.1 in omega arith))
    ])

pub joined_else : (old new : Relation) (first second n : ℕ) → GrowsBy old new (Joined old first second n) → (Holds new second n → ⊥) → GrowsBy old new (Joined old first second (n + 1))
joined_else old new first second n g none = grows_as g (Joined old first second (n + 1))
    (λ a b j. inr (j.0, (let lt = j.1 in omega arith), j.2))
    (λ a b j. elim (cases_lt b n) [
      | inl lt ↦ grown g a b (j.0, lt, j.2)
      | inr ge ↦ absurd (none (subst (λ x. Holds new second x) (let lt = j.1 in omega arith) (still g second b j.2)))
    ])

pub joined_all : (old new : Relation) (first second n : ℕ) → GrowsBy old new (Joined old first second n) → old.count ≤ n → GrowsBy old new (λ a b. (a ≡ first) × Holds old second b)
joined_all old new first second n g all = grows_as g (λ a b. (a ≡ first) × Holds old second b)
    (λ a b j. inr (j.0, j.2))
    (λ a b j. grown g a b (j.0, (let lt = j.1.second_within in omega arith), j.1))

-- Edges followed one after the other

module _ (old mid more new : Relation) (node : ℕ) (edges : List (ℕ × ℕ)) (i : ℕ) (e : ℕ × ℕ) (low : i < length edges) (is : e ≡ get_or edges i e)
    (g : GrowsBy old mid (FollowsFrom old node (take i edges)))
    (added : GrowsBy mid more (λ a b. (a ≡ node) × (b ≡ e.1)))
    (joined : GrowsBy more new (λ a b. (a ≡ node) × Holds more e.1 b)) where
  here : Contains (take (i + 1) edges) e
  here = in_last edges i e low is

  earlier : (a b : ℕ) → FollowsFrom old node (take i edges) a b → FollowsFrom old node (take (i + 1) edges) a b
  earlier a b f = record { is = f.is; edge = f.edge; among = in_more edges i e low is f.edge f.among; to = f.to }

  -- what holds after the mark is set
  marked : (a b : ℕ) → Holds more a b → Holds old a b ⊎ FollowsFrom old node (take (i + 1) edges) a b
  marked a b h = elim ((added.grows a b).0 h) [
    | inl m ↦ elim ((g.grows a b).0 m) [ inl o ↦ inl o | inr f ↦ inr (earlier a b f) ]
    | inr q ↦ inr (record { is = q.0; edge = e; among = here; to = inl q.1 })
  ]

  behind : (a b : ℕ) → a ≡ node → Holds more e.1 b → FollowsFrom old node (take (i + 1) edges) a b
  behind a b at h = elim (marked e.1 b h) [
    | inl o ↦ record { is = at; edge = e; among = here; to = inr o }
    | inr f ↦ record { is = at; edge = f.edge; among = f.among; to = f.to }
  ]

  covered : (a b : ℕ) → FollowsFrom old node (take (i + 1) edges) a b → Holds new a b
  covered a b f = elim (in_next edges i e f.edge low is f.among) [
    | inl front ↦ still joined a b (still added a b (grown g a b (record { is = f.is; edge = f.edge; among = front; to = f.to })))
    | inr last ↦ elim f.to [
      | inl to ↦ still joined a b (grown added a b (f.is, to ∙ ap (λ (x : ℕ × ℕ). x.1) last))
      | inr on ↦ grown joined a b (f.is, still added e.1 b (still g e.1 b (subst (λ (x : ℕ × ℕ). Holds old x.1 b) last on)))
    ]
  ]

  pub followed_more : GrowsBy old new (FollowsFrom old node (take (i + 1) edges))
  followed_more = record {
    count = joined.count ∙ added.count ∙ g.count;
    grows = λ a b. (
      λ h. elim ((joined.grows a b).0 h) [ inl m ↦ marked a b m | inr q ↦ inr (behind a b q.0 q.1) ],
      λ s. elim s [ inl o ↦ still joined a b (still added a b (still g a b o)) | inr f ↦ covered a b f ],
    );
  }
