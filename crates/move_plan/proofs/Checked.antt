-- What the nine rules tell together.
use Rattle.std.proofs.Common.{◌≡◌, ◌⊎◌, ℕ, zero, suc, ◌+◌, ◌<◌, ◌≤◌, map, refl, sym, ap, ◌∙◌, subst, inl, inr, arith, lit<}
use Rattle.std.specs.Option.{option_or}
use Rattle.std.specs.declared.option.Option.{Option}
use Rattle.std.specs.declared.option.Option.TheVariants.{None, Some}
use Rattle.tree_fs.specs.declared.place.Place.{Place}
use Rattle.move_plan.specs.declared.plan.SetRow.{SetRow}
use Rattle.move_plan.specs.declared.plan.Plan.{Plan}
use Rattle.move_plan.specs.Rules.{Rule, in_order, avoids_controls, source_stays, save_stays, keeping, clear_is_used, save_is_back, back_stays, apart, number_of, KeepsRule, PassesRules, IsFirstFault}
use Rattle.move_plan.specs.Tests.{first_of, rule_named}
use Rattle.move_plan.specs.Rising.{AreRising, AreSearchable}
use Rattle.move_plan.proofs.Failing.{kept-from_none, none-from_kept, fault-from_first, out_of_entries}
use Rattle.move_plan.proofs.Turned.{rises, same_map}

named : (r : Rule) → rule_named (number_of r) ≡ r
named in_order = refl
named avoids_controls = refl
named source_stays = refl
named save_stays = refl
named keeping = refl
named clear_is_used = refl
named save_is_back = refl
named back_stays = refl
named apart = refl

number-lt : (r : Rule) → number_of r < 10
number-lt in_order = lit< tt
number-lt avoids_controls = lit< tt
number-lt source_stays = lit< tt
number-lt save_stays = lit< tt
number-lt keeping = lit< tt
number-lt clear_is_used = lit< tt
number-lt save_is_back = lit< tt
number-lt back_stays = lit< tt
number-lt apart = lit< tt

number-some : (r : Rule) → 0 < number_of r
number-some in_order = lit< tt
number-some avoids_controls = lit< tt
number-some source_stays = lit< tt
number-some save_stays = lit< tt
number-some keeping = lit< tt
number-some clear_is_used = lit< tt
number-some save_is_back = lit< tt
number-some back_stays = lit< tt
number-some apart = lit< tt

-- the rules before a number are kept
abbrev pub Passed : ℕ → Plan → Type 0
Passed n plan = (r : Rule) → number_of r < n → KeepsRule r plan

pub none_passed : (plan : Plan) → Passed 1 plan
none_passed plan r h = let some = number-some r in let wrong : ⊥ = omega arith in absurd wrong

pub one_more_passed : (n : ℕ) (plan : Plan) → Passed n plan → first_of (rule_named n) plan ≡ None → Passed (n + 1) plan
one_more_passed n plan passed e r h = by (side (number_of r))
  where
    side : (m : ℕ) → (m < n) ⊎ (n ≤ m)
    side m = grind arith

    by : (number_of r < n) ⊎ (n ≤ number_of r) → KeepsRule r plan
    by (inl before) = passed r before
    by (inr behind) =
        let same : number_of r ≡ n = omega arith in
        let is : rule_named n ≡ r = ap rule_named (sym same) ∙ named r in
        subst (λ s. KeepsRule s plan) is (kept-from_none (rule_named n) plan e)

pub all_passed : (n : ℕ) (plan : Plan) → 10 ≤ n → Passed n plan → PassesRules plan
all_passed n plan h passed r = let lt = number-lt r in passed r (omega arith)

number_named : (n : ℕ) → 1 ≤ n → n < 10 → number_of (rule_named n) ≡ n
number_named zero low high = let wrong : ⊥ = omega arith in absurd wrong
number_named (suc zero) low high = refl
number_named (suc (suc zero)) low high = refl
number_named (suc (suc (suc zero))) low high = refl
number_named (suc (suc (suc (suc zero)))) low high = refl
number_named (suc (suc (suc (suc (suc zero))))) low high = refl
number_named (suc (suc (suc (suc (suc (suc zero)))))) low high = refl
number_named (suc (suc (suc (suc (suc (suc (suc zero))))))) low high = refl
number_named (suc (suc (suc (suc (suc (suc (suc (suc zero)))))))) low high = refl
number_named (suc (suc (suc (suc (suc (suc (suc (suc (suc zero))))))))) low high = refl
number_named (suc (suc (suc (suc (suc (suc (suc (suc (suc (suc n)))))))))) low high = let wrong : ⊥ = omega arith in absurd wrong

pub is_fault : (n i : ℕ) (plan : Plan) → 1 ≤ n → n < 10 → Passed n plan → first_of (rule_named n) plan ≡ Some i → IsFirstFault plan n i
is_fault n i plan low high passed e =
    let same = number_named n low high in
    subst (λ m. IsFirstFault plan m i) same
    (fault-from_first (rule_named n) plan i (λ r h. passed r (subst (λ m. number_of r < m) same h)) e)

-- nothing is in front of nothing
first_nothing : {A : Type 0} (a b : Option A) → option_or a b ≡ None → (a ≡ None) × (b ≡ None)
first_nothing None b e = (refl, e)
first_nothing (Some x) b e = let wrong : Some x ≡ None = e in absurd (cc)

pub searchable : (plan : Plan) → first_of in_order plan ≡ None → AreSearchable plan
searchable plan e =
    let folders = first_nothing _ _ (sym (out_of_entries plan) ∙ e) in
    let saves = first_nothing _ _ folders.1 in
    let sets = first_nothing _ _ saves.1 in
    let clears = first_nothing _ _ sets.1 in
    record {
      saves = rises (map (λ (s : Place × Place). s.1) plan.saves) saves.0;
      sets = rises (map (λ (row : SetRow). row.to) plan.sets) sets.0;
      clears = subst AreRising (same_map plan.clears) (rises (map (λ p. p) plan.clears) clears.0);
    }

-- where the first rule is passed, places can be looked up
pub passed_searchable : (n : ℕ) (plan : Plan) → 1 < n → Passed n plan → AreSearchable plan
passed_searchable n plan more passed = searchable plan (none-from_kept in_order plan (passed in_order more))
