-- The first rule that a plan fails is one, and there is none exactly where the plan passes all.
use Rattle.std.proofs.Common.{◌≡◌, ◌⊎◌, ◌↔◌, ℕ, zero, suc, ◌+◌, ◌<◌, ◌≤◌, List, [], ◌∷◌, ◌++◌, refl, sym, ap, ◌∙◌, subst, inl, inr, arith}
use Rattle.std.specs.List.{AllByRecursion}
use Rattle.std.specs.declared.option.Option.{Option}
use Rattle.std.specs.declared.option.Option.TheVariants.{None, Some}
use Rattle.list_laws.proofs.Alls.{all_right}
use Rattle.move_plan.specs.declared.plan.Plan.{Plan}
use Rattle.move_plan.specs.Entries.{Listed}
use Rattle.move_plan.specs.Rules.{Rule, in_order, avoids_controls, source_stays, save_stays, keeping, clear_is_used, save_is_back, back_stays, apart, number_of, Keeps, PassesRules, IsFirstFault}
use Rattle.move_plan.specs.Tests.{first_of, rule_named}
use Rattle.move_plan.proofs.Entries.{fault-not_passed}
use Rattle.move_plan.proofs.Checked.{Passed, none_passed, one_more_passed, all_passed, is_fault}

named : (r : Rule) → rule_named (number_of r) ≡ r
named in_order = refl
named avoids_controls = refl
named source_stays = refl
named save_stays = refl
named keeping = refl
named clear_is_used = refl
named save_is_back = refl
named back_stays = refl
named apart = refl

same_rule : (r s : Rule) → number_of r ≡ number_of s → r ≡ s
same_rule r s e = sym (named r) ∙ ap rule_named e ∙ named s

head_of : (x y : Listed) (xs ys : List Listed) → x ∷ xs ≡ y ∷ ys → x ≡ y
head_of x y xs ys e = cc

tail_of : (x y : Listed) (xs ys : List Listed) → x ∷ xs ≡ y ∷ ys → xs ≡ ys
tail_of x y xs ys e = cc

-- the first item that fails is one
first_item : (P : Listed → Type 0) (xs : List Listed) (x : Listed) (later : List Listed) (ys : List Listed) (y : Listed) (last : List Listed)
    → xs ++ x ∷ later ≡ ys ++ y ∷ last → AllByRecursion P xs → AllByRecursion P ys → ¬ P x → ¬ P y → x ≡ y
first_item P [] x later [] y last e kx ky fx fy = head_of x y later last e
first_item P [] x later (z ∷ zs) y last e kx ky fx fy = absurd (fx (subst P (sym (head_of x z later (zs ++ y ∷ last) e)) ky.0))
first_item P (z ∷ zs) x later [] y last e kx ky fx fy = absurd (fy (subst P (head_of z y (zs ++ x ∷ later) last e) kx.0))
first_item P (z ∷ zs) x later (w ∷ ws) y last e kx ky fx fy = first_item P zs x later ws y last (tail_of z w (zs ++ x ∷ later) (ws ++ y ∷ last) e) kx.1 ky.1 fx fy

-- where the one fault is of an earlier rule than the other, it is none
not_earlier : (plan : Plan) (m n i j : ℕ) → IsFirstFault plan m i → IsFirstFault plan n j → m < n → ⊥
not_earlier plan m n i j f g less =
    let kept = g.earlier_rules f.rule (subst (λ k. k < n) f.its_number less) in
    f.fails ((all_right (Keeps f.rule plan) f.earlier _ (subst (AllByRecursion (Keeps f.rule plan)) f.split kept)).0)

pub fault-one : (plan : Plan) (m n i j : ℕ) → IsFirstFault plan m i → IsFirstFault plan n j → (m ≡ n) × (i ≡ j)
fault-one plan m n i j f g = by (sides m n)
  where
    sides : (a b : ℕ) → (a < b) ⊎ (b < a) ⊎ (a ≡ b)
    sides a b = grind arith

    by : (m < n) ⊎ (n < m) ⊎ (m ≡ n) → (m ≡ n) × (i ≡ j)
    by (inl less) = absurd (not_earlier plan m n i j f g less)
    by (inr (inl more)) = absurd (not_earlier plan n m j i g f more)
    by (inr (inr same)) =
        let rule : g.rule ≡ f.rule = same_rule g.rule f.rule (sym g.its_number ∙ sym same ∙ f.its_number) in
        let kept = subst (λ r. AllByRecursion (Keeps r plan) g.earlier) rule g.kept in
        let fails = λ (k : Keeps f.rule plan g.at). g.fails (subst (λ r. Keeps r plan g.at) (sym rule) k) in
        let at = first_item (Keeps f.rule plan) f.earlier f.at f.later g.earlier g.at g.later (sym f.split ∙ g.split) f.kept kept f.fails fails in
        (same, f.its_index ∙ ap (λ (l : Listed). l.index) at ∙ sym g.its_index)

abbrev Found : Plan → Type 0
Found plan = PassesRules plan ⊎ ((n : ℕ) × (i : ℕ) × IsFirstFault plan n i)

look : (plan : Plan) (left n : ℕ) → left + n ≡ 10 → 1 ≤ n → Passed n plan → Found plan
look plan zero n e low passed = inl (all_passed n plan (omega arith) passed)
look plan (suc left) n e low passed = by (λ none. look plan left (n + 1) (omega arith) (omega arith) (one_more_passed n plan passed none)) (first_of (rule_named n) plan) refl
  where
    by : (first_of (rule_named n) plan ≡ None → Found plan) → (o : Option ℕ) → first_of (rule_named n) plan ≡ o → Found plan
    by later None is = later is
    by later (Some i) is = let high : n < 10 = omega arith in inr (n, i, is_fault n i plan low high passed is)

-- a plan passes all rules or has a first fault
pub passes-or_fault : (plan : Plan) → Found plan
passes-or_fault plan = look plan 9 1 refl (omega arith) (none_passed plan)

-- no rule fails exactly where all are passed
pub no_fault-passes : (plan : Plan) → (((n i : ℕ) → ¬ IsFirstFault plan n i) ↔ PassesRules plan)
no_fault-passes plan = (
  λ never. elim (passes-or_fault plan) [ inl passes ↦ passes | inr found ↦ absurd (never found.0 found.1 found.2) ],
  λ passes n i fault. fault-not_passed plan n i fault passes,
)
