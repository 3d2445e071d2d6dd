use Rattle.std.proofs.Common.{◌≡◌, false, nat_eq, ℕ, List, [], ◌∷◌, sym, subst, ◌∙◌}
use Rattle.std.specs.List.{IsDistinct}
use Rattle.std.specs.Cmp.Lexicographic.{pointwise}
use Rattle.profile_tests.proofs.tests.values.two_ids.Goals as goal

two : (a b : List ℕ) → pointwise nat_eq a b ≡ false → IsDistinct (pointwise nat_eq) (a ∷ b ∷ [])
unfolding IsDistinct
two a b differ = ((differ, tt), (tt, tt))

pub returns : goal.returns
returns g c =
    let a = c.id_of-first.result in
    let b = c.id_of-second.result in
    subst (IsDistinct (pointwise nat_eq)) (sym c.pair_of.ensures)
    (two a b (sym c.eq.ensures ∙ c.if-eq.false))
