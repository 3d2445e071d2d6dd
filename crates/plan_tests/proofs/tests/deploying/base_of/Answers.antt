use Rattle.std.proofs.Common.{refl, sym, subst, codes}
use Rattle.rel_paths.specs.Names.{is_base, path_fault, is_reserved, IsBase}
use Rattle.plan_tests.proofs.tests.deploying.base_of.Goals as goal

is : IsBase (codes "bin")
unfolding is_base path_fault is_reserved
is = refl

pub returns : goal.returns
returns g c = subst IsBase (sym c.path_of.ensures) is
