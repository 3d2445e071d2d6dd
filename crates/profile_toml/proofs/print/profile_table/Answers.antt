use Rattle.std.proofs.Common.{subst, nat_eq}
use Rattle.std.specs.List.{IsDistinct}
use Rattle.std.specs.Cmp.Lexicographic.{pointwise}
use Rattle.profile_toml.specs.Kept.{IsProfile}
use Rattle.profile_toml.proofs.Printed.{paths_are}
use Rattle.profile_toml.proofs.print.profile_table.Goals as goal

pub returns-clause-kept : goal.returns-clause-kept
returns-clause-kept c =
    subst IsProfile c.profile.view_is (record {
      mods = c.in_ok-mods.ensures.kept;
      ids = c.in_ok-mods.ensures.ids;
      overrides = c.in_ok-overrides.ensures.kept;
      paths = subst (IsDistinct (pointwise nat_eq)) (paths_are c.profile.inside.overrides.entries c.profile.invariant.0) c.in_ok-overrides.ensures.keys;
      types = c.in_ok-put_types.ensures.kept;
      fits = c.profile.invariant.1;
    })
