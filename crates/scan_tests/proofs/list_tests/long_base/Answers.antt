use Rattle.std.proofs.Common.{sym, subst}
use Rattle.rel_paths.specs.Names.{IsBase}
use Rattle.scan_tests.proofs.TestBases.{long_is_base}
use Rattle.scan_tests.proofs.list_tests.long_base.Goals as goal

pub returns : goal.returns
returns g c = subst IsBase (sym c.path_of.ensures) long_is_base
