-- The base folders that tests take.
use Rattle.std.proofs.Common.{refl, codes}
use Rattle.rel_paths.specs.Names.{is_base, path_fault, is_reserved, IsBase}

pub short_is_base : IsBase (codes "bin")
unfolding is_base path_fault is_reserved
short_is_base = refl

pub long_is_base : IsBase (codes "bbbbbbbbbb")
unfolding is_base path_fault is_reserved
long_is_base = refl
