-- A fault of a text without fault.
use Rattle.std.proofs.Common.{◌≡◌, refl, ◌∙◌, sym}
use Rattle.std.specs.declared.option.Option.{Option}
use Rattle.std.specs.declared.option.Option.TheVariants.{None, Some}
use Rattle.fault_count.specs.Causes.{Explains}
use Rattle.rel_paths.specs.declared.error.PathError.{PathError}
use Rattle.rel_paths.specs.declared.error.PathError.TheVariants.{Empty, Long, Deep, BadName, Memory}

-- it can only be want of memory
pub memory-from_none : (e : PathError) → Explains Memory None e → e ≡ Memory
memory-from_none Memory h = refl
memory-from_none Empty h = let never : None ≡ Some Empty = h (λ q. cc) in cc
memory-from_none Long h = let never : None ≡ Some Long = h (λ q. cc) in cc
memory-from_none Deep h = let never : None ≡ Some Deep = h (λ q. cc) in cc
memory-from_none (BadName k) h = let never : None ≡ Some (BadName k) = h (λ q. cc) in cc

pub fault-memory : (fault : Option PathError) (e : PathError) → Explains Memory fault e → fault ≡ None → e ≡ Memory
fault-memory fault e h none = memory-from_none e (λ other. sym none ∙ h other)
