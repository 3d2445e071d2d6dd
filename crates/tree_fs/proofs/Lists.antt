-- What a place held before, of two lists one behind the other. General laws of lists stand in `list_laws`.
use Rattle.std.proofs.Common.{◌⊎◌, List, [], ◌∷◌, ◌++◌, inl, inr}
use Rattle.tree_fs.specs.Disk.{Value, IsIn}
pub use Rattle.list_laws.proofs.Alls.{all_append, all_left, all_right, all_both, all_weaken, all_every, all_at, all_item, all_more, all_map, all_unmap, all_one_more, all_this}
pub use Rattle.list_laws.proofs.Containing.{contains_here, contains_there, contains_cases, contains_none, contains_map, map_contains}
pub use Rattle.list_laws.proofs.Lists.{around, one_more}

pub in_append : (v : Value) (xs ys : List Value) → IsIn v (xs ++ ys) → IsIn v xs ⊎ IsIn v ys
in_append v [] ys h = inr h
in_append v (x ∷ xs) ys (inl e) = inl (inl e)
in_append v (x ∷ xs) ys (inr h) = elim (in_append v xs ys h) [ inl l ↦ inl (inr l) | inr r ↦ inr r ]
