-- What extends a path lies below it.
use Rattle.std.proofs.Common.{◌≡◌, ℕ, true, List, ◌++◌, refl, ap, ◌∙◌}
use Rattle.rel_paths.specs.Names.{names_of, extends}
use Rattle.rel_paths.proofs.NamesOf.{has_names, names_of-between}
use Rattle.rel_paths.proofs.Extends.{extends-tells}
use Rattle.tree_fs.specs.Spot.{IsBelow}
use Rattle.tree_fs.specs.Places.{game_spot}

pub extends-lies : (p q : List ℕ) → extends q p ≡ true → IsBelow (game_spot p) (game_spot q)
extends-lies p q e =
    let rest = extends-tells q p e in
    let first = has_names rest.0 in
    record { root = refl; name = first.0; rest = first.1; names = ap names_of rest.1 ∙ names_of-between p rest.0 ∙ ap (λ l. names_of p ++ l) first.2 }
