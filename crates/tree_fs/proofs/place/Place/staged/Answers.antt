use Rattle.std.proofs.Common.{◌≡◌, [], ◌∷◌, ◌++◌, ap, sym, ◌∙◌, subst}
use Rattle.rel_paths.specs.Names.{names_of, IsHeldPath, joined}
use Rattle.rel_paths.proofs.OneName.{names_of-id}
use Rattle.tree_fs.specs.declared.place.Root.TheVariants.{Stage}
use Rattle.tree_fs.proofs.Parses.{IsHeldPath-staged}
use Rattle.tree_fs.proofs.place.Place.staged.Goals as goal

pub join-requires : goal.join-requires
join-requires c = subst (λ t. IsHeldPath (joined t c.args.path.now)) (sym c.in_ok-folder.ensures.same) (IsHeldPath-staged c.args.id.now c.args.path.now c.in_ok-folder.ensures.good c.requires)

pub returns : goal.returns
returns c =
    let first : names_of c.in_ok-folder.folder ≡ c.args.id.now ∷ [] = ap names_of c.in_ok-folder.ensures.same ∙ names_of-id c.args.id.now c.in_ok-folder.ensures.good in
    λ i. record { root = Stage; names = (c.in_ok-join.ensures ∙ ap (λ l. l ++ names_of c.args.path.now) first) i }
