use Rattle.std.proofs.Common.{ap, ◌∙◌}
use Rattle.rel_paths.specs.Names.{names_of}
use Rattle.tour_counts.proofs.Names.{names_below-text}
use Rattle.tour_counts.proofs.files.place_below.Goals as goal

pub returns-in-Ok : goal.returns-in-Ok
returns-in-Ok c =
    ap (λ names. record { root = c.args.folder.now.root; names = names })
    (ap names_of (c.in-Ok.ensures.same ∙ c.as_str.ensures.value ∙ c.in_ok-text.ensures.same) ∙ names_below-text c.args.folder.now.rel c.args.name.now c.in_ok-text.ensures.good)
