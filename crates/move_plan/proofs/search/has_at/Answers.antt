use Rattle.std.proofs.Common.{◌∙◌, ap, is_some}
use Rattle.std.specs.Option.{option_map}
use Rattle.move_plan.specs.Tests.{has_text, text_at}
use Rattle.move_plan.proofs.Searching.{is_some-position}
use Rattle.move_plan.proofs.search.has_at.Goals as goal

pub returns : goal.returns
returns g c =
    c.is_some.ensures ∙ ap is_some c.index_at.ensures
    ∙ is_some-position (λ x. has_text (text_at c.args.root (option_map (λ p. p.now) c.args.path)) (g.T.Keyed.key x)) c.args.items.now
