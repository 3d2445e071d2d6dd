use Rattle.std.proofs.Common.{ap, sym, subst, ◌∙◌}
use Rattle.profile_toml.specs.Releases.{IsTextOfAll}
use Rattle.profile_toml.proofs.ReleaseFacts.{matches-texts}
use Rattle.profile_toml.proofs.range.Range.matches.Goals as goal

pub returns : goal.returns
returns c =
    let cs = c.self.inside.wanted.comparators.items in
    let read = subst (λ t. IsTextOfAll t cs) c.self.view_is c.self.invariant in
    c.matches.ensures ∙ matches-texts c.args.self.now c.args.release.now cs c.version.result.now read c.version.ensures
