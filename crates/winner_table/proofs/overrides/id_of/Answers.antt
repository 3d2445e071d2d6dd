use Rattle.std.proofs.Common.{sym, subst}
use Rattle.std.proofs.lemmas.Option.{slice_get_within}
use Rattle.winner_table.specs.Overrides.{IsIndexAt}
use Rattle.winner_table.proofs.Overriding.{entry_at}
use Rattle.winner_table.proofs.overrides.id_of.Goals as goal

pub returns-in-None : goal.returns-in-None
returns-in-None c = subst (IsIndexAt c.args.overrides.now c.args.path.now) (sym c.in-None.ensures.value) (c.requires c.args.path.now)

pub mod_at-requires : goal.mod_at-requires
mod_at-requires c =
    let at = subst (IsIndexAt c.args.overrides.now c.args.path.now) (sym c.in-Some.ensures.value) (c.requires c.args.path.now) in
    slice_get_within c.args.overrides.now c.in-Some.index.now at.entry at.is

pub returns-in-Some : goal.returns-in-Some
returns-in-Some c =
    let at = subst (IsIndexAt c.args.overrides.now c.args.path.now) (sym c.in-Some.ensures.value) (c.requires c.args.path.now) in
    entry_at c.args.overrides.now c.args.path.now c.in-Some.index.now c.mod_at.result.now at c.mod_at.ensures
