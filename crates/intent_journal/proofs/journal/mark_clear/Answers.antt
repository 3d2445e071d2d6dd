use Rattle.intent_journal.specs.Forms.{StandsWith}
use Rattle.std.proofs.Common.{Some, List, ℕ, sym, subst}
use Rattle.tree_fs.specs.Story.{disk_of}
use Rattle.intent_json.specs.Forms.{clear_form}
use Rattle.intent_journal.proofs.Between.{between_along}
use Rattle.intent_journal.proofs.Changing.{installed_form}
use Rattle.intent_journal.proofs.journal.mark_clear.Goals as goal

pub returns-in-Ok-clause-leads : goal.returns-in-Ok-clause-leads
returns-in-Ok-clause-leads g c = λ told was holds both.
    let next = clear_form c.args.ready.now in
    between_along was (Some next) (g.T.Tree.story c.args.tree.now) _ both (c.change.ensures.stops told was next c.clear_text.ensures.reads both.firm holds)

pub returns-in-Err-clause-leads : goal.returns-in-Err-clause-leads
returns-in-Err-clause-leads g c = λ told was holds both.
    let next = clear_form c.args.ready.now in
    between_along was (Some next) (g.T.Tree.story c.args.tree.now) _ both (c.change.ensures.stops told was next c.clear_text.ensures.reads both.firm holds)

pub returns-in-Ok-clause-holds : goal.returns-in-Ok-clause-holds
returns-in-Ok-clause-holds g c = λ told.
    installed_form (clear_form c.args.ready.now) c.clear_text.result.now (disk_of (g.T.Tree.story c.change.new.tree)) c.clear_text.ensures.reads (c.in-Ok.ensures.done told)

pub returns-in-Ok-clause-stands : goal.returns-in-Ok-clause-stands
returns-in-Ok-clause-stands g c = λ told standing with_text. c.change.ensures.stands told standing (subst (λ (text : List ℕ). StandsWith text (disk_of (g.T.Tree.story c.args.tree.now))) (sym c.clear_text.ensures.text) with_text)

pub returns-in-Err-clause-stands : goal.returns-in-Err-clause-stands
returns-in-Err-clause-stands g c = λ told standing with_text. c.change.ensures.stands told standing (subst (λ (text : List ℕ). StandsWith text (disk_of (g.T.Tree.story c.args.tree.now))) (sym c.clear_text.ensures.text) with_text)
