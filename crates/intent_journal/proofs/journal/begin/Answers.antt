use Rattle.intent_journal.specs.Forms.{StandsWith}
use Rattle.std.proofs.Common.{Some, sym, List, ℕ, subst}
use Rattle.tree_fs.specs.Story.{disk_of}
use Rattle.intent_json.specs.Forms.{set_form}
use Rattle.intent_journal.proofs.Between.{between_along}
use Rattle.intent_journal.proofs.Changing.{installed_form}
use Rattle.intent_journal.proofs.journal.begin.Goals as goal

pub returns-in_err-change-clause-leads : goal.returns-in_err-change-clause-leads
returns-in_err-change-clause-leads g c = λ told was holds both.
    let next = set_form c.args.ready.now in
    between_along was (Some next) (g.T.Tree.story c.args.tree.now) _ both (c.change.ensures.stops told was next c.set_text.ensures.reads both.firm holds)

pub returns-clause-leads : goal.returns-clause-leads
returns-clause-leads g c = λ told was holds both.
    let next = set_form c.args.ready.now in
    between_along was (Some next) (g.T.Tree.story c.args.tree.now) _ both (c.change.ensures.stops told was next c.set_text.ensures.reads both.firm holds)

pub returns-clause-holds : goal.returns-clause-holds
returns-clause-holds g c = λ told.
    installed_form (set_form c.args.ready.now) c.set_text.result.now (disk_of (g.T.Tree.story c.change.new.tree)) c.set_text.ensures.reads (c.in_ok-change.ensures.done told)

pub returns-in_err-change-clause-stands : goal.returns-in_err-change-clause-stands
returns-in_err-change-clause-stands g c = λ told standing with_text. c.change.ensures.stands told standing (subst (λ (text : List ℕ). StandsWith text (disk_of (g.T.Tree.story c.args.tree.now))) (sym c.set_text.ensures.text) with_text)

pub returns-clause-stands : goal.returns-clause-stands
returns-clause-stands g c = λ told standing with_text. c.change.ensures.stands told standing (subst (λ (text : List ℕ). StandsWith text (disk_of (g.T.Tree.story c.args.tree.now))) (sym c.set_text.ensures.text) with_text)
