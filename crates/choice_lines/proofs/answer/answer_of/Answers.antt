use Rattle.std.proofs.Common.{◌≡◌, sym, ◌∙◌, None, Some}
use Rattle.change_detect.specs.declared.changes.Change.{Change}
use Rattle.choice_lines.proofs.Tabs.{parted}
use Rattle.choice_lines.proofs.Fitting.{no_tab, said_here, no_word, no_change, not_allowed}
use Rattle.choice_lines.proofs.answer.answer_of.Goals as goal

pub returns-in_err-path-clause-none : goal.returns-in_err-path-clause-none
returns-in_err-path-clause-none c none answer is fits = no_tab c.args.line.now c.in_err-path.ensures.cases answer is

pub returns-in_err-action-clause-none : goal.returns-in_err-action-clause-none
returns-in_err-action-clause-none c none answer is fits =
    let path = c.in_ok-path.path.now in
    let word = c.in_ok-path.word.now in
    let cut = parted c.args.line.now path word c.in_ok-path.ensures.cases in
    no_word c.args.line.now path word cut (sym c.in_err-action.ensures) answer is

pub returns-in_err-change-clause-none : goal.returns-in_err-change-clause-none
returns-in_err-change-clause-none c none answer is fits =
    let path = c.in_ok-path.path.now in
    let word = c.in_ok-path.word.now in
    let cut = parted c.args.line.now path word c.in_ok-path.ensures.cases in
    no_change c.args.line.now path word cut c.args.changes.now
    (λ (d : Change) among same. let no : None ≡ Some d = c.in_err-change.ensures.alone d among same in cc) answer is fits

pub returns-then-allowed-clause-text : goal.returns-then-allowed-clause-text
returns-then-allowed-clause-text c =
    let path = c.in_ok-path.path.now in
    let word = c.in_ok-path.word.now in
    let cut = parted c.args.line.now path word c.in_ok-path.ensures.cases in
    said_here c.args.line.now path word cut c.in_ok-change.change.now.path c.in_ok-action.action c.in_ok-change.ensures.path (sym c.in_ok-action.ensures)

pub returns-else-allowed-clause-none : goal.returns-else-allowed-clause-none
returns-else-allowed-clause-none c none answer is fits =
    let path = c.in_ok-path.path.now in
    let word = c.in_ok-path.word.now in
    let change = c.in_ok-change.change.now in
    let cut = parted c.args.line.now path word c.in_ok-path.ensures.cases in
    not_allowed c.args.line.now path word cut c.args.changes.now change c.in_ok-action.action (sym c.in_ok-action.ensures)
    (λ (d : Change) among same. let one : Some change ≡ Some d = c.in_ok-change.ensures.alone d among same in cc)
    (sym c.allowed.ensures ∙ c.if-allowed.false) answer is fits
