use Rattle.std.proofs.Common.{◌≡◌, rules, of_calls, sym, ap, ◌∙◌, subst, Some}
use Rattle.std.specs.Ordering.{nat_cmp}
use Rattle.std.specs.Cmp.Lexicographic.{slice_cmp}
use Rattle.std.specs.declared.cmp.Ordering.TheVariants.{Equal}
use Rattle.std.proofs.lemmas.Fn.{always_returns_same}
use Rattle.list_laws.proofs.Containing.{in_this}
use Rattle.list_laws.proofs.Orders.{text_tied}
use Rattle.change_detect.specs.declared.changes.Change.{Change}
use Rattle.choice_lines.proofs.Searching.{one_change, nowhere}
use Rattle.choice_lines.proofs.changes.change_at.Goals as goal

pub returns-in-Ok-clause-path : goal.returns-in-Ok-clause-path
returns-in-Ok-clause-path c =
    let s = c.args.text.now in
    let found = c.in-Ok.ensures.position (λ (y : Change). slice_cmp nat_cmp y.path s) (always_returns_same _ _ _ (λ a r f k. search (rules, of_calls))) in
    let item = c.index-changes-index.result in
    text_tied item.path s (subst (λ (y : Change). slice_cmp nat_cmp y.path s ≡ Equal) (sym c.index-changes-index.is) (found item))

pub returns-in-Ok-clause-alone : goal.returns-in-Ok-clause-alone
returns-in-Ok-clause-alone c other among same =
    let s = c.args.text.now in
    let found = c.in-Ok.ensures.position (λ (y : Change). slice_cmp nat_cmp y.path s) (always_returns_same _ _ _ (λ a r f k. search (rules, of_calls))) in
    let item = c.index-changes-index.result in
    let path : item.path ≡ s = text_tied item.path s (subst (λ (y : Change). slice_cmp nat_cmp y.path s ≡ Equal) (sym c.index-changes-index.is) (found item)) in
    ap Some (one_change c.args.changes.now item other c.requires (in_this c.args.changes.now c.in-Ok.index item c.in-Ok.ensures.bound c.index-changes-index.is) among (path ∙ sym same))

pub returns-in-Err-clause-alone : goal.returns-in-Err-clause-alone
returns-in-Err-clause-alone c other among same =
    let s = c.args.text.now in
    let found = c.in-Err.ensures.position (λ (y : Change). slice_cmp nat_cmp y.path s) (always_returns_same _ _ _ (λ a r f k. search (rules, of_calls))) in
    absurd (nowhere c.args.changes.now s c.in-Err.field-0 c.requires found other among same)
