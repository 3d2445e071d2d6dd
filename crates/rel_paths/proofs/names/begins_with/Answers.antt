use Rattle.std.proofs.Common.{ap, sym, ◌∙◌, ◌++◌, lit<, ◌==◌, get_or}
use Rattle.std.proofs.lemmas.Bool.Decides.{same_from_decides, Decides-eqb}
use Rattle.std.proofs.lemmas.Str.Pattern.{starts_char}
use Rattle.rel_paths.proofs.First.{starts_with-lacks, starts_with-behind_none, starts_with-behind_some}
use Rattle.rel_paths.proofs.names.begins_with.Goals as goal

pub returns-in-None : goal.returns-in-None
returns-in-None c = starts_with-lacks c.args.text.now c.args.other.now c.in-None.ensures.cases

pub returns-then-is_empty : goal.returns-then-is_empty
returns-then-is_empty c =
    let cut = c.in-Some.ensures.cases in
    let text = cut.1.1 ∙ ap (λ t. c.args.other.now ++ t) (sym cut.2) in
    c.if-is_empty.true ∙ sym (starts_with-behind_none c.args.text.now c.args.other.now c.in-Some.rest.now text (sym c.if-is_empty.ensures))

pub returns-else-is_empty : goal.returns-else-is_empty
returns-else-is_empty c =
    let cut = c.in-Some.ensures.cases in
    let text = cut.1.1 ∙ ap (λ t. c.args.other.now ++ t) (sym cut.2) in
    let rest = c.in-Some.rest.now in
    same_from_decides c.starts_with.result (get_or rest 0 0 == 47) (starts_char 47 rest c.starts_with.result c.starts_with.ensures.cases (lit< tt) (lit< tt)) (Decides-eqb (get_or rest 0 0) 47)
    ∙ sym (starts_with-behind_some c.args.text.now c.args.other.now rest text (sym c.if-is_empty.ensures))
