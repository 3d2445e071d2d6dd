use Rattle.std.proofs.Common.{◌++◌, ap, sym, ◌∙◌, lit<, ◌==◌, get_or}
use Rattle.std.proofs.lemmas.Bool.Decides.{same_from_decides, Decides-eqb}
use Rattle.std.proofs.lemmas.Str.Pattern.{starts_char}
use Rattle.rel_paths.proofs.Extends.{extends-lacks, extends-rest}
use Rattle.manifest_json.proofs.nesting.extends.Goals as goal

pub returns-in-None : goal.returns-in-None
returns-in-None c = extends-lacks c.args.path.now c.args.other.now c.in-None.ensures.cases

pub returns-in-Some : goal.returns-in-Some
returns-in-Some c =
    let cut = c.in-Some.ensures.cases in
    let text = cut.1.1 ∙ ap (λ t. c.args.other.now ++ t) (sym cut.2) in
    let rest = c.in-Some.rest.now in
    same_from_decides c.starts_with.result (get_or rest 0 0 == 47) (starts_char 47 rest c.starts_with.result c.starts_with.ensures.cases (lit< tt) (lit< tt)) (Decides-eqb (get_or rest 0 0) 47)
    ∙ sym (extends-rest c.args.path.now c.args.other.now rest text)
