use Rattle.std.proofs.Common.{refl, sym, ap, ◌∙◌}
use Rattle.std.specs.Str.{is_utf8}
use Rattle.std.proofs.lemmas.Str.{is_utf8-from_IsUtf8}
use Rattle.io_edge.proofs.Texts.{is_utf8-by_not}
use Rattle.io_edge.proofs.lines.text_of.Goals as goal

pub returns-in_ok-from_str-in-Ok-clause-ok : goal.returns-in_ok-from_str-in-Ok-clause-ok
returns-in_ok-from_str-in-Ok-clause-ok c =
    (c.in_ok-from_str-in-Ok.ensures.ok ∙ c.in-Ok.ensures.cases.0 ∙ c.without_line_end.ensures, ap is_utf8 (sym c.without_line_end.ensures) ∙ is_utf8-from_IsUtf8 c.without_line_end.result.now c.in-Ok.ensures.cases.1)

pub returns-in-Err-clause-err : goal.returns-in-Err-clause-err
returns-in-Err-clause-err c = λ _.
    (refl, ap is_utf8 (sym c.without_line_end.ensures) ∙ is_utf8-by_not c.without_line_end.result.now c.in-Err.ensures.cases.0)
