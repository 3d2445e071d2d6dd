use Rattle.std.proofs.Common.{◌∙◌, ap, nat_lt, length, unwrap_or}
use Rattle.io_edge.proofs.FirstLine.{line_end-is, has_lf-by_end}
use Rattle.io_edge.proofs.lines.line_end.Goals as goal

pub returns-clause-end : goal.returns-clause-end
returns-clause-end c =
    c.unwrap_or.ensures ∙ ap (λ r. unwrap_or r (length c.args.bytes.now)) c.first_lf.ensures ∙ line_end-is c.args.bytes.now

pub returns-clause-found : goal.returns-clause-found
returns-clause-found c =
    ap (λ n. nat_lt n (length c.args.bytes.now)) (returns-clause-end c) ∙ has_lf-by_end c.args.bytes.now
