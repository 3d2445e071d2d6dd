use Rattle.choice_lines.proofs.Once as once
use Rattle.choice_lines.proofs.laws.lines_tell.Goals as goal

pub returns-clause-one_reading : goal.returns-clause-one_reading
returns-clause-one_reading c = λ changes texts one other a b. once.one_reading changes texts one other a b

pub returns-clause-exclusive : goal.returns-clause-exclusive
returns-clause-exclusive c = λ changes input answers error read are refused. once.read_or_refused changes input answers error read are refused

pub returns-clause-unique : goal.returns-clause-unique
returns-clause-unique c = λ changes input one other a b. once.one_refusal changes input one other a b
