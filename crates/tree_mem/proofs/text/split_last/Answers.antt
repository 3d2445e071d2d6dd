use Rattle.tree_mem.proofs.Names.{cut_at_slash, cut_nowhere}
use Rattle.tree_mem.proofs.text.split_last.Goals as goal

pub returns-in-Some-clause-names : goal.returns-in-Some-clause-names
returns-in-Some-clause-names c = (cut_at_slash _ _ _ c.requires c.in-Some.ensures.cases).names

pub returns-in-Some-clause-good : goal.returns-in-Some-clause-good
returns-in-Some-clause-good c = (cut_at_slash _ _ _ c.requires c.in-Some.ensures.cases).good

pub returns-in-None-clause-names : goal.returns-in-None-clause-names
returns-in-None-clause-names c = (cut_nowhere _ c.requires c.in-None.ensures.cases).names

pub returns-in-None-clause-good : goal.returns-in-None-clause-good
returns-in-None-clause-good c = (cut_nowhere _ c.requires c.in-None.ensures.cases).good
