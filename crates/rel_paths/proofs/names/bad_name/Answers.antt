use Rattle.std.proofs.Common.{rules, lit<, not}
use Rattle.std.proofs.lemmas.Iterator.Search.{position_from_yields_List}
use Rattle.std.proofs.lemmas.Iterator.Splits.{YieldsList-from_str_split}
use Rattle.rel_paths.specs.Names.{is_name_within}
use Rattle.rel_paths.proofs.names.bad_name.Goals as goal

pub returns : goal.returns
returns c =
    position_from_yields_List (λ n. not (is_name_within c.args.most n)) _ _ _ c.position.ensures.ran
    (YieldsList-from_str_split 47 c.args.text.now (lit< tt) c.split.ensures.text c.split.ensures.has_more c.split.ensures.pattern)
    (λ x b q h. search rules)
