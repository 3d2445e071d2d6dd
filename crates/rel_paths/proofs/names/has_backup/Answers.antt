use Rattle.std.proofs.Common.{rules, lit<, nat_eq}
use Rattle.std.specs.List.{ends_with}
use Rattle.std.proofs.lemmas.Iterator.Search.{any_from_yields_List}
use Rattle.std.proofs.lemmas.Iterator.Splits.{YieldsList-from_str_split}
use Rattle.rel_paths.specs.Names.{backup_ending}
use Rattle.rel_paths.proofs.names.has_backup.Goals as goal

pub returns : goal.returns
returns c =
    any_from_yields_List (λ n. ends_with nat_eq n backup_ending) _ _ _ c.any.ensures.ran
    (YieldsList-from_str_split 47 c.args.text.now (lit< tt) c.split.ensures.text c.split.ensures.has_more c.split.ensures.pattern)
    (λ x b q h. search rules)
