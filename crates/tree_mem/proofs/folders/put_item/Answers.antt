use Rattle.std.proofs.Common.{◌++◌, ◌∷◌, [], sym, ap, ◌∙◌, rules, Some}
use Rattle.std.specs.Option.{option_copied_mut}
use Rattle.tree_mem.specs.Keys.{folder_names}
use Rattle.tree_mem.proofs.Paths.{put_some, put_back, put_first, update_at}
use Rattle.tree_mem.proofs.folders.put_item.Goals as goal

pub returns-in-Some-clause-ok : goal.returns-in-Some-clause-ok
returns-in-Some-clause-ok c =
    let had = sym (ap option_copied_mut c.in-Some.is) ∙ c.get_mut.ensures.value in
    put_some c.set.result c.args.folders.now (c.get_mut.follows.lender c.set.new.self) c.args.text.now _ _ _ c.set.new.self _
    (c.split_last.ensures.names ∙ ap (λ n. folder_names c.split_last.result.0.now ++ n ∷ []) (sym c.in_ok-name.ensures.ok)) had ((c.get_mut.follows.holds c.set.new.self).3 (search rules)) c.set.ensures.ok

pub returns-in-Some-clause-err : goal.returns-in-Some-clause-err
returns-in-Some-clause-err c =
    let had = sym (ap option_copied_mut c.in-Some.is) ∙ c.get_mut.ensures.value in
    put_back c.set.result c.args.folders.now (c.get_mut.follows.lender c.set.new.self) c.split_last.result.0.now _ c.set.new.self had ((c.get_mut.follows.holds c.set.new.self).3 (search rules)) c.set.ensures.err

pub returns-in_ok-insert-in-None-clause-ok : goal.returns-in_ok-insert-in-None-clause-ok
returns-in_ok-insert-in-None-clause-ok c =
    let had = sym (ap option_copied_mut c.in-None.is) ∙ c.get_mut.ensures.value in
    put_first c.args.folders.now c.insert.new.self c.args.text.now c.split_last.result.0.now _ c.new-entries.result c.set-in-None.new.self _
    (c.split_last.ensures.names ∙ ap (λ n. folder_names c.split_last.result.0.now ++ n ∷ []) (sym c.in_ok-name.ensures.ok)) had
    (update_at c.args.folders.now _ c.insert.new.self c.in_ok-to_string-in-None.field-0 c.split_last.result.0.now (Some c.set-in-None.new.self) c.get_mut.follows.holds-at-none c.in_ok-to_string-in-None.ensures.ok c.in_ok-insert-in-None.ensures.updates)
    c.new-entries.ensures c.in_ok-set-in-None.ensures.ok
