use Rattle.std.proofs.Common.{◌≡◌, ◌↔◌, IfOk, List, ℕ, map, filter_map, ◌∙◌, subst}
use Rattle.std.specs.List.{Contains}
use Rattle.rel_paths.specs.Names.{names_of}
use Rattle.tree_fs.specs.Spot.{spot_of}
use Rattle.plan_lists.specs.Above.{IsAboveOne}
use Rattle.plan_lists.proofs.Gathered.{map_itself}
use Rattle.purge_run.specs.MadeFolders.{made_at}
use Rattle.purge_run.specs.Told.{case_seen, told_aside}
use Rattle.purge_run.proofs.MadeAside.{order_answer, are_answer}
use Rattle.purge_run.proofs.missing.aside_folders.Goals as goal

pub returns-clause-order : goal.returns-clause-order
returns-clause-order c =
    order_answer c.args.is_there c.in_ok-folders.folders.items c.in_ok-folders.ensures.rise c.made_places.result
    (subst (λ l. IfOk c.made_places.result (λ places. map spot_of places.items ≡ filter_map (made_at c.args.is_there) l)) c.deref-2.ensures.value c.made_places.ensures)

pub returns-clause-are : goal.returns-clause-are
returns-clause-are c =
    let paths = c.in_ok-paths.paths.items in
    let folders = c.in_ok-folders.folders.items in
    are_answer c.args.is_there (filter_map (told_aside c.args.number) (map case_seen c.args.cases.now)) paths folders c.in_ok-paths.ensures
    (subst (λ l. (names : List (List ℕ)) → Contains (map names_of folders) names ↔ IsAboveOne l names) (map_itself c.deref.result.now ∙ c.deref.ensures.value) c.in_ok-folders.ensures.are)
    c.made_places.result
    (subst (λ l. IfOk c.made_places.result (λ places. map spot_of places.items ≡ filter_map (made_at c.args.is_there) l)) c.deref-2.ensures.value c.made_places.ensures)
