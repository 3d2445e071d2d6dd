use Rattle.std.proofs.Common.{◌≡◌, ℕ, List, MatchOption, map, sym, ap, ◌∙◌, subst}
use Rattle.std.specs.declared.option.Option.{Option}
use Rattle.std.specs.List.{AllByRecursion}
use Rattle.winner_table.specs.declared.wins.WinRow.{WinRow}
use Rattle.winner_table.specs.Winners.{paths_of}
use Rattle.winner_table.specs.Providers.{path_of}
use Rattle.winner_table.specs.Rows.{HasNodes, HasEntry}
use Rattle.winner_table.specs.Folders.{AreApart, IsFirstFolder}
use Rattle.winner_table.proofs.Deciding.{each_has_nodes, rows_win, rows_free, least_folder}
use Rattle.winner_table.proofs.wins.winners.Goals as goal

pub rows_of-requires : goal.rows_of-requires
rows_of-requires c =
    subst (AllByRecursion (HasNodes c.args.scans.now)) (sym c.as_slice.ensures.value)
    (each_has_nodes c.args.scans.now c.args.order.now c.in_ok-all.all.items c.requires.nodes c.in_ok-all.ensures)

pub returns-in-None-clause-winners : goal.returns-in-None-clause-winners
returns-in-None-clause-winners c =
    let rows = c.in_ok-rows.rows.items in
    rows_win c.args.scans.now c.args.order.now c.args.overrides.now c.in_ok-all.all.items rows c.in_ok-all.ensures
    (c.in_ok-rows.ensures.paths ∙ ap (map path_of) c.as_slice.ensures.value) c.requires.differ
    (subst (λ l. AllByRecursion (HasEntry c.args.scans.now c.args.overrides.now l) rows) c.as_slice.ensures.value c.in_ok-rows.ensures.each)

pub returns-in-None-clause-free : goal.returns-in-None-clause-free
returns-in-None-clause-free c =
    rows_free c.args.scans.now c.args.order.now c.args.overrides.now c.in_ok-all.all.items c.in_ok-rows.rows.items c.in_ok-all.ensures
    (c.in_ok-rows.ensures.paths ∙ ap (map path_of) c.as_slice.ensures.value)

pub returns-in-None-clause-apart : goal.returns-in-None-clause-apart
returns-in-None-clause-apart c =
    let slice = c.as_slice-2.result.now in
    let apart = subst (λ (found : Option ℕ). MatchOption found (AreApart (paths_of slice)) (IsFirstFolder slice)) c.in-None.is c.in_ok-first_folder.ensures in
    subst (λ (l : List WinRow). AreApart (paths_of l)) c.as_slice-2.ensures.value apart

pub returns-clause-err : goal.returns-clause-err
returns-clause-err c =
    let slice = c.as_slice-2.result.now in
    let rows = c.in_ok-rows.rows.items in
    let first = subst (λ (found : Option ℕ). MatchOption found (AreApart (paths_of slice)) (IsFirstFolder slice)) c.in-Some.is c.in_ok-first_folder.ensures in
    least_folder c.args.scans.now c.args.order.now c.args.overrides.now c.in_ok-all.all.items rows c.in_ok-all.ensures
    (c.in_ok-rows.ensures.paths ∙ ap (map path_of) c.as_slice.ensures.value) c.in-Some.index c.swap_remove-row.result
    (subst (λ (l : List WinRow). IsFirstFolder l c.in-Some.index) c.as_slice-2.ensures.value first) c.swap_remove-row.ensures.value
