use Rattle.std.proofs.Common.{◌≡◌, ◌<◌, ℕ, ◌+◌, List, [], ◌∷◌, ◌++◌, All, Vec, Global, length, get_or, take, sym, ap, ◌∙◌, subst, arith, length-append}
use Rattle.std.specs.List.{AllByRecursion}
use Rattle.std.proofs.lemmas.List.{take_more}
use Rattle.std.proofs.lemmas.List.Elements.{All-push}
use Rattle.rel_paths.specs.Names.{IsFreePath}
use Rattle.stage_scan.specs.Files.{AreInPathOrder, AreFilePaths}
use Rattle.winner_table.specs.Merged.{AreAscending}
use Rattle.winner_table.specs.Winners.{files_at}
use Rattle.winner_table.specs.Offers.{path_bytes, IsNodeOf}
use Rattle.winner_table.specs.declared.provided.Provided.{Provided}
use Rattle.list_laws.proofs.Alls.{all_at, all_more}
use Rattle.winner_table.proofs.Gathering.{run_ascends}
use Rattle.winner_table.proofs.Reading.{files_read, offers_more}
use Rattle.winner_table.proofs.provided.runs_of.Goals as goal

pub loop-node-preserved : goal.loop-node-preserved
loop-node-preserved c =
    let order = c.args.order.now in
    let scans = c.args.scans.now in
    let i = c.loop-node.node-index in
    let low = c.loop-node-test.true in
    let k = get_or order i 0 in
    let scan = c.index-scans-node.result in
    let run = c.in_ok-run_of.field-0 in
    let runs = c.loop-node.runs.items in
    let within : k < length scans = all_at (IsNodeOf scans) order i 0 low c.requires in
    let at = files_read scans k scan within c.index-scans-node.is in
    let files = c.as_slice.ensures.same in
    let is = c.in_ok-run_of.ensures in
    let put = c.in_ok-push.ensures.items in
    let ordered : AreInPathOrder c.as_slice.result.now = subst AreInPathOrder (sym files) c.as_slice.ensures.order in
    let P = λ (r : Vec Provided Global). AreAscending path_bytes r.items in
    let Q = λ (node : ℕ). AreFilePaths (files_at scans node) in
    record {
      count = ap length put ∙ length-append runs (run ∷ []) ∙ ap (λ n. n + 1) c.loop-node.invariant.count;
      items = rw put (offers_more scans order i runs run c.as_slice.result.now low (at ∙ sym files) is c.loop-node.invariant.items);
      ascending = subst (All P) (sym put) (All-push P runs run c.loop-node.invariant.ascending (run_ascends run.items k c.as_slice.result.now is ordered));
      files = subst (AllByRecursion Q) (sym (take_more order i 0 low))
          (all_more Q (take i order) k c.loop-node.invariant.files (subst AreFilePaths (sym at) (record { order = c.as_slice.ensures.order; free = c.as_slice.ensures.free })));
    }
