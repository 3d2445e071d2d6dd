use Rattle.std.proofs.Common.{rules, ◌≡◌, ◌+◌, [], ◌∷◌, ◌++◌, map, arith, sym, ap, ◌∙◌, subst}
use Rattle.std.specs.List.{AllByRecursion}
use Rattle.tree_fs.specs.Calls.{IsFolder}
use Rattle.tree_fs.specs.Listing.{IsListing}
use Rattle.tree_fs.specs.Spot.{spot_of, root_spot}
use Rattle.tree_fs.specs.Story.{disk_of}
use Rattle.tour_counts.specs.Files.{folders_among, files_among}
use Rattle.tour_counts.proofs.Walking.{GoesOn, still_folders, goes_on, all_counted, one_last, last_folder}
use Rattle.tour_counts.proofs.files.count_files.Goals as goal

pub returns-in_default-clause-count : goal.returns-in_default-clause-count
returns-in_default-clause-count g c = λ told.
    let none : c.loop.folders.items ≡ [] = search rules in
    all_counted _ _ (map spot_of c.loop.folders.items) c.loop.count (ap (map spot_of) none) (c.loop.invariant.counts told)

pub list-requires : goal.list-requires
list-requires g c = λ told.
    subst (λ s. IsFolder (disk_of s) (spot_of c.in-Some.folder)) (sym (c.loop.invariant.same told))
    (last_folder (disk_of (g.T.Tree.story c.args.tree.now)) c.loop.folders.items c.pop.new.self.items c.in-Some.folder c.in-Some.ensures.items (c.loop.invariant.folders told))

pub loop-preserved : goal.loop-preserved
loop-preserved g c =
    let tree = g.T.Tree in
    let d = disk_of (tree.story c.args.tree.now) in
    let all = root_spot c.args.root ∷ [] in
    let rest = map spot_of c.pop.new.self.items in
    let folder = spot_of c.in-Some.folder in
    let entries = c.in_ok-entries.entries.items in
    let now = map spot_of c.push_folders.new.folders.items in
    let ahead = one_last c.loop.folders.items c.pop.new.self.items c.in-Some.folder c.in-Some.ensures.items in
    let pushed : now ≡ rest ++ folders_among folder entries = c.in_ok-push_folders.ensures ∙ ap (λ l. rest ++ folders_among folder l) c.deref.ensures.value in
    let later = c.list.ensures.cause.later in
    let before = c.loop.invariant.faults in
    record {
      same = λ told. c.list.ensures.same told ∙ c.loop.invariant.same told;
      faults = omega (arith, before, later);
      folders = λ told.
          let listing = subst (λ s. IsListing (disk_of s) folder entries) (c.loop.invariant.same told) (c.in_ok-entries.ensures.answer told) in
          still_folders d rest folder entries now (subst (AllByRecursion (IsFolder d)) ahead (c.loop.invariant.folders told)) listing pushed;
      counts = λ told.
          let listing = subst (λ s. IsListing (disk_of s) folder entries) (c.loop.invariant.same told) (c.in_ok-entries.ensures.answer told) in
          goes_on d all rest folder entries now c.loop.count c.in_ok-count.count (subst (λ l. GoesOn d all l c.loop.count) ahead (c.loop.invariant.counts told)) listing pushed
          (c.in_ok-count.ensures ∙ ap (λ n. c.loop.count + n) (c.count_among.ensures ∙ ap files_among c.deref-in-loop.ensures.value));
    }
