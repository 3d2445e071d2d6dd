use Rattle.std.proofs.Common.{◌≡◌, ℕ, List, Vec, Global, sym, ap, ◌∙◌, subst, IfOk, IfErr, OnOk, None, Some, option_map, arith}
use Rattle.std.specs.List.{AllByRecursion}
use Rattle.rel_paths.specs.Names.{names_of, IsFreePath}
use Rattle.list_laws.proofs.Truths.{if_err-from_same}
use Rattle.tree_fs.specs.Spot.{Spot, IsBelow}
use Rattle.tree_fs.specs.Places.{game_spot}
use Rattle.tree_fs.specs.Story.{disk_of}
use Rattle.tree_fs.proofs.Spots.{not_nameless}
use Rattle.plan_model.specs.Rows.{IsFolderOrAbsent}
use Rattle.deploy_plan.specs.Parents.{LooksUpTo, IsBlockedUpTo}
use Rattle.deploy_plan.proofs.Parented.{parent_is, shorter, left_seen, looked_before, looked_root, looked_at, open_above, blocked_further, parent_free, noted_free, on_ok}
use Rattle.deploy_plan.proofs.parents.Parents.+parents.Goals as goal

pub has_folder-returns-in-Some-clause-answer : goal.has_folder-returns-in-Some-clause-answer
has_folder-returns-in-Some-clause-answer g t c told =
    let a = disk_of (g.T.Tree.story c.args.tree.now) in
    let seen = left_seen a c.args.self.now c.leave.new.self c.leave.ensures.missing c.leave.ensures.above (c.requires told) in
    (looked_before a c.args.path.now c.in-Some.is_there c.args.self.now c.leave.new.self c.leave.ensures.missing seen c.in-Some.ensures).1

pub has_folder-returns-in-Some-clause-looks : goal.has_folder-returns-in-Some-clause-looks
has_folder-returns-in-Some-clause-looks g t c told =
    let a = disk_of (g.T.Tree.story c.args.tree.now) in
    let seen = left_seen a c.args.self.now c.leave.new.self c.leave.ensures.missing c.leave.ensures.above (c.requires told) in
    (looked_before a c.args.path.now c.in-Some.is_there c.args.self.now c.leave.new.self c.leave.ensures.missing seen c.in-Some.ensures).0

pub has_folder-has_parents-requires : goal.has_folder-has_parents-requires
has_folder-has_parents-requires g t c κs within = (
  omega arith,
  (within, λ told. left_seen (disk_of (g.T.Tree.story c.args.tree.now)) c.args.self.now c.leave.new.self c.leave.ensures.missing c.leave.ensures.above (c.requires told)),
)

pub has_folder-returns-in_err-is_open-clause-refused : goal.has_folder-returns-in_err-is_open-clause-refused
has_folder-returns-in_err-is_open-clause-refused g t c told =
    let a = disk_of (g.T.Tree.story c.args.tree.now) in
    let x = game_spot c.args.path.now in
    let e = c.in_err-is_open.field-0.0 in
    if_err-from_same (IsBlockedUpTo a x) c.from_residual.result e c.from_residual.ensures.1
    (blocked_further a x e (not_nameless c.args.path.now) (c.in_err-is_open.ensures.refused told))

pub has_folder-is_folder_in-requires-clause-parents : goal.has_folder-is_folder_in-requires-clause-parents
has_folder-is_folder_in-requires-clause-parents g t c told =
    let x = game_spot c.args.path.now in
    subst (λ s. (p : Spot) → IsBelow p x → IsFolderOrAbsent (disk_of s) p) (sym (c.in_ok-is_open.ensures.same told))
    (open_above (disk_of (g.T.Tree.story c.args.tree.now)) x (c.in_ok-is_open.ensures.looks told).is_open)

pub has_folder-returns-clause-looks : goal.has_folder-returns-clause-looks
has_folder-returns-clause-looks g t c told =
    let a = disk_of (g.T.Tree.story c.args.tree.now) in
    let path = c.args.path.now in
    let x = game_spot path in
    let same : g.T.Tree.story c.has_parents.new.tree ≡ g.T.Tree.story c.args.tree.now = c.in_ok-is_open.ensures.same told in
    let told_here : c.in_ok-is_there.is_there ≡ a.folders x = c.in_ok-is_there.ensures.answer told ∙ ap (λ s. (disk_of s).folders x) same in
    let here : IsFolderOrAbsent a x = subst (λ s. IsFolderOrAbsent (disk_of s) x) same (c.in_ok-is_there.ensures.open told) in
    looked_at a path c.in_ok-is_there.is_there c.args.self.now c.leave.new.self c.has_parents.new.self c.note.new.self c.leave.ensures.missing
    (c.in_ok-is_open.ensures.looks told) told_here here c.in_ok-note.ensures.above c.in_ok-note.ensures.missing

pub has_parents-has_folder-requires : goal.has_parents-has_folder-requires
has_parents-has_folder-requires g t c κs within = (
  (let less = shorter c.args.path.now c.in-Some.above (sym (ap (option_map names_of) c.in-Some.is) ∙ c.in_ok-parent.ensures) in omega arith),
  (within, c.requires),
)

pub has_parents-returns-in-None-clause-answer : goal.has_parents-returns-in-None-clause-answer
has_parents-returns-in-None-clause-answer g t c told =
    let a = disk_of (g.T.Tree.story c.args.tree.now) in
    sym ((g.met.T.Tree.valid c.args.tree.now told).roots _) ∙ ap a.folders (parent_is c.args.path.now None (sym (ap (option_map names_of) c.in-None.is) ∙ c.in_ok-parent.ensures))

pub has_parents-returns-in-None-clause-looks : goal.has_parents-returns-in-None-clause-looks
has_parents-returns-in-None-clause-looks g t c told =
    let a = disk_of (g.T.Tree.story c.args.tree.now) in
    let self = c.args.self.now in
    subst (λ x. LooksUpTo a x self self) (parent_is c.args.path.now None (sym (ap (option_map names_of) c.in-None.is) ∙ c.in_ok-parent.ensures)) (looked_root a self (g.met.T.Tree.valid c.args.tree.now told) (c.requires told))

pub has_parents-returns-in-Some-clause-answer : goal.has_parents-returns-in-Some-clause-answer
has_parents-returns-in-Some-clause-answer g t c told =
    let a = disk_of (g.T.Tree.story c.args.tree.now) in
    subst (λ x. IfOk c.has_folder.result (λ yes. yes ≡ a.folders x)) (parent_is c.args.path.now (Some c.in-Some.above) (sym (ap (option_map names_of) c.in-Some.is) ∙ c.in_ok-parent.ensures)) (c.has_folder.ensures.answer told)

pub has_parents-returns-in-Some-clause-looks : goal.has_parents-returns-in-Some-clause-looks
has_parents-returns-in-Some-clause-looks g t c told =
    let a = disk_of (g.T.Tree.story c.args.tree.now) in
    subst (λ x. OnOk c.has_folder.result (LooksUpTo a x c.args.self.now c.has_folder.new.self)) (parent_is c.args.path.now (Some c.in-Some.above) (sym (ap (option_map names_of) c.in-Some.is) ∙ c.in_ok-parent.ensures)) (c.has_folder.ensures.looks told)

pub has_parents-returns-in-Some-clause-refused : goal.has_parents-returns-in-Some-clause-refused
has_parents-returns-in-Some-clause-refused g t c told =
    let a = disk_of (g.T.Tree.story c.args.tree.now) in
    subst (λ x. IfErr c.has_folder.result (IsBlockedUpTo a x)) (parent_is c.args.path.now (Some c.in-Some.above) (sym (ap (option_map names_of) c.in-Some.is) ∙ c.in_ok-parent.ensures)) (c.has_folder.ensures.refused told)

pub has_folder-returns-in-Some-clause-free : goal.has_folder-returns-in-Some-clause-free
has_folder-returns-in-Some-clause-free g t c free was = subst (AllByRecursion IsFreePath) (ap (λ (v : Vec (List ℕ) Global). v.items) (sym c.leave.ensures.missing)) was

pub has_folder-returns-clause-free : goal.has_folder-returns-clause-free
has_folder-returns-clause-free g t c free was =
    noted_free c.args.path.now c.in_ok-is_there.is_there c.has_parents.new.self.missing.items c.note.new.self.missing.items c.in_ok-note.ensures.missing free
    (c.in_ok-is_open.ensures.free free (subst (AllByRecursion IsFreePath) (ap (λ (v : Vec (List ℕ) Global). v.items) (sym c.leave.ensures.missing)) was))

pub has_parents-returns-in-Some-clause-free : goal.has_parents-returns-in-Some-clause-free
has_parents-returns-in-Some-clause-free g t c =
    on_ok c.has_folder.result _ _ (λ more free. more (parent_free c.args.path.now c.in-Some.above (sym (ap (option_map names_of) c.in-Some.is) ∙ c.in_ok-parent.ensures) free)) c.has_folder.ensures.free
