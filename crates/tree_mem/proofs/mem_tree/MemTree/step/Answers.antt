use Rattle.std.proofs.Common.{◌≡◌, ◌++◌, ◌∷◌, [], sym, ap, subst, ◌∙◌, List}
use Rattle.tree_fs.specs.declared.op.Op.{Op}
use Rattle.tree_fs.specs.Disk.{IsValid}
use Rattle.tree_fs.specs.Story.{disk_of}
use Rattle.tree_mem.specs.CanDo.{CanDo}
use Rattle.tree_mem.specs.Disks.{disk_in}
use Rattle.tree_mem.specs.MemStory.{mem_story}
use Rattle.tree_mem.proofs.AfterAll.{valid-after}
use Rattle.tree_mem.proofs.Told.{step_told, story_more}
use Rattle.tree_mem.proofs.mem_tree.MemTree.step.Goals as goal

pub invariant_of-self-2 : goal.invariant_of-self-2
invariant_of-self-2 c =
    let m = c.keep_start.new.self in
    let op = c.args.op in
    let told : c.push_within.new.ops.items ≡ m.ops.items ++ op ∷ [] = c.push_within.ensures ∙ ap (λ (l : List Op). l ++ op ∷ []) c.in_ok-reserve.ensures.items in
    let can : CanDo (disk_in m.disk) op = subst (λ d. CanDo d op) (sym (m.tells ∙ ap disk_of c.keep_start.ensures.same)) c.requires in
    record {
      tells = step_told m.start m.disk c.apply.new.self m.ops.items c.push_within.new.ops.items op c.in_ok-keep_start.ensures.kept m.tells told c.in_ok-apply.ensures.ok;
      valid = subst IsValid (sym c.in_ok-apply.ensures.ok) (valid-after (disk_in m.disk) op m.valid can);
    }

pub returns-clause-ok : goal.returns-clause-ok
returns-clause-ok c =
    let m = c.keep_start.new.self in
    let op = c.args.op in
    let told : c.push_within.new.ops.items ≡ m.ops.items ++ op ∷ [] = c.push_within.ensures ∙ ap (λ (l : List Op). l ++ op ∷ []) c.in_ok-reserve.ensures.items in
    story_more m.start m.disk c.apply.new.self m.ops.items c.push_within.new.ops.items op (mem_story c.args.self.now) c.in_ok-keep_start.ensures.kept c.keep_start.ensures.same told
