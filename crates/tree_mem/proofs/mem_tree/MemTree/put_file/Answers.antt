use Rattle.std.proofs.Common.{◌≡◌, ◌∷◌, [], true, sym, ap, ◌∙◌}
use Rattle.tree_fs.specs.declared.op.Op.TheVariants.{Create}
use Rattle.tree_fs.specs.Disk.{after}
use Rattle.tree_fs.specs.Spot.{spot_of}
use Rattle.tree_fs.specs.Story.{disk_of}
use Rattle.tree_fs.proofs.Ops.{now-created}
use Rattle.tree_fs.proofs.Stories.{disk_of-goes_on}
use Rattle.tree_mem.specs.MemStory.{mem_story}
use Rattle.tree_mem.proofs.mem_tree.MemTree.put_file.Goals as goal

pub step-requires-2 : goal.step-requires-2
step-requires-2 c =
    let old = mem_story c.args.self.now in
    let at = c.in_ok-copy.field-0 in
    let made : disk_of (mem_story c.step.new.self) ≡ after (disk_of old) (Create at true) = disk_of-goes_on old (mem_story c.step.new.self) (Create at true ∷ []) c.in_ok-step.ensures.ok in
    let same : spot_of c.in_ok-copy-2.field-0 ≡ spot_of at = ap spot_of (c.in_ok-copy-2.ensures ∙ sym c.in_ok-copy.ensures) in
    ((disk_of old).fresh, (λ i. (made i).now (same i)) ∙ now-created (disk_of old) at)
