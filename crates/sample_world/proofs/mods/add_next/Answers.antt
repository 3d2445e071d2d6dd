use Rattle.std.proofs.Common.{◌+◌, ◌*◌, ◌∷◌, [], refl, ◌∙◌}
use Rattle.std.proofs.lemmas.Result.{on_ok_weaker}
use Rattle.tree_fs.specs.Spot.{spot_of}
use Rattle.tree_fs.specs.Story.{disk_of}
use Rattle.tree_mem.specs.Changed.{with_file, settled_at}
use Rattle.tree_mem.specs.MemStory.{mem_story}
use Rattle.sample_world.specs.Files.{mod_file}
use Rattle.sample_world.specs.Parts.{files_below}
use Rattle.sample_world.specs.Texts.{mod_id, folder_name, file_name}
use Rattle.sample_world.proofs.Steps.{with_both, not_root, can_add_folder, can_add_in_new, added_in_new, can_add_file, added_file}
use Rattle.sample_world.proofs.Trees.{tree_has}
use Rattle.sample_world.proofs.mods.add_next.Goals as goal

pub put_with_folder-requires : goal.put_with_folder-requires
put_with_folder-requires c =
    let i = c.args.mod_index in
    let count = c.args.count in
    let k = 50 * i + count in
    let p = spot_of c.in_ok-at.at in
    record {
      below = not_root p (mod_file i k) (mod_id i) (folder_name k) (file_name k ∷ []) refl c.in_ok-at.ensures;
      folder = can_add_folder i count k c.requires.few c.requires.some c.requires.most refl c.args.tree.now c.requires.files p c.in_ok-at.ensures c.if-file_index-eq0.true;
      file = can_add_in_new i count k c.requires.few c.requires.some c.requires.most refl c.args.tree.now c.requires.files p c.in_ok-at.ensures;
    }

pub returns-then-file_index-eq0 : goal.returns-then-file_index-eq0
returns-then-file_index-eq0 c =
    let i = c.args.mod_index in
    let count = c.args.count in
    let k = 50 * i + count in
    let p = spot_of c.in_ok-at.at in
    let bytes = c.as_bytes.result.now in
    on_ok_weaker c.put_with_folder.result
    (λ begins. tree_has (files_below i count) (files_below i (count + 1)) (with_both (disk_of (mem_story c.args.tree.now)) p bytes) c.args.tree.now c.put_with_folder.new.tree c.requires.files
    (added_in_new i count k c.requires.few c.requires.some c.requires.most refl c.args.tree.now c.requires.files p c.in_ok-at.ensures bytes (c.as_bytes.ensures.value ∙ c.in_ok-bytes.ensures))
    begins c.put_with_folder.ensures.faults c.put_with_folder.ensures.plan)
    c.put_with_folder.ensures.begins

pub add_file-requires : goal.add_file-requires
add_file-requires c =
    let i = c.args.mod_index in
    can_add_file i c.args.count (50 * i + c.args.count) c.requires.few c.requires.some c.requires.most refl c.args.tree.now c.requires.files (spot_of c.in_ok-at.at) c.in_ok-at.ensures c.if-file_index-eq0.false

pub returns : goal.returns
returns c =
    let i = c.args.mod_index in
    let count = c.args.count in
    let k = 50 * i + count in
    let p = spot_of c.in_ok-at.at in
    let bytes = c.as_bytes-else-file_index-eq0.result.now in
    on_ok_weaker c.add_file.result
    (λ begins. tree_has (files_below i count) (files_below i (count + 1)) (settled_at (with_file (disk_of (mem_story c.args.tree.now)) p bytes) p) c.args.tree.now c.add_file.new.self c.requires.files
    (added_file i count k c.requires.few c.requires.some c.requires.most refl c.args.tree.now c.requires.files p c.in_ok-at.ensures c.if-file_index-eq0.false bytes (c.as_bytes-else-file_index-eq0.ensures.value ∙ c.in_ok-bytes.ensures))
    begins c.add_file.ensures.faults c.add_file.ensures.plan)
    c.add_file.ensures.begins
