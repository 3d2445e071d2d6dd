use Rattle.std.proofs.Common.{◌≡◌, ◌*◌, ap, ◌∙◌, refl}
use Rattle.std.proofs.lemmas.Result.{on_ok_weaker}
use Rattle.tree_fs.specs.Places.{mod_spot}
use Rattle.tree_fs.specs.Spot.{spot_of}
use Rattle.tree_fs.specs.Story.{disk_of}
use Rattle.tree_mem.specs.MemStory.{mem_story}
use Rattle.sample_world.specs.Files.{mod_file}
use Rattle.sample_world.specs.Parts.{mods_below, files_below}
use Rattle.sample_world.specs.Texts.{folder_name, mod_id}
use Rattle.sample_world.proofs.Apart.{staged}
use Rattle.sample_world.proofs.Steps.{not_root, with_both, can_add_mod, can_add_first_folder, can_add_first, first_added}
use Rattle.sample_world.proofs.Trees.{tree_has, tree_kept}
use Rattle.sample_world.proofs.mods.add_first.Goals as goal

pub add_folder-requires : goal.add_folder-requires
add_folder-requires c =
    can_add_mod c.args.mod_index c.requires.few c.args.tree.now c.requires.files (spot_of c.in_ok-folder.folder) (c.in_ok-folder.ensures ∙ ap mod_spot c.in_ok-id.ensures)

pub put_with_folder-requires : goal.put_with_folder-requires
put_with_folder-requires c =
    let i = c.args.mod_index in
    let p = spot_of c.in_ok-at.at in
    let folder = spot_of c.in_ok-folder.folder in
    let at_mod : folder ≡ staged i _ = c.in_ok-folder.ensures ∙ ap mod_spot c.in_ok-id.ensures in
    record {
      below = not_root p (mod_file i (50 * i)) (mod_id i) (folder_name (50 * i)) _ refl c.in_ok-at.ensures;
      folder = can_add_first_folder i c.requires.few c.args.tree.now c.requires.files folder at_mod c.add_folder.new.self c.in_ok-add_folder.ensures.begins p c.in_ok-at.ensures;
      file = can_add_first i c.requires.few c.args.tree.now c.requires.files folder at_mod c.add_folder.new.self c.in_ok-add_folder.ensures.begins p c.in_ok-at.ensures;
    }

pub returns : goal.returns
returns c =
    let i = c.args.mod_index in
    let p = spot_of c.in_ok-at.at in
    let folder = spot_of c.in_ok-folder.folder in
    let at_mod : folder ≡ staged i _ = c.in_ok-folder.ensures ∙ ap mod_spot c.in_ok-id.ensures in
    let made = c.add_folder.new.self in
    on_ok_weaker c.put_with_folder.result
    (λ begins. tree_has (mods_below i) (files_below i 1) (with_both (disk_of (mem_story made)) p c.as_bytes.result.now) c.args.tree.now c.put_with_folder.new.tree c.requires.files
    (first_added i c.requires.few c.args.tree.now c.requires.files folder at_mod made c.in_ok-add_folder.ensures.begins p c.in_ok-at.ensures c.as_bytes.result.now (c.as_bytes.ensures.value ∙ c.in_ok-bytes.ensures))
    begins (c.put_with_folder.ensures.faults ∙ c.add_folder.ensures.faults) (tree_kept c.args.tree.now made c.put_with_folder.new.tree c.add_folder.ensures.plan c.put_with_folder.ensures.plan))
    c.put_with_folder.ensures.begins
