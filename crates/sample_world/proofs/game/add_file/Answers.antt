use Rattle.std.proofs.Common.{◌+◌, [], refl, ◌∙◌}
use Rattle.std.proofs.lemmas.Result.{on_ok_weaker}
use Rattle.tree_fs.specs.Spot.{spot_of}
use Rattle.tree_fs.specs.Story.{disk_of}
use Rattle.tree_mem.specs.Changed.{with_file, settled_at}
use Rattle.tree_mem.specs.MemStory.{mem_story}
use Rattle.sample_world.specs.Files.{game_file}
use Rattle.sample_world.specs.Parts.{game_below}
use Rattle.sample_world.specs.Texts.{folder_name, file_name}
use Rattle.sample_world.proofs.Steps.{with_both, not_root, can_add_game_folder, can_add_game_in_new, game_added_in_new, can_add_game, game_added}
use Rattle.sample_world.proofs.Trees.{tree_has}
use Rattle.sample_world.proofs.game.add_file.Goals as goal

pub put_with_folder-requires : goal.put_with_folder-requires
put_with_folder-requires c =
    let number = c.args.number in
    let k = c.args.index in
    let p = spot_of c.in_ok-at.at in
    record {
      below = not_root p (game_file k) (folder_name k) (file_name k) [] refl c.in_ok-at.ensures;
      folder = can_add_game_folder number k c.requires.few c.requires.there c.args.tree.now c.requires.files p c.in_ok-at.ensures c.if-index-lt7.true;
      file = can_add_game_in_new number k c.requires.few c.requires.there c.args.tree.now c.requires.files p c.in_ok-at.ensures;
    }

pub returns-then-index-lt7 : goal.returns-then-index-lt7
returns-then-index-lt7 c =
    let number = c.args.number in
    let k = c.args.index in
    let p = spot_of c.in_ok-at.at in
    let bytes = c.as_bytes.result.now in
    on_ok_weaker c.put_with_folder.result
    (λ begins. tree_has (game_below number k) (game_below number (k + 1)) (with_both (disk_of (mem_story c.args.tree.now)) p bytes) c.args.tree.now c.put_with_folder.new.tree c.requires.files
    (game_added_in_new number k c.requires.few c.requires.there c.args.tree.now c.requires.files p c.in_ok-at.ensures bytes (c.as_bytes.ensures.value ∙ c.in_ok-bytes.ensures))
    begins c.put_with_folder.ensures.faults c.put_with_folder.ensures.plan)
    c.put_with_folder.ensures.begins

pub add_file-requires : goal.add_file-requires
add_file-requires c =
    can_add_game c.args.number c.args.index c.requires.few c.requires.there c.args.tree.now c.requires.files (spot_of c.in_ok-at.at) c.in_ok-at.ensures c.if-index-lt7.false

pub returns : goal.returns
returns c =
    let number = c.args.number in
    let k = c.args.index in
    let p = spot_of c.in_ok-at.at in
    let bytes = c.as_bytes-else-index-lt7.result.now in
    on_ok_weaker c.add_file.result
    (λ begins. tree_has (game_below number k) (game_below number (k + 1)) (settled_at (with_file (disk_of (mem_story c.args.tree.now)) p bytes) p) c.args.tree.now c.add_file.new.self c.requires.files
    (game_added number k c.requires.few c.requires.there c.args.tree.now c.requires.files p c.in_ok-at.ensures c.if-index-lt7.false bytes (c.as_bytes-else-index-lt7.ensures.value ∙ c.in_ok-bytes.ensures))
    begins c.add_file.ensures.faults c.add_file.ensures.plan)
    c.add_file.ensures.begins
