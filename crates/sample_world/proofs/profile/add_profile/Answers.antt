use Rattle.std.proofs.Common.{◌≡◌, ◌+◌, ◌*◌, ◌∷◌, [], ◌++◌, List, Ok, sym, ap, subst, ◌∙◌, append_assoc}
use Rattle.std.proofs.lemmas.Result.{on_ok_weaker}
use Rattle.tree_fs.specs.Spot.{spot_of}
use Rattle.tree_fs.specs.Story.{disk_of}
use Rattle.tree_mem.specs.Changed.{with_file, settled_at}
use Rattle.tree_mem.specs.MemStory.{mem_story}
use Rattle.sample_world.specs.Files.{WorldFile, stage_files, game_files, profile_file, sample_files}
use Rattle.sample_world.specs.Parts.{game_below}
use Rattle.sample_world.specs.Texts.{mods_of}
use Rattle.sample_world.specs.Worlds.{HasFiles, disk_of_files}
use Rattle.sample_world.proofs.Grown.{game_all}
use Rattle.sample_world.proofs.Steps.{can_add_profile, profile_added}
use Rattle.sample_world.proofs.Trees.{tree_has}
use Rattle.sample_world.proofs.profile.add_profile.Goals as goal

pub add_file-requires : goal.add_file-requires
add_file-requires c =
    let number = c.args.number in
    let files = subst (λ (l : List WorldFile). HasFiles l c.args.tree.now) (sym (game_all number)) c.requires in
    can_add_profile number (50 * (mods_of number + 1)) c.in_ok-bytes.bytes.items c.args.tree.now files (spot_of c.control.result) c.control.ensures

pub returns : goal.returns
returns c =
    let number = c.args.number in
    let text = c.in_ok-bytes.bytes.items in
    let p = spot_of c.control.result in
    let bytes = c.as_slice.result.now in
    let before = game_below number (50 * (mods_of number + 1)) in
    let files = subst (λ (l : List WorldFile). HasFiles l c.args.tree.now) (sym (game_all number)) c.requires in
    let whole : before ++ profile_file text ∷ [] ≡ sample_files number text = ap (λ (l : List WorldFile). l ++ profile_file text ∷ []) (game_all number) ∙ append_assoc (stage_files number) (game_files number) (profile_file text ∷ []) in
    on_ok_weaker c.add_file.result
    (λ begins. record {
      text = text;
      profile = c.in_ok-bytes.ensures ∙ ap Ok c.in_ok-profile.ensures;
      files =
          tree_has before (sample_files number text) (settled_at (with_file (disk_of (mem_story c.args.tree.now)) p bytes) p) c.args.tree.now c.add_file.new.self files
          (profile_added number (50 * (mods_of number + 1)) text c.args.tree.now files p c.control.ensures bytes c.as_slice.ensures.value ∙ ap disk_of_files whole)
          begins c.add_file.ensures.faults c.add_file.ensures.plan;
    })
    c.add_file.ensures.begins
