use Rattle.std.proofs.Common.{◌≡◌, ◌+◌, ◌*◌, List, sym, ap, subst, ◌∙◌, arith}
use Rattle.sample_world.specs.Files.{WorldFile}
use Rattle.sample_world.specs.Parts.{game_below}
use Rattle.sample_world.specs.Texts.{mods_of}
use Rattle.sample_world.specs.Worlds.{HasFiles}
use Rattle.sample_world.proofs.Grown.{game_none, game_all}
use Rattle.sample_world.proofs.Listed.{mods_few}
use Rattle.sample_world.proofs.game.add_game.Goals as goal

pub overflow_add-index-end : goal.overflow_add-index-end
overflow_add-index-end c = omega (arith, mods_few c.args.number, c.count_mods.ensures)

pub overflow_mul-index-end : goal.overflow_mul-index-end
overflow_mul-index-end c = omega (arith, mods_few c.args.number, c.count_mods.ensures)

pub loop-index-init : goal.loop-index-init
loop-index-init c = subst (λ (l : List WorldFile). HasFiles l c.args.tree.now) (sym (game_none c.args.number)) c.requires

pub add_if_there-requires-clause-few : goal.add_if_there-requires-clause-few
add_if_there-requires-clause-few c = omega (arith, mods_few c.args.number, c.count_mods.ensures, c.loop-index-test.true)

pub returns : goal.returns
returns c =
    let end : c.loop-index.index ≡ 50 * (mods_of c.args.number + 1) = omega (arith, c.count_mods.ensures, c.loop-index-test.false, c.loop-index.auto.index-end) in
    subst (λ (l : List WorldFile). HasFiles l c.loop-index.tree) (ap (game_below c.args.number) end ∙ game_all c.args.number) c.loop-index.invariant
