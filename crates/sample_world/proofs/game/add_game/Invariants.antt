use Rattle.sample_world.specs.Parts.{game_below}
use Rattle.sample_world.specs.Worlds.{HasFiles}
use Rattle.sample_world.proofs.game.add_game.Given as goal

abbrev pub invariant-loop-index : goal.invariant-loop-index
invariant-loop-index l = HasFiles (game_below l.number l.index) l.tree
