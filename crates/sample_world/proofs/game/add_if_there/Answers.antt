use Rattle.std.proofs.Common.{◌≡◌, List, false, sym, subst, ◌∙◌}
use Rattle.sample_world.specs.Files.{WorldFile, is_in_game}
use Rattle.sample_world.specs.Worlds.{HasFiles}
use Rattle.sample_world.proofs.Grown.{game_same}
use Rattle.sample_world.proofs.game.add_if_there.Goals as goal

pub returns-else-is_in_game : goal.returns-else-is_in_game
returns-else-is_in_game c =
    let other : is_in_game c.args.number c.args.index ≡ false = sym c.is_in_game.ensures ∙ c.if-is_in_game.false in
    subst (λ (l : List WorldFile). HasFiles l c.args.tree.now) (sym (game_same c.args.number c.args.index other)) c.requires.files
