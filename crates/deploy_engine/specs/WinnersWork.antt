-- `winners`: which mod wins each provided path is told.
use Rattle.std.specs.Prelude.{◌≡◌, ℕ, List, ◌++◌}
use Rattle.tree_fs.specs.Disk.{Disk}
use Rattle.winner_table.specs.declared.wins.WinRow.{WinRow}
use Rattle.answer_lines.specs.Lists.{winner_lines}
use Rattle.command_steps.specs.Looks.{Look, IsLook, AreWins}
use Rattle.command_steps.specs.Orders.{start, up_to_winners}
use Rattle.deploy_engine.specs.Works.{Work, looking, NoChanges}

-- the lines of the winners of the enabled mods
pub record PrintsWinners (d : Disk) (text : List ℕ) : Type 0 where
  pub look : Look
  pub is_look : IsLook d look
  pub wins : List WinRow
  pub are_wins : AreWins look wins
  pub lines : text ≡ winner_lines wins

abbrev pub winners_work : Work
winners_work = looking (start ++ up_to_winners) PrintsWinners NoChanges
