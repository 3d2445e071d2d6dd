-- `sample`: a large world is made from a number, and what a tour over it counts is told.
use Rattle.std.specs.Prelude.{◌≡◌, ℕ, List, []}
use Rattle.tree_fs.specs.Story.{Story}
use Rattle.tree_mem.specs.declared.mem_tree.MemTree.{MemTree}
use Rattle.tree_mem.specs.MemStory.{mem_story}
use Rattle.sample_world.specs.Worlds.{IsSample}
use Rattle.tour_counts.specs.declared.tour.Tour.{Tour}
use Rattle.tour_counts.specs.Lines.{tour_lines}
use Rattle.command_steps.specs.declared.limits.Limits.{Limits}
use Rattle.command_steps.specs.declared.stop.Stop.{Stop}
use Rattle.command_steps.specs.Stops.{IsFault}
use Rattle.deploy_engine.specs.Tours.{IsTour, StopsTour}
use Rattle.deploy_engine.specs.Works.{Work, Stays}

abbrev pub usual_limits : Limits
usual_limits = record { mods = 2000; entries = 200000; text = 134217728 }

-- the lines of a tour over the sample of the number
pub record PrintsSample (number : ℕ) (text : List ℕ) : Type 0 where
  pub world : MemTree
  pub is_sample : IsSample number world
  pub end : Story
  pub tour : Tour
  pub is_tour : IsTour usual_limits (mem_story world) end tour
  pub lines : text ≡ tour_lines tour

-- a command of the tour stopped
pub record StopsSample (number : ℕ) (stop : Stop) : Type 0 where
  pub world : MemTree
  pub is_sample : IsSample number world
  pub end : Story
  pub stops : StopsTour usual_limits (mem_story world) end stop

-- no call is made on the tree of the command, so it has no steps there
abbrev pub sample_work : ℕ → Work
sample_work number = record {
  steps = [];
  Leaves = Stays;
  Prints = λ c text. PrintsSample number text;
  FindsChanges = λ c. ⊥;
  Goes = Stays;
  GivesUp = λ c stop. StopsSample number stop × (¬ IsFault stop);
  OnlyLooks = Unit {0};
}
