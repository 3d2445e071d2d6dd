use Rattle.std.proofs.Common.{subst}
use Rattle.tree_mem.specs.MemStory.{mem_story}
use Rattle.deploy_engine.specs.Tours.{IsTour}
use Rattle.deploy_engine.proofs.touring.tour.Goals as goal

pub returns-in-Ok-clause-tours : goal.returns-in-Ok-clause-tours
returns-in-Ok-clause-tours c =
    subst (λ l. IsTour l (mem_story c.args.world.now) (mem_story c.take_tour.new.tree) c.in-Ok.tour) c.usual.ensures (c.in-Ok.ensures.tours tt)
