use Rattle.std.proofs.Common.{subst}
use Rattle.tree_mem.specs.MemStory.{mem_story}
use Rattle.deploy_engine.specs.Tours.{IsTour}
use Rattle.deploy_engine.proofs.Sampling.{no_fault, stopped_so}
use Rattle.deploy_engine.proofs.commands.sample.tell_sample.Goals as goal

pub returns-in-Err : goal.returns-in-Err
returns-in-Err c = record {
  lines = tt;
  changes = tt;
  stopped = stopped_so c.args.number c.in_ok-world.world (mem_story c.take_tour.new.tree) c.usual.result c.in-Err.stop c.own_stop.result c.in_ok-world.ensures.sample c.usual.ensures (c.in-Err.ensures.stopped tt) c.own_stop.ensures.same;
  calm = no_fault c.own_stop.result c.own_stop.ensures.calm;
}

pub returns-clause-lines : goal.returns-clause-lines
returns-clause-lines c = record {
  world = c.in_ok-world.world;
  is_sample = c.in_ok-world.ensures.sample;
  end = mem_story c.take_tour.new.tree;
  tour = c.in-Ok.tour;
  is_tour = subst (λ l. IsTour l (mem_story c.in_ok-world.world) (mem_story c.take_tour.new.tree) c.in-Ok.tour) c.usual.ensures (c.in-Ok.ensures.tours tt);
  lines = c.in_ok-lines.ensures;
}
