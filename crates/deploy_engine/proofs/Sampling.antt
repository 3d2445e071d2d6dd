-- The sample as a command of the table.
use Rattle.std.proofs.Common.{◌≡◌, ◌≢◌, ◌⊎◌, ◌↔◌, ℕ, Bool, true, false, refl, sym, ap, subst, inl, inr}
use Rattle.std.specs.Prelude.{IsTrue, IfOk, IfErr}
use Rattle.std.specs.declared.result.Result.{Result}
use Rattle.std.specs.declared.result.Result.TheVariants.{Ok, Err}
use Rattle.tree_fs.specs.Story.{Story}
use Rattle.tree_mem.specs.declared.mem_tree.MemTree.{MemTree}
use Rattle.tree_mem.specs.MemStory.{mem_story}
use Rattle.sample_world.specs.Worlds.{IsSample}
use Rattle.command_steps.specs.declared.limits.Limits.{Limits}
use Rattle.command_steps.specs.declared.stop.Stop.{Stop}
use Rattle.command_steps.specs.declared.stop.Stop.TheVariants.{Refused, RecoverFirst, TreeFault, Memory}
use Rattle.command_steps.specs.Orders.{IsWhy}
use Rattle.command_steps.specs.Stops.{IsFault}
use Rattle.deploy_engine.specs.declared.commands.Report.{Report}
use Rattle.deploy_engine.specs.Carried.{Carried, GaveUp}
use Rattle.deploy_engine.specs.SampleWork.{PrintsSample, StopsSample, sample_work, usual_limits}
use Rattle.deploy_engine.specs.Tours.{StopsTour}
use Rattle.deploy_engine.proofs.Carrying.{none_found}

abbrev stop_or : Stop → Result Report Stop → Stop
stop_or other (Ok report) = other
stop_or other (Err e) = e

abbrev stopped_at : Stop → Result Report Stop
stopped_at e = Err e

-- it blames no fault of the tree
pub no_fault : (e : Stop) → e ≢ TreeFault → stopped_at e ≡ stopped_at TreeFault → ⊥
no_fault e calm is = calm (ap (stop_or e) is)

-- where it stops as its tour does, that stopped
pub stopped_so : (number : ℕ) (world : MemTree) (end : Story) (limits : Limits) (stop own : Stop) → IsSample number world → limits ≡ usual_limits → StopsTour limits (mem_story world) end stop → IsFault own ⊎ (own ≡ stop) → IsFault own ⊎ StopsSample number own
stopped_so number world end limits stop own is_sample usual stops (inl fault) = inl fault
stopped_so number world end limits stop own is_sample usual stops (inr same) =
    let by_usual = subst (λ l. StopsTour l (mem_story world) end stop) usual stops in
    inr (record { world = world; is_sample = is_sample; end = end; stops = subst (StopsTour usual_limits (mem_story world) end) (sym same) by_usual })

module _ (number : ℕ) (limits : Limits) (s : Story) where
  why : (stop : Stop) → IsFault stop ⊎ StopsSample number stop → IsWhy (sample_work number).steps limits s stop s ⊎ GaveUp (sample_work number) limits s stop s
  why stop (inl fault) = inl (record { why = inl fault })
  why (Refused refusal) (inr is) = inr (record { passed = tt; amid = (is, λ no. no) })
  why RecoverFirst (inr is) = inr (record { passed = tt; amid = (is, λ no. no) })
  why TreeFault (inr is) = inl (record { why = inl tt })
  why Memory (inr is) = inl (record { why = inl tt })

  no_changes : (changes : Bool) → changes ≡ false → IsTrue changes ↔ ⊥
  no_changes changes is = subst (λ b. IsTrue b ↔ ⊥) (sym is) none_found

  pub sampled : (r : Result Report Stop) → IfOk r (λ report. PrintsSample number report.lines.items) → IfOk r (λ report. report.changes ≡ false) → IfErr r (λ stop. IsFault stop ⊎ StopsSample number stop) → Carried (sample_work number) limits s s r
  sampled (Ok report) prints changes stopped = record {
    did = record { passed = tt; leaves = refl; prints = prints; finds = no_changes report.changes changes };
    stopped = tt;
    moves = inl refl;
    quiet = λ _. refl;
  }
  sampled (Err stop) prints changes stopped = record { did = tt; stopped = why stop stopped; moves = inl refl; quiet = λ _. refl }
