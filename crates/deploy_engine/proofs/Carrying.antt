-- From the steps of a command, and its work, to what it did.
use Rattle.std.proofs.Common.{◌≡◌, inl, inr, ◌↔◌, false, sym, subst}
use Rattle.std.specs.Prelude.{IsTrue}
use Rattle.std.proofs.lemmas.Bool.{false≢true}
use Rattle.std.specs.Result.{IsErr, IsErrAnd}
use Rattle.std.specs.declared.result.Result.{Result}
use Rattle.std.specs.declared.result.Result.TheVariants.{Ok, Err}
use Rattle.tree_fs.specs.Story.{Story, Along, disk_of}
use Rattle.deploy_engine.specs.declared.commands.Report.{Report}
use Rattle.command_steps.specs.declared.limits.Limits.{Limits}
use Rattle.command_steps.specs.declared.stop.Stop.{Stop}
use Rattle.intent_journal.specs.Sweeps.{Sweeps}
use Rattle.command_steps.specs.Stops.{IsFault}
use Rattle.command_steps.specs.Orders.{after_steps, IsWhy, Passed}
use Rattle.deploy_engine.specs.Works.{Work, Works, course}
use Rattle.deploy_engine.specs.Carried.{Carried}
use Rattle.command_steps.proofs.Orders.{handed_on}

-- what a `?` hands on
pub hand_on : {work : Work} {limits : Limits} {old new : Story} {r : Result Report Stop} {e : Stop} → IsErr r × IsErrAnd r (λ x. x ≡ e) → Carried work limits old new (Err e) → Carried work limits old new r
hand_on {work = work} {limits = limits} {old = old} {new = new} {r = r} {e = e} is carried = subst (Carried work limits old new) (sym (handed_on r e is)) carried

-- false isn't true
pub none_found : IsTrue false ↔ ⊥
none_found = ((λ e. absurd (false≢true e)), (λ h. absurd h))

-- A command that only looks

-- it stopped
pub looked_in_vain : {work : Work} {limits : Limits} {old new : Story} {e : Stop} → new ≡ old → IsWhy work.steps limits old e new → Carried work limits old new (Err e)
looked_in_vain same why = record { did = tt; stopped = inl why; moves = inl same; quiet = λ _. same }

-- it took its steps, and has this to say
pub looked : {V : Type 0} {work : Work} {limits : Limits} {old new base : Story} {report : Report} {G : V → Type 0} {v : V} → new ≡ old → Passed work.steps limits old base G v → work.Leaves (course work old new)
    → work.Prints (course work old new) report.lines.items → (IsTrue report.changes ↔ work.FindsChanges (course work old new)) → Carried work limits old new (Ok report)
looked same passed leaves prints finds = record {
  did = record { passed = passed.all; leaves = leaves; prints = prints; finds = finds };
  stopped = tt;
  moves = inl same;
  quiet = λ _. same;
}

-- A command that may change something. Its first story is `old`, and `base` is the one behind its steps

-- it stopped at its steps, or before its work
pub turned : {work : Work} {limits : Limits} {old new : Story} {e : Stop} → ¬ work.OnlyLooks → IsWhy work.steps limits old e new → Along (Sweeps (disk_of old)) old new → Carried work limits old new (Err e)
turned acts why swept = record { did = tt; stopped = inl why; moves = inr (inl swept); quiet = λ looks. absurd (acts looks) }

works : {work : Work} {old base new : Story} → base ≡ after_steps work.steps old → Along (Sweeps (disk_of old)) old base → work.Goes (record { start = old; base = base; end = new }) → Works work old new
works {work = work} {old = old} {new = new} behind swept goes = record {
  swept = subst (Along (Sweeps (disk_of old)) old) behind swept;
  goes = subst (λ s. work.Goes (record { start = old; base = s; end = new })) behind goes;
}

-- it failed at its work
pub failed : {work : Work} {limits : Limits} {old base new : Story} {e : Stop} → ¬ work.OnlyLooks → base ≡ after_steps work.steps old → Along (Sweeps (disk_of old)) old base
    → work.Goes (record { start = old; base = base; end = new }) → IsFault e → Carried work limits old new (Err e)
failed acts behind swept goes fault = record { did = tt; stopped = inl (record { why = inl fault }); moves = inr (inr (works behind swept goes)); quiet = λ looks. absurd (acts looks) }

-- it gave its work up
pub gave_up : {V : Type 0} {work : Work} {limits : Limits} {old base new : Story} {e : Stop} {G : V → Type 0} {v : V} → ¬ work.OnlyLooks → Passed work.steps limits old base G v → Along (Sweeps (disk_of old)) old base
    → work.Goes (record { start = old; base = base; end = new }) → work.GivesUp (record { start = old; base = base; end = new }) e → Carried work limits old new (Err e)
gave_up {work = work} {old = old} {new = new} {e = e} acts passed swept goes gave = record {
  did = tt;
  stopped = inr (record { passed = passed.all; amid = subst (λ s. work.GivesUp (record { start = old; base = s; end = new }) e) passed.story gave });
  moves = inr (inr (works passed.story swept goes));
  quiet = λ looks. absurd (acts looks);
}

-- it did its work
pub done : {V : Type 0} {work : Work} {limits : Limits} {old base new : Story} {report : Report} {G : V → Type 0} {v : V} → ¬ work.OnlyLooks → Passed work.steps limits old base G v → Along (Sweeps (disk_of old)) old base
    → work.Goes (record { start = old; base = base; end = new }) → work.Leaves (record { start = old; base = base; end = new }) → work.Prints (record { start = old; base = base; end = new }) report.lines.items
    → (IsTrue report.changes ↔ work.FindsChanges (record { start = old; base = base; end = new })) → Carried work limits old new (Ok report)
done {work = work} {old = old} {new = new} {report = report} acts passed swept goes leaves prints finds = record {
  did = record {
    passed = passed.all;
    leaves = subst (λ s. work.Leaves (record { start = old; base = s; end = new })) passed.story leaves;
    prints = subst (λ s. work.Prints (record { start = old; base = s; end = new }) report.lines.items) passed.story prints;
    finds = subst (λ s. IsTrue report.changes ↔ work.FindsChanges (record { start = old; base = s; end = new })) passed.story finds;
  };
  stopped = tt;
  moves = inr (inr (works passed.story swept goes));
  quiet = λ looks. absurd (acts looks);
}
