use Rattle.std.proofs.Common.{◌≡◌, ◌++◌, take, drop}
use Rattle.std.specs.List.{AllByRecursion}
use Rattle.intent_json.specs.Places.{set_data}
use Rattle.intent_json.specs.Held.{IsHeldSet}
use Rattle.intent_json.proofs.Lists.{list_tokens}
use Rattle.intent_json.proofs.places.write_sets.Given as goal

abbrev pub invariant-loop-set : goal.invariant-loop-set
invariant-loop-set l = record {
  whole : l.writer.tokens ++ list_tokens set_data (drop l.set-index l.sets) ≡ l.initial.writer.tokens ++ list_tokens set_data l.sets;
  before : l.writer.before ≡ l.initial.writer.before;
  held : AllByRecursion IsHeldSet (take l.set-index l.sets);
}
