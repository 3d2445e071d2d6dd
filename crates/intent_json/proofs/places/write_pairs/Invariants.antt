use Rattle.std.proofs.Common.{◌≡◌, ◌++◌, take, drop}
use Rattle.std.specs.List.{AllByRecursion}
use Rattle.intent_json.specs.Places.{pair_data}
use Rattle.intent_json.specs.Held.{IsHeldPair}
use Rattle.intent_json.proofs.Lists.{list_tokens}
use Rattle.intent_json.proofs.places.write_pairs.Given as goal

abbrev pub invariant-loop-pair : goal.invariant-loop-pair
invariant-loop-pair l = record {
  whole : l.writer.tokens ++ list_tokens pair_data (drop l.pair-index l.pairs) ≡ l.initial.writer.tokens ++ list_tokens pair_data l.pairs;
  before : l.writer.before ≡ l.initial.writer.before;
  held : AllByRecursion IsHeldPair (take l.pair-index l.pairs);
}
