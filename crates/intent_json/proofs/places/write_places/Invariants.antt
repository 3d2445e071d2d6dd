use Rattle.std.proofs.Common.{◌≡◌, ◌++◌, take, drop}
use Rattle.std.specs.List.{AllByRecursion}
use Rattle.intent_json.specs.Places.{place_data}
use Rattle.intent_json.specs.Held.{IsHeld}
use Rattle.intent_json.proofs.Lists.{list_tokens}
use Rattle.intent_json.proofs.places.write_places.Given as goal

abbrev pub invariant-loop-place : goal.invariant-loop-place
invariant-loop-place l = record {
  whole : l.writer.tokens ++ list_tokens place_data (drop l.place-index l.places) ≡ l.initial.writer.tokens ++ list_tokens place_data l.places;
  before : l.writer.before ≡ l.initial.writer.before;
  held : AllByRecursion IsHeld (take l.place-index l.places);
}
