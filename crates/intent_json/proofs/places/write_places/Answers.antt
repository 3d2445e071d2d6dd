use Rattle.std.proofs.Common.{◌∙◌}
use Rattle.std.proofs.lemmas.Result.{on_ok_weaker}
use Rattle.intent_json.specs.Places.{place_data}
use Rattle.intent_json.proofs.Lists.{behind, all_written}
use Rattle.intent_json.proofs.places.write_places.Goals as goal

pub returns-clause-tokens : goal.returns-clause-tokens
returns-clause-tokens c =
    let l = c.loop-place in
    on_ok_weaker c.end_array.result (λ last. behind _ _ _ _ _ c.in_ok-begin_array.ensures.ok (last ∙ all_written place_data c.args.places.now l.place-index l.writer.tokens c.begin_array.new.self.tokens c.loop-place-test.false l.invariant.whole)) c.end_array.ensures.ok
