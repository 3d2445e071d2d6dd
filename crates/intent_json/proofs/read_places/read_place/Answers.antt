use Rattle.std.proofs.Common.{◌≡◌, sym, rules}
use Rattle.rel_paths.specs.declared.error.PathError.TheVariants.{Memory}
use Rattle.serde_json.specs.View.{view}
use Rattle.intent_json.proofs.PlaceReads.{place_none, place_read, place_refused}
use Rattle.intent_json.proofs.read_places.read_place.Goals as goal

pub returns-in_default : goal.returns-in_default
returns-in_default c = place_none (view c.args.value.now) (sym c.in_default.ensures)

pub returns-in-Ok : goal.returns-in-Ok
returns-in-Ok c = place_read (view c.args.value.now) c.in-Some.text.now c.in-Ok.place (sym c.in-Some.ensures) c.in-Ok.ensures.same c.in-Ok.ensures.fault

pub returns-in-Err : goal.returns-in-Err
returns-in-Err c =
    let other : c.in-Err.field-0 ≡ Memory → ⊥ = search rules in
    place_refused (view c.args.value.now) c.in-Some.text.now c.in-Err.field-0 (sym c.in-Some.ensures) (c.in-Err.ensures.err other)
