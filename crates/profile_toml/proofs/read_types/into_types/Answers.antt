use Rattle.std.proofs.Common.{◌≡◌, ◌∷◌, ◌++◌, [], ap, sym, ◌∙◌, append_assoc, append-nil}
use Rattle.std.specs.Map.{values_of}
use Rattle.profile_toml.proofs.read_types.into_types.Goals as goal

pub loop-id-init : goal.loop-id-init
loop-id-init c =
    let gives = c.into_iter-id-iterator.ensures.into_iter_gives in
    (tt, tt, λ i. c.new-list.ensures.items i ++ values_of (gives.0 i))

pub loop-id-preserved : goal.loop-id-preserved
loop-id-preserved c =
    let at = c.loop-id in
    let step : at._id-iterator ≡ (c.in-Some._id, c.in-Some.entry) ∷ c.next.new.self = c.in-Some.ensures.steps in (
      tt,
      tt,
      ap (λ l. l ++ values_of c.next.new.self) c.in_ok-push.ensures.items ∙ append_assoc at.list.items (c.in-Some.entry ∷ []) (values_of c.next.new.self)
          ∙ ap (λ es. at.list.items ++ values_of es) (sym step) ∙ at.invariant.2,
    )

pub returns-clause-items : goal.returns-clause-items
returns-clause-items c =
    let at = c.loop-id in
    sym (append-nil at.list.items) ∙ ap (λ es. at.list.items ++ values_of es) (sym c.in-None.ensures.steps.0) ∙ at.invariant.2
