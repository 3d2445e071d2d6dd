use Rattle.std.proofs.Common.{◌≡◌, ◌++◌, ◌∷◌, [], None, length, ap, sym, ◌∙◌, nat_eq, true, arith}
use Rattle.std.specs.Cmp.Lexicographic.{pointwise}
use Rattle.list_laws.proofs.Truths.{none-from_map}
use Rattle.indexmap.proofs.CallerLemmas.{insert_entry-new}
use Rattle.profile_edit.specs.Parts.{value_at, with_enabled}
use Rattle.profile_edit.proofs.Values.{with_value-None}
use Rattle.profile_edit.proofs.Applied.{enabled, enabled_new}
use Rattle.profile_edit.proofs.mods.enable.Goals as goal

pub returns-in-Some : goal.returns-in-Some
returns-in-Some c = enabled c.args.most_mods c.args.id.now c.args.mods.now.entries c.set_enabled.new.mods.entries c.in-Some.was c.in-Some.ensures.was c.set_enabled.ensures.after

pub returns-in-Ok : goal.returns-in-Ok
returns-in-Ok c =
    let mods = c.args.mods.now.entries in
    let none : value_at c.args.id.now mods ≡ None = none-from_map (λ m. m.enabled) (value_at c.args.id.now mods) (sym c.in_default.is ∙ c.set_enabled.ensures.was) in
    let kept = c.set_enabled.ensures.after ∙ with_value-None c.args.id.now (with_enabled true) mods none in
    let none_kept : value_at c.args.id.now c.set_enabled.new.mods.entries ≡ None = ap (value_at c.args.id.now) kept ∙ none in
    let fresh = ap (λ k. value_at k c.set_enabled.new.mods.entries) c.in_ok-copy.ensures ∙ none_kept in
    let entries = c.in-Ok.ensures.entries ∙ insert_entry-new (pointwise nat_eq) c.set_enabled.new.mods c.in_ok-copy.field-0 c.plain.result fresh in
    enabled_new c.args.most_mods c.args.id.now mods c.insert.new.self.entries none (omega (arith, ap length kept)) (entries ∙ λ i. kept i ++ (c.in_ok-copy.ensures i, c.plain.ensures i) ∷ [])
