use Rattle.std.proofs.Common.{◌≡◌, ap, sym, ◌∙◌}
use Rattle.std.specs.Map.{set_value}
use Rattle.std.specs.Str.{bytes_eq}
use Rattle.std.proofs.lemmas.Map.Steps.{set_value_same}
use Rattle.profile_toml.specs.Records.{ModData}
use Rattle.list_laws.proofs.Truths.{on_err-always}
use Rattle.profile_edit.proofs.rules.push_rule.Goals as goal

pub returns-in_err-push-in-Some-clause-err : goal.returns-in_err-push-in-Some-clause-err
returns-in_err-push-in-Some-clause-err c =
    let inside = c.entry.inside in
    let left : ModData = record { enabled = inside.enabled; rules = c.push.new.self.items; release = inside.release; mod_type = inside.mod_type; extra = inside.extra } in
    let same : left ≡ c.in-Some.entry.now = (λ i. record { enabled = inside.enabled; rules = c.in_err-push-in-Some.ensures.items i; release = inside.release; mod_type = inside.mod_type; extra = inside.extra }) ∙ c.entry.view_is in
    on_err-always c.from_residual.result
    ((c.get_mut.follows.holds left).0 ∙ ap (set_value (bytes_eq c.args.id.now) c.args.mods.now.entries) same ∙ set_value_same (bytes_eq c.args.id.now) c.args.mods.now.entries c.in-Some.entry.now (sym c.in-Some.ensures.value))
