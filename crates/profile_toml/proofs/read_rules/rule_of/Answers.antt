use Rattle.std.proofs.Common.{◌≡◌, codes, ◌∷◌, [], ap, sym, subst, ◌∙◌}
use Rattle.toml.specs.Data.{table}
use Rattle.toml.specs.View.{view, table_view}
use Rattle.profile_toml.specs.Sound.{IsSound}
use Rattle.profile_toml.specs.Tables.{OfRule, from_2}
use Rattle.profile_toml.specs.Unknown.{without_key, without, unknown_in, AreUnknown}
use Rattle.profile_toml.proofs.Members.{AreSound-table, AreUnknown-in, unknown_to_1}
use Rattle.profile_toml.proofs.Shapes.{table_is}
use Rattle.profile_toml.proofs.read_rules.rule_of.Goals as goal

pub invariant_of-result : goal.invariant_of-result
invariant_of-result c =
    let version = c.args.version in
    let ms = table_view c.in-Some.table in
    let is : view c.args.value ≡ table ms = table_is (view c.args.value) ms (sym c.in-Some.ensures) in
    let extra : c.of.result ≡ unknown_in version OfRule ms =
    c.of.ensures ∙ c.take_from_2.ensures.left ∙ ap (λ m. without (from_2 version (codes "range" ∷ [])) m) (c.take-2.ensures.left ∙ ap (without_key (codes "ref")) c.take.ensures.left) in
    subst (AreUnknown 1 OfRule) (sym extra) (unknown_to_1 version OfRule (unknown_in version OfRule ms) (AreUnknown-in version OfRule ms (AreSound-table 59 ms (subst (IsSound 60) is c.requires))))
