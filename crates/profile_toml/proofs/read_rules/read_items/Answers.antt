use Rattle.std.proofs.Common.{◌≡◌, ◌∷◌, [], ℕ, Option, codes, sym, ◌∙◌, rules}
use Rattle.std.specs.Vec.Iter.{into_iter_items}
use Rattle.toml.specs.Data.{Data}
use Rattle.toml.specs.View.{items_view}
use Rattle.profile_toml.specs.declared.error.ProfileError.{ProfileError}
use Rattle.profile_toml.specs.KeyPaths.{keyed, indexed}
use Rattle.profile_toml.specs.Rules.{rule_fault, rule_value}
use Rattle.profile_toml.specs.Texts.{list_of}
use Rattle.list_laws.proofs.Lists.{length_after}
use Rattle.std.proofs.lemmas.List.{nil_from_length}
use Rattle.profile_toml.proofs.Readers.{begins, next_sound, stops, goes_on, ends}
use Rattle.profile_toml.proofs.read_rules.read_items.Goals as goal

-- the fault of the rule with an index of the mod with one
abbrev fault : ℕ → ℕ → ℕ → Data → Option ProfileError
fault version i j d = rule_fault version (indexed (keyed (indexed (codes "mods") i) (codes "rules")) j) d

pub loop-item-init : goal.loop-item-init
loop-item-init c = record {
  reading = begins (fault c.args.version c.args.index) (rule_value c.args.version) 60 c.args.array.items _ _ c.into_iter-item-iterator.ensures.into_iter_gives.0 c.new-rules.ensures.items c.requires;
  length_is = search rules;
}

pub read_rule-requires : goal.read_rule-requires
read_rule-requires c =
    next_sound (fault c.args.version c.args.index) (rule_value c.args.version) 60 (list_of (items_view c.args.array.items)) _ _ c.in-Some.item _ c.in-Some.ensures.steps.0 c.loop-item.invariant.reading

pub returns-in_err-read_rule : goal.returns-in_err-read_rule
returns-in_err-read_rule c =
    stops (fault c.args.version c.args.index) (rule_value c.args.version) 60 (list_of (items_view c.args.array.items)) _ _ c.in-Some.item _ c.in-Some.ensures.steps.0 c.loop-item.invariant.reading
    (λ v. v.items) c.from_residual.result c.in_err-read_rule.field-0.0 c.from_residual.ensures.1 c.in_err-read_rule.ensures

pub loop-item-preserved : goal.loop-item-preserved
loop-item-preserved c =
    let rest = into_iter_items c.next.new.self in
    let before = into_iter_items c.loop-item.item-iterator in
    let step : before ≡ c.in-Some.item ∷ rest = c.in-Some.ensures.steps.0 in
    record {
      reading = goes_on (fault c.args.version c.args.index) (rule_value c.args.version) 60 (list_of (items_view c.args.array.items)) before rest c.in-Some.item _ step c.loop-item.invariant.reading
          _ c.in_ok-read_rule.ensures.0 c.in_ok-read_rule.ensures.1;
      length_is = length_after rest before c.in-Some.item _ _ step c.in-Some.ensures.steps.1 c.loop-item.invariant.length_is;
    }

pub returns : goal.returns
returns c =
    let left = into_iter_items c.loop-item.item-iterator in
    let empty : left ≡ [] = nil_from_length left (sym c.loop-item.invariant.length_is ∙ c.in-None.ensures.steps.0) in
    ends (fault c.args.version c.args.index) (rule_value c.args.version) 60 (list_of (items_view c.args.array.items)) left _ empty c.loop-item.invariant.reading
