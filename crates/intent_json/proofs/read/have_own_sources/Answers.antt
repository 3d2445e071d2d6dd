use Rattle.std.proofs.Common.{◌≡◌, ◌<◌, true, length, take, sym, subst, ◌∙◌, take_all, rules}
use Rattle.std.specs.List.{AllByRecursion}
use Rattle.list_laws.proofs.Alls.{all_one_more, test-from_all}
use Rattle.intent_json.specs.Reads.{has_own_source}
use Rattle.intent_json.proofs.Accepts.{lacks_one}
use Rattle.intent_json.proofs.read.have_own_sources.Goals as goal

pub returns-then-not-has_own_source : goal.returns-then-not-has_own_source
returns-then-not-has_own_source c =
    let at = c.loop-row in
    let within : at.row-index < length c.args.rows.now = search rules in
    sym (lacks_one has_own_source c.args.rows.now at.row-index c.row-item.result within c.row-item.is (sym c.has_own_source.ensures ∙ c.if-not-has_own_source.true))

pub loop-row-preserved : goal.loop-row-preserved
loop-row-preserved c =
    let at = c.loop-row in
    let within : at.row-index < length c.args.rows.now = search rules in
    all_one_more (λ r. has_own_source r ≡ true) c.args.rows.now at.row-index c.row-item.result within c.row-item.is at.invariant (sym c.has_own_source.ensures ∙ c.if-not-has_own_source.false)

pub returns : goal.returns
returns c =
    let at = c.loop-row in
    let whole : take at.row-index c.args.rows.now ≡ c.args.rows.now = search (rules, take_all) in
    sym (test-from_all has_own_source c.args.rows.now (subst (AllByRecursion (λ r. has_own_source r ≡ true)) whole at.invariant))
