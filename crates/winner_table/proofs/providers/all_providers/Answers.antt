use Rattle.std.proofs.Common.{◌≡◌, ◌^◌, map, sym, ap, ◌∙◌, IfOk, Result, Ok, Err}
use Rattle.winner_table.specs.Offers.{path_and_node, grouped, IsNodeOf}
use Rattle.winner_table.specs.Providers.{AreAllProviders}
use Rattle.list_laws.proofs.Alls.{all_from_contains}
use Rattle.std.proofs.lemmas.Map.Steps.{length-le_from_distinct_below}
use Rattle.winner_table.proofs.Gathering.{distinct_from, fits_below}
use Rattle.winner_table.proofs.Offered.{all_are}
use Rattle.winner_table.proofs.providers.all_providers.Goals as goal

if_ok : {A E : Type 0} (P Q : A → Type 0) → ((x : A) → P x → Q x) → (r : Result A E) → IfOk r P → IfOk r Q
if_ok P Q f (Ok x) h = f x h
if_ok P Q f (Err e) h = tt

pub all_provided-requires-clause-few : goal.all_provided-requires-clause-few
all_provided-requires-clause-few c =
    let order = c.args.order.now in
    length-le_from_distinct_below order (2 ^ 32) (distinct_from order c.requires.once) (fits_below order c.type_inv.order)

pub all_provided-requires-clause-nodes : goal.all_provided-requires-clause-nodes
all_provided-requires-clause-nodes c = all_from_contains (IsNodeOf c.args.scans.now) c.args.order.now c.requires.only

pub returns : goal.returns
returns c =
    if_ok _ _ (λ all is. all_are c.args.scans.now c.args.order.now c.in_ok-provided.ensures.files all.items
    (is ∙ ap grouped (ap (map path_and_node) c.as_slice.ensures.value ∙ c.in_ok-provided.ensures.items)))
    c.group.result c.group.ensures
