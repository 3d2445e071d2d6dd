use Rattle.std.proofs.Common.{◌≡◌, Some, None, get_or, cond, position, sym, ◌∙◌, ap, subst, arith, length}
use Rattle.std.specs.Map.{lookup, keys_of}
use Rattle.std.specs.Str.{bytes_eq}
use Rattle.std.proofs.lemmas.Option.{slice_get_within}
use Rattle.mod_rules.specs.Pairs.{counts_before}
use Rattle.mod_rules.proofs.Counts.{node_of-None, node_of-place, length-counts_before}
use Rattle.mod_rules.proofs.nodes.node_of.Goals as goal

pub returns-in_err-place : goal.returns-in_err-place
returns-in_err-place c =
    let none = subst (λ id. lookup (bytes_eq id) c.args.mods.now.entries ≡ None) c.refers.ensures (sym c.in_err-place.ensures.value) in
    c.from_residual.ensures ∙ sym (node_of-None 0 c.args.rule.now c.args.mods.now.entries none)

pub offset_bounds-counts-place : goal.offset_bounds-counts-place
offset_bounds-counts-place c =
    let below = slice_get_within c.args.mods.now.entries c.in_ok-place.place _ c.in_ok-place.ensures.entry in
    omega (arith, below, ap length c.requires, length-counts_before 0 c.args.mods.now.entries)

pub bounds-counts-place : goal.bounds-counts-place
bounds-counts-place c =
    let below = slice_get_within c.args.mods.now.entries c.in_ok-place.place _ c.in_ok-place.ensures.entry in
    omega (arith, below, ap length c.requires, length-counts_before 0 c.args.mods.now.entries)

pub returns-then-is_met_by : goal.returns-then-is_met_by
returns-then-is_met_by c =
    let place = subst (λ id. position (bytes_eq id) (keys_of c.args.mods.now.entries) ≡ Some c.in_ok-place.place) c.refers.ensures (sym c.in_ok-place.ensures.index) in
    ap (λ l. Some (get_or l c.in_ok-place.place 0)) c.requires
    ∙ ap (λ b. cond b (Some (get_or (counts_before 0 c.args.mods.now.entries) c.in_ok-place.place 0)) None) (sym c.if-is_met_by.true ∙ c.is_met_by.ensures)
    ∙ sym (node_of-place 0 c.args.rule.now c.args.mods.now.entries c.in_ok-place.place _ c.in_ok-place.ensures.entry place)

pub returns-else-is_met_by : goal.returns-else-is_met_by
returns-else-is_met_by c =
    let place = subst (λ id. position (bytes_eq id) (keys_of c.args.mods.now.entries) ≡ Some c.in_ok-place.place) c.refers.ensures (sym c.in_ok-place.ensures.index) in
    ap (λ b. cond b (Some (get_or (counts_before 0 c.args.mods.now.entries) c.in_ok-place.place 0)) None) (sym c.if-is_met_by.false ∙ c.is_met_by.ensures)
    ∙ sym (node_of-place 0 c.args.rule.now c.args.mods.now.entries c.in_ok-place.place _ c.in_ok-place.ensures.entry place)
