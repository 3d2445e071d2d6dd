use Rattle.std.proofs.Common.{◌<◌, ◌++◌, ◌∷◌, [], nat_eq, sym, ap, ◌∙◌, arith}
use Rattle.std.specs.Cmp.Lexicographic.{pointwise}
use Rattle.std.specs.Map.{lookup}
use Rattle.std.proofs.lemmas.List.FromFn.{map-range_with_len_more}
use Rattle.sample_world.specs.Profiles.{sample_mod}
use Rattle.sample_world.specs.Texts.{mod_id}
use Rattle.sample_world.proofs.Listed.{mods_few, new_mod}
use Rattle.sample_world.proofs.profile.sample_mods.Goals as goal

pub add_mod-requires : goal.add_mod-requires
add_mod-requires c =
    let index = c.loop-index.index in
    let few : index < 1000 = omega (arith, mods_few c.args.number, c.count_mods-index-end.ensures) in
    ap (lookup (pointwise nat_eq (mod_id index))) c.loop-index.invariant ∙ new_mod c.args.number index few

pub loop-index-preserved : goal.loop-index-preserved
loop-index-preserved c =
    let index = c.loop-index.index in
    c.in_ok-add_mod.ensures ∙ ap (λ l. l ++ (mod_id index, sample_mod c.args.number index) ∷ []) c.loop-index.invariant
    ∙ sym (map-range_with_len_more (λ i. (mod_id i, sample_mod c.args.number i)) 0 index index (omega arith))
