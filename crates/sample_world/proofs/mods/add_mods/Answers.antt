use Rattle.std.proofs.Common.{◌≡◌, List, sym, ap, subst, ◌∙◌, arith}
use Rattle.sample_world.specs.Files.{WorldFile}
use Rattle.sample_world.specs.Parts.{mods_below}
use Rattle.sample_world.specs.Texts.{mods_of}
use Rattle.sample_world.specs.Worlds.{HasFiles}
use Rattle.sample_world.proofs.Grown.{mods_none, mods_all}
use Rattle.sample_world.proofs.Listed.{mods_few}
use Rattle.sample_world.proofs.mods.add_mods.Goals as goal

pub loop-mod_index-init : goal.loop-mod_index-init
loop-mod_index-init c = subst (λ (l : List WorldFile). HasFiles l c.args.tree.now) (sym mods_none) c.requires

pub add_mod-requires-clause-few : goal.add_mod-requires-clause-few
add_mod-requires-clause-few c = omega (arith, mods_few c.args.number, c.count_mods-mod_index-end.ensures, c.loop-mod_index-test.true)

pub returns : goal.returns
returns c =
    let end : c.loop-mod_index.mod_index ≡ mods_of c.args.number = omega (arith, c.count_mods-mod_index-end.ensures, c.loop-mod_index-test.false, c.loop-mod_index.auto.mod_index-end) in
    subst (λ (l : List WorldFile). HasFiles l c.loop-mod_index.tree) (ap mods_below end ∙ mods_all c.args.number) c.loop-mod_index.invariant
