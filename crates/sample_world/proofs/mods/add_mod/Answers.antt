use Rattle.std.proofs.Common.{◌≡◌, ◌≤◌, List, ap, subst, ◌∙◌, arith}
use Rattle.sample_world.specs.Files.{WorldFile}
use Rattle.sample_world.specs.Parts.{files_below}
use Rattle.sample_world.specs.Worlds.{HasFiles}
use Rattle.sample_world.proofs.Grown.{mods_more}
use Rattle.sample_world.proofs.mods.add_mod.Goals as goal

pub returns : goal.returns
returns c =
    let most : c.loop-count.count ≤ 100 = c.loop-count.auto.count-end (omega arith) in
    let end : c.loop-count.count ≡ 100 = omega (arith, most, c.loop-count-test.false) in
    subst (λ (l : List WorldFile). HasFiles l c.loop-count.tree) (ap (files_below c.args.mod_index) end ∙ mods_more c.args.mod_index) c.loop-count.invariant
