use Rattle.std.proofs.Common.{◌≡◌, ℕ, List, Some, slice_get, sym, ◌∙◌}
use Rattle.profile_toml.specs.Records.{ModData}
use Rattle.profile_edit.proofs.Upgraded.{key_here, key_later}
use Rattle.profile_edit.proofs.upgrade.key_of_mods.Goals as goal

pub returns-in-Some-key_of_mod : goal.returns-in-Some-key_of_mod
returns-in-Some-key_of_mod c =
    let es = c.args.mods.now.entries in
    let m : List ℕ × ModData = (c.in-Some._id.now, c.in-Some.entry.now) in
    let at : slice_get es c.loop-index.index ≡ Some m = sym c.in-Some.ensures.entry in
    key_here es c.loop-index.index m at c.loop-index.invariant c.in-Some-key_of_mod.key (sym c.key_of_mod.ensures ∙ c.in-Some-key_of_mod.is)

pub loop-index-preserved : goal.loop-index-preserved
loop-index-preserved c =
    let es = c.args.mods.now.entries in
    let m : List ℕ × ModData = (c.in-Some._id.now, c.in-Some.entry.now) in
    let at : slice_get es c.loop-index.index ≡ Some m = sym c.in-Some.ensures.entry in
    key_later es c.loop-index.index m at c.loop-index.invariant (sym c.key_of_mod.ensures ∙ c.in_default-key_of_mod.is)
