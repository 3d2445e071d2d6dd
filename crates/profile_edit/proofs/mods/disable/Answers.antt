use Rattle.profile_edit.proofs.Applied.{disabled}
use Rattle.profile_edit.proofs.mods.disable.Goals as goal

pub returns-in-Some : goal.returns-in-Some
returns-in-Some c = disabled c.args.id.now c.args.mods.now.entries c.set_enabled.new.mods.entries c.in-Some.was c.in-Some.ensures.was c.set_enabled.ensures.after
