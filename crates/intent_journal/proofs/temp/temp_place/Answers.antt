use Rattle.std.proofs.Common.{◌∙◌, sym, ap}
use Rattle.tree_fs.proofs.Spots.{same_place}
use Rattle.intent_journal.specs.declared.temp.Temp.TheVariants.{Intent, Manifest, Profile}
use Rattle.intent_journal.specs.Sweeps.{temp_at}
use Rattle.intent_journal.proofs.temp.temp_place.Goals as goal

pub returns-in-Intent-clause-place : goal.returns-in-Intent-clause-place
returns-in-Intent-clause-place c = same_place c.control.result (temp_at Intent) c.control.ensures ∙ ap temp_at (sym c.in-Intent.is)

pub returns-in-Manifest-clause-place : goal.returns-in-Manifest-clause-place
returns-in-Manifest-clause-place c = same_place c.control-in-Manifest.result (temp_at Manifest) c.control-in-Manifest.ensures ∙ ap temp_at (sym c.in-Manifest.is)

pub returns-in-Profile-clause-place : goal.returns-in-Profile-clause-place
returns-in-Profile-clause-place c = same_place c.control-in-Profile.result (temp_at Profile) c.control-in-Profile.ensures ∙ ap temp_at (sym c.in-Profile.is)
