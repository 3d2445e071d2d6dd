use Rattle.manifest_json.specs.Sources.{HasFolders}
use Rattle.manifest_json.proofs.sources.add_folders.Given as goal

abbrev pub invariant-loop-i : goal.invariant-loop-i
invariant-loop-i l = HasFolders l.id l.path l.i l.initial.set l.set
