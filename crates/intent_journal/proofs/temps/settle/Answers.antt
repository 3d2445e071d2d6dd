use Rattle.std.proofs.Common.{subst, ap, sym}
use Rattle.intent_journal.specs.Counts.{folder_count, SyncsAtMost}
use Rattle.tree_fs.specs.declared.place.Root.TheVariants.{Game, Keep}
use Rattle.tree_fs.specs.Story.{disk_of}
use Rattle.intent_journal.proofs.TempPlaces.{place_root}
use Rattle.intent_journal.proofs.Settling.{temp_settled, place_settled}
use Rattle.intent_journal.proofs.temps.settle.Goals as goal

pub returns-in-Intent-clause-temp : goal.returns-in-Intent-clause-temp
returns-in-Intent-clause-temp g c = λ told. temp_settled _ (disk_of (g.T.Tree.story c.sync_root.new.tree)) c.args.which (c.sync_root.ensures.done told)

pub returns-in-Intent-clause-place : goal.returns-in-Intent-clause-place
returns-in-Intent-clause-place g c = λ told. place_settled _ (disk_of (g.T.Tree.story c.sync_root.new.tree)) c.args.which Keep (ap place_root c.in-Intent.is) (c.sync_root.ensures.done told)

pub returns-in-Manifest-clause-temp : goal.returns-in-Manifest-clause-temp
returns-in-Manifest-clause-temp g c = λ told. temp_settled _ (disk_of (g.T.Tree.story c.sync_roots.new.tree)) c.args.which (c.sync_roots.ensures.second told)

pub returns-in-Manifest-clause-place : goal.returns-in-Manifest-clause-place
returns-in-Manifest-clause-place g c = λ told. place_settled _ (disk_of (g.T.Tree.story c.sync_roots.new.tree)) c.args.which Game (ap place_root c.in-Manifest.is) (c.sync_roots.ensures.first told)

pub returns-in-Profile-clause-temp : goal.returns-in-Profile-clause-temp
returns-in-Profile-clause-temp g c = λ told. temp_settled _ (disk_of (g.T.Tree.story c.sync_root-in-Profile.new.tree)) c.args.which (c.sync_root-in-Profile.ensures.done told)

pub returns-in-Profile-clause-place : goal.returns-in-Profile-clause-place
returns-in-Profile-clause-place g c = λ told. place_settled _ (disk_of (g.T.Tree.story c.sync_root-in-Profile.new.tree)) c.args.which Keep (ap place_root c.in-Profile.is) (c.sync_root-in-Profile.ensures.done told)

pub returns-in-Intent-clause-syncs : goal.returns-in-Intent-clause-syncs
returns-in-Intent-clause-syncs g c = λ told. subst (λ n. SyncsAtMost n (g.T.Tree.story c.args.tree.now) (g.T.Tree.story c.sync_root.new.tree)) (ap folder_count (sym c.in-Intent.is)) (c.sync_root.ensures.syncs told)

pub returns-in-Manifest-clause-syncs : goal.returns-in-Manifest-clause-syncs
returns-in-Manifest-clause-syncs g c = λ told. subst (λ n. SyncsAtMost n (g.T.Tree.story c.args.tree.now) (g.T.Tree.story c.sync_roots.new.tree)) (ap folder_count (sym c.in-Manifest.is)) (c.sync_roots.ensures.syncs told)

pub returns-in-Profile-clause-syncs : goal.returns-in-Profile-clause-syncs
returns-in-Profile-clause-syncs g c = λ told. subst (λ n. SyncsAtMost n (g.T.Tree.story c.args.tree.now) (g.T.Tree.story c.sync_root-in-Profile.new.tree)) (ap folder_count (sym c.in-Profile.is)) (c.sync_root-in-Profile.ensures.syncs told)
