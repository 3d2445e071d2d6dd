use Rattle.std.proofs.Common.{OnOk, sym, subst}
use Rattle.rel_paths.specs.declared.control.Control.TheVariants.{ManifestTemp}
use Rattle.tree_fs.specs.Disk.{IsFile}
use Rattle.tree_fs.specs.Story.{Story, disk_of}
use Rattle.tree_fs.specs.Texts.{control_spot}
use Rattle.tree_mem.specs.MemStory.{mem_story}
use Rattle.intent_journal.specs.declared.temp.Temp.{Temp}
use Rattle.intent_journal.specs.Temps.{temp_spot}
use Rattle.journal_tests.proofs.temp_tests.is_installed.Goals as goal

pub install-requires-clause-temp : goal.install-requires-clause-temp
install-requires-clause-temp g c = λ told.
    let after = mem_story c.need_control.new.tree in
    let file : IsFile (disk_of after) (control_spot ManifestTemp) = subst (λ r. OnOk r (IsFile (disk_of after) (control_spot ManifestTemp))) c.expect.ensures c.need_control.ensures.file in
    let kept = subst (λ (s : Story). IsFile (disk_of s) (control_spot ManifestTemp)) (sym c.need_open.ensures.same) file in
    subst (λ (which : Temp). IsFile (disk_of (mem_story c.need_open.new.tree)) (temp_spot which)) (sym c.requires) kept
