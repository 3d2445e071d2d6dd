use Rattle.std.proofs.Common.{◌≡◌, sym, ◌∙◌, subst}
use Rattle.rel_paths.specs.declared.control.Control.{Control}
use Rattle.rel_paths.specs.declared.control.Control.TheVariants.{Intent, IntentTemp, ManifestTemp, ProfileTemp, Profile, Manifest}
use Rattle.tree_fs.specs.Story.{Story, disk_of}
use Rattle.tree_fs.specs.Texts.{control_spot}
use Rattle.tree_mem.specs.MemStory.{mem_story}
use Rattle.intent_journal.specs.Temps.{IsFileOrAbsent}
use Rattle.settle_tests.proofs.tests.running.need_open.Goals as goal

still : (which : Control) (s t : Story) → t ≡ s → IsFileOrAbsent (disk_of s) (control_spot which) → IsFileOrAbsent (disk_of t) (control_spot which)
still which s t same is = subst (λ u. IsFileOrAbsent (disk_of u) (control_spot which)) (sym same) is

all_six : (s : Story)
    → IsFileOrAbsent (disk_of s) (control_spot Intent)
    → IsFileOrAbsent (disk_of s) (control_spot IntentTemp)
    → IsFileOrAbsent (disk_of s) (control_spot ManifestTemp)
    → IsFileOrAbsent (disk_of s) (control_spot ProfileTemp)
    → IsFileOrAbsent (disk_of s) (control_spot Profile)
    → IsFileOrAbsent (disk_of s) (control_spot Manifest)
    → (which : Control) → IsFileOrAbsent (disk_of s) (control_spot which)
all_six s a b c d e f Intent = a
all_six s a b c d e f IntentTemp = b
all_six s a b c d e f ManifestTemp = c
all_six s a b c d e f ProfileTemp = d
all_six s a b c d e f Profile = e
all_six s a b c d e f Manifest = f

pub returns-clause-are_open : goal.returns-clause-are_open
returns-clause-are_open g c =
    let t = mem_story c.need_open_at-6.new.tree in
    let five = c.need_open_at-6.ensures.same in
    let four = five ∙ c.need_open_at-5.ensures.same in
    let three = four ∙ c.need_open_at-4.ensures.same in
    let two = three ∙ c.need_open_at-3.ensures.same in
    let one = two ∙ c.need_open_at-2.ensures.same in
    all_six t (still Intent (mem_story c.need_open_at.new.tree) t one c.need_open_at.ensures.is_open)
    (still IntentTemp (mem_story c.need_open_at-2.new.tree) t two c.need_open_at-2.ensures.is_open)
    (still ManifestTemp (mem_story c.need_open_at-3.new.tree) t three c.need_open_at-3.ensures.is_open)
    (still ProfileTemp (mem_story c.need_open_at-4.new.tree) t four c.need_open_at-4.ensures.is_open)
    (still Profile (mem_story c.need_open_at-5.new.tree) t five c.need_open_at-5.ensures.is_open)
    c.need_open_at-6.ensures.is_open
