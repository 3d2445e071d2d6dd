use Rattle.std.proofs.Common.{sym, ap, ◌∙◌}
use Rattle.std.specs.BTreeMap.{get_by_text}
use Rattle.std.specs.Option.{option_copied}
use Rattle.tree_fs.specs.Spot.{spot_of}
use Rattle.tree_mem.specs.Items.{Folders}
use Rattle.tree_mem.proofs.Parts.{if_ok}
use Rattle.tree_mem.proofs.Listed.{listing_some, listing_none}
use Rattle.tree_mem.proofs.disk.MemDisk.list.Goals as goal

pub returns-in-Some : goal.returns-in-Some
returns-in-Some c =
    let had = sym (ap option_copied c.in-Some.is) ∙ c.get.ensures.value ∙ ap (λ (fs : Folders). get_by_text fs c.folder_text.result.now) c.folders.ensures in
    if_ok c.list.result (λ listed is ordered. listing_some c.args.self.now (spot_of c.args.folder.now) c.folder_text.result.now c.in-Some.entries.now listed.items c.folder_text.ensures had ordered is) c.list.ensures.each c.list.ensures.ordered

pub returns-in-None : goal.returns-in-None
returns-in-None c =
    let had = sym (ap option_copied c.in-None.is) ∙ c.get.ensures.value ∙ ap (λ (fs : Folders). get_by_text fs c.folder_text.result.now) c.folders.ensures in
    rw c.new.ensures.items (listing_none c.args.self.now (spot_of c.args.folder.now) c.folder_text.result.now c.folder_text.ensures had)
