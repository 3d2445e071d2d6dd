use Rattle.std.proofs.Common.{◌≡◌, ◌<◌, List, length, get_or, take, subst, sym, ◌∙◌, ◌++◌, ◌∷◌, []}
use Rattle.tree_mem.specs.declared.disk.Past.{Past}
use Rattle.list_laws.proofs.Lists.{one_more}
use Rattle.tree_mem.specs.Groups.{IsGrouped}
use Rattle.tree_mem.proofs.Groups.{grouped_more, grouped_skipped}
use Rattle.tree_mem.proofs.disk.MemDisk.groups.Goals.{then-not-is_folder+in_ok-add_past, else-not-is_folder}
use Rattle.tree_mem.proofs.disk.MemDisk.groups.Goals as goal

pub loop-past-preserved : goal.loop-past-preserved
loop-past-preserved c =
    let d = c.args.self.now in
    let i = c.loop-past.past-index in
    let x = c.past-item.result in
    subst (λ l. IsGrouped d l c.if-not-is_folder.groups) (sym (one_more d.pending.items i x (subst (λ (l : List Past). i < length l) c.deref-past-items.ensures.value c.loop-past-test.true) (subst (λ (l : List Past). x ≡ get_or l i x) c.deref-past-items.ensures.value c.past-item.is))) (elim c.if-not-is_folder.branch [
      | then-not-is_folder+in_ok-add_past w ↦
          subst (IsGrouped d (take i d.pending.items ++ x ∷ [])) (sym w.groups-is)
          (grouped_more d (take i d.pending.items) x c.loop-past.groups w.add_past.new.groups (sym c.is_folder.ensures ∙ w.if-not-is_folder.true) w.in_ok-add_past.ensures c.loop-past.invariant)
      | else-not-is_folder w ↦
          subst (IsGrouped d (take i d.pending.items ++ x ∷ [])) (sym w.groups-is) (grouped_skipped d (take i d.pending.items) x c.loop-past.groups (sym c.is_folder.ensures ∙ w.if-not-is_folder.false) c.loop-past.invariant)
    ])
