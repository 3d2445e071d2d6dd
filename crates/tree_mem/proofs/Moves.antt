-- A file that moves: what was pending first, and what came then.
use Rattle.std.proofs.Common.{◌≡◌, ◌≢◌, ℕ, ◌==◌, length, true, false, [], ◌∷◌, ◌++◌, refl, sym, ap, subst, ◌∙◌, inl, inr}
use Rattle.std.specs.declared.option.Option.TheVariants.{None}
use Rattle.std.proofs.lemmas.Bool.Decides.{Decides-eqb}
use Rattle.tree_fs.specs.Spot.{Spot, spot_of}
use Rattle.tree_fs.specs.Disk.{Disk, Value, none, file, set_at, put, renamed, is_one_file}
use Rattle.tree_fs.proofs.Spots.{same_or_other}
use Rattle.tree_fs.proofs.Functions.{set_at-same, set_at-other, same_disk}
use Rattle.tree_fs.proofs.Ops.{renamed-apart}
use Rattle.tree_mem.specs.declared.disk.MemDisk.{MemDisk}
use Rattle.tree_mem.specs.declared.disk.Past.{Past}
use Rattle.tree_mem.specs.Disks.{item_of, is_folder, value_in, held_before, file_at, disk_in, ItemSet}
use Rattle.tree_mem.proofs.Parts.{held_put, disk_removed}

-- the disk on which a place's value is pending, and there still
abbrev past_kept : Disk → Spot → Disk
past_kept d from = record d { before = set_at d.before from (d.now from ∷ d.before from) }

moved : (d : Disk) (from to : Spot) (v : Value) → from ≢ to → record (put (past_kept d from) to v) { now = set_at (set_at d.now to v) from none } ≡ put (put d to v) from none
moved d from to v apart = same_disk _ _ record { folders = λ q. refl; now = λ q. refl; before = before_of; bytes = λ n. refl; firm = λ n. refl; fresh = refl }
  where
    before_of : (q : Spot) → (put (past_kept d from) to v).before q ≡ (put (put d to v) from none).before q
    before_of q = elim (same_or_other q from) [
      | inl s ↦ subst (λ p. (put (past_kept d from) to v).before p ≡ (put (put d to v) from none).before p) (sym s)
          (set_at-other (past_kept d from).before to _ from apart ∙ set_at-same d.before from _
          ∙ sym (set_at-same (put d to v).before from _ ∙ (λ i. set_at-other d.now to v from apart i ∷ set_at-other d.before to (d.now to ∷ d.before to) from apart i)))
      | inr n1 ↦ elim (same_or_other q to) [
        | inl s ↦ subst (λ p. (put (past_kept d from) to v).before p ≡ (put (put d to v) from none).before p) (sym s)
            (set_at-same (past_kept d from).before to _ ∙ ap (λ l. d.now to ∷ l) (set_at-other d.before from _ to (λ e. apart (sym e)))
            ∙ sym (set_at-other (put d to v).before from _ to (λ e. apart (sym e)) ∙ set_at-same d.before to _))
        | inr n2 ↦ set_at-other (past_kept d from).before to _ q n2 ∙ set_at-other d.before from _ q n1 ∙ sym (set_at-other (put d to v).before from _ q n1 ∙ set_at-other d.before to _ q n2)
      ]
    ]

-- the parts of a disk on which a place's value was pushed
pushed_past : (d e : MemDisk) (from : Spot) (past : Past) → ((q : Spot) → item_of e q ≡ item_of d q) → e.files.items ≡ d.files.items → e.pending.items ≡ d.pending.items ++ past ∷ [] → spot_of past.at ≡ from → past.item ≡ item_of d from
    → disk_in e ≡ past_kept (disk_in d) from
pushed_past d e from past items files pending there held = same_disk (disk_in e) (past_kept (disk_in d) from) record {
  folders = λ q. ap is_folder (items q);
  now = λ q. ap value_in (items q);
  before = λ q. ap (λ l. held_before l q) pending ∙ held_put d.pending.items past from q there ∙ ap (λ i. set_at (held_before d.pending.items) from (value_in i ∷ held_before d.pending.items from) q) held;
  bytes = λ n. ap (λ fs. (file_at fs n).bytes) files;
  firm = λ n. ap (λ fs. (file_at fs n).firm) files;
  fresh = ap length files;
}

not_one : (d : Disk) (from to : Spot) (n : ℕ) → d.now from ≡ file n → is_one_file (d.now from) (d.now to) ≡ false → from ≢ to
not_one d from to n is apart same =
    let one : is_one_file (file n) (file n) ≡ false = (λ i. is_one_file (sym is i) (sym (sym (ap d.now same) ∙ is) i)) ∙ apart in
    let self : (n == n) ≡ true = (Decides-eqb n n).1 refl in
    cc

pub disk_moved : (d pushed put_there e : MemDisk) (from to : Spot) (past : Past) (n : ℕ) → ((q : Spot) → item_of pushed q ≡ item_of d q) → pushed.files.items ≡ d.files.items → pushed.pending.items ≡ d.pending.items ++ past ∷ []
    → spot_of past.at ≡ from → past.item ≡ item_of d from → disk_in put_there ≡ put (disk_in pushed) to (file n) → ItemSet put_there e from None → (disk_in d).now from ≡ file n → (disk_in d).folders from ≡ false
    → is_one_file ((disk_in d).now from) ((disk_in d).now to) ≡ false → disk_in e ≡ renamed (disk_in d) from to
disk_moved d pushed put_there e from to past n items files pending there held is removed source no_folder apart =
    let first : disk_in pushed ≡ past_kept (disk_in d) from = pushed_past d pushed from past items files pending there held in
    let second : disk_in put_there ≡ put (past_kept (disk_in d) from) to (file n) = is ∙ ap (λ x. put x to (file n)) first in
    let still : (disk_in put_there).folders from ≡ false = ap (λ x. x.folders from) second ∙ no_folder in
    disk_removed put_there e from removed still
    ∙ ap (λ (x : Disk). record x { now = set_at x.now from none }) second
    ∙ moved (disk_in d) from to (file n) (not_one (disk_in d) from to n source apart)
    ∙ ap (λ v. put (put (disk_in d) to v) from none) (sym source)
    ∙ sym (renamed-apart (disk_in d) from to apart)
