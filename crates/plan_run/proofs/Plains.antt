-- What every stop leads to tells what a disk itself leads to.
use Rattle.std.proofs.Common.{◌≡◌, true, [], refl, sym, ◌∙◌, inl, inr}
use Rattle.tree_fs.specs.Disk.{Disk, IsValid, Image}
use Rattle.tree_fs.specs.Story.{Story, disk_of, Along}
use Rattle.tree_fs.proofs.Moments.{along_both, along_weaken}
use Rattle.desk_model.specs.Desk.{Desk, desk}
use Rattle.desk_model.specs.Outcome.{outcome_now}
use Rattle.desk_model.specs.History.{KeepsPlain}
use Rattle.desk_model.specs.Standing.{Invariant}
use Rattle.desk_model.specs.Stops.{LeadsToOldOrNew}
use Rattle.desk_model.proofs.Carried.{image-plain}
use Rattle.plan_exec.specs.Ending.{StopsOldOrNew}

-- a stop that leaves each place as it is now
abbrev pub still_image : Disk → Disk
still_image d = record d { before = λ x. []; firm = λ n. true }

pub still-image : (d : Disk) → IsValid d → Image d (still_image d)
still-image d valid = record {
  folders = λ q. refl;
  value = λ q out. inl refl;
  bare = valid.bare;
  settled = λ q. refl;
  bytes = λ n firm. refl;
  firm = λ n. refl;
  fresh = refl;
}

-- where each stop leads to the old desk or to one with its game folder without mods, so does each
-- disk along the way
pub plain_along : (new : Desk → Type 0) (s t : Story) → ((k : Desk) → new k → k.plain ≡ (desk (disk_of s)).plain)
    → (outcome_now (disk_of s)).plain ≡ (desk (disk_of s)).plain
    → StopsOldOrNew new s t → Along Invariant s t → Along (KeepsPlain (disk_of s)) s t
plain_along new s t keeps now stops kept =
    let a = disk_of s in
    let Stops : Disk → Type 0 = λ d. (left : Disk) → Image d left → LeadsToOldOrNew a new left in
    along_weaken (λ d. Invariant d × Stops d) (KeepsPlain a) s t
    (λ d h.
    let image = still-image d h.0.standing.valid in
    let plain : (outcome_now (still_image d)).plain ≡ (desk a).plain = elim (h.1 (still_image d) image).one_of [
      | inl old ↦ old.plain
      | inr is ↦ keeps (outcome_now (still_image d)) is
    ] in
    record { invariant = h.0; plain = sym (image-plain d (still_image d) h.0.standing image) ∙ plain ∙ sym now })
    (along_both Invariant Stops s t kept (record { ops = stops.ops; goes_on = stops.goes_on; each = stops.each }))
