-- What places may hold, over all steps: each only adds to it, or only takes from it.
use Rattle.std.proofs.Common.{◌⊎◌, ◌+◌, true, false, [], sym, inl, inr, subst}
use Rattle.tree_fs.specs.declared.op.Op.{Op}
use Rattle.tree_fs.specs.declared.op.Op.TheVariants.{Link, Unlink, Rename, Create, Fill, MakeFolder, RemoveFolder, SyncFolder, SyncFile}
use Rattle.tree_fs.specs.Spot.{Spot, spot_of}
use Rattle.tree_fs.specs.Disk.{Disk, none, file, set_number, put, created, renamed, after}
use Rattle.tree_fs.proofs.Disks.{MayHold-put_keeps}
use Rattle.tree_fs.specs.Frames.{HoldsWithin}
use Rattle.tree_fs.proofs.Ops.{within-same, within-put, within-synced, is_one_file_tells, renamed-one, renamed-apart}
use Rattle.tree_fs.proofs.Files.{SamePlaces, same_places-hold, filled-places, made_firm-places}

pub within-same_places : (d e : Disk) → SamePlaces d e → HoldsWithin e d
within-same_places d e same q v h = same_places-hold d e q v same h

pub within-renamed : (d : Disk) (from to : Spot) → HoldsWithin d (renamed d from to)
within-renamed d from to = elim (is_one_file_tells (d.now from) (d.now to)) [
  | inl s ↦ subst (HoldsWithin d) (sym (renamed-one d from to s.0)) (within-same d)
  | inr s ↦ subst (HoldsWithin d) (sym (renamed-apart d from to s.0)) (λ q v h. within-put (put d to (d.now from)) from none q v (within-put d to (d.now from) q v h))
]

within-created : (d : Disk) (at : Spot) → HoldsWithin d (created d at)
within-created d at q v h = MayHold-put_keeps (record d { bytes = set_number d.bytes d.fresh []; firm = set_number d.firm d.fresh false; fresh = d.fresh + 1 }) at q (file d.fresh) v h

-- each step only adds to what places may hold, or only takes from it
pub grows_or_shrinks : (d : Disk) (op : Op) → HoldsWithin d (after d op) ⊎ HoldsWithin (after d op) d
grows_or_shrinks d (Link from to true) = inl (within-put d (spot_of to) (d.now (spot_of from)))
grows_or_shrinks d (Unlink at true) = inl (within-put d (spot_of at) none)
grows_or_shrinks d (Rename from to true) = inl (within-renamed d (spot_of from) (spot_of to))
grows_or_shrinks d (Create at true) = inl (within-created d (spot_of at))
grows_or_shrinks d (Fill at bytes true) = inr (within-same_places d _ (filled-places d (d.now (spot_of at)) bytes))
grows_or_shrinks d (MakeFolder at true) = inl (λ q v h. h)
grows_or_shrinks d (RemoveFolder at true) = inl (λ q v h. h)
grows_or_shrinks d (SyncFolder at true) = inr (within-synced d (spot_of at))
grows_or_shrinks d (SyncFile at true) = inr (within-same_places d _ (made_firm-places d (d.now (spot_of at))))
grows_or_shrinks d (Link from to false) = inl (within-same d)
grows_or_shrinks d (Unlink at false) = inl (within-same d)
grows_or_shrinks d (Rename from to false) = inl (within-same d)
grows_or_shrinks d (Create at false) = inl (within-same d)
grows_or_shrinks d (Fill at bytes false) = inl (within-same d)
grows_or_shrinks d (MakeFolder at false) = inl (within-same d)
grows_or_shrinks d (RemoveFolder at false) = inl (within-same d)
grows_or_shrinks d (SyncFolder at false) = inl (within-same d)
grows_or_shrinks d (SyncFile at false) = inl (within-same d)
