-- Steps that leave files, folders and most places as they were.
use Rattle.std.proofs.Common.{◌≡◌, ◌⊎◌, refl, sym, ◌∙◌, inl, inr}
use Rattle.std.specs.declared.result.Result.{Result}
use Rattle.tree_fs.specs.declared.op.Op.TheVariants.{Link, Unlink, SyncFolder}
use Rattle.tree_fs.specs.declared.place.Place.{Place}
use Rattle.tree_fs.specs.declared.tree.TreeError.{TreeError}
use Rattle.tree_fs.specs.Spot.{Spot, spot_of}
use Rattle.tree_fs.specs.Disk.{Disk, Value, none, IsSettled, HoldsOnly, IsFile, IsValid, put, synced}
use Rattle.tree_fs.specs.Story.{Story, disk_of, Along}
use Rattle.tree_fs.specs.Calls.{AddsOne, CanLink}
use Rattle.tree_fs.specs.Frames.{SameFiles, Touches, Syncs, EntriesSettled}
use Rattle.tree_fs.proofs.Disks.{TakesValue, MayHold-put_at, MayHold-put_other, MayHold-synced, MayHold-synced_in, now-put_other, valid-put, valid-synced, file-number, file-no_folder}
use Rattle.tree_fs.proofs.Moments.{along_adds, along_trans, along_last, along_weaken, along_unchanged}
use Rattle.tree_fs.proofs.Ops.{same_files}

-- Files

pub same_files-trans : (a d e : Disk) → SameFiles a d → SameFiles d e → SameFiles a e
same_files-trans a d e h k = record { folders = k.folders ∙ h.folders; bytes = k.bytes ∙ h.bytes; firm = k.firm ∙ h.firm; fresh = k.fresh ∙ h.fresh }

-- two disks with the files of a third one
pub same_files-between : (a d e : Disk) → SameFiles a d → SameFiles a e → SameFiles d e
same_files-between a d e h k = record { folders = k.folders ∙ sym h.folders; bytes = k.bytes ∙ sym h.bytes; firm = k.firm ∙ sym h.firm; fresh = k.fresh ∙ sym h.fresh }

pub same_files-put : (d : Disk) (at : Spot) (v : Value) → SameFiles d (put d at v)
same_files-put d at v = record { folders = refl; bytes = refl; firm = refl; fresh = refl }

pub same_files-synced : (d : Disk) (folder : Spot) → SameFiles d (synced d folder)
same_files-synced d folder = record { folders = refl; bytes = refl; firm = refl; fresh = refl }

-- One place

pub takes_none : (d : Disk) (at : Spot) → IsValid d → IsFile d at → TakesValue d at none
takes_none d at valid is = record { no_folder = file-no_folder d at valid is; in_folder = λ ne. absurd (ne refl); number = λ n e. absurd (cc) }

pub takes_file : (d : Disk) (from to : Spot) → IsValid d → CanLink d from to → TakesValue d to (d.now from)
takes_file d from to valid can = record { no_folder = can.no_folder; in_folder = λ ne. can.in_folder; number = λ n e. file-number d from n valid e }

pub touches_same : (at : Spot) (w : Value) (d : Disk) → IsValid d → Touches at w d d
touches_same at w d valid = record { valid = valid; files = same_files d; own = λ v h. inl h; others = λ x v ne h. h; now = λ x ne. refl }

-- a new value there
pub touches_put : (at : Spot) (w : Value) (a d : Disk) (v : Value) → Touches at w a d → (v ≡ none) ⊎ (v ≡ w) → TakesValue d at v → Touches at w a (put d at v)
touches_put at w a d v t is can = record {
  valid = valid-put d at v t.valid can;
  files = same_files-trans a d (put d at v) t.files (same_files-put d at v);
  own = λ u h. elim (MayHold-put_at d at v u h) [
    | inl new ↦ inr (elim is [ inl gone ↦ inl (new ∙ gone) | inr got ↦ inr (new ∙ got) ])
    | inr old ↦ t.own u old
  ];
  others = λ x u ne h. t.others x u ne (MayHold-put_other d at x v u ne h);
  now = λ x ne. now-put_other d at v x ne ∙ t.now x ne;
}

-- what got none only may as well have got a file
pub touches_none : (at : Spot) (w : Value) (a e : Disk) → Touches at none a e → Touches at w a e
touches_none at w a e t = record {
  valid = t.valid;
  files = t.files;
  own = λ v h. elim (t.own v h) [ inl old ↦ inl old | inr new ↦ inr (inl (elim new [ inl n ↦ n | inr n ↦ n ])) ];
  others = t.others;
  now = t.now;
}

-- a call that takes a file's name away
pub along_unlink : {T : Type 0} (at : Place) (s t : Story) (result : Result T TreeError) → IsValid (disk_of s) → IsFile (disk_of s) (spot_of at) → AddsOne (Unlink at) s t result → Along (Touches (spot_of at) none (disk_of s)) s t
along_unlink at s t result valid is adds =
    let d = disk_of s in
    let here = touches_same (spot_of at) none d valid in
    along_adds (Touches (spot_of at) none d) (Unlink at) s t result adds here
    (touches_put (spot_of at) none d d none here (inl refl) (takes_none d (spot_of at) valid is)) here

-- a call that gives a file a second name
pub along_link : {T : Type 0} (from to : Place) (s t : Story) (result : Result T TreeError) → IsValid (disk_of s) → CanLink (disk_of s) (spot_of from) (spot_of to) → AddsOne (Link from to) s t result
    → Along (Touches (spot_of to) ((disk_of s).now (spot_of from)) (disk_of s)) s t
along_link from to s t result valid can adds =
    let d = disk_of s in
    let w = d.now (spot_of from) in
    let here = touches_same (spot_of to) w d valid in
    along_adds (Touches (spot_of to) w d) (Link from to) s t result adds here
    (touches_put (spot_of to) w d d w here (inr refl) (takes_file d (spot_of from) (spot_of to) valid can)) here

-- Syncs

pub syncs_same : (d : Disk) → IsValid d → Syncs d d
syncs_same d valid = record { valid = valid; files = same_files d; held = λ x v h. h; now = λ x. refl }

pub syncs_trans : (a d e : Disk) → Syncs a d → Syncs d e → Syncs a e
syncs_trans a d e h k = record {
  valid = k.valid;
  files = same_files-trans a d e h.files k.files;
  held = λ x v held. h.held x v (k.held x v held);
  now = λ x. k.now x ∙ h.now x;
}

pub syncs_one : (d : Disk) (folder : Spot) → IsValid d → Syncs d (synced d folder)
syncs_one d folder valid = record {
  valid = valid-synced d folder valid;
  files = same_files-synced d folder;
  held = λ x v h. MayHold-synced d folder x v h;
  now = λ x. refl;
}

pub synced-settled : (d : Disk) (folder : Spot) → EntriesSettled (synced d folder) folder
synced-settled d folder x entry v h = MayHold-synced_in d folder x v entry h

-- what is settled stays so
pub settled-syncs : (d e : Disk) (x : Spot) → Syncs d e → IsSettled d x → IsSettled e x
settled-syncs d e x h one v held = one v (h.held x v held) ∙ sym (h.now x)

pub only-syncs : (d e : Disk) (x : Spot) (v : Value) → Syncs d e → HoldsOnly d x v → HoldsOnly e x v
only-syncs d e x v h only w held = only w (h.held x w held)

-- a call that syncs a folder
pub along_sync : {T : Type 0} (at : Place) (s t : Story) (result : Result T TreeError) → IsValid (disk_of s) → AddsOne (SyncFolder at) s t result → Along (Syncs (disk_of s)) s t
along_sync at s t result valid adds =
    let here = syncs_same (disk_of s) valid in
    along_adds (Syncs (disk_of s)) (SyncFolder at) s t result adds here (syncs_one (disk_of s) (spot_of at) valid) here

pub along_syncs : (s t u : Story) → Along (Syncs (disk_of s)) s t → Along (Syncs (disk_of t)) t u → Along (Syncs (disk_of s)) s u
along_syncs s t u a b =
    let last = along_last (Syncs (disk_of s)) s t a in
    along_trans (Syncs (disk_of s)) s t u a (along_weaken (Syncs (disk_of t)) (Syncs (disk_of s)) t u (λ e h. syncs_trans (disk_of s) (disk_of t) e last h) b)

pub along_no_sync : (s t : Story) → IsValid (disk_of s) → t ≡ s → Along (Syncs (disk_of s)) s t
along_no_sync s t valid is = along_unchanged (Syncs (disk_of s)) s t is (syncs_same (disk_of s) valid)
