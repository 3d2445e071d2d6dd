-- Syncs of folders.
use Rattle.std.proofs.Common.{[], ◌≡◌, ◌≢◌, ℕ, ◌+◌, ◌<◌, Bool, true, false, List, length, get_or, take, refl, sym, ap, ◌∙◌, inl, inr, subst, arith, Result, OnOk}
use Rattle.std.specs.List.{Contains}
use Rattle.tree_fs.specs.declared.op.Op.TheVariants.{SyncFolder}
use Rattle.tree_fs.specs.declared.place.Place.{Place}
use Rattle.tree_fs.specs.declared.tree.TreeError.{TreeError}
use Rattle.tree_fs.specs.Spot.{Spot, spot_of, parent}
use Rattle.tree_fs.specs.Disk.{Disk, Value, none, file, odd, MayHold, HoldsOnly, IsValid}
use Rattle.tree_fs.specs.Story.{Story, disk_of, Along}
use Rattle.tree_fs.specs.Calls.{AddsOne, IsFolder}
use Rattle.tree_fs.specs.Frames.{Syncs, EntriesSettled}
use Rattle.tree_fs.proofs.Moments.{along_last}
use Rattle.tree_fs.proofs.Frames.{along_sync, along_syncs, syncs_same, synced-settled, settled-syncs}
use Rattle.list_laws.proofs.Containing.{in_next}
use Rattle.move_plan.specs.Places.{Has}
use Rattle.plan_exec.specs.Counts.{Runs}
use Rattle.plan_exec.proofs.Places.{on_ok}
use Rattle.plan_exec.proofs.Rules.{own_entry}
use Rattle.intent_journal.proofs.Counting.{syncs_adds, syncs_trans}
use Rattle.plan_exec.proofs.Runs.{runs_more, runs_unchanged}

pub no_sync : (s t : Story) → IsValid (disk_of s) → t ≡ s → Runs 1 (Syncs (disk_of s)) s t
no_sync s t valid is = runs_more 0 1 (Syncs (disk_of s)) s t (omega arith) (runs_unchanged (Syncs (disk_of s)) s t is (syncs_same (disk_of s) valid))

pub sync_stops : {T : Type 0} (at : Place) (s t u : Story) (r : Result T TreeError) → IsValid (disk_of s) → t ≡ s → AddsOne (SyncFolder at) t u r → Runs 1 (Syncs (disk_of s)) s u
sync_stops at s t u r valid is adds =
    let here = subst (λ q. AddsOne (SyncFolder at) q u r) is adds in
    record { along = along_sync at s u r valid here; syncs = syncs_adds 1 (SyncFolder at) s u r (λ done. omega arith) here }

pub sync_done : {T : Type 0} (at : Place) (t u : Story) (r : Result T TreeError) (P : Type 0) → AddsOne (SyncFolder at) t u r → OnOk r (P → EntriesSettled (disk_of u) (spot_of at))
sync_done at t u r P adds = on_ok (SyncFolder at) t u r (λ d. P → EntriesSettled d (spot_of at)) adds (λ _. synced-settled (disk_of t) (spot_of at))

-- one sync more
pub syncs_next : (n : ℕ) (s t u : Story) → Runs n (Syncs (disk_of s)) s t → Runs 1 (Syncs (disk_of t)) t u → Runs (n + 1) (Syncs (disk_of s)) s u
syncs_next n s t u a b = record { along = along_syncs s t u a.along b.along; syncs = syncs_trans n 1 s t u a.syncs b.syncs }

-- one folder more
pub synced_next : (folders : List Place) (i : ℕ) (this : Place) (s t u : Story) → i < length folders → this ≡ get_or folders i this
    → Along (Syncs (disk_of s)) s t → Along (Syncs (disk_of t)) t u
    → ((p : Place) → Contains (take i folders) p → IsFolder (disk_of s) (spot_of p) → EntriesSettled (disk_of t) (spot_of p))
    → (IsFolder (disk_of t) (spot_of this) → EntriesSettled (disk_of u) (spot_of this))
    → (p : Place) → Contains (take (i + 1) folders) p → IsFolder (disk_of s) (spot_of p) → EntriesSettled (disk_of u) (spot_of p)
synced_next folders i this s t u lt is a b done now p c folder = elim (in_next folders i this p lt is c) [
  | inl earlier ↦ λ x e. settled-syncs (disk_of t) (disk_of u) x (along_last (Syncs (disk_of t)) t u b) (done p earlier folder x e)
  | inr same ↦ subst (λ q. EntriesSettled (disk_of u) (spot_of q)) (sym same)
      (now (ap (λ f. f (spot_of this)) (along_last (Syncs (disk_of s)) s t a).files.folders ∙ subst (λ q. IsFolder (disk_of s) (spot_of q)) same folder))
]

-- after the syncs a place has its value alone; where there is no folder there was nothing
pub only_synced : (d e : Disk) (x : Spot) → IsValid d → Syncs d e → x.names ≢ [] → (IsFolder d (parent x) → EntriesSettled e (parent x)) → HoldsOnly e x (d.now x)
only_synced d e x valid syncs not_root settled w h = by_folder (d.folders (parent x)) refl
  where
    nothing : d.folders (parent x) ≡ false → (v : Value) → MayHold d x v → v ≡ none
    nothing gone none held = refl
    nothing gone (file n) held = let t : true ≡ false = sym (valid.parents x (file n) held (λ e. cc)) ∙ gone in absurd (cc)
    nothing gone odd held = let t : true ≡ false = sym (valid.parents x odd held (λ e. cc)) ∙ gone in absurd (cc)

    by_folder : (f : Bool) → d.folders (parent x) ≡ f → w ≡ d.now x
    by_folder true is = settled is x (own_entry x not_root) w h ∙ syncs.now x
    by_folder false is = nothing is w (syncs.held x w h) ∙ sym (nothing is (d.now x) (inl refl))

-- a listed folder
pub listed_settled : (d e : Disk) (folders : List Place)
    → ((p : Place) → Contains folders p → IsFolder d (spot_of p) → EntriesSettled e (spot_of p))
    → (x : Spot) → Has folders x → IsFolder d x → EntriesSettled e x
listed_settled d e folders settled x has folder =
    subst (EntriesSettled e) has.here (settled has.place has.listed (subst (IsFolder d) (sym has.here) folder))
