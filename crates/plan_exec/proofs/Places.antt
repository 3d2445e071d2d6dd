-- What happens at one place.
use Rattle.std.proofs.Common.{◌≡◌, ◌≢◌, Bool, true, false, sym, ap, ◌∙◌, inr, subst, arith, Result, OnOk}
use Rattle.std.specs.Prelude.{MatchBool}
use Rattle.std.specs.declared.result.Result.TheVariants.{Ok, Err}
use Rattle.tree_fs.specs.declared.name.Kind.TheVariants.{File, Absent, Folder}
use Rattle.tree_fs.specs.declared.op.Op.{Op}
use Rattle.tree_fs.specs.declared.op.Op.TheVariants.{Link, Unlink}
use Rattle.tree_fs.specs.declared.place.Place.{Place}
use Rattle.tree_fs.specs.declared.tree.TreeError.{TreeError}
use Rattle.tree_fs.specs.Spot.{Spot, spot_of, parent}
use Rattle.tree_fs.specs.Disk.{Disk, Value, none, IsFile, IsValid, after, kind_of}
use Rattle.tree_fs.specs.Story.{Story, disk_of, Along}
use Rattle.tree_fs.specs.Calls.{AddsOne, CanLink}
use Rattle.tree_fs.specs.Frames.{Touches}
use Rattle.tree_fs.proofs.Disks.{now-put_at}
use Rattle.tree_fs.proofs.KindOf.{kind-file, kind-absent, kind-folder}
use Rattle.tree_fs.proofs.Moments.{along_adds}
use Rattle.tree_fs.proofs.Stories.{disk_of-ok}
use Rattle.tree_fs.proofs.Frames.{touches_same, touches_put, touches_none, takes_file, along_unlink, along_link}
use Rattle.desk_model.specs.Desk.{file_or_none}
use Rattle.plan_exec.specs.Counts.{Runs}
use Rattle.intent_journal.proofs.Counting.{syncs_adds}
use Rattle.plan_exec.proofs.Runs.{runs_unchanged, runs_trans, runs_weaken, runs_last}

-- the call that takes a name away
pub room_stops : {T : Type 0} (at : Place) (s t : Story) (r : Result T TreeError) → IsValid (disk_of s) → kind_of (disk_of s) (spot_of at) ≡ File → AddsOne (Unlink at) s t r → Runs 0 (Touches (spot_of at) none (disk_of s)) s t
room_stops at s t r valid is adds = record {
  along = along_unlink at s t r valid (kind-file (disk_of s) (spot_of at) is).1 adds;
  syncs = syncs_adds 0 (Unlink at) s t r (λ done. omega arith) adds;
}

pub on_ok : {T : Type 0} (op : Bool → Op) (s t : Story) (r : Result T TreeError) (Q : Disk → Type 0) → AddsOne op s t r → Q (after (disk_of s) (op true)) → OnOk r (Q (disk_of t))
on_ok op s t (Ok a) Q adds h = subst Q (sym (disk_of-ok op s t a adds)) h
on_ok op s t (Err e) Q adds h = tt

pub room_done : {T : Type 0} (at : Place) (s t : Story) (r : Result T TreeError) → AddsOne (Unlink at) s t r → OnOk r ((disk_of t).now (spot_of at) ≡ none)
room_done at s t r adds = on_ok (Unlink at) s t r (λ d. d.now (spot_of at) ≡ none) adds (now-put_at (disk_of s) (spot_of at) none)

pub source_value : (d : Disk) (from : Spot) → IsFile d from → d.now from ≡ file_or_none (d.now from)
source_value d from is = is.1 ∙ ap file_or_none (sym is.1)

-- a name is taken away and given anew
module _ (from to : Place) (s t : Story) (apart : spot_of from ≢ spot_of to) (source : IsFile (disk_of s) (spot_of from)) (folder : (disk_of s).folders (parent (spot_of to)) ≡ true) (no_folder : (disk_of s).folders (spot_of to) ≡ false) where
  pub can_relink : (d : Disk) → Touches (spot_of to) none (disk_of s) d → d.now (spot_of to) ≡ none → CanLink d (spot_of from) (spot_of to)
  can_relink d h gone = record {
    source = (source.0, h.now (spot_of from) apart ∙ source.1);
    absent = gone;
    no_folder = ap (λ f. f (spot_of to)) h.files.folders ∙ no_folder;
    in_folder = ap (λ f. f (parent (spot_of to))) h.files.folders ∙ folder;
  }

  pub relink_stops : {T : Type 0} (u : Story) (r : Result T TreeError) → Runs 0 (Touches (spot_of to) none (disk_of s)) s t → (disk_of t).now (spot_of to) ≡ none → AddsOne (Link from to) t u r
      → Runs 0 (Touches (spot_of to) (file_or_none ((disk_of s).now (spot_of from))) (disk_of s)) s u
  relink_stops u r room gone adds =
      let P = Touches (spot_of to) (file_or_none ((disk_of s).now (spot_of from))) (disk_of s) in
      let so_far = runs_weaken 0 (Touches (spot_of to) none (disk_of s)) P s t (λ e h. touches_none (spot_of to) _ (disk_of s) e h) room in
      let last = runs_last 0 (Touches (spot_of to) none (disk_of s)) s t room in
      let here = runs_last 0 P s t so_far in
      runs_trans 0 0 P s t u so_far (record {
        along = along_adds P (Link from to) t u r adds here
            (touches_put (spot_of to) _ (disk_of s) (disk_of t) ((disk_of t).now (spot_of from)) here (inr (last.now (spot_of from) apart ∙ source_value (disk_of s) (spot_of from) source)) (takes_file (disk_of t) (spot_of from) (spot_of to) last.valid (can_relink (disk_of t) last gone)))
            here;
        syncs = syncs_adds 0 (Link from to) t u r (λ done. omega arith) adds;
      })

  pub relink_done : {T : Type 0} (u : Story) (r : Result T TreeError) → Runs 0 (Touches (spot_of to) none (disk_of s)) s t → AddsOne (Link from to) t u r → OnOk r ((disk_of u).now (spot_of to) ≡ file_or_none ((disk_of s).now (spot_of from)))
  relink_done u r room adds =
      let last = runs_last 0 (Touches (spot_of to) none (disk_of s)) s t room in
      on_ok (Link from to) t u r (λ d. d.now (spot_of to) ≡ file_or_none ((disk_of s).now (spot_of from))) adds
      (now-put_at (disk_of t) (spot_of to) ((disk_of t).now (spot_of from)) ∙ last.now (spot_of from) apart ∙ source_value (disk_of s) (spot_of from) source)

pub open_no_folder : (d : Disk) (at : Spot) (there : Bool) → MatchBool there (kind_of d at ≡ File) (kind_of d at ≡ Absent) → d.folders at ≡ false
open_no_folder d at true is = (kind-file d at is).0
open_no_folder d at false is = (kind-absent d at is).0

pub nothing_yet : (at : Spot) (w : Value) (s t : Story) → IsValid (disk_of s) → t ≡ s → Runs 0 (Touches at w (disk_of s)) s t
nothing_yet at w s t valid is = runs_unchanged (Touches at w (disk_of s)) s t is (touches_same at w (disk_of s) valid)

pub told_file : (d : Disk) (at : Spot) (there : Bool) → there ≡ true → MatchBool there (kind_of d at ≡ File) (kind_of d at ≡ Absent) → kind_of d at ≡ File
told_file d at true e is = is
told_file d at false e is = absurd (cc)

pub told_absent : (d : Disk) (at : Spot) (there : Bool) → there ≡ false → MatchBool there (kind_of d at ≡ File) (kind_of d at ≡ Absent) → kind_of d at ≡ Absent
told_absent d at true e is = absurd (cc)
told_absent d at false e is = is

-- the link of a save
module _ (from to : Spot) (d : Disk) (source : kind_of d from ≡ File) (place : kind_of d to ≡ Absent) (folder : kind_of d (parent to) ≡ Folder) where
  pub can_save : CanLink d from to
  can_save = record {
    source = (kind-file d from source).1;
    absent = (kind-absent d to place).1;
    no_folder = (kind-absent d to place).0;
    in_folder = kind-folder d (parent to) folder;
  }

pub save_stops : {T : Type 0} (from to : Place) (s t : Story) (r : Result T TreeError) → IsValid (disk_of s) → CanLink (disk_of s) (spot_of from) (spot_of to) → AddsOne (Link from to) s t r
    → Runs 0 (Touches (spot_of to) (file_or_none ((disk_of s).now (spot_of from))) (disk_of s)) s t
save_stops from to s t r valid can adds = record {
  along = subst (λ w. Along (Touches (spot_of to) w (disk_of s)) s t) (source_value (disk_of s) (spot_of from) can.source) (along_link from to s t r valid can adds);
  syncs = syncs_adds 0 (Link from to) s t r (λ done. omega arith) adds;
}

pub save_done : {T : Type 0} (from to : Place) (s t : Story) (r : Result T TreeError) → CanLink (disk_of s) (spot_of from) (spot_of to) → AddsOne (Link from to) s t r → OnOk r (IsFile (disk_of t) (spot_of to))
save_done from to s t r can adds = on_ok (Link from to) s t r (λ d. IsFile d (spot_of to)) adds
    (can.source.0, now-put_at (disk_of s) (spot_of to) ((disk_of s).now (spot_of from)) ∙ can.source.1)

-- the same after looks
pub told_stops : {T : Type 0} (from to : Place) (s t u : Story) (r : Result T TreeError) → IsValid (disk_of s) → CanLink (disk_of s) (spot_of from) (spot_of to) → t ≡ s → AddsOne (Link from to) t u r
    → Runs 0 (Touches (spot_of to) (file_or_none ((disk_of s).now (spot_of from))) (disk_of s)) s u
told_stops from to s t u r valid can is adds = save_stops from to s u r valid can (subst (λ q. AddsOne (Link from to) q u r) is adds)

pub told_done : {T : Type 0} (from to : Place) (s t u : Story) (r : Result T TreeError) → CanLink (disk_of s) (spot_of from) (spot_of to) → t ≡ s → AddsOne (Link from to) t u r → OnOk r (IsFile (disk_of u) (spot_of to))
told_done from to s t u r can is adds = save_done from to s u r can (subst (λ q. AddsOne (Link from to) q u r) is adds)
