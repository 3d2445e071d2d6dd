-- A new file and its bytes, as one change.
use Rattle.std.proofs.Common.{◌≡◌, ◌≢◌, ◌⊎◌, ℕ, ◌+◌, ◌<◌, true, false, List, refl, sym, ◌∙◌, subst, arith}
use Rattle.tree_fs.specs.declared.op.Op.TheVariants.{Create, Fill}
use Rattle.tree_fs.specs.declared.place.Place.{Place}
use Rattle.tree_fs.specs.Spot.{Spot, spot_of}
use Rattle.tree_fs.specs.Disk.{Disk, Value, file, MayHold, IsValid, after}
use Rattle.tree_fs.specs.Story.{Story, disk_of}
use Rattle.tree_fs.specs.Calls.{CanPut, AddsNew}
use Rattle.std.specs.declared.result.Result.TheVariants.{Ok}
use Rattle.tree_fs.proofs.Ops.{now-created, now-created_other, MayHold-created, bytes-created_other, firm-created_other, valid-created}
use Rattle.tree_fs.proofs.Files.{filled-file, bytes-filled, bytes-filled_other, firm-filled, firm-filled_other, valid-filled}
use Rattle.tree_fs.proofs.Stories.{disk_of-new}

-- a file with the next number and these bytes has come to the place, and nothing else has changed
pub record IsNewFile (d e : Disk) (at : Spot) (given : List ℕ) : Type 0 where
  pub now : e.now at ≡ file d.fresh
  pub others : (q : Spot) → q ≢ at → e.now q ≡ d.now q
  -- what a place may hold is what it might before, or the new file at its place
  pub held : (q : Spot) (v : Value) → MayHold e q v → ((q ≡ at) × (v ≡ file d.fresh)) ⊎ MayHold d q v
  pub folders : e.folders ≡ d.folders
  pub bytes : e.bytes d.fresh ≡ given
  pub other_bytes : (n : ℕ) → n < d.fresh → e.bytes n ≡ d.bytes n
  pub soft : e.firm d.fresh ≡ false
  pub other_firm : (n : ℕ) → n < d.fresh → e.firm n ≡ d.firm n
  pub fresh : e.fresh ≡ d.fresh + 1

pub new_file : (d : Disk) (at : Place) (bytes : List ℕ) → IsNewFile d (after (after d (Create at true)) (Fill at bytes true)) (spot_of at) bytes
new_file d at bytes =
    let c = after d (Create at true) in
    let is = filled-file c at bytes d.fresh (now-created d at) in
    let apart : (n : ℕ) → n < d.fresh → n ≢ d.fresh = λ n lt e. omega arith in
    subst (λ (e : Disk). IsNewFile d e (spot_of at) bytes) (sym is) (record {
      now = now-created d at;
      others = λ q ne. now-created_other d at q ne;
      held = λ q v h. MayHold-created d at q v h;
      folders = refl;
      bytes = bytes-filled c d.fresh bytes;
      other_bytes = λ n lt. bytes-filled_other c d.fresh n bytes (apart n lt) ∙ bytes-created_other d at n lt;
      soft = firm-filled c d.fresh bytes;
      other_firm = λ n lt. firm-filled_other c d.fresh n bytes (apart n lt) ∙ firm-created_other d at n lt;
      fresh = refl;
    })

pub valid-new_file : (d : Disk) (at : Place) (bytes : List ℕ) → IsValid d → CanPut d (spot_of at) → IsValid (after (after d (Create at true)) (Fill at bytes true))
valid-new_file d at bytes valid can = valid-filled (after d (Create at true)) at bytes true (valid-created d at true valid can)

-- after a call that made the file and answered Ok
pub new_file-ok : {T : Type 0} (at : Place) (bytes : List ℕ) (old new : Story) (answer : T) → AddsNew at bytes old new (Ok answer) → IsNewFile (disk_of old) (disk_of new) (spot_of at) bytes
new_file-ok at bytes old new answer adds = subst (λ (e : Disk). IsNewFile (disk_of old) e (spot_of at) bytes) (sym (disk_of-new at bytes old new answer adds)) (new_file (disk_of old) at bytes)
