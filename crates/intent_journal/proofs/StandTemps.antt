-- A standing disk stands while a temp is written, and while the intent is taken away.
use Rattle.std.proofs.Common.{◌≡◌, ◌≢◌, sym, inl, inr, subst, List, ℕ, Result}
use Rattle.tree_fs.specs.declared.op.Op.TheVariants.{Unlink}
use Rattle.tree_fs.specs.declared.place.Place.{Place}
use Rattle.tree_fs.specs.declared.tree.TreeError.{TreeError}
use Rattle.tree_fs.specs.Spot.{Spot, spot_of}
use Rattle.tree_fs.specs.Disk.{Disk, none, MayHold, IsValid, put}
use Rattle.tree_fs.specs.Story.{Story, disk_of, Along}
use Rattle.tree_fs.specs.Calls.{AddsOne}
use Rattle.tree_fs.proofs.Fewer.{put-fewer}
use Rattle.tree_fs.proofs.Moments.{along_adds, along_trans, along_last, along_weaken, along_unchanged}
use Rattle.tree_fs.proofs.Spots.{same_or_other}
use Rattle.desk_model.specs.Places.{IsTemp, intent_spot}
use Rattle.desk_model.specs.Standing.{Standing}
use Rattle.desk_model.proofs.Kept.{standing-fewer}
use Rattle.desk_model.proofs.Spots.{intent-not_temp}
use Rattle.intent_journal.specs.declared.temp.Temp.{Temp}
use Rattle.intent_journal.specs.declared.temp.Temp.TheVariants as temp
use Rattle.intent_journal.specs.Temps.{temp_spot, place_spot, with_temp, Temped, IsWritten}
use Rattle.intent_journal.specs.Forms.{StandsWith}
use Rattle.intent_journal.proofs.TempPlaces.{is_temp}
use Rattle.intent_journal.proofs.Besides.{Off}
use Rattle.intent_journal.proofs.OffPlaces.{temps-harmless}
use Rattle.intent_journal.proofs.StandOff.{standing_off}

off_temped : (which : Temp) (a e : Disk) → Temped which a e → Off IsTemp a e
off_temped which a e t = record {
  folders = t.beside.folders;
  held = λ x v out h. elim (same_or_other x (place_spot which)) [
    | inl here ↦ subst (λ (y : Spot). MayHold a y v) (sym here) (t.place v (subst (λ (y : Spot). MayHold e y v) here h))
    | inr ne ↦ t.beside.held x v ne (other x out) h
  ];
  now = λ x out. elim (same_or_other x (place_spot which)) [
    | inl here ↦ subst (λ (y : Spot). e.now y ≡ a.now y) (sym here) t.still
    | inr ne ↦ t.beside.now x ne (other x out)
  ];
  files = t.beside.files;
}
  where
    other : (x : Spot) → ¬ IsTemp x → x ≢ temp_spot which
    other x out e = out (subst IsTemp (sym e) (is_temp which))

temped-standing : (which : Temp) (a e : Disk) → Standing a → Temped which a e → Standing e
temped-standing which a e standing t = standing_off IsTemp temps-harmless intent-not_temp a e standing (off_temped which a e t) t.beside.valid (t.beside.firm standing.firm)

pub temped_stands : (which : Temp) (s t : Story) → Standing (disk_of s) → Along (Temped which (disk_of s)) s t → Along Standing s t
temped_stands which s t standing a = along_weaken (Temped which (disk_of s)) Standing s t (λ e h. temped-standing which (disk_of s) e standing h) a

-- the temp is written, then it comes to the intent place
pub change_stands : (text : List ℕ) (s t u : Story) → Standing (disk_of s) → StandsWith text (disk_of s) → Along (Temped temp.Intent (disk_of s)) s t → IsWritten temp.Intent text (disk_of t) → (Standing (with_temp temp.Intent (disk_of t)) → Along Standing t u) → Along Standing s u
change_stands text s t u standing with_text a w then =
    along_trans Standing s t u (temped_stands temp.Intent s t standing a) (then (with_text (disk_of t) (along_last (Temped temp.Intent (disk_of s)) s t a) w))

-- the intent is taken away
before_gone : (d : Disk) → IsValid d → Standing (put d intent_spot none) → Standing d
before_gone d valid standing = standing-fewer d (put d intent_spot none) (put-fewer d intent_spot none) valid standing

pub remove_stands : {T : Type 0} (at : Place) (s t u : Story) (r : Result T TreeError) → IsValid (disk_of s) → spot_of at ≡ intent_spot → t ≡ s → AddsOne (Unlink at) t u r → Standing (put (disk_of s) intent_spot none) → Along Standing s u
remove_stands at s t u r valid is same adds standing =
    let d = disk_of s in
    let here = before_gone d valid standing in
    along_adds Standing (Unlink at) s u r (subst (λ q. AddsOne (Unlink at) q u r) same adds) here
    (subst (λ (x : Spot). Standing (put d x none)) (sym is) standing) here

pub left_stands : (s t : Story) → IsValid (disk_of s) → t ≡ s → Standing (put (disk_of s) intent_spot none) → Along Standing s t
left_stands s t valid same standing = along_unchanged Standing s t same (before_gone (disk_of s) valid standing)
