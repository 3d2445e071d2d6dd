-- What the sweep leaves.
use Rattle.std.proofs.Common.{◌≡◌, Bool, true, false, refl, sym, ap, ◌∙◌, inl, inr}
use Rattle.rel_paths.specs.declared.control.Control.{Control}
use Rattle.rel_paths.specs.declared.control.Control.TheVariants as control
use Rattle.tree_fs.specs.declared.name.Kind.TheVariants.{Absent}
use Rattle.tree_fs.specs.declared.place.Root.TheVariants.{Keep}
use Rattle.tree_fs.specs.Spot.{Spot, root_spot, is_entry}
use Rattle.tree_fs.specs.Texts.{control_spot}
use Rattle.tree_fs.specs.Disk.{Disk, IsSettled, kind_of}
use Rattle.tree_fs.specs.Frames.{EntriesSettled}
use Rattle.tree_fs.proofs.KindOf.{kind-absent, same_kind}
use Rattle.desk_model.specs.Places.{intent_spot, manifest_spot, IsTemp}
use Rattle.desk_model.specs.Outcome.{intent_by}
use Rattle.desk_model.specs.History.{KeepsPlain}
use Rattle.desk_model.specs.Standing.{NoneStands, MayBe, OffAgrees, Standing, Invariant}
use Rattle.desk_model.proofs.Carried.{image-plain}
use Rattle.desk_model.proofs.Spots.{intent-not_temp, profile-not_temp, temp-keep, manifest-not_keep}
use Rattle.intent_json.specs.declared.intent.Intent.{Intent}
use Rattle.intent_journal.specs.declared.temp.Temp.TheVariants as temp
use Rattle.intent_journal.specs.Temps.{IsFileOrAbsent}
use Rattle.intent_journal.specs.Sweeps.{Sweeps, LeadsLikeAStop}
use Rattle.plan_exec.specs.Ending.{NoTemps}
use Rattle.plan_exec.proofs.Controls.{way_still}
use Rattle.plan_run.specs.Quiet.{IsQuiet}
use Rattle.plan_run.proofs.Plains.{still_image, still-image}

-- what is no temp stands as it stood
module _ (a e : Disk) (sweeps : Sweeps a e) where
  pub kind_kept : (x : Spot) → ¬ IsTemp x → kind_of e x ≡ kind_of a x
  kind_kept x out = same_kind e a x (ap (λ f. f x) sweeps.files.folders) (sweeps.now x out)

  swept_way : (which : Control) → ¬ IsTemp (control_spot which) → IsFileOrAbsent a (control_spot which) → IsFileOrAbsent e (control_spot which)
  swept_way which out way = way_still which a e (kind_kept (control_spot which) out) way

  pub swept_open : NoTemps e → (which : Control) → IsFileOrAbsent a (control_spot which) → IsFileOrAbsent e (control_spot which)
  swept_open gone control.Intent way = swept_way control.Intent intent-not_temp way
  swept_open gone control.IntentTemp way = inr (gone temp.Intent)
  swept_open gone control.ManifestTemp way = inr (gone temp.Manifest)
  swept_open gone control.ProfileTemp way = inr (gone temp.Profile)
  swept_open gone control.Profile way = swept_way control.Profile profile-not_temp way
  swept_open gone control.Manifest way = swept_way control.Manifest (λ is. manifest-not_keep (temp-keep manifest_spot is)) way

-- every place is settled: those outside of `keep` by Standing, its entries by the sync
settled_by : (e : Disk) → NoneStands e → EntriesSettled e (root_spot Keep) → (x : Spot) (b : Bool) → is_entry (root_spot Keep) x ≡ b → IsSettled e x
settled_by e stands keep x true is = keep x is
settled_by e stands keep x false is = stands x (λ entry. let t : false ≡ true = sym is ∙ entry in cc)

pub swept_quiet : (a e : Disk) → kind_of a intent_spot ≡ Absent → Sweeps a e → Standing e → NoTemps e → EntriesSettled e (root_spot Keep) → IsQuiet e
swept_quiet a e absent sweeps standing gone keep =
    let no_intent = kind_kept a e sweeps intent_spot intent-not_temp ∙ absent in
    let stands = standing.absent (inl (sym (kind-absent e intent_spot no_intent).1)) in
    record {
      standing = standing;
      settled = λ x. settled_by e stands keep x (is_entry (root_spot Keep) x) refl;
      no_intent = no_intent;
      no_temps = gone;
    }

-- each intent that may be there might have been there before
may_before : (a e : Disk) → Sweeps a e → (intent : Intent) → MayBe e intent → MayBe a intent
may_before a e sweeps intent may = (
  may.0,
  sweeps.held intent_spot may.0 intent-not_temp may.1,
  ap (λ bytes. intent_by bytes may.0) (sym sweeps.files.bytes) ∙ may.2,
)

swept_agree : (a e : Disk) → Sweeps a e → OffAgrees a → OffAgrees e
swept_agree a e sweeps agree clear other may may_other is s has = agree clear other (may_before a e sweeps clear may) (may_before a e sweeps other may_other) is s has

pub sweeps_keep : (a e : Disk) → Invariant a → Sweeps a e → Standing e → LeadsLikeAStop a e → KeepsPlain a e
sweeps_keep a e invariant sweeps standing leads =
    let image = still-image e standing.valid in
    let like = leads (still_image e) image in
    record {
      invariant = record { standing = standing; off = swept_agree a e sweeps invariant.off };
      plain = sym (image-plain e (still_image e) standing image) ∙ like.2.plain ∙ image-plain a like.0 invariant.standing like.1;
    }
