-- What the barrier leaves as it was.
use Rattle.std.proofs.Common.{◌≡◌, refl, sym, ap, ◌∙◌, inl, inr, subst}
use Rattle.std.specs.List.{Contains}
use Rattle.rel_paths.specs.declared.control.Control.TheVariants as control
use Rattle.tree_fs.specs.declared.place.Place.{Place}
use Rattle.tree_fs.specs.declared.place.Root.TheVariants.{Keep}
use Rattle.tree_fs.specs.declared.name.Kind.TheVariants.{Absent}
use Rattle.tree_fs.specs.Spot.{Spot, spot_of, root_spot}
use Rattle.tree_fs.specs.Disk.{Disk, Value, MayHold, kind_of}
use Rattle.tree_fs.specs.Frames.{EntriesSettled}
use Rattle.tree_fs.specs.Story.{Story, disk_of, Along}
use Rattle.tree_fs.proofs.KindOf.{same_kind}
use Rattle.tree_fs.proofs.Moments.{along_both, along_last, along_weaken}
use Rattle.move_plan.specs.declared.plan.Plan.{Plan}
use Rattle.move_plan.specs.Rules.{IsFree, PassesRules}
use Rattle.intent_json.specs.declared.intent.Intent.{Intent}
use Rattle.desk_model.specs.Desk.{SameDesk}
use Rattle.desk_model.specs.Mid.{Mid}
use Rattle.desk_model.specs.Outcome.{intent_by, outcome, outcome_now}
use Rattle.desk_model.specs.Places.{intent_spot, manifest_spot, IsControl, IsTemp}
use Rattle.desk_model.specs.Standing.{MayBe, OffAgrees, Invariant, Standing}
use Rattle.desk_model.proofs.Spots.{intent-not_temp, manifest-not_keep, temp-keep}
use Rattle.intent_journal.specs.declared.temp.Temp.{Temp}
use Rattle.intent_journal.specs.declared.temp.Temp.TheVariants as temp
use Rattle.intent_journal.specs.Forms.{CanChange}
use Rattle.intent_journal.specs.Sweeps.{Sweeps}
use Rattle.intent_journal.specs.Temps.{temp_spot, IsFileOrAbsent}
use Rattle.intent_journal.proofs.Besides.{Off}
use Rattle.intent_journal.proofs.OffPlaces.{temps-harmless}
use Rattle.intent_journal.proofs.StandOff.{outcome_off}
use Rattle.plan_exec.proofs.Rules.{free-not_temp, set_free, save_free}
use Rattle.recover_run.specs.Recovery.{IsSwept}

off_sweeps : (a e : Disk) → Sweeps a e → Off IsTemp a e
off_sweeps a e s = record {
  folders = s.files.folders;
  held = s.held;
  now = s.now;
  files = λ n lt f. (ap (λ g. g n) s.files.firm ∙ f, ap (λ g. g n) s.files.bytes);
}

-- recovery leads where it led
pub sweeps_outcome : (a e : Disk) → Standing a → Sweeps a e → SameDesk (outcome_now e) (outcome_now a)
sweeps_outcome a e standing s =
    subst (λ v. SameDesk (outcome e v) (outcome_now a)) (sym (s.now intent_spot intent-not_temp))
    (outcome_off IsTemp temps-harmless intent-not_temp a e standing (off_sweeps a e s) (a.now intent_spot) (inl refl))

-- a place that is no temp's is what it was
sweeps_kind : (a e : Disk) (x : Spot) → ¬ IsTemp x → Sweeps a e → kind_of e x ≡ kind_of a x
sweeps_kind a e x out s = same_kind e a x (ap (λ f. f x) s.files.folders) (s.now x out)

pub intent_kind : (a e : Disk) → Sweeps a e → kind_of e intent_spot ≡ kind_of a intent_spot
intent_kind a e s = sweeps_kind a e intent_spot intent-not_temp s

manifest-not_temp : ¬ IsTemp manifest_spot
manifest-not_temp is = manifest-not_keep (temp-keep manifest_spot is)

way_by : (a e : Disk) (x : Spot) → kind_of e x ≡ kind_of a x → IsFileOrAbsent a x → IsFileOrAbsent e x
way_by a e x same way = elim way [ inl there ↦ inl (same ∙ there) | inr gone ↦ inr (same ∙ gone) ]

pub manifest_way : (a e : Disk) → Sweeps a e → IsFileOrAbsent a manifest_spot → IsFileOrAbsent e manifest_spot
manifest_way a e s way = way_by a e manifest_spot (sweeps_kind a e manifest_spot manifest-not_temp s) way

pub can_change : (a e : Disk) → Sweeps a e → kind_of e (temp_spot temp.Intent) ≡ Absent → IsFileOrAbsent a intent_spot → CanChange e
can_change a e s gone way = record { temp = inr gone; place = way_by a e intent_spot (intent_kind a e s) way }

-- the intent place has no new value, and each is read as it was
sweeps_may : (a e : Disk) → Sweeps a e → (i : Intent) → MayBe e i → MayBe a i
sweeps_may a e s i may = (may.0, s.held intent_spot may.0 intent-not_temp may.1, ap (λ b. intent_by b may.0) (sym s.files.bytes) ∙ may.2)

sweeps_off : (a e : Disk) → Sweeps a e → OffAgrees a → OffAgrees e
sweeps_off a e s agrees clear other may may_other is = agrees clear other (sweeps_may a e s clear may) (sweeps_may a e s other may_other) is

-- what every step of a history keeps
pub sweeps_invariant : (s t : Story) → Invariant (disk_of s) → Along (Sweeps (disk_of s)) s t → Along Standing s t → Along Invariant s t
sweeps_invariant s t inv a stands =
    along_weaken (λ e. Sweeps (disk_of s) e × Standing e) Invariant s t
    (λ e h. record { standing = h.1; off = sweeps_off (disk_of s) e h.0 inv.off }) (along_both (Sweeps (disk_of s)) Standing s t a stands)

-- Mid goes on
module _ (plan : Plan) (passes : PassesRules plan) (a d e : Disk) (s : Sweeps d e) (mid : Mid a plan d) where
  free_held : (x : Spot) (v : Value) → IsFree x → MayHold e x v → MayHold d x v
  free_held x v free h = s.held x v (free-not_temp x free) h

  save_held : (m : Place × Place) → Contains plan.saves m → (v : Value) → MayHold e (spot_of m.1) v → MayHold d (spot_of m.1) v
  save_held m listed v h = free_held (spot_of m.1) v (save_free plan passes (spot_of m.1) (record { save = m; listed = listed; here = refl })) h

  no_temp : (x : Spot) → ¬ IsControl x → ¬ IsTemp x
  no_temp x out is = elim is [
    | inl e ↦ out (control.IntentTemp, e)
    | inr rest ↦ elim rest [ inl e ↦ out (control.ManifestTemp, e) | inr e ↦ out (control.ProfileTemp, e) ]
  ]

  pub sweeps_mid : Mid a plan e
  sweeps_mid = record {
    saves = λ m v listed h. mid.saves m v listed (save_held m listed v h);
    sets = λ row v listed h. mid.sets row v listed (free_held (spot_of row.to) v (set_free plan passes (spot_of row.to) (record { row = row; listed = listed; here = refl })) h);
    steps = elim mid.steps [
      | inl wait ↦ inl (λ x is w h. wait x is w (free_held x w (set_free plan passes x is) h))
      | inr made ↦ inr (λ m listed w h. made m listed w (save_held m listed w h))
    ];
    rest = λ x is out no_control w h. mid.rest x is out no_control w (s.held x w (no_temp x no_control) h);
    folders_stay = λ x is there. ap (λ f. f x) s.files.folders ∙ mid.folders_stay x is there;
    folders_made = λ x is there. mid.folders_made x is (sym (ap (λ f. f x) s.files.folders) ∙ there);
    bytes = λ x n is has. let had = mid.bytes x n is has in (ap (λ f. f n) s.files.firm ∙ had.0, ap (λ f. f n) s.files.bytes ∙ had.1);
  }

pub sweeps_mids : (plan : Plan) → PassesRules plan → (a : Disk) (s t : Story) → Mid a plan (disk_of s) → Along (Sweeps (disk_of s)) s t → Along (Mid a plan) s t
sweeps_mids plan passes a s t mid b = along_weaken (Sweeps (disk_of s)) (Mid a plan) s t (λ e h. sweeps_mid plan passes a (disk_of s) e h mid) b

-- behind the barrier
pub is_swept : (s t : Story) → Along Standing s t → ((which : Temp) → kind_of (disk_of t) (temp_spot which) ≡ Absent) → EntriesSettled (disk_of t) (root_spot Keep) → IsSwept (disk_of t)
is_swept s t stands gone settled = record { standing = along_last Standing s t stands; keep = settled; no_temps = gone }
