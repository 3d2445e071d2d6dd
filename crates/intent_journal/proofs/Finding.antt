-- The intent that is found on a disk, and its guard.
use Rattle.std.proofs.Common.{◌≡◌, ◌≢◌, ℕ, List, [], refl, sym, ap, ◌∙◌, inl, inr, subst}
use Rattle.std.specs.declared.option.Option.{Option}
use Rattle.std.specs.declared.option.Option.TheVariants.{None, Some}
use Rattle.tree_fs.specs.declared.name.Kind.TheVariants.{File, Absent}
use Rattle.tree_fs.specs.Spot.{Spot, root_spot}
use Rattle.tree_fs.specs.declared.place.Root.TheVariants.{Keep}
use Rattle.tree_fs.specs.Disk.{Disk, IsFile, kind_of}
use Rattle.tree_fs.specs.Parts.{bytes_of, bytes_at}
use Rattle.tree_fs.specs.Story.{Story, disk_of, Along}
use Rattle.tree_fs.specs.Frames.{Fewer, Syncs, EntriesSettled}
use Rattle.tree_fs.proofs.KindOf.{kind-file}
use Rattle.tree_fs.proofs.Moments.{along_weaken, along_last}
use Rattle.rel_paths.specs.declared.control.Control.TheVariants as control
use Rattle.move_plan.specs.declared.plan.Plan.{Plan}
use Rattle.intent_json.specs.declared.intent.Intent.{Intent}
use Rattle.intent_json.specs.declared.intent.Phase.{Phase}
use Rattle.intent_json.specs.declared.intent.Phase.TheVariants.{Set, Clear}
use Rattle.intent_json.specs.Accepted.{IsAccepted, IsIntentOf}
use Rattle.intent_json.specs.Forms.{bare_of, form_of}
use Rattle.intent_json.specs.Reads.{intent_value}
use Rattle.desk_model.specs.Places.{intent_spot}
use Rattle.desk_model.specs.Outcome.{intent_by}
use Rattle.desk_model.specs.Standing.{Standing}
use Rattle.desk_model.proofs.Kept.{standing-fewer}
use Rattle.desk_model.proofs.Spots.{keep_control}
use Rattle.intent_journal.specs.Temps.{IsFileOrAbsent}
use Rattle.intent_journal.specs.Forms.{HoldsForm}
use Rattle.intent_journal.specs.Found.{IsIntentAt, IsNoIntent, IsThere}

pub file_by : (d : Disk) (x : Spot) → kind_of d x ≢ Absent → IsFileOrAbsent d x → kind_of d x ≡ File
file_by d x ne (inl is) = is
file_by d x ne (inr is) = absurd (ne is)

pub file_still : (d e : Disk) (x : Spot) → e ≡ d → kind_of d x ≢ Absent → IsFileOrAbsent d x → IsFile e x
file_still d e x same ne way = subst (λ (f : Disk). IsFile f x) (sym same) (kind-file d x (file_by d x ne way)).1

-- the value of the intent place is read by its bytes
value_at : (d : Disk) → kind_of d intent_spot ≡ File → intent_by d.bytes (d.now intent_spot) ≡ intent_value (bytes_at d intent_spot)
value_at d is =
    let f = (kind-file d intent_spot is).1 in
    ap (intent_by d.bytes) f.1 ∙ ap intent_value (sym (ap (bytes_of d) f.1))

module _ (d e : Disk) (same : e ≡ d) (is : kind_of d intent_spot ≡ File) (bytes : List ℕ) (read : bytes ≡ bytes_at e intent_spot) (o : Option Intent) (value : o ≡ intent_value bytes) (exact : IsIntentOf bytes o) where
  there : bytes ≡ bytes_at d intent_spot
  there = read ∙ ap (λ (f : Disk). bytes_at f intent_spot) same

  by_value : intent_by d.bytes (d.now intent_spot) ≡ o
  by_value = value_at d is ∙ ap intent_value (sym there) ∙ sym value

  by_exact : IsIntentOf (bytes_at d intent_spot) o
  by_exact = subst (λ (l : List ℕ). IsIntentOf l o) there exact

  pub found_some : (i : Intent) → o ≡ Some i → IsIntentAt d i
  found_some i some = record { file = is; value = by_value ∙ some; exact = subst (IsIntentOf (bytes_at d intent_spot)) some by_exact }

  pub found_bad : o ≡ None → IsNoIntent d
  found_bad none = record { file = is; value = by_value ∙ none; exact = subst (IsIntentOf (bytes_at d intent_spot)) none by_exact }

-- the guard of an accepted intent is that intent
bare_same : (plan : Plan) → plan.folders ≡ [] → plan.saves ≡ [] → plan.sets ≡ [] → bare_of plan ≡ plan
unfolding bare_of
bare_same plan f s t = λ i. record plan { folders = sym f i; saves = sym s i; sets = sym t i }

pub guard_is : (i : Intent) → IsAccepted i → form_of i.phase i.plan ≡ i
guard_is i good = by_phase i.phase refl
  where
    by_phase : (p : Phase) → i.phase ≡ p → form_of i.phase i.plan ≡ i
    by_phase Set is = ap (λ p. form_of p i.plan) is ∙ (λ j. record { phase = sym is j; plan = i.plan })
    by_phase Clear is =
        let bare = good.bare is in
        ap (λ p. form_of p i.plan) is ∙ (λ j. record { phase = sym is j; plan = bare_same i.plan bare.folders bare.saves bare.sets j })

-- syncs keep the disk standing
syncs-fewer : (d e : Disk) → Syncs d e → Fewer e d
syncs-fewer d e s = record { folders = s.files.folders; within = s.held; files = λ n f. (ap (λ g. g n) s.files.firm ∙ f, ap (λ g. g n) s.files.bytes) }

pub syncs_stand : (s t : Story) → Standing (disk_of s) → Along (Syncs (disk_of s)) s t → Along Standing s t
syncs_stand s t standing a = along_weaken (Syncs (disk_of s)) Standing s t (λ e h. standing-fewer e (disk_of s) (syncs-fewer (disk_of s) e h) h.valid standing) a

-- what is there is settled
pub adopted : (i : Intent) (s t : Story) → IsThere i (disk_of s) → Along (Syncs (disk_of s)) s t → EntriesSettled (disk_of t) (root_spot Keep) → HoldsForm (Some i) (disk_of t)
adopted i s t is a settled v h =
    let last = along_last (Syncs (disk_of s)) s t a in
    let now : v ≡ (disk_of s).now intent_spot = settled intent_spot (keep_control control.Intent refl) v h ∙ last.now intent_spot in
    ap (intent_by (disk_of t).bytes) now ∙ ap (λ (bytes : ℕ → List ℕ). intent_by bytes ((disk_of s).now intent_spot)) last.files.bytes ∙ is
