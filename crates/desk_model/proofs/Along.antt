-- Where a fact keeps Standing all along, each outcome is kept beside it.
use Rattle.std.proofs.Common.{List, [], ◌∷◌, sym, ◌∙◌, inl, inr}
use Rattle.tree_fs.specs.declared.op.Op.{Op}
use Rattle.tree_fs.specs.Disk.{Disk, Value, MayHold, after, IsSettled}
use Rattle.tree_fs.specs.Story.{Story, disk_of, Through, Along}
use Rattle.tree_fs.proofs.Growth.{grows_or_shrinks}
use Rattle.tree_fs.proofs.Moments.{through_first}
use Rattle.tree_fs.specs.Frames.{SameFiles}
use Rattle.desk_model.specs.Desk.{SameDesk}
use Rattle.desk_model.specs.Places.{profile_spot, intent_spot}
use Rattle.desk_model.specs.Outcome.{outcome}
use Rattle.desk_model.specs.Standing.{Standing}
use Rattle.desk_model.proofs.Named.{outcome-fewer}
use Rattle.desk_model.proofs.SameDesks.{same_trans, same_sym, same_itself}
use Rattle.tree_fs.proofs.Fewer.{same_files-fewer}

-- what a step must keep, so that the outcome of a value is kept: no folder, no byte and no number may change
pub record Keeps (a : Disk) (v : Value) (e : Disk) : Type 0 where
  pub standing : Standing e
  pub profile : IsSettled e profile_spot
  pub files : SameFiles a e
  pub held : MayHold e intent_spot v

pub files_between : (a d e : Disk) → SameFiles a d → SameFiles a e → SameFiles d e
files_between a d e h k = record {
  folders = k.folders ∙ sym h.folders;
  bytes = k.bytes ∙ sym h.bytes;
  firm = k.firm ∙ sym h.firm;
  fresh = k.fresh ∙ sym h.fresh;
}

-- one step
pub step_keeps : (a : Disk) (v : Value) (d : Disk) (op : Op) → Keeps a v d → Keeps a v (after d op) → SameDesk (outcome (after d op) v) (outcome d v)
step_keeps a v d op h k = elim (same_files-fewer d (after d op) (files_between a d (after d op) h.files k.files) (grows_or_shrinks d op)) [
  | inl grows ↦ same_sym _ _ (outcome-fewer d (after d op) grows k.standing k.profile v k.held)
  | inr shrinks ↦ outcome-fewer (after d op) d shrinks h.standing h.profile v h.held
]

through_keeps : (P : Disk → Type 0) (a : Disk) (v : Value) → ((e : Disk) → P e → Keeps a v e) → (d : Disk) (ops : List Op) → SameDesk (outcome d v) (outcome a v) → Through P d ops → Through (λ e. P e × SameDesk (outcome e v) (outcome a v)) d ops
through_keeps P a v to d [] is h = (h, is)
through_keeps P a v to d (op ∷ ops) is h = (
  (h.0, is),
  through_keeps P a v to (after d op) ops
      (same_trans _ _ _ (step_keeps a v d op (to d h.0) (to (after d op) (through_first P (after d op) ops h.1))) is) h.1,
)

pub along_keeps : (P : Disk → Type 0) (v : Value) (s t : Story) → ((e : Disk) → P e → Keeps (disk_of s) v e) → Along P s t → Along (λ e. P e × SameDesk (outcome e v) (outcome (disk_of s) v)) s t
along_keeps P v s t to a = record { ops = a.ops; goes_on = a.goes_on; each = through_keeps P (disk_of s) v to (disk_of s) a.ops (same_itself _) a.each }
