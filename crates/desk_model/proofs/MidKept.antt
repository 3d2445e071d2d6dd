-- Mid is kept by fewer values: so by every stop.
use Rattle.std.proofs.Common.{ap, ◌∙◌, sym, inl, inr}
use Rattle.tree_fs.specs.Disk.{Disk, IsValid, Image}
use Rattle.tree_fs.specs.Spot.{spot_of}
use Rattle.move_plan.specs.declared.plan.Plan.{Plan}
use Rattle.desk_model.specs.Mid.{Mid}
use Rattle.tree_fs.specs.Frames.{Fewer}
use Rattle.tree_fs.proofs.Fewer.{image-fewer, only-fewer}

pub mid-fewer : (a : Disk) (plan : Plan) (e d : Disk) → Fewer e d → Mid a plan d → Mid a plan e
mid-fewer a plan e d less mid = record {
  saves = λ s v listed h. mid.saves s v listed (less.within (spot_of s.1) v h);
  sets = λ row v listed h. mid.sets row v listed (less.within (spot_of row.to) v h);
  steps = elim mid.steps [
    | inl wait ↦ inl (λ x is. only-fewer e d less x (a.now x) (wait x is))
    | inr made ↦ inr (λ s listed. only-fewer e d less (spot_of s.1) (a.now (spot_of s.0)) (made s listed))
  ];
  rest = λ x is out no_control. only-fewer e d less x (a.now x) (mid.rest x is out no_control);
  folders_stay = λ x is there. ap (λ f. f x) less.folders ∙ mid.folders_stay x is there;
  folders_made = λ x is there. mid.folders_made x is (sym (ap (λ f. f x) less.folders) ∙ there);
  bytes = λ x n is has. let had = mid.bytes x n is has in let kept = less.files n had.0 in (kept.0, kept.1 ∙ had.1);
}

pub image-mid : (a : Disk) (plan : Plan) (d left : Disk) → IsValid d → Image d left → Mid a plan d → Mid a plan left
image-mid a plan d left valid image = mid-fewer a plan left d (image-fewer d left valid image)
