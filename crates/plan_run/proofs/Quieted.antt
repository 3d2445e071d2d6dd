-- What a stop leaves of a quiet disk.
use Rattle.std.proofs.Common.{◌≡◌, [], sym, ◌∙◌, inl, inr, subst}
use Rattle.tree_fs.specs.Disk.{Disk, Value, none, MayHold, Image}
use Rattle.tree_fs.specs.Story.{Story, disk_of}
use Rattle.tree_fs.proofs.KindOf.{kind-absent}
use Rattle.tree_fs.proofs.Stories.{with_ops-none}
use Rattle.desk_model.specs.Places.{intent_spot, profile_spot}
use Rattle.desk_model.specs.Desk.{Desk, desk, SameDesk}
use Rattle.desk_model.specs.Outcome.{outcome, outcome_now}
use Rattle.desk_model.specs.Standing.{Standing}
use Rattle.desk_model.specs.Stops.{Leads}
use Rattle.desk_model.proofs.SameDesks.{same_itself, same_trans}
use Rattle.desk_model.proofs.Stopped.{leads-image, old_or_new}
use Rattle.plan_exec.specs.Ending.{IsOldOr, StopsOldOrNew}
use Rattle.plan_run.specs.Quiet.{IsQuiet, IsDeskOf}

module _ (a : Disk) (quiet : IsQuiet a) where
  pub no_value : (v : Value) → MayHold a intent_spot v → v ≡ none
  no_value v h = quiet.settled intent_spot v h ∙ (kind-absent a intent_spot quiet.no_intent).1

  -- each value of the intent place leads to the desk that is there
  pub to_desk : (v : Value) → MayHold a intent_spot v → SameDesk (outcome a v) (desk a)
  to_desk v h = subst (λ w. SameDesk (outcome a w) (desk a)) (sym (no_value v h)) (same_itself (desk a))

  pub leads_by : (To : Desk → Type 0) → ((k : Desk) → SameDesk k (desk a) → To k) → Leads To a
  leads_by To to = record {
    standing = quiet.standing;
    profile = quiet.settled profile_spot;
    each = λ v h. to (outcome a v) (to_desk v h);
  }

  pub quiet_leads : Leads (IsDeskOf a) a
  quiet_leads = leads_by (IsDeskOf a) (λ k same. same)

pub quiet_stops : (a left : Disk) → IsQuiet a → Image a left → Standing left × IsDeskOf a (outcome_now left)
quiet_stops a left quiet image =
    let new : Desk → Type 0 = IsDeskOf a in
    let h = leads-image a new a left (λ k l same is. same_trans k l (desk a) same is) (leads_by a quiet (IsOldOr a new) (λ k same. inl same)) image in
    (h.standing, elim h.one_of [ inl old ↦ old | inr is ↦ is ])

-- no step at all
pub still_stops : (new : Desk → Type 0) → ((k l : Desk) → SameDesk k l → new l → new k) → (s : Story) → IsQuiet (disk_of s) → StopsOldOrNew new s s
still_stops new closed s quiet = record {
  ops = [];
  goes_on = sym (with_ops-none s);
  each = old_or_new (disk_of s) new [] closed (leads_by (disk_of s) quiet (IsOldOr (disk_of s) new) (λ k same. inl same));
}
