-- The saves and then the sets.
use Rattle.std.proofs.Common.{refl, sym, ap, ◌∙◌, inl, inr}
use Rattle.tree_fs.specs.Disk.{Disk}
use Rattle.tree_fs.specs.Story.{Story, disk_of, Along}
use Rattle.tree_fs.proofs.Frames.{same_files-trans}
use Rattle.tree_fs.proofs.Moments.{along_last, along_trans, along_weaken}
use Rattle.move_plan.specs.declared.plan.Plan.{Plan}
use Rattle.move_plan.specs.Rules.{PassesRules}
use Rattle.desk_model.specs.Desk.{SameDesk}
use Rattle.desk_model.specs.Mid.{Mid}
use Rattle.desk_model.specs.Outcome.{outcome_now}
use Rattle.desk_model.specs.Standing.{SavesDone}
use Rattle.desk_model.specs.Stops.{Leads}
use Rattle.desk_model.proofs.SameDesks.{same_trans}
use Rattle.plan_exec.specs.Frames.{Saves, Puts, Moves}
use Rattle.plan_exec.specs.Steps.{FoldersMade, SavesReady, SetsReady, SetsDone, ToOutcomeOf}
use Rattle.plan_exec.proofs.Putting.{source_kept}
use Rattle.plan_exec.proofs.Rules.{save-not_set}
use Rattle.plan_exec.proofs.SavesStand.{saves_carry}
use Rattle.plan_exec.proofs.SetsStand.{sets_carry, sets_rules, file_kept}

saves_move : (plan : Plan) (a e : Disk) → Saves plan a e → Moves plan a e
saves_move plan a e h = record {
  valid = h.valid;
  files = h.files;
  held = λ x v out held. elim (h.held x v held) [ inl old ↦ old | inr put ↦ absurd (out (inr (record { save = put.save; listed = put.listed; here = put.here }))) ];
  now = λ x out. h.now x (λ to. out (inr to));
}

puts_move : (plan : Plan) (a e : Disk) → Puts plan a e → Moves plan a e
puts_move plan a e h = record {
  valid = h.valid;
  files = h.files;
  held = λ x v out held. elim (h.held x v held) [ inl old ↦ old | inr put ↦ absurd (out (inl (record { row = put.row; listed = put.listed; here = put.here }))) ];
  now = λ x out. h.now x (λ to. out (inl to));
}

moves_trans : (plan : Plan) (a d e : Disk) → Moves plan a d → Moves plan d e → Moves plan a e
moves_trans plan a d e h k = record {
  valid = k.valid;
  files = same_files-trans a d e h.files k.files;
  held = λ x v out held. h.held x v out (k.held x v out held);
  now = λ x out. k.now x out ∙ h.now x out;
}

pub saved_only : (plan : Plan) (s t : Story) → Along (Saves plan (disk_of s)) s t → Along (Moves plan (disk_of s)) s t
saved_only plan s t a = along_weaken (Saves plan (disk_of s)) (Moves plan (disk_of s)) s t (λ e h. saves_move plan (disk_of s) e h) a

module _ (plan : Plan) (s t : Story) (start : SavesReady plan (disk_of s)) (made : FoldersMade plan (disk_of s)) (only : Along (Saves plan (disk_of s)) s t) (done : SavesDone (disk_of t) plan) where
  saves : Saves plan (disk_of s) (disk_of t)
  saves = along_last (Saves plan (disk_of s)) s t only

  -- the sets may run
  pub sets_ready : SetsReady plan (disk_of t)
  sets_ready =
      let c = saves_carry plan (disk_of s) start (disk_of t) saves in
      record {
        standing = c.standing;
        profile = c.profile;
        form = c.alone;
        made = λ x is. ap (λ f. f x) saves.files.folders ∙ made x is;
        saved = done;
      }

module _ (plan : Plan) (s t u : Story) where
  pub both_only : Along (Saves plan (disk_of s)) s t → Along (Puts plan (disk_of t)) t u → Along (Moves plan (disk_of s)) s u
  both_only a b =
      let last = along_last (Moves plan (disk_of s)) s t (saved_only plan s t a) in
      along_trans (Moves plan (disk_of s)) s t u (saved_only plan s t a)
      (along_weaken (Puts plan (disk_of t)) (Moves plan (disk_of s)) t u (λ e h. moves_trans plan (disk_of s) (disk_of t) e last (puts_move plan (disk_of t) e h)) b)

  pub both_lead : Along (Leads (ToOutcomeOf (disk_of s))) s t → Along (Leads (ToOutcomeOf (disk_of t))) t u → Along (Leads (ToOutcomeOf (disk_of s))) s u
  both_lead a b =
      let last = along_last (Leads (ToOutcomeOf (disk_of s))) s t a in
      let same : SameDesk (outcome_now (disk_of t)) (outcome_now (disk_of s)) = last.each _ (inl refl) in
      along_trans (Leads (ToOutcomeOf (disk_of s))) s t u a
      (along_weaken (Leads (ToOutcomeOf (disk_of t))) (Leads (ToOutcomeOf (disk_of s))) t u (λ e h. record { standing = h.standing; profile = h.profile; each = λ v held. same_trans _ _ _ (h.each v held) same }) b)

  -- the saves done, Mid goes on
  pub both_mid : (a : Disk) → Along (Mid a plan) s t → SavesDone (disk_of t) plan → ((b : Disk) → Mid b plan (disk_of t) → SavesDone (disk_of t) plan → Along (Mid b plan) t u) → Along (Mid a plan) s u
  both_mid a b done go = along_trans (Mid a plan) s t u b (go a (along_last (Mid a plan) s t b) done)

-- once the sets are done all is ready for the mark
module _ (plan : Plan) (t u : Story) (ready : SetsReady plan (disk_of t)) (only : Along (Puts plan (disk_of t)) t u) where
  puts : Puts plan (disk_of t) (disk_of u)
  puts = along_last (Puts plan (disk_of t)) t u only

  pub sets_still : SetsReady plan (disk_of u)
  sets_still =
      let c = sets_carry plan (disk_of t) ready (disk_of u) puts in
      record {
        standing = c.standing;
        profile = c.profile;
        form = c.alone;
        made = λ x is. ap (λ f. f x) puts.files.folders ∙ ready.made x is;
        saved = λ x is. file_kept plan (disk_of t) ready (disk_of u) puts x (save-not_set plan (sets_rules plan (disk_of t) ready) x is) (ready.saved x is);
      }

pub done_still : (plan : Plan) (t u : Story) → PassesRules plan → Along (Puts plan (disk_of t)) t u → SetsDone plan (disk_of t) (disk_of u) → SetsDone plan (disk_of u) (disk_of u)
done_still plan t u passes only done row listed v h =
    done row listed v h ∙ sym (source_kept plan passes (disk_of t) (disk_of u) (along_last (Puts plan (disk_of t)) t u only).now row listed)
