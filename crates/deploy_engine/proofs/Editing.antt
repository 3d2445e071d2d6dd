-- An edit, from the profile that was read to what it leaves.
use Rattle.std.proofs.Common.{◌≡◌, ◌≢◌, ◌⊎◌, ℕ, Bool, true, false, List, inl, inr, subst, sym, ◌∙◌}
use Rattle.std.specs.Prelude.{MatchBool, Ok}
use Rattle.tree_fs.specs.Story.{Story, disk_of}
use Rattle.profile_toml.specs.Records.{ProfileData}
use Rattle.profile_toml.specs.Profiles.{profile_of}
use Rattle.profile_edit.specs.declared.edit.Edit.{Edit}
use Rattle.profile_edit.specs.Edits.{edited}
use Rattle.desk_model.specs.Standing.{Standing}
use Rattle.plan_run.specs.Quiet.{IsQuiet}
use Rattle.profile_write.specs.Written.{Puts, PutsWhole}
use Rattle.answer_lines.specs.Told.{fixed_line}
use Rattle.command_steps.specs.Profiles.{HasProfile}
use Rattle.deploy_engine.specs.EditWork.{GoesWriting, GoesEditing, LeavesEdited, PrintsEdited, line_of}

module _ (edit : Edit) (old base : Story) (p q : ProfileData) (has : HasProfile (disk_of base) p) (is : q ≡ edited p edit) where
  module _ (quiet : Standing (disk_of old) → IsQuiet (disk_of base)) where
    writes_by : q ≢ p → (new : Story) → Puts q base new → GoesWriting edit (record { start = old; base = base; end = new })
    writes_by ne new puts = record {
      profile = p;
      has_profile = has;
      differs = λ e. ne (is ∙ e);
      text = puts.text;
      reads = subst (λ (r : ProfileData). profile_of puts.text ≡ Ok r) is puts.reads;
      stops = λ standing. puts.stops (quiet standing);
      keeps = λ standing. puts.keeps (quiet standing);
      syncs = puts.syncs;
    }

    pub goes_by : q ≢ p → (new : Story) → (new ≡ base) ⊎ Puts q base new → GoesEditing edit (record { start = old; base = base; end = new })
    goes_by ne new (inl same) = inl same
    goes_by ne new (inr puts) = inr (writes_by ne new puts)

    pub leaves_unchanged : q ≡ p → (new : Story) → new ≡ base → LeavesEdited edit (record { start = old; base = base; end = new })
    leaves_unchanged none new same = record {
      profile = p;
      has_profile = has;
      unchanged = λ _. same;
      changed = λ ne. absurd (ne (sym is ∙ none));
      quiet = λ standing. subst (λ s. IsQuiet (disk_of s)) (sym same) (quiet standing);
    }

    pub leaves_changed : q ≢ p → (new : Story) → PutsWhole q base new → LeavesEdited edit (record { start = old; base = base; end = new })
    unfolding writes_by
    leaves_changed ne new whole = record {
      profile = p;
      has_profile = has;
      unchanged = λ e. absurd (ne (is ∙ e));
      changed = λ _. record { writing = writes_by ne new whole.puts; desk_is = λ standing. (whole.written (quiet standing)).desk };
      quiet = λ standing. (whole.written (quiet standing)).quiet;
    }

  pub prints_by : (changed : Bool) → MatchBool changed (q ≢ p) (q ≡ p) → (new : Story) (text : List ℕ) → text ≡ fixed_line (line_of changed) → PrintsEdited edit (record { start = old; base = base; end = new }) text
  prints_by true ne new text line = record { profile = p; has_profile = has; written = λ _. line; unchanged = λ e. absurd (ne (is ∙ e)) }
  prints_by false none new text line = record { profile = p; has_profile = has; written = λ ne. absurd (ne (sym is ∙ none)); unchanged = λ _. line }
