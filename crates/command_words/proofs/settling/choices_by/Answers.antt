use Rattle.std.proofs.Common.{rules, ◌≡◌, ◌∙◌, sym, ap, None, codes}
use Rattle.change_choices.specs.declared.class.Class.TheVariants.{Replaced, Changed, Deleted, SourceDeleted, Gone}
use Rattle.clap.specs.Words.{first_value, found_of}
use Rattle.list_laws.proofs.Truths.{none-from_map}
use Rattle.command_words.specs.Settling.{action_for}
use Rattle.command_words.proofs.Actions.{all_found, none_for_changed, none_for_deleted, none_for_source_deleted, none_for_gone, with_proof}
use Rattle.command_words.proofs.settling.choices_by.Goals as goal

pub returns-in_err-changed : goal.returns-in_err-changed
returns-in_err-changed c =
    let none : c.from_residual-in_err-changed.result ≡ None = search rules in
    let missing = ap (action_for Changed (codes "keep")) (sym c.get_str-2.ensures) ∙ none-from_map _ _ c.in_err-changed.ensures.action in
    none ∙ sym (none_for_changed (first_value (found_of c.args.matches.now)) missing)

pub returns-in_err-deleted : goal.returns-in_err-deleted
returns-in_err-deleted c =
    let none : c.from_residual-in_err-deleted.result ≡ None = search rules in
    let missing = ap (action_for Deleted (codes "restore")) (sym c.get_str-3.ensures) ∙ none-from_map _ _ c.in_err-deleted.ensures.action in
    none ∙ sym (none_for_deleted (first_value (found_of c.args.matches.now)) missing)

pub returns-in_err-source_deleted : goal.returns-in_err-source_deleted
returns-in_err-source_deleted c =
    let none : c.from_residual-in_err-source_deleted.result ≡ None = search rules in
    let missing = ap (action_for SourceDeleted (codes "restore")) (sym c.get_str-4.ensures) ∙ none-from_map _ _ c.in_err-source_deleted.ensures.action in
    none ∙ sym (none_for_source_deleted (first_value (found_of c.args.matches.now)) missing)

pub returns-in_err-gone : goal.returns-in_err-gone
returns-in_err-gone c =
    let none : c.from_residual-in_err-gone.result ≡ None = search rules in
    let missing = ap (action_for Gone (codes "drop")) (sym c.get_str-5.ensures) ∙ none-from_map _ _ c.in_err-gone.ensures.action in
    none ∙ sym (none_for_gone (first_value (found_of c.args.matches.now)) missing)

pub returns : goal.returns
returns c =
    all_found (first_value (found_of c.args.matches.now)) _ _ _ _ _ _ _ _ _ _ c.new.result c.new.ensures
    (ap (action_for Replaced (codes "aside")) (sym c.get_str.ensures) ∙ with_proof Replaced _ _ _ c.in_ok-replaced.ensures.action)
    (ap (action_for Changed (codes "keep")) (sym c.get_str-2.ensures) ∙ with_proof Changed _ _ _ c.in_ok-changed.ensures.action)
    (ap (action_for Deleted (codes "restore")) (sym c.get_str-3.ensures) ∙ with_proof Deleted _ _ _ c.in_ok-deleted.ensures.action)
    (ap (action_for SourceDeleted (codes "restore")) (sym c.get_str-4.ensures) ∙ with_proof SourceDeleted _ _ _ c.in_ok-source_deleted.ensures.action)
    (ap (action_for Gone (codes "drop")) (sym c.get_str-5.ensures) ∙ with_proof Gone _ _ _ c.in_ok-gone.ensures.action)
