use Rattle.std.proofs.Common.{◌≡◌, ◌∙◌, ap, sym, refl, subst, Bool, List, Option, Some, None, Result, Ok, Err, IfOk, IfErr, IfSome, codes}
use Rattle.std.specs.Prelude.{option_and_then, option_map, unwrap_or}
use Rattle.std.specs.Option.{ok_or}
use Rattle.clap.specs.Words.{first_value, found_of}
use Rattle.clap.specs.declared.parser.matches.ArgMatches.{ArgMatches}
use Rattle.command_words.specs.Apps.{GivesUses}
use Rattle.command_words.specs.Options.{flag_name, value_of}
use Rattle.command_words.specs.Settling.{action_for, choices_by, choices_with, is_set, settled, settled_by}
use Rattle.command_words.specs.declared.command.Command.TheVariants.{Settle}
use Rattle.change_choices.specs.declared.class.Class.TheVariants.{Replaced, Changed, Deleted, SourceDeleted, Gone}
use Rattle.change_choices.specs.declared.choices.Choices.{Choices}
use Rattle.command_words.specs.Paths.{SetsUserPath}
use Rattle.command_words.specs.Words.{Text}
use Rattle.command_words.specs.declared.command.Command.{Command}
use Rattle.command_words.specs.declared.error.WordError.{WordError}
use Rattle.command_words.proofs.settling.settle.Goals as goal

-- what `clap` found says the same as the uses
same : (words : List Text) (m : ArgMatches) → GivesUses words m → settled_by (first_value (found_of m)) ≡ settled words
same words m g =
    (λ i. option_map (λ choices. Settle choices (is_set (g.from_input i))) (choices_with (action_for Replaced (codes "aside") (g.values (codes "replaced") refl i))
    (action_for Changed (codes "keep") (g.values (codes "changed") refl i)) (action_for Deleted (codes "restore") (g.values (codes "deleted") refl i))
    (action_for SourceDeleted (codes "restore") (g.values (codes "source-deleted") refl i)) (action_for Gone (codes "drop") (g.values (codes "gone") refl i))))
    ∙ (ap (λ set. option_map (λ choices. Settle choices set) (choices_by (value_of g.uses))) (kept (value_of g.uses flag_name))
    ∙ ap (option_and_then (λ uses. settled_by (value_of uses))) (sym g.are))
  where
    kept : (v : Option Text) → is_set (Some (unwrap_or v (codes "false"))) ≡ is_set v
    kept None = refl
    kept (Some t) = refl

ok_is : (o : Option Command) (f : Option Command) (r : Result Command WordError) (e : WordError) → r ≡ ok_or o e → o ≡ f → IfOk r (λ c. f ≡ Some c)
ok_is None f (Ok x) e is same = cc
ok_is (Some c) f (Ok x) e is same = cc
ok_is o f (Err x) e is same = tt

err_is : (o : Option Command) (f : Option Command) (r : Result Command WordError) (e : WordError) (P : WordError → Type 0) → r ≡ ok_or o e → o ≡ f → IfErr r (λ x. P x → f ≡ None)
err_is None f (Ok x) e P is same = tt
err_is (Some c) f (Ok x) e P is same = tt
err_is None f (Err x) e P is same = λ h. sym same
err_is (Some c) f (Err x) e P is same = cc

pub returns-clause-ok : goal.returns-clause-ok
returns-clause-ok c = ok_is c.settled_by.result _ c.ok_or.result _ c.ok_or.ensures.value (c.settled_by.ensures ∙ same _ _ c.in_ok-matches.ensures.ok)

pub returns-clause-usage : goal.returns-clause-usage
returns-clause-usage c = err_is c.settled_by.result _ c.ok_or.result _ _ c.ok_or.ensures.value (c.settled_by.ensures ∙ same _ _ c.in_ok-matches.ensures.ok)

-- a settlement sets no override
no_override : (choices : Option Choices) (set : Bool) → IfSome (option_map (λ choices. Settle choices set) choices) SetsUserPath
no_override None set = tt
no_override (Some choices) set = tt

user_is : (o : Option Command) (e : WordError) → IfSome o SetsUserPath → IfOk (ok_or o e) SetsUserPath
user_is None e user = tt
user_is (Some c) e user = user

pub returns-clause-user_path : goal.returns-clause-user_path
returns-clause-user_path c =
    subst (λ r. IfOk r SetsUserPath) (sym c.ok_or.ensures.value)
    (user_is c.settled_by.result _ (subst (λ o. IfSome o SetsUserPath) (sym c.settled_by.ensures) (no_override _ _)))
