-- Actions that are allowed for a class, and the choices that they make.
use Rattle.std.proofs.Common.{◌≡◌, ◌∙◌, sym, ap, subst, refl, true, false, true≢false, Bool, cond, List, [], Option, Some, None, option_map, codes}
use Rattle.std.proofs.Math.Bool.{Bool-set}
use Rattle.change_choices.specs.Allowed.{is_allowed}
use Rattle.change_choices.specs.declared.action.Action.{Action}
use Rattle.change_choices.specs.declared.choices.Choices.{Choices}
use Rattle.change_choices.specs.declared.class.Class.{Class}
use Rattle.change_choices.specs.declared.class.Class.TheVariants.{Replaced, Changed, Deleted, SourceDeleted, Gone}
use Rattle.command_words.specs.Settling.{AllowedAction, action_for, by_test, choices_by, choices_with, if_allowed}
use Rattle.command_words.specs.Words.{Text}

-- an allowed action is itself the answer, and any other has none
pub action_of : (c : Class) (a : Action) (b : Bool) → is_allowed c a ≡ b → option_map (λ x. x.0) (if_allowed c a) ≡ cond b (Some a) None
action_of c a b is = go (is_allowed c a) refl b is
  where
    go : (t : Bool) (q : is_allowed c a ≡ t) (b : Bool) → is_allowed c a ≡ b → option_map (λ x. x.0) (by_test c a t q) ≡ cond b (Some a) None
    go true q true e = refl
    go false q false e = refl
    go true q false e = absurd (true≢false (sym q ∙ e))
    go false q true e = absurd (true≢false (sym e ∙ q))

abbrev allowed_action : (c : Class) (a : Action) → is_allowed c a ≡ true → AllowedAction c
allowed_action c a p = (a, p)

same_action : (c : Class) (a b : Action) → a ≡ b → (q : is_allowed c a ≡ true) (p : is_allowed c b ≡ true) → allowed_action c a q ≡ allowed_action c b p
same_action c a b e q p = subst (λ x. (r : is_allowed c x ≡ true) → allowed_action c a q ≡ allowed_action c x r) e (λ r. ap (allowed_action c a) (Bool-set _ _ q r)) p

-- what is found goes with any proof that it is allowed
pub with_proof : (c : Class) (o : Option (AllowedAction c)) (a : Action) (p : is_allowed c a ≡ true) → Some a ≡ option_map (λ x. x.0) o → o ≡ Some (allowed_action c a p)
with_proof c None a p e = let never : ⊥ = cc in absurd never
with_proof c (Some x) a p e = let same : x.0 ≡ a = cc in ap Some (same_action c x.0 a same x.1 p)

module _ (value : Text → Option Text) where
  abbrev r : Option (AllowedAction Replaced)
  r = action_for Replaced (codes "aside") (value (codes "replaced"))

  abbrev c : Option (AllowedAction Changed)
  c = action_for Changed (codes "keep") (value (codes "changed"))

  abbrev d : Option (AllowedAction Deleted)
  d = action_for Deleted (codes "restore") (value (codes "deleted"))

  abbrev s : Option (AllowedAction SourceDeleted)
  s = action_for SourceDeleted (codes "restore") (value (codes "source-deleted"))

  abbrev g : Option (AllowedAction Gone)
  g = action_for Gone (codes "drop") (value (codes "gone"))

  -- a class without an action leaves no choices

  pub none_for_changed : c ≡ None → choices_by value ≡ None
  none_for_changed h = ap (λ o. choices_with r o d s g) h ∙ go r
    where
      go : (r : Option (AllowedAction Replaced)) → choices_with r None d s g ≡ None
      go None = refl
      go (Some x) = refl

  pub none_for_deleted : d ≡ None → choices_by value ≡ None
  none_for_deleted h = ap (λ o. choices_with r c o s g) h ∙ go r c
    where
      go : (r : Option (AllowedAction Replaced)) (c : Option (AllowedAction Changed)) → choices_with r c None s g ≡ None
      go None c = refl
      go (Some x) None = refl
      go (Some x) (Some y) = refl

  pub none_for_source_deleted : s ≡ None → choices_by value ≡ None
  none_for_source_deleted h = ap (λ o. choices_with r c d o g) h ∙ go r c d
    where
      go : (r : Option (AllowedAction Replaced)) (c : Option (AllowedAction Changed)) (d : Option (AllowedAction Deleted)) → choices_with r c d None g ≡ None
      go None c d = refl
      go (Some x) None d = refl
      go (Some x) (Some y) None = refl
      go (Some x) (Some y) (Some z) = refl

  pub none_for_gone : g ≡ None → choices_by value ≡ None
  none_for_gone h = ap (λ o. choices_with r c d s o) h ∙ go r c d s
    where
      go : (r : Option (AllowedAction Replaced)) (c : Option (AllowedAction Changed)) (d : Option (AllowedAction Deleted)) (s : Option (AllowedAction SourceDeleted))
          → choices_with r c d s None ≡ None
      go None c d s = refl
      go (Some x) None d s = refl
      go (Some x) (Some y) None s = refl
      go (Some x) (Some y) (Some z) None = refl
      go (Some x) (Some y) (Some z) (Some v) = refl

  -- where each class has one, they are the choices
  pub all_found : (ra ca da sa ga : Action) (rp : is_allowed Replaced ra ≡ true) (cp : is_allowed Changed ca ≡ true) (dp : is_allowed Deleted da ≡ true)
      (sp : is_allowed SourceDeleted sa ≡ true) (gp : is_allowed Gone ga ≡ true) (none : List (Text × Action)) → none ≡ []
      → r ≡ Some (allowed_action Replaced ra rp) → c ≡ Some (allowed_action Changed ca cp) → d ≡ Some (allowed_action Deleted da dp)
      → s ≡ Some (allowed_action SourceDeleted sa sp) → g ≡ Some (allowed_action Gone ga gp)
      → Some (record {
        replaced = ra;
        changed = ca;
        deleted = da;
        source_deleted = sa;
        gone = ga;
        paths = none;
        replaced_allowed = rp;
        changed_allowed = cp;
        deleted_allowed = dp;
        source_deleted_allowed = sp;
        gone_allowed = gp;
      })
      ≡ choices_by value
  all_found ra ca da sa ga rp cp dp sp gp none e hr hc hd hs hg = (λ i. made (e i)) ∙ sym (λ i. choices_with (hr i) (hc i) (hd i) (hs i) (hg i))
    where
      made : List (Text × Action) → Option Choices
      made paths = Some (record {
        replaced = ra;
        changed = ca;
        deleted = da;
        source_deleted = sa;
        gone = ga;
        paths = paths;
        replaced_allowed = rp;
        changed_allowed = cp;
        deleted_allowed = dp;
        source_deleted_allowed = sp;
        gone_allowed = gp;
      })
