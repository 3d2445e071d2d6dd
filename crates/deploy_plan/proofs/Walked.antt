-- How far the walk has come.
use Rattle.std.proofs.Common.{◌≡◌, ◌⊎◌, ℕ, ◌+◌, ◌<◌, List, [], ◌∷◌, ◌++◌, length, get_or, take, drop, suc, map, sym, ap, ◌∙◌, subst, inl, inr}
use Rattle.std.specs.List.{AllByRecursion, Contains}
use Rattle.std.proofs.lemmas.List.{map-append}
use Rattle.std.proofs.lemmas.List.Elements.{Contains-append_left, Contains-append_right, Contains-append_cases}
use Rattle.list_laws.proofs.Alls.{all_more}
use Rattle.list_laws.proofs.Containing.{contains_none, contains_only, contains_here}
use Rattle.list_laws.proofs.Lists.{one_more, around}
use Rattle.tree_fs.specs.Spot.{Spot, parent}
use Rattle.tree_fs.specs.Places.{game_spot}
use Rattle.tree_fs.specs.Disk.{Disk}
use Rattle.manifest_json.specs.declared.manifest.Row.{Row}
use Rattle.desk_model.specs.Deployed.{Win}
use Rattle.deploy_plan.specs.declared.error.PlanError.{PlanError}
use Rattle.deploy_plan.specs.declared.error.PlanError.TheVariants.{ChangesFound, Turned, Blocked, BackupTaken, Failed, Memory}
use Rattle.deploy_plan.specs.declared.parents.Parents.{Parents}
use Rattle.deploy_plan.specs.Walk.{Step, row_alone, both, win_alone}
use Rattle.deploy_plan.specs.Refusals.{Obstacle}
use Rattle.deploy_plan.specs.Steps.{Refused, IsStepObstacle, IsFreeStep, IsFirstInTheWay, IsNotTurned, TurnsAt, IsFirstToTurn}
use Rattle.deploy_plan.specs.Parents.{IsNoted, IsNotedUpTo, AreSeen, LooksUpTo}
use Rattle.deploy_plan.specs.Missing.{IsMissing, AreNoted, LooksFor}

pub noted_none : (a : Disk) → AreNoted a [] []
noted_none a = record {
  noted = λ w c. absurd (contains_none (win_alone w) c);
  only = λ s c. absurd (contains_none s c);
}

missing_wider : (a : Disk) (steps more : List Step) (s : Spot) → ((step : Step) → Contains steps step → Contains more step) → IsMissing a steps s → IsMissing a more s
missing_wider a steps more s wider is = record { absent = is.absent; win = is.win; among = wider (win_alone is.win) is.among; above = is.above }

other_step : (step : Step) (w : Win) → ((v : Win) → step ≡ win_alone v → ⊥) → win_alone w ≡ step → ⊥
other_step step w never e = never w (sym e)

module _ (a : Disk) (front : List Step) (step : Step) (old new : Parents) (was : AreNoted a front old.missing.items) where
  -- a step that looks at nothing
  noted_same : ((w : Win) → step ≡ win_alone w → ⊥) → new ≡ old → AreNoted a (front ++ step ∷ []) new.missing.items
  noted_same never same = record {
    noted = λ w c. by_place w (Contains-append_cases front (step ∷ []) (win_alone w) c);
    only = λ s h. missing_wider a front (front ++ step ∷ []) s (λ t c. Contains-append_left front (step ∷ []) t c) (was.only s (subst (λ p. IsNoted p.missing.items s) same h));
  }
    where
      by_place : (w : Win) → Contains front (win_alone w) ⊎ Contains (step ∷ []) (win_alone w) → IsNotedUpTo a new.missing.items (parent (game_spot w.path))
      by_place w (inl c) = subst (λ p. IsNotedUpTo a p.missing.items (parent (game_spot w.path))) (sym same) (was.noted w c)
      by_place w (inr c) = absurd (other_step step w never (contains_only step (win_alone w) c))

module _ (a : Disk) (front : List Step) (w : Win) (old new : Parents) (was : AreNoted a front old.missing.items) (looks : LooksUpTo a (parent (game_spot w.path)) old new) where
  noted_win : AreNoted a (front ++ win_alone w ∷ []) new.missing.items
  noted_win = record {
    noted = λ v c. by_place v (Contains-append_cases front (win_alone w ∷ []) (win_alone v) c);
    only = λ s h. elim (looks.only s h) [
      | inl before ↦ missing_wider a front (front ++ win_alone w ∷ []) s (λ t c. Contains-append_left front (win_alone w ∷ []) t c) (was.only s before)
      | inr now ↦ record { absent = now.0; win = w; among = Contains-append_right front (win_alone w ∷ []) (win_alone w) (contains_here (win_alone w) []); above = now.1 }
    ];
  }
    where
      by_place : (v : Win) → Contains front (win_alone v) ⊎ Contains (win_alone w ∷ []) (win_alone v) → IsNotedUpTo a new.missing.items (parent (game_spot v.path))
      by_place v (inl c) = λ s at e. looks.keeps s (was.noted v c s at e)
      by_place v (inr c) = let same : win_alone v ≡ win_alone w = contains_only (win_alone w) (win_alone v) c in let is : v ≡ w = cc in subst (λ u. IsNotedUpTo a new.missing.items (parent (game_spot u.path))) (sym is) looks.noted

noted_step : (a : Disk) (front : List Step) (step : Step) (old new : Parents) → AreNoted a front old.missing.items → LooksFor a step old new → AreNoted a (front ++ step ∷ []) new.missing.items
noted_step a front (row_alone r) old new was looks = noted_same a front (row_alone r) old new was (λ w e. cc) looks
noted_step a front (both r v) old new was looks = noted_same a front (both r v) old new was (λ w e. cc) looks
noted_step a front (win_alone w) old new was looks = noted_win a front w old new was looks

pub seen_step : (a : Disk) (step : Step) (old new : Parents) → AreSeen a old → LooksFor a step old new → AreSeen a new
seen_step a (row_alone r) old new seen looks = subst (AreSeen a) (sym looks) seen
seen_step a (both r v) old new seen looks = subst (AreSeen a) (sym looks) seen
seen_step a (win_alone w) old new seen looks = looks.seen

module _ {A : Type 0} (seen : A → Step) (xs : List A) (i : ℕ) (x : A) (lt : i < length xs) (is : x ≡ get_or xs i x) where
  next : map seen (take (i + 1) xs) ≡ map seen (take i xs) ++ seen x ∷ []
  next = ap (map seen) (one_more xs i x lt is) ∙ map-append seen (take i xs) (x ∷ [])

  pub noted_next : (a : Disk) (old new : Parents) → AreNoted a (map seen (take i xs)) old.missing.items → LooksFor a (seen x) old new → AreNoted a (map seen (take (i + 1) xs)) new.missing.items
  noted_next a old new was looks = subst (λ l. AreNoted a l new.missing.items) (sym next) (noted_step a (map seen (take i xs)) (seen x) old new was looks)

  pub free_next : (P : Step → Type 0) → AllByRecursion P (map seen (take i xs)) → P (seen x) → AllByRecursion P (map seen (take (i + 1) xs))
  free_next P was now = subst (AllByRecursion P) (sym next) (all_more P (map seen (take i xs)) (seen x) was now)

  pub told_next : {B C : Type 0} (f : Step → C) (g : B → C) (old new : List B) (b : B) → map g old ≡ map f (map seen (take i xs)) → g b ≡ f (seen x) → new ≡ old ++ b ∷ [] → map g new ≡ map f (map seen (take (i + 1) xs))
  told_next f g old new b was now put =
      ap (map g) put ∙ map-append g old (b ∷ []) ∙ (λ j. was j ++ now j ∷ []) ∙ sym (map-append f (map seen (take i xs)) (seen x ∷ [])) ∙ ap (map f) (sym next)

  pub first_in_the_way : (a : Disk) (o : Obstacle) → AllByRecursion (IsFreeStep a) (map seen (take i xs)) → IsStepObstacle a (seen x) o → IsFirstInTheWay a (map seen xs) o
  first_in_the_way a o free there = record {
    front = map seen (take i xs);
    step = seen x;
    back = map seen (drop (suc i) xs);
    split = ap (map seen) (around xs i x lt is) ∙ map-append seen (take i xs) (x ∷ drop (suc i) xs);
    free = free;
    there = there;
  }

pub refused_as : (P Q : Obstacle → Type 0) (e : PlanError) → ((o : Obstacle) → P o → Q o) → Refused P e → Refused Q e
refused_as P Q (Blocked place) f h = f _ h
refused_as P Q (BackupTaken path) f h = f _ h
refused_as P Q (ChangesFound first count) f h = h
refused_as P Q (Turned path) f h = h
refused_as P Q Failed f h = tt
refused_as P Q Memory f h = tt

module _ {A : Type 0} (seen : A → Step) (xs : List A) (i : ℕ) (x : A) (lt : i < length xs) (is : x ≡ get_or xs i x) where
  pub first_to_turn : (rows : List Row) (path : List ℕ) → AllByRecursion (IsNotTurned rows) (map seen (take i xs)) → TurnsAt rows (seen x) path → IsFirstToTurn rows (map seen xs) path
  first_to_turn rows path before turns = record {
    front = map seen (take i xs);
    step = seen x;
    back = map seen (drop (suc i) xs);
    split = ap (map seen) (around xs i x lt is) ∙ map-append seen (take i xs) (x ∷ drop (suc i) xs);
    before = before;
    turns = turns;
  }
