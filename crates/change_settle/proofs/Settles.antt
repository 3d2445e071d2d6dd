-- What the calls of a settlement's plan find, put together.
use Rattle.std.proofs.Common.{◌≡◌, ◌≢◌, ◌⊎◌, ◌↔◌, ℕ, Bool, true, false, if◌then◌else◌, List, [], ◌∷◌, ◌++◌, map, filter_map, refl, sym, ap, ◌∙◌, subst, inl, inr}
use Rattle.std.specs.List.{AllByRecursion, Contains}
use Rattle.std.specs.List.Sorted.{IsStrictlySortedBy}
use Rattle.std.specs.Map.{lookup}
use Rattle.std.specs.Ordering.{nat_cmp}
use Rattle.std.specs.Str.{bytes_eq}
use Rattle.std.specs.Cmp.Lexicographic.{slice_cmp, nat_list_cmp_total}
use Rattle.std.specs.declared.cmp.Ordering.TheVariants.{Less}
use Rattle.std.specs.declared.option.Option.{Option}
use Rattle.std.specs.declared.option.Option.TheVariants.{None, Some}
use Rattle.std.proofs.lemmas.List.Elements.{Contains-append_cases, Contains-append_right}
use Rattle.list_laws.proofs.Alls.{all_item, all_from_contains}
use Rattle.list_laws.proofs.Containing.{contains_here, contains_map, map_contains, contains_cases, filter_map_contains}
use Rattle.list_laws.proofs.Orders.{text_not_itself}
use Rattle.tree_fs.specs.declared.tree.TreeError.{TreeError}
use Rattle.tree_fs.specs.declared.tree.TreeError.TheVariants as tree
use Rattle.tree_fs.specs.Spot.{Spot, spot_of}
use Rattle.tree_fs.specs.Disk.{Disk, IsValid}
use Rattle.backup_keep.specs.Asides.{IsNextAside}
use Rattle.manifest_json.specs.declared.manifest.Row.{Row}
use Rattle.manifest_json.specs.declared.manifest.Manifest.{Manifest}
use Rattle.manifest_json.specs.Paths.{AreRising}
use Rattle.manifest_json.specs.Sound.{AreRows, AreFolders}
use Rattle.manifest_json.specs.Records.{paths_of}
use Rattle.change_choices.specs.declared.action.Action.{Action}
use Rattle.change_choices.specs.declared.choices.Choices.{Choices}
use Rattle.change_choices.specs.declared.class.Class.{Class}
use Rattle.change_choices.specs.declared.class.Class.TheVariants.{Replaced, Changed, Deleted, SourceDeleted, Gone}
use Rattle.change_choices.specs.Allowed.{is_allowed}
use Rattle.change_choices.specs.Choice.{choice as chosen, class_action, if_allowed}
use Rattle.change_detect.specs.Refusals.{first_blocked}
use Rattle.move_plan.specs.declared.plan.Plan.{Plan}
use Rattle.move_plan.specs.Sound.{SoundPlan}
use Rattle.intent_json.specs.declared.intent.Phase.TheVariants as phase
use Rattle.desk_model.specs.Settled.{Choice, Deed, deed_of, IsAllowed, Settled}
use Rattle.desk_model.specs.Outcome.{outcome_by}
use Rattle.plan_model.specs.Rows.{old_of}
use Rattle.purge_run.specs.Refusals.{HasAsideRoom}
use Rattle.deploy_plan.proofs.OneFirst.{open_not_blocking, open_not_taken}
use Rattle.change_settle.specs.declared.error.SettleError.{SettleError}
use Rattle.change_settle.specs.declared.error.SettleError.TheVariants.{Blocked, AsideFull, Failed, Memory}
use Rattle.change_settle.specs.Above.{AreAbove, AreLooked, AreAllAbove, AreMissingAbove}
use Rattle.change_settle.specs.Deeds.{saved_spot}
use Rattle.change_settle.specs.Errors.{of_tree}
use Rattle.change_settle.specs.Plans.{CanSettle, SettlePlan, IsSettlePlan}
use Rattle.change_settle.specs.Refusals.{IsInTheWay, IsFirstInTheWay, WalkPasses, SetsSomeAside, NoRefusal, IsSettleRefusal}
use Rattle.change_settle.specs.Steps.{TellsFor, IsOpen, IsInTaskWay, IsFirstOf, Refuses, SavesSome, IsAsideRefusal}
use Rattle.change_settle.specs.Tasks.{told, tasks_of, steps_of, task_restored}
use Rattle.change_settle.proofs.SettleLeads.{settle_leads}
use Rattle.change_settle.proofs.SettleSound.{settle_sound}

-- The choices

class_allowed : (c : Choices) (class : Class) → is_allowed class (class_action c class) ≡ true
class_allowed c Replaced = c.replaced_allowed
class_allowed c Changed = c.changed_allowed
class_allowed c Deleted = c.deleted_allowed
class_allowed c SourceDeleted = c.source_deleted_allowed
class_allowed c Gone = c.gone_allowed

either_allowed : (class : Class) (o : Option Action) (other : Action) → is_allowed class other ≡ true → is_allowed class (if_allowed class o other) ≡ true
either_allowed class None other h = h
either_allowed class (Some x) other h = by (is_allowed class x) refl
  where
    by : (b : Bool) → is_allowed class x ≡ b → is_allowed class (if b then x else other) ≡ true
    by true e = e
    by false e = h

pub choice_allowed : (c : Choices) → IsAllowed (chosen c)
choice_allowed c path class = either_allowed class (lookup (bytes_eq path) c.paths) (class_action c class) (class_allowed c class)

-- What was looked at

pub tells_all : (a : Disk) (tasks : List (Row × Deed)) (restored above missing taken blocked : List Spot) → restored ≡ filter_map task_restored tasks → AreAbove restored above → AreLooked a above missing taken
    → ((s : Spot) → (Contains blocked s ↔ Contains taken s)) → AllByRecursion (TellsFor a blocked) tasks
tells_all a tasks restored above missing taken blocked is are looked same = all_from_contains (TellsFor a blocked) tasks (λ t c x e s f. (
  λ k. ((looked.blocked s).0 ((same s).0 k)).1,
  λ k. (same s).1 ((looked.blocked s).1 ((are s).1 (record { place = x; among = subst (λ l. Contains l x) (sym is) (filter_map_contains task_restored tasks t x c e); above = f }), k)),
))

pub missing_above : (a : Disk) (restored above missing taken : List Spot) → AreAbove restored above → AreLooked a above missing taken → AreMissingAbove a restored missing
missing_above a restored above missing taken are looked s = (
  λ c. let h = (looked.missing s).0 c in ((are s).0 h.0, h.1),
  λ h. (looked.missing s).1 ((are s).1 h.0, h.1),
)

pub all_above : (restored above missing : List Spot) → AreAbove restored above → ((s : Spot) → Contains missing s → Contains above s) → AreAllAbove restored missing
all_above restored above missing are among s c = (are s).0 (among s c)

pub steps_are : (choice : Choice) (a : Disk) (rows : List Row) → map (told a) (tasks_of choice a rows) ≡ steps_of choice a rows
steps_are choice a [] = refl
steps_are choice a (r ∷ rows) = ap (λ l. told a (r, deed_of choice a r) ∷ l) (steps_are choice a rows)

pub rows_are : (choice : Choice) (a : Disk) (rows : List Row) → map (λ (t : Row × Deed). t.0) (tasks_of choice a rows) ≡ rows
rows_are choice a [] = refl
rows_are choice a (r ∷ rows) = ap (λ l. r ∷ l) (rows_are choice a rows)

-- Whether something refuses the plan

module _ (choice : Choice) (a : Disk) (rows : List Row) where
  abbrev tasks : List (Row × Deed)
  tasks = tasks_of choice a rows

  task_of : (r : Row) → Contains rows r → Contains tasks (r, deed_of choice a r)
  task_of r c = map_contains (λ (r : Row). (r, deed_of choice a r)) rows r c

  open_of : AllByRecursion (IsOpen a) tasks → (r : Row) → Contains rows r → IsOpen a (r, deed_of choice a r)
  open_of all r c = all_item (IsOpen a) tasks (r, deed_of choice a r) all (task_of r c)

  pub walk_passes : AllByRecursion (IsOpen a) tasks → WalkPasses choice a rows
  walk_passes all = record {
    parents = λ r x c e. (open_of all r c).parents x e;
    behind = λ r c needs. (open_of all r c).behind needs;
  }

  pub some-saves : SetsSomeAside choice a rows → SavesSome tasks
  some-saves h = record { task = (h.row, deed_of choice a h.row); among = task_of h.row h.listed; origin = h.origin; saved = h.saved }

  pub saves-some : SavesSome tasks → SetsSomeAside choice a rows
  saves-some h =
      let r = contains_map (λ (r : Row). (r, deed_of choice a r)) rows h.task h.among in
      record { row = r.0; listed = r.1; origin = h.origin; saved = subst (λ (t : Row × Deed). saved_spot t.0 t.1 ≡ Some h.origin) (sym r.2) h.saved }

  pub no_refusal : AllByRecursion (IsOpen a) tasks → (SavesSome tasks → HasAsideRoom a) → NoRefusal choice a rows
  no_refusal all room = record { walk = walk_passes all; aside = λ h. room (some-saves h) }

  -- the first row that has something in its way
  open_free : (t : Row × Deed) (x : Spot) → IsOpen a t → IsInTaskWay a t x → ⊥
  open_free t x free (inl h) = open_not_taken a x (free.parents h.place h.restored x h.outermost.above) h.outermost.taken
  open_free t x free (inr h) = open_not_blocking a _ (free.behind h.needed) h.blocking

  module _ (rise : AreRising (paths_of rows)) (x : Spot) (h : IsFirstOf a tasks x) where
    not_before : (front back ts : List (Row × Deed)) (t : Row × Deed) → ts ≡ front ++ t ∷ back → AreRising (map (λ (t : Row × Deed). t.0.path) ts) → (o : Row × Deed) → Contains back o → slice_cmp nat_cmp o.0.path t.0.path ≢ Less
    unfolding IsStrictlySortedBy
    not_before [] back ts t is up o c less =
        let up' : AreRising (map (λ (t : Row × Deed). t.0.path) (t ∷ back)) = subst (λ l. AreRising (map (λ (t : Row × Deed). t.0.path) l)) is up in
        let above = all_item (λ q. slice_cmp nat_cmp t.0.path q ≡ Less) (map (λ (t : Row × Deed). t.0.path) back) o.0.path up'.0 (map_contains (λ (t : Row × Deed). t.0.path) back o c) in
        both_less t.0.path o.0.path above less
      where
        both_less : (p q : List ℕ) → slice_cmp nat_cmp p q ≡ Less → slice_cmp nat_cmp q p ≡ Less → ⊥
        both_less p q e f = text_not_itself p (nat_list_cmp_total.trans p q p e f)
    not_before (f ∷ front) back ts t is up o c less =
        not_before front back (front ++ t ∷ back) t refl (subst (λ l. AreRising (map (λ (t : Row × Deed). t.0.path) l)) is up).1 o c less

    pub first_in_the_way : IsFirstInTheWay choice a rows x
    first_in_the_way =
        let r = contains_map (λ (r : Row). (r, deed_of choice a r)) rows h.task (subst (λ l. Contains l h.task) (sym h.split) (Contains-append_right h.front (h.task ∷ h.back) h.task (contains_here h.task h.back))) in
        record {
          row = r.0;
          listed = r.1;
          there = subst (λ t. IsInTaskWay a t x) (sym r.2) h.there;
          least = λ other y c k less. least r.0 r.2 other y c k less;
        }
      where
        paths_same : (rows : List Row) → map (λ (t : Row × Deed). t.0.path) (tasks_of choice a rows) ≡ paths_of rows
        paths_same [] = refl
        paths_same (r ∷ rows) = ap (λ l. r.path ∷ l) (paths_same rows)

        least : (r : Row) → (r, deed_of choice a r) ≡ h.task → (other : Row) (y : Spot) → Contains rows other → IsInTheWay choice a other y → slice_cmp nat_cmp other.path r.path ≡ Less → ⊥
        least r is other y c k less = by (Contains-append_cases h.front (h.task ∷ h.back) (other, deed_of choice a other) (subst (λ l. Contains l (other, deed_of choice a other)) h.split (task_of other c)))
          where
            path_is : r.path ≡ h.task.0.path
            path_is = ap (λ (t : Row × Deed). t.0.path) is

            by : Contains h.front (other, deed_of choice a other) ⊎ Contains (h.task ∷ h.back) (other, deed_of choice a other) → ⊥
            by (inl f) = open_free (other, deed_of choice a other) y (all_item (IsOpen a) h.front (other, deed_of choice a other) h.passed f) k
            by (inr b) = elim (contains_cases h.task (other, deed_of choice a other) h.back b) [
              | inl same ↦ text_not_itself other.path (subst (λ q. slice_cmp nat_cmp other.path q ≡ Less) (path_is ∙ sym (ap (λ (t : Row × Deed). t.0.path) same)) less)
              | inr later ↦ not_before h.front h.back tasks h.task h.split (subst AreRising (sym (paths_same rows)) rise) (other, deed_of choice a other) later (subst (λ q. slice_cmp nat_cmp other.path q ≡ Less) path_is less)
            ]

  pub by_walk : AreRising (paths_of rows) → (e : SettleError) → Refuses (IsFirstOf a tasks) e → IsSettleRefusal choice a rows e
  by_walk rise (Blocked place) h = inl (first_in_the_way rise (spot_of place) h)
  by_walk rise AsideFull h = absurd h
  by_walk rise Failed h = tt
  by_walk rise Memory h = tt

  pub by_aside : AllByRecursion (IsOpen a) tasks → (e : SettleError) → SavesSome tasks → IsAsideRefusal a e → IsSettleRefusal choice a rows e
  by_aside all (Blocked place) some h = inr (walk_passes all, saves-some some, h)
  by_aside all AsideFull some h = (walk_passes all, saves-some some, h.0, h.1)
  by_aside all Failed some h = tt
  by_aside all Memory some h = tt

  pub by_tree : (e : TreeError) → IsSettleRefusal choice a rows (of_tree e)
  by_tree tree.Failed = tt
  by_tree tree.Memory = tt

-- What follows from a plan

pub can_settle : (c : Choices) (a : Disk) (old : Manifest) (n : ℕ) → IsValid a → AreRows old.rows → AreFolders old.folders → first_blocked a old.rows ≡ None → (SavesSome (tasks_of (chosen c) a old.rows) → IsNextAside a n)
    → AllByRecursion (IsOpen a) (tasks_of (chosen c) a old.rows) → (SavesSome (tasks_of (chosen c) a old.rows) → HasAsideRoom a) → CanSettle (chosen c) a old n
can_settle c a old n valid rows own told next all room = record {
  valid = valid;
  rows = rows;
  own = own;
  allowed = choice_allowed c;
  unblocked = told;
  next = λ h. next (some-saves (chosen c) a old.rows h);
  passes = no_refusal (chosen c) a old.rows all room;
}

pub plan_sound : (choice : Choice) (a : Disk) (old : Manifest) (plan : Plan) → IsSettlePlan choice a old plan → SoundPlan a plan
plan_sound choice a old plan h = settle_sound choice a old h.number h.can plan h.is

pub plan_leads : (choice : Choice) (a : Disk) (old : Manifest) (plan : Plan) → IsSettlePlan choice a old plan → old ≡ old_of a → Settled a choice (outcome_by a (Some (record { phase = phase.Set; plan = plan })))
plan_leads choice a old plan h own =
    settle_leads choice a h.number (subst (λ m. CanSettle choice a m h.number) own h.can) plan (subst (λ m. SettlePlan choice a m h.number plan) own h.is)
