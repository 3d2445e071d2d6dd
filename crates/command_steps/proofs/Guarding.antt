-- The control places, one after the other.
use Rattle.std.proofs.Common.{◌≡◌, ◌∙◌, ◌+◌, ◌<◌, ◌≤◌, ℕ, List, [], ◌∷◌, ◌++◌, map, length, get_or, take, drop, suc, refl, sym, subst, inl, inr, take_all}
use Rattle.std.specs.List.{AllByRecursion}
use Rattle.std.specs.declared.result.Result.TheVariants.{Ok}
use Rattle.rel_paths.specs.declared.control.Control.{Control}
use Rattle.rel_paths.specs.declared.control.Control.TheVariants as control
use Rattle.rel_paths.specs.Controls.{control_order}
use Rattle.tree_fs.specs.Story.{Story, disk_of}
use Rattle.list_laws.proofs.Alls.{all_next}
use Rattle.list_laws.proofs.Lists.{around, get_or-any}
use Rattle.intent_journal.specs.declared.temp.Temp.{Temp}
use Rattle.intent_journal.specs.declared.temp.Temp.TheVariants.{Intent, Manifest, Profile}
use Rattle.intent_journal.specs.Temps.{IsFileOrAbsent, temp_spot}
use Rattle.command_steps.specs.declared.limits.Limits.{Limits}
use Rattle.command_steps.specs.declared.stop.Stop.{Stop}
use Rattle.command_steps.specs.Steps.{fine, IsFine, Nothing}
use Rattle.command_steps.specs.Orders.{guards, start, after_steps, AllPass, IsFirst, IsWhy, Passed, Takes}

all_pass : (xs : List Control) (limits : Limits) (s : Story) → AllByRecursion (IsFine (disk_of s)) xs → AllPass (map fine xs) limits s
all_pass [] limits s all = tt
all_pass (x ∷ xs) limits s all = (all.0, all_pass xs limits s all.1)

no_ops : (xs : List Control) (s : Story) → s ≡ after_steps (map fine xs) s
no_ops [] s = refl
no_ops (x ∷ xs) s = no_ops xs s

stops : (xs : List Control) (which : Control) (ys : List Control) (limits : Limits) (s : Story) (stop : Stop) (new : Story) → AllByRecursion (IsFine (disk_of s)) xs → IsFirst (fine which ∷ []) limits s stop new
    → IsFirst (map fine (xs ++ which ∷ ys)) limits s stop new
stops [] which ys limits s stop new all (inl here) = inl here
stops [] which ys limits s stop new all (inr later) = absurd later.1
stops (x ∷ xs) which ys limits s stop new all first = inr (all.0, stops xs which ys limits s stop new all.1 first)

-- all places are fine
pub guarded : (items : List Control) (i : ℕ) (limits : Limits) (s t : Story) (v : Unit {0}) → items ≡ control_order → length items ≤ i → t ≡ s → AllByRecursion (IsFine (disk_of s)) (take i items)
    → Takes guards limits s t Nothing (Ok v)
guarded items i limits s t v is over same all = record {
  passed = record {
    all = all_pass control_order limits s (subst (AllByRecursion (IsFine (disk_of s))) is (subst (AllByRecursion (IsFine (disk_of s))) (take_all i items over) all));
    story = same;
    gives = tt;
  };
  stopped = tt;
}

-- this place stops the command, and those before it are fine
pub unguarded : (items : List Control) (i : ℕ) (which : Control) (limits : Limits) (s t : Story) (stop : Stop) (new : Story) → items ≡ control_order → i < length items → which ≡ get_or items i which → t ≡ s
    → AllByRecursion (IsFine (disk_of s)) (take i items) → IsWhy (fine which ∷ []) limits t stop new → IsWhy guards limits s stop new
unguarded items i which limits s t stop new is low at same all why =
    let here : take i items ++ which ∷ drop (suc i) items ≡ control_order = sym (around items i which low at) ∙ is in
    record {
      why = elim why.why [
        | inl fault ↦ inl fault
        | inr first ↦ inr (subst (λ l. IsFirst (map fine l) limits s stop new) here (stops (take i items) which (drop (suc i) items) limits s stop new all (subst (λ u. IsFirst (fine which ∷ []) limits u stop new) same first)))
      ];
    }

-- the temps are files or absent where the control places are fine
pub temps_fine : (limits : Limits) (s : Story) → AllPass guards limits s → (which : Temp) → IsFileOrAbsent (disk_of s) (temp_spot which)
temps_fine limits s all Intent = all.1.0
temps_fine limits s all Manifest = all.1.1.0
temps_fine limits s all Profile = all.1.1.1.0

pub temps_fine_first : (limits : Limits) (s : Story) → AllPass start limits s → (which : Temp) → IsFileOrAbsent (disk_of s) (temp_spot which)
temps_fine_first limits s all Intent = all.1.0
temps_fine_first limits s all Manifest = all.1.1.0
temps_fine_first limits s all Profile = all.1.1.1.0

-- so is each control place
pub control_fine : (limits : Limits) (s : Story) → AllPass guards limits s → (which : Control) → IsFine (disk_of s) which
control_fine limits s all control.Intent = all.0
control_fine limits s all control.IntentTemp = all.1.0
control_fine limits s all control.ManifestTemp = all.1.1.0
control_fine limits s all control.ProfileTemp = all.1.1.1.0
control_fine limits s all control.Profile = all.1.1.1.1.0
control_fine limits s all control.Manifest = all.1.1.1.1.1.0

pub control_fine_first : (limits : Limits) (s : Story) → AllPass start limits s → (which : Control) → IsFine (disk_of s) which
control_fine_first limits s all control.Intent = all.0
control_fine_first limits s all control.IntentTemp = all.1.0
control_fine_first limits s all control.ManifestTemp = all.1.1.0
control_fine_first limits s all control.ProfileTemp = all.1.1.1.0
control_fine_first limits s all control.Profile = all.1.1.1.1.0
control_fine_first limits s all control.Manifest = all.1.1.1.1.1.0

-- some limits, where none matter
pub any_limits : Limits
any_limits = record { mods = 0; entries = 0; text = 0 }

-- the place with an index stops the command, and those before it are fine
pub unguarded_at : (items : List Control) (i : ℕ) (which : Control) (limits : Limits) (s t : Story) (stop : Stop) (new : Story) → items ≡ control_order → i < length items → t ≡ s → AllByRecursion (IsFine (disk_of s)) (take i items)
    → IsWhy (fine (get_or items i which) ∷ []) limits t stop new → IsWhy guards limits s stop new
unguarded_at items i which limits s t stop new is low same all why = unguarded items i (get_or items i which) limits s t stop new is low (get_or-any items i which (get_or items i which) low) same all why

-- the place with an index is fine, and those before it
pub fine_next : (items : List Control) (i : ℕ) (which : Control) (limits : Limits) (s t new : Story) (v : Unit {0}) → i < length items → t ≡ s → AllByRecursion (IsFine (disk_of s)) (take i items)
    → Passed (fine (get_or items i which) ∷ []) limits t new Nothing v → AllByRecursion (IsFine (disk_of s)) (take (i + 1) items)
fine_next items i which limits s t new v low same all passed = all_next (IsFine (disk_of s)) items i which low all (subst (λ u. IsFine (disk_of u) (get_or items i which)) same passed.all.0)
