-- The winners of the provided paths, as a step.
use Rattle.std.proofs.Common.{◌≡◌, ℕ, List, [], ◌∷◌, map, refl, sym, ap, ◌∙◌, subst, inl, inr}
use Rattle.std.specs.List.{AllByRecursion}
use Rattle.std.specs.declared.result.Result.{Result}
use Rattle.std.specs.declared.result.Result.TheVariants.{Ok, Err}
use Rattle.std.specs.Result.{IfOk}
use Rattle.std.proofs.Common.{Vec, Global}
use Rattle.tree_fs.specs.Story.{Story, disk_of}
use Rattle.list_laws.proofs.Alls.{all_weaken}
use Rattle.list_laws.proofs.Containing.{contains_map, map_contains}
use Rattle.profile_toml.specs.Plain.{plain_override}
use Rattle.profile_toml.specs.Records.{ProfileData, OverrideData}
use Rattle.stage_scan.specs.declared.scan.Scan.{Scan}
use Rattle.winner_table.specs.declared.error.WinError.{WinError}
use Rattle.winner_table.specs.declared.error.WinError.TheVariants.{FileAndFolder, Memory}
use Rattle.winner_table.specs.declared.wins.By.{By}
use Rattle.winner_table.specs.declared.wins.By.TheVariants.{Override, Order}
use Rattle.winner_table.specs.declared.wins.WinRow.{WinRow}
use Rattle.winner_table.specs.Winners.{IsOverridden, IsWinner, AreWinners, paths_of}
use Rattle.winner_table.specs.Folders.{AreApart, IsWinError}
use Rattle.command_steps.specs.declared.limits.Limits.{Limits}
use Rattle.command_steps.specs.Stops.{win_stop}
use Rattle.command_steps.specs.Looks.{Look, IsLook, AreWins, placed}
use Rattle.command_steps.specs.Steps.{winners}
use Rattle.command_steps.specs.Orders.{IsWhy, Takes}

module _ (scans : List Scan) (order : List ℕ) (os : List OverrideData) where
  from_plain : (path id : List ℕ) → IsOverridden scans order (map (λ o. plain_override o.path o.mod_id) os) path id → IsOverridden scans order os path id
  from_plain path id is =
      let found = contains_map (λ (o : OverrideData). plain_override o.path o.mod_id) os is.entry is.among in
      record { entry = found.0; among = found.1; at = ap (λ (o : OverrideData). o.path) found.2 ∙ is.at; to = ap (λ (o : OverrideData). o.mod_id) found.2 ∙ is.to; provides = is.provides }

  to_plain : (path id : List ℕ) → IsOverridden scans order os path id → IsOverridden scans order (map (λ o. plain_override o.path o.mod_id) os) path id
  to_plain path id is = record { entry = plain_override is.entry.path is.entry.mod_id; among = map_contains (λ (o : OverrideData). plain_override o.path o.mod_id) os is.entry is.among; at = is.at; to = is.to; provides = is.provides }

  winner : (path id : List ℕ) (by : By) → IsWinner scans order (map (λ o. plain_override o.path o.mod_id) os) path id by → IsWinner scans order os path id by
  winner path id Override is = from_plain path id is
  winner path id Order is = record { free = λ other over. is.free other (to_plain path other over); front = is.front; node = is.node; last = is.last; is = is.is }

  -- unknown keys of overrides decide nothing
  pub plain_winners : (all : List OverrideData) (rows : List WinRow) → all ≡ map (λ o. plain_override o.path o.mod_id) os → AreWinners scans order all rows → AreWinners scans order os rows
  plain_winners all rows is won =
      let same : AreWinners scans order (map (λ o. plain_override o.path o.mod_id) os) rows = subst (λ l. AreWinners scans order l rows) is won in
      record {
        order_of_paths = same.order_of_paths;
        each = all_weaken (λ (r : WinRow). IsWinner scans order (map (λ o. plain_override o.path o.mod_id) os) r.path r.mod_id r.by) (λ (r : WinRow). IsWinner scans order os r.path r.mod_id r.by) rows (λ r. winner r.path r.mod_id r.by) same.each;
        whole = same.whole;
      }

module _ (limits : Limits) (s : Story) (look : Look) (is : IsLook (disk_of s) look) (p : ProfileData) (order : List ℕ) (scans : List Scan)
    (same_p : p ≡ look.profile) (same_order : order ≡ look.order) (same_scans : scans ≡ placed look) where
  are_wins : (rows : List WinRow) → AreWinners scans order p.overrides rows → AreApart (paths_of rows) → AreWins look rows
  are_wins rows won apart = record {
    winners = subst (λ (q : ProfileData). AreWinners (placed look) look.order q.overrides rows) same_p (subst (λ o. AreWinners (placed look) o p.overrides rows) same_order (subst (λ z. AreWinners z order p.overrides rows) same_scans won));
    apart = apart;
  }

  pub winners_pass : {V : Type 0} (rows : List WinRow) (G : V → Type 0) (v : V) → AreWinners scans order p.overrides rows → AreApart (paths_of rows) → (AreWins look rows → G v) → Takes (winners ∷ []) limits s s G (Ok v)
  winners_pass rows G v won apart gives = record { passed = record { all = ((look, is, rows, are_wins rows won apart), tt); story = refl; gives = gives (are_wins rows won apart) }; stopped = tt }

  pub winners_stop : (e : WinError) → IsWinError scans order e → IsWhy (winners ∷ []) limits s (win_stop e) s
  winners_stop (FileAndFolder path) folder = record { why = inr (inl ((look, is, path, subst (λ o. IsWinError (placed look) o (FileAndFolder path)) same_order (subst (λ z. IsWinError z order (FileAndFolder path)) same_scans folder), refl), refl)) }
  winners_stop Memory folder = record { why = inl tt }

-- Overrides at their paths

pub paths_are_keys : (es : List (List ℕ × OverrideData)) → AllByRecursion (λ e. e.0 ≡ e.1.path) es → map (λ (o : OverrideData). o.path) (map (λ (e : List ℕ × OverrideData). plain_override e.1.path e.1.mod_id) es) ≡ map (λ (e : List ℕ × OverrideData). e.0) es
paths_are_keys [] all = refl
paths_are_keys (e ∷ es) all = λ i. sym all.0 i ∷ paths_are_keys es all.1 i

pub all_plain : (es : List (List ℕ × OverrideData)) → map (λ (e : List ℕ × OverrideData). plain_override e.1.path e.1.mod_id) es ≡ map (λ (o : OverrideData). plain_override o.path o.mod_id) (map (λ (e : List ℕ × OverrideData). e.1) es)
all_plain [] = refl
all_plain (e ∷ es) = ap (λ l. plain_override e.1.path e.1.mod_id ∷ l) (all_plain es)

pub plain_all : {E : Type 0} (r : Result (Vec OverrideData Global) E) (es : List (List ℕ × OverrideData)) (os : List OverrideData) → map (λ (e : List ℕ × OverrideData). e.1) es ≡ os
    → IfOk r (λ all. all.items ≡ map (λ (e : List ℕ × OverrideData). plain_override e.1.path e.1.mod_id) es) → IfOk r (λ all. all.items ≡ map (λ (o : OverrideData). plain_override o.path o.mod_id) os)
plain_all (Ok all) es os same is = is ∙ all_plain es ∙ ap (map (λ (o : OverrideData). plain_override o.path o.mod_id)) same
plain_all (Err e) es os same is = tt
