-- The plan of a deployment, as a step.
use Rattle.std.proofs.Common.{◌≡◌, ◌⊎◌, ℕ, Bool, true, false, cond, List, [], ◌∷◌, map, unwrap_or, refl, sym, ap, ◌∙◌, inl, inr, subst}
use Rattle.std.specs.List.{AllByRecursion, Contains}
use Rattle.std.specs.List.Sorted.{IsStrictlySortedBy}
use Rattle.std.specs.Str.{bytes_eq}
use Rattle.std.specs.declared.option.Option.{Option}
use Rattle.std.specs.declared.option.Option.TheVariants.{None, Some}
use Rattle.std.specs.declared.result.Result.TheVariants.{Ok}
use Rattle.tree_fs.specs.declared.name.Kind.TheVariants.{File}
use Rattle.tree_fs.specs.Disk.{Disk, IsFile, kind_of}
use Rattle.tree_fs.specs.Places.{staged_spot}
use Rattle.tree_fs.specs.Story.{Story, disk_of}
use Rattle.tree_fs.proofs.KindOf.{kind-file}
use Rattle.list_laws.proofs.Alls.{all_item, all_map, all_from_contains}
use Rattle.list_laws.proofs.Containing.{contains_here, contains_there}
use Rattle.list_laws.proofs.Texts.{bytes_eq_tells}
use Rattle.list_laws.proofs.Truths.{some_is}
use Rattle.stage_scan.specs.declared.scan.Scan.{Scan}
use Rattle.stage_scan.specs.declared.placed.Sources.{Sources}
use Rattle.stage_scan.specs.Placed.{target}
use Rattle.stage_scan.specs.Walks.{IsScan}
use Rattle.winner_table.specs.declared.wins.WinRow.{WinRow}
use Rattle.manifest_json.specs.declared.manifest.Row.{Row}
use Rattle.manifest_json.specs.declared.manifest.Manifest.{Manifest}
use Rattle.manifest_json.specs.Sound.{AreRows}
use Rattle.move_plan.specs.declared.plan.Plan.{Plan}
use Rattle.desk_model.specs.Deployed.{Win, won_spot}
use Rattle.desk_model.specs.Records.{rows_of, own_of, rows_on}
use Rattle.plan_model.specs.Rows.{old_of}
use Rattle.deploy_plan.specs.declared.error.PlanError.{PlanError}
use Rattle.deploy_plan.specs.declared.error.PlanError.TheVariants.{ChangesFound, Turned, Blocked, BackupTaken, Failed, Memory}
use Rattle.deploy_plan.specs.Plans.{DeployPlan}
use Rattle.deploy_plan.specs.Refusals.{IsPlanRefusal, IsRefusal, NoRefusal}
use Rattle.deploy_plan.specs.Sources.{AreFrom, source_at, source_in, win_from, wins_of}
use Rattle.purge_run.specs.declared.error.PurgeError.{PurgeError}
use Rattle.purge_run.specs.declared.error.PurgeError.TheVariants as purge_error
use Rattle.purge_run.specs.Plans.{IsPurgePlan}
use Rattle.purge_run.specs.Refusals as purge
use Rattle.command_steps.specs.declared.limits.Limits.{Limits}
use Rattle.command_steps.specs.declared.look.Looked.{Looked}
use Rattle.command_steps.specs.Stops.{IsFault, plan_stop, purge_stop}
use Rattle.command_steps.specs.Manifests.{HasManifest}
use Rattle.command_steps.specs.Scans.{placed_scans}
use Rattle.command_steps.specs.Looks.{HasWins}
use Rattle.command_steps.specs.Found.{IsLooked}
use Rattle.command_steps.specs.Plans.{HasPlan, HasPurgePlan}
use Rattle.command_steps.specs.Steps.{planned, purged}
use Rattle.command_steps.specs.Orders.{IsWhy, Takes}

-- The manifest that there is, or the one without rows

pub old_there : (d : Disk) (m : Manifest) → HasManifest d (Some m) → m ≡ old_of d
old_there d m has = λ i. record { rows = ap rows_of (sym has) i; folders = ap own_of (sym has) i }

pub old_none : (d : Disk) (m : Manifest) → HasManifest d None → m.rows ≡ [] → m.folders ≡ [] → m ≡ old_of d
old_none d m has rows folders = λ i. record { rows = (rows ∙ ap rows_of (sym has)) i; folders = (folders ∙ ap own_of (sym has)) i }

none_are : AreRows []
unfolding IsStrictlySortedBy
none_are = record { good = tt; rise = tt; flat = tt; apart = tt }

pub no_rows_are : (rows : List Row) → rows ≡ [] → AreRows rows
no_rows_are rows is = subst AreRows (sym is) none_are

-- The winners

pub has_wins : (d : Disk) (found : Looked) → IsLooked d found → HasWins d (wins_of found.scans.items found.sources.items found.wins.items)
has_wins d found is = record {
  look = is.look;
  is_look = is.is;
  rows = found.wins.items;
  are_wins = is.wins;
  sources = found.sources.items;
  are_sources = is.sources;
  with_sources = ap (λ s. wins_of s found.sources.items found.wins.items) is.scans;
}

-- the source of a file is one of the sources
at_in : (files own : List (List ℕ)) (path s : List ℕ) → source_at files own path ≡ Some s → Contains own s
at_in [] own path s e = absurd (cc)
at_in (p ∷ ps) [] path s e = absurd (cc)
at_in (p ∷ ps) (x ∷ xs) path s e = by (bytes_eq p path) (at_in ps xs path s) e
  where
    by : (b : Bool) → (source_at ps xs path ≡ Some s → Contains xs s) → cond b (Some x) (source_at ps xs path) ≡ Some s → Contains (x ∷ xs) s
    by true later h = let is : x ≡ s = cc in subst (Contains (x ∷ xs)) is (contains_here x xs)
    by false later h = contains_there x s xs (later h)

abbrev items_of : List Sources → List (List (List ℕ))
items_of sources = map (λ s. s.paths.items) sources

abbrev files_of : List Scan → List (List (List ℕ))
files_of scans = map (λ s. s.files) scans

module _ (d : Disk) (id path : List ℕ) where
  source_file : (bases : List (Option (List ℕ))) (scans : List Scan) (sources : List Sources) (s : List ℕ) → AllByRecursion (λ x. IsScan d x.mod_id x) scans → items_of sources ≡ files_of scans
      → source_in (placed_scans bases scans) sources id path ≡ Some s → IsFile d (staged_spot id s)
  source_file [] scans sources s each same e = absurd (cc)
  source_file (b ∷ bases) [] sources s each same e = absurd (cc)
  source_file (b ∷ bases) (x ∷ scans) [] s each same e = absurd (cc)
  source_file (b ∷ bases) (x ∷ scans) (o ∷ sources) s each same e =
      let own : o.paths.items ≡ x.files = cc in
      let others : items_of sources ≡ files_of scans = cc in
      let Found : Bool → Type 0 = λ t. cond t (source_at (map (target b) x.files) o.paths.items path) (source_in (placed_scans bases scans) sources id path) ≡ Some s in
      elim (bytes_eq_tells x.mod_id id) [
        | inl t ↦
            let among : Contains x.files s = subst (λ l. Contains l s) own (at_in (map (target b) x.files) o.paths.items path s (subst Found t.0 e)) in
            subst (λ i. IsFile d (staged_spot i s)) t.1 (kind-file d (staged_spot x.mod_id s) (all_item (λ p. kind_of d (staged_spot x.mod_id p) ≡ File) x.files s each.0.files.each among)).1
        | inr t ↦ source_file bases scans sources s each.1 others (subst Found t.0 e)
      ]

-- each winner's source is a file
pub staged : (d : Disk) (found : Looked) → IsLooked d found → AreFrom found.scans.items found.sources.items found.wins.items → AllByRecursion (λ w. IsFile d (won_spot w)) (wins_of found.scans.items found.sources.items found.wins.items)
staged d found is from = all_map (λ (w : Win). IsFile d (won_spot w)) (λ row. win_from row (unwrap_or (source_in found.scans.items found.sources.items row.mod_id row.path) [])) found.wins.items (all_from_contains _ found.wins.items one)
  where
    one : (row : WinRow) → Contains found.wins.items row → IsFile d (won_spot (win_from row (unwrap_or (source_in found.scans.items found.sources.items row.mod_id row.path) [])))
    one row c =
        let s = some_is (source_in found.scans.items found.sources.items row.mod_id row.path) (all_item _ found.wins.items row from c) in
        subst (λ o. IsFile d (staged_spot row.mod_id (unwrap_or o []))) (sym s.1)
        (source_file d row.mod_id row.path _ is.look.scans found.sources.items s.0 is.is.scans.each is.sources (subst (λ l. source_in l found.sources.items row.mod_id row.path ≡ Some s.0) is.scans s.1))

-- The step

plan_told : (e : PlanError) → IsRefusal e ⊎ IsFault (plan_stop e)
plan_told (ChangesFound first count) = inl tt
plan_told (Turned path) = inl tt
plan_told (Blocked place) = inl tt
plan_told (BackupTaken path) = inl tt
plan_told Failed = inr tt
plan_told Memory = inr tt

module _ (limits : Limits) (s t : Story) (old : Manifest) (wins : List Win) (stays : t ≡ s) (has : HasWins (disk_of s) wins) (is_old : old ≡ old_of (disk_of s)) where
  rows_are : old.rows ≡ rows_on (disk_of s)
  rows_are = ap (λ (m : Manifest). m.rows) is_old

  pub plan_why : (e : PlanError) → IsPlanRefusal (disk_of s) old.rows wins e → IsWhy (planned ∷ []) limits s (plan_stop e) t
  plan_why e refused = elim (plan_told e) [
    | inl told ↦ record { why = inr (inl ((wins, has, e, told, subst (λ r. IsPlanRefusal (disk_of s) r wins e) rows_are refused, refl), stays)) }
    | inr fault ↦ record { why = inl fault }
  ]

  pub plan_passes : {V : Type 0} (plan : Plan) (G : V → Type 0) (v : V) → DeployPlan (disk_of s) old wins plan → NoRefusal (disk_of s) old.rows wins → (HasPlan (disk_of s) plan → G v) → Takes (planned ∷ []) limits s t G (Ok v)
  plan_passes plan G v is none gives = record {
    passed = record {
      all = ((wins, has, subst (λ r. NoRefusal (disk_of s) r wins) rows_are none), tt);
      story = stays;
      gives = gives (record { wins = wins; has_wins = has; is = subst (λ m. DeployPlan (disk_of s) m wins plan) is_old is });
    };
    stopped = tt;
  }

-- A purge, as a step

purge_told : (e : PurgeError) → purge.IsRefusal e ⊎ IsFault (purge_stop e)
purge_told (purge_error.Blocked place) = inl tt
purge_told purge_error.AsideFull = inl tt
purge_told purge_error.Failed = inr tt
purge_told purge_error.Memory = inr tt

module _ (limits : Limits) (s t : Story) (old : Manifest) (stays : t ≡ s) (is_old : old ≡ old_of (disk_of s)) where
  purge_rows : old.rows ≡ rows_on (disk_of s)
  purge_rows = ap (λ (m : Manifest). m.rows) is_old

  pub purge_why : (e : PurgeError) → purge.IsPurgeRefusal (disk_of s) old.rows e → IsWhy (purged ∷ []) limits s (purge_stop e) t
  purge_why e refused = elim (purge_told e) [
    | inl told ↦ record { why = inr (inl ((e, told, subst (λ r. purge.IsPurgeRefusal (disk_of s) r e) purge_rows refused, refl), stays)) }
    | inr fault ↦ record { why = inl fault }
  ]

  pub purge_passes : (plan : Plan) → IsPurgePlan (disk_of s) old plan → purge.NoRefusal (disk_of s) old.rows → Takes (purged ∷ []) limits s t (HasPurgePlan (disk_of s)) (Ok plan)
  purge_passes plan is open_way = record {
    passed = record {
      all = (subst (purge.NoRefusal (disk_of s)) purge_rows open_way, tt);
      story = stays;
      gives = subst (λ m. IsPurgePlan (disk_of s) m plan) is_old is;
    };
    stopped = tt;
  }
