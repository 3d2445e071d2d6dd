-- The lists of the walk, put together to the plan of a deployment.
use Rattle.std.proofs.Common.{◌≡◌, ◌⊎◌, ◌↔◌, ℕ, List, ◌++◌, map, filter_map, refl, sym, subst, inl, inr}
use Rattle.std.specs.List.{Contains}
use Rattle.std.specs.declared.option.Option.TheVariants.{None, Some}
use Rattle.std.proofs.lemmas.List.Elements.{Contains-append_left, Contains-append_right, Contains-append_cases}
use Rattle.list_laws.proofs.Alls.{all_append}
use Rattle.tree_fs.specs.Spot.{Spot, spot_of}
use Rattle.tree_fs.specs.Places.{game_spot}
use Rattle.tree_fs.specs.Disk.{Disk}
use Rattle.stage_scan.specs.Files.{HasSamePaths}
use Rattle.manifest_json.specs.declared.manifest.Manifest.{Manifest}
use Rattle.manifest_json.specs.Paths as paths
use Rattle.move_plan.specs.declared.plan.Plan.{Plan}
use Rattle.move_plan.specs.Entries.{Listed, listed, folder, save, set, clear}
use Rattle.move_plan.specs.Places.{Has}
use Rattle.move_plan.specs.Rising.{AreRising}
use Rattle.move_plan.specs.Rules.{InOrder, KeepsRule, in_order}
use Rattle.desk_model.specs.Deployed.{Win}
use Rattle.plan_model.specs.Moves.{LaidOut}
use Rattle.plan_model.specs.Lists.{spotted, ends_of}
use Rattle.plan_model.specs.Folders.{IsMade, GoesOff, OwnLaidOut}
use Rattle.deploy_plan.specs.Cases.{deploy_moves, next_row}
use Rattle.deploy_plan.specs.Wins.{won_paths}
use Rattle.deploy_plan.specs.Walk.{merged, walked_sets, walked_saves, walked_clears}
use Rattle.deploy_plan.specs.Missing.{AreNoted}
use Rattle.deploy_plan.specs.Plans.{CanDeploy, DeployPlan}
use Rattle.deploy_plan.specs.Told.{told, told_emptied}
use Rattle.plan_lists.specs.Off.{GoesByOwn, AreParted}
use Rattle.deploy_plan.specs.Order.{HasSameEnds}
use Rattle.plan_lists.specs.Order.{HasSameSpots}
use Rattle.plan_lists.specs.Search.{AreFalling}
use Rattle.plan_lists.proofs.Gathered.{map_itself}
use Rattle.deploy_plan.proofs.LaidByWalk.{laid_by_walk, sets_ordered}
use Rattle.plan_lists.proofs.Ordered.{placed_rise, rising_listed, falling_listed, same_spots, has_is, offs_are}
use Rattle.deploy_plan.proofs.StepFacts.{emptied_are, EmptiedAt}
use Rattle.deploy_plan.proofs.FoldersTied.{goes_by_own, made_are, own_laid_out}

-- the lists of a plan, as the functions make them
pub record AreLists (a : Disk) (old : Manifest) (wins : List Win) (plan : Plan) (next : List (List ℕ)) : Type 0 where
  pub missing : List (List ℕ)
  pub made : List (List ℕ)
  pub emptied : List (List ℕ)
  pub kept : List (List ℕ)
  pub off : List (List ℕ)
  pub sets : map spotted plan.sets ≡ walked_sets a old.rows wins
  pub saves : HasSameEnds (map ends_of plan.saves) (walked_saves a old.rows wins)
  pub saves_rise : AreRising (map (λ s. s.1) plan.saves)
  pub clears : HasSameSpots (map spot_of plan.clears) (walked_clears a old.rows wins)
  pub clears_rise : AreRising plan.clears
  pub noted : AreNoted a (merged old.rows wins) missing
  pub made_same : HasSamePaths missing made
  pub made_rise : paths.AreRising made
  pub folders : map spot_of plan.folders ≡ map game_spot made
  pub emptied_same : HasSameSpots (map game_spot emptied) (filter_map told_emptied (map (told a) (merged old.rows wins)))
  pub parted : (p : Plan) → GoesByOwn a old.folders (won_paths wins) emptied p → AreParted a old.folders (won_paths wins) p old.folders kept off
  pub offs : map spot_of plan.folders_off ≡ map game_spot off
  pub falling : AreFalling off
  pub next_same : HasSamePaths (kept ++ made) next
  pub next_rise : paths.AreRising next

module _ (a : Disk) (old : Manifest) (wins : List Win) (can : CanDeploy a old wins) (plan : Plan) (next : List (List ℕ)) (l : AreLists a old wins plan next) where
  order : KeepsRule in_order plan
  order =
      all_append (λ (e : Listed). InOrder e.entry e.front) (listed folder 0 None plan.folders) _
      (rising_listed folder (λ p. p) (λ p front h. h) (λ p. refl) plan.folders (subst AreRising (sym (map_itself plan.folders)) (placed_rise plan.folders l.made l.folders l.made_rise)))
      (all_append (λ (e : Listed). InOrder e.entry e.front) (listed save 0 None plan.saves) _
      (rising_listed save (λ s. s.1) (λ s front h. h) (λ s. refl) plan.saves l.saves_rise)
      (all_append (λ (e : Listed). InOrder e.entry e.front) (listed set 0 None plan.sets) _
      (sets_ordered a old.rows wins can.rows.rise can.won.rise plan l.sets)
      (all_append (λ (e : Listed). InOrder e.entry e.front) (listed clear 0 None plan.clears) _
      (rising_listed clear (λ p. p) (λ p front h. h) (λ p. refl) plan.clears (subst AreRising (sym (map_itself plan.clears)) l.clears_rise))
      (falling_listed plan.folders_off l.off l.offs l.falling))))

  laid : LaidOut (deploy_moves a old.rows wins) plan
  laid = laid_by_walk a old.rows wins can.rows.rise can.won.rise plan l.sets l.saves l.clears order

  emptied_is : (x : Spot) → Contains (map game_spot l.emptied) x ↔ EmptiedAt a old.rows wins can.rows.rise can.won.rise x
  emptied_is x = (
    λ c. (emptied_are a old.rows wins can.rows.rise can.won.rise x).0 ((l.emptied_same x).0 c),
    λ h. (l.emptied_same x).1 ((emptied_are a old.rows wins can.rows.rise can.won.rise x).1 h),
  )

  by : GoesByOwn a old.folders (won_paths wins) l.emptied plan
  by = goes_by_own a old wins can plan laid l.emptied emptied_is

  made : (s : Spot) → Has plan.folders s ↔ IsMade a plan s
  made s = (
    λ h. (made_are a old wins can plan laid l.missing l.noted s).0 ((same_spots l.missing l.made l.made_same s).0 (subst (λ m. Contains m s) l.folders ((has_is plan.folders s).0 h))),
    λ m. (has_is plan.folders s).1 (subst (λ m. Contains m s) (sym l.folders) ((same_spots l.missing l.made l.made_same s).1 ((made_are a old wins can plan laid l.missing l.noted s).1 m))),
  )

  gone : (s : Spot) → Has plan.folders_off s ↔ GoesOff a old.folders plan s
  gone = offs_are a old.folders (won_paths wins) l.emptied plan by l.kept l.off (l.parted plan by) l.offs

  joined : (p : List ℕ) → Contains next p ↔ Contains l.kept p ⊎ Contains l.missing p
  joined p = (
    λ c. elim (Contains-append_cases l.kept l.made p ((l.next_same p).0 c)) [ inl k ↦ inl k | inr m ↦ inr ((l.made_same p).0 m) ],
    λ h. (l.next_same p).1 (elim h [ inl k ↦ Contains-append_left l.kept l.made p k | inr m ↦ Contains-append_right l.kept l.made p ((l.made_same p).1 m) ]),
  )

  pub planned : (manifest : Manifest) → plan.manifest ≡ Some manifest → manifest.rows ≡ map (next_row a old.rows) wins → manifest.folders ≡ next → DeployPlan a old wins plan
  planned manifest is rows folders = record {
    moves = laid;
    folders = record { made = made; off = gone };
    manifest = manifest;
    is_manifest = is;
    rows = rows;
    own = subst (OwnLaidOut a old.folders plan) (sym folders) (own_laid_out a old wins can plan laid l.missing l.noted l.emptied by l.kept l.off next (l.parted plan by) joined l.next_rise);
  }
