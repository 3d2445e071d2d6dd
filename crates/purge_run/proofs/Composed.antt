-- The lists of what was found, put together to the plan of a purge.
use Rattle.std.proofs.Common.{◌≡◌, ◌<◌, ◌↔◌, ℕ, Bool, List, [], ◌∷◌, map, filter_map, refl, sym, subst}
use Rattle.std.specs.List.{Contains, AllByRecursion}
use Rattle.std.specs.declared.option.Option.TheVariants.{None}
use Rattle.list_laws.proofs.Alls.{all_append}
use Rattle.list_laws.proofs.Containing.{contains_here}
use Rattle.tree_fs.specs.Spot.{Spot, spot_of}
use Rattle.tree_fs.specs.Places.{game_spot}
use Rattle.tree_fs.specs.Disk.{Disk}
use Rattle.backup_keep.specs.Places.{aside_folder}
use Rattle.manifest_json.specs.declared.manifest.Manifest.{Manifest}
use Rattle.move_plan.specs.declared.plan.Plan.{Plan}
use Rattle.move_plan.specs.Entries.{Listed, listed, folder, save, set, clear}
use Rattle.move_plan.specs.Places.{Has}
use Rattle.move_plan.specs.Rising.{AreRising}
use Rattle.move_plan.specs.Rules.{InOrder, KeepsRule, in_order}
use Rattle.plan_model.specs.Moves.{LaidOut}
use Rattle.plan_model.specs.Lists.{spotted, ends_of}
use Rattle.plan_model.specs.Folders.{IsMade}
use Rattle.plan_lists.specs.Off.{GoesByOwn, AreParted}
use Rattle.plan_lists.specs.Order.{HasSameSpots}
use Rattle.plan_lists.specs.Search.{AreFalling}
use Rattle.plan_lists.proofs.Gathered.{map_itself}
use Rattle.plan_lists.proofs.Ordered.{rising_listed, falling_listed, has_is, offs_are}
use Rattle.purge_run.specs.declared.lists.Which.TheVariants.{Restored, Emptied}
use Rattle.purge_run.specs.Holds.{purge_moves}
use Rattle.purge_run.specs.Walk.{purge_sets, purge_saves, purge_clears}
use Rattle.purge_run.specs.Plans.{CanPurge, PurgePlan}
use Rattle.purge_run.specs.Refusals.{SetsSomeAside}
use Rattle.purge_run.specs.MadeFolders.{AreAsideFolders}
use Rattle.purge_run.specs.Told.{told, told_aside, told_place}
use Rattle.purge_run.proofs.PurgeWalks.{laid_by_pass, sets_ordered, saves_ordered}
use Rattle.purge_run.proofs.Made.{made-missing, missing-made}
use Rattle.purge_run.proofs.MadeAside.{aside_missing}
use Rattle.purge_run.proofs.Passed.{restored_are, emptied_are}
use Rattle.purge_run.proofs.Tied.{goes_by_own}

-- the lists of a plan, as the functions make them
pub record AreLists (a : Disk) (old : Manifest) (n : ℕ) (plan : Plan) : Type 0 where
  pub is_there : Bool
  pub there : SetsSomeAside a old.rows → is_there ≡ a.folders aside_folder
  pub restored : List (List ℕ)
  pub emptied : List (List ℕ)
  pub kept : List (List ℕ)
  pub gone : List (List ℕ)
  pub sets : map spotted plan.sets ≡ purge_sets a n old.rows
  pub saves : map ends_of plan.saves ≡ purge_saves a n old.rows
  pub clears : HasSameSpots (map spot_of plan.clears) (purge_clears a old.rows)
  pub clears_rise : AreRising plan.clears
  pub made_order : AllByRecursion (λ (e : Listed). InOrder e.entry e.front) (listed folder 0 None plan.folders)
  pub made : AreAsideFolders is_there (filter_map (told_aside n) (map (told a) old.rows)) (map spot_of plan.folders)
  pub restored_same : HasSameSpots (map game_spot restored) (filter_map (told_place Restored) (map (told a) old.rows))
  pub emptied_same : HasSameSpots (map game_spot emptied) (filter_map (told_place Emptied) (map (told a) old.rows))
  pub parted : (p : Plan) → GoesByOwn a old.folders restored emptied p → AreParted a old.folders restored p old.folders kept gone
  pub offs : map spot_of plan.folders_off ≡ map game_spot gone
  pub falling : AreFalling gone

module _ (a : Disk) (old : Manifest) (n : ℕ) (small : n < 4294967296) (can : CanPurge a old n) (plan : Plan) (l : AreLists a old n plan) where
  order : KeepsRule in_order plan
  order =
      all_append (λ (e : Listed). InOrder e.entry e.front) (listed folder 0 None plan.folders) _ l.made_order
      (all_append (λ (e : Listed). InOrder e.entry e.front) (listed save 0 None plan.saves) _ (saves_ordered a old.rows n plan can.rows.rise small l.saves)
      (all_append (λ (e : Listed). InOrder e.entry e.front) (listed set 0 None plan.sets) _ (sets_ordered a old.rows n plan can.rows.rise l.sets)
      (all_append (λ (e : Listed). InOrder e.entry e.front) (listed clear 0 None plan.clears) _
      (rising_listed clear (λ p. p) (λ p front h. h) (λ p. refl) plan.clears (subst AreRising (sym (map_itself plan.clears)) l.clears_rise))
      (falling_listed plan.folders_off l.gone l.offs l.falling))))

  laid : LaidOut (purge_moves a old.rows n) plan
  laid = laid_by_pass a old.rows n plan can.rows.rise l.sets l.saves l.clears order

  by : GoesByOwn a old.folders l.restored l.emptied plan
  by = goes_by_own a old n can plan laid l.restored l.emptied (restored_are a old.rows l.restored l.restored_same) (emptied_are a old.rows l.emptied l.emptied_same)

  made_is : (s : Spot) → Has plan.folders s ↔ IsMade a plan s
  made_is s = (
    λ h. missing-made a old n can plan laid s ((aside_missing a old n can l.is_there l.there s).0 ((l.made s).0 ((has_is plan.folders s).0 h))),
    λ m. (has_is plan.folders s).1 ((l.made s).1 ((aside_missing a old n can l.is_there l.there s).1 (made-missing a old n can plan laid s m))),
  )

  pub planned : plan.manifest ≡ None → PurgePlan a old n plan
  planned none = record {
    moves = laid;
    folders = record { made = made_is; off = offs_are a old.folders l.restored l.emptied plan by l.kept l.gone (l.parted plan by) l.offs };
    manifest = none;
  }

-- Lists of nothing

pub nothing_in : {X : Type 0} (xs : List X) → ((x : X) → Contains xs x → ⊥) → xs ≡ []
nothing_in [] h = refl
nothing_in (x ∷ xs) h = absurd (h x (contains_here x xs))

pub map_none : {X Y : Type 0} (f : X → Y) (xs : List X) → map f xs ≡ [] → xs ≡ []
map_none f [] e = refl
map_none f (x ∷ xs) e = absurd (cc)
