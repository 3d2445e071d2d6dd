-- A worked disk: a mod's file where a file of the game stands. Nothing refuses, and its plan is there.
use Rattle.std.proofs.Common.{◌≡◌, ◌≢◌, ◌⊎◌, ℕ, ◌<◌, true, false, if◌then◌else◌, List, [], ◌∷◌, map, codes, refl, sym, ap, ◌∙◌, inl, inr, subst, arith}
use Rattle.std.specs.List.{Contains}
use Rattle.std.specs.List.Sorted.{IsStrictlySortedBy}
use Rattle.list_laws.proofs.Containing.{contains_none, contains_cases, contains_only}
use Rattle.rel_paths.specs.Names.{names_of, path_fault, is_reserved, extends, IsFreePath}
use Rattle.rel_paths.proofs.Extends.{extends-itself}
use Rattle.tree_fs.specs.declared.name.Kind.TheVariants.{Absent, File}
use Rattle.tree_fs.specs.declared.place.Root.TheVariants.{Stage}
use Rattle.tree_fs.specs.Spot.{Spot, spot_of, spot_eq, parent, IsBelow}
use Rattle.tree_fs.specs.Places.{game_spot}
use Rattle.tree_fs.specs.Disk.{Value, none, file, IsFile, IsValid, kind_of}
use Rattle.tree_fs.proofs.KindOf.{folder-kind}
use Rattle.backup_keep.specs.Places.{backup_spot}
use Rattle.manifest_json.specs.declared.manifest.Row.{Row}
use Rattle.manifest_json.specs.declared.manifest.Manifest.{Manifest}
use Rattle.manifest_json.specs.Sound.{AreRows, AreFolders}
use Rattle.move_plan.specs.Places.{IsDestination}
use Rattle.move_plan.specs.Rules.{in_order}
use Rattle.move_plan.specs.Sound.{SoundPlan}
use Rattle.winner_table.specs.Folders.{AreApart}
use Rattle.desk_model.specs.Places.{in_game, in_stage}
use Rattle.desk_model.specs.Records.{nothing, rows_of, own_of, manifest_of, rows_on, row_at}
use Rattle.desk_model.specs.Desk.{desk_of}
use Rattle.desk_model.specs.Deployed.{Win, Deployed}
use Rattle.desk_model.specs.Outcome.{planned}
use Rattle.desk_model.proofs.SavedAndPurged.{OneOfThree, above, wins, x_path, x_name, x_staged, now_before, folders_there, the_manifest, before}
use Rattle.desk_model.proofs.SaveBegun.{the_plan, save_plan-passes, set_to_is, save_to_is, Folder4, stage_root, game_root, keep_root, mod_b, folder4, nested, Place4, at_game, at_stage, at_backup, elsewhere, place4, root_there, test_off}
use Rattle.plan_model.specs.Rows.{old_of}
use Rattle.plan_model.specs.Folders.{IsMade, IsListed, OwnLaidOut}
use Rattle.plan_model.specs.Lists.{spotted, ends_of}
use Rattle.deploy_plan.specs.Wins.{won_paths, AreSoundWins}
use Rattle.deploy_plan.specs.Cases.{next_row}
use Rattle.deploy_plan.specs.Walk.{merged, walked_sets, walked_saves, walked_clears}
use Rattle.deploy_plan.specs.Refusals.{HasNoChanges}
use Rattle.deploy_plan.specs.Plans.{CanDeploy, DeployPlan}
use Rattle.deploy_plan.proofs.LaidByWalk.{laid_by_walk}
use Rattle.deploy_plan.proofs.DeployLeads.{deploy_leads}
use Rattle.deploy_plan.proofs.DeploySound.{deploy_sound}

nowhere : (q : Spot) → q ≢ in_game x_name → q ≢ in_stage x_staged → now_before q ≡ none
nowhere q one two = λ i. if test_off q (in_game x_name) one i then file 1 else if test_off q (in_stage x_staged) two i then file 2 else none

below_five : (n k : ℕ) → file n ≡ file k → k < 5 → n < 5
below_five n k e lt = let is : n ≡ k = cc in subst (λ m. m < 5) (sym is) lt

only_win : (w : Win) → Contains wins w → w.path ≡ x_path
only_win w c = elim (contains_cases (record { path = x_path; mod_id = codes "b"; source = x_path }) w [] c) [ inl is ↦ ap (λ (v : Win). v.path) is | inr there ↦ absurd (contains_none w there) ]

good : IsFreePath x_path
unfolding path_fault is_reserved
good = (refl, refl)

no_rows : AreRows []
unfolding IsStrictlySortedBy
no_rows = record { good = tt; rise = tt; flat = tt; apart = tt }

no_folders : AreFolders []
unfolding IsStrictlySortedBy
no_folders = record { good = tt; rise = tt }

-- one path has none below it
alone : AreApart (won_paths wins)
alone path c h = itself path h.below (contains_only x_path path c) (contains_only x_path h.below h.among) h.extending
  where
    itself : (p q : List ℕ) → p ≡ x_path → q ≡ x_path → extends q p ≡ true → ⊥
    itself p q e f x = let t : true ≡ false = sym x ∙ extends-itself q p (f ∙ sym e) in cc

above_place : (q : Spot) → Place4 q → (v : Value) → v ≡ now_before q → v ≢ none → folders_there (parent q) ≡ true
unfolding parent spot_eq
above_place q (at_game e) v is ne = subst (λ s. folders_there (parent s) ≡ true) e refl
above_place q (at_stage e) v is ne = subst (λ s. folders_there (parent s) ≡ true) e refl
above_place q (at_backup e) v is ne = subst (λ s. folders_there (parent s) ≡ true) e refl
above_place q (elsewhere one two three) v is ne = absurd (ne (is ∙ nowhere q one two))

number_at : (q : Spot) → Place4 q → (n : ℕ) → file n ≡ now_before q → n < 5
unfolding spot_eq
number_at q (at_game e) n is = below_five n 1 (is ∙ sym (ap now_before e)) (omega arith)
number_at q (at_stage e) n is = below_five n 2 (is ∙ sym (ap now_before e)) (omega arith)
number_at q (at_backup e) n is = let t : file n ≡ none = is ∙ sym (ap now_before e) in absurd (cc)
number_at q (elsewhere one two three) n is = let t : file n ≡ none = is ∙ nowhere q one two in absurd (cc)

bare : (q : Spot) → Folder4 q → now_before q ≡ none
unfolding spot_eq
bare q (stage_root e) = subst (λ s. now_before s ≡ none) e refl
bare q (game_root e) = subst (λ s. now_before s ≡ none) e refl
bare q (keep_root e) = subst (λ s. now_before s ≡ none) e refl
bare q (mod_b e) = subst (λ s. now_before s ≡ none) e refl

module _ (bytes : ℕ → List ℕ) where
  valid : IsValid (before bytes)
  valid = record {
    roots = root_there;
    nested = λ q is. nested q (folder4 q is);
    parents = parents;
    bare = λ q is. bare q (folder4 q is);
    numbers = numbers;
  }
    where
      parents : (q : Spot) (v : Value) → (v ≡ now_before q) ⊎ ⊥ → v ≢ none → folders_there (parent q) ≡ true
      parents q v (inl is) ne = above_place q (place4 q) v is ne
      parents q v (inr never) ne = absurd never

      numbers : (q : Spot) (n : ℕ) → (file n ≡ now_before q) ⊎ ⊥ → n < 5
      numbers q n (inl is) = number_at q (place4 q) n is
      numbers q n (inr never) = absurd never

  told : manifest_of (before bytes) ≡ nothing
  unfolding spot_eq
  told = refl

  no_row : (r : Row) → Contains (rows_on (before bytes)) r → ⊥
  no_row r c = contains_none r (subst (λ m. Contains (rows_of m) r) told c)

  staged : IsFile (before bytes) (record { root = Stage; names = codes "b" ∷ names_of x_path })
  unfolding spot_eq
  staged = (2, refl)

  won : AreSoundWins (before bytes) wins
  unfolding IsStrictlySortedBy
  won = record { good = (good, tt); rise = (tt, tt); apart = alone; staged = (staged, tt) }

  file_here : kind_of (before bytes) (in_game x_name) ≡ File
  unfolding spot_eq
  file_here = refl

  absent_behind : kind_of (before bytes) (backup_spot x_path) ≡ Absent
  unfolding spot_eq
  absent_behind = refl

  abbrev old : Manifest
  old = old_of (before bytes)

  rows_none : old.rows ≡ []
  rows_none = ap rows_of told

  own_none : old.folders ≡ []
  own_none = ap own_of told

  no_changes : HasNoChanges (before bytes) []
  no_changes = record { unblocked = refl; clean = refl }

  pub can : CanDeploy (before bytes) old wins
  can = record {
    valid = valid;
    rows = subst AreRows (sym rows_none) no_rows;
    own = subst AreFolders (sym own_none) no_folders;
    won = won;
    passes = record {
      changes = subst (HasNoChanges (before bytes)) (sym rows_none) no_changes;
      turned = λ path c t. no_row t.row t.listed;
      walk = record {
        behind = λ r c. absurd (no_row r c);
        parents = λ w h s b. inr (folder-kind (before bytes) s (above (in_game x_name) s (inl refl) (subst (λ p. IsBelow s (game_spot p)) (only_win w h.0) b)));
        place = λ w h. inr (ap (λ p. kind_of (before bytes) (game_spot p)) (only_win w h.0) ∙ file_here);
        free = λ w h is. ap (λ p. kind_of (before bytes) (backup_spot p)) (only_win w h.0) ∙ absent_behind;
      };
    };
  }

  same_sets : map spotted (the_plan bytes).sets ≡ walked_sets (before bytes) old.rows wins
  unfolding spot_eq merged
  same_sets = refl

  same_saves : map ends_of (the_plan bytes).saves ≡ walked_saves (before bytes) old.rows wins
  unfolding spot_eq merged
  same_saves = refl

  same_clears : map spot_of (the_plan bytes).clears ≡ walked_clears (before bytes) old.rows wins
  unfolding spot_eq merged
  same_clears = refl

  one_of_three : (x : Spot) → IsDestination (the_plan bytes) x → OneOfThree x
  one_of_three x (inl is) = inl (sym (set_to_is bytes x is))
  one_of_three x (inr is) = inr (inl (sym (save_to_is bytes x is)))

  none_made : (s : Spot) → ¬ IsMade (before bytes) (the_plan bytes) s
  none_made s h = let t : true ≡ false = sym (above h.place s (one_of_three h.place h.to) h.below) ∙ h.missing in cc

  none_listed : (s : Spot) → ¬ IsListed (before bytes) old.folders (the_plan bytes) s
  none_listed s (inl h) = contains_none h.path (subst (λ l. Contains l h.path) own_none h.listed)
  none_listed s (inr h) = none_made s h.1

  made_rows : (the_manifest bytes).rows ≡ map (next_row (before bytes) old.rows) wins
  unfolding row_at spot_eq
  made_rows = refl

  own : OwnLaidOut (before bytes) old.folders (the_plan bytes) []
  unfolding IsStrictlySortedBy
  own = record { folders = λ path. (λ c. absurd (contains_none path c), λ h. absurd (none_listed (game_spot path) h.0)); order = tt }

  pub save_planned : DeployPlan (before bytes) old wins (the_plan bytes)
  save_planned = record {
    moves = laid_by_walk (before bytes) old.rows wins can.rows.rise can.won.rise (the_plan bytes) same_sets
        (λ y. (λ h. subst (λ l. Contains l y) same_saves h, λ h. subst (λ l. Contains l y) (sym same_saves) h))
        (λ x. (λ h. subst (λ l. Contains l x) same_clears h, λ h. subst (λ l. Contains l x) (sym same_clears) h))
        (save_plan-passes bytes in_order);
    folders = record {
      made = λ s. (λ h. absurd (contains_none h.place h.listed), λ h. absurd (none_made s h));
      off = λ s. (λ h. absurd (contains_none h.place h.listed), λ g. absurd (none_listed s g.listed));
    };
    manifest = the_manifest bytes;
    is_manifest = refl;
    rows = made_rows;
    own = own;
  }

  -- so the laws speak of this disk
  pub save_leads : Deployed (before bytes) wins (desk_of (planned (before bytes) (the_plan bytes)))
  save_leads = deploy_leads (before bytes) wins can (the_plan bytes) save_planned

  pub save_sound : SoundPlan (before bytes) (the_plan bytes)
  save_sound = deploy_sound (before bytes) old wins can (the_plan bytes) save_planned
