-- A worked disk: a deployed file with an original behind it. Nothing refuses, and its purge's plan is there.
use Rattle.std.proofs.Common.{◌≡◌, ◌≢◌, ◌⊎◌, ℕ, ◌<◌, true, false, if◌then◌else◌, List, [], ◌∷◌, map, refl, sym, ap, ◌∙◌, inl, inr, subst, arith}
use Rattle.std.specs.List.{Contains}
use Rattle.std.specs.List.Sorted.{IsStrictlySortedBy}
use Rattle.std.specs.declared.option.Option.TheVariants.{None, Some}
use Rattle.list_laws.proofs.Containing.{contains_none, contains_only}
use Rattle.rel_paths.specs.Names.{path_fault, id_fault, is_reserved}
use Rattle.tree_fs.specs.Spot.{Spot, spot_of, spot_eq, parent}
use Rattle.tree_fs.specs.Disk.{Value, none, file, IsValid}
use Rattle.tree_fs.proofs.Spots.{same_or_other}
use Rattle.manifest_json.specs.declared.manifest.Manifest.{Manifest}
use Rattle.manifest_json.specs.Manifests.{manifest_value}
use Rattle.manifest_json.specs.Sound.{AreRows, AreFolders}
use Rattle.move_plan.specs.declared.plan.SetRow.{SetRow}
use Rattle.move_plan.specs.declared.plan.Plan.{Plan}
use Rattle.move_plan.specs.Places.{IsDestination}
use Rattle.move_plan.specs.Rules.{KeepsRule, in_order}
use Rattle.move_plan.specs.Sound.{SoundPlan}
use Rattle.desk_model.specs.Places.{in_game, in_stage, manifest_spot}
use Rattle.desk_model.specs.Records.{rows_of, own_of}
use Rattle.desk_model.specs.Desk.{desk_of}
use Rattle.desk_model.specs.Purged.{Purged, stands_over}
use Rattle.desk_model.specs.Outcome.{planned}
use Rattle.desk_model.proofs.SavedAndPurged.{above, x_name, x_behind, x_staged, now_deployed, folders_there, deployed, row, the_manifest, told_deployed}
use Rattle.desk_model.proofs.SaveBegun.{game_place, backup_place, staged_place, test_off, Folder4, stage_root, game_root, keep_root, mod_b, folder4, nested, root_there}
use Rattle.plan_model.specs.Rows.{old_of}
use Rattle.plan_model.specs.Folders.{IsMade, IsListed}
use Rattle.plan_model.specs.Lists.{spotted, ends_of}
use Rattle.purge_run.specs.Walk.{purge_sets, purge_saves, purge_clears}
use Rattle.purge_run.specs.Refusals.{first_in_the_way, SetsSomeAside}
use Rattle.purge_run.specs.Plans.{CanPurge, PurgePlan}
use Rattle.purge_run.proofs.PurgeWalks.{laid_by_pass}
use Rattle.purge_run.proofs.PurgeLeads.{purge_leads}
use Rattle.purge_run.proofs.PurgeSound.{purge_sound}

abbrev the_set : SetRow
the_set = record { to = game_place; from = Some backup_place; back = Some staged_place }

-- the original goes back to its path, and its backup is cleared
abbrev pub purge_it : Plan
purge_it = record { folders = []; saves = []; sets = the_set ∷ []; manifest = None; clears = backup_place ∷ []; folders_off = [] }

-- the places of the disk's files
data Place5 (x : Spot) : Type 0 where
  at_game : in_game x_name ≡ x → Place5 x
  at_stage : in_stage x_staged ≡ x → Place5 x
  at_backup : in_game x_behind ≡ x → Place5 x
  at_manifest : manifest_spot ≡ x → Place5 x
  elsewhere : now_deployed x ≡ none → Place5 x

place5 : (x : Spot) → Place5 x
place5 x = elim (same_or_other x (in_game x_name)) [
  | inl is ↦ at_game (sym is)
  | inr one ↦ elim (same_or_other x (in_stage x_staged)) [
    | inl is ↦ at_stage (sym is)
    | inr two ↦ elim (same_or_other x (in_game x_behind)) [
      | inl is ↦ at_backup (sym is)
      | inr three ↦ elim (same_or_other x manifest_spot) [
        | inl is ↦ at_manifest (sym is)
        | inr four ↦ elsewhere (λ i. if test_off x (in_game x_name) one i then file 2 else if test_off x (in_stage x_staged) two i then file 2 else if test_off x (in_game x_behind) three i then file 1 else if test_off x manifest_spot four i then file 3 else none)
      ]
    ]
  ]
]

above_place : (q : Spot) → Place5 q → (v : Value) → v ≡ now_deployed q → v ≢ none → folders_there (parent q) ≡ true
unfolding parent spot_eq
above_place q (at_game e) v is ne = subst (λ s. folders_there (parent s) ≡ true) e refl
above_place q (at_stage e) v is ne = subst (λ s. folders_there (parent s) ≡ true) e refl
above_place q (at_backup e) v is ne = subst (λ s. folders_there (parent s) ≡ true) e refl
above_place q (at_manifest e) v is ne = subst (λ s. folders_there (parent s) ≡ true) e refl
above_place q (elsewhere off) v is ne = absurd (ne (is ∙ off))

below_five : (n k : ℕ) → file n ≡ file k → k < 5 → n < 5
below_five n k e lt = let is : n ≡ k = cc in subst (λ m. m < 5) (sym is) lt

number_at : (q : Spot) → Place5 q → (n : ℕ) → file n ≡ now_deployed q → n < 5
unfolding spot_eq
number_at q (at_game e) n is = below_five n 2 (is ∙ sym (ap now_deployed e)) (omega arith)
number_at q (at_stage e) n is = below_five n 2 (is ∙ sym (ap now_deployed e)) (omega arith)
number_at q (at_backup e) n is = below_five n 1 (is ∙ sym (ap now_deployed e)) (omega arith)
number_at q (at_manifest e) n is = below_five n 3 (is ∙ sym (ap now_deployed e)) (omega arith)
number_at q (elsewhere off) n is = let t : file n ≡ none = is ∙ off in absurd (cc)

bare : (q : Spot) → Folder4 q → now_deployed q ≡ none
unfolding spot_eq
bare q (stage_root e) = subst (λ s. now_deployed s ≡ none) e refl
bare q (game_root e) = subst (λ s. now_deployed s ≡ none) e refl
bare q (keep_root e) = subst (λ s. now_deployed s ≡ none) e refl
bare q (mod_b e) = subst (λ s. now_deployed s ≡ none) e refl

no_folders : AreFolders []
unfolding IsStrictlySortedBy
no_folders = record { good = tt; rise = tt }

module _ (bytes : ℕ → List ℕ) where
  valid : IsValid (deployed bytes)
  valid = record {
    roots = root_there;
    nested = λ q is. nested q (folder4 q is);
    parents = parents;
    bare = λ q is. bare q (folder4 q is);
    numbers = numbers;
  }
    where
      parents : (q : Spot) (v : Value) → (v ≡ now_deployed q) ⊎ ⊥ → v ≢ none → folders_there (parent q) ≡ true
      parents q v (inl is) ne = above_place q (place5 q) v is ne
      parents q v (inr never) ne = absurd never

      numbers : (q : Spot) (n : ℕ) → (file n ≡ now_deployed q) ⊎ ⊥ → n < 5
      numbers q n (inl is) = number_at q (place5 q) n is
      numbers q n (inr never) = absurd never

  abbrev old : Manifest
  old = the_manifest bytes

  rows : AreRows old.rows
  unfolding IsStrictlySortedBy path_fault id_fault is_reserved
  rows = record { good = (record { path = (refl, refl); mod_id = refl; source = (refl, refl) }, tt); rise = (tt, tt); flat = (tt, tt); apart = (tt, tt) }

  -- the row's file is the staged file itself
  not_over : stands_over (deployed bytes) (row bytes) ≡ false
  unfolding spot_eq
  not_over = refl

  none_aside : SetsSomeAside (deployed bytes) old.rows → ⊥
  none_aside h = let t : true ≡ false = sym h.over ∙ ap (stands_over (deployed bytes)) (contains_only (row bytes) h.row h.listed) ∙ not_over in cc

  unblocked : first_in_the_way (deployed bytes) old.rows ≡ None
  unfolding spot_eq
  unblocked = refl

  pub can : CanPurge (deployed bytes) old 1
  can = record {
    valid = valid;
    rows = rows;
    own = no_folders;
    next = λ some. absurd (none_aside some);
    passes = record { unblocked = unblocked; aside = λ some. absurd (none_aside some) };
  }

  same_sets : map spotted purge_it.sets ≡ purge_sets (deployed bytes) 1 old.rows
  unfolding spot_eq
  same_sets = refl

  same_saves : map ends_of purge_it.saves ≡ purge_saves (deployed bytes) 1 old.rows
  unfolding spot_eq
  same_saves = refl

  same_clears : map spot_of purge_it.clears ≡ purge_clears (deployed bytes) old.rows
  unfolding spot_eq
  same_clears = refl

  ordered : KeepsRule in_order purge_it
  ordered = (tt, (tt, tt))

  one_place : (x : Spot) → IsDestination purge_it x → x ≡ in_game x_name
  one_place x (inl h) = sym h.here ∙ ap (λ (r : SetRow). spot_of r.to) (contains_only the_set h.row h.listed)
  one_place x (inr h) = absurd (contains_none h.save h.listed)

  none_made : (s : Spot) → ¬ IsMade (deployed bytes) purge_it s
  none_made s h = let t : true ≡ false = sym (above h.place s (inl (one_place h.place h.to)) h.below) ∙ h.missing in cc

  none_listed : (s : Spot) → ¬ IsListed (deployed bytes) [] purge_it s
  none_listed s (inl h) = contains_none h.path h.listed
  none_listed s (inr h) = none_made s h.1

  pub purge_planned : PurgePlan (deployed bytes) old 1 purge_it
  purge_planned = record {
    moves = laid_by_pass (deployed bytes) old.rows 1 purge_it can.rows.rise same_sets same_saves
        (λ x. (λ h. subst (λ l. Contains l x) same_clears h, λ h. subst (λ l. Contains l x) (sym same_clears) h)) ordered;
    folders = record {
      made = λ s. (λ h. absurd (contains_none h.place h.listed), λ h. absurd (none_made s h));
      off = λ s. (λ h. absurd (contains_none h.place h.listed), λ g. absurd (none_listed s g.listed));
    };
    manifest = refl;
  }

  -- so the laws speak of this disk
  pub purge_sounds : SoundPlan (deployed bytes) purge_it
  purge_sounds = purge_sound (deployed bytes) old 1 can purge_it purge_planned

  module _ (is_text : manifest_value (bytes 3) ≡ Some (the_manifest bytes)) where
    its_manifest : the_manifest bytes ≡ old_of (deployed bytes)
    its_manifest = λ i. record { rows = rows_of (sym (told_deployed bytes is_text) i); folders = own_of (sym (told_deployed bytes is_text) i) }

    pub purge_leads_there : Purged (deployed bytes) (desk_of (planned (deployed bytes) purge_it))
    purge_leads_there = purge_leads (deployed bytes) 1 (subst (λ m. CanPurge (deployed bytes) m 1) its_manifest can) purge_it (subst (λ m. PurgePlan (deployed bytes) m 1 purge_it) its_manifest purge_planned)
