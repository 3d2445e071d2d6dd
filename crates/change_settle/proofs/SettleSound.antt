-- The plan of a settlement is sound.
use Rattle.std.proofs.Common.{◌≡◌, ◌≢◌, ◌↔◌, ℕ, [], ◌∷◌, List, refl, sym, ap, ◌∙◌, inl, inr, subst}
use Rattle.std.specs.Fmt.{decimal}
use Rattle.std.specs.declared.option.Option.TheVariants.{None, Some}
use Rattle.tree_fs.specs.declared.name.Kind.TheVariants.{Absent, File}
use Rattle.tree_fs.specs.declared.place.Root.{Root}
use Rattle.tree_fs.specs.declared.place.Root.TheVariants.{Stage, Game, Keep}
use Rattle.tree_fs.specs.Spot.{Spot, IsBelow}
use Rattle.tree_fs.specs.Places.{game_spot}
use Rattle.tree_fs.specs.Texts.{root_word}
use Rattle.tree_fs.specs.Disk.{Disk, kind_of}
use Rattle.backup_keep.specs.Places.{backup_spot, aside_folder, aside_spot}
use Rattle.manifest_json.specs.declared.manifest.Manifest.{Manifest}
use Rattle.move_plan.specs.declared.plan.Plan.{Plan}
use Rattle.move_plan.specs.Rules.{IsFree}
use Rattle.move_plan.specs.Sound.{SoundPlan}
use Rattle.desk_model.specs.Places.{IsUsers}
use Rattle.desk_model.specs.Settled.{Choice}
use Rattle.plan_model.specs.Moves.{Move, Moves}
use Rattle.plan_model.specs.Sound.{ByRules, OnDisk}
use Rattle.plan_model.proofs.Values.{is_file-at}
use Rattle.plan_model.proofs.Paths.{good-not_below, good-free}
use Rattle.plan_model.proofs.Rows.{folder_free}
use Rattle.plan_model.proofs.Sounds.{sound_plan}
use Rattle.change_settle.specs.Deeds.{settle_moves}
use Rattle.change_settle.specs.Plans.{CanSettle, SettlePlan}
use Rattle.change_settle.proofs.Premises.{free_path}
use Rattle.change_settle.proofs.Sets.{set_tells, behind_unset}
use Rattle.change_settle.proofs.RowPlaces.{in_game, in_mod, row_users, places_apart, aside_below, free_aside, the_root, inside, above_aside, row_free_place, row_free_above}
use Rattle.change_settle.proofs.Saved.{ready, origin, aside_absent}
use Rattle.change_settle.proofs.Stands.{Stands, at_row, at_aside, stands, over_stands, takes_source, Back, aside, nothing, set_back, backs_saved, Cleared, given_up, gone_back, clears_cleared}

module _ (choice : Choice) (a : Disk) (old : Manifest) (n : ℕ) (can : CanSettle choice a old n) where
  abbrev m : Moves
  m = settle_moves choice a old.rows n

  abbrev StandsAt : Spot → Type 0
  StandsAt = Stands choice a old n can

  not_keep : (r : Root) → IsUsers r → r ≢ Keep
  not_keep r users e = subst IsUsers e users

  apart_stands : (x y : Spot) → StandsAt x → StandsAt y → ¬ IsBelow x y
  apart_stands x y (at_row p w) (at_row q u) b = places_apart old.rows can.rows x y p q b
  apart_stands x y (at_row p w) (at_aside s z d f here) b = not_keep x.root (row_users old.rows x p) (sym b.root ∙ ap (λ (k : Spot). k.root) (sym here))
  apart_stands x y (at_aside r z c e here) (at_row q u) b = not_keep y.root (row_users old.rows y q) (b.root ∙ ap (λ (k : Spot). k.root) (sym here))
  apart_stands x y (at_aside r z c e here) (at_aside s w d f there) b =
      places_apart old.rows can.rows z w (origin choice a old n can r z c e).place (origin choice a old n can s w d f).place
      (aside_below n z w (subst (λ k. IsBelow k (aside_spot n w)) (sym here) (subst (IsBelow x) (sym there) b)))

  behind_apart : (c : Spot) (path : List ℕ) (x : Spot) → backup_spot path ≡ c → StandsAt x → ¬ IsBelow c x
  behind_apart c path x here (at_row (in_game r d e) w) b = good-not_below r.path path (free_path choice a old n can r d) (subst (λ z. IsBelow z (game_spot r.path)) (sym here) (subst (IsBelow c) (sym e) b))
  behind_apart c path x here (at_row (in_mod r d e) w) b = let t : Stage ≡ Game = ap (λ (s : Spot). s.root) e ∙ b.root ∙ ap (λ (s : Spot). s.root) (sym here) in cc
  behind_apart c path x here (at_aside r y d e there) b = let t : Keep ≡ Game = ap (λ (s : Spot). s.root) there ∙ b.root ∙ ap (λ (s : Spot). s.root) (sym here) in cc

  clear_stands : (c x : Spot) → Cleared choice a old n can c → StandsAt x → ¬ IsBelow c x
  clear_stands c x (given_up r d e here) s b = apart_stands c x (at_aside r (game_spot r.path) d e here) s b
  clear_stands c x (gone_back r d t o here) s b = behind_apart c r.path x here s b

  free_stands : (x : Spot) → StandsAt x → IsFree x
  free_stands x (at_row p w) = row_free_place old.rows can.rows x p
  free_stands x (at_aside r y c e here) = subst IsFree here (free_aside (decimal n ∷ root_word y.root ∷ y.names))

  free_over : (s x : Spot) → StandsAt x → IsBelow s x → s.names ≢ [] → IsFree s
  free_over s x (at_row p w) b some = row_free_above old.rows can.rows s x p b some
  free_over s x (at_aside r y c e here) b some = elim (above_aside s (decimal n ∷ root_word y.root ∷ y.names) (subst (IsBelow s) (sym here) b)) [
    | the_root is ↦ absurd (some (ap (λ (z : Spot). z.names) is))
    | inside ms name rest is e ↦ subst IsFree (sym is) (free_aside ms)
  ]

  clear_off : (x : Spot) → Cleared choice a old n can x → m.sets x ≡ None
  clear_off x (given_up r c e here) = subst (λ z. m.sets z ≡ None) here refl
  clear_off x (gone_back r c t o here) = subst (λ z. m.sets z ≡ None) here (behind_unset choice a old n can r.path)

  kept_aside : (y x : Spot) → aside_spot n y ≡ x → IsBelow aside_folder x
  kept_aside y x here = subst (IsBelow aside_folder) here (record { root = refl; name = decimal n; rest = root_word y.root ∷ y.names; names = refl })

  rules : ByRules m
  rules = record {
    free_to = λ x to. free_stands x (stands choice a old n can x to);
    free_from = λ x y h. (takes_source choice a old n can x y h).free;
    free_back = λ x y h. free_stands y (stands choice a old n can y (inr (x, backs_saved choice a old n can x y h)));
    free_above = λ s x to b some. free_over s x (stands choice a old n can x to) b some;
    source_unset = λ x y h. (takes_source choice a old n can x y h).unset;
    save_unset = λ y x h. subst (λ z. m.sets z ≡ None) h.here refl;
    save_unread = λ y x z h t. not_keep x.root (takes_source choice a old n can z x t).users (ap (λ (s : Spot). s.root) (sym h.here));
    clear_unset = λ x h. clear_off x (clears_cleared choice a old n can x h);
    clear_keeps = λ x h. elim (clears_cleared choice a old n can x h) [
      | given_up r c e here ↦ inr (kept_aside (game_spot r.path) x here)
      | gone_back r c t o here ↦ inl (r.path, (free_path choice a old n can r c).0, sym here)
    ];
    save_keeps = λ y x h. inr (kept_aside y x h.here);
    clear_used = λ x h. elim (clears_cleared choice a old n can x h) [
      | given_up r c e here ↦ inr (game_spot r.path, record { row = r; listed = c; saved = e; here = here })
      | gone_back r c t o here ↦ inl (game_spot r.path, record { move = t.move; set = t.set; from = t.from ∙ ap Some here })
    ];
    save_back = λ y x h. let o = (origin choice a old n can h.row y h.listed h.saved).back in record { move = o.move; set = o.set; back = o.back ∙ ap Some h.here };
    back_stays = λ x y h. inl (backs_saved choice a old n can x y h);
    apart = λ x y to others. apart_stands x y (stands choice a old n can x to) (stands choice a old n can y others);
    clear_apart = λ c x h to. clear_stands c x (clears_cleared choice a old n can c h) (stands choice a old n can x to);
  }

  back_none : (x : Spot) (v : Move) → Back choice a old n can x v → (v.back ≡ None ↔ kind_of a x ≡ Absent)
  back_none x v (aside r c e back k) = (
    λ u. let t : None ≡ Some (aside_spot n x) = sym u ∙ back in absurd (cc),
    λ absent. let t : Absent ≡ File = sym absent ∙ k in absurd (cc),
  )
  back_none x v (nothing back k) = (λ u. k, λ absent. back)

  disk : OnDisk a m
  disk = record {
    save_absent = λ y x h. ap (kind_of a) (sym h.here) ∙ aside_absent choice a old n can y (ready choice a old n can h.row y h.listed h.saved);
    save_source = λ y x h. is_file-at a y (origin choice a old n can h.row y h.listed h.saved).file;
    source_file = λ x y h. is_file-at a y (takes_source choice a old n can x y h).file;
    back_same = λ x y h. inl (backs_saved choice a old n can x y h);
    back_none = λ x v e. back_none x v (set_back choice a old n can x v (set_tells choice a old.rows n x v e));
    parent_free = λ s x to b missing. over_stands choice a old n can s x (stands choice a old n can x to) b missing;
  }

  pub settle_sound : (plan : Plan) → SettlePlan choice a old n plan → SoundPlan a plan
  settle_sound plan is = sound_plan a old.folders can.valid m plan is.moves is.folders rules (λ path c. good-free path (folder_free old.folders can.own path c)) disk
