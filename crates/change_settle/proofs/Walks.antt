-- One pass over the rows says what the columns of a settlement say.
use Rattle.std.proofs.Common.{◌≡◌, ◌⊎◌, ◌↔◌, ℕ, List, map, inl, inr, refl, sym, ap, ◌∙◌, subst}
use Rattle.std.specs.List.{Contains}
use Rattle.std.specs.Option.{option_or, option_map}
use Rattle.std.specs.declared.option.Option.{Option}
use Rattle.std.specs.declared.option.Option.TheVariants.{None, Some}
use Rattle.list_laws.proofs.Containing.{map_contains, contains_map, contains_filter_map, filter_map_contains}
use Rattle.tree_fs.specs.Spot.{Spot, spot_of}
use Rattle.tree_fs.specs.Places.{game_spot}
use Rattle.tree_fs.specs.Disk.{Disk}
use Rattle.backup_keep.specs.Places.{aside_spot}
use Rattle.manifest_json.specs.declared.manifest.Row.{Row}
use Rattle.manifest_json.specs.Sound.{AreRows}
use Rattle.change_detect.specs.Classes.{staged_of}
use Rattle.move_plan.specs.declared.plan.Plan.{Plan}
use Rattle.move_plan.specs.Rules.{KeepsRule, in_order}
use Rattle.desk_model.specs.Settled.{Choice, Deed, left_whole, put_aside, imported, reverted, accepted, linked_again, staged_again, let_go, dropped, deed_of}
use Rattle.desk_model.proofs.Sourced.{row_staged-right}
use Rattle.plan_model.specs.Moves.{Move, Moves, LaidOut}
use Rattle.plan_model.specs.Lists.{spotted, ends_of, at_place}
use Rattle.plan_model.proofs.Firsts.{row-here}
use Rattle.plan_model.proofs.InOrder.{at_place-some}
use Rattle.change_settle.specs.Deeds.{game_move, stage_move, at_row, saved_spot, cleared_spot, settle_moves, Saves, Clears}
use Rattle.change_settle.specs.Walk.{row_set, row_save, settle_sets, settle_saves, settle_clears}
use Rattle.change_settle.proofs.Sets.{SetCase, at_game, at_stage, set_tells}

module _ (choice : Choice) (a : Disk) (rows : List Row) (n : ℕ) (kept : AreRows rows) where
  abbrev m : Moves
  m = settle_moves choice a rows n

  -- a row is set at one of its places
  either : (g s : Option (Spot × Move)) (v : Spot × Move) → option_or g s ≡ Some v → (g ≡ Some v) ⊎ (s ≡ Some v)
  either None s v e = inr e
  either (Some w) s v e = inl e

  -- a row that is set at its staged place isn't set at its path
  only_staged : (r : Row) (d : Deed) (v : Move) → stage_move n r d ≡ Some v → game_move a n r d ≡ None
  only_staged r imported v e = refl
  only_staged r staged_again v e = refl
  only_staged r left_whole v e = absurd (cc)
  only_staged r put_aside v e = absurd (cc)
  only_staged r reverted v e = absurd (cc)
  only_staged r accepted v e = absurd (cc)
  only_staged r linked_again v e = absurd (cc)
  only_staged r let_go v e = absurd (cc)
  only_staged r dropped v e = absurd (cc)

  pub sets-are : (x : Spot) (v : Move) → (Contains (settle_sets choice a rows n) (x, v) ↔ m.sets x ≡ Some v)
  sets-are x v = (to, from)
    where
      to : Contains (settle_sets choice a rows n) (x, v) → m.sets x ≡ Some v
      to c =
          let h = contains_filter_map (λ r. row_set a n r (deed_of choice a r)) rows (x, v) c in
          elim (either (at_place (game_spot h.0.path) (game_move a n h.0 (deed_of choice a h.0))) (at_place (staged_of h.0) (stage_move n h.0 (deed_of choice a h.0))) (x, v) h.2) [
            | inl e ↦
                let p = at_place-some (game_spot h.0.path) x (game_move a n h.0 (deed_of choice a h.0)) v e in
                subst (λ y. m.sets y ≡ Some v) p.0 (ap (at_row choice a (game_move a n)) (row-here rows h.0 kept.rise h.1) ∙ p.1)
            | inr e ↦
                let p = at_place-some (staged_of h.0) x (stage_move n h.0 (deed_of choice a h.0)) v e in
                subst (λ y. m.sets y ≡ Some v) p.0 (ap (at_row choice a (stage_move n)) (row_staged-right rows h.0 kept.apart h.1) ∙ p.1)
          ]

      at : (r : Row) → Contains rows r → row_set a n r (deed_of choice a r) ≡ Some (x, v) → Contains (settle_sets choice a rows n) (x, v)
      at r c e = filter_map_contains (λ r. row_set a n r (deed_of choice a r)) rows r (x, v) c e

      by_set : SetCase choice a rows n x v → Contains (settle_sets choice a rows n) (x, v)
      by_set (at_game r c here e) =
          at r c (ap (λ o. option_or (at_place (game_spot r.path) o) (at_place (staged_of r) (stage_move n r (deed_of choice a r)))) e ∙ ap (λ y. Some (y, v)) here)
      by_set (at_stage r c here e) =
          at r c ((λ i. option_or (at_place (game_spot r.path) (only_staged r (deed_of choice a r) v e i)) (at_place (staged_of r) (e i))) ∙ ap (λ y. Some (y, v)) here)

      from : m.sets x ≡ Some v → Contains (settle_sets choice a rows n) (x, v)
      from e = by_set (set_tells choice a rows n x v e)

  pub saves-are : (from to : Spot) → (Contains (settle_saves choice a rows n) (from, to) ↔ Saves choice a rows n from to)
  saves-are from to = (forth, back)
    where
      saved : (r : Row) (o : Option Spot) → option_map {U = Spot × Spot} (λ x. (x, aside_spot n x)) o ≡ Some (from, to) → (o ≡ Some from) × (aside_spot n from ≡ to)
      saved r None e = absurd (cc)
      saved r (Some x) e =
          let t : ◌≡◌ {A = Spot × Spot} (x, aside_spot n x) (from, to) = cc in
          (ap (λ z. Some z.0) t, ap (aside_spot n) (sym (ap (λ z. z.0) t)) ∙ ap (λ z. z.1) t)

      forth : Contains (settle_saves choice a rows n) (from, to) → Saves choice a rows n from to
      forth c =
          let h = contains_filter_map (λ r. row_save n r (deed_of choice a r)) rows (from, to) c in
          let s = saved h.0 (saved_spot h.0 (deed_of choice a h.0)) h.2 in
          record { row = h.0; listed = h.1; saved = s.0; here = s.1 }

      back : Saves choice a rows n from to → Contains (settle_saves choice a rows n) (from, to)
      back h =
          filter_map_contains (λ r. row_save n r (deed_of choice a r)) rows h.row (from, to) h.listed
          (ap (λ (o : Option Spot). option_map {U = Spot × Spot} (λ x. (x, aside_spot n x)) o) h.saved ∙ ap (λ y. Some (from, y)) h.here)

  clears-are : (x : Spot) → (Contains (settle_clears choice a rows n) x ↔ Clears choice a rows n x)
  clears-are x = (
    λ c. let h = contains_filter_map (λ r. cleared_spot a n r (deed_of choice a r)) rows x c in record { row = h.0; listed = h.1; cleared = h.2 },
    λ h. filter_map_contains (λ r. cleared_spot a n r (deed_of choice a r)) rows h.row x h.listed h.cleared,
  )

  pub laid_by_pass : (plan : Plan) → ((v : Spot × Move) → (Contains (map spotted plan.sets) v ↔ Contains (settle_sets choice a rows n) v))
      → ((y : Spot × Spot) → (Contains (map ends_of plan.saves) y ↔ Contains (settle_saves choice a rows n) y))
      → ((x : Spot) → (Contains (map spot_of plan.clears) x ↔ Contains (settle_clears choice a rows n) x))
      → KeepsRule in_order plan → LaidOut m plan
  laid_by_pass plan sets saves clears order = record {
    sets = λ x v. (
      λ h. (sets-are x v).0 ((sets (x, v)).0 (subst (Contains (map spotted plan.sets)) (λ i. (h.here i, h.is i)) (map_contains spotted plan.sets h.row h.listed))),
      λ e. let m = contains_map spotted plan.sets (x, v) ((sets (x, v)).1 ((sets-are x v).1 e)) in
          record { row = m.0; listed = m.1; here = ap (λ z. z.0) m.2; is = ap (λ z. z.1) m.2 },
    );
    saves = λ from to. (
      λ h. (saves-are from to).0 ((saves (from, to)).0 (subst (Contains (map ends_of plan.saves)) (λ i. (h.source i, h.here i)) (map_contains ends_of plan.saves h.save h.listed))),
      λ h. let m = contains_map ends_of plan.saves (from, to) ((saves (from, to)).1 ((saves-are from to).1 h)) in
          record { save = m.0; listed = m.1; source = ap (λ z. z.0) m.2; here = ap (λ z. z.1) m.2 },
    );
    clears = λ x. (
      λ h. (clears-are x).0 ((clears x).0 (subst (Contains (map spot_of plan.clears)) h.here (map_contains spot_of plan.clears h.place h.listed))),
      λ h. let m = contains_map spot_of plan.clears x ((clears x).1 ((clears-are x).1 h)) in
          record { place = m.0; listed = m.1; here = m.2 },
    );
    order = order;
  }
