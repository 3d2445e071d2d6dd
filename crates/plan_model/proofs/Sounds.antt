-- What is moved soundly has a sound plan.
use Rattle.plan_model.proofs.Values.{not_some}
use Rattle.std.proofs.Common.{◌≡◌, ◌≢◌, ◌⊎◌, ℕ, ◌+◌, Bool, true, false, List, [], ◌∷◌, IfSome, refl, sym, ap, ◌∙◌, inl, inr, subst}
use Rattle.std.specs.Option.{option_map}
use Rattle.std.specs.List.{Contains, AllByRecursion}
use Rattle.std.specs.declared.option.Option.{Option}
use Rattle.std.specs.declared.option.Option.TheVariants.{None, Some}
use Rattle.tree_fs.specs.declared.place.Root.TheVariants.{Game}
use Rattle.tree_fs.specs.declared.place.Place.{Place}
use Rattle.tree_fs.specs.Spot.{Spot, spot_of, IsBelow}
use Rattle.tree_fs.specs.Places.{game_spot}
use Rattle.tree_fs.specs.Disk.{Disk, IsValid}
use Rattle.tree_fs.specs.Calls.{IsFolder}
use Rattle.tree_fs.proofs.KindOf.{absent-kind}
use Rattle.list_laws.proofs.Alls.{all_append}
use Rattle.list_laws.proofs.Containing.{contains_here, contains_there}
use Rattle.move_plan.specs.declared.plan.SetRow.{SetRow}
use Rattle.move_plan.specs.declared.plan.Plan.{Plan}
use Rattle.move_plan.specs.Places.{Has, IsAt, IsSetTo, IsSetFrom, IsSaveTo, IsDestination, IsBacked}
use Rattle.move_plan.specs.Entries.{Entry, folder, save, set, clear, off, Listed, listed, entries, key_of}
use Rattle.move_plan.specs.Rules.{IsFree, AvoidsControls, SourceStays, SaveStays, Keeping, ClearIsUsed, SaveIsBack, BackStays, Apart, in_order, avoids_controls, source_stays, save_stays, keeping, clear_is_used, save_is_back, back_stays, apart, PassesRules}
use Rattle.move_plan.specs.Sound.{SoundPlan}
use Rattle.plan_model.specs.Moves.{Move, move_of, Moves, LaidOut}
use Rattle.plan_model.specs.Folders.{IsMade, IsListed, GoesOff, FoldersLaidOut}
use Rattle.plan_model.specs.Sound.{Takes, Backs, IsTo, ByRules, OnDisk}
use Rattle.plan_model.proofs.Moved.{set-moved, save-moved, moved-is_save}
use Rattle.tree_fs.proofs.Below.{below-trans}

-- each entry, list by list
each_listed : {A : Type 0} (Q : Entry → Type 0) (to : A → Entry) (i : ℕ) (front : Option Place) (l : List A) → ((x : A) → Contains l x → Q (to x)) → AllByRecursion (λ (e : Listed). Q e.entry) (listed to i front l)
each_listed Q to i front [] h = tt
each_listed Q to i front (x ∷ xs) h = (h x (contains_here x xs), each_listed Q to (i + 1) (Some (key_of (to x))) xs (λ y c. h y (contains_there x y xs c)))

pub each_entry : (Q : Entry → Type 0) (plan : Plan) → ((p : Place) → Contains plan.folders p → Q (folder p)) → ((s : Place × Place) → Contains plan.saves s → Q (save s))
    → ((row : SetRow) → Contains plan.sets row → Q (set row)) → ((p : Place) → Contains plan.clears p → Q (clear p)) → ((p : Place) → Contains plan.folders_off p → Q (off p))
    → AllByRecursion (λ (e : Listed). Q e.entry) (entries plan)
each_entry Q plan f s t c o =
    let P : Listed → Type 0 = λ e. Q e.entry in
    all_append P _ _ (each_listed Q folder 0 None plan.folders f)
    (all_append P _ _ (each_listed Q save 0 None plan.saves s)
    (all_append P _ _ (each_listed Q set 0 None plan.sets t)
    (all_append P _ _ (each_listed Q clear 0 None plan.clears c) (each_listed Q off 0 None plan.folders_off o))))

if_some : (P : Place → Type 0) (o : Option Place) → ((p : Place) → o ≡ Some p → P p) → IfSome o P
if_some P None h = tt
if_some P (Some p) h = h p refl

at_some : (o : Option Place) (x : Spot) → IsAt o x → option_map spot_of o ≡ Some x
at_some None x h = absurd h
at_some (Some p) x h = ap Some h

some_at : (o : Option Place) (x : Spot) → option_map spot_of o ≡ Some x → IsAt o x
some_at None x h = absurd (cc)
some_at (Some p) x h = cc

some_place : (o : Option Place) (x : Spot) → option_map spot_of o ≡ Some x → (p : Place) × (o ≡ Some p) × (spot_of p ≡ x)
some_place None x h = absurd (cc)
some_place (Some p) x h = (p, refl, cc)

module _ (a : Disk) (own : List (List ℕ)) (valid : IsValid a) (m : Moves) (plan : Plan) (laid : LaidOut m plan) (folders : FoldersLaidOut a own plan) (rules : ByRules m)
    (own_free : (path : List ℕ) → Contains own path → IsFree (game_spot path)) where
  row_set : (row : SetRow) → Contains plan.sets row → m.sets (spot_of row.to) ≡ Some (move_of row)
  row_set row c = (laid.sets (spot_of row.to) (move_of row)).0 (record { row = row; listed = c; here = refl; is = refl })

  row_takes : (row : SetRow) (p : Place) → Contains plan.sets row → row.from ≡ Some p → Takes m (spot_of row.to) (spot_of p)
  row_takes row p c e = record { move = move_of row; set = row_set row c; from = ap (option_map spot_of) e }

  row_backs : (row : SetRow) (p : Place) → Contains plan.sets row → row.back ≡ Some p → Backs m (spot_of row.to) (spot_of p)
  row_backs row p c e = record { move = move_of row; set = row_set row c; back = ap (option_map spot_of) e }

  from_takes : (x : Spot) → IsSetFrom plan x → (z : Spot) × Takes m z x
  from_takes x h = (spot_of h.row.to, record { move = move_of h.row; set = row_set h.row h.listed; from = at_some h.row.from x h.here })

  takes_from : (z x : Spot) → Takes m z x → IsSetFrom plan x
  takes_from z x h =
      let r = (laid.sets z h.move).1 h.set in
      record { row = r.row; listed = r.listed; here = some_at r.row.from x (ap (λ (v : Move). v.from) r.is ∙ h.from) }

  backs_back : (y x : Spot) → Backs m y x → IsBacked plan y x
  backs_back y x h =
      let r = (laid.sets y h.move).1 h.set in
      let p = some_place r.row.back x (ap (λ (v : Move). v.back) r.is ∙ h.back) in
      record { row = r.row; listed = r.listed; here = r.here; place = p.0; is_back = p.1; there = p.2 }

  save_is : (s : Place × Place) → Contains plan.saves s → m.saves (spot_of s.0) (spot_of s.1)
  save_is s c = (laid.saves (spot_of s.0) (spot_of s.1)).0 (record { save = s; listed = c; source = refl; here = refl })

  clear_is : (p : Place) → Contains plan.clears p → m.clears (spot_of p)
  clear_is p c = (laid.clears (spot_of p)).0 (record { place = p; listed = c; here = refl })

  to_is : (x : Spot) → IsDestination plan x → IsTo m x
  to_is x (inl h) = inl (set-moved m plan laid a.now x h)
  to_is x (inr h) = inr (save-moved m plan laid a.now x h)

  unset : (x : Spot) → m.sets x ≡ None → ¬ IsSetTo plan x
  unset x e h = let s = set-moved m plan laid a.now x h in not_some (m.sets x) s.0 e s.1

  made_is : (p : Place) → Contains plan.folders p → IsMade a plan (spot_of p)
  made_is p c = (folders.made (spot_of p)).0 (record { place = p; listed = c; here = refl })

  off_is : (p : Place) → Contains plan.folders_off p → GoesOff a own plan (spot_of p)
  off_is p c = (folders.off (spot_of p)).0 (record { place = p; listed = c; here = refl })

  made_free : (s : Spot) → IsMade a plan s → IsFree s
  made_free s h = rules.free_above s h.place (to_is h.place h.to) h.below (by_names (a.folders s) refl)
    where
      by_names : (b : Bool) → a.folders s ≡ b → s.names ≢ []
      by_names true e = let t : true ≡ false = sym e ∙ h.missing in absurd (cc)
      by_names false e = named
        where
          named : s.names ≡ [] → ⊥
          named n =
              let is : s ≡ record { root = s.root; names = [] } = λ i. record { root = s.root; names = n i } in
              let t : true ≡ false = sym (valid.roots s.root) ∙ ap a.folders (sym is) ∙ e in cc

  off_free : (s : Spot) → IsListed a own plan s → IsFree s
  off_free s (inl h) = subst IsFree (sym h.here) (own_free h.path h.listed)
  off_free s (inr h) = made_free s h.1

  off_game : (s : Spot) → IsListed a own plan s → s.root ≡ Game
  off_game s (inl h) = ap (λ (x : Spot). x.root) h.here
  off_game s (inr h) = h.0

  pub passes : PassesRules plan
  passes in_order = laid.order
  passes avoids_controls = each_entry AvoidsControls plan
      (λ p c. made_free (spot_of p) (made_is p c))
      (λ s c. let i = save_is s c in let b = rules.save_back (spot_of s.0) (spot_of s.1) i in (rules.free_to (spot_of s.0) (inl (b.move, b.set)), rules.free_to (spot_of s.1) (inr (spot_of s.0, i))))
      (λ row c. (rules.free_to (spot_of row.to) (inl (move_of row, row_set row c)), if_some (λ p. IsFree (spot_of p)) row.from (λ p e. rules.free_from (spot_of row.to) (spot_of p) (row_takes row p c e)), if_some (λ p. IsFree (spot_of p)) row.back (λ p e. rules.free_back (spot_of row.to) (spot_of p) (row_backs row p c e))))
      (λ p c. elim (rules.clear_used (spot_of p) (clear_is p c)) [ inl t ↦ rules.free_from t.0 (spot_of p) t.1 | inr s ↦ rules.free_to (spot_of p) (inr s) ])
      (λ p c. off_free (spot_of p) (off_is p c).listed)
  passes source_stays = each_entry (SourceStays plan) plan (λ p c. tt) (λ s c. tt)
      (λ row c. if_some (λ p. ¬ IsSetTo plan (spot_of p)) row.from (λ p e. unset (spot_of p) (rules.source_unset (spot_of row.to) (spot_of p) (row_takes row p c e))))
      (λ p c. tt) (λ p c. tt)
  passes save_stays = each_entry (SaveStays plan) plan (λ p c. tt)
      (λ s c. let i = save_is s c in (unset (spot_of s.1) (rules.save_unset (spot_of s.0) (spot_of s.1) i), λ h. let t = from_takes (spot_of s.1) h in rules.save_unread (spot_of s.0) (spot_of s.1) t.0 i t.1))
      (λ row c. tt) (λ p c. tt) (λ p c. tt)
  passes keeping = each_entry (Keeping plan) plan (λ p c. tt)
      (λ s c. rules.save_keeps (spot_of s.0) (spot_of s.1) (save_is s c)) (λ row c. tt)
      (λ p c. let i = clear_is p c in (unset (spot_of p) (rules.clear_unset (spot_of p) i), rules.clear_keeps (spot_of p) i)) (λ p c. tt)
  passes clear_is_used = each_entry (ClearIsUsed plan) plan (λ p c. tt) (λ s c. tt) (λ row c. tt)
      (λ p c some. used (spot_of p) (clear_is p c)) (λ p c. tt)
    where
      used : (x : Spot) → m.clears x → IsSetFrom plan x ⊎ IsSaveTo plan x
      used x i = elim (rules.clear_used x i) [ inl t ↦ inl (takes_from t.0 x t.1) | inr s ↦ inr (moved-is_save m plan laid a.now x s.0 s.1) ]
  passes save_is_back = each_entry (SaveIsBack plan) plan (λ p c. tt)
      (λ s c. backs_back (spot_of s.0) (spot_of s.1) (rules.save_back (spot_of s.0) (spot_of s.1) (save_is s c))) (λ row c. tt) (λ p c. tt) (λ p c. tt)
  passes back_stays = each_entry (BackStays plan) plan (λ p c. tt) (λ s c. tt)
      (λ row c. if_some _ row.back (λ p e. elim (rules.back_stays (spot_of row.to) (spot_of p) (row_backs row p c e)) [
        | inl i ↦ inl ((laid.saves (spot_of row.to) (spot_of p)).1 i)
        | inr h ↦ inr (h.0, unset (spot_of p) h.1)
      ])) (λ p c. tt) (λ p c. tt)
  passes apart = each_entry (Apart plan) plan
      (λ p c. let h = made_is p c in (λ to. rules.apart (spot_of p) h.place (to_is (spot_of p) to) (to_is h.place h.to) h.below, λ clear. rules.clear_apart (spot_of p) h.place ((laid.clears (spot_of p)).0 clear) (to_is h.place h.to) h.below))
      (λ s c y to. rules.apart y (spot_of s.1) (to_is y to) (inr (spot_of s.0, save_is s c)))
      (λ row c y to. rules.apart y (spot_of row.to) (to_is y to) (inl (move_of row, row_set row c)))
      (λ p c. tt)
      (λ p c. off_game (spot_of p) (off_is p c).listed)

  made_or_there : (x s : Spot) → IsDestination plan x → IsBelow s x → IsFolder a s ⊎ Has plan.folders s
  made_or_there x s to b = by_test (a.folders s) refl
    where
      by_test : (t : Bool) → a.folders s ≡ t → IsFolder a s ⊎ Has plan.folders s
      by_test true e = inl e
      by_test false e = inr ((folders.made s).1 (record { missing = e; place = x; to = to; below = b }))

  pub sound_plan : OnDisk a m → SoundPlan a plan
  sound_plan disk = record {
    rules = passes;
    save_absent = λ s c. disk.save_absent (spot_of s.0) (spot_of s.1) (save_is s c);
    save_source = λ s c. disk.save_source (spot_of s.0) (spot_of s.1) (save_is s c);
    set_source = λ x h. let t = from_takes x h in disk.source_file t.0 x t.1;
    back_same = λ row back c e unsaved. elim (disk.back_same (spot_of row.to) (spot_of back) (row_backs row back c e)) [
      | inl i ↦ absurd (unsaved (moved-is_save m plan laid a.now (spot_of back) (spot_of row.to) i))
      | inr h ↦ record { number = h.0.0; first = h.1 ∙ h.0.1; second = h.0.1 }
    ];
    back_none = λ row c. let h = disk.back_none (spot_of row.to) (move_of row) (row_set row c) in (λ e. h.0 (ap (option_map spot_of) e), λ e. no_back row.back (h.1 e));
    clear_used = λ x i. elim (rules.clear_used x ((laid.clears x).0 i)) [ inl t ↦ inl (takes_from t.0 x t.1) | inr s ↦ inr (moved-is_save m plan laid a.now x s.0 s.1) ];
    parents = parents;
    made = λ x has. let h = (folders.made x).0 has in inl (absent-kind a x h.missing (disk.parent_free x h.place (to_is h.place h.to) h.below h.missing));
  }
    where
      no_back : (o : Option Place) → option_map spot_of o ≡ None → o ≡ None
      no_back None e = refl
      no_back (Some p) e = absurd (cc)

      parents : (x s : Spot) → IsDestination plan x ⊎ Has plan.folders x → IsBelow s x → IsFolder a s ⊎ Has plan.folders s
      parents x s (inl to) b = made_or_there x s to b
      parents x s (inr has) b = let h = (folders.made x).0 has in made_or_there h.place s h.to (below-trans s x h.place b h.below)
