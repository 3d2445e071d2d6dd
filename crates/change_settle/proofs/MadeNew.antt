-- Which folders a settlement makes, by what was looked at.
use Rattle.std.proofs.Common.{◌≡◌, ◌≢◌, ◌⊎◌, ◌↔◌, ℕ, Bool, true, false, List, [], ◌∷◌, ◌++◌, map, filter_map, refl, sym, ap, ◌∙◌, inl, inr, subst}
use Rattle.std.specs.List.{Contains}
use Rattle.std.specs.Fmt.{decimal}
use Rattle.std.specs.declared.option.Option.TheVariants.{Some}
use Rattle.list_laws.proofs.Containing.{contains_map, map_contains, contains_filter_map, filter_map_contains}
use Rattle.tree_fs.specs.declared.name.Kind.TheVariants.{Absent}
use Rattle.tree_fs.specs.declared.place.Place.{Place}
use Rattle.tree_fs.specs.Spot.{Spot, spot_of, IsBelow}
use Rattle.tree_fs.specs.Texts.{root_word}
use Rattle.tree_fs.specs.Disk.{Disk, kind_of}
use Rattle.tree_fs.proofs.KindOf.{kind-absent, kind-folder}
use Rattle.tree_fs.proofs.Below.{no_folder_below}
use Rattle.backup_keep.specs.Places.{aside_folder, aside_spot}
use Rattle.manifest_json.specs.declared.manifest.Row.{Row}
use Rattle.manifest_json.specs.declared.manifest.Manifest.{Manifest}
use Rattle.desk_model.specs.Places.{Names, in_aside}
use Rattle.desk_model.specs.Settled.{Choice, deed_of}
use Rattle.desk_model.proofs.Cases.{head_is}
use Rattle.plan_model.specs.Lists.{ends_of}
use Rattle.plan_model.specs.Rows.{IsFolderOrAbsent}
use Rattle.purge_run.proofs.Premises.{AsideReady}
use Rattle.purge_run.proofs.Held.{next_absent}
use Rattle.change_settle.specs.Above.{IsAboveOne, IsAsideAbove}
use Rattle.change_settle.specs.Deeds.{saved_spot, Saves}
use Rattle.change_settle.specs.Folders.{IsMissingFor}
use Rattle.change_settle.specs.Refusals.{restored_spot, SetsSomeAside}
use Rattle.change_settle.specs.Plans.{CanSettle}
use Rattle.change_settle.specs.Tasks.{tasks_of, task_restored}
use Rattle.change_settle.proofs.RowPlaces.{the_root, inside, above_aside}
use Rattle.change_settle.proofs.Saved.{ready}

module _ (choice : Choice) (a : Disk) (old : Manifest) (n : ℕ) (can : CanSettle choice a old n) where
  -- a missing folder is no root
  no_root : (s : Spot) → a.folders s ≡ false → s.names ≢ []
  no_root s missing top = let no : true ≡ false = sym (can.valid.roots s.root) ∙ sym (ap a.folders (λ i. record { root = s.root; names = top i })) ∙ missing in cc

  -- the folders above what is set aside are missing but for the aside folder, which may be there
  aside_new : (y s : Spot) → AsideReady a n → IsBelow s (aside_spot n y) → s.names ≢ [] → (there : Bool) → there ≡ a.folders aside_folder → (there ≡ true → s ≢ aside_folder) → a.folders s ≡ false
  aside_new y s is b some there at new = elim (above_aside s (decimal n ∷ root_word y.root ∷ y.names) b) [
    | the_root e ↦ absurd (some (ap (λ (z : Spot). z.names) e))
    | inside ms name rest here e ↦ by_names ms name rest here e
  ]
    where
      folder : Spot
      folder = in_aside (decimal n ∷ [])

      free : a.folders folder ≡ false
      free = (kind-absent a folder (next_absent a n is)).0

      by_there : (b : Bool) → there ≡ b → s ≡ aside_folder → a.folders s ≡ false
      by_there true e here = absurd (new e here)
      by_there false e here = ap a.folders here ∙ sym at ∙ e

      by_names : (ms : Names) (name : List ℕ) (rest : Names) → s ≡ in_aside ms → decimal n ∷ root_word y.root ∷ y.names ≡ ms ++ name ∷ rest → a.folders s ≡ false
      by_names [] name rest here e = by_there there refl here
      by_names (z ∷ []) name rest here e = let first = head_is (decimal n) z (root_word y.root ∷ y.names) (name ∷ rest) e in ap a.folders (here ∙ ap (λ w. in_aside (w ∷ [])) (sym first)) ∙ free
      by_names (z ∷ w ∷ ws) name rest here e =
          let first = head_is (decimal n) z (root_word y.root ∷ y.names) (w ∷ (ws ++ name ∷ rest)) e in
          ap a.folders (here ∙ ap (λ v. in_aside (v ∷ w ∷ ws)) (sym first))
          ∙ no_folder_below a can.valid folder (in_aside (decimal n ∷ w ∷ ws)) (record { root = refl; name = w; rest = ws; names = refl }) free

  -- a row whose file is put back at a place of these
  restored_from : (x : Spot) → Contains (filter_map task_restored (tasks_of choice a old.rows)) x → (r : Row) × Contains old.rows r × (restored_spot r (deed_of choice a r) ≡ Some x)
  restored_from x c =
      let t = contains_filter_map task_restored (tasks_of choice a old.rows) x c in
      let r = contains_map (λ (r : Row). (r, deed_of choice a r)) old.rows t.0 t.1 in
      (r.0, r.1, ap task_restored r.2 ∙ t.2)

  restored_to : (r : Row) (x : Spot) → Contains old.rows r → restored_spot r (deed_of choice a r) ≡ Some x → Contains (filter_map task_restored (tasks_of choice a old.rows)) x
  restored_to r x c e = filter_map_contains task_restored (tasks_of choice a old.rows) (r, deed_of choice a r) x (map_contains (λ (r : Row). (r, deed_of choice a r)) old.rows r c) e

  module _ (restored missing : List Spot) (saves : List (Place × Place)) (there : Bool)
      (restored_are : restored ≡ filter_map task_restored (tasks_of choice a old.rows))
      (missing_are : (s : Spot) → (Contains missing s ↔ IsAboveOne restored s × (kind_of a s ≡ Absent)))
      (saves_are : (from to : Spot) → (Contains (map ends_of saves) (from, to) ↔ Saves choice a old.rows n from to))
      (is_there : SetsSomeAside choice a old.rows → there ≡ a.folders aside_folder) where
    from_restored : (s : Spot) → Contains missing s → IsMissingFor choice a old.rows n s
    from_restored s c =
        let h = (missing_are s).0 c in
        let r = restored_from h.0.place (subst (λ l. Contains l h.0.place) restored_are h.0.among) in
        record { missing = (kind-absent a s h.1).0; row = r.0; listed = r.1; place = h.0.place; comes = inl r.2; below = h.0.above.below }

    from_saved : (s : Spot) → IsAsideAbove there saves s → IsMissingFor choice a old.rows n s
    from_saved s h =
        let v = contains_map (λ (v : Place × Place). spot_of v.1) saves h.above.place h.above.among in
        let save = (saves_are (spot_of v.0.0) (spot_of v.0.1)).0 (map_contains ends_of saves v.0 v.1) in
        let some : SetsSomeAside choice a old.rows = record { row = save.row; listed = save.listed; origin = spot_of v.0.0; saved = save.saved } in
        let below : IsBelow s (aside_spot n (spot_of v.0.0)) = subst (IsBelow s) (sym v.2 ∙ sym save.here) h.above.above.below in
        record {
          missing = aside_new (spot_of v.0.0) s (ready choice a old n can save.row (spot_of v.0.0) save.listed save.saved) below h.above.above.some there (is_there some) h.new;
          row = save.row;
          listed = save.listed;
          place = h.above.place;
          comes = inr (spot_of v.0.0, save.saved, save.here ∙ v.2);
          below = h.above.above.below;
        }

    to_restored : (s : Spot) (h : IsMissingFor choice a old.rows n s) → restored_spot h.row (deed_of choice a h.row) ≡ Some h.place → Contains missing s
    to_restored s h e = (missing_are s).1 (
      record { place = h.place; among = subst (λ l. Contains l h.place) (sym restored_are) (restored_to h.row h.place h.listed e); above = record { below = h.below; some = no_root s h.missing } },
      by_kind (can.passes.walk.parents h.row h.place h.listed e s h.below),
    )
      where
        by_kind : IsFolderOrAbsent a s → kind_of a s ≡ Absent
        by_kind (inl k) = k
        by_kind (inr k) = let no : true ≡ false = sym (kind-folder a s k) ∙ h.missing in absurd (cc)

    to_saved : (s : Spot) (h : IsMissingFor choice a old.rows n s) (y : Spot) → saved_spot h.row (deed_of choice a h.row) ≡ Some y → aside_spot n y ≡ h.place → IsAsideAbove there saves s
    to_saved s h y e here =
        let some : SetsSomeAside choice a old.rows = record { row = h.row; listed = h.listed; origin = y; saved = e } in
        let v = contains_map ends_of saves (y, aside_spot n y) ((saves_are y (aside_spot n y)).1 (record { row = h.row; listed = h.listed; saved = e; here = refl })) in
        let at : spot_of v.0.1 ≡ h.place = ap (λ (z : Spot × Spot). z.1) v.2 ∙ here in
        record {
          above = record {
            place = h.place;
            among = subst (Contains (map (λ (v : Place × Place). spot_of v.1) saves)) at (map_contains (λ (v : Place × Place). spot_of v.1) saves v.0 v.1);
            above = record { below = h.below; some = no_root s h.missing };
          };
          new = λ yes is. (let no : true ≡ false = sym yes ∙ is_there some ∙ ap a.folders (sym is) ∙ h.missing in cc);
        }

    pub missing_for : (s : Spot) → (Contains missing s ⊎ IsAsideAbove there saves s ↔ IsMissingFor choice a old.rows n s)
    missing_for s = (
      λ h. elim h [ inl c ↦ from_restored s c | inr k ↦ from_saved s k ],
      λ h. elim h.comes [ inl e ↦ inl (to_restored s h e) | inr e ↦ inr (to_saved s h e.0 e.1 e.2) ],
    )
