-- A plan's folders follow the rule.
use Rattle.rel_paths.specs.declared.control.Control.TheVariants as control
use Rattle.std.proofs.Common.{◌≡◌, ◌≢◌, ◌⊎◌, ℕ, Bool, true, false, List, [], ◌∷◌, ◌++◌, map, refl, sym, ap, ◌∙◌, inl, inr, subst}
use Rattle.std.specs.List.{Contains}
use Rattle.std.specs.declared.option.Option.{Option}
use Rattle.std.specs.declared.option.Option.TheVariants.{None, Some}
use Rattle.rel_paths.specs.Controls.{control_path}
use Rattle.tree_fs.specs.declared.place.Place.{Place}
use Rattle.tree_fs.specs.Spot.{Spot, root_spot, IsBelow}
use Rattle.tree_fs.specs.Places.{game_spot}
use Rattle.tree_fs.specs.Disk.{Disk, Value, none, file, IsValid}
use Rattle.tree_fs.specs.Calls.{IsFolder}
use Rattle.tree_fs.proofs.Spots.{not_nameless}
use Rattle.manifest_json.specs.declared.manifest.Row.{Row}
use Rattle.move_plan.specs.declared.plan.SetRow.{SetRow}
use Rattle.move_plan.specs.declared.plan.Plan.{Plan}
use Rattle.move_plan.specs.Places.{IsDestination}
use Rattle.desk_model.specs.Places.{Names, manifest_spot, IsUsers}
use Rattle.desk_model.specs.Desk.{without_manifest, View, Desk, desk_of}
use Rattle.desk_model.specs.Records.{rows_of, own_of, manifest_of}
use Rattle.desk_model.specs.Folders.{IsOwn, IsNeeded, IsOwnOrNeeded, Goes, FolderRule, OwnRule}
use Rattle.desk_model.specs.Outcome.{set_to, save_to, is_one_of, updated, updated_by, recorded_or_none, IsThere, IsTakenOff, planned}
use Rattle.desk_model.proofs.Lookups.{set_to-some, save_to-some}
use Rattle.desk_model.proofs.Spots.{control-names}
use Rattle.plan_model.specs.Folders.{IsMade, IsOwnFolder, IsListed, GoesOff, FoldersLaidOut, OwnLaidOut}
use Rattle.plan_model.proofs.Values.{HasFile, the_file, off_manifest}
use Rattle.tree_fs.proofs.Below.{below-trans, none_below}
use Rattle.plan_model.proofs.Firsts.{Rises}
use Rattle.plan_model.proofs.Lying.{lies-value, value-lies, none-lies, lies-none}

no_tail : (ys : Names) (name : List ℕ) (rest : Names) → ys ++ name ∷ rest ≡ [] → ⊥
no_tail [] name rest e = cc
no_tail (y ∷ ys) name rest e = cc

-- nothing below another folder than a root is the manifest
pub below-not_manifest : (s x : Spot) → s.names ≢ [] → IsBelow s x → x ≢ manifest_spot
below-not_manifest s x some b e = by_names s.names (control_path control.Manifest) some (sym b.names ∙ ap (λ (y : Spot). y.names) e ∙ control-names control.Manifest)
  where
    by_names : (ns : Names) (m : List ℕ) → ns ≢ [] → ns ++ b.name ∷ b.rest ≡ m ∷ [] → ⊥
    by_names [] m ne is = ne refl
    by_names (y ∷ ys) m ne is = no_tail ys b.name b.rest (let t : ys ++ b.name ∷ b.rest ≡ [] = cc in t)

-- a place that gets something is a destination
pub gets-destination : (plan : Plan) (now : Spot → Value) (x : Spot) → now x ≡ none → updated plan now x ≢ none → IsDestination plan x
unfolding updated
gets-destination plan now x free ne = by_lists (is_one_of plan.clears x) (set_to plan.sets x) (save_to plan.saves x) refl refl ne
  where
    by_lists : (b : Bool) (o : Option SetRow) (s : Option (Place × Place)) → set_to plan.sets x ≡ o → save_to plan.saves x ≡ s → updated_by now (now x) b o s ≢ none → IsDestination plan x
    by_lists true o s e f ne = absurd (ne refl)
    by_lists false (Some row) s e f ne = let h = set_to-some plan.sets x row e in inl (record { row = row; listed = h.0; here = h.1 })
    by_lists false None (Some s) e f ne = let h = save_to-some plan.saves x s f in inr (record { save = s; listed = h.0; here = h.1 })
    by_lists false None None e f ne = absurd (ne free)

-- the own folders of a disk, as the rule and as a plan names them
abbrev pub own_on : Disk → List (List ℕ)
own_on a = own_of (manifest_of a)

old-own : (a : Disk) (s : Spot) → IsOwnFolder a (own_on a) s → IsOwn a s
old-own a s h = record { path = h.path; listed = h.listed; here = h.here; is_there = h.is_there }

own-old : (a : Disk) (s : Spot) → IsOwn a s → IsOwnFolder a (own_on a) s
own-old a s h = record { path = h.path; listed = h.listed; here = h.here; is_there = h.is_there }

module _ (a : Disk) (valid : IsValid a) (plan : Plan) (rise : Rises (map (λ r. r.path) (rows_of (recorded_or_none plan.manifest))))
    (files : (r : Row) → Contains (rows_of (recorded_or_none plan.manifest)) r → HasFile (without_manifest (updated plan a.now) (game_spot r.path)))
    (gets : (x : Spot) → IsUsers x.root → IsDestination plan x → a.now x ≡ none → HasFile (updated plan a.now x))
    (laid : FoldersLaidOut a (own_on a) plan) where
  abbrev now : Spot → Value
  now = updated plan a.now

  abbrev v : View
  v = planned a plan

  abbrev new : Desk
  new = desk_of v

  pub not_root : (s : Spot) → a.folders s ≡ false → s.names ≢ []
  not_root s missing e =
      let is : s ≡ root_spot s.root = λ i. record { root = s.root; names = e i } in
      let t : true ≡ false = sym (valid.roots s.root) ∙ ap a.folders (sym is) ∙ missing in cc

  users_below : (s x : Spot) → IsUsers s.root → IsBelow s x → IsUsers x.root
  users_below s x users b = subst IsUsers (sym b.root) users

  made-needed : (s : Spot) → IsUsers s.root → IsMade a plan s → IsNeeded a new s
  made-needed s users h = by_file (gets h.place (users_below s h.place users h.below) h.to (none_below a valid s h.place h.below h.missing))
    where
      by_file : HasFile (now h.place) → IsNeeded a new s
      by_file (the_file n e) = record {
        missing = h.missing;
        place = h.place;
        below = h.below;
        number = n;
        there = value-lies v rise files h.place n (users_below s h.place users h.below) (off_manifest now h.place (below-not_manifest s h.place (not_root s h.missing) h.below) ∙ e);
      }

  needed-made : (s : Spot) → IsUsers s.root → IsNeeded a new s → IsMade a plan s
  needed-made s users h =
      let e : now h.place ≡ file h.number = sym (off_manifest now h.place (below-not_manifest s h.place (not_root s h.missing) h.below)) ∙ lies-value v rise files h.place h.number (users_below s h.place users h.below) h.there in
      record {
        missing = h.missing;
        place = h.place;
        to = gets-destination plan a.now h.place (none_below a valid s h.place h.below h.missing) (λ is. let t : file h.number ≡ none = sym e ∙ is in cc);
        below = h.below;
      }

  listed-own : (s : Spot) → IsListed a (own_on a) plan s → IsOwnOrNeeded a new s
  listed-own s (inl own) = inl (old-own a s own)
  listed-own s (inr h) = inr (h.0, made-needed s (subst IsUsers (sym h.0) tt) h.1)

  own-listed : (s : Spot) → IsOwnOrNeeded a new s → IsListed a (own_on a) plan s
  own-listed s (inl own) = inl (own-old a s own)
  own-listed s (inr h) = inr (h.0, needed-made s (subst IsUsers (sym h.0) tt) h.1)

  there-to : (s : Spot) → IsUsers s.root → IsFolder a s ⊎ IsMade a plan s → IsFolder a s ⊎ IsNeeded a new s
  there-to s users (inl is) = inl is
  there-to s users (inr is) = inr (made-needed s users is)

  there-from : (s : Spot) → IsUsers s.root → IsFolder a s ⊎ IsNeeded a new s → IsFolder a s ⊎ IsMade a plan s
  there-from s users (inl is) = inl is
  there-from s users (inr is) = inr (needed-made s users is)

  listed_root : (s : Spot) → IsListed a (own_on a) plan s → IsUsers s.root × (s.names ≢ [])
  listed_root s (inl own) = (subst (λ (x : Spot). IsUsers x.root) (sym own.here) tt, λ e. not_nameless own.path (ap (λ (x : Spot). x.names) (sym own.here) ∙ e))
  listed_root s (inr h) = (subst IsUsers (sym h.0) tt, not_root s h.1.missing)

  goes-off : (s : Spot) → Goes a new s → GoesOff a (own_on a) plan s
  goes-off s g =
      let own = own-listed s g.own in
      let r = listed_root s own in
      record {
        listed = own;
        no_value = λ x b. sym (off_manifest now x (below-not_manifest s x r.1 b)) ∙ lies-none v rise files s r.0 g.no_value x b;
        no_folder = λ x b there. own-listed x (g.no_folder x b (there-to x (users_below s x r.0 b) there));
      }

  off-goes : (s : Spot) → GoesOff a (own_on a) plan s → Goes a new s
  off-goes s g =
      let r = listed_root s g.listed in
      record {
        own = listed-own s g.listed;
        no_value = λ x b. none-lies v rise files x (users_below s x r.0 b) (off_manifest now x (below-not_manifest s x r.1 b) ∙ g.no_value x b);
        no_folder = λ x b there. listed-own x (g.no_folder x b (there-from x (users_below s x r.0 b) there));
      }

  -- what lies below a folder that goes, goes
  pub off-below : (s x : Spot) → GoesOff a (own_on a) plan s → IsBelow s x → IsFolder a x ⊎ IsMade a plan x → GoesOff a (own_on a) plan x
  off-below s x g b there = record {
    listed = g.no_folder x b there;
    no_value = λ y c. g.no_value y (below-trans s x y b c);
    no_folder = λ y c is. g.no_folder y (below-trans s x y b c) is;
  }

  made_there : (x : Spot) → IsThere a plan x → IsFolder a x ⊎ IsMade a plan x
  made_there x (inl is) = inl is
  made_there x (inr is) = inr ((laid.made x).0 is)

  off-taken : (s : Spot) → GoesOff a (own_on a) plan s → IsTakenOff a plan s
  off-taken s g =
      let r = listed_root s g.listed in
      record {
        listed = (laid.off s).1 g;
        no_value = λ x b. off_manifest now x (below-not_manifest s x r.1 b) ∙ g.no_value x b;
        no_folder = λ x b there. (laid.off x).1 (off-below s x g b (made_there x there));
      }

  pub folder_rule : FolderRule a new
  folder_rule s = (
    λ h. (h.0, there-to s h.0 (made_there s h.1.0), λ g. h.1.1 (off-taken s (goes-off s g))),
    λ h. (h.0, (there h.0 h.1, λ t. h.2 (off-goes s ((laid.off s).0 t.listed)))),
  )
    where
      there : IsUsers s.root → IsFolder a s ⊎ IsNeeded a new s → IsThere a plan s
      there users (inl is) = inl is
      there users (inr is) = inr ((laid.made s).1 (needed-made s users is))

  pub own_rule : OwnLaidOut a (own_on a) plan (own_of (recorded_or_none plan.manifest)) → OwnRule a new
  own_rule own = record {
    folders = λ path. let o = own.folders path in (
      λ c. let h = o.0 c in (listed-own (game_spot path) h.0, λ g. h.1 (goes-off (game_spot path) g)),
      λ h. o.1 (own-listed (game_spot path) h.0, λ g. h.1 (off-goes (game_spot path) g)),
    );
    order = own.order;
  }
