-- The folders that are made above what is set aside.
use Rattle.std.proofs.Common.{◌≡◌, ◌≢◌, ◌↔◌, ℕ, Bool, true, false, ◌&&◌, cond, List, [], ◌∷◌, ◌++◌, codes, map, filter_map, IfOk, Vec, Global, refl, sym, ap, ◌∙◌, subst, inl, inr}
use Rattle.std.specs.List.{Contains, AllByRecursion}
use Rattle.std.specs.Str.{bytes_eq}
use Rattle.std.specs.Fmt.{decimal}
use Rattle.std.specs.Ordering.{nat_cmp}
use Rattle.std.specs.Cmp.Lexicographic.{slice_cmp}
use Rattle.std.specs.declared.cmp.Ordering.TheVariants.{Less}
use Rattle.std.specs.declared.option.Option.TheVariants.{None, Some}
use Rattle.std.specs.declared.result.Result.{Result}
use Rattle.std.specs.declared.result.Result.TheVariants.{Ok, Err}
use Rattle.list_laws.proofs.Containing.{contains_map, map_contains, contains_filter_map, filter_map_contains}
use Rattle.list_laws.proofs.Texts.{bytes_eq_tells}
use Rattle.manifest_json.specs.Paths.{AreRising}
use Rattle.manifest_json.specs.declared.manifest.Manifest.{Manifest}
use Rattle.move_plan.specs.Entries.{Listed, listed, folder}
use Rattle.move_plan.specs.Rules.{ComesBefore, InOrder}
use Rattle.rel_paths.specs.Names.{names_of}
use Rattle.rel_paths.proofs.NamesOf.{same_text}
use Rattle.tree_fs.specs.declared.place.Place.{Place}
use Rattle.tree_fs.specs.declared.place.Root.TheVariants.{Keep}
use Rattle.tree_fs.specs.Spot.{Spot, spot_of, root_spot}
use Rattle.tree_fs.specs.Texts.{place_text}
use Rattle.tree_fs.specs.Disk.{Disk}
use Rattle.tree_fs.proofs.Below.{no_folder_below}
use Rattle.tree_fs.proofs.KindOf.{kind-absent}
use Rattle.tree_fs.proofs.Spots.{same_spot, same_place}
use Rattle.backup_keep.specs.Places.{aside_folder}
use Rattle.desk_model.specs.Places.{in_aside}
use Rattle.plan_model.proofs.InOrder.{made_in_order, rise_by}
use Rattle.plan_lists.specs.Above.{IsAboveOne}
use Rattle.purge_run.specs.Holds.{aside_at}
use Rattle.purge_run.specs.Folders.{IsMissingAside}
use Rattle.purge_run.specs.Plans.{CanPurge}
use Rattle.purge_run.specs.Refusals.{SetsSomeAside}
use Rattle.purge_run.specs.MadeFolders.{made_at, IsOverOne, IsAsideFolder, AreAsideFolders}
use Rattle.purge_run.specs.Told.{told, told_aside}
use Rattle.purge_run.proofs.Held.{next_absent}
use Rattle.purge_run.proofs.Looked.{stands-over, over-stands}
use Rattle.purge_run.proofs.Passed.{IsSetAside, asides_are}
use Rattle.purge_run.proofs.Premises.{ready_for}

-- The places of folders below `keep`

abbrev keep_spot : List ℕ → Spot
keep_spot path = record { root = Keep; names = names_of path }

keep_ordered : (p q : Place) (t u : List ℕ) → spot_of p ≡ keep_spot t → spot_of q ≡ keep_spot u → slice_cmp nat_cmp t u ≡ Less → ComesBefore p q
keep_ordered p q t u e f less = (λ i. slice_cmp nat_cmp (text p t e i) (text q u f i)) ∙ less
  where
    text : (p : Place) (t : List ℕ) → spot_of p ≡ keep_spot t → place_text p ≡ place_text (record { root = Keep; rel = Some t })
    text p t e = ap place_text (same_place p (record { root = Keep; rel = Some t }) e)

made_at-some : (b same : Bool) (x y : Spot) → cond (b && same) None (Some x) ≡ Some y → x ≡ y
made_at-some true true x y e = absurd (cc)
made_at-some true false x y e = cc
made_at-some false same x y e = cc

made_placed : (b : Bool) (t : List ℕ) (s : Spot) (p : Place) → made_at b t ≡ Some s → spot_of p ≡ s → spot_of p ≡ keep_spot t
made_placed b t s p is at = at ∙ sym (made_at-some b (bytes_eq t (codes "aside")) (keep_spot t) s is)

pub folders_ordered : (b : Bool) (folders : List (List ℕ)) (places : List Place) → AreRising folders → map spot_of places ≡ filter_map (made_at b) folders
    → AllByRecursion (λ (e : Listed). InOrder e.entry e.front) (listed folder 0 None places)
folders_ordered b folders places rise is =
    made_in_order (λ (t : List ℕ). t) folder spot_of (made_at b) keep_spot (made_placed b) keep_ordered (λ p front h. h) folders places (rise_by (λ (t : List ℕ). t) folders (subst AreRising (sym (map_same folders)) rise)) is
  where
    map_same : (xs : List (List ℕ)) → map (λ x. x) xs ≡ xs
    map_same [] = refl
    map_same (x ∷ xs) = ap (λ l. x ∷ l) (map_same xs)

-- which of them these are
names_aside : names_of (codes "aside") ≡ codes "aside" ∷ []
names_aside = refl

other_folder : (b : Bool) (t : List ℕ) (s : Spot) → made_at b t ≡ Some s → b ≡ true → names_of t ≢ codes "aside" ∷ []
other_folder b t s is held e = elim (bytes_eq_tells t (codes "aside")) [
  | inl same ↦ (let no : None ≡ Some s = sym (λ i. cond (held i && same.0 i) None (Some (keep_spot t))) ∙ is in cc)
  | inr differs ↦ differs.1 (same_text t (codes "aside") (e ∙ sym names_aside))
]

made_other : (b : Bool) (t : List ℕ) → (b ≡ true → names_of t ≢ codes "aside" ∷ []) → made_at b t ≡ Some (keep_spot t)
made_other false t other = refl
made_other true t other = elim (bytes_eq_tells t (codes "aside")) [
  | inl same ↦ absurd (other refl (ap names_of same.1 ∙ names_aside))
  | inr differs ↦ ap (λ c. cond c None (Some (keep_spot t))) differs.0
]

module _ (b : Bool) (asides : List (List (List ℕ))) (paths folders : List (List ℕ)) (paths_are : map names_of paths ≡ asides) (folders_are : (names : List (List ℕ)) → Contains (map names_of folders) names ↔ IsAboveOne paths names) where
  pub aside_folders_are : (spots : List Spot) → spots ≡ filter_map (made_at b) folders → AreAsideFolders b asides spots
  aside_folders_are spots is s = (
    λ c.
        let t = contains_filter_map (made_at b) folders s (subst (λ l. Contains l s) is c) in
        let here : keep_spot t.0 ≡ s = made_at-some b (bytes_eq t.0 (codes "aside")) (keep_spot t.0) s t.2 in
        let up = (folders_are (names_of t.0)).0 (map_contains names_of folders t.0 t.1) in
        record {
          root = sym (ap (λ (x : Spot). x.root) here);
          over = subst (IsOverOne asides) (ap (λ (x : Spot). x.names) here) (record { place = names_of up.path; among = subst (λ l. Contains l (names_of up.path)) paths_are (map_contains names_of paths up.path up.among); some = up.above.some; name = up.above.name; rest = up.above.rest; names = up.above.names });
          other = λ held e. other_folder b t.0 s t.2 held (ap (λ (x : Spot). x.names) here ∙ e);
        },
    λ h.
        let p = contains_map names_of paths h.over.place (subst (λ l. Contains l h.over.place) (sym paths_are) h.over.among) in
        let q = contains_map names_of folders s.names ((folders_are s.names).1 (record { path = p.0; among = p.1; above = record { some = h.over.some; name = h.over.name; rest = h.over.rest; names = p.2 ∙ h.over.names } })) in
        let here : keep_spot q.0 ≡ s = same_spot (keep_spot q.0) s (sym h.root) q.2 in
        subst (λ l. Contains l s) (sym is) (filter_map_contains (made_at b) folders q.0 s q.1 (made_other b q.0 (λ held e. h.other held (sym q.2 ∙ e)) ∙ ap Some here)),
  )

-- as the answer of a call
pub order_answer : {E : Type 0} (b : Bool) (folders : List (List ℕ)) → AreRising folders → (r : Result (Vec Place Global) E) → IfOk r (λ places. map spot_of places.items ≡ filter_map (made_at b) folders)
    → IfOk r (λ places. AllByRecursion (λ (e : Listed). InOrder e.entry e.front) (listed folder 0 None places.items))
order_answer b folders rise (Err e) is = tt
order_answer b folders rise (Ok places) is = folders_ordered b folders places.items rise is

pub are_answer : {E : Type 0} (b : Bool) (asides : List (List (List ℕ))) (paths folders : List (List ℕ)) → map names_of paths ≡ asides → ((names : List (List ℕ)) → Contains (map names_of folders) names ↔ IsAboveOne paths names)
    → (r : Result (Vec Place Global) E) → IfOk r (λ places. map spot_of places.items ≡ filter_map (made_at b) folders) → IfOk r (λ places. AreAsideFolders b asides (map spot_of places.items))
are_answer b asides paths folders paths_are folders_are (Err e) is = tt
are_answer b asides paths folders paths_are folders_are (Ok places) is = aside_folders_are b asides paths folders paths_are folders_are (map spot_of places.items) is

-- Just the missing folders above what is set aside

module _ (a : Disk) (old : Manifest) (n : ℕ) (can : CanPurge a old n) (b : Bool) (there : SetsSomeAside a old.rows → b ≡ a.folders aside_folder) where
  abbrev asides : List (List (List ℕ))
  asides = filter_map (told_aside n) (map (told a) old.rows)

  some_aside : (names : List (List ℕ)) → IsSetAside a n old.rows names → SetsSomeAside a old.rows
  some_aside names h = record { row = h.row; listed = h.listed; over = stands-over a old.rows h.row h.at }

  -- nothing is there below the number
  number_missing : (names : List (List ℕ)) → IsSetAside a n old.rows names → a.folders (in_aside (decimal n ∷ [])) ≡ false
  number_missing names h = (kind-absent a (in_aside (decimal n ∷ [])) (next_absent a n (ready_for a old n can h.row h.listed (stands-over a old.rows h.row h.at)))).0

  missing_at : (s : Spot) → s.root ≡ Keep → (h : IsOverOne asides s.names) → (b ≡ true → s.names ≢ codes "aside" ∷ []) → a.folders s ≡ false
  missing_at s root h other = by_names s.names refl (asides_here.here ∙ h.names) h.some
    where
      asides_here : IsSetAside a n old.rows h.place
      asides_here = (asides_are a n old.rows h.place).0 h.among

      by_flag : (c : Bool) → b ≡ c → s.names ≡ codes "aside" ∷ [] → a.folders s ≡ false
      by_flag true e is = absurd (other e is)
      by_flag false e is = ap a.folders (same_spot s aside_folder root is) ∙ sym (there (some_aside h.place asides_here)) ∙ e

      by_names : (names : List (List ℕ)) → s.names ≡ names → (aside_at n asides_here.row.path).names ≡ names ++ h.name ∷ h.rest → names ≢ [] → a.folders s ≡ false
      by_names [] is e some = absurd (some refl)
      by_names (k ∷ []) is e some = let head : codes "aside" ≡ k = cc in by_flag b refl (is ∙ ap (λ x. x ∷ []) (sym head))
      by_names (k ∷ m ∷ []) is e some =
          let head : codes "aside" ≡ k = cc in
          let number : decimal n ≡ m = cc in
          ap a.folders (same_spot s (in_aside (decimal n ∷ [])) root (is ∙ (λ i. sym head i ∷ sym number i ∷ []))) ∙ number_missing h.place asides_here
      by_names (k ∷ m ∷ x ∷ xs) is e some =
          let head : codes "aside" ≡ k = cc in
          let number : decimal n ≡ m = cc in
          no_folder_below a can.valid (in_aside (decimal n ∷ [])) s (record { root = root; name = x; rest = xs; names = is ∙ (λ i. sym head i ∷ sym number i ∷ x ∷ xs) }) (number_missing h.place asides_here)

  pub aside_missing : (s : Spot) → IsAsideFolder b asides s ↔ IsMissingAside a old.rows n s
  aside_missing s = (
    λ h.
        let at = (asides_are a n old.rows h.over.place).0 h.over.among in
        record {
          missing = missing_at s h.root h.over h.other;
          row = at.row;
          listed = at.listed;
          over = stands-over a old.rows at.row at.at;
          below = record { root = sym h.root; name = h.over.name; rest = h.over.rest; names = at.here ∙ h.over.names };
        },
    λ h. record {
      root = sym h.below.root;
      over = record {
        place = (aside_at n h.row.path).names;
        among = (asides_are a n old.rows (aside_at n h.row.path).names).1 (record { row = h.row; listed = h.listed; at = over-stands a old.rows h.row h.over; here = refl });
        some = λ e. (let no : true ≡ false = sym (can.valid.roots Keep) ∙ ap a.folders (same_spot (root_spot Keep) s h.below.root (sym e)) ∙ h.missing in cc);
        name = h.below.name;
        rest = h.below.rest;
        names = h.below.names;
      };
      other = λ held e.
          let no : true ≡ false = sym held ∙ there (record { row = h.row; listed = h.listed; over = h.over }) ∙ ap a.folders (same_spot aside_folder s h.below.root (sym e)) ∙ h.missing in
          cc;
    },
  )
