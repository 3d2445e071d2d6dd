-- The plan of a purge leads to its desk.
use Rattle.purge_run.proofs.Gets.{gets_file}
use Rattle.purge_run.proofs.Here.{here_at}
use Rattle.plan_model.proofs.Rows.{row_free}
use Rattle.plan_model.specs.Rows.{old_of, has_original, from_backup}
use Rattle.manifest_json.specs.declared.manifest.Manifest.{Manifest}
use Rattle.purge_run.proofs.Premises.{backup_place, ready_for}
use Rattle.purge_run.specs.Holds.{aside_at, over, purge_set, SetsAside, FreesOriginal, purge_moves}
use Rattle.desk_model.specs.Purged.{saved_of, stands_over, purged_aside, Purged}
use Rattle.std.proofs.Common.{◌≡◌, ◌≢◌, ℕ, Bool, true, false, ◌&&◌, if◌then◌else◌, List, [], ◌∷◌, map, refl, sym, ap, ◌∙◌, subst}
use Rattle.std.specs.List.{Contains}
use Rattle.std.specs.List.Sorted.{IsStrictlySortedBy}
use Rattle.std.specs.Fmt.{decimal}
use Rattle.std.specs.declared.option.Option.{Option}
use Rattle.std.specs.declared.option.Option.TheVariants.{None, Some}
use Rattle.rel_paths.specs.Names.{names_of, backup_names, IsFreePath}
use Rattle.rel_paths.proofs.Truths.{both}
use Rattle.tree_fs.specs.declared.place.Root.{Root}
use Rattle.tree_fs.specs.declared.place.Root.TheVariants.{Stage, Game, Keep}
use Rattle.tree_fs.specs.Spot.{Spot}
use Rattle.tree_fs.specs.Places.{game_spot}
use Rattle.tree_fs.specs.Texts.{root_word}
use Rattle.tree_fs.specs.Disk.{Disk, Value, none}
use Rattle.tree_fs.proofs.KindOf.{kind-absent}
use Rattle.list_laws.proofs.Containing.{contains_none}
use Rattle.manifest_json.specs.declared.manifest.Row.{Row}
use Rattle.move_plan.specs.declared.plan.Plan.{Plan}
use Rattle.backup_keep.specs.Places.{backup_spot}
use Rattle.desk_model.specs.Places.{Names, in_game, in_stage, in_aside, manifest_spot}
use Rattle.desk_model.specs.Desk.{without_manifest, plain, plain_by, found, aside_of, file_or_none, desk_of, is_file}
use Rattle.desk_model.specs.Records.{rows_of, row_at, row_behind}
use Rattle.backup_keep.specs.Asides.{IsNextAside}
use Rattle.backup_keep.specs.Origins.{origin_of}
use Rattle.desk_model.specs.Settled.{set_aside}
use Rattle.desk_model.specs.Outcome.{own_or, updated, recorded_or_none, planned}
use Rattle.desk_model.proofs.Agreeing.{without-agree}
use Rattle.purge_run.specs.Plans.{CanPurge, PurgePlan}
use Rattle.plan_model.proofs.Values.{HasFile, its_file, no_file, is_none, file_or_absent-not_odd, off_manifest}
use Rattle.tree_fs.proofs.Below.{none_below}
use Rattle.plan_model.proofs.Moved.{value_at, moved-clear, moved-save, moved-else}
use Rattle.plan_model.proofs.Firsts.{Rises, IsBehind, behind-some, behind-none, row-some, row-here}
use Rattle.plan_model.proofs.Paths.{good-not_backup, good-off, backup-off, not_manifest}
use Rattle.plan_model.proofs.FolderRules.{folder_rule}
use Rattle.purge_run.proofs.Held.{told_at, hold_none, hold_over, row_good, behind_unset, game_unsaved, frees_row, next_once, next_absent}
use Rattle.backup_keep.proofs.Kept.{origin_of-aside, aside-origin_of}

module _ (a : Disk) (n : ℕ) (can : CanPurge a (old_of a) n) (plan : Plan) (is : PurgePlan a (old_of a) n plan) where
  abbrev old : Manifest
  old = old_of a

  abbrev now : Spot → Value
  now = updated plan a.now

  -- from backup
  abbrev original_of : Row → Value
  original_of r = if r.shadowed then file_or_none (a.now (backup_spot r.path)) else none

  from_original : (r : Row) → value_at a.now (from_backup a r) ≡ original_of r
  from_original r = by_tests r.shadowed (is_file (a.now (backup_spot r.path))) refl
    where
      by_tests : (s b : Bool) → is_file (a.now (backup_spot r.path)) ≡ b → value_at a.now (if s && b then Some (backup_spot r.path) else None) ≡ (if s then file_or_none (a.now (backup_spot r.path)) else none)
      by_tests false b e = refl
      by_tests true true e = refl
      by_tests true false e = sym (no_file (a.now (backup_spot r.path)) e)

  here_is : (t : List ℕ) (r : Row) → IsFreePath t → row_at old.rows (names_of t) ≡ Some r → now (game_spot t) ≡ original_of r
  here_is t r good e = here_at a old n can plan is.moves t r good e ∙ from_original r

  seen_here : (t : List ℕ) (f : Spot → Value) → IsFreePath t → without_manifest f (game_spot t) ≡ f (game_spot t)
  seen_here t f good = off_manifest f (game_spot t) (not_manifest (names_of t) (good-off t good))

  seen_behind : (t : List ℕ) (f : Spot → Value) → IsFreePath t → without_manifest f (backup_spot t) ≡ f (backup_spot t)
  seen_behind t f good = off_manifest f (backup_spot t) (not_manifest (backup_names (names_of t)) (backup-off t good))

  -- The plain game folder

  unbehind : (t : List ℕ) → IsFreePath t → (o : Option Row) → row_behind old.rows (names_of t) ≡ o → o ≡ None
  unbehind t good None e = refl
  unbehind t good (Some r) e = absurd (good-not_backup t r.path good (behind-some old.rows (names_of t) r e).here)

  managed : (t : List ℕ) (r : Row) → IsFreePath t → row_at old.rows (names_of t) ≡ Some r → names_of r.path ≡ names_of t → without_manifest now (game_spot t) ≡ plain old.rows (without_manifest a.now) (names_of t)
  unfolding plain
  managed t r good e same =
      seen_here t now good ∙ here_is t r good e
      ∙ ap (λ q. if r.shadowed then file_or_none (a.now (in_game (backup_names q))) else none) same
      ∙ sym (λ i. plain_by (e i) (row_behind old.rows (names_of t)) (without_manifest a.now (game_spot t)) (seen_behind t a.now good i))

  gone : (q : Names) (r : Row) → IsBehind old.rows q r → without_manifest now (in_game q) ≡ none
  gone q r behind =
      let good = row_free old.rows can.rows r behind.listed in
      ap (λ x. without_manifest now (in_game x)) (sym behind.here) ∙ seen_behind r.path now good ∙ by_file (has_original a r) refl
    where
      not_file : r.shadowed ≡ true → has_original a r ≡ false → is_file (a.now (backup_spot r.path)) ≡ false
      not_file s e = sym (ap (λ c. c && is_file (a.now (backup_spot r.path))) s) ∙ e

      by_file : (b : Bool) → has_original a r ≡ b → now (backup_spot r.path) ≡ none
      by_file true e = moved-clear (purge_moves a old.rows n) plan is.moves a.now (backup_spot r.path) (record { row = r; at = row-here old.rows r can.rows.rise behind.listed; original = e; here = refl })
      by_file false e =
          moved-else (purge_moves a old.rows n) plan is.moves a.now (backup_spot r.path) (behind_unset a old n can r.path)
          (λ h. let f = frees_row a old n can r.path h in
          let u : Some r ≡ Some f.0 = sym (row-here old.rows r can.rows.rise behind.listed) ∙ f.1 in
          let same : r ≡ f.0 = cc in
          let t : false ≡ true = sym e ∙ ap (has_original a) same ∙ f.2 in cc)
          (λ y. game_unsaved a old n can (backup_names (names_of r.path)) y)
          ∙ is_none (a.now (backup_spot r.path)) (not_file behind.shadowed e) (file_or_absent-not_odd a (backup_spot r.path) (backup_place a old.rows can.passes.unblocked r behind.listed behind.shadowed))

  left_alone : (q : Names) → row_at old.rows q ≡ None → row_behind old.rows q ≡ None → without_manifest now (in_game q) ≡ without_manifest a.now (in_game q)
  left_alone q unrowed unbehind =
      without-agree now a.now (in_game q) (λ ne. moved-else (purge_moves a old.rows n) plan is.moves a.now (in_game q) (ap (purge_set a n) (hold_none a old n can q unrowed)) kept (λ y. game_unsaved a old n can q y))
    where
      kept : FreesOriginal a old.rows (in_game q) → ⊥
      kept h =
          behind-none old.rows q h.row unbehind (record { listed = (row-some old.rows (names_of h.row.path) h.row h.at).0; shadowed = (both h.row.shadowed _ h.original).0; here = ap (λ (s : Spot). s.names) h.here })

  unmanaged : (q : Names) (o : Option Row) → row_at old.rows q ≡ None → row_behind old.rows q ≡ o → without_manifest now (in_game q) ≡ plain old.rows (without_manifest a.now) q
  unfolding plain
  unmanaged q (Some r) e f = gone q r (behind-some old.rows q r f) ∙ sym (λ i. plain_by (e i) (f i) (without_manifest a.now (in_game q)) (without_manifest a.now (in_game (backup_names q))))
  unmanaged q None e f = left_alone q e f ∙ sym (λ i. plain_by (e i) (f i) (without_manifest a.now (in_game q)) (without_manifest a.now (in_game (backup_names q))))

  plain_same : (p : Names) → without_manifest now (in_game p) ≡ plain old.rows (without_manifest a.now) p
  plain_same p = by_row (row_at old.rows p) refl
    where
      by_row : (o : Option Row) → row_at old.rows p ≡ o → without_manifest now (in_game p) ≡ plain old.rows (without_manifest a.now) p
      by_row None e = unmanaged p (row_behind old.rows p) e refl
      by_row (Some r) e =
          let g = row_good a old n can p r e in
          subst (λ q. without_manifest now (in_game q) ≡ plain old.rows (without_manifest a.now) q) g.1 (managed r.path r g.0 (ap (row_at old.rows) g.1 ∙ e) refl)

  no_rows : rows_of (recorded_or_none plan.manifest) ≡ []
  no_rows = ap (λ m. rows_of (recorded_or_none m)) is.manifest

  bare_plain : (v : Spot → Value) (p : Names) → plain [] v p ≡ v (in_game p)
  unfolding plain row_at row_behind
  bare_plain v p = refl

  bare_found : (v : Spot → Value) (p : Names) → found [] v p ≡ none
  unfolding found row_at
  bare_found v p = refl

  -- Stage and what stands aside

  staged_seen : (p : Names) → without_manifest now (in_stage p) ≡ without_manifest a.now (in_stage p)
  staged_seen p = without-agree now a.now (in_stage p) (λ ne. moved-else (purge_moves a old.rows n) plan is.moves a.now (in_stage p) refl
      (λ h. let e : Game ≡ Stage = ap (λ (s : Spot). s.root) h.here in cc) (λ y h. let e : Keep ≡ Stage = ap (λ (s : Spot). s.root) h.here in cc))

  aside_kept : (x : Spot) → x.root ≡ Keep → ¬ FreesOriginal a old.rows x
  aside_kept x root h = let e : Game ≡ Keep = ap (λ (s : Spot). s.root) h.here ∙ root in cc

  -- a save to a place there
  record SaveThere (number : ℕ) (p : Names) (y : Spot) : Type 0 where
    row : Row
    at : row_at old.rows (names_of row.path) ≡ Some row
    over_it : stands_over a row ≡ true
    has : HasFile (a.now (game_spot row.path))
    named : origin_of number (in_aside p) ≡ Some (game_spot row.path)
    source : game_spot row.path ≡ y

  saved_there : (number : ℕ) (p : Names) (y : Spot) → IsNextAside a number → SetsAside a old.rows n y (in_aside p) → SaveThere number p y
  saved_there number p y next h =
      let f = told_at a old n can (names_of h.row.path) (over h.row) h.case in
      let ready = ready_for a old n can h.row (row-some old.rows (names_of h.row.path) h.row f.0).0 f.2 in
      let same = next_once a number n next ready.next in
      record {
        row = h.row;
        at = f.0;
        over_it = f.2;
        has = f.1;
        named = ap (λ k. origin_of k (in_aside p)) same ∙ ap (origin_of n) (sym h.here) ∙ origin_of-aside n (game_spot h.row.path);
        source = h.source;
      }

  module _ (number : ℕ) (next : IsNextAside a number) (p : Names) where
    abbrev x : Spot
    x = in_aside p

    stays : ((y : Spot) → ¬ SetsAside a old.rows n y x) → now x ≡ a.now x
    stays unsaved = moved-else (purge_moves a old.rows n) plan is.moves a.now x refl (aside_kept x refl) unsaved

    gets : (r : Row) → row_at old.rows (names_of r.path) ≡ Some r → stands_over a r ≡ true → origin_of number (in_aside p) ≡ Some (game_spot r.path) → now x ≡ a.now (game_spot r.path)
    gets r e s o =
        let ready = ready_for a old n can r (row-some old.rows (names_of r.path) r e).0 s in
        let same = next_once a number n next ready.next in
        let path : x ≡ aside_at n r.path = aside-origin_of n x (game_spot r.path) (ap (λ k. origin_of k x) (sym same) ∙ o) in
        let free : a.now x ≡ none = ap a.now path ∙ none_below a can.valid (in_aside (decimal n ∷ [])) (aside_at n r.path) (record { root = refl; name = root_word Game; rest = names_of r.path; names = refl }) (kind-absent a (in_aside (decimal n ∷ [])) (next_absent a n ready)).0 in
        let has = told_at a old n can (names_of r.path) (over r) (hold_over a old n can r e s) in
        moved-save (purge_moves a old.rows n) plan is.moves a.now x (game_spot r.path) refl (aside_kept x refl)
        (record { row = r; case = hold_over a old n can r e s; source = refl; here = sym path })
        (λ y h. let t = saved_there number p y next h in
        let u : Some (game_spot t.row.path) ≡ Some (game_spot r.path) = sym t.named ∙ o in
        let v : game_spot t.row.path ≡ game_spot r.path = cc in
        sym t.source ∙ v)
        ∙ ap (λ v. own_or v (file_or_none (a.now (game_spot r.path)))) free
        ∙ its_file (a.now (game_spot r.path)) has.1

    by_row : (q : Names) (o : Option Row) → origin_of number x ≡ Some (in_game q) → row_at old.rows q ≡ o → now x ≡ set_aside a (stands_over a) (in_game q) (a.now x) o
    by_row q None o e = stays (λ y h. let t = saved_there number p y next h in
        let u : Some (game_spot t.row.path) ≡ Some (in_game q) = sym t.named ∙ o in
        let s : game_spot t.row.path ≡ in_game q = cc in
        let v : names_of t.row.path ≡ q = ap (λ (y : Spot). y.names) s in
        let w : Some t.row ≡ None = sym t.at ∙ ap (row_at old.rows) v ∙ e in cc)
    by_row q (Some r) o e = by_test (stands_over a r) refl
      where
        named : names_of r.path ≡ q
        named = (row-some old.rows q r e).1

        by_test : (b : Bool) → stands_over a r ≡ b → now x ≡ (if b then a.now (in_game q) else a.now x)
        by_test true s = gets r (ap (row_at old.rows) named ∙ e) s (o ∙ ap (λ z. Some (in_game z)) (sym named)) ∙ ap (λ z. a.now (in_game z)) named
        by_test false s = stays (λ y h. let t = saved_there number p y next h in
            let u : Some (game_spot t.row.path) ≡ Some (in_game q) = sym t.named ∙ o in
            let w : game_spot t.row.path ≡ in_game q = cc in
            let v : names_of t.row.path ≡ q = ap (λ (y : Spot). y.names) w in
            let both_rows : Some t.row ≡ Some r = sym t.at ∙ ap (row_at old.rows) v ∙ e in
            let i : t.row ≡ r = cc in
            let z : true ≡ false = sym t.over_it ∙ ap (stands_over a) i ∙ s in cc)

    by_root : (root : Root) (q : Names) → origin_of number x ≡ Some (record { root = root; names = q }) → now x ≡ saved_of a (a.now x) root q
    by_root Game q e = by_row q (row_at old.rows q) e refl
    by_root Stage q e = stays (λ y h. let t = saved_there number p y next h in
        let u : Some (game_spot t.row.path) ≡ Some (in_stage q) = sym t.named ∙ e in
        let s : game_spot t.row.path ≡ in_stage q = cc in
        let z : Game ≡ Stage = ap (λ (y : Spot). y.root) s in cc)
    by_root Keep q e = stays (λ y h. let t = saved_there number p y next h in
        let u : Some (game_spot t.row.path) ≡ Some (record { root = Keep; names = q }) = sym t.named ∙ e in
        let s : game_spot t.row.path ≡ record { root = Keep; names = q } = cc in
        let z : Game ≡ Keep = ap (λ (y : Spot). y.root) s in cc)

    by_origin : (o : Option Spot) → origin_of number x ≡ o → now x ≡ purged_aside a (a.now x) o
    by_origin None e = stays (λ y h. let t = saved_there number p y next h in let u : None ≡ Some (game_spot t.row.path) = sym e ∙ t.named in cc)
    by_origin (Some y) e = by_root y.root y.names e

    not_the_manifest : x ≢ manifest_spot
    not_the_manifest e = let t : Keep ≡ Game = ap (λ (s : Spot). s.root) e in cc

    seen_aside : without_manifest now x ≡ purged_aside a (without_manifest a.now x) (origin_of number x)
    seen_aside = off_manifest now x not_the_manifest ∙ by_origin (origin_of number x) refl ∙ ap (λ v. purged_aside a v (origin_of number x)) (sym (off_manifest a.now x not_the_manifest))

  aside_seen : (number : ℕ) → IsNextAside a number → (p : Names) → aside_of (without_manifest now) p ≡ purged_aside a (aside_of (without_manifest a.now) p) (origin_of number (in_aside p))
  aside_seen number next [] = refl
  aside_seen number next (k ∷ ks) = seen_aside number next (k ∷ ks)

  -- Folders

  rise : Rises (map (λ (r : Row). r.path) (rows_of (recorded_or_none plan.manifest)))
  unfolding IsStrictlySortedBy
  rise = subst (λ rows. Rises (map (λ (r : Row). r.path) rows)) (sym no_rows) tt

  files : (r : Row) → Contains (rows_of (recorded_or_none plan.manifest)) r → HasFile (without_manifest now (game_spot r.path))
  files r c = absurd (contains_none r (subst (λ rows. Contains rows r) no_rows c))

  -- the outcome of the plan is the purge
  pub purge_leads : Purged a (desk_of (planned a plan))
  purge_leads = record {
    plain = ap (λ rows. plain rows (without_manifest now)) no_rows ∙ (λ i p. (bare_plain (without_manifest now) p ∙ plain_same p) i);
    manifest = ap recorded_or_none is.manifest;
    found = λ p. ap (λ rows. found rows (without_manifest now) p) no_rows ∙ bare_found (without_manifest now) p;
    staged = λ i p. staged_seen p i;
    aside = aside_seen;
    profile = refl;
    folders = folder_rule a can.valid plan rise files (gets_file a old n can plan is.moves) is.folders;
    bytes = λ k named. refl;
  }
