-- What looks tell of a row, and of the rows so far.
use Rattle.std.proofs.Common.{◌≡◌, ◌≢◌, ◌+◌, ◌<◌, ℕ, Bool, true, false, ◌&&◌, not, cond, List, [], ◌∷◌, ◌++◌, length, get_or, take, drop, suc, find, map, if◌then◌else◌, refl, sym, ap, ◌∙◌, subst, inl, inr, arith}
use Rattle.std.specs.Prelude.{flat_map}
use Rattle.std.specs.List.{Contains}
use Rattle.std.specs.Option.{option_or}
use Rattle.std.specs.declared.option.Option.TheVariants.{None, Some}
use Rattle.std.proofs.lemmas.List.{map-append}
use Rattle.std.proofs.lemmas.List.Concat.{flat_map-append}
use Rattle.std.proofs.lemmas.List.Folds.{find-append}
use Rattle.list_laws.proofs.Lists.{around, one_more}
use Rattle.list_laws.proofs.Containing.{contains_map, map_contains, contains_none, last_cases, in_this}
use Rattle.tree_fs.specs.declared.name.Kind.TheVariants.{Absent, File, Folder}
use Rattle.tree_fs.specs.Spot.{Spot, spot_of}
use Rattle.tree_fs.specs.Places.{game_spot}
use Rattle.tree_fs.specs.Disk.{Disk, IsValid, kind_of, is_one_file}
use Rattle.tree_fs.proofs.KindOf.{kind-absent, kind-file}
use Rattle.backup_keep.specs.declared.error.KeepError.{KeepError}
use Rattle.backup_keep.specs.declared.error.KeepError.TheVariants as keep
use Rattle.backup_keep.specs.Places.{backup_spot, aside_folder}
use Rattle.backup_keep.specs.Asides.{IsNextAside}
use Rattle.backup_keep.specs.Refusals.{IsKeepRefusal}
use Rattle.backup_keep.proofs.Numbered.{none_aside}
use Rattle.manifest_json.specs.declared.manifest.Row.{Row}
use Rattle.change_detect.specs.Classes.{staged_of}
use Rattle.change_detect.specs.Refusals.{is_blocking, file_or_absent}
use Rattle.desk_model.specs.Desk.{is_file}
use Rattle.desk_model.specs.Purged.{stands_over}
use Rattle.plan_model.specs.Rows.{has_original}
use Rattle.plan_model.proofs.Values.{HasFile, one_file-tells, has_file-kind}
use Rattle.purge_run.specs.declared.cases.At.TheVariants.{Over, Bare}
use Rattle.purge_run.specs.declared.cases.RowCase.{RowCase}
use Rattle.purge_run.specs.declared.error.PurgeError.{PurgeError}
use Rattle.purge_run.specs.declared.error.PurgeError.TheVariants.{Blocked, AsideFull, Failed, Memory}
use Rattle.purge_run.specs.Errors.{of_keep}
use Rattle.purge_run.specs.Refusals.{places_of_row, first_in_the_way, SetsSomeAside, HasAsideRoom, IsPurgeRefusal}
use Rattle.purge_run.specs.Told.{Told, at_by, at_of, told, case_seen, HasOver}
use Rattle.purge_run.specs.Looks.{IsBlockedAt, IsBlockedBehind, RefusedByRows, RefusedByAside}

-- At a row's path

-- what is no file isn't the same file
pub not_staged : (a : Disk) (x y : Spot) → IsValid a → kind_of a y ≢ File → is_one_file (a.now x) (a.now y) ≡ false
not_staged a x y valid other = by_test (is_one_file (a.now x) (a.now y)) refl
  where
    by_test : (b : Bool) → is_one_file (a.now x) (a.now y) ≡ b → b ≡ false
    by_test false e = refl
    by_test true e = let t = one_file-tells (a.now x) (a.now y) e in absurd (other (has_file-kind a y valid (subst HasFile t.1 t.0)))

pub at_bare : (a : Disk) (r : Row) → kind_of a (game_spot r.path) ≡ Absent → at_of a r ≡ Bare
at_bare a r e = ap (λ v. at_by (is_one_file v (a.now (staged_of r))) (is_file v)) (kind-absent a (game_spot r.path) e).1

pub at_file : (a : Disk) (r : Row) (one : Bool) → kind_of a (game_spot r.path) ≡ File → one ≡ is_one_file (a.now (game_spot r.path)) (a.now (staged_of r)) → at_of a r ≡ at_by one true
at_file a r one k e =
    let f = (kind-file a (game_spot r.path) k).1 in
    ap (λ b. at_by b (is_file (a.now (game_spot r.path)))) (sym e) ∙ ap (λ v. at_by one (is_file v)) f.1

-- At its backup place

pub original_told : (a : Disk) (r : Row) (yes : Bool) → r.shadowed ≡ true → kind_of a (backup_spot r.path) ≡ file_or_absent yes → yes ≡ has_original a r
original_told a r true s k = let f = (kind-file a (backup_spot r.path) k).1 in sym ((λ i. s i && is_file (a.now (backup_spot r.path))) ∙ ap is_file f.1)
original_told a r false s k = sym ((λ i. s i && is_file (a.now (backup_spot r.path))) ∙ ap is_file (kind-absent a (backup_spot r.path) k).1)

pub no_original : (a : Disk) (r : Row) → r.shadowed ≡ false → false ≡ has_original a r
no_original a r s = sym (λ i. s i && is_file (a.now (backup_spot r.path)))

pub not_blocked : (yes : Bool) → is_blocking (file_or_absent yes) ≡ false
not_blocked true = refl
not_blocked false = refl

-- The first place in the way

abbrev test : Disk → Spot → Bool
test a x = is_blocking (kind_of a x)

way_append : (a : Disk) (rows more : List Row) → first_in_the_way a (rows ++ more) ≡ option_or (first_in_the_way a rows) (first_in_the_way a more)
way_append a rows more = ap (find (test a)) (flat_map-append places_of_row rows more) ∙ find-append (test a) (flat_map places_of_row rows) (flat_map places_of_row more)

way_at : (a : Disk) (rows more : List Row) (r : Row) (x : Spot) → first_in_the_way a rows ≡ None → first_in_the_way a (r ∷ []) ≡ Some x → first_in_the_way a (rows ++ r ∷ more) ≡ Some x
way_at a rows more r x none one =
    way_append a rows (r ∷ more) ∙ ap (λ o. option_or o (first_in_the_way a (r ∷ more))) none
    ∙ way_append a (r ∷ []) more ∙ ap (λ o. option_or o (first_in_the_way a more)) one

way_more : (a : Disk) (rows : List Row) (r : Row) → first_in_the_way a rows ≡ None → first_in_the_way a (r ∷ []) ≡ None → first_in_the_way a (rows ++ r ∷ []) ≡ None
way_more a rows r none also = way_append a rows (r ∷ []) ∙ ap (λ o. option_or o (first_in_the_way a (r ∷ []))) none ∙ also

module _ (a : Disk) (r : Row) where
  abbrev game : Spot
  game = game_spot r.path

  abbrev behind : Spot
  behind = backup_spot r.path

  game_in_way : test a game ≡ true → first_in_the_way a (r ∷ []) ≡ Some game
  game_in_way e = by_shadow r.shadowed
    where
      by_shadow : (s : Bool) → find (test a) ((if s then game ∷ behind ∷ [] else game ∷ []) ++ []) ≡ Some game
      by_shadow true = ap (λ c. cond c (Some game) (find (test a) (behind ∷ []))) e
      by_shadow false = ap (λ c. cond c (Some game) None) e

  behind_in_way : test a game ≡ false → r.shadowed ≡ true → test a behind ≡ true → first_in_the_way a (r ∷ []) ≡ Some behind
  behind_in_way e shadowed f = by_shadow r.shadowed shadowed
    where
      by_shadow : (s : Bool) → s ≡ true → find (test a) ((if s then game ∷ behind ∷ [] else game ∷ []) ++ []) ≡ Some behind
      by_shadow true g = λ i. cond (e i) (Some game) (cond (f i) (Some behind) None)
      by_shadow false g = absurd (cc)

  pub none_in_way : test a game ≡ false → (r.shadowed ≡ true → test a behind ≡ false) → first_in_the_way a (r ∷ []) ≡ None
  none_in_way e f = by_shadow r.shadowed f
    where
      by_shadow : (s : Bool) → (s ≡ true → test a behind ≡ false) → find (test a) ((if s then game ∷ behind ∷ [] else game ∷ []) ++ []) ≡ None
      by_shadow true g = λ i. cond (e i) (Some game) (cond (g refl i) (Some behind) None)
      by_shadow false g = ap (λ c. cond c (Some game) None) e

  pub refused_here : (e : PurgeError) → IsBlockedAt a (game_spot r.path) e → RefusedByRows a (r ∷ []) e
  refused_here (Blocked place) h = game_in_way h.1 ∙ ap Some (sym h.0)
  refused_here AsideFull h = h
  refused_here Failed h = tt
  refused_here Memory h = tt

  pub refused_behind : (e : PurgeError) → is_blocking (kind_of a (game_spot r.path)) ≡ false → IsBlockedBehind a r e → RefusedByRows a (r ∷ []) e
  refused_behind (Blocked place) free h = behind_in_way free h.0 h.2 ∙ ap Some (sym h.1)
  refused_behind AsideFull free h = h
  refused_behind Failed free h = tt
  refused_behind Memory free h = tt

module _ (a : Disk) (rows : List Row) (i : ℕ) (r : Row) (low : i < length rows) (is : r ≡ get_or rows i r) (free : first_in_the_way a (take i rows) ≡ None) where
  pub refused_at : (e : PurgeError) → RefusedByRows a (r ∷ []) e → RefusedByRows a rows e
  refused_at (Blocked place) h = ap (first_in_the_way a) (around rows i r low is) ∙ way_at a (take i rows) (drop (suc i) rows) r (spot_of place) free h
  refused_at AsideFull h = h
  refused_at Failed h = tt
  refused_at Memory h = tt

  pub free_more : first_in_the_way a (r ∷ []) ≡ None → first_in_the_way a (take (i + 1) rows) ≡ None
  free_more h = ap (first_in_the_way a) (one_more rows i r low is) ∙ way_more a (take i rows) r free h

-- What is told of the rows so far
pub mapped_more : {X B C : Type 0} (f : X → C) (g : B → C) (xs : List X) (i : ℕ) (x : X) (old new : List B) (b : B) → i < length xs → x ≡ get_or xs i x → map g old ≡ map f (take i xs) → g b ≡ f x → new ≡ old ++ b ∷ []
    → map g new ≡ map f (take (i + 1) xs)
mapped_more f g xs i x old new b low is was now put =
    ap (map g) put ∙ map-append g old (b ∷ []) ∙ (λ j. was j ++ now j ∷ []) ∙ sym (map-append f (take i xs) (x ∷ [])) ∙ ap (map f) (sym (one_more xs i x low is))

-- Files that are set aside

at_over : (one taken : Bool) → at_by one taken ≡ Over → (taken && not one) ≡ true
at_over true taken e = absurd (cc)
at_over false true e = refl
at_over false false e = absurd (cc)

over_at : (one taken : Bool) → (taken && not one) ≡ true → at_by one taken ≡ Over
over_at true true e = absurd (cc)
over_at true false e = absurd (cc)
over_at false true e = refl
over_at false false e = absurd (cc)

module _ (a : Disk) (rows : List Row) where
  pub stands-over : (r : Row) → at_of a r ≡ Over → stands_over a r ≡ true
  stands-over r e = at_over (is_one_file (a.now (game_spot r.path)) (a.now (staged_of r))) (is_file (a.now (game_spot r.path))) e

  pub over-stands : (r : Row) → stands_over a r ≡ true → at_of a r ≡ Over
  over-stands r e = over_at (is_one_file (a.now (game_spot r.path)) (a.now (staged_of r))) (is_file (a.now (game_spot r.path))) e

  pub over_sets : HasOver (map (told a) rows) → SetsSomeAside a rows
  over_sets h =
      let m = contains_map (told a) rows h.row h.among in
      record { row = m.0; listed = m.1; over = stands-over m.0 (ap (λ (t : Told). t.at) m.2 ∙ h.over) }

  pub sets_over : SetsSomeAside a rows → HasOver (map (told a) rows)
  sets_over h = record { row = told a h.row; among = map_contains (told a) rows h.row h.listed; over = over-stands h.row h.over }

pub over_none : HasOver [] → ⊥
over_none h = contains_none h.row h.among

module _ (cases : List RowCase) (i : ℕ) (case : RowCase) (low : i < length cases) (is : case ≡ get_or cases i case) where
  pub over_more : (HasOver (map case_seen (take i cases)) → ⊥) → (case.at ≡ Over → ⊥) → HasOver (map case_seen (take (i + 1) cases)) → ⊥
  over_more was now h =
      let whole = ap (map case_seen) (one_more cases i case low is) ∙ map-append case_seen (take i cases) (case ∷ []) in
      elim (last_cases (map case_seen (take i cases)) (case_seen case) h.row (subst (λ l. Contains l h.row) whole h.among)) [
        | inl front ↦ was (record { row = h.row; among = front; over = h.over })
        | inr e ↦ now (sym (ap (λ (t : Told). t.at) e) ∙ h.over)
      ]

  pub over_here : case.at ≡ Over → HasOver (map case_seen cases)
  over_here e = record { row = case_seen case; among = map_contains case_seen cases case (in_this cases i case low is); over = e }

-- The aside folder

pub absent_room : (a : Disk) → IsValid a → kind_of a aside_folder ≡ Absent → HasAsideRoom a
absent_room a valid e = record { may_be_made = inl e; room = λ h. none_aside a valid e 4294967295 h }

pub folder_room : (a : Disk) (n : ℕ) → n < 4294967296 → kind_of a aside_folder ≡ Folder → IsNextAside a n → HasAsideRoom a
folder_room a n small e next = record { may_be_made = inr e; room = λ h. let lt : 4294967295 < n = next.above 4294967295 h in omega arith }

pub refused_keep : (a : Disk) (e : KeepError) → kind_of a aside_folder ≡ Folder → IsKeepRefusal a e → RefusedByAside a (of_keep e)
refused_keep a keep.Failed k h = tt
refused_keep a keep.AsideFull k h = (inr k, h)
refused_keep a (keep.Blocked place) k h = h
refused_keep a keep.Memory k h = tt

-- What refuses the plan

pub rows_refuse : (a : Disk) (rows : List Row) (e : PurgeError) → RefusedByRows a rows e → IsPurgeRefusal a rows e
rows_refuse a rows (Blocked place) h = inl h
rows_refuse a rows AsideFull h = absurd h
rows_refuse a rows Failed h = tt
rows_refuse a rows Memory h = tt

pub aside_refuses : (a : Disk) (rows : List Row) (e : PurgeError) → first_in_the_way a rows ≡ None → SetsSomeAside a rows → RefusedByAside a e → IsPurgeRefusal a rows e
aside_refuses a rows (Blocked place) none some h = inr (none, some, h.0, h.1)
aside_refuses a rows AsideFull none some h = (none, some, h.0, h.1)
aside_refuses a rows Failed none some h = tt
aside_refuses a rows Memory none some h = tt
