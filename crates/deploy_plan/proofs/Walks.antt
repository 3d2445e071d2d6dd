-- The walk's lists say what the columns say.
use Rattle.list_laws.proofs.Orders.{text_not_itself, text_turned, text_tied}
use Rattle.list_laws.proofs.Texts.{names_eq_tells}
use Rattle.plan_model.proofs.InOrder.{Above, RiseBy, rise_by, at_place-some}
use Rattle.std.proofs.Common.{◌≡◌, ◌≢◌, ◌↔◌, ℕ, Bool, true, false, if◌then◌else◌, List, [], ◌∷◌, map, refl, sym, ap, ◌∙◌, inl, inr, subst}
use Rattle.std.specs.List.{Contains}
use Rattle.std.specs.List.Sorted.{IsStrictlySortedBy}
use Rattle.std.specs.Ordering.{nat_cmp}
use Rattle.std.specs.Cmp.Lexicographic.{slice_cmp}
use Rattle.std.specs.declared.cmp.Ordering.{Ordering}
use Rattle.std.specs.declared.cmp.Ordering.TheVariants.{Less, Equal, Greater}
use Rattle.std.specs.declared.option.Option.{Option}
use Rattle.std.specs.declared.option.Option.TheVariants.{None, Some}
use Rattle.std.proofs.lemmas.Cmp.{nat_list_cmp_total}
use Rattle.rel_paths.specs.Names.{names_of}
use Rattle.rel_paths.proofs.NamesOf.{same_text}
use Rattle.tree_fs.specs.Spot.{Spot}
use Rattle.tree_fs.specs.Places.{game_spot}
use Rattle.tree_fs.specs.Disk.{Disk}
use Rattle.list_laws.proofs.Alls.{all_weaken, all_map}
use Rattle.list_laws.proofs.Containing.{contains_map, map_contains, contains_filter_map, filter_map_contains}
use Rattle.manifest_json.specs.declared.manifest.Row.{Row}
use Rattle.move_plan.specs.declared.plan.Plan.{Plan}
use Rattle.backup_keep.specs.Places.{backup_spot}
use Rattle.desk_model.specs.Places.{Names, names_eq, in_game}
use Rattle.desk_model.specs.Records.{row_at}
use Rattle.desk_model.specs.Deployed.{Win, winner_of}
use Rattle.desk_model.specs.Desk.{is_file}
use Rattle.plan_model.specs.Moves.{Move, IsMoved}
use Rattle.deploy_plan.specs.Cases.{Case, untouched, leaves, stays, turns, comes, covers, case_by, case_of, set_by, Covers, Frees, deploy_moves}
use Rattle.plan_model.specs.Rows.{has_original}
use Rattle.deploy_plan.specs.Walk.{Step, row_alone, both, win_alone, step_path, by_order, with_row, merged, step_case, step_set, walked_sets, save_by, clear_by, step_save, step_clear, walked_saves, walked_clears}
use Rattle.plan_model.specs.Lists.{spotted, at_place}
use Rattle.plan_model.proofs.Firsts.{Rises, first_at, first-some, first-here, row_at-first, winner_of-first, row-some, win-some}
use Rattle.deploy_plan.proofs.Told.{told_at, case_is}
use Rattle.deploy_plan.proofs.Sets.{SetCase, set_case, set_tells}

abbrev pub Text : Type 0
Text = List ℕ

abbrev pub lt : Text → Text → Type 0
lt p q = slice_cmp nat_cmp p q ≡ Less

lt_trans : (p q r : Text) → lt p q → lt q r → lt p r
lt_trans = nat_list_cmp_total.trans

none_above : {X : Type 0} (path : X → Text) (xs : List X) (q : Text) → Above path q xs → first_at path xs (names_of q) ≡ None
none_above path [] q h = refl
none_above path (x ∷ xs) q h = elim (names_eq_tells (names_of (path x)) (names_of q)) [
  | inl t ↦ absurd (text_not_itself q (subst (lt q) (same_text (path x) q t.1) h.0))
  | inr t ↦ ap (λ b. if b then Some x else first_at path xs (names_of q)) t.0 ∙ none_above path xs q h.1
]

higher : {X : Type 0} (path : X → Text) (xs : List X) (p q : Text) → lt p q → Above path q xs → Above path p xs
higher path xs p q less h = all_weaken (λ x. lt q (path x)) (λ x. lt p (path x)) xs (λ x. lt_trans p q (path x) less) h

abbrev row_path : Row → Text
row_path r = r.path

abbrev win_path : Win → Text
win_path w = w.path

rise_from : {X : Type 0} (path : X → Text) (xs : List X) → RiseBy path xs → Rises (map path xs)
unfolding IsStrictlySortedBy
rise_from path [] h = tt
rise_from path (x ∷ xs) h = (all_map (λ y. lt (path x) y) path xs h.0, rise_from path xs h.1)

abbrev pub step_by : Option Row → Option Win → Option Step
step_by None None = None
step_by (Some r) None = Some (row_alone r)
step_by (Some r) (Some w) = Some (both r w)
step_by None (Some w) = Some (win_alone w)

-- the look-up in the walk

module _ (p : Names) where
  abbrev at : List Step → Option Step
  at steps = first_at step_path steps p

  abbrev ra : List Row → Option Row
  ra rows = first_at row_path rows p

  abbrev wa : List Win → Option Win
  wa wins = first_at win_path wins p

  row_here : (r : Row) (rows : List Row) (rest : List Step) (o : Option Win) → (names_of r.path ≡ p → o ≡ None) → at rest ≡ step_by (ra rows) o → at (row_alone r ∷ rest) ≡ step_by (ra (r ∷ rows)) o
  row_here r rows rest o none h = elim (names_eq_tells (names_of r.path) p) [
    | inl t ↦ (λ i. if t.0 i then Some (row_alone r) else at rest) ∙ sym (λ i. step_by (if t.0 i then Some r else ra rows) (none t.1 i))
    | inr t ↦ (λ i. if t.0 i then Some (row_alone r) else at rest) ∙ h ∙ sym (λ i. step_by (if t.0 i then Some r else ra rows) o)
  ]

  win_here : (w : Win) (wins : List Win) (rest : List Step) (o : Option Row) → (names_of w.path ≡ p → o ≡ None) → at rest ≡ step_by o (wa wins) → at (win_alone w ∷ rest) ≡ step_by o (wa (w ∷ wins))
  win_here w wins rest o none h = elim (names_eq_tells (names_of w.path) p) [
    | inl t ↦ (λ i. if t.0 i then Some (win_alone w) else at rest) ∙ sym (λ i. step_by (none t.1 i) (if t.0 i then Some w else wa wins))
    | inr t ↦ (λ i. if t.0 i then Some (win_alone w) else at rest) ∙ h ∙ sym (λ i. step_by o (if t.0 i then Some w else wa wins))
  ]

  both_here : (r : Row) (w : Win) (rows : List Row) (wins : List Win) (rest : List Step) → r.path ≡ w.path → at rest ≡ step_by (ra rows) (wa wins) → at (both r w ∷ rest) ≡ step_by (ra (r ∷ rows)) (wa (w ∷ wins))
  both_here r w rows wins rest same h = elim (names_eq_tells (names_of r.path) p) [
    | inl t ↦ let u = other t.0 in (λ i. if t.0 i then Some (both r w) else at rest) ∙ sym (λ i. step_by (if t.0 i then Some r else ra rows) (if u i then Some w else wa wins))
    | inr t ↦ let u = other t.0 in (λ i. if t.0 i then Some (both r w) else at rest) ∙ h ∙ sym (λ i. step_by (if t.0 i then Some r else ra rows) (if u i then Some w else wa wins))
  ]
    where
      other : {b : Bool} → names_eq (names_of r.path) p ≡ b → names_eq (names_of w.path) p ≡ b
      other e = ap (λ q. names_eq (names_of q) p) (sym same) ∙ e

  wins_only : (wins : List Win) → at (map win_alone wins) ≡ step_by None (wa wins)
  wins_only [] = refl
  wins_only (w ∷ wins) = win_here w wins (map win_alone wins) None (λ e. refl) (wins_only wins)

  gone : {X : Type 0} (path : X → Text) (xs : List X) (q : Text) → Above path q xs → names_of q ≡ p → first_at path xs p ≡ None
  gone path xs q above e = subst (λ ns. first_at path xs ns ≡ None) e (none_above path xs q above)

  module _ (r : Row) (rows : List Row) (above : Above row_path r.path rows) (later : (wins : List Win) → RiseBy win_path wins → at (merged rows wins) ≡ step_by (ra rows) (wa wins)) where
    abbrev walk : List Win → List Step
    walk = with_row r (merged rows)

    on_order : (w : Win) (wins : List Win) → RiseBy win_path (w ∷ wins) → at (walk wins) ≡ step_by (ra (r ∷ rows)) (wa wins) → (o : Ordering) → slice_cmp nat_cmp r.path w.path ≡ o
        → at (by_order o (row_alone r ∷ merged rows (w ∷ wins)) (both r w ∷ merged rows wins) (win_alone w ∷ walk wins)) ≡ step_by (ra (r ∷ rows)) (wa (w ∷ wins))
    on_order w wins rise next Less e = row_here r rows (merged rows (w ∷ wins)) (wa (w ∷ wins)) (gone win_path (w ∷ wins) r.path (e, higher win_path wins r.path w.path e rise.0)) (later (w ∷ wins) rise)
    on_order w wins rise next Equal e = both_here r w rows wins (merged rows wins) (text_tied r.path w.path e) (later wins rise.1)
    on_order w wins rise next Greater e =
        let less = text_turned r.path w.path e in
        win_here w wins (walk wins) (ra (r ∷ rows)) (gone row_path (r ∷ rows) w.path (less, higher row_path rows w.path r.path less above)) next

    row_wins : (wins : List Win) → RiseBy win_path wins → at (walk wins) ≡ step_by (ra (r ∷ rows)) (wa wins)
    row_wins [] rise = row_here r rows (merged rows []) None (λ e. refl) (later [] tt)
    row_wins (w ∷ wins) rise = on_order w wins rise (row_wins wins rise.1) (slice_cmp nat_cmp r.path w.path) refl

  pub walk_at : (rows : List Row) (wins : List Win) → RiseBy row_path rows → RiseBy win_path wins → at (merged rows wins) ≡ step_by (ra rows) (wa wins)
  unfolding merged
  walk_at [] wins rise up = wins_only wins
  walk_at (r ∷ rows) wins rise up = row_wins r rows rise.0 (λ ws u. walk_at rows ws rise.1 u) wins up

-- the walk rises

below_wins : (q : Text) (wins : List Win) → Above win_path q wins → Above step_path q (map win_alone wins)
below_wins q [] h = tt
below_wins q (w ∷ wins) h = (h.0, below_wins q wins h.1)

module _ (q : Text) (r : Row) (first : lt q r.path) (rows : List Row) (later : (wins : List Win) → Above win_path q wins → Above step_path q (merged rows wins)) where
  below_order : (w : Win) (wins : List Win) → lt q w.path → Above win_path q wins → Above step_path q (with_row r (merged rows) wins) → (o : Ordering)
      → Above step_path q (by_order o (row_alone r ∷ merged rows (w ∷ wins)) (both r w ∷ merged rows wins) (win_alone w ∷ with_row r (merged rows) wins))
  below_order w wins less h next Less = (first, later (w ∷ wins) (less, h))
  below_order w wins less h next Equal = (first, later wins h)
  below_order w wins less h next Greater = (less, next)

  below_row : (wins : List Win) → Above win_path q wins → Above step_path q (with_row r (merged rows) wins)
  below_row [] h = (first, later [] tt)
  below_row (w ∷ wins) h = below_order w wins h.0 h.1 (below_row wins h.1) (slice_cmp nat_cmp r.path w.path)

below_merged : (q : Text) (rows : List Row) (wins : List Win) → Above row_path q rows → Above win_path q wins → Above step_path q (merged rows wins)
unfolding merged
below_merged q [] wins h g = below_wins q wins g
below_merged q (r ∷ rows) wins h g = below_row q r h.0 rows (λ ws k. below_merged q rows ws h.1 k) wins g

wins_rise : (wins : List Win) → RiseBy win_path wins → RiseBy step_path (map win_alone wins)
wins_rise [] h = tt
wins_rise (w ∷ wins) h = (below_wins w.path wins h.0, wins_rise wins h.1)

module _ (r : Row) (rows : List Row) (above : Above row_path r.path rows) (later : (wins : List Win) → RiseBy win_path wins → RiseBy step_path (merged rows wins)) where
  rise_order : (w : Win) (wins : List Win) → RiseBy win_path (w ∷ wins) → RiseBy step_path (with_row r (merged rows) wins) → (o : Ordering) → slice_cmp nat_cmp r.path w.path ≡ o
      → RiseBy step_path (by_order o (row_alone r ∷ merged rows (w ∷ wins)) (both r w ∷ merged rows wins) (win_alone w ∷ with_row r (merged rows) wins))
  rise_order w wins rise next Less e = (below_merged r.path rows (w ∷ wins) above (e, higher win_path wins r.path w.path e rise.0), later (w ∷ wins) rise)
  rise_order w wins rise next Equal e =
      (below_merged r.path rows wins above (subst (λ q. Above win_path q wins) (sym (text_tied r.path w.path e)) rise.0), later wins rise.1)
  rise_order w wins rise next Greater e =
      let less = text_turned r.path w.path e in
      (below_row w.path r less rows (λ ws k. below_merged w.path rows ws (higher row_path rows w.path r.path less above) k) wins rise.0, next)

  rise_row : (wins : List Win) → RiseBy win_path wins → RiseBy step_path (with_row r (merged rows) wins)
  rise_row [] h = (below_merged r.path rows [] above tt, later [] tt)
  rise_row (w ∷ wins) h = rise_order w wins h (rise_row wins h.1) (slice_cmp nat_cmp r.path w.path) refl

walk_rises : (rows : List Row) (wins : List Win) → RiseBy row_path rows → RiseBy win_path wins → RiseBy step_path (merged rows wins)
unfolding merged
walk_rises [] wins rise up = wins_rise wins up
walk_rises (r ∷ rows) wins rise up = rise_row r rows rise.0 (λ ws u. walk_rises rows ws rise.1 u) wins up

module _ (a : Disk) (rows : List Row) (wins : List Win) (old : Rises (map (λ r. r.path) rows)) (won : Rises (map (λ w. w.path) wins)) where
  abbrev steps : List Step
  steps = merged rows wins

  -- the step of a path
  pub step_at : (p : Names) → first_at step_path steps p ≡ step_by (row_at rows p) (winner_of wins p)
  step_at p = walk_at p rows wins (rise_by row_path rows old) (rise_by win_path wins won) ∙ sym (λ i. step_by (row_at-first rows p i) (winner_of-first wins p i))

  pub steps_rise : Rises (map step_path steps)
  steps_rise = rise_from step_path steps (walk_rises rows wins (rise_by row_path rows old) (rise_by win_path wins won))

  case_step : (p : Names) (o : Option Row) (v : Option Win) (s : Step) → row_at rows p ≡ o → winner_of wins p ≡ v → step_by o v ≡ Some s → case_of a rows wins p ≡ step_case a s
  case_step p None None s e f is = absurd (cc)
  case_step p (Some r) None s e f is = let t : row_alone r ≡ s = cc in case_is a rows wins p (Some r) None _ e f refl ∙ ap (step_case a) t
  case_step p (Some r) (Some w) s e f is = let t : both r w ≡ s = cc in case_is a rows wins p (Some r) (Some w) _ e f refl ∙ ap (step_case a) t
  case_step p None (Some w) s e f is =
      let t : win_alone w ≡ s = cc in
      case_is a rows wins p None (Some w) _ e f refl ∙ ap (λ q. case_by None (Some w) (is_file (a.now (in_game q)))) (sym (win-some wins p w f).1) ∙ ap (step_case a) t

  -- each step has the case of its path
  pub step_cases : (s : Step) → Contains steps s → case_of a rows wins (names_of (step_path s)) ≡ step_case a s
  step_cases s c =
      let p = names_of (step_path s) in
      case_step p (row_at rows p) (winner_of wins p) s refl refl (sym (step_at p) ∙ first-here step_path steps s steps_rise c)

  -- and each path with a case has its step
  pub case_steps : (p : Names) → case_of a rows wins p ≢ untouched → (s : Step) × Contains steps s × (names_of (step_path s) ≡ p)
  case_steps p ne = by_both (row_at rows p) (winner_of wins p) refl refl
    where
      found : (s : Step) → step_by (row_at rows p) (winner_of wins p) ≡ Some s → (t : Step) × Contains steps t × (names_of (step_path t) ≡ p)
      found s e = let f = first-some step_path steps p s (step_at p ∙ e) in (s, f.0, f.1)

      by_both : (o : Option Row) (v : Option Win) → row_at rows p ≡ o → winner_of wins p ≡ v → (t : Step) × Contains steps t × (names_of (step_path t) ≡ p)
      by_both None None e f = absurd (ne (case_is a rows wins p None None _ e f refl))
      by_both (Some r) None e f = found (row_alone r) (λ i. step_by (e i) (f i))
      by_both (Some r) (Some w) e f = found (both r w) (λ i. step_by (e i) (f i))
      by_both None (Some w) e f = found (win_alone w) (λ i. step_by (e i) (f i))

  -- the walk's sets are the column's
  pub walked_sets-are : (x : Spot) (v : Move) → (Contains (walked_sets a rows wins) (x, v) ↔ (deploy_moves a rows wins).sets x ≡ Some v)
  walked_sets-are x v = (to, from)
    where
      to : Contains (walked_sets a rows wins) (x, v) → (deploy_moves a rows wins).sets x ≡ Some v
      to c =
          let h = contains_filter_map (step_set a) steps (x, v) c in
          let placed = at_place-some (game_spot (step_path h.0)) x (set_by a (step_case a h.0)) v h.2 in
          subst (λ y. (deploy_moves a rows wins).sets y ≡ Some v) placed.0 (ap (set_by a) (step_cases h.0 h.1) ∙ placed.1)

      by_set : SetCase a rows wins x v → Contains (walked_sets a rows wins) (x, v)
      by_set (set_case c at here e) =
          let s = case_steps x.names (λ un. let t : None ≡ Some v = ap (set_by a) (sym un ∙ at) ∙ e in cc) in
          let spot : game_spot (step_path s.0) ≡ x = ap in_game s.2 ∙ here in
          let same : step_case a s.0 ≡ c = sym (step_cases s.0 s.1) ∙ ap (case_of a rows wins) s.2 ∙ at in
          filter_map_contains (step_set a) steps s.0 (x, v) s.1 (ap (λ k. at_place (game_spot (step_path s.0)) (set_by a k)) same ∙ ap (at_place (game_spot (step_path s.0))) e ∙ ap (λ y. Some (y, v)) spot)

      from : (deploy_moves a rows wins).sets x ≡ Some v → Contains (walked_sets a rows wins) (x, v)
      from e = by_set (set_tells a rows wins x v e)

  -- so a plan whose sets are those of the walk is laid out as the columns say
  pub sets_laid : (plan : Plan) → map spotted plan.sets ≡ walked_sets a rows wins → (x : Spot) (v : Move) → (IsMoved plan x v ↔ (deploy_moves a rows wins).sets x ≡ Some v)
  sets_laid plan same x v = (
    λ h. (walked_sets-are x v).0 (subst (λ l. Contains l (x, v)) same (subst (Contains (map spotted plan.sets)) (λ i. (h.here i, h.is i)) (map_contains spotted plan.sets h.row h.listed))),
    λ e. let m = contains_map spotted plan.sets (x, v) (subst (λ l. Contains l (x, v)) (sym same) ((walked_sets-are x v).1 e)) in
        record { row = m.0; listed = m.1; here = ap (λ z. z.0) m.2; is = ap (λ z. z.1) m.2 },
  )

  -- the walk's saves and clears are those of the columns
  pub walked_saves-are : (from to : Spot) → (Contains (walked_saves a rows wins) (from, to) ↔ Covers a rows wins from to)
  walked_saves-are from to = (forth, back)
    where
      by_case : (c : Case) (path : Text) → case_of a rows wins (names_of path) ≡ c → save_by c ≡ Some (from, to) → Covers a rows wins from to
      by_case untouched path at e = absurd (cc)
      by_case (leaves r) path at e = absurd (cc)
      by_case (stays r) path at e = absurd (cc)
      by_case (turns r w) path at e = absurd (cc)
      by_case (comes w) path at e = absurd (cc)
      by_case (covers w) path at e =
          let t : ◌≡◌ {A = Spot × Spot} (game_spot w.path, backup_spot w.path) (from, to) = cc in
          let named : names_of w.path ≡ names_of path = (win-some wins (names_of path) w (told_at a rows wins (names_of path) (covers w) at).1).1 in
          record { win = w; case = ap (case_of a rows wins) named ∙ at; source = ap (λ z. z.0) t; here = ap (λ z. z.1) t }

      forth : Contains (walked_saves a rows wins) (from, to) → Covers a rows wins from to
      forth c = let h = contains_filter_map (step_save a) steps (from, to) c in by_case (step_case a h.0) (step_path h.0) (step_cases h.0 h.1) h.2

      back : Covers a rows wins from to → Contains (walked_saves a rows wins) (from, to)
      back h =
          let s = case_steps (names_of h.win.path) (λ un. let t : untouched ≡ covers h.win = sym un ∙ h.case in cc) in
          let same : step_case a s.0 ≡ covers h.win = sym (step_cases s.0 s.1) ∙ ap (case_of a rows wins) s.2 ∙ h.case in
          filter_map_contains (step_save a) steps s.0 (from, to) s.1 (ap save_by same ∙ (λ i. Some (h.source i, h.here i)))

  pub walked_clears-are : (x : Spot) → (Contains (walked_clears a rows wins) x ↔ Frees a rows wins x)
  walked_clears-are x = (forth, back)
    where
      by_test : (r : Row) (path : Text) (b : Bool) → case_of a rows wins (names_of path) ≡ leaves r → has_original a r ≡ b → (if b then Some (backup_spot r.path) else None) ≡ Some x → Frees a rows wins x
      by_test r path false at o e = absurd (cc)
      by_test r path true at o e =
          let named : names_of r.path ≡ names_of path = (row-some rows (names_of path) r (told_at a rows wins (names_of path) (leaves r) at).0).1 in
          record { row = r; case = ap (case_of a rows wins) named ∙ at; original = o; here = cc }

      by_case : (c : Case) (path : Text) → case_of a rows wins (names_of path) ≡ c → clear_by a c ≡ Some x → Frees a rows wins x
      by_case untouched path at e = absurd (cc)
      by_case (leaves r) path at e = by_test r path (has_original a r) at refl e
      by_case (stays r) path at e = absurd (cc)
      by_case (turns r w) path at e = absurd (cc)
      by_case (comes w) path at e = absurd (cc)
      by_case (covers w) path at e = absurd (cc)

      forth : Contains (walked_clears a rows wins) x → Frees a rows wins x
      forth c = let h = contains_filter_map (step_clear a) steps x c in by_case (step_case a h.0) (step_path h.0) (step_cases h.0 h.1) h.2

      back : Frees a rows wins x → Contains (walked_clears a rows wins) x
      back h =
          let s = case_steps (names_of h.row.path) (λ un. let t : untouched ≡ leaves h.row = sym un ∙ h.case in cc) in
          let same : step_case a s.0 ≡ leaves h.row = sym (step_cases s.0 s.1) ∙ ap (case_of a rows wins) s.2 ∙ h.case in
          filter_map_contains (step_clear a) steps s.0 x s.1 (ap (clear_by a) same ∙ ap (λ b. if b then Some (backup_spot h.row.path) else None) h.original ∙ ap Some h.here)
