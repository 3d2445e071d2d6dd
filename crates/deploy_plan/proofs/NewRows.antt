-- The new rows.
use Rattle.std.proofs.Common.{◌≡◌, ℕ, Bool, true, false, cond, List, [], ◌∷◌, map, filter_map, refl, sym, ap, ◌∙◌, subst}
use Rattle.std.specs.List.{Contains, cons_option}
use Rattle.std.specs.List.Sorted.{IsStrictlySortedBy}
use Rattle.std.specs.Ordering.{nat_cmp}
use Rattle.std.specs.Cmp.Lexicographic.{slice_cmp}
use Rattle.std.proofs.lemmas.Cmp.{nat_list_cmp_total}
use Rattle.std.specs.declared.cmp.Ordering.TheVariants.{Less}
use Rattle.std.specs.declared.option.Option.{Option}
use Rattle.std.specs.declared.option.Option.TheVariants.{None, Some}
use Rattle.list_laws.proofs.Alls.{all_from_contains, all_item}
use Rattle.list_laws.proofs.Containing.{contains_map, map_contains, contains_filter_map, filter_map_contains, contains_here, contains_there}
use Rattle.list_laws.proofs.Sorted.{sorted_same_by}
use Rattle.rel_paths.proofs.NamesOf.{same_text}
use Rattle.rel_paths.specs.Names.{names_of}
use Rattle.tree_fs.specs.Places.{game_spot}
use Rattle.tree_fs.specs.Disk.{Disk}
use Rattle.manifest_json.specs.declared.manifest.Row.{Row}
use Rattle.manifest_json.specs.Paths.{AreRising}
use Rattle.manifest_json.specs.Records.{paths_of}
use Rattle.desk_model.specs.Desk.{is_file}
use Rattle.desk_model.specs.Records.{row_at}
use Rattle.desk_model.specs.Deployed.{Win, still_wins}
use Rattle.plan_model.proofs.Firsts.{row-some, row-here}
use Rattle.deploy_plan.specs.Cases.{stays, turns, case_by, case_of, next_row}
use Rattle.deploy_plan.specs.Wins.{won_paths}
use Rattle.deploy_plan.specs.Walk.{Step, row_alone, both, win_alone, step_path, step_case, merged}
use Rattle.deploy_plan.specs.Told.{staying, turning, told, told_win, told_row}
use Rattle.deploy_plan.proofs.Told.{told_at, next_by, next_is, won_path, new_rows}
use Rattle.plan_lists.proofs.Gathered.{gathered_of}
use Rattle.deploy_plan.proofs.Walks.{steps_rise, step_cases, case_steps}

module _ (a : Disk) (rows : List Row) (wins : List Win) (old : AreRising (paths_of rows)) (won : AreRising (won_paths wins)) where
  abbrev steps : List Step
  steps = merged rows wins

  -- what is told of a step is the row after of its case
  row_told : (s : Step) → told_row a (told a s) ≡ next_by a rows wins (step_case a s)
  row_told (row_alone r) = refl
  row_told (both r w) = by_test (still_wins r w)
    where
      by_test : (b : Bool) → told_row a (cond b (staying r) (turning r w)) ≡ next_by a rows wins (cond b (stays r) (turns r w))
      by_test true = refl
      by_test false = refl
  row_told (win_alone w) = by_test (is_file (a.now (game_spot w.path)))
    where
      by_test : (b : Bool) → told_row a (told_win w b) ≡ next_by a rows wins (case_by None (Some w) b)
      by_test true = refl
      by_test false = refl

  abbrev news : List Row
  news = new_rows a rows wins

  told_of : Step → Option Row
  told_of s = told_row a (told a s)

  -- the new row of a step's path
  row_found : (s : Step) → Contains steps s → row_at news (names_of (step_path s)) ≡ told_row a (told a s)
  row_found s c = next_is a rows wins (names_of (step_path s)) (step_case a s) (told_at a rows wins (names_of (step_path s)) (step_case a s) (step_cases a rows wins old won s c)) ∙ sym (row_told s)

  row_path : (s : Step) → Contains steps s → (r : Row) → told_row a (told a s) ≡ Some r → r.path ≡ step_path s
  row_path s c r e = same_text r.path (step_path s) (row-some news (names_of (step_path s)) r (row_found s c ∙ e)).1

  gathered_rise : (ss : List Step) → ((s : Step) → Contains ss s → Contains steps s) → AreRising (map step_path ss) → AreRising (map (λ (r : Row). r.path) (filter_map (λ s. told_row a (told a s)) ss))
  unfolding IsStrictlySortedBy
  gathered_rise [] among rise = tt
  gathered_rise (s ∷ ss) among rise = by_row (told_row a (told a s)) refl (gathered_rise ss (λ t c. among t (contains_there s t ss c)) rise.1)
    where
      later : (r : Row) → told_row a (told a s) ≡ Some r → (q : List ℕ) → Contains (map (λ (x : Row). x.path) (filter_map (λ t. told_row a (told a t)) ss)) q → slice_cmp nat_cmp r.path q ≡ Less
      later r e q c =
          let x = contains_map (λ (x : Row). x.path) (filter_map (λ t. told_row a (told a t)) ss) q c in
          let t = contains_filter_map (λ t. told_row a (told a t)) ss x.0 x.1 in
          let less = all_item (λ p. slice_cmp nat_cmp (step_path s) p ≡ Less) (map step_path ss) (step_path t.0) rise.0 (map_contains step_path ss t.0 t.1) in
          (λ i. slice_cmp nat_cmp (row_path s (among s (contains_here s ss)) r e i) ((sym x.2 ∙ row_path t.0 (among t.0 (contains_there s t.0 ss t.1)) x.0 t.2) i)) ∙ less

      by_row : (o : Option Row) → told_row a (told a s) ≡ o → AreRising (map (λ (x : Row). x.path) (filter_map (λ t. told_row a (told a t)) ss)) → AreRising (map (λ (x : Row). x.path) (cons_option o (filter_map (λ t. told_row a (told a t)) ss)))
      by_row None e rest = rest
      by_row (Some r) e rest = (all_from_contains (λ q. slice_cmp nat_cmp r.path q ≡ Less) (map (λ (x : Row). x.path) (filter_map (λ t. told_row a (told a t)) ss)) (λ q c. later r e q c), rest)

  new_paths : (ws : List Win) → map (λ (r : Row). r.path) (map (next_row a rows) ws) ≡ won_paths ws
  new_paths [] = refl
  new_paths (w ∷ ws) = λ i. won_path a rows wins w i ∷ new_paths ws i

  news_rise : AreRising (paths_of news)
  news_rise = subst AreRising (sym (new_paths wins)) won

  -- the rows that the walk gathers are the new ones
  pub rows_told : filter_map (told_row a) (map (told a) steps) ≡ map (next_row a rows) wins
  rows_told =
      gathered_of (told_row a) (told a) (λ s. told_row a (told a s)) (λ s. refl) steps
      ∙ sorted_same_by nat_list_cmp_total (λ (r : Row). r.path) (filter_map (λ s. told_row a (told a s)) steps) news
      (gathered_rise steps (λ s c. c) (steps_rise a rows wins old won)) news_rise down up
    where
      down : (z : Row) → Contains (filter_map (λ s. told_row a (told a s)) (merged rows wins)) z → Contains (new_rows a rows wins) z
      down z c =
          let s = contains_filter_map (λ s. told_row a (told a s)) (merged rows wins) z c in
          (row-some (new_rows a rows wins) (names_of (step_path s.0)) z (row_found s.0 s.1 ∙ s.2)).0

      up : (z : Row) → Contains (new_rows a rows wins) z → Contains (filter_map (λ s. told_row a (told a s)) (merged rows wins)) z
      up z c =
          let p = names_of z.path in
          let here = row-here (new_rows a rows wins) z news_rise c in
          let next = next_is a rows wins p (case_of a rows wins p) (told_at a rows wins p (case_of a rows wins p) refl) in
          let is : next_by a rows wins (case_of a rows wins p) ≡ Some z = sym next ∙ here in
          let s = case_steps a rows wins old won p (λ un. let no : None ≡ Some z = ap (next_by a rows wins) (sym un) ∙ is in absurd (cc)) in
          filter_map_contains (λ t. told_row a (told a t)) (merged rows wins) s.0 z s.1
          (row_told s.0 ∙ ap (next_by a rows wins) (sym (step_cases a rows wins old won s.0 s.1) ∙ ap (case_of a rows wins) s.2) ∙ is)
