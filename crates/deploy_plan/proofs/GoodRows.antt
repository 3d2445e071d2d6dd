-- The rows of a plan's manifest, by its winners.
use Rattle.std.proofs.Common.{◌≡◌, Bool, true, false, cond, List, [], ◌∷◌, map, filter_map, refl, sym, ap, ◌∙◌, subst}
use Rattle.std.specs.List.{AllByRecursion, Contains, cons_option}
use Rattle.std.specs.Ordering.{nat_cmp}
use Rattle.std.specs.Cmp.Lexicographic.{slice_cmp}
use Rattle.std.specs.declared.cmp.Ordering.{Ordering}
use Rattle.std.specs.declared.cmp.Ordering.TheVariants.{Less, Equal, Greater}
use Rattle.std.specs.declared.option.Option.{Option}
use Rattle.std.specs.declared.option.Option.TheVariants.{Some}
use Rattle.list_laws.proofs.Alls.{all_unmap, all_weaken, all_from_contains, all_item}
use Rattle.list_laws.proofs.Containing.{contains_map, filter_map_contains}
use Rattle.tree_fs.specs.Places.{game_spot}
use Rattle.tree_fs.specs.Disk.{Disk, IsFile}
use Rattle.manifest_json.specs.declared.manifest.Row.{Row}
use Rattle.manifest_json.specs.Paths.{AreRising, AreFlat}
use Rattle.manifest_json.specs.Records.{paths_of}
use Rattle.manifest_json.specs.Apart.{HasApartSources}
use Rattle.manifest_json.specs.Apart.{AreApart as AreApartSources}
use Rattle.manifest_json.specs.Sound.{IsRow, AreRows}
use Rattle.desk_model.specs.Desk.{is_file}
use Rattle.desk_model.specs.Deployed.{Win, won_spot, still_wins}
use Rattle.deploy_plan.specs.Wins.{won_paths, HasApartWins}
use Rattle.deploy_plan.specs.Walk.{Step, row_alone, both, win_alone, by_order, with_row, merged}
use Rattle.deploy_plan.specs.Told.{staying, turning, told, told_win, row_win, step_win, IsWin, AreGoodWins, HasStaged}
use Rattle.deploy_plan.proofs.NextRows.{apart_flat}

-- Each winner is that of a step

wins_alone : (ws : List Win) → filter_map step_win (map win_alone ws) ≡ ws
wins_alone [] = refl
wins_alone (w ∷ ws) = ap (λ l. w ∷ l) (wins_alone ws)

module _ (r : Row) (more : List Win → List Step) (rest : (ws : List Win) → filter_map step_win (more ws) ≡ ws) where
  wins_with : (ws : List Win) → filter_map step_win (with_row r more ws) ≡ ws
  wins_with [] = rest []
  wins_with (w ∷ ws) = by_cmp (slice_cmp nat_cmp r.path w.path) (wins_with ws)
    where
      by_cmp : (o : Ordering) → filter_map step_win (with_row r more ws) ≡ ws
          → filter_map step_win (by_order o (row_alone r ∷ more (w ∷ ws)) (both r w ∷ more ws) (win_alone w ∷ with_row r more ws)) ≡ w ∷ ws
      by_cmp Less later = rest (w ∷ ws)
      by_cmp Equal later = ap (λ l. w ∷ l) (rest ws)
      by_cmp Greater later = ap (λ l. w ∷ l) later

pub wins_walked : (rows : List Row) (ws : List Win) → filter_map step_win (merged rows ws) ≡ ws
unfolding merged
wins_walked [] ws = wins_alone ws
wins_walked (r ∷ rows) ws = wins_with r (merged rows) (wins_walked rows) ws

pub gathered_same : {X Y Z : Type 0} (f : X → Option Z) (g : Y → Option Z) (xs : List X) (ys : List Y) → map f xs ≡ map g ys → filter_map f xs ≡ filter_map g ys
gathered_same f g [] [] e = refl
gathered_same f g [] (y ∷ ys) e = absurd (cc)
gathered_same f g (x ∷ xs) [] e = absurd (cc)
gathered_same f g (x ∷ xs) (y ∷ ys) e =
    let head : f x ≡ g y = cc in
    let rest : map f xs ≡ map g ys = cc in
    λ i. cons_option (head i) (gathered_same f g xs ys rest i)

-- The files of the winners are there

module _ (a : Disk) (rows : List Row) (wins : List Win) (staged : AllByRecursion (λ w. IsFile a (won_spot w)) wins) where
  staged_by : (w : Win) (s : Step) → Contains (merged rows wins) s → step_win s ≡ Some w → IsFile a (won_spot w)
  staged_by w s c e = all_item (λ v. IsFile a (won_spot v)) wins w staged (subst (λ l. Contains l w) (wins_walked rows wins) (filter_map_contains step_win (merged rows wins) s w c e))

  step_staged : (s : Step) → Contains (merged rows wins) s → HasStaged a (told a s)
  step_staged (row_alone r) c = tt
  step_staged (both r w) c = by_test (still_wins r w)
    where
      by_test : (b : Bool) → HasStaged a (cond b (staying r) (turning r w))
      by_test true = tt
      by_test false = staged_by w (both r w) c refl
  step_staged (win_alone w) c = by_test (is_file (a.now (game_spot w.path)))
    where
      by_test : (b : Bool) → HasStaged a (told_win w b)
      by_test true = staged_by w (win_alone w) c refl
      by_test false = staged_by w (win_alone w) c refl

  pub all_staged : AllByRecursion (HasStaged a) (map (told a) (merged rows wins))
  all_staged = all_from_contains (HasStaged a) (map (told a) (merged rows wins)) (λ t c. let s = contains_map (told a) (merged rows wins) t c in subst (HasStaged a) s.2 (step_staged s.0 s.1))

-- Rows of good winners can be those of a manifest

row_paths : (rows : List Row) → won_paths (map row_win rows) ≡ paths_of rows
row_paths [] = refl
row_paths (r ∷ rows) = ap (λ l. r.path ∷ l) (row_paths rows)

apart_rows : (rows : List Row) → HasApartWins (map row_win rows) → HasApartSources rows
apart_rows [] h = tt
apart_rows (r ∷ rows) h = (all_unmap (λ (v : Win). r.mod_id ≡ v.mod_id → AreApartSources r.source v.source) row_win rows h.0, apart_rows rows h.1)

pub good_rows : (wins : List Win) → AreGoodWins wins → (rows : List Row) → map row_win rows ≡ wins → AreRows rows
good_rows wins good rows is = record {
  good = all_weaken (λ r. IsWin (row_win r)) IsRow rows (λ r w. record { path = w.path; mod_id = w.mod_id; source = w.source }) (all_unmap IsWin row_win rows (subst (AllByRecursion IsWin) (sym is) good.each));
  rise = subst AreRising (ap won_paths (sym is) ∙ row_paths rows) good.rise;
  flat = subst AreFlat (ap won_paths (sym is) ∙ row_paths rows) (apart_flat (won_paths wins) good.apart);
  apart = apart_rows rows (subst HasApartWins (sym is) good.sources);
}
