-- The winners of a disk are one list.
use Rattle.std.proofs.Common.{◌≡◌, ℕ, List, [], ◌∷◌, ◌++◌, map, refl, sym, ap, ◌∙◌, subst}
use Rattle.std.specs.Prelude.{nat_eq, unwrap_or, cond}
use Rattle.std.specs.List.{AllByRecursion, Contains, IsDistinct}
use Rattle.std.specs.Str.{bytes_eq}
use Rattle.std.specs.Cmp.Lexicographic.{pointwise, nat_list_cmp_total}
use Rattle.list_laws.proofs.Alls.{all_item}
use Rattle.list_laws.proofs.Containing.{contains_map, contains_seam}
use Rattle.list_laws.proofs.Sorted.{sorted_same}
use Rattle.tree_fs.specs.Disk.{Disk}
use Rattle.profile_toml.specs.Records.{OverrideData}
use Rattle.stage_scan.specs.declared.scan.Scan.{Scan}
use Rattle.stage_scan.specs.declared.placed.Sources.{Sources}
use Rattle.winner_table.specs.declared.wins.By.{By}
use Rattle.winner_table.specs.declared.wins.By.TheVariants.{Override, Order}
use Rattle.winner_table.specs.declared.wins.WinRow.{WinRow}
use Rattle.winner_table.specs.Winners.{id_at, providers, paths_of, IsProvided, IsWinner, AreWinners}
use Rattle.winner_table.proofs.Offered.{provider_is}
use Rattle.winner_table.proofs.Overriding.{one_override}
use Rattle.desk_model.specs.Deployed.{Win}
use Rattle.deploy_plan.specs.Sources.{source_in, source_at, win_from, wins_of}
use Rattle.command_steps.specs.Looks.{Look, AreWins, AreSourcesOf, HasWins, placed}
use Rattle.command_steps.proofs.Differ.{paths_differ}
use Rattle.command_steps.proofs.OneLook.{one_look}

module _ (scans : List Scan) (order : List ℕ) (overrides : List OverrideData) where
  provided_by : (path : List ℕ) (node : ℕ) → Contains (providers scans order path) node → IsProvided scans order path
  provided_by path node there = let is = provider_is scans order path node there in record { node = node; among = is.0; file = is.1 }

  winner_provides : (path id : List ℕ) (by : By) → IsWinner scans order overrides path id by → IsProvided scans order path
  winner_provides path id Override is =
      let found = contains_map (id_at scans) (providers scans order path) id is.provides in
      provided_by path found.0 found.1
  winner_provides path id Order is = provided_by path is.node (subst (λ l. Contains l is.node) (sym is.last) (contains_seam is.front is.node []))

  among : (xs ys : List WinRow) → AreWinners scans order overrides xs → AreWinners scans order overrides ys → (p : List ℕ) → Contains (paths_of xs) p → Contains (paths_of ys) p
  among xs ys a b p there =
      let found = contains_map (λ (r : WinRow). r.path) xs p there in
      let row = found.0 in
      b.whole p (subst (IsProvided scans order) found.2 (winner_provides row.path row.mod_id row.by (all_item (λ (r : WinRow). IsWinner scans order overrides r.path r.mod_id r.by) xs row a.each found.1)))

  same_last : (xs ys : List ℕ) (x y : ℕ) → xs ++ x ∷ [] ≡ ys ++ y ∷ [] → x ≡ y
  same_last [] [] x y e = cc
  same_last [] (z ∷ []) x y e = cc
  same_last [] (z ∷ w ∷ ys) x y e = cc
  same_last (z ∷ []) [] x y e = cc
  same_last (z ∷ w ∷ xs) [] x y e = cc
  same_last (z ∷ xs) (w ∷ ys) x y e = let rest : xs ++ x ∷ [] ≡ ys ++ y ∷ [] = cc in same_last xs ys x y rest

  module _ (differ : IsDistinct (pointwise nat_eq) (map (λ (o : OverrideData). o.path) overrides)) where
    one_winner : (path id other : List ℕ) (by and : By) → IsWinner scans order overrides path id by → IsWinner scans order overrides path other and → (id ≡ other) × (by ≡ and)
    one_winner path id other Override Override a b =
        let entry = one_override overrides a.entry b.entry differ a.among b.among (a.at ∙ sym b.at) in
        (sym a.to ∙ ap (λ (o : OverrideData). o.mod_id) entry ∙ b.to, refl)
    one_winner path id other Override Order a b = absurd (b.free id a)
    one_winner path id other Order Override a b = absurd (a.free other b)
    one_winner path id other Order Order a b = (a.is ∙ ap (id_at scans) (same_last a.front b.front a.node b.node (sym a.last ∙ b.last)) ∙ sym b.is, refl)

    same_rows : (xs ys : List WinRow) → paths_of xs ≡ paths_of ys → AllByRecursion (λ (r : WinRow). IsWinner scans order overrides r.path r.mod_id r.by) xs → AllByRecursion (λ (r : WinRow). IsWinner scans order overrides r.path r.mod_id r.by) ys → xs ≡ ys
    same_rows [] [] e a b = refl
    same_rows [] (y ∷ ys) e a b = cc
    same_rows (x ∷ xs) [] e a b = cc
    same_rows (x ∷ xs) (y ∷ ys) e a b =
        let path : x.path ≡ y.path = cc in
        let others : paths_of xs ≡ paths_of ys = cc in
        let one = one_winner y.path x.mod_id y.mod_id x.by y.by (subst (λ p. IsWinner scans order overrides p x.mod_id x.by) path a.0) b.0 in
        let rest = same_rows xs ys others a.1 b.1 in
        λ i. record { path = path i; mod_id = one.0 i; by = one.1 i } ∷ rest i

    pub one_rows : (xs ys : List WinRow) → AreWinners scans order overrides xs → AreWinners scans order overrides ys → xs ≡ ys
    one_rows xs ys a b = same_rows xs ys (sorted_same nat_list_cmp_total (paths_of xs) (paths_of ys) a.order_of_paths b.order_of_paths (among xs ys a b) (among ys xs b a)) a.each b.each

-- Sources

abbrev items_of : List Sources → List (List (List ℕ))
items_of sources = map (λ s. s.paths.items) sources

same_source : (scans : List Scan) (xs ys : List Sources) (id path : List ℕ) → items_of xs ≡ items_of ys → source_in scans xs id path ≡ source_in scans ys id path
same_source [] [] [] id path e = refl
same_source [] [] (y ∷ ys) id path e = cc
same_source [] (x ∷ xs) [] id path e = cc
same_source [] (x ∷ xs) (y ∷ ys) id path e = refl
same_source (s ∷ scans) [] [] id path e = refl
same_source (s ∷ scans) [] (y ∷ ys) id path e = cc
same_source (s ∷ scans) (x ∷ xs) [] id path e = cc
same_source (s ∷ scans) (x ∷ xs) (y ∷ ys) id path e =
    let first : x.paths.items ≡ y.paths.items = cc in
    let others : items_of xs ≡ items_of ys = cc in
    let rest = same_source scans xs ys id path others in
    λ i. cond (bytes_eq s.mod_id id) (source_at s.files (first i) path) (rest i)

pub same_wins : (scans : List Scan) (xs ys : List Sources) (rows : List WinRow) → items_of xs ≡ items_of ys → wins_of scans xs rows ≡ wins_of scans ys rows
same_wins scans xs ys rows e = λ i. map (λ (row : WinRow). win_from row (unwrap_or (same_source scans xs ys row.mod_id row.path e i) [])) rows

pub one_wins : (d : Disk) (xs ys : List Win) → HasWins d xs → HasWins d ys → xs ≡ ys
one_wins d xs ys a b =
    let look : b.look ≡ a.look = one_look d b.look a.look b.is_look a.is_look in
    let won : AreWins a.look b.rows = subst (λ l. AreWins l b.rows) look b.are_wins in
    let sources : AreSourcesOf a.look.scans b.sources = subst (λ (l : Look). AreSourcesOf l.scans b.sources) look b.are_sources in
    let rows : a.rows ≡ b.rows = one_rows (placed a.look) a.look.order a.look.profile.overrides (paths_differ d a.look.profile a.is_look.profile) a.rows b.rows a.are_wins.winners won.winners in
    a.with_sources ∙ same_wins (placed a.look) a.sources b.sources a.rows (a.are_sources ∙ sym sources) ∙ ap (wins_of (placed a.look) b.sources) rows
    ∙ ap (λ l. wins_of (placed l) b.sources b.rows) (sym look) ∙ sym b.with_sources
