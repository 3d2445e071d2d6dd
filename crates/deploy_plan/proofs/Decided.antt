-- Either something is in the way, and then one thing is the first, or the walk passes; and so with turned paths.
use Rattle.std.proofs.lemmas.List.Elements.{Contains-append_left, Contains-append_right}
use Rattle.std.proofs.Common.{◌≡◌, ◌≢◌, ◌⊎◌, ℕ, ◌+◌, Bool, true, false, List, [], ◌∷◌, ◌++◌, length, refl, sym, ap, ◌∙◌, inl, inr, subst, append_assoc, length-append, arith}
use Rattle.std.specs.List.{Contains}
use Rattle.std.specs.Ordering.{nat_cmp}
use Rattle.std.specs.Cmp.Lexicographic.{slice_cmp}
use Rattle.std.specs.declared.cmp.Ordering.{Ordering}
use Rattle.std.specs.declared.cmp.Ordering.TheVariants.{Less, Equal, Greater}
use Rattle.std.specs.declared.option.Option.{Option}
use Rattle.std.specs.declared.option.Option.TheVariants.{None, Some}
use Rattle.std.proofs.lemmas.Cmp.{nat_list_cmp_total}
use Rattle.std.proofs.lemmas.List.{append-nil}
use Rattle.list_laws.proofs.Orders.{text_not_itself}
use Rattle.list_laws.proofs.Containing.{contains_here, contains_there, contains_cases, contains_none, map_contains}
use Rattle.rel_paths.specs.Names.{names_of, extends}
use Rattle.rel_paths.proofs.NamesOf.{same_text}
use Rattle.tree_fs.specs.declared.name.Kind.{Kind}
use Rattle.tree_fs.specs.declared.name.Kind.TheVariants.{Absent, File, Folder, Other}
use Rattle.tree_fs.specs.declared.place.Root.{Root}
use Rattle.tree_fs.specs.Spot.{Spot, IsBelow}
use Rattle.tree_fs.specs.Places.{game_spot}
use Rattle.tree_fs.specs.Disk.{Disk, kind_of}
use Rattle.backup_keep.specs.Places.{backup_spot}
use Rattle.manifest_json.specs.declared.manifest.Row.{Row}
use Rattle.manifest_json.specs.Records.{paths_of}
use Rattle.change_detect.specs.Refusals.{is_blocking}
use Rattle.desk_model.specs.Records.{row_at}
use Rattle.desk_model.specs.Deployed.{Win, winner_of}
use Rattle.plan_model.specs.Rows.{IsFileOrAbsent, IsFolderOrAbsent}
use Rattle.plan_model.proofs.Firsts.{Rises, row-some, win-some, row-here, win-here}
use Rattle.deploy_plan.specs.Wins.{won_paths}
use Rattle.deploy_plan.specs.Refusals.{IsTurned, NoneTurned, IsFirstTurned, Obstacle, blocked, backup_taken, IsBlocking, HasOpenParents, IsOutermost, IsRowObstacle, IsWinObstacle, IsObstacleBy, IsObstacle, IsFirstObstacle, IsNewWin, WalkPasses}
use Rattle.deploy_plan.proofs.OneFirst.{equal, shorter, longer, fronts, open_not_blocking, open_not_taken}

abbrev Decided : Type 0 → Type 0
Decided P = P ⊎ (P → ⊥)

-- of a list of texts, none has a property that is decided, or there is a least one that has it
module _ (P : List ℕ → Type 0) (decide : (x : List ℕ) → Decided (P x)) where
  record Least (xs : List (List ℕ)) : Type 0 where
    text : List ℕ
    among : Contains xs text
    has : P text
    least : (x : List ℕ) → Contains xs x → P x → slice_cmp nat_cmp x text ≢ Less

  take_it : (y : List ℕ) (ys : List (List ℕ)) → P y → ((x : List ℕ) → Contains ys x → P x → slice_cmp nat_cmp x y ≢ Less) → Least (y ∷ ys)
  take_it y ys has above = record {
    text = y;
    among = contains_here y ys;
    has = has;
    least = λ x c h less. elim (contains_cases y x ys c) [
      | inl is ↦ text_not_itself x (ap (slice_cmp nat_cmp x) is ∙ less)
      | inr there ↦ above x there h less
    ];
  }

  keep_it : (y : List ℕ) (ys : List (List ℕ)) (l : Least ys) → (P y → slice_cmp nat_cmp y l.text ≢ Less) → Least (y ∷ ys)
  keep_it y ys l not_above = record {
    text = l.text;
    among = contains_there y l.text ys l.among;
    has = l.has;
    least = λ x c h less. elim (contains_cases y x ys c) [
      | inl is ↦ not_above (subst P is h) (ap (λ z. slice_cmp nat_cmp z l.text) (sym is) ∙ less)
      | inr there ↦ l.least x there h less
    ];
  }

  least_of : (xs : List (List ℕ)) → ((x : List ℕ) → Contains xs x → P x → ⊥) ⊎ Least xs
  least_of [] = inl (λ x c h. contains_none x c)
  least_of (y ∷ ys) = elim (least_of ys) [
    | inl none ↦ elim (decide y) [
      | inl has ↦ inr (take_it y ys has (λ x c h less. none x c h))
      | inr lacks ↦ inl (λ x c h. elim (contains_cases y x ys c) [ inl is ↦ lacks (subst P is h) | inr there ↦ none x there h ])
    ]
    | inr l ↦ elim (decide y) [
      | inl has ↦ inr (by_order l has (slice_cmp nat_cmp y l.text) refl)
      | inr lacks ↦ inr (keep_it y ys l (λ h. absurd (lacks h)))
    ]
  ]
    where
      by_order : (l : Least ys) → P y → (o : Ordering) → slice_cmp nat_cmp y l.text ≡ o → Least (y ∷ ys)
      by_order l has Less e = take_it y ys has (λ x c h less. l.least x c h (nat_list_cmp_total.trans x y l.text less e))
      by_order l has Equal e = keep_it y ys l (λ h less. let t : Equal ≡ Less = sym e ∙ less in cc)
      by_order l has Greater e = keep_it y ys l (λ h less. let t : Greater ≡ Less = sym e ∙ less in cc)

-- Turned paths

turned_by : (rows : List Row) (path : List ℕ) → Decided (IsTurned rows path)
turned_by [] path = inr (λ h. contains_none h.row h.listed)
turned_by (r ∷ rows) path = by_tests (extends path r.path) (extends r.path path) refl refl (turned_by rows path)
  where
    by_tests : (b c : Bool) → extends path r.path ≡ b → extends r.path path ≡ c → Decided (IsTurned rows path) → Decided (IsTurned (r ∷ rows) path)
    by_tests true c e f rest = inl (record { row = r; listed = contains_here r rows; turned = inl e })
    by_tests false true e f rest = inl (record { row = r; listed = contains_here r rows; turned = inr f })
    by_tests false false e f (inl h) = inl (record { row = h.row; listed = contains_there r h.row rows h.listed; turned = h.turned })
    by_tests false false e f (inr none) = inr (λ h. elim (contains_cases r h.row rows h.listed) [
      | inl is ↦ elim h.turned [
        | inl t ↦ let u : false ≡ true = sym e ∙ ap (λ (q : Row). extends path q.path) (sym is) ∙ t in cc
        | inr t ↦ let u : false ≡ true = sym f ∙ ap (λ (q : Row). extends q.path path) (sym is) ∙ t in cc
      ]
      | inr there ↦ none (record { row = h.row; listed = there; turned = h.turned })
    ])

pub turned_decided : (rows : List Row) (wins : List Win) → NoneTurned rows wins ⊎ ((path : List ℕ) × IsFirstTurned rows wins path)
turned_decided rows wins = elim (least_of (IsTurned rows) (turned_by rows) (won_paths wins)) [
  | inl none ↦ inl none
  | inr l ↦ inr (l.text, record { won = l.among; turned = l.has; least = l.least })
]

-- Parents

abbrev at : Root → List (List ℕ) → Spot
at r ns = record { root = r; names = ns }

module _ (a : Disk) where
  abbrev IsTaken : Spot → Type 0
  IsTaken s = (kind_of a s ≡ File) ⊎ (kind_of a s ≡ Other)

  folder_or_taken : (s : Spot) → IsFolderOrAbsent a s ⊎ IsTaken s
  folder_or_taken s = by (kind_of a s) refl
    where
      by : (k : Kind) → kind_of a s ≡ k → IsFolderOrAbsent a s ⊎ IsTaken s
      by Absent e = inl (inl e)
      by Folder e = inl (inr e)
      by File e = inr (inl e)
      by Other e = inr (inr e)

  -- what lies above an entry is its folder, or lies above that
  above_entry : (r : Root) (ns : List (List ℕ)) (n : List ℕ) (s : Spot) → IsBelow s (at r (ns ++ n ∷ [])) → (s ≡ at r ns) ⊎ IsBelow s (at r ns)
  above_entry r ns n s b = elim (fronts s.names ns (b.name ∷ b.rest) (n ∷ []) (sym b.names)) [
    | equal h ↦ inl (λ i. record { root = sym b.root i; names = h i })
    | shorter m more h ↦ inr (record { root = b.root; name = m; rest = more; names = h })
    | longer m more h ↦
        let one : length (ns ++ n ∷ []) ≡ length s.names + length (b.name ∷ b.rest) = ap length b.names ∙ length-append s.names (b.name ∷ b.rest) in
        let two : length (ns ++ n ∷ []) ≡ length ns + 1 = length-append ns (n ∷ []) in
        let three : length s.names ≡ length ns + length (m ∷ more) = ap length h ∙ length-append ns (m ∷ more) in
        absurd (omega arith)
  ]

  open_from : (r : Root) (done rest : List (List ℕ)) → HasOpenParents a (at r done) → HasOpenParents a (at r (done ++ rest)) ⊎ ((s : Spot) × IsOutermost a (at r (done ++ rest)) s)
  open_from r done [] open_so_far = inl (subst (λ ns. HasOpenParents a (at r ns)) (sym (append-nil done)) open_so_far)
  open_from r done (n ∷ rest) open_so_far = elim (folder_or_taken (at r done)) [
    | inr taken ↦ inr (at r done, record { above = record { root = refl; name = n; rest = rest; names = refl }; taken = taken; outermost = open_so_far })
    | inl here ↦ subst (λ ns. HasOpenParents a (at r ns) ⊎ ((s : Spot) × IsOutermost a (at r ns) s)) (append_assoc done (n ∷ []) rest)
        (open_from r (done ++ n ∷ []) rest (λ s b. elim (above_entry r done n s b) [
          | inl is ↦ subst (IsFolderOrAbsent a) (sym is) here
          | inr over ↦ open_so_far s over
        ]))
  ]

  parents_decided : (x : Spot) → HasOpenParents a x ⊎ ((s : Spot) × IsOutermost a x s)
  parents_decided x = open_from x.root [] x.names (λ s b. absurd (no_names s.names b.name b.rest b.names))
    where
      no_names : (ns : List (List ℕ)) (n : List ℕ) (more : List (List ℕ)) → [] ≡ ns ++ n ∷ more → ⊥
      no_names [] n more e = cc
      no_names (m ∷ ns) n more e = cc

  file_or_blocking : (x : Spot) → IsFileOrAbsent a x ⊎ IsBlocking a x
  file_or_blocking x = by (kind_of a x) refl
    where
      by : (k : Kind) → kind_of a x ≡ k → IsFileOrAbsent a x ⊎ IsBlocking a x
      by Absent e = inl (inl e)
      by File e = inl (inr e)
      by Folder e = inr (ap is_blocking e)
      by Other e = inr (ap is_blocking e)

  absent_or : (x : Spot) → Decided (kind_of a x ≡ Absent)
  absent_or x = by (kind_of a x) refl
    where
      other : (k : Kind) → kind_of a x ≡ k → k ≢ Absent → kind_of a x ≢ Absent
      other k e ne f = ne (sym e ∙ f)

      by : (k : Kind) → kind_of a x ≡ k → Decided (kind_of a x ≡ Absent)
      by Absent e = inl e
      by File e = inr (other File e (λ f. cc))
      by Folder e = inr (other Folder e (λ f. cc))
      by Other e = inr (other Other e (λ f. cc))

  -- what passes at one path
  abbrev RowPasses : Row → Type 0
  RowPasses r = r.shadowed ≡ true → IsFileOrAbsent a (backup_spot r.path)

  row_decided : (r : Row) → RowPasses r ⊎ ((o : Obstacle) × IsRowObstacle a r o)
  row_decided r = by r.shadowed refl (file_or_blocking (backup_spot r.path))
    where
      by : (b : Bool) → r.shadowed ≡ b → IsFileOrAbsent a (backup_spot r.path) ⊎ IsBlocking a (backup_spot r.path) → RowPasses r ⊎ ((o : Obstacle) × IsRowObstacle a r o)
      by false e k = inl (λ s. let t : false ≡ true = sym e ∙ s in absurd (cc))
      by true e (inl k) = inl (λ s. k)
      by true e (inr k) = inr (blocked (backup_spot r.path), (e, k, refl))

  record WinPasses (w : Win) : Type 0 where
    parents : HasOpenParents a (game_spot w.path)
    place : IsFileOrAbsent a (game_spot w.path)
    free : kind_of a (game_spot w.path) ≡ File → kind_of a (backup_spot w.path) ≡ Absent

  win_decided : (w : Win) → WinPasses w ⊎ ((o : Obstacle) × IsWinObstacle a w o)
  win_decided w = elim (parents_decided (game_spot w.path)) [
    | inr s ↦ inr (blocked s.0, inl s.1)
    | inl parents ↦ elim (file_or_blocking (game_spot w.path)) [
      | inr k ↦ inr (blocked (game_spot w.path), inr (parents, k, refl))
      | inl (inl absent) ↦ inl (record { parents = parents; place = inl absent; free = λ is. let t : Absent ≡ File = sym absent ∙ is in absurd (cc) })
      | inl (inr is) ↦ elim (absent_or (backup_spot w.path)) [
        | inl free ↦ inl (record { parents = parents; place = inr is; free = λ there. free })
        | inr taken ↦ inr (backup_taken w.path, (parents, is, taken, refl))
      ]
    ]
  ]

-- The walk

module _ (a : Disk) (rows : List Row) (wins : List Win) (rise : Rises (paths_of rows)) (won : Rises (won_paths wins)) where
  abbrev Has : List ℕ → Type 0
  Has path = (o : Obstacle) × IsObstacle a rows wins path o

  abbrev Passes : Option Row → Option Win → Type 0
  Passes (Some r) None = RowPasses a r
  Passes None (Some w) = WinPasses a w
  Passes (Some r) (Some w) = Unit {0}
  Passes None None = Unit {0}

  by_both : (r : Option Row) (w : Option Win) → Passes r w ⊎ ((o : Obstacle) × IsObstacleBy a r w o)
  by_both (Some r) None = row_decided a r
  by_both None (Some w) = win_decided a w
  by_both (Some r) (Some w) = inl tt
  by_both None None = inl tt

  path_passes : (path : List ℕ) → Passes (row_at rows (names_of path)) (winner_of wins (names_of path)) ⊎ Has path
  path_passes path = by_both (row_at rows (names_of path)) (winner_of wins (names_of path))

  row_clash : (r : Row) → RowPasses a r → (o : Obstacle) → IsRowObstacle a r o → ⊥
  row_clash r passes (blocked x) h = open_not_blocking a (backup_spot r.path) (passes h.0) h.1
  row_clash r passes (backup_taken q) h = h

  win_clash : (w : Win) → WinPasses a w → (o : Obstacle) → IsWinObstacle a w o → ⊥
  win_clash w passes (blocked x) (inl h) = open_not_taken a x (passes.parents x h.above) h.taken
  win_clash w passes (blocked x) (inr h) = open_not_blocking a (game_spot w.path) passes.place h.1
  win_clash w passes (backup_taken q) h = h.2 (passes.free h.1)

  clash : (r : Option Row) (w : Option Win) → Passes r w → (o : Obstacle) → IsObstacleBy a r w o → ⊥
  clash (Some r) None passes o h = row_clash r passes o h
  clash None (Some w) passes o h = win_clash w passes o h
  clash (Some r) (Some w) passes o h = h
  clash None None passes o h = h

  decide : (path : List ℕ) → Decided (Has path)
  decide path = elim (path_passes path) [
    | inl passes ↦ inr (λ h. clash (row_at rows (names_of path)) (winner_of wins (names_of path)) passes h.0 h.1)
    | inr has ↦ inl has
  ]

  abbrev all : List (List ℕ)
  all = paths_of rows ++ won_paths wins

  row_in : (r : Row) → Contains rows r → Contains all r.path
  row_in r c = Contains-append_left (paths_of rows) (won_paths wins) r.path (map_contains (λ (s : Row). s.path) rows r c)

  win_in : (w : Win) → Contains wins w → Contains all w.path
  win_in w c = Contains-append_right (paths_of rows) (won_paths wins) w.path (map_contains (λ (v : Win). v.path) wins w c)

  -- each path with something in its way is among them
  in_all : (path : List ℕ) → Has path → Contains all path
  in_all path has = by (row_at rows (names_of path)) (winner_of wins (names_of path)) refl refl has.1
    where
      by : (r : Option Row) (w : Option Win) → row_at rows (names_of path) ≡ r → winner_of wins (names_of path) ≡ w → IsObstacleBy a r w has.0 → Contains all path
      by (Some r) w e f h = let s = row-some rows (names_of path) r e in subst (Contains all) (same_text r.path path s.1) (row_in r s.0)
      by None (Some w) e f h = let s = win-some wins (names_of path) w f in subst (Contains all) (same_text w.path path s.1) (win_in w s.0)
      by None None e f h = absurd h

  module _ (none : (x : List ℕ) → Contains all x → Has x → ⊥) where
    passes_at : (path : List ℕ) → Contains all path → Passes (row_at rows (names_of path)) (winner_of wins (names_of path))
    passes_at path c = elim (path_passes path) [ inl p ↦ p | inr has ↦ absurd (none path c has) ]

    row_passes : (r : Row) → Contains rows r → winner_of wins (names_of r.path) ≡ None → RowPasses a r
    row_passes r c lost = subst (λ w. Passes (Some r) w) lost (subst (λ q. Passes q (winner_of wins (names_of r.path))) (row-here rows r rise c) (passes_at r.path (row_in r c)))

    win_passes : (w : Win) → IsNewWin rows wins w → WinPasses a w
    win_passes w new = subst (λ r. Passes r (Some w)) new.1 (subst (λ v. Passes (row_at rows (names_of w.path)) v) (win-here wins w won new.0) (passes_at w.path (win_in w new.0)))

    passes : WalkPasses a rows wins
    passes = record {
      behind = λ r c lost shadowed. row_passes r c lost shadowed;
      parents = λ w new. (win_passes w new).parents;
      place = λ w new. (win_passes w new).place;
      free = λ w new is. (win_passes w new).free is;
    }

  pub walk_decided : WalkPasses a rows wins ⊎ ((o : Obstacle) × IsFirstObstacle a rows wins o)
  walk_decided = elim (least_of Has decide all) [
    | inl none ↦ inl (passes none)
    | inr l ↦ inr (l.has.0, record { path = l.text; there = l.has.1; least = λ other another h. l.least other (in_all other (another, h)) (another, h) })
  ]
