-- Where nothing refuses the plan, no reason is the first, and otherwise one at most.
use Rattle.plan_model.proofs.Values.{not_some}
use Rattle.change_detect.specs.declared.changes.Change.{Change}
use Rattle.std.proofs.Common.{◌≢◌, ℕ, ◌++◌, length, ◌≡◌, ◌⊎◌, true, false, List, [], ◌∷◌, refl, sym, ap, ◌∙◌, inl, inr, subst}
use Rattle.std.specs.Ordering.{nat_cmp}
use Rattle.std.specs.Cmp.Lexicographic.{slice_cmp}
use Rattle.std.specs.declared.cmp.Ordering.{Ordering}
use Rattle.std.specs.declared.cmp.Ordering.TheVariants.{Less, Equal, Greater}
use Rattle.list_laws.proofs.Orders.{text_tied, text_turned}
use Rattle.tree_fs.proofs.Spots.{same_place}
use Rattle.tree_fs.specs.Spot.{Spot, spot_of}
use Rattle.deploy_plan.specs.Refusals.{HasNoChanges, HasChanges, IsFirstTurned, NoneTurned, Obstacle, blocked, backup_taken, IsBlocking, IsOutermost, IsRowObstacle, IsWinObstacle, IsObstacleBy, IsObstacle, IsFirstObstacle, IsNewWin, WalkPasses, NoRefusal, IsRefusal, IsPlanRefusal}
use Rattle.std.specs.List.{Contains}
use Rattle.std.specs.declared.option.Option.{Option}
use Rattle.std.specs.declared.option.Option.TheVariants.{None, Some}
use Rattle.rel_paths.specs.Names.{names_of}
use Rattle.tree_fs.specs.declared.name.Kind.TheVariants.{Absent, File, Folder, Other}
use Rattle.tree_fs.specs.Places.{game_spot}
use Rattle.tree_fs.specs.Disk.{Disk, kind_of}
use Rattle.backup_keep.specs.Places.{backup_spot}
use Rattle.manifest_json.specs.declared.manifest.Row.{Row}
use Rattle.change_detect.specs.Refusals.{is_blocking, first_blocked}
use Rattle.desk_model.specs.Records.{row_at}
use Rattle.desk_model.specs.Deployed.{Win, winner_of}
use Rattle.plan_model.specs.Rows.{IsFileOrAbsent, IsFolderOrAbsent}
use Rattle.plan_model.proofs.Firsts.{row-some, win-some}
use Rattle.deploy_plan.specs.declared.error.PlanError.{PlanError}
use Rattle.deploy_plan.specs.declared.error.PlanError.TheVariants.{ChangesFound, Turned, Blocked, BackupTaken, Failed, Memory}

no_head : {A : Type 0} (l : List A) (x : A) (xs : List A) → l ≡ [] → l ≡ x ∷ xs → ⊥
no_head l x xs e f = let t : [] ≡ x ∷ xs = sym e ∙ f in cc

-- a place that is a file or absent isn't in the way of a file, nor a folder in that of a folder
pub open_not_blocking : (a : Disk) (x : Spot) → IsFileOrAbsent a x → ¬ IsBlocking a x
open_not_blocking a x (inl k) b = let t : false ≡ true = sym (ap is_blocking k) ∙ b in cc
open_not_blocking a x (inr k) b = let t : false ≡ true = sym (ap is_blocking k) ∙ b in cc

pub open_not_taken : (a : Disk) (x : Spot) → IsFolderOrAbsent a x → (kind_of a x ≡ File) ⊎ (kind_of a x ≡ Other) → ⊥
open_not_taken a x (inl k) (inl t) = let e : Absent ≡ File = sym k ∙ t in cc
open_not_taken a x (inl k) (inr t) = let e : Absent ≡ Other = sym k ∙ t in cc
open_not_taken a x (inr k) (inl t) = let e : Folder ≡ File = sym k ∙ t in cc
open_not_taken a x (inr k) (inr t) = let e : Folder ≡ Other = sym k ∙ t in cc

module _ (a : Disk) (rows : List Row) (wins : List Win) (walk : WalkPasses a rows wins) where
  no_row_obstacle : (r : Row) (o : Obstacle) → Contains rows r → winner_of wins (names_of r.path) ≡ None → IsRowObstacle a r o → ⊥
  no_row_obstacle r (blocked x) c e h = open_not_blocking a (backup_spot r.path) (walk.behind r c e h.0) h.1
  no_row_obstacle r (backup_taken path) c e h = h

  no_win_obstacle : (w : Win) (o : Obstacle) → IsNewWin rows wins w → IsWinObstacle a w o → ⊥
  no_win_obstacle w (blocked x) new (inl h) = open_not_taken a x (walk.parents w new x h.above) h.taken
  no_win_obstacle w (blocked x) new (inr h) = open_not_blocking a (game_spot w.path) (walk.place w new) h.1
  no_win_obstacle w (backup_taken path) new h = h.2 (walk.free w new h.1)

  pub no_obstacle : (path : List _) (o : Obstacle) → ¬ IsObstacle a rows wins path o
  no_obstacle path o h = by (row_at rows (names_of path)) (winner_of wins (names_of path)) refl refl h
    where
      by : (r : Option Row) (w : Option Win) → row_at rows (names_of path) ≡ r → winner_of wins (names_of path) ≡ w → IsObstacleBy a r w o → ⊥
      by (Some r) None e f i = let h = row-some rows (names_of path) r e in no_row_obstacle r o h.0 (ap (winner_of wins) h.1 ∙ f) i
      by None (Some w) e f i = let h = win-some wins (names_of path) w f in no_win_obstacle w o (h.0, ap (row_at rows) h.1 ∙ e) i
      by (Some r) (Some w) e f i = i
      by None None e f i = i

pub none_is_first : (a : Disk) (rows : List Row) (wins : List Win) (error : PlanError) → NoRefusal a rows wins → IsRefusal error → ¬ IsPlanRefusal a rows wins error
none_is_first a rows wins (ChangesFound first count) none is h = no_head _ h.change h.later none.changes.clean h.found
none_is_first a rows wins (Turned path) none is h = none.turned path h.1.won h.1.turned
none_is_first a rows wins (Blocked place) none is (inl h) = not_some (first_blocked a rows) (spot_of place) none.changes.unblocked h
none_is_first a rows wins (Blocked place) none is (inr h) = no_obstacle a rows wins none.walk h.2.path (blocked (spot_of place)) h.2.there
none_is_first a rows wins (BackupTaken path) none is h = no_obstacle a rows wins none.walk h.2.path (backup_taken path) h.2.there
none_is_first a rows wins Failed none is h = is
none_is_first a rows wins Memory none is h = is

-- Only one reason is the first

-- of two texts of which neither is below the other
same_least : (p q : List ℕ) → slice_cmp nat_cmp p q ≢ Less → slice_cmp nat_cmp q p ≢ Less → p ≡ q
same_least p q f g = by (slice_cmp nat_cmp p q) refl
  where
    by : (o : Ordering) → slice_cmp nat_cmp p q ≡ o → p ≡ q
    by Less e = absurd (f e)
    by Equal e = text_tied p q e
    by Greater e = absurd (g (text_turned p q e))

-- of two fronts of one list, one is a front of the other
pub data Fronts (ss ts : List (List ℕ)) : Type 0 where
  equal : ss ≡ ts → Fronts ss ts
  shorter : (n : List ℕ) (more : List (List ℕ)) → ts ≡ ss ++ n ∷ more → Fronts ss ts
  longer : (n : List ℕ) (more : List (List ℕ)) → ss ≡ ts ++ n ∷ more → Fronts ss ts

pub fronts : (ss ts xs ys : List (List ℕ)) → ss ++ xs ≡ ts ++ ys → Fronts ss ts
fronts [] [] xs ys e = equal refl
fronts [] (u ∷ us) xs ys e = shorter u us refl
fronts (v ∷ vs) [] xs ys e = longer v vs refl
fronts (v ∷ vs) (u ∷ us) xs ys e =
    let head : v ≡ u = cc in
    let tail : vs ++ xs ≡ us ++ ys = cc in
    elim (fronts vs us xs ys tail) [
      | equal h ↦ equal (λ i. head i ∷ h i)
      | shorter n more h ↦ shorter n more (λ i. sym head i ∷ h i)
      | longer n more h ↦ longer n more (λ i. head i ∷ h i)
    ]

module _ (a : Disk) where
  -- a place has one outermost parent in the way
  outermost_one : (x s t : Spot) → IsOutermost a x s → IsOutermost a x t → s ≡ t
  outermost_one x s t f g =
      let root : s.root ≡ t.root = sym f.above.root ∙ g.above.root in
      elim (fronts s.names t.names (f.above.name ∷ f.above.rest) (g.above.name ∷ g.above.rest) (sym f.above.names ∙ g.above.names)) [
        | equal h ↦ λ i. record { root = root i; names = h i }
        | shorter n more h ↦ absurd (open_not_taken a s (g.outermost s (record { root = sym root; name = n; rest = more; names = h })) f.taken)
        | longer n more h ↦ absurd (open_not_taken a t (f.outermost t (record { root = root; name = n; rest = more; names = h })) g.taken)
      ]

  no_block : (x : Spot) → kind_of a x ≡ File → ¬ IsBlocking a x
  no_block x k b = let t : false ≡ true = sym (ap is_blocking k) ∙ b in cc

  row_one : (r : Row) (o p : Obstacle) → IsRowObstacle a r o → IsRowObstacle a r p → o ≡ p
  row_one r (blocked x) (blocked y) h k = ap blocked (h.2 ∙ sym k.2)
  row_one r (blocked x) (backup_taken q) h k = absurd k
  row_one r (backup_taken q) p h k = absurd h

  win_one : (w : Win) (o p : Obstacle) → IsWinObstacle a w o → IsWinObstacle a w p → o ≡ p
  win_one w (blocked x) (blocked y) (inl h) (inl k) = ap blocked (outermost_one (game_spot w.path) x y h k)
  win_one w (blocked x) (blocked y) (inl h) (inr k) = absurd (open_not_taken a x (k.0 x h.above) h.taken)
  win_one w (blocked x) (blocked y) (inr h) (inl k) = absurd (open_not_taken a y (h.0 y k.above) k.taken)
  win_one w (blocked x) (blocked y) (inr h) (inr k) = ap blocked (h.2 ∙ sym k.2)
  win_one w (blocked x) (backup_taken q) (inl h) k = absurd (open_not_taken a x (k.0 x h.above) h.taken)
  win_one w (blocked x) (backup_taken q) (inr h) k = absurd (no_block (game_spot w.path) k.1 h.1)
  win_one w (backup_taken q) (blocked y) h (inl k) = absurd (open_not_taken a y (h.0 y k.above) k.taken)
  win_one w (backup_taken q) (blocked y) h (inr k) = absurd (no_block (game_spot w.path) h.1 k.1)
  win_one w (backup_taken q) (backup_taken s) h k = ap backup_taken (h.3 ∙ sym k.3)

  by_one : (r : Option Row) (w : Option Win) (o p : Obstacle) → IsObstacleBy a r w o → IsObstacleBy a r w p → o ≡ p
  by_one (Some r) None o p h k = row_one r o p h k
  by_one None (Some w) o p h k = win_one w o p h k
  by_one (Some r) (Some w) o p h k = absurd h
  by_one None None o p h k = absurd h

module _ (a : Disk) (rows : List Row) (wins : List Win) where
  turned_one : (p q : List ℕ) → IsFirstTurned rows wins p → IsFirstTurned rows wins q → p ≡ q
  turned_one p q f g = same_least p q (g.least p f.won f.turned) (f.least q g.won g.turned)

  obstacle_one : (o p : Obstacle) → IsFirstObstacle a rows wins o → IsFirstObstacle a rows wins p → o ≡ p
  obstacle_one o p f g =
      let path = same_least f.path g.path (g.least f.path o f.there) (f.least g.path p g.there) in
      by_one a (row_at rows (names_of g.path)) (winner_of wins (names_of g.path)) o p (subst (λ q. IsObstacle a rows wins q o) path f.there) g.there

  change_one : (c d : List ℕ) (m n : ℕ) → HasChanges a rows c m → HasChanges a rows d n → ChangesFound c m ≡ ChangesFound d n
  change_one c d m n f g =
      let same : f.change ∷ f.later ≡ g.change ∷ g.later = sym f.found ∙ g.found in
      let head : f.change ≡ g.change = cc in
      let path : c ≡ d = f.is_first ∙ ap (λ (x : Change). x.path) head ∙ sym g.is_first in
      let count : m ≡ n = f.is_count ∙ ap length same ∙ sym g.is_count in
      λ i. ChangesFound (path i) (count i)

  none_some : (c : List ℕ) (m : ℕ) → HasNoChanges a rows → HasChanges a rows c m → ⊥
  none_some c m f g = no_head _ g.change g.later f.clean g.found

  blocked_none : (x : Spot) → first_blocked a rows ≡ Some x → HasNoChanges a rows → ⊥
  blocked_none x e f = not_some (first_blocked a rows) x f.unblocked e

  blocked_some : (x : Spot) (c : List ℕ) (m : ℕ) → first_blocked a rows ≡ Some x → HasChanges a rows c m → ⊥
  blocked_some x c m e f = not_some (first_blocked a rows) x f.unblocked e

  turned_none : (p : List ℕ) → IsFirstTurned rows wins p → NoneTurned rows wins → ⊥
  turned_none p f none = none p f.won f.turned

  spot_of_blocked : (x y : Spot) → blocked x ≡ blocked y → x ≡ y
  spot_of_blocked x y e = cc

  of_some : (x y : Spot) → Some x ≡ Some y → x ≡ y
  of_some x y e = cc

  not_one : (x : Spot) (q : List ℕ) → blocked x ≡ backup_taken q → ⊥
  not_one x q e = cc

  taken_one : (p q : List ℕ) → backup_taken p ≡ backup_taken q → p ≡ q
  taken_one p q e = cc

  pub first_is_one : (e f : PlanError) → IsRefusal e → IsRefusal f → IsPlanRefusal a rows wins e → IsPlanRefusal a rows wins f → e ≡ f
  first_is_one (ChangesFound c m) (ChangesFound d n) i j h k = change_one c d m n h k
  first_is_one (ChangesFound c m) (Turned q) i j h k = absurd (none_some c m k.0 h)
  first_is_one (ChangesFound c m) (Blocked y) i j h (inl k) = absurd (blocked_some (spot_of y) c m k h)
  first_is_one (ChangesFound c m) (Blocked y) i j h (inr k) = absurd (none_some c m k.0 h)
  first_is_one (ChangesFound c m) (BackupTaken q) i j h k = absurd (none_some c m k.0 h)
  first_is_one (Turned p) (ChangesFound d n) i j h k = absurd (none_some d n h.0 k)
  first_is_one (Turned p) (Turned q) i j h k = ap Turned (turned_one p q h.1 k.1)
  first_is_one (Turned p) (Blocked y) i j h (inl k) = absurd (blocked_none (spot_of y) k h.0)
  first_is_one (Turned p) (Blocked y) i j h (inr k) = absurd (turned_none p h.1 k.1)
  first_is_one (Turned p) (BackupTaken q) i j h k = absurd (turned_none p h.1 k.1)
  first_is_one (Blocked x) (ChangesFound d n) i j (inl h) k = absurd (blocked_some (spot_of x) d n h k)
  first_is_one (Blocked x) (ChangesFound d n) i j (inr h) k = absurd (none_some d n h.0 k)
  first_is_one (Blocked x) (Turned q) i j (inl h) k = absurd (blocked_none (spot_of x) h k.0)
  first_is_one (Blocked x) (Turned q) i j (inr h) k = absurd (turned_none q k.1 h.1)
  first_is_one (Blocked x) (Blocked y) i j (inl h) (inl k) = ap Blocked (same_place x y (of_some (spot_of x) (spot_of y) (sym h ∙ k)))
  first_is_one (Blocked x) (Blocked y) i j (inl h) (inr k) = absurd (blocked_none (spot_of x) h k.0)
  first_is_one (Blocked x) (Blocked y) i j (inr h) (inl k) = absurd (blocked_none (spot_of y) k h.0)
  first_is_one (Blocked x) (Blocked y) i j (inr h) (inr k) = ap Blocked (same_place x y (spot_of_blocked (spot_of x) (spot_of y) (obstacle_one (blocked (spot_of x)) (blocked (spot_of y)) h.2 k.2)))
  first_is_one (Blocked x) (BackupTaken q) i j (inl h) k = absurd (blocked_none (spot_of x) h k.0)
  first_is_one (Blocked x) (BackupTaken q) i j (inr h) k = absurd (not_one (spot_of x) q (obstacle_one (blocked (spot_of x)) (backup_taken q) h.2 k.2))
  first_is_one (BackupTaken p) (ChangesFound d n) i j h k = absurd (none_some d n h.0 k)
  first_is_one (BackupTaken p) (Turned q) i j h k = absurd (turned_none q k.1 h.1)
  first_is_one (BackupTaken p) (Blocked y) i j h (inl k) = absurd (blocked_none (spot_of y) k h.0)
  first_is_one (BackupTaken p) (Blocked y) i j h (inr k) = absurd (not_one (spot_of y) p (obstacle_one (blocked (spot_of y)) (backup_taken p) k.2 h.2))
  first_is_one (BackupTaken p) (BackupTaken q) i j h k = ap BackupTaken (taken_one p q (obstacle_one (backup_taken p) (backup_taken q) h.2 k.2))
  first_is_one Failed f i j h k = absurd i
  first_is_one Memory f i j h k = absurd i
  first_is_one (ChangesFound c m) Failed i j h k = absurd j
  first_is_one (ChangesFound c m) Memory i j h k = absurd j
  first_is_one (Turned p) Failed i j h k = absurd j
  first_is_one (Turned p) Memory i j h k = absurd j
  first_is_one (Blocked x) Failed i j h k = absurd j
  first_is_one (Blocked x) Memory i j h k = absurd j
  first_is_one (BackupTaken p) Failed i j h k = absurd j
  first_is_one (BackupTaken p) Memory i j h k = absurd j
