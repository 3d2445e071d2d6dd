-- Obstacles, and the first entry that has one.
use Rattle.std.proofs.Common.{◌⊎◌, Bool, true, false, ◌≡◌, ◌≢◌, ℕ, ◌+◌, ◌<◌, List, length, get_or, take, drop, refl, sym, ap, ◌∙◌, inl, inr, subst, suc}
use Rattle.std.specs.List.{Contains}
use Rattle.std.specs.Prelude.{MatchBool}
use Rattle.std.specs.declared.option.Option.{Option}
use Rattle.std.specs.declared.option.Option.TheVariants.{None, Some}
use Rattle.tree_fs.specs.declared.name.Kind.{Kind}
use Rattle.tree_fs.specs.declared.name.Kind.TheVariants.{Absent, File, Folder, Other}
use Rattle.tree_fs.specs.Spot.{Spot, spot_of, parent}
use Rattle.tree_fs.specs.Disk.{Disk, Value, none, file, odd, kind_of, kind_at}
use Rattle.tree_fs.specs.Story.{Story, disk_of}
use Rattle.tree_fs.proofs.KindOf.{folder-kind, value-kind}
use Rattle.list_laws.proofs.Containing.{in_next, contains_seam}
use Rattle.list_laws.proofs.Lists.{around}
use Rattle.plan_exec.specs.declared.error.ExecError.{ExecError}
use Rattle.plan_exec.specs.declared.error.ExecError.TheVariants.{SourceGone, Blocked, Failed, Memory}
use Rattle.plan_exec.specs.Causes.{Obstacle, no_source, in_the_way, or_then, source_by, place_by, parent_by, link_obstacle, save_obstacle_by, Tells, IsFault, StopsAtFirst, NoneHas, StillBut}

-- What an error tells

pub tells_first : (o p : Option Obstacle) (e : ExecError) → Tells o e → Tells (or_then o p) e
tells_first None p (SourceGone x) t = absurd (cc)
tells_first None p (Blocked x) t = absurd (cc)
tells_first None p Failed t = tt
tells_first None p Memory t = tt
tells_first (Some q) p e t = t

pub tells_then : (o p : Option Obstacle) (e : ExecError) → o ≡ None → Tells p e → Tells (or_then o p) e
tells_then o p e is t = subst (λ q. Tells (or_then q p) e) (sym is) t

-- no error but a fault tells of none
pub tells_none : (e : ExecError) → Tells None e → IsFault e
tells_none (SourceGone x) t = cc
tells_none (Blocked x) t = cc
tells_none Failed t = tt
tells_none Memory t = tt

-- Kinds

pub open_free : (k : Kind) (x : Spot) (there : _) → MatchBool there (k ≡ File) (k ≡ Absent) → place_by k x ≡ None
open_free k x true is = ap (λ l. place_by l x) is
open_free k x false is = ap (λ l. place_by l x) is

pub link_free : (d : Disk) (from to : Spot) → kind_of d from ≡ File → place_by (kind_of d to) to ≡ None → kind_of d (parent to) ≡ Folder → link_obstacle d from to ≡ None
link_free d from to source place folder =
    let rest = or_then (place_by (kind_of d to) to) (parent_by (kind_of d (parent to)) (parent to)) in
    ap (λ k. or_then (source_by k from) rest) source
    ∙ ap (λ o. or_then o (parent_by (kind_of d (parent to)) (parent to))) place
    ∙ ap (λ k. parent_by k (parent to)) folder

pub save_none : (k : Kind) {o : Option Obstacle} → o ≡ None → save_obstacle_by k o ≡ None
save_none File is = refl
save_none Absent is = is
save_none Folder is = is
save_none Other is = is

-- The first entry with an obstacle

module _ {X : Type 0} (a d : X → Option Obstacle) (Done Waits : Disk → X → Type 0) (xs : List X) (i : ℕ) (x : X) (lt : i < length xs) (is : x ≡ get_or xs i x) (same : d x ≡ a x) (free : (y : X) → Contains (take i xs) y → a y ≡ None) where
  still_waits : (t : Story) (o : Obstacle) → Waits (disk_of t) x ⊎ (a x ≡ None) → a x ≡ Some o → Waits (disk_of t) x
  still_waits t o (inl w) has = w
  still_waits t o (inr none_has) has = let e : None ≡ Some o = sym none_has ∙ has in absurd (cc)

  pub stops_here : (t u : Story) → ((y : X) → Contains (take i xs) y → Done (disk_of t) y) → Waits (disk_of t) x ⊎ (a x ≡ None) → (e : ExecError) → Tells (d x) e → StillBut t u e → StopsAtFirst a (Done (disk_of u)) (Waits (disk_of u)) xs e
  stops_here t u done waits (SourceGone p) told still = record {
    front = take i xs;
    entry = x;
    rest = drop (suc i) xs;
    split = around xs i x lt is;
    none_before = free;
    done_before = λ y c. subst (λ s. Done (disk_of s) y) (sym still) (done y c);
    has = sym same ∙ told;
    waits = subst (λ s. Waits (disk_of s) x) (sym still) (still_waits t _ waits (sym same ∙ told));
  }
  stops_here t u done waits (Blocked p) told still = record {
    front = take i xs;
    entry = x;
    rest = drop (suc i) xs;
    split = around xs i x lt is;
    none_before = free;
    done_before = λ y c. subst (λ s. Done (disk_of s) y) (sym still) (done y c);
    has = sym same ∙ told;
    waits = subst (λ s. Waits (disk_of s) x) (sym still) (still_waits t _ waits (sym same ∙ told));
  }
  stops_here t u done waits Failed told still = tt
  stops_here t u done waits Memory told still = tt

  pub free_next : d x ≡ None → (y : X) → Contains (take (i + 1) xs) y → a y ≡ None
  free_next ok y c = elim (in_next xs i x y lt is c) [ inl earlier ↦ free y earlier | inr this ↦ ap a this ∙ sym same ∙ ok ]

-- A look later on: what is at a place may have changed, whether it is a folder hasn't

parent_no_folder : (v : Value) (x : Spot) → parent_by (kind_at v) x ≡ Some (in_the_way x)
parent_no_folder none x = refl
parent_no_folder (file n) x = refl
parent_no_folder odd x = refl

pub parent_obstacle : (d : Disk) (x : Spot) → d.folders x ≡ false → parent_by (kind_of d x) x ≡ Some (in_the_way x)
parent_obstacle d x plain = ap (λ k. parent_by k x) (value-kind d x (d.now x) plain refl) ∙ parent_no_folder (d.now x) x

pub parent_same : (d a : Disk) (x : Spot) → d.folders x ≡ a.folders x → parent_by (kind_of d x) x ≡ parent_by (kind_of a x) x
parent_same d a x same = by_folder (a.folders x) refl
  where
    by_folder : (f : Bool) → a.folders x ≡ f → parent_by (kind_of d x) x ≡ parent_by (kind_of a x) x
    by_folder true is = ap (λ k. parent_by k x) (folder-kind d x (same ∙ is) ∙ sym (folder-kind a x is))
    by_folder false is = parent_obstacle d x (same ∙ is) ∙ sym (parent_obstacle a x is)

-- what is free is no folder
pub free-no_folder : (a : Disk) (x : Spot) → place_by (kind_of a x) x ≡ None → a.folders x ≡ false
free-no_folder a x free = by_folder (a.folders x) refl
  where
    by_folder : (f : Bool) → a.folders x ≡ f → a.folders x ≡ false
    by_folder false is = is
    by_folder true is = let t : Some (in_the_way x) ≡ None = sym (ap (λ k. place_by k x) (folder-kind a x is)) ∙ free in absurd (cc)

-- a place that is no folder, and holds a file or nothing
pub open_value : (d : Disk) (x : Spot) (v : Value) → d.folders x ≡ false → d.now x ≡ v → v ≢ odd → place_by (kind_of d x) x ≡ None
open_value d x v plain is ne = ap (λ k. place_by k x) (value-kind d x v plain is) ∙ by_value v ne
  where
    by_value : (u : Value) → u ≢ odd → place_by (kind_at u) x ≡ None
    by_value none h = refl
    by_value (file n) h = refl
    by_value odd h = absurd (h refl)

pub both_none : (o p : Option Obstacle) → or_then o p ≡ None → (o ≡ None) × (p ≡ None)
both_none None p is = (refl, is)
both_none (Some q) p is = absurd (cc)

-- an error where nothing has an obstacle is a fault
pub never_first : {X : Type 0} (a : X → Option Obstacle) (Done Waits : X → Type 0) (xs : List X) → NoneHas a xs → (e : ExecError) → StopsAtFirst a Done Waits xs e → IsFault e
never_first a Done Waits xs none_has (SourceGone p) first =
    let t : None ≡ Some (no_source (spot_of p)) = sym (none_has first.entry (subst (λ l. Contains l first.entry) (sym first.split) (contains_seam first.front first.entry first.rest))) ∙ first.has in
    absurd (cc)
never_first a Done Waits xs none_has (Blocked p) first =
    let t : None ≡ Some (in_the_way (spot_of p)) = sym (none_has first.entry (subst (λ l. Contains l first.entry) (sym first.split) (contains_seam first.front first.entry first.rest))) ∙ first.has in
    absurd (cc)
never_first a Done Waits xs none_has Failed first = tt
never_first a Done Waits xs none_has Memory first = tt
