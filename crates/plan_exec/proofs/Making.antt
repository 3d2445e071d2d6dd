-- Folders that a plan makes.
use Rattle.std.proofs.Common.{◌≡◌, ℕ, ◌+◌, ◌<◌, true, List, length, get_or, take, drop, suc, refl, sym, ap, ◌∙◌, inl, inr, subst, arith}
use Rattle.std.specs.List.{Contains}
use Rattle.std.proofs.Math.ListN as named
use Rattle.std.proofs.lemmas.List.{get_or-map, length-map}
use Rattle.std.specs.declared.result.Result.{Result}
use Rattle.std.specs.declared.result.Result.TheVariants.{Ok}
use Rattle.list_laws.proofs.Containing.{in_next}
use Rattle.list_laws.proofs.Lists.{around}
use Rattle.tree_fs.specs.declared.op.Op.TheVariants.{MakeFolder}
use Rattle.tree_fs.specs.declared.place.Place.{Place}
use Rattle.tree_fs.specs.declared.tree.TreeError.{TreeError}
use Rattle.tree_fs.specs.Spot.{Spot, spot_of, parent}
use Rattle.tree_fs.specs.declared.name.Kind.TheVariants.{Absent, Folder}
use Rattle.tree_fs.specs.Disk.{Disk, IsValid, kind_of, after}
use Rattle.tree_fs.proofs.KindOf.{kind-absent, kind-folder}
use Rattle.tree_fs.specs.Story.{Story, disk_of}
use Rattle.tree_fs.specs.Calls.{AddsOne, CanMakeFolder, IsFolder}
use Rattle.tree_fs.proofs.Spots.{same_or_other}
use Rattle.tree_fs.proofs.Folders.{folders-made, folders-made_other, folders-made_keeps, valid-folder_made}
use Rattle.tree_fs.proofs.Moments.{along_adds}
use Rattle.tree_fs.proofs.Stories.{AddsOne-on_ok}
use Rattle.move_plan.specs.Places.{Has}
use Rattle.plan_exec.specs.declared.error.ExecError.{ExecError}
use Rattle.plan_exec.specs.Making.{SameBesideFolders, Makes, folder_obstacle, CantMakeOne}
use Rattle.plan_exec.specs.Causes.{Tells}
use Rattle.plan_exec.specs.Counts.{Runs}
use Rattle.plan_exec.proofs.Runs.{runs_last, runs_trans, runs_weaken}
use Rattle.intent_journal.proofs.Counting.{syncs_adds}
use Rattle.intent_journal.specs.Ready.{AreParents}

pub same_folders : (d : Disk) → SameBesideFolders d d
same_folders d = record { now = refl; before = refl; bytes = refl; firm = refl; fresh = refl }

pub same_folders-trans : (a d e : Disk) → SameBesideFolders a d → SameBesideFolders d e → SameBesideFolders a e
same_folders-trans a d e h k = record { now = k.now ∙ h.now; before = k.before ∙ h.before; bytes = k.bytes ∙ h.bytes; firm = k.firm ∙ h.firm; fresh = k.fresh ∙ h.fresh }

pub makes_same : (new : Spot → Type 0) (d : Disk) → IsValid d → Makes new d d
makes_same new d valid = record { valid = valid; same = same_folders d; kept = λ x is. is; made = λ x is. inl is }

pub makes_weaken : (new more : Spot → Type 0) (a e : Disk) → ((x : Spot) → new x → more x) → Makes new a e → Makes more a e
makes_weaken new more a e to h = record {
  valid = h.valid;
  same = h.same;
  kept = h.kept;
  made = λ x is. elim (h.made x is) [ inl old ↦ inl old | inr is_new ↦ inr (to x is_new) ];
}

pub makes_trans : (new : Spot → Type 0) (a d e : Disk) → Makes new a d → Makes new d e → Makes new a e
makes_trans new a d e h k = record {
  valid = k.valid;
  same = same_folders-trans a d e h.same k.same;
  kept = λ x is. k.kept x (h.kept x is);
  made = λ x is. elim (k.made x is) [ inl old ↦ h.made x old | inr is_new ↦ inr is_new ];
}

-- one folder
makes_one : (at : Place) (d : Disk) → IsValid d → CanMakeFolder d (spot_of at) → Makes (λ x. x ≡ spot_of at) d (after d (MakeFolder at true))
makes_one at d valid can = record {
  valid = valid-folder_made d at true valid can;
  same = record { now = refl; before = refl; bytes = refl; firm = refl; fresh = refl };
  kept = λ x is. folders-made_keeps d at x is;
  made = λ x is. elim (same_or_other x (spot_of at)) [ inl here ↦ inr here | inr ne ↦ inl (sym (folders-made_other d at x ne) ∙ is) ];
}

pub one_stops : {T : Type 0} (at : Place) (s t : Story) (r : Result T TreeError) → IsValid (disk_of s) → CanMakeFolder (disk_of s) (spot_of at) → AddsOne (MakeFolder at) s t r
    → Runs 0 (Makes (λ x. x ≡ spot_of at) (disk_of s)) s t
one_stops at s t r valid can adds =
    let here = makes_same (λ x. x ≡ spot_of at) (disk_of s) valid in
    record {
      along = along_adds (Makes (λ x. x ≡ spot_of at) (disk_of s)) (MakeFolder at) s t r adds here (makes_one at (disk_of s) valid can) here;
      syncs = syncs_adds 0 (MakeFolder at) s t r (λ done. omega arith) adds;
    }

-- the call after looks
pub one_from : {T : Type 0} (at : Place) (s t u : Story) (r : Result T TreeError) → t ≡ s → IsValid (disk_of t) → CanMakeFolder (disk_of t) (spot_of at) → AddsOne (MakeFolder at) t u r
    → Runs 0 (Makes (λ x. x ≡ spot_of at) (disk_of s)) s u
one_from at s t u r is valid can adds = subst (λ w. Runs 0 (Makes (λ x. x ≡ spot_of at) (disk_of w)) w u) is (one_stops at t u r valid can adds)

pub one_done : {T : Type 0} (at : Place) (s t : Story) (answer : T) → AddsOne (MakeFolder at) s t (Ok answer) → IsFolder (disk_of t) (spot_of at)
one_done at s t answer adds = AddsOne-on_ok (λ d. IsFolder d (spot_of at)) (MakeFolder at) s t (Ok answer) adds (folders-made (disk_of s) at)

-- the story that looks leave
pub one_same : (at : Spot) (s t u : Story) → t ≡ s → Runs 0 (Makes (λ x. x ≡ at) (disk_of t)) t u → Runs 0 (Makes (λ x. x ≡ at) (disk_of s)) s u
one_same at s t u is a = subst (λ w. Runs 0 (Makes (λ x. x ≡ at) (disk_of w)) w u) is a

-- one more of a list
module _ (folders : List Place) (s t u : Story) (at : Place) (listed : Contains folders at) where
  pub one_made : Runs 0 (Makes (Has folders) (disk_of s)) s t → Runs 0 (Makes (λ x. x ≡ spot_of at) (disk_of t)) t u → Runs 0 (Makes (Has folders) (disk_of s)) s u
  one_made a b =
      let P = Makes (Has folders) (disk_of s) in
      let last = runs_last 0 P s t a in
      runs_trans 0 0 P s t u a (runs_weaken 0 (Makes (λ x. x ≡ spot_of at) (disk_of t)) P t u
      (λ e h. makes_trans (Has folders) (disk_of s) (disk_of t) e last
      (makes_weaken (λ x. x ≡ spot_of at) (Has folders) (disk_of t) e (λ x here. record { place = at; listed = listed; here = sym here }) h)) b)

pub made_next : (folders : List Place) (i : ℕ) (at : Place) (t u : Story) → i < length folders → at ≡ get_or folders i at
    → ((x : Spot) → Has (take i folders) x → IsFolder (disk_of t) x) → Runs 0 (Makes (λ x. x ≡ spot_of at) (disk_of t)) t u → IsFolder (disk_of u) (spot_of at)
    → (x : Spot) → Has (take (i + 1) folders) x → IsFolder (disk_of u) x
made_next folders i at t u lt is there a done x has = elim (in_next folders i at has.place lt is has.listed) [
  | inl old ↦ (runs_last 0 (Makes (λ y. y ≡ spot_of at) (disk_of t)) t u a).kept x (there x (record { place = has.place; listed = old; here = has.here }))
  | inr this ↦ subst (IsFolder (disk_of u)) (ap spot_of (sym this) ∙ has.here) done
]

-- it stopped at one
pub stopped_at : (folders : List Place) (i : ℕ) (at : Place) (s t : Story) (error : ExecError) → i < length folders → at ≡ get_or folders i at
    → Runs 0 (Makes (Has folders) (disk_of s)) s t → ((x : Spot) → Has (take i folders) x → IsFolder (disk_of t) x)
    → Tells (folder_obstacle (disk_of t) (spot_of at)) error → CantMakeOne folders (disk_of s) error
stopped_at folders i at s t error lt is a there why = record {
  front = take i folders;
  at = at;
  later = drop (suc i) folders;
  split = around folders i at lt is;
  d = disk_of t;
  so_far = runs_last 0 (Makes (Has folders) (disk_of s)) s t a;
  there = there;
  why = why;
}

-- after looks, a folder can be made
pub can_make : (s t : Story) (at above : Place) → t ≡ s → spot_of above ≡ parent (spot_of at) → kind_of (disk_of s) (spot_of at) ≡ Absent → kind_of (disk_of s) (spot_of above) ≡ Folder → CanMakeFolder (disk_of t) (spot_of at)
can_make s t at above is up absent there =
    let h = kind-absent (disk_of s) (spot_of at) absent in
    subst (λ u. CanMakeFolder (disk_of u) (spot_of at)) (sym is) (record { absent = h.1; no_folder = h.0; in_folder = subst (λ x. (disk_of s).folders x ≡ true) up (kind-folder (disk_of s) (spot_of above) there) })

pub parent_at : (folders above : List Place) (i : ℕ) (at up : Place) → AreParents folders above → i < length folders → at ≡ get_or folders i at → up ≡ get_or above i up → spot_of up ≡ parent (spot_of at)
parent_at folders above i at up are lt is up_is =
    ap spot_of up_is ∙ sym (named.get_or-map spot_of above i up) ∙ ap (λ l. get_or l i (spot_of up)) are
    ∙ get_or-map (λ p. parent (spot_of p)) folders i at (spot_of up) lt ∙ ap (λ p. parent (spot_of p)) (sym is)

pub as_many : (folders above : List Place) → AreParents folders above → length above ≡ length folders
as_many folders above are = sym (length-map above spot_of) ∙ ap length are ∙ length-map folders (λ p. parent (spot_of p))
