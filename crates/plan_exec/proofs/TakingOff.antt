-- Folders that are taken off.
use Rattle.std.proofs.Common.{◌≡◌, ◌≢◌, ◌⊎◌, ℕ, ◌+◌, ◌<◌, true, false, List, [], ◌∷◌, ◌++◌, length, get_or, take, suc, refl, sym, ap, ◌∙◌, inl, inr, subst, append_assoc, arith, OnOk}
use Rattle.std.specs.List.{Contains}
use Rattle.std.specs.declared.result.Result.{Result}
use Rattle.std.specs.declared.result.Result.TheVariants.{Ok}
use Rattle.list_laws.proofs.Containing.{contains_none, in_next}
use Rattle.tree_fs.specs.declared.name.Entry.{Entry}
use Rattle.tree_fs.specs.declared.name.Kind.{Kind}
use Rattle.tree_fs.specs.declared.name.Kind.TheVariants.{Absent, File, Folder, Other}
use Rattle.tree_fs.specs.declared.op.Op.TheVariants.{RemoveFolder, SyncFolder}
use Rattle.tree_fs.specs.declared.place.Place.{Place}
use Rattle.tree_fs.specs.declared.tree.TreeError.{TreeError}
use Rattle.tree_fs.specs.Spot.{Spot, spot_of, below, IsBelow}
use Rattle.tree_fs.specs.Disk.{Disk, none, IsValid, after, synced, kind_of}
use Rattle.tree_fs.specs.Story.{Story, disk_of}
use Rattle.tree_fs.specs.Calls.{AddsOne, CanRemoveFolder, IsFolder}
use Rattle.tree_fs.specs.Listing.{IsListing}
use Rattle.tree_fs.proofs.Spots.{same_or_other, is_entry-below}
use Rattle.tree_fs.proofs.Below.{none_below, no_folder_below}
use Rattle.tree_fs.proofs.Disks.{before-synced_in, valid-synced}
use Rattle.tree_fs.proofs.Folders.{folders-removed, folders-removed_other, valid-folder_removed}
use Rattle.tree_fs.proofs.KindOf.{kind-absent, same_kind}
use Rattle.tree_fs.proofs.Moments.{along_adds}
use Rattle.plan_exec.specs.Counts.{Runs}
use Rattle.plan_exec.proofs.Runs.{runs_last, runs_more, runs_trans, runs_weaken, runs_unchanged}
use Rattle.intent_journal.proofs.Counting.{syncs_adds}
use Rattle.tree_fs.proofs.Ops.{within-same, within-synced}
use Rattle.tree_fs.proofs.Stories.{AddsOne-on_ok}
use Rattle.move_plan.specs.Places.{Has}
use Rattle.plan_exec.specs.TakingOff.{IsEmpty, HasEntry, TakesOne, IsBareBelow, TakesOff, OffDone}

-- One folder

pub takes_same : (at : Spot) (d : Disk) → IsValid d → TakesOne at d d
takes_same at d valid = record { valid = valid; now = refl; held = within-same d; bytes = refl; firm = refl; fresh = refl; others = λ x ne. refl; stays = λ is. is; gone = λ is. inl is }

takes_synced : (at folder : Spot) (d : Disk) → IsValid d → TakesOne at d (synced d folder)
takes_synced at folder d valid = record { valid = valid-synced d folder valid; now = refl; held = within-synced d folder; bytes = refl; firm = refl; fresh = refl; others = λ x ne. refl; stays = λ is. is; gone = λ is. inl is }

-- an empty one, whose entries are settled
takes_removed : (at : Place) (a d : Disk) → TakesOne (spot_of at) a d → IsEmpty a (spot_of at) → CanRemoveFolder d (spot_of at) → TakesOne (spot_of at) a (after d (RemoveFolder at true))
takes_removed at a d h empty can = record {
  valid = valid-folder_removed d at true h.valid can;
  now = h.now;
  held = h.held;
  bytes = h.bytes;
  firm = h.firm;
  fresh = h.fresh;
  others = λ x ne. folders-removed_other d at x ne ∙ h.others x ne;
  stays = λ is. let t : true ≡ false = sym is ∙ folders-removed d at in absurd (cc);
  gone = λ is. inr empty;
}

pub sync_stops : {T : Type 0} (at : Place) (s t : Story) (r : Result T TreeError) → IsValid (disk_of s) → AddsOne (SyncFolder at) s t r → Runs 1 (TakesOne (spot_of at) (disk_of s)) s t
sync_stops at s t r valid adds =
    let here = takes_same (spot_of at) (disk_of s) valid in
    record {
      along = along_adds (TakesOne (spot_of at) (disk_of s)) (SyncFolder at) s t r adds here (takes_synced (spot_of at) (spot_of at) (disk_of s) valid) here;
      syncs = syncs_adds 1 (SyncFolder at) s t r (λ done. omega arith) adds;
    }

-- after the sync it can be removed
pub can_remove : (at : Place) (s t : Story) (answer : Unit {0}) → (spot_of at).names ≢ [] → IsFolder (disk_of s) (spot_of at) → IsEmpty (disk_of s) (spot_of at) → AddsOne {T = Unit {0}} (SyncFolder at) s t (Ok answer) → CanRemoveFolder (disk_of t) (spot_of at)
can_remove at s t answer some folder empty adds = AddsOne-on_ok (λ d. CanRemoveFolder d (spot_of at)) (SyncFolder at) s t (Ok answer) adds (record {
  folder = folder;
  not_root = some;
  empty = empty;
  settled = λ name. before-synced_in (disk_of s) (spot_of at) (below (spot_of at) name) (is_entry-below (spot_of at) name);
})

pub remove_stops : {T : Type 0} (at : Place) (s t u : Story) (r : Result T TreeError) → Runs 1 (TakesOne (spot_of at) (disk_of s)) s t → IsEmpty (disk_of s) (spot_of at) → CanRemoveFolder (disk_of t) (spot_of at) → AddsOne (RemoveFolder at) t u r
    → Runs 1 (TakesOne (spot_of at) (disk_of s)) s u
remove_stops at s t u r a empty can adds =
    let P = TakesOne (spot_of at) (disk_of s) in
    let here = runs_last 1 P s t a in
    runs_more (1 + 0) 1 P s u (omega arith) (runs_trans 1 0 P s t u a (record {
      along = along_adds P (RemoveFolder at) t u r adds here (takes_removed at (disk_of s) (disk_of t) here empty can) here;
      syncs = syncs_adds 0 (RemoveFolder at) t u r (λ done. omega arith) adds;
    }))

pub remove_done : {T : Type 0} (at : Place) (t u : Story) (r : Result T TreeError) → AddsOne (RemoveFolder at) t u r → OnOk r (¬ IsFolder (disk_of u) (spot_of at))
remove_done at t u r adds = AddsOne-on_ok (λ d. ¬ IsFolder d (spot_of at)) (RemoveFolder at) t u r adds
    (λ is. let e : true ≡ false = sym is ∙ folders-removed (disk_of t) at in cc)

-- what a listing says

not_absent : (k : Kind) → (k ≢ Absent → ⊥) → k ≡ Absent
not_absent Absent h = refl
not_absent File h = absurd (h (λ e. cc))
not_absent Folder h = absurd (h (λ e. cc))
not_absent Other h = absurd (h (λ e. cc))

pub none_listed : (d : Disk) (folder : Spot) (entries : List Entry) → length entries ≡ 0 → IsListing d folder entries → IsEmpty d folder
none_listed d folder [] nil h = λ name. not_absent (kind_of d (below folder name)) (λ there. contains_none name (h.whole name there))
none_listed d folder (e ∷ es) nil h = let t : suc (length es) ≡ 0 = nil in absurd (cc)

pub some_listed : (d : Disk) (folder : Spot) (entries : List Entry) → length entries ≢ 0 → IsListing d folder entries → HasEntry d folder
some_listed d folder [] some h = absurd (some refl)
some_listed d folder (e ∷ es) some h = (e.name, λ gone. h.each.0.2 (h.each.0.1 ∙ gone))

-- A list of folders

pub off_same : (off : List Place) (d : Disk) → IsValid d → TakesOff off d d
off_same off d valid = record { valid = valid; now = refl; held = within-same d; bytes = refl; firm = refl; fresh = refl; stays = λ x is. is; gone = λ x is. inl is }

-- nothing is below an empty folder
module _ (d : Disk) (valid : IsValid d) (at : Spot) (empty : IsEmpty d at) where
  below_name : (y : Spot) (b : IsBelow at y) → (y ≡ below at b.name) ⊎ IsBelow (below at b.name) y
  below_name y b = by_rest b.rest b.names
    where
      by_rest : (rest : List (List ℕ)) → y.names ≡ at.names ++ b.name ∷ rest → (y ≡ below at b.name) ⊎ IsBelow (below at b.name) y
      by_rest [] e = inl (λ i. record { root = b.root i; names = e i })
      by_rest (n ∷ ns) e = inr (record { root = b.root; name = n; rest = ns; names = e ∙ sym (append_assoc at.names (b.name ∷ []) (n ∷ ns)) })

  no_value : (y : Spot) → IsBelow at y → d.now y ≡ none
  no_value y b =
      let absent = kind-absent d (below at b.name) (empty b.name) in
      elim (below_name y b) [ inl is ↦ ap d.now is ∙ absent.1 | inr under ↦ none_below d valid (below at b.name) y under absent.0 ]

  no_folder : (y : Spot) → IsBelow at y → d.folders y ≡ false
  no_folder y b =
      let absent = kind-absent d (below at b.name) (empty b.name) in
      elim (below_name y b) [ inl is ↦ ap d.folders is ∙ absent.0 | inr under ↦ no_folder_below d valid (below at b.name) y under absent.0 ]

  pub bare_below : (off : List Place) → IsBareBelow off d at
  bare_below off = record { no_value = no_value; folders = λ y b is. let t : true ≡ false = sym is ∙ no_folder y b in absurd (cc) }

pub off_more : (off : List Place) (a d e : Disk) (at : Place) → Contains off at → IsValid d → TakesOff off a d → TakesOne (spot_of at) d e → TakesOff off a e
off_more off a d e at listed valid h t = record {
  valid = t.valid;
  now = t.now ∙ h.now;
  held = λ x v held. h.held x v (t.held x v held);
  bytes = t.bytes ∙ h.bytes;
  firm = t.firm ∙ h.firm;
  fresh = t.fresh ∙ h.fresh;
  stays = λ x is. h.stays x (there x is (same_or_other x (spot_of at)));
  gone = λ x is. elim (h.gone x is) [
    | inl still ↦ went x still (same_or_other x (spot_of at))
    | inr before ↦ inr before
  ];
}
  where
    there : (x : Spot) → e.folders x ≡ true → (x ≡ spot_of at) ⊎ (x ≢ spot_of at) → d.folders x ≡ true
    there x is (inl same) = ap d.folders same ∙ t.stays (sym (ap e.folders same) ∙ is)
    there x is (inr ne) = sym (t.others x ne) ∙ is

    from_start : (x : Spot) → IsBareBelow off d x → IsBareBelow off a x
    from_start x bare = record {
      no_value = λ y b. ap (λ f. f y) (sym h.now) ∙ bare.no_value y b;
      folders = λ y b is. elim (h.gone y is) [ inl still ↦ bare.folders y b still | inr before ↦ before.0 ];
    }

    went : (x : Spot) → d.folders x ≡ true → (x ≡ spot_of at) ⊎ (x ≢ spot_of at) → (e.folders x ≡ true) ⊎ (Has off x × IsBareBelow off a x)
    went x still (inr ne) = inl (t.others x ne ∙ still)
    went x still (inl same) = elim (t.gone (sym (ap d.folders same) ∙ still)) [
      | inl is ↦ inl (ap e.folders same ∙ is)
      | inr empty ↦ inr (record { place = at; listed = listed; here = sym same }, from_start x (subst (IsBareBelow off d) (sym same) (bare_below d valid (spot_of at) empty off)))
    ]

pub one_off : (n : ℕ) (off : List Place) (s t u : Story) (at : Place) → Contains off at → Runs n (TakesOff off (disk_of s)) s t → Runs 1 (TakesOne (spot_of at) (disk_of t)) t u → Runs (n + 1) (TakesOff off (disk_of s)) s u
one_off n off s t u at listed a b =
    let P = TakesOff off (disk_of s) in
    let last = runs_last n P s t a in
    runs_trans n 1 P s t u a (runs_weaken 1 (TakesOne (spot_of at) (disk_of t)) P t u (λ e h. off_more off (disk_of s) (disk_of t) e at listed last.valid last h) b)

-- an entry stays where another folder goes
entry_stays : (at x : Spot) (d e : Disk) → TakesOne at d e → ¬ IsBelow x at → HasEntry d x → HasEntry e x
entry_stays at x d e t apart entry =
    let y = below x entry.0 in
    (entry.0, λ gone. entry.1 (same_kind d e y (sym (t.others y (λ is. apart (record { root = ap (λ (s : Spot). s.root) (sym is); name = entry.0; rest = []; names = ap (λ (s : Spot). s.names) (sym is) })))) (ap (λ f. f y) (sym t.now)) ∙ gone))

-- each so far that is still there has an entry
pub off_next : (off : List Place) (i : ℕ) (at : Place) (t u : Story) → i < length off → at ≡ get_or off i at
    → ((x : Place) → Contains (take i off) x → ¬ IsBelow (spot_of x) (spot_of at))
    → Runs 1 (TakesOne (spot_of at) (disk_of t)) t u
    → OffDone (take i off) (disk_of t) → (IsFolder (disk_of u) (spot_of at) → HasEntry (disk_of u) (spot_of at)) → OffDone (take (i + 1) off) (disk_of u)
off_next off i at t u lt is apart a done mine x has there = elim (in_next off i at has.place lt is has.listed) [
  | inr this ↦ subst (λ y. IsFolder (disk_of u) y → HasEntry (disk_of u) y) (ap spot_of (sym this) ∙ has.here) mine there
  | inl old ↦ elim (same_or_other x (spot_of at)) [
    | inl same ↦ subst (λ y. IsFolder (disk_of u) y → HasEntry (disk_of u) y) (sym same) mine there
    | inr ne ↦
        let last = runs_last 1 (TakesOne (spot_of at) (disk_of t)) t u a in
        entry_stays (spot_of at) x (disk_of t) (disk_of u) last (subst (λ y. ¬ IsBelow y (spot_of at)) has.here (apart has.place old))
        (done x (record { place = has.place; listed = old; here = has.here }) (sym (last.others x ne) ∙ there))
  ]
]

-- after looks

pub looked : (at : Spot) (s t : Story) → IsValid (disk_of s) → t ≡ s → Runs 1 (TakesOne at (disk_of s)) s t
looked at s t valid is = runs_more 0 1 (TakesOne at (disk_of s)) s t (omega arith) (runs_unchanged (TakesOne at (disk_of s)) s t is (takes_same at (disk_of s) valid))

pub takes_from : (at : Spot) (s t u : Story) → t ≡ s → Runs 1 (TakesOne at (disk_of t)) t u → Runs 1 (TakesOne at (disk_of s)) s u
takes_from at s t u is a = subst (λ w. Runs 1 (TakesOne at (disk_of w)) w u) is a
