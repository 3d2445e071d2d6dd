-- Folders above a place, and what was found of them.
use Rattle.std.proofs.Common.{◌≡◌, ◌≢◌, ◌⊎◌, ◌<◌, ◌-◌, ◌==◌, ℕ, Bool, true, false, List, [], ◌∷◌, ◌++◌, length, length-take, take, map, option_map, OnOk, cond, refl, sym, ap, ◌∙◌, subst, inl, inr, append_assoc, arith}
use Rattle.std.specs.List.{AllByRecursion, Contains}
use Rattle.std.specs.declared.option.Option.{Option}
use Rattle.std.specs.declared.option.Option.TheVariants.{None, Some}
use Rattle.std.proofs.lemmas.List.{map-append, append-nil}
use Rattle.std.proofs.lemmas.List.Elements.{Contains-append_left, Contains-append_right, Contains-append_cases}
use Rattle.list_laws.proofs.Alls.{all_weaken, all_more, all_item, all_from_contains}
use Rattle.list_laws.proofs.Containing.{contains_only, contains_here}
use Rattle.list_laws.proofs.Lists.{last_of, not_empty}
use Rattle.std.specs.declared.result.Result.{Result}
use Rattle.std.specs.declared.result.Result.TheVariants.{Ok, Err}
use Rattle.rel_paths.specs.Names.{names_of, parent_names, IsFreePath}
use Rattle.rel_paths.proofs.NamesOf.{has_names}
use Rattle.tree_fs.specs.declared.name.Kind.{Kind}
use Rattle.tree_fs.specs.declared.name.Kind.TheVariants.{Absent, File, Folder, Other}
use Rattle.tree_fs.specs.declared.place.Root.TheVariants.{Game}
use Rattle.tree_fs.specs.Spot.{Spot, spot_of, root_spot, parent, has_some, below, IsBelow}
use Rattle.tree_fs.specs.Places.{game_spot}
use Rattle.tree_fs.specs.Disk.{Disk, IsValid, kind_of}
use Rattle.tree_fs.proofs.Spots.{parent-below, same_spot, not_nameless}
use Rattle.tree_fs.proofs.Below.{below-parent, below-trans, none_below, no_folder_below}
use Rattle.tree_fs.proofs.KindOf.{absent-kind, folder-kind}
use Rattle.tree_fs.proofs.Parses.{folder_above-path}
use Rattle.plan_model.specs.Rows.{IsFolderOrAbsent}
use Rattle.plan_model.proofs.Rows.{above_free}
use Rattle.deploy_plan.specs.declared.error.PlanError.{PlanError}
use Rattle.deploy_plan.specs.declared.error.PlanError.TheVariants.{ChangesFound, Turned, Blocked, BackupTaken, Failed, Memory}
use Rattle.deploy_plan.specs.declared.parents.Seen.{Seen}
use Rattle.deploy_plan.specs.declared.parents.Parents.{Parents}
use Rattle.desk_model.specs.Deployed.{Win}
use Rattle.deploy_plan.specs.Walk.{win_alone}
use Rattle.deploy_plan.specs.Refusals.{HasOpenParents}
use Rattle.deploy_plan.specs.Steps.{Refused, IsStepObstacle}
use Rattle.deploy_plan.specs.Parents.{IsAtOrAbove, IsOpenUpTo, IsNoted, IsNotedUpTo, IsSeen, AreSeen, LooksUpTo, IsBlockedUpTo}

-- what lies above a place is its parent or lies above that
pub up_to_parent : (s x : Spot) → IsBelow s x → IsAtOrAbove s (parent x)
up_to_parent s x b =
    let last = last_of (b.name ∷ b.rest) (λ e. omega (arith, e)) in
    let whole : x.names ≡ (s.names ++ last.0) ++ last.1 ∷ [] = b.names ∙ ap (λ l. s.names ++ l) last.2 ∙ sym (append_assoc s.names last.0 (last.1 ∷ [])) in
    let above : Spot = record { root = s.root; names = s.names ++ last.0 } in
    let is : parent x ≡ above = ap parent (same_spot x (below above last.1) b.root whole) ∙ parent-below above last.1 in
    by_front last.0 (is)
  where
    by_front : (front : List (List ℕ)) → parent x ≡ record { root = s.root; names = s.names ++ front } → IsAtOrAbove s (parent x)
    by_front [] is = inl (same_spot s (parent x) (sym (ap (λ q. q.root) is)) (sym (ap (λ q. q.names) is ∙ append-nil s.names)))
    by_front (m ∷ ms) is = inr (record { root = ap (λ q. q.root) is; name = m; rest = ms; names = ap (λ q. q.names) is })

-- and what is the parent or lies above it lies above the place
pub above_from_parent : (s x : Spot) → x.names ≢ [] → IsAtOrAbove s (parent x) → IsBelow s x
above_from_parent s x some (inl e) = subst (λ q. IsBelow q x) (sym e) (below-parent x some)
above_from_parent s x some (inr b) = below-trans s (parent x) x b (below-parent x some)

pub open_above : (a : Disk) (x : Spot) → IsOpenUpTo a (parent x) → HasOpenParents a x
open_above a x up s b = up s (up_to_parent s x b)

pub open_here : (a : Disk) (x : Spot) → HasOpenParents a x → IsFolderOrAbsent a x → IsOpenUpTo a x
open_here a x up here s (inl e) = subst (IsFolderOrAbsent a) (sym e) here
open_here a x up here s (inr b) = up s b

-- below a missing folder nothing is there
pub absent_inside : (a : Disk) (x : Spot) → IsValid a → x.names ≢ [] → a.folders (parent x) ≡ false → (kind_of a x ≡ Absent) × (a.folders x ≡ false)
absent_inside a x valid some e =
    let b = below-parent x some in
    let none = no_folder_below a valid (parent x) x b e in
    (absent-kind a x none (none_below a valid (parent x) x b e), none)

-- the parent of a path
pub parent_is : (text : List ℕ) (rel : Option (List ℕ)) → option_map names_of rel ≡ parent_names (names_of text) → spot_of (record { root = Game; rel = rel }) ≡ parent (game_spot text)
parent_is text rel e =
    let first = has_names text in
    let some : has_some (names_of text) ≡ true = ap has_some first.2 in
    inside _ _ (folder_above-path Game text rel e ∙ ap (λ t. cond t (Some (parent (game_spot text))) None) some)
  where
    inside : (p q : Spot) → Some p ≡ Some q → p ≡ q
    inside p q e = cc

pub shorter : (text above : List ℕ) → Some (names_of above) ≡ parent_names (names_of text) → length (names_of above) < length (names_of text)
shorter text above e = by_test (length (names_of text) == 1) (has_names text) e
  where
    by_test : (t : Bool) → (n : List ℕ) × (ns : List (List ℕ)) × (names_of text ≡ n ∷ ns) → Some (names_of above) ≡ cond t None (Some (take (length (names_of text) - 1) (names_of text))) → length (names_of above) < length (names_of text)
    by_test true h e = let no : Some (names_of above) ≡ None = e in absurd (cc)
    by_test false h e =
        let is : names_of above ≡ take (length (names_of text) - 1) (names_of text) = cc in
        let len : length (names_of text) ≡ length (h.0 ∷ h.1) = ap length h.2 in
        let cut : length (names_of above) ≡ length (take (length (names_of text) - 1) (names_of text)) = ap length is in
        let most = length-take (length (names_of text) - 1) (names_of text) in
        omega arith

noted_more : (missing : List (List ℕ)) (path : List ℕ) (s : Spot) → IsNoted missing s → IsNoted (missing ++ path ∷ []) s
noted_more missing path s c = subst (λ l. Contains l s) (sym (map-append game_spot missing (path ∷ []))) (Contains-append_left (map game_spot missing) (game_spot path ∷ []) s c)

noted_last : (missing : List (List ℕ)) (path : List ℕ) → IsNoted (missing ++ path ∷ []) (game_spot path)
noted_last missing path = subst (λ l. Contains l (game_spot path)) (sym (map-append game_spot missing (path ∷ []))) (Contains-append_right (map game_spot missing) (game_spot path ∷ []) (game_spot path) (contains_here (game_spot path) []))

noted_cases : (missing : List (List ℕ)) (path : List ℕ) (s : Spot) → IsNoted (missing ++ path ∷ []) s → IsNoted missing s ⊎ (s ≡ game_spot path)
noted_cases missing path s c = elim (Contains-append_cases (map game_spot missing) (game_spot path ∷ []) s (subst (λ l. Contains l s) (map-append game_spot missing (path ∷ [])) c)) [
  | inl front ↦ inl front
  | inr last ↦ inr (contains_only (game_spot path) s last)
]

pub seen_wider : (a : Disk) (missing more : List (List ℕ)) (seen : Seen) → ((s : Spot) → IsNoted missing s → IsNoted more s) → IsSeen a missing seen → IsSeen a more seen
seen_wider a missing more seen wider is = record { is_open = is.is_open; is = is.is; noted = λ s at e. wider s (is.noted s at e) }

-- where folders were forgotten
pub left_seen : (a : Disk) (old new : Parents) → new.missing ≡ old.missing → ((seen : Seen) → Contains new.above.items seen → Contains old.above.items seen) → AreSeen a old → AreSeen a new
left_seen a old new same among is =
    all_from_contains (IsSeen a new.missing.items) new.above.items
    (λ seen c. subst (λ m. IsSeen a m.items seen) (sym same) (all_item (IsSeen a old.missing.items) old.above.items seen is (among seen c)))

-- where the folder is the last one that was looked at
pub looked_before : (a : Disk) (path : List ℕ) (there : Bool) (old new : Parents) → new.missing ≡ old.missing → AreSeen a new → Contains new.above.items (record { path = path; is_there = there })
    → LooksUpTo a (game_spot path) old new × (there ≡ a.folders (game_spot path))
looked_before a path there old new same seen c =
    let is = all_item (IsSeen a new.missing.items) new.above.items (record { path = path; is_there = there }) seen c in (
      record {
        is_open = is.is_open;
        seen = seen;
        noted = is.noted;
        keeps = λ s h. subst (λ m. IsNoted m.items s) (sym same) h;
        only = λ s h. inl (subst (λ m. IsNoted m.items s) same h);
      },
      is.is,
    )

-- where the root alone lies above
pub looked_root : (a : Disk) (old : Parents) → IsValid a → AreSeen a old → LooksUpTo a (root_spot Game) old old
looked_root a old valid seen = record {
  is_open = λ s at. subst (IsFolderOrAbsent a) (sym (only_root s at)) (inr (folder-kind a (root_spot Game) (valid.roots Game)));
  seen = seen;
  noted = λ s at e. let no : true ≡ false = sym (valid.roots Game) ∙ ap a.folders (sym (only_root s at)) ∙ e in absurd (cc);
  keeps = λ s h. h;
  only = λ s h. inl h;
}
  where
    only_root : (s : Spot) → IsAtOrAbove s (root_spot Game) → s ≡ root_spot Game
    only_root s (inl e) = e
    only_root s (inr b) = absurd (not_empty s.names b.name b.rest (sym b.names))

-- where its parents were looked at, and then the folder itself
module _ (a : Disk) (path : List ℕ) (there : Bool) (old left mid new : Parents)
    (same : left.missing ≡ old.missing)
    (looked : LooksUpTo a (parent (game_spot path)) left mid)
    (told : there ≡ a.folders (game_spot path)) (here : IsFolderOrAbsent a (game_spot path))
    (above : new.above.items ≡ mid.above.items ++ record { path = path; is_there = there } ∷ [])
  where
    abbrev x : Spot
    x = game_spot path

    is_open : IsOpenUpTo a x
    is_open = open_here a x (open_above a x looked.is_open) here

    before : (s : Spot) → IsNoted old.missing.items s → IsNoted mid.missing.items s
    before s h = looked.keeps s (subst (λ m. IsNoted m.items s) (sym same) h)

    by_mid : (s : Spot) → IsNoted mid.missing.items s → IsNoted old.missing.items s ⊎ (a.folders s ≡ false) × IsAtOrAbove s x
    by_mid s h = elim (looked.only s h) [
      | inl was ↦ inl (subst (λ m. IsNoted m.items s) same was)
      | inr up ↦ inr (up.0, inr (above_from_parent s x (not_nameless path) up.1))
    ]

    looked_with : ((s : Spot) → IsNoted mid.missing.items s → IsNoted new.missing.items s) → (a.folders x ≡ false → IsNoted new.missing.items x)
        → ((s : Spot) → IsNoted new.missing.items s → IsNoted old.missing.items s ⊎ (a.folders s ≡ false) × IsAtOrAbove s x) → LooksUpTo a x old new
    looked_with wider own only = record {
      is_open = is_open;
      seen = subst (AllByRecursion (IsSeen a new.missing.items)) (sym above)
          (all_more (IsSeen a new.missing.items) mid.above.items (record { path = path; is_there = there })
          (all_weaken (IsSeen a mid.missing.items) (IsSeen a new.missing.items) mid.above.items (λ seen is. seen_wider a mid.missing.items new.missing.items seen wider is) looked.seen)
          (record { is_open = is_open; is = told; noted = noted }));
      noted = noted;
      keeps = λ s h. wider s (before s h);
      only = only;
    }
      where
        noted : IsNotedUpTo a new.missing.items x
        noted s (inl e) f = subst (IsNoted new.missing.items) (sym e) (own (ap a.folders (sym e) ∙ f))
        noted s (inr b) f = wider s (looked.noted s (up_to_parent s x b) f)

    pub looked_there : there ≡ true → new.missing.items ≡ mid.missing.items → LooksUpTo a (game_spot path) old new
    looked_there e is =
        looked_with (λ s h. subst (λ m. IsNoted m s) (sym is) h)
        (λ f. let no : true ≡ false = sym e ∙ told ∙ f in absurd (cc))
        (λ s h. by_mid s (subst (λ m. IsNoted m s) is h))

    pub looked_missing : there ≡ false → new.missing.items ≡ mid.missing.items ++ path ∷ [] → LooksUpTo a (game_spot path) old new
    looked_missing e is =
        looked_with (λ s h. subst (λ m. IsNoted m s) (sym is) (noted_more mid.missing.items path s h))
        (λ f. subst (λ m. IsNoted m x) (sym is) (noted_last mid.missing.items path))
        (λ s h. elim (noted_cases mid.missing.items path s (subst (λ m. IsNoted m s) is h)) [
          | inl was ↦ by_mid s was
          | inr now ↦ inr (ap a.folders now ∙ sym told ∙ e, inl now)
        ])

    pub looked_at : new.missing.items ≡ cond there mid.missing.items (mid.missing.items ++ path ∷ []) → LooksUpTo a (game_spot path) old new
    looked_at is = by_test there refl
      where
        by_test : (t : Bool) → there ≡ t → LooksUpTo a x old new
        by_test true e = looked_there e (is ∙ ap (λ t. cond t mid.missing.items (mid.missing.items ++ path ∷ [])) e)
        by_test false e = looked_missing e (is ∙ ap (λ t. cond t mid.missing.items (mid.missing.items ++ path ∷ [])) e)

-- what is in the way of the parents is in the way of the folder
pub blocked_further : (a : Disk) (x : Spot) (e : PlanError) → x.names ≢ [] → IsBlockedUpTo a (parent x) e → IsBlockedUpTo a x e
blocked_further a x (Blocked place) some is = record { at = inr (above_from_parent (spot_of place) x some is.at); taken = is.taken; outermost = is.outermost }
blocked_further a x (ChangesFound first count) some is = is
blocked_further a x (Turned path) some is = is
blocked_further a x (BackupTaken path) some is = is
blocked_further a x Failed some is = tt
blocked_further a x Memory some is = tt

not_folder : (k : Kind) → (k ≡ Absent → ⊥) × (k ≡ Folder → ⊥) → (k ≡ File) ⊎ (k ≡ Other)
not_folder Absent h = absurd (h.0 refl)
not_folder File h = inl refl
not_folder Folder h = absurd (h.1 refl)
not_folder Other h = inr refl

-- and in the way of a winner below it
pub blocked_win : (a : Disk) (w : Win) (e : PlanError) → IsBlockedUpTo a (parent (game_spot w.path)) e → Refused (IsStepObstacle a (win_alone w)) e
blocked_win a w (Blocked place) is =
    inl (record {
      above = above_from_parent (spot_of place) (game_spot w.path) (not_nameless w.path) is.at;
      taken = not_folder (kind_of a (spot_of place)) is.taken;
      outermost = is.outermost;
    })
blocked_win a w (ChangesFound first count) is = is
blocked_win a w (Turned path) is = is
blocked_win a w (BackupTaken path) is = absurd is
blocked_win a w Failed is = tt
blocked_win a w Memory is = tt

-- the folder above a free path is free
pub parent_free : (text above : List ℕ) → Some (names_of above) ≡ parent_names (names_of text) → IsFreePath text → IsFreePath above
parent_free text above e free = above_free above text (above_from_parent (game_spot above) (game_spot text) (not_nameless text) (inl (parent_is text (Some above) e))) free

pub on_ok : {T E : Type 0} (r : Result T E) (P Q : Type 0) → (P → Q) → OnOk r P → OnOk r Q
on_ok (Ok v) P Q f h = f h
on_ok (Err e) P Q f h = tt

pub noted_free : (path : List ℕ) (is_there : Bool) (old new : List (List ℕ)) → new ≡ cond is_there old (old ++ path ∷ []) → IsFreePath path → AllByRecursion IsFreePath old → AllByRecursion IsFreePath new
noted_free path true old new e free was = subst (AllByRecursion IsFreePath) (sym e) was
noted_free path false old new e free was = subst (AllByRecursion IsFreePath) (sym e) (all_more IsFreePath old path was free)
