-- Two plans that are laid out alike are one.
use Rattle.list_laws.proofs.Orders.{text_not_itself}
use Rattle.std.proofs.Common.{◌≡◌, ◌⊎◌, ℕ, ◌+◌, List, [], ◌∷◌, ◌++◌, IfSome, refl, sym, ap, ◌∙◌, inl, inr, subst}
use Rattle.std.specs.Option.{option_map}
use Rattle.std.specs.List.{Contains, AllByRecursion}
use Rattle.std.specs.List.Sorted.{IsStrictlySortedBy}
use Rattle.std.specs.Ordering.{nat_cmp}
use Rattle.std.specs.Cmp.Lexicographic.{slice_cmp}
use Rattle.std.specs.declared.cmp.Ordering.TheVariants.{Less}
use Rattle.std.specs.declared.option.Option.{Option}
use Rattle.std.specs.declared.option.Option.TheVariants.{None, Some}
use Rattle.std.proofs.lemmas.Cmp.{nat_list_cmp_total}
use Rattle.tree_fs.specs.declared.place.Place.{Place}
use Rattle.tree_fs.specs.Spot.{Spot, spot_of}
use Rattle.tree_fs.specs.Places.{game_spot}
use Rattle.tree_fs.specs.Texts.{place_text}
use Rattle.tree_fs.specs.Disk.{Disk}
use Rattle.tree_fs.specs.Calls.{IsFolder}
use Rattle.list_laws.proofs.Alls.{all_item, all_left, all_right, all_weaken}
use Rattle.list_laws.proofs.Containing.{contains_here, contains_there, contains_cases, contains_none}
use Rattle.tree_fs.proofs.Spots.{same_place}
use Rattle.move_plan.specs.declared.plan.SetRow.{SetRow}
use Rattle.move_plan.specs.declared.plan.Plan.{Plan}
use Rattle.move_plan.specs.Places.{IsDestination}
use Rattle.move_plan.specs.Entries.{Entry, folder, save, set, clear, off, key_of, Listed, listed}
use Rattle.move_plan.specs.Rules.{ComesBefore, InOrder, KeepsRule, in_order}
use Rattle.desk_model.specs.Outcome.{updated}
use Rattle.plan_model.specs.Moves.{Move, move_of, Moves, LaidOut}
use Rattle.plan_model.specs.Folders.{IsMade, IsListed, GoesOff, FoldersLaidOut, OwnLaidOut}
use Rattle.plan_model.proofs.Firsts.{Rises}

-- Lists that rise

module _ {A : Type 0} (lt : A → A → Type 0) (never : (x : A) → lt x x → ⊥) (trans : (x y z : A) → lt x y → lt y z → lt x z) where
  abbrev pub Rising : List A → Type 0
  Rising [] = Unit {0}
  Rising (x ∷ xs) = AllByRecursion (lt x) xs × Rising xs

  head_same : (x y : A) (xs ys : List A) → Rising (x ∷ xs) → Rising (y ∷ ys) → Contains (y ∷ ys) x → Contains (x ∷ xs) y → x ≡ y
  head_same x y xs ys rx ry c d = elim (contains_cases y x ys c) [
    | inl is ↦ is
    | inr later ↦ elim (contains_cases x y xs d) [
      | inl is ↦ sym is
      | inr too ↦ absurd (never x (trans x y x (all_item (lt x) xs y rx.0 too) (all_item (lt y) ys x ry.0 later)))
    ]
  ]

  in_tail : (x y v : A) (xs ys : List A) → x ≡ y → AllByRecursion (lt x) xs → Contains xs v → Contains (y ∷ ys) v → Contains ys v
  in_tail x y v xs ys e above h c = elim (contains_cases y v ys c) [
    | inl is ↦ absurd (never v (subst (λ z. lt z v) (e ∙ sym is) (all_item (lt x) xs v above h)))
    | inr there ↦ there
  ]

  pub rising_once : (xs ys : List A) → Rising xs → Rising ys → ((v : A) → Contains xs v → Contains ys v) → ((v : A) → Contains ys v → Contains xs v) → xs ≡ ys
  rising_once [] [] rx ry f g = refl
  rising_once [] (y ∷ ys) rx ry f g = absurd (contains_none y (g y (contains_here y ys)))
  rising_once (x ∷ xs) [] rx ry f g = absurd (contains_none x (f x (contains_here x xs)))
  rising_once (x ∷ xs) (y ∷ ys) rx ry f g =
      let e = head_same x y xs ys rx ry (f x (contains_here x xs)) (g y (contains_here y ys)) in
      let tails = rising_once xs ys rx.1 ry.1
      (λ v h. in_tail x y v xs ys e rx.0 h (f v (contains_there x v xs h)))
      (λ v h. in_tail y x v ys xs (sym e) ry.0 h (g v (contains_there y v ys h))) in
      λ i. e i ∷ tails i

before_never : (p : Place) → ComesBefore p p → ⊥
before_never p = text_not_itself (place_text p)

before_trans : (p q r : Place) → ComesBefore p q → ComesBefore q r → ComesBefore p r
before_trans p q r = nat_list_cmp_total.trans (place_text p) (place_text q) (place_text r)

-- rule 1 says that a list rises
module _ {A : Type 0} (to : A → Entry) (R : Place → Place → Type 0) (never : (p : Place) → R p p → ⊥) (trans : (p q r : Place) → R p q → R q r → R p r)
    (is : (x : A) (front : Option Place) → InOrder (to x) front → IfSome front (λ q. R q (key_of (to x)))) where
  abbrev pub keyed : A → A → Type 0
  keyed x y = R (key_of (to x)) (key_of (to y))

  rises : (i : ℕ) (front : Option Place) (l : List A) → AllByRecursion (λ (e : Listed). InOrder e.entry e.front) (listed to i front l) → IfSome front (λ q. AllByRecursion (λ y. R q (key_of (to y))) l) × Rising keyed (λ x. never _) (λ x y z. trans _ _ _) l
  rises i None [] h = (tt, tt)
  rises i (Some q) [] h = (tt, tt)
  rises i None (x ∷ xs) h = let rest = rises (i + 1) (Some (key_of (to x))) xs h.1 in (tt, (rest.0, rest.1))
  rises i (Some q) (x ∷ xs) h =
      let rest = rises (i + 1) (Some (key_of (to x))) xs h.1 in
      let first = is x (Some q) h.0 in
      ((first, all_weaken (λ y. R (key_of (to x)) (key_of (to y))) (λ y. R q (key_of (to y))) xs (λ y. trans q (key_of (to x)) (key_of (to y)) first) rest.0), (rest.0, rest.1))

  pub once_by : (xs ys : List A) → AllByRecursion (λ (e : Listed). InOrder e.entry e.front) (listed to 0 None xs) → AllByRecursion (λ (e : Listed). InOrder e.entry e.front) (listed to 0 None ys)
      → ((v : A) → Contains xs v → Contains ys v) → ((v : A) → Contains ys v → Contains xs v) → xs ≡ ys
  once_by xs ys h k f g = rising_once keyed (λ x. never _) (λ x y z. trans _ _ _) xs ys (rises 0 None xs h).1 (rises 0 None ys k).1 f g

-- the parts of rule 1
record Ordered (plan : Plan) : Type 0 where
  folders : AllByRecursion (λ (e : Listed). InOrder e.entry e.front) (listed folder 0 None plan.folders)
  saves : AllByRecursion (λ (e : Listed). InOrder e.entry e.front) (listed save 0 None plan.saves)
  sets : AllByRecursion (λ (e : Listed). InOrder e.entry e.front) (listed set 0 None plan.sets)
  clears : AllByRecursion (λ (e : Listed). InOrder e.entry e.front) (listed clear 0 None plan.clears)
  offs : AllByRecursion (λ (e : Listed). InOrder e.entry e.front) (listed off 0 None plan.folders_off)

ordered : (plan : Plan) → KeepsRule in_order plan → Ordered plan
ordered plan h =
    let P : Listed → Type 0 = λ e. InOrder e.entry e.front in
    let f = listed folder 0 None plan.folders in
    let s = listed save 0 None plan.saves in
    let t = listed set 0 None plan.sets in
    let c = listed clear 0 None plan.clears in
    let o = listed off 0 None plan.folders_off in
    let h1 = all_right P f (s ++ (t ++ (c ++ o))) h in
    let h2 = all_right P s (t ++ (c ++ o)) h1 in
    let h3 = all_right P t (c ++ o) h2 in
    record {
      folders = all_left P f (s ++ (t ++ (c ++ o))) h;
      saves = all_left P s (t ++ (c ++ o)) h1;
      sets = all_left P t (c ++ o) h2;
      clears = all_left P c o h3;
      offs = all_right P c o h3;
    }

same_option : (o u : Option Place) → option_map spot_of o ≡ option_map spot_of u → o ≡ u
same_option None None e = refl
same_option None (Some p) e = absurd (cc)
same_option (Some p) None e = absurd (cc)
same_option (Some p) (Some q) e = let t : spot_of p ≡ spot_of q = cc in ap Some (same_place p q t)

same_row : (r s : SetRow) → spot_of r.to ≡ spot_of s.to → move_of r ≡ move_of s → r ≡ s
same_row r s to move =
    let t = same_place r.to s.to to in
    let f = same_option r.from s.from (ap (λ (m : Move). m.from) move) in
    let b = same_option r.back s.back (ap (λ (m : Move). m.back) move) in
    λ i. record { to = t i; from = f i; back = b i }

same_pair : (s t : Place × Place) → spot_of s.0 ≡ spot_of t.0 → spot_of s.1 ≡ spot_of t.1 → s ≡ t
same_pair s t e f = let a = same_place s.0 t.0 e in let b = same_place s.1 t.1 f in λ i. (a i, b i)

-- one of two plans that are laid out alike, seen from the other
module _ (m : Moves) (p q : Plan) (lp : LaidOut m p) (lq : LaidOut m q) where
  sets_in : (row : SetRow) → Contains p.sets row → Contains q.sets row
  sets_in row c =
      let h = (lq.sets (spot_of row.to) (move_of row)).1 ((lp.sets (spot_of row.to) (move_of row)).0 (record { row = row; listed = c; here = refl; is = refl })) in
      subst (Contains q.sets) (same_row h.row row h.here h.is) h.listed

  saves_in : (s : Place × Place) → Contains p.saves s → Contains q.saves s
  saves_in s c =
      let h = (lq.saves (spot_of s.0) (spot_of s.1)).1 ((lp.saves (spot_of s.0) (spot_of s.1)).0 (record { save = s; listed = c; source = refl; here = refl })) in
      subst (Contains q.saves) (same_pair h.save s h.source h.here) h.listed

  clears_in : (x : Place) → Contains p.clears x → Contains q.clears x
  clears_in x c =
      let h = (lq.clears (spot_of x)).1 ((lp.clears (spot_of x)).0 (record { place = x; listed = c; here = refl })) in
      subst (Contains q.clears) (same_place h.place x h.here) h.listed

pub record SameMoves (p q : Plan) : Type 0 where
  pub saves : p.saves ≡ q.saves
  pub sets : p.sets ≡ q.sets
  pub clears : p.clears ≡ q.clears

pub same_moves : (m : Moves) (p q : Plan) → LaidOut m p → LaidOut m q → SameMoves p q
same_moves m p q lp lq =
    let op = ordered p lp.order in
    let oq = ordered q lq.order in
    record {
      saves = once_by save ComesBefore before_never before_trans (λ x f h. h) p.saves q.saves op.saves oq.saves (saves_in m p q lp lq) (saves_in m q p lq lp);
      sets = once_by set ComesBefore before_never before_trans (λ x f h. h) p.sets q.sets op.sets oq.sets (sets_in m p q lp lq) (sets_in m q p lq lp);
      clears = once_by clear ComesBefore before_never before_trans (λ x f h. h) p.clears q.clears op.clears oq.clears (clears_in m p q lp lq) (clears_in m q p lq lp);
    }

same_sym : (p q : Plan) → SameMoves p q → SameMoves q p
same_sym p q s = record { saves = sym s.saves; sets = sym s.sets; clears = sym s.clears }

module _ (a : Disk) (own : List (List ℕ)) (p q : Plan) (same : SameMoves p q) where
  destination_in : (x : Spot) → IsDestination p x → IsDestination q x
  destination_in x (inl h) = inl (record { row = h.row; listed = subst (λ l. Contains l h.row) same.sets h.listed; here = h.here })
  destination_in x (inr h) = inr (record { save = h.save; listed = subst (λ l. Contains l h.save) same.saves h.listed; here = h.here })

  made_in : (s : Spot) → IsMade a p s → IsMade a q s
  made_in s h = record { missing = h.missing; place = h.place; to = destination_in h.place h.to; below = h.below }

  listed_in : (s : Spot) → IsListed a own p s → IsListed a own q s
  listed_in s (inl h) = inl h
  listed_in s (inr h) = inr (h.0, made_in s h.1)

  update_same : (x : Spot) → updated p a.now x ≡ updated q a.now x
  unfolding updated
  update_same x = λ i. updated (record { folders = p.folders; saves = same.saves i; sets = same.sets i; manifest = p.manifest; clears = same.clears i; folders_off = p.folders_off }) a.now x

module _ (a : Disk) (own : List (List ℕ)) (p q : Plan) (same : SameMoves p q) where
  goes_in : (s : Spot) → GoesOff a own p s → GoesOff a own q s
  goes_in s g = record {
    listed = listed_in a own p q same s g.listed;
    no_value = λ x b. sym (update_same a own p q same x) ∙ g.no_value x b;
    no_folder = λ x b there. listed_in a own p q same x (g.no_folder x b (back x there));
  }
    where
      back : (x : Spot) → IsFolder a x ⊎ IsMade a q x → IsFolder a x ⊎ IsMade a p x
      back x (inl f) = inl f
      back x (inr h) = inr (made_in a own q p (same_sym p q same) x h)

  folders_in : FoldersLaidOut a own p → FoldersLaidOut a own q → (x : Place) → Contains p.folders x → Contains q.folders x
  folders_in fp fq x c =
      let h = (fq.made (spot_of x)).1 (made_in a own p q same (spot_of x) ((fp.made (spot_of x)).0 (record { place = x; listed = c; here = refl }))) in
      subst (Contains q.folders) (same_place h.place x h.here) h.listed

  offs_in : FoldersLaidOut a own p → FoldersLaidOut a own q → (x : Place) → Contains p.folders_off x → Contains q.folders_off x
  offs_in fp fq x c =
      let h = (fq.off (spot_of x)).1 (goes_in (spot_of x) ((fp.off (spot_of x)).0 (record { place = x; listed = c; here = refl }))) in
      subst (Contains q.folders_off) (same_place h.place x h.here) h.listed

module _ (a : Disk) (own : List (List ℕ)) (p q : Plan) (same : SameMoves p q) where
  own_in : (k l : List (List ℕ)) → OwnLaidOut a own p k → OwnLaidOut a own q l → (x : List ℕ) → Contains k x → Contains l x
  own_in k l ok ol x c =
      let h = (ok.folders x).0 c in
      (ol.folders x).1 (listed_in a own p q same (game_spot x) h.0, λ g. h.1 (goes_in a own q p (same_sym p q same) (game_spot x) g))

texts_rise : (l : List (List ℕ)) → Rises l → Rising (λ x y. slice_cmp nat_cmp x y ≡ Less) text_not_itself nat_list_cmp_total.trans l
unfolding IsStrictlySortedBy
texts_rise [] h = tt
texts_rise (x ∷ xs) h = (h.0, texts_rise xs h.1)

pub own_once : (a : Disk) (own : List (List ℕ)) (p q : Plan) → SameMoves p q → (k l : List (List ℕ)) → OwnLaidOut a own p k → OwnLaidOut a own q l → k ≡ l
own_once a own p q same k l ok ol =
    rising_once (λ x y. slice_cmp nat_cmp x y ≡ Less) text_not_itself nat_list_cmp_total.trans k l (texts_rise k ok.order) (texts_rise l ol.order) (own_in a own p q same k l ok ol) (own_in a own q p (same_sym p q same) l k ol ok)

falls_trans : (p q r : Place) → ComesBefore q p → ComesBefore r q → ComesBefore r p
falls_trans p q r e f = before_trans r q p f e

pub same_plan : (a : Disk) (own : List (List ℕ)) (m : Moves) (p q : Plan) → LaidOut m p → LaidOut m q → FoldersLaidOut a own p → FoldersLaidOut a own q → p.manifest ≡ q.manifest → p ≡ q
same_plan a own m p q lp lq fp fq manifest =
    let same = same_moves m p q lp lq in
    let turned = same_sym p q same in
    let op = ordered p lp.order in
    let oq = ordered q lq.order in
    let folders = once_by folder ComesBefore before_never before_trans (λ x f h. h) p.folders q.folders op.folders oq.folders (folders_in a own p q same fp fq) (folders_in a own q p turned fq fp) in
    let offs = once_by off (λ x y. ComesBefore y x) before_never falls_trans (λ x f h. h) p.folders_off q.folders_off op.offs oq.offs (offs_in a own p q same fp fq) (offs_in a own q p turned fq fp) in
    λ i. record { folders = folders i; saves = same.saves i; sets = same.sets i; manifest = manifest i; clears = same.clears i; folders_off = offs i }
