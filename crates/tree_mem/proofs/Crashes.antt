-- What a stop leaves by choices: that the parts are such a disk, that it is an image, and that there is but one.
use Rattle.std.proofs.Common.{◌≡◌, ◌≢◌, ◌⊎◌, inl, inr, ℕ, zero, suc, ◌+◌, ◌==◌, ◌%◌, ◌||◌, Bool, true, false, cond, List, [], ◌∷◌, ◌++◌, map, length, reverse, get_or, slice_get, refl, sym, ap, subst, ◌∙◌, arith}
use Rattle.std.specs.BTreeMap.{IsOrdered, get, is_at}
use Rattle.std.specs.Map.{keys_of}
use Rattle.std.specs.List.{fold, Contains, AllByRecursion}
use Rattle.std.specs.List.Sorted.{IsStrictlySortedBy}
use Rattle.std.specs.Cmp.Lexicographic.{on_texts}
use Rattle.std.specs.Ordering.{is_eq, ordering_reverse}
use Rattle.std.specs.declared.cmp.Ordering.TheVariants.{Less, Greater}
use Rattle.std.specs.declared.alloc.Global.{Global}
use Rattle.std.specs.declared.option.Option.{Option}
use Rattle.std.specs.declared.option.Option.TheVariants.{None, Some}
use Rattle.std.specs.declared.vec.Vec.{Vec}
use Rattle.std.proofs.lemmas.List.{reverse-append, reverse-reverse, length-map, map-append, append-nil, append_assoc}
use Rattle.std.proofs.lemmas.Map.Entries.{place_from_lookup, btree_map_get_place}
use Rattle.tree_fs.specs.declared.place.Place.{Place}
use Rattle.tree_fs.specs.Spot.{Spot, spot_of, spot_eq}
use Rattle.tree_fs.specs.Disk.{Disk, Value, none, file, IsIn, MayHold, Image}
use Rattle.list_laws.proofs.Alls.{all_item, all_weaken}
use Rattle.list_laws.proofs.Containing.{contains_here, contains_there, contains_cases, contains_none, contains_map, map_contains}
use Rattle.tree_fs.proofs.Lists.{in_append}
use Rattle.tree_fs.specs.Texts.{place_text}
use Rattle.tree_fs.proofs.Functions.{same_disk}
use Rattle.tree_fs.proofs.Spots.{spot_eq-true, same_place}
use Rattle.tree_mem.specs.declared.entries.Item.{Item}
use Rattle.tree_mem.specs.declared.entries.Item.TheVariants.{Folder, File}
use Rattle.tree_mem.specs.declared.disk.MemDisk.{MemDisk}
use Rattle.tree_mem.specs.declared.disk.Past.{Past}
use Rattle.tree_mem.specs.Crash.{picked, HasChoice, IsCrash}
use Rattle.tree_mem.specs.Disks.{disk_in, item_of, is_folder, value_in, held_before, file_at}
use Rattle.tree_mem.specs.FileData.{FileData, file_left}
use Rattle.tree_mem.specs.Groups.{number_in, item_with, held_files, Groups, by_text, IsGroup, IsGrouped}
use Rattle.tree_mem.proofs.Groups.{at-same, same-at}
use Rattle.tree_mem.proofs.Played.{Group, given, played, played-at, played-other}

-- Values, and the numbers of files.

abbrev value_with : Option ℕ → Value
value_with None = none
value_with (Some n) = file n

value_in-number : (o : Option Item) → value_in o ≡ value_with (number_in o)
value_in-number None = refl
value_in-number (Some Folder) = refl
value_in-number (Some (File n)) = refl

value_in-item : (o : Option ℕ) → value_in (item_with o) ≡ value_with o
value_in-item None = refl
value_in-item (Some n) = refl

reverse-cons : {X : Type 0} (x : X) (xs : List X) → reverse (x ∷ xs) ≡ reverse xs ++ x ∷ []
reverse-cons x xs = reverse-append (x ∷ []) xs

-- what was held, put in front one by one, is the list backwards
held_fold : (past : List Past) (q : Spot) (held : List Value) → fold (λ h p. cond (spot_eq q (spot_of p.at)) (value_in p.item ∷ h) h) held past ≡ reverse (map value_with (held_files past q)) ++ held
held_fold [] q held = refl
held_fold (x ∷ xs) q held =
    let older = map value_with (held_files xs q) in
    elim (spot_eq q (spot_of x.at)) as (λ b. fold (λ h p. cond (spot_eq q (spot_of p.at)) (value_in p.item ∷ h) h) (cond b (value_in x.item ∷ held) held) xs ≡ reverse (map value_with (cond b (number_in x.item ∷ held_files xs q) (held_files xs q))) ++ held) [
      | true ↦
          held_fold xs q (value_in x.item ∷ held) ∙ ap (λ v. reverse older ++ v ∷ held) (value_in-number x.item)
          ∙ sym (ap (λ l. l ++ held) (reverse-cons (value_with (number_in x.item)) older) ∙ append_assoc (reverse older) (value_with (number_in x.item) ∷ []) held)
      | false ↦ held_fold xs q held
    ]

held_reversed : (past : List Past) (q : Spot) → reverse (held_before past q) ≡ map value_with (held_files past q)
held_reversed past q = ap reverse (held_fold past q [] ∙ append-nil (reverse (map value_with (held_files past q)))) ∙ reverse-reverse (map value_with (held_files past q))

nothing_held : (past : List Past) (q : Spot) → held_files past q ≡ [] → held_before past q ≡ []
nothing_held past q e = held_fold past q [] ∙ append-nil (reverse (map value_with (held_files past q))) ∙ ap (λ l. reverse (map value_with l)) e

unmapped : {X Y : Type 0} (f : X → Y) (xs : List X) → map f xs ≡ [] → xs ≡ []
unmapped f [] e = refl
unmapped f (x ∷ xs) e = let none : ⊥ = cc in absurd none

no_files : (past : List Past) (q : Spot) → held_before past q ≡ [] → held_files past q ≡ []
no_files past q e = unmapped value_with (held_files past q) (sym (held_reversed past q) ∙ ap reverse e)

-- where something was held is a place of the program
held_place : (past : List Past) (q : Spot) → held_files past q ≢ [] → (p : Place) × (spot_of p ≡ q)
held_place [] q h = absurd (h refl)
held_place (x ∷ xs) q h = by_test (spot_eq q (spot_of x.at)) refl h (held_place xs q)
  where
    by_test : (b : Bool) → spot_eq q (spot_of x.at) ≡ b → (cond b (number_in x.item ∷ held_files xs q) (held_files xs q) ≢ []) → ((held_files xs q ≢ []) → (p : Place) × (spot_of p ≡ q)) → (p : Place) × (spot_of p ≡ q)
    by_test true e h older = (x.at, sym (spot_eq-true q (spot_of x.at) e))
    by_test false e h older = older h

-- Choices.

get_map : {X Y : Type 0} (f : X → Y) (xs : List X) (i : ℕ) (d : X) → get_or (map f xs) i (f d) ≡ f (get_or xs i d)
get_map f [] i d = refl
get_map f (x ∷ xs) zero d = refl
get_map f (x ∷ xs) (suc i) d = get_map f xs i d

picked-map : {X Y : Type 0} (f : X → Y) (c : Option ℕ) (xs : List X) (x : X) → f (picked c xs x) ≡ picked c (map f xs) (f x)
picked-map f None xs x = refl
picked-map f (Some c) xs x =
    let all = xs ++ x ∷ [] in
    sym (get_map f all (c % length all) x) ∙ ap (λ k. get_or (map f all) (c % k) (f x)) (sym (length-map all f)) ∙ ap (λ l. get_or l (c % length l) (f x)) (map-append f xs (x ∷ []))

-- Groups.

entry_at : (es : List Group) (i : ℕ) (p : Place) → slice_get (keys_of es) i ≡ Some p → (v : Vec (Option ℕ) Global) × (slice_get es i ≡ Some (p, v))
entry_at [] i p e = let none : ⊥ = cc in absurd none
entry_at (x ∷ es) zero p e = let same : x.0 ≡ p = cc in (x.1, ap (λ q. Some (q, x.1)) same)
entry_at (x ∷ es) (suc i) p e = entry_at es i p e

all_from_index : {X : Type 0} (P : X → Type 0) (xs : List X) → ((i : ℕ) (x : X) → slice_get xs i ≡ Some x → P x) → AllByRecursion P xs
all_from_index P [] h = tt
all_from_index P (x ∷ xs) h = (h zero x refl, all_from_index P xs (λ i y e. h (suc i) y e))

item_there : {X : Type 0} (xs : List X) (i : ℕ) (x : X) → slice_get xs i ≡ Some x → Contains xs x
item_there [] i x e = let none : ⊥ = cc in absurd none
item_there (y ∷ ys) zero x e = let same : y ≡ x = cc in subst (Contains (y ∷ ys)) same (contains_here y ys)
item_there (y ∷ ys) (suc i) x e = contains_there y x ys (item_there ys i x e)

index_of : {X : Type 0} (xs : List X) (x : X) → Contains xs x → (i : ℕ) × (slice_get xs i ≡ Some x)
index_of [] x c = absurd (contains_none x c)
index_of (y ∷ ys) x c = elim (contains_cases y x ys c) [
  | inl e ↦ (zero, ap Some (sym e))
  | inr there ↦ let at = index_of ys x there in (suc at.0, at.1)
]

module _ (d : MemDisk) (m : Groups) (grouped : IsGrouped d d.pending.items m) (ordered : IsOrdered by_text m) where
  abbrev IsGroupAt : Group → Type 0
  IsGroupAt e = IsGroup (is_folder (item_of d (spot_of e.0))) (held_files d.pending.items (spot_of e.0)) (Some e.1)

  group_at : (i : ℕ) (e : Group) → slice_get m.entries i ≡ Some e → IsGroupAt e
  group_at i e at = subst (IsGroup (is_folder (item_of d (spot_of e.0))) (held_files d.pending.items (spot_of e.0))) (btree_map_get_place (on_texts place_text) m i e.0 e.1 ordered at) (grouped e.0)

  all_groups : AllByRecursion IsGroupAt m.entries
  all_groups = all_from_index IsGroupAt m.entries group_at

  pub plain_groups : AllByRecursion (λ e. is_folder (item_of d (spot_of e.0)) ≡ false) m.entries
  plain_groups = all_weaken IsGroupAt (λ e. is_folder (item_of d (spot_of e.0)) ≡ false) m.entries (λ e group. group.0) all_groups

  -- a place that is pending is a key, and no other one
  key_there : (q : Spot) → HasChoice (disk_in d) q → Contains (map spot_of (keys_of m.entries)) q
  key_there q pending =
      let at = held_place d.pending.items q (λ e. pending.0 (nothing_held d.pending.items q e)) in
      subst (Contains (map spot_of (keys_of m.entries))) at.1 (by_group at.0 at.1 (get by_text m at.0) refl (grouped at.0))
    where
      by_group : (p : Place) → spot_of p ≡ q → (o : Option (Vec (Option ℕ) Global)) → get by_text m p ≡ o → IsGroup (is_folder (item_of d (spot_of p))) (held_files d.pending.items (spot_of p)) o
          → Contains (map spot_of (keys_of m.entries)) (spot_of p)
      by_group p s None e (inl folder) = let both : true ≡ false = sym folder ∙ ap (λ x. is_folder (item_of d x)) s ∙ pending.1 in absurd (cc)
      by_group p s None e (inr nothing) = absurd (pending.0 (ap (held_before d.pending.items) (sym s) ∙ nothing_held d.pending.items (spot_of p) nothing))
      by_group p s (Some v) e group =
          let at = place_from_lookup (is_at (by_text p)) m.entries v e in
          subst (λ k. Contains (map spot_of (keys_of m.entries)) (spot_of k)) (sym (same-at p at.1 at.3))
          (map_contains spot_of (keys_of m.entries) at.1 (map_contains (λ (x : Group). x.0) m.entries (at.1, v) (item_there m.entries at.0 (at.1, v) at.2)))

  key_choice : (q : Spot) → Contains (map spot_of (keys_of m.entries)) q → HasChoice (disk_in d) q
  key_choice q c =
      let at = contains_map spot_of (keys_of m.entries) q c in
      let e = contains_map (λ (x : Group). x.0) m.entries at.0 at.1 in
      let group : IsGroupAt e.0 = all_item IsGroupAt m.entries e.0 all_groups e.1 in
      let there : spot_of e.0.0 ≡ q = ap spot_of e.2 ∙ at.2 in
      subst (HasChoice (disk_in d)) there ((λ nothing. group.1 (no_files d.pending.items (spot_of e.0.0) nothing)), group.0)

  -- a place with nothing pending, or a folder, is no key
  no_key : (q : Spot) → (HasChoice (disk_in d) q → ⊥) → AllByRecursion (λ e. q ≢ spot_of e.0) m.entries
  no_key q no_choice = all_weaken IsGroupAt (λ e. q ≢ spot_of e.0) m.entries (λ e group there. no_choice (subst (HasChoice (disk_in d)) (sym there) ((λ nothing. group.1 (no_files d.pending.items (spot_of e.0) nothing)), group.0))) all_groups

  module _ (e : MemDisk) (choices : List ℕ) (items : item_of e ≡ played d choices 0 m.entries (item_of d)) where
    stays : (q : Spot) → (HasChoice (disk_in d) q → ⊥) → item_of e q ≡ item_of d q
    stays q no_choice = ap (λ f. f q) items ∙ played-other d choices 0 m.entries (item_of d) q (no_key q no_choice)

    chosen_at : (i : ℕ) (p : Place) → slice_get (keys_of m.entries) i ≡ Some p
        → value_in (item_of e (spot_of p)) ≡ picked (slice_get choices i) (reverse (held_before d.pending.items (spot_of p))) (value_in (item_of d (spot_of p)))
    chosen_at i p is =
        let at = entry_at m.entries i p is in
        let group : IsGroupAt (p, at.0) = group_at i (p, at.0) at.1 in
        let now = number_in (item_of d (spot_of p)) in
        let choice = slice_get choices i in
        ap (λ f. value_in (f (spot_of p))) items
        ∙ ap value_in (played-at d choices 0 m.entries (item_of d) i (p, at.0) ordered at.1)
        ∙ (let first : 0 + i ≡ i = omega arith in ap (λ k. value_in (given d choices k (p, at.0))) first)
        ∙ value_in-item (picked choice at.0.items now)
        ∙ picked-map value_with choice at.0.items now
        ∙ (λ k. picked choice (map value_with (group.2 k)) (sym (value_in-number (item_of d (spot_of p))) k))
        ∙ ap (λ l. picked choice l (value_in (item_of d (spot_of p)))) (sym (held_reversed d.pending.items (spot_of p)))

    pub is_crash : ((q : Spot) → is_folder (item_of e q) ≡ is_folder (item_of d q)) → e.files.items ≡ map (file_left (length choices % 2 == 0)) d.files.items → e.pending.items ≡ [] → IsCrash choices (disk_in d) (disk_in e)
    is_crash folders files pending = record {
      places = keys_of m.entries;
      order = ordered;
      each = λ q. (key_choice q, key_there q);
      chosen = chosen_at;
      same = λ q settled plain. ap value_in (stays q (λ p. p.0 settled));
      bare = λ q folder. ap value_in (stays q (λ p. let both : true ≡ false = sym folder ∙ p.1 in cc)) ∙ no_value (item_of d q) folder;
      folders = folders;
      settled = λ q. ap (λ l. held_before l q) pending;
      bytes = λ n. ap (λ (fs : List FileData). (file_at fs n).bytes) files ∙ ap (λ (f : FileData). f.bytes) (get_map (file_left (length choices % 2 == 0)) d.files.items n (record { bytes = []; firm = true }));
      firm = λ n. ap (λ (fs : List FileData). (file_at fs n).firm) files ∙ ap (λ (f : FileData). f.firm) (get_map (file_left (length choices % 2 == 0)) d.files.items n (record { bytes = []; firm = true }));
      fresh = ap length files ∙ length-map d.files.items (file_left (length choices % 2 == 0));
    }
      where
        no_value : (o : Option Item) → is_folder o ≡ true → value_in o ≡ none
        no_value None f = let none : ⊥ = cc in absurd none
        no_value (Some Folder) f = refl
        no_value (Some (File n)) f = let none : ⊥ = cc in absurd none

-- An image.

in_or_default : (xs : List Value) (i : ℕ) (v : Value) → (get_or xs i v ≡ v) ⊎ IsIn (get_or xs i v) xs
in_or_default [] i v = inl refl
in_or_default (x ∷ xs) zero v = inr (inl refl)
in_or_default (x ∷ xs) (suc i) v = elim (in_or_default xs i v) [ inl e ↦ inl e | inr h ↦ inr (inr h) ]

in_reverse : (v : Value) (xs : List Value) → IsIn v (reverse xs) → IsIn v xs
in_reverse v [] h = h
in_reverse v (x ∷ xs) h = elim (in_append v (reverse xs) (x ∷ []) (subst (IsIn v) (reverse-cons x xs) h)) [
  | inl l ↦ inr (in_reverse v xs l)
  | inr r ↦ elim r [ inl e ↦ inl e | inr h ↦ absurd h ]
]

-- what is picked was there before, or is the last
picked_held : (c : Option ℕ) (before : List Value) (now : Value) → (picked c (reverse before) now ≡ now) ⊎ IsIn (picked c (reverse before) now) before
picked_held None before now = inl refl
picked_held (Some c) before now =
    let all = reverse before ++ now ∷ [] in
    let v = get_or all (c % length all) now in
    elim (in_or_default all (c % length all) now) [
      | inl e ↦ inl e
      | inr h ↦ elim (in_append v (reverse before) (now ∷ []) h) [
        | inl l ↦ inr (in_reverse v before l)
        | inr r ↦ elim r [ inl e ↦ inl e | inr h ↦ absurd h ]
      ]
    ]

-- the place of a pending spot, and its number
record PlaceOf (places : List Place) (q : Spot) : Type 0 where
  number : ℕ
  place : Place
  at : slice_get places number ≡ Some place
  there : spot_of place ≡ q

place_of : (places : List Place) (q : Spot) → Contains (map spot_of places) q → PlaceOf places q
place_of places q c =
    let p = contains_map spot_of places q c in
    let i = index_of places p.0 p.1 in
    record { number = i.0; place = p.0; at = i.1; there = p.2 }

empty_or_not : {X : Type 0} (xs : List X) → (xs ≡ []) ⊎ (xs ≢ [])
empty_or_not [] = inl refl
empty_or_not (x ∷ xs) = inr (λ e. cc)

pub image : (choices : List ℕ) (d left : Disk) → IsCrash choices d left → Image d left
image choices d left h = record {
  folders = h.folders;
  value = λ q plain. elim (empty_or_not (d.before q)) [
    | inl settled ↦ inl (h.same q settled plain)
    | inr some ↦
        let p = place_of h.places q ((h.each q).1 (some, plain)) in
        subst (λ s. MayHold d s (left.now s)) p.there (subst (λ v. MayHold d (spot_of p.place) v) (sym (h.chosen p.number p.place p.at)) (picked_held (slice_get choices p.number) (d.before (spot_of p.place)) (d.now (spot_of p.place))))
  ];
  bare = h.bare;
  settled = h.settled;
  bytes = λ n firm. h.bytes n ∙ ap (λ b. cond (b || (length choices % 2 == 0)) (d.bytes n) []) firm;
  firm = h.firm;
  fresh = h.fresh;
}

-- There is but one.

not_less : (p q : Place) → by_text p q ≡ Less → p ≢ q
not_less p q less same =
    let at : is_at (by_text p) q ≡ true = ap (is_at (by_text p)) (sym same) ∙ at-same p in
    let no : is_at (by_text p) q ≡ false = ap is_eq less in
    let none : true ≡ false = sym at ∙ no in
    cc

both_less : (p q : Place) → by_text p q ≡ Less → by_text q p ≡ Less → ⊥
both_less p q l r = let back : Less ≡ Greater = sym l ∙ (on_texts place_text).antisymm p q ∙ ap ordering_reverse r in cc

one_first : (x y : Place) (xs ys : List Place) → AllByRecursion (λ p. by_text x p ≡ Less) xs → AllByRecursion (λ p. by_text y p ≡ Less) ys → Contains (y ∷ ys) x → Contains (x ∷ xs) y → x ≡ y
one_first x y xs ys above_x above_y there back = elim (contains_cases y x ys there) [
  | inl e ↦ e
  | inr l ↦ elim (contains_cases x y xs back) [
    | inl e ↦ sym e
    | inr r ↦ absurd (both_less x y (all_item (λ p. by_text x p ≡ Less) xs y above_x r) (all_item (λ p. by_text y p ≡ Less) ys x above_y l))
  ]
]

-- what is above the first item is among the others
in_rest : (x p : Place) (xs : List Place) → Contains (x ∷ xs) p → by_text x p ≡ Less → Contains xs p
in_rest x p xs c less = elim (contains_cases x p xs c) [ inl e ↦ absurd (not_less x p less (sym e)) | inr there ↦ there ]

-- lists in order with the same items are one
one_list : (xs ys : List Place) → IsStrictlySortedBy by_text xs → IsStrictlySortedBy by_text ys → ((p : Place) → Contains xs p → Contains ys p) → ((p : Place) → Contains ys p → Contains xs p) → xs ≡ ys
unfolding IsStrictlySortedBy
one_list [] [] a b to from = refl
one_list [] (y ∷ ys) a b to from = absurd (contains_none y (from y (contains_here y ys)))
one_list (x ∷ xs) [] a b to from = absurd (contains_none x (to x (contains_here x xs)))
one_list (x ∷ xs) (y ∷ ys) a b to from =
    let first : x ≡ y = one_first x y xs ys a.0 b.0 (to x (contains_here x xs)) (from y (contains_here y ys)) in
    let rest : xs ≡ ys = one_list xs ys a.1 b.1
    (λ p c. in_rest x p ys (subst (λ k. Contains (k ∷ ys) p) (sym first) (to p (contains_there x p xs c))) (all_item (λ k. by_text x k ≡ Less) xs p a.0 c))
    (λ p c. in_rest y p xs (subst (λ k. Contains (k ∷ xs) p) first (from p (contains_there y p ys c))) (all_item (λ k. by_text y k ≡ Less) ys p b.0 c)) in
    λ i. first i ∷ rest i

same_spots : (xs ys : List Place) (p : Place) → ((q : Spot) → Contains (map spot_of xs) q → Contains (map spot_of ys) q) → Contains xs p → Contains ys p
same_spots xs ys p to c =
    let at = contains_map spot_of ys (spot_of p) (to (spot_of p) (map_contains spot_of xs p c)) in
    subst (Contains ys) (same_place at.0 p at.2) at.1

-- the same choices leave the same disk
pub one_crash : (choices : List ℕ) (d a b : Disk) → IsCrash choices d a → IsCrash choices d b → a ≡ b
one_crash choices d a b x y = same_disk a b record {
  folders = λ q. x.folders q ∙ sym (y.folders q);
  now = now;
  before = λ q. x.settled q ∙ sym (y.settled q);
  bytes = λ n. x.bytes n ∙ sym (y.bytes n);
  firm = λ n. x.firm n ∙ sym (y.firm n);
  fresh = x.fresh ∙ sym y.fresh;
}
  where
    places : x.places ≡ y.places
    places = one_list x.places y.places x.order y.order
        (λ p. same_spots x.places y.places p (λ q c. (y.each q).1 ((x.each q).0 c)))
        (λ p. same_spots y.places x.places p (λ q c. (x.each q).1 ((y.each q).0 c)))

    now : (q : Spot) → a.now q ≡ b.now q
    now q = by_folder (d.folders q) refl
      where
        by_folder : (f : Bool) → d.folders q ≡ f → a.now q ≡ b.now q
        by_folder true folder = x.bare q folder ∙ sym (y.bare q folder)
        by_folder false plain = elim (empty_or_not (d.before q)) [
          | inl settled ↦ x.same q settled plain ∙ sym (y.same q settled plain)
          | inr some ↦
              let p = place_of x.places q ((x.each q).1 (some, plain)) in
              subst (λ s. a.now s ≡ b.now s) p.there (x.chosen p.number p.place p.at ∙ sym (y.chosen p.number p.place (ap (λ l. slice_get l p.number) (sym places) ∙ p.at)))
        ]
