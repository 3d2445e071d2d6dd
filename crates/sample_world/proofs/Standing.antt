-- A disk of folders and files with one more of either.
use Rattle.std.proofs.Common.{◌≡◌, ◌≢◌, ◌⊎◌, ◌<◌, ◌≤◌, ◌+◌, ℕ, zero, suc, nat_lt, Bool, true, false, not, ◌||◌, cond, List, [], ◌∷◌, ◌++◌, length, length-append, position, refl, sym, ap, ◌∙◌, inl, inr, eqb, eq-eqb, arith}
use Rattle.std.specs.Prelude.{slice_index_or}
use Rattle.std.specs.List.{AllByRecursion, Contains, list_any, position_or_len}
use Rattle.std.specs.declared.option.Option.TheVariants.{None, Some}
use Rattle.std.proofs.lemmas.List.Folds.{list_any-append, position_or_len_push}
use Rattle.std.proofs.lemmas.List.Sums.{prefix_len-le-length}
use Rattle.std.proofs.lemmas.Bool.{lt-ltb}
use Rattle.std.proofs.lemmas.Bool.Decides.{eqb_tells}
use Rattle.list_laws.proofs.Alls.{all_weaken, none-from_all}
use Rattle.list_laws.proofs.Containing.{contains_cases, contains_none}
use Rattle.list_laws.proofs.Lists.{at_seam-item}
use Rattle.list_laws.proofs.Positions.{place-from_none, none-from_place}
use Rattle.list_laws.proofs.Truths.{or_false}
use Rattle.tree_fs.specs.Calls.{CanPut}
use Rattle.tree_fs.specs.Disk.{Value, file, set_at}
use Rattle.tree_fs.specs.Spot.{Spot, spot_eq, has_some, parent}
use Rattle.tree_fs.proofs.Functions.{set_at_tells, set_at-value, set_number_tells, same_disk}
use Rattle.tree_fs.proofs.Spots.{spot_eq-same, spot_eq_tells}
use Rattle.tree_mem.specs.Changed.{with_file, with_folder, settled_at}
use Rattle.sample_world.specs.Files.{WorldFile}
use Rattle.sample_world.specs.Worlds.{folders_above, needed, file_numbered, no_file, disk_with}
use Rattle.sample_world.proofs.Ranges.{all_flat_map}

-- a place has nothing of a file: neither the file nor a folder above it
pub record IsClear (a : Spot) (f : WorldFile) : Type 0 where
  pub file : a ≢ f.at
  pub folders : AllByRecursion (λ s. a ≢ s) (folders_above f.at)

abbrev pub stands_at : Spot → WorldFile → Bool
stands_at a f = spot_eq a f.at

pub not_same : (p q : Spot) → p ≢ q → spot_eq p q ≡ false
not_same p q ne = elim (spot_eq_tells p q) [ inl s ↦ absurd (ne s.1) | inr s ↦ s.0 ]

no_place : {X : Type 0} (p : X → Bool) (xs : List X) → AllByRecursion (λ x. p x ≡ false) xs → position_or_len p xs ≡ length xs
no_place p [] a = refl
no_place p (x ∷ xs) a = let rest : position_or_len p xs ≡ length xs = no_place p xs a.1 in let first : p x ≡ false = a.0 in rw first (omega arith)

pub clear_files : (a : Spot) (files : List WorldFile) → AllByRecursion (IsClear a) files → position (stands_at a) files ≡ None
clear_files a files all =
    none-from_place (stands_at a) files (no_place (stands_at a) files (all_weaken (IsClear a) (λ f. stands_at a f ≡ false) files (λ f c. not_same a f.at c.file) all))

pub clear_folders : (a : Spot) (files : List WorldFile) → AllByRecursion (IsClear a) files → list_any (spot_eq a) (needed files) ≡ false
clear_folders a files all =
    none-from_all (spot_eq a) (needed files)
    (all_flat_map (λ s. spot_eq a s ≡ false) (λ f. folders_above f.at) files
    (all_weaken (IsClear a) (λ f. AllByRecursion (λ s. spot_eq a s ≡ false) (folders_above f.at)) files
    (λ f c. all_weaken (λ s. a ≢ s) (λ s. spot_eq a s ≡ false) (folders_above f.at) (λ s ne. not_same a s ne) c.folders) all))

-- Folders among others

pub any_more : (q a : Spot) (folders : List Spot) → list_any (spot_eq q) (folders ++ a ∷ []) ≡ (list_any (spot_eq q) folders || spot_eq q a)
any_more q a folders = list_any-append (spot_eq q) folders (a ∷ []) ∙ ap (λ b. list_any (spot_eq q) folders || b) (or_false (spot_eq q a) false refl)

or_true : (a b : Bool) → b ≡ true → (a || b) ≡ true
or_true true b h = refl
or_true false b h = h

both_false : (a b : Bool) → a ≡ false → b ≡ false → (a || b) ≡ false
both_false a b h g = rw h g

pub last_there : (a : Spot) (folders : List Spot) → list_any (spot_eq a) (folders ++ a ∷ []) ≡ true
last_there a folders = any_more a a folders ∙ or_true (list_any (spot_eq a) folders) (spot_eq a a) (spot_eq-same a)

pub not_there : (q a : Spot) (folders : List Spot) → list_any (spot_eq q) folders ≡ false → q ≢ a → list_any (spot_eq q) (folders ++ a ∷ []) ≡ false
not_there q a folders h ne = any_more q a folders ∙ both_false (list_any (spot_eq q) folders) (spot_eq q a) h (not_same q a ne)

-- one that is there already adds nothing
pub absorbed : (folders : List Spot) (a : Spot) (more : List Spot) → list_any (spot_eq a) folders ≡ true → (q : Spot) → list_any (spot_eq q) (folders ++ a ∷ more) ≡ list_any (spot_eq q) (folders ++ more)
absorbed folders a more there q =
    list_any-append (spot_eq q) folders (a ∷ more) ∙ by (spot_eq_tells q a) ∙ sym (list_any-append (spot_eq q) folders more)
  where
    by : ((spot_eq q a ≡ true) × (q ≡ a)) ⊎ ((spot_eq q a ≡ false) × (q ≢ a)) → (list_any (spot_eq q) folders || (spot_eq q a || list_any (spot_eq q) more)) ≡ (list_any (spot_eq q) folders || list_any (spot_eq q) more)
    by (inl s) = let h : list_any (spot_eq q) folders ≡ true = ap (λ r. list_any (spot_eq r) folders) s.1 ∙ there in rw h refl
    by (inr s) = ap (λ b. list_any (spot_eq q) folders || (b || list_any (spot_eq q) more)) s.0

-- a folder above one of the files is needed
pub needed_there : (files : List WorldFile) (f : WorldFile) (s : Spot) → Contains files f → list_any (spot_eq s) (folders_above f.at) ≡ true → list_any (spot_eq s) (needed files) ≡ true
needed_there [] f s c h = absurd (contains_none f c)
needed_there (g ∷ gs) f s c h =
    list_any-append (spot_eq s) (folders_above g.at) (needed gs) ∙ by (contains_cases g f gs c) (needed_there gs f s)
  where
    by : (f ≡ g) ⊎ Contains gs f → (Contains gs f → list_any (spot_eq s) (folders_above f.at) ≡ true → list_any (spot_eq s) (needed gs) ≡ true)
        → (list_any (spot_eq s) (folders_above g.at) || list_any (spot_eq s) (needed gs)) ≡ true
    by (inl e) rest = let here : list_any (spot_eq s) (folders_above g.at) ≡ true = ap (λ (x : WorldFile). list_any (spot_eq s) (folders_above x.at)) (sym e) ∙ h in rw here refl
    by (inr l) rest = or_true (list_any (spot_eq s) (folders_above g.at)) (list_any (spot_eq s) (needed gs)) (rest l h)

-- Where something can come

pub can_put : (folders : List Spot) (files : List WorldFile) (a : Spot) → has_some a.names ≡ true → list_any (spot_eq a) folders ≡ false → position (stands_at a) files ≡ None
    → (has_some (parent a).names ≡ false) ⊎ (list_any (spot_eq (parent a)) folders ≡ true) → CanPut (disk_with folders files) a
unfolding disk_with
can_put folders files a below no_folder absent above = record {
  absent = ap file_numbered absent;
  no_folder = ap (λ b. not b || list_any (spot_eq a) folders) below ∙ no_folder;
  in_folder = elim above [
    | inl root ↦ ap (λ b. not b || list_any (spot_eq (parent a)) folders) root
    | inr there ↦ or_true (not (has_some (parent a).names)) (list_any (spot_eq (parent a)) folders) there
  ];
}

-- One more

pub same_folders : (folders others : List Spot) (files : List WorldFile) → ((q : Spot) → list_any (spot_eq q) folders ≡ list_any (spot_eq q) others) → disk_with folders files ≡ disk_with others files
unfolding disk_with
same_folders folders others files h = same_disk _ _ record {
  folders = λ q. ap (λ b. not (has_some q.names) || b) (h q);
  now = λ q. refl;
  before = λ q. refl;
  bytes = λ n. refl;
  firm = λ n. refl;
  fresh = refl;
}

or_last : (a b c : Bool) → c ≡ true → (a || (b || c)) ≡ true
or_last a b c h = or_true a (b || c) (or_true b c h)

or_without : (a b c : Bool) → c ≡ false → (a || (b || c)) ≡ (a || b)
or_without a b c h = ap (λ x. a || x) (or_false b c h)

pub folder_added : (folders : List Spot) (files : List WorldFile) (a : Spot) → settled_at (with_folder (disk_with folders files) a) a ≡ disk_with (folders ++ a ∷ []) files
unfolding disk_with
folder_added folders files a = same_disk _ _ record {
  folders = λ q. by q (set_at_tells (λ r. not (has_some r.names) || list_any (spot_eq r) folders) a true q);
  now = λ q. refl;
  before = λ q. set_at-value (λ _. []) a [] q refl;
  bytes = λ n. refl;
  firm = λ n. refl;
  fresh = refl;
}
  where
    was : Spot → Bool
    was r = not (has_some r.names) || list_any (spot_eq r) folders

    by : (q : Spot) → ((set_at was a true q ≡ true) × (q ≡ a)) ⊎ ((set_at was a true q ≡ was q) × (q ≢ a)) → set_at was a true q ≡ (not (has_some q.names) || list_any (spot_eq q) (folders ++ a ∷ []))
    by q (inl s) =
        s.0 ∙ sym (ap (λ b. not (has_some q.names) || b) (any_more q a folders) ∙ or_last (not (has_some q.names)) (list_any (spot_eq q) folders) (spot_eq q a) (ap (spot_eq q) (sym s.1) ∙ spot_eq-same q))
    by q (inr s) =
        s.0 ∙ sym (ap (λ b. not (has_some q.names) || b) (any_more q a folders) ∙ or_without (not (has_some q.names)) (list_any (spot_eq q) folders) (spot_eq q a) (not_same q a s.1))

-- The place of one item more

some_place : {X : Type 0} (p : X → Bool) (xs : List X) → position_or_len p xs < length xs → position p xs ≡ Some (position_or_len p xs)
some_place p xs low = let t : nat_lt (position_or_len p xs) (length xs) ≡ true = lt-ltb (position_or_len p xs) (length xs) low in rw t refl

at_end : {X : Type 0} (p : X → Bool) (xs : List X) (y : X) → position p xs ≡ None → p y ≡ true → position p (xs ++ y ∷ []) ≡ Some (length xs)
at_end p xs y none here =
    let past : position_or_len p xs ≡ length xs = place-from_none p xs none in
    let t : eqb (position_or_len p xs) (length xs) ≡ true = eq-eqb (position_or_len p xs) (length xs) past in
    let place : position_or_len p (xs ++ y ∷ []) ≡ length xs = position_or_len_push p xs y ∙ (λ i. cond (t i) (length xs + cond (here i) 0 1) (position_or_len p xs)) ∙ omega arith in
    let size : length (xs ++ y ∷ []) ≡ length xs + 1 = length-append xs (y ∷ []) in
    some_place p (xs ++ y ∷ []) (omega arith) ∙ ap Some place

not_at_end : {X : Type 0} (p : X → Bool) (xs : List X) (y : X) → p y ≡ false → position p (xs ++ y ∷ []) ≡ position p xs
not_at_end p xs y other =
    let most : position_or_len p xs ≤ length xs = prefix_len-le-length (λ x. not (p x)) xs in
    let size : length (xs ++ y ∷ []) ≡ length xs + 1 = length-append xs (y ∷ []) in
    elim (eqb_tells (position_or_len p xs) (length xs)) [
      | inl s ↦
          let place : position_or_len p (xs ++ y ∷ []) ≡ length xs + 1 = position_or_len_push p xs y ∙ (λ i. cond (s.0 i) (length xs + cond (other i) 0 1) (position_or_len p xs)) in
          none-from_place p (xs ++ y ∷ []) (place ∙ sym size) ∙ sym (none-from_place p xs s.1)
      | inr s ↦
          let place : position_or_len p (xs ++ y ∷ []) ≡ position_or_len p xs = position_or_len_push p xs y ∙ ap (λ b. cond b (length xs + cond (p y) 0 1) (position_or_len p xs)) s.0 in
          let apart : position_or_len p xs ≢ length xs = s.1 in
          let low : position_or_len p xs < length xs = omega arith in
          some_place p (xs ++ y ∷ []) (omega arith) ∙ ap Some place ∙ sym (some_place p xs low)
    ]

abbrev bytes_of_file : List WorldFile → ℕ → List ℕ
bytes_of_file files n = (slice_index_or files n no_file).bytes

not_last : (files : List WorldFile) (f : WorldFile) (n : ℕ) → n ≢ length files → bytes_of_file (files ++ f ∷ []) n ≡ bytes_of_file files n
not_last [] f zero ne = absurd (ne refl)
not_last [] f (suc n) ne = refl
not_last (x ∷ xs) f zero ne = refl
not_last (x ∷ xs) f (suc n) ne = not_last xs f n (λ e. ne (omega arith))

pub file_added : (folders : List Spot) (files : List WorldFile) (f : WorldFile) → position (stands_at f.at) files ≡ None → settled_at (with_file (disk_with folders files) f.at f.bytes) f.at ≡ disk_with folders (files ++ f ∷ [])
unfolding disk_with
file_added folders files f free = same_disk _ _ record {
  folders = λ q. refl;
  now = λ q. by q (set_at_tells was f.at (file (length files)) q);
  before = λ q. set_at-value (λ _. []) f.at [] q refl;
  bytes = λ n. elim (set_number_tells (bytes_of_file files) (length files) f.bytes n) [
    | inl s ↦ s.0 ∙ sym (ap (bytes_of_file (files ++ f ∷ [])) s.1 ∙ ap (λ (x : WorldFile). x.bytes) (at_seam-item files f no_file []))
    | inr s ↦ s.0 ∙ sym (not_last files f n s.1)
  ];
  firm = λ n. elim (set_number_tells (λ _. true) (length files) true n) [ inl s ↦ s.0 | inr s ↦ s.0 ];
  fresh = sym (length-append files (f ∷ []));
}
  where
    was : Spot → Value
    was q = file_numbered (position (stands_at q) files)

    by : (q : Spot) → ((set_at was f.at (file (length files)) q ≡ file (length files)) × (q ≡ f.at)) ⊎ ((set_at was f.at (file (length files)) q ≡ was q) × (q ≢ f.at))
        → set_at was f.at (file (length files)) q ≡ file_numbered (position (stands_at q) (files ++ f ∷ []))
    by q (inl s) =
        s.0 ∙ sym (ap file_numbered (at_end (stands_at q) files f (ap (λ r. position (stands_at r) files) s.1 ∙ free) (ap (λ r. spot_eq r f.at) s.1 ∙ spot_eq-same f.at)))
    by q (inr s) = s.0 ∙ sym (ap file_numbered (not_at_end (stands_at q) files f (not_same q f.at s.1)))
