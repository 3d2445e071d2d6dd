-- What the tests of single places decide.
use Rattle.std.proofs.Common.{◌≡◌, ◌≢◌, ◌⊎◌, ℕ, ◌+◌, ◌-◌, ◌<◌, Bool, true, false, List, [], ◌∷◌, ◌++◌, length, take, drop, refl, sym, ap, ◌∙◌, subst, inl, inr, arith, append-nil, length-append}
use Rattle.std.specs.Prelude.{not, ◌&&◌, ◌==◌, nat_lt, nat_le, nat_eq, codes}
use Rattle.std.specs.List.{starts_with, ends_with, list_all}
use Rattle.std.specs.Bool.{Decides}
use Rattle.std.specs.Str.{bytes_eq}
use Rattle.std.specs.declared.option.Option.{Option}
use Rattle.std.specs.declared.option.Option.TheVariants.{None, Some}
use Rattle.std.proofs.lemmas.Bool.Decides.{Decides-like, Decides-not, Decides-and, nat_tests}
use Rattle.std.proofs.lemmas.List.{take-append-drop}
use Rattle.list_laws.proofs.Lists.{take-seam, drop-seam}
use Rattle.std.proofs.lemmas.Slice.Eq.{bytes_eq-Decides}
use Rattle.rel_paths.specs.declared.control.Control.{Control}
use Rattle.rel_paths.specs.declared.control.Control.TheVariants.{Intent, IntentTemp, ManifestTemp, ProfileTemp, Profile, Manifest}
use Rattle.rel_paths.specs.Controls.{control_path}
use Rattle.rel_paths.specs.Names.{names_of, text_of, is_name_within, backup_ending, backup_names, user_limits, IsUserPath}
use Rattle.list_laws.proofs.Texts.{names_begin as IsPrefix-from_test, names_begin-test as test-from_prefix}
use Rattle.rel_paths.proofs.NamesOf.{has_names, names_of-between, text_of-names_of, text_of-append, same_text}
use Rattle.rel_paths.proofs.OneName.{names_of-name}
use Rattle.rel_paths.proofs.Limits.{IsWithin, IsWithin-from_fault, fault-from_IsWithin}
use Rattle.rel_paths.proofs.Backups.{names_of-backup}
use Rattle.tree_fs.specs.declared.place.Root.{Root}
use Rattle.tree_fs.specs.declared.place.Root.TheVariants.{Stage, Game, Keep}
use Rattle.tree_fs.specs.declared.place.Place.{Place}
use Rattle.tree_fs.specs.Spot.{Spot, spot_of, names_below, IsBelow}
use Rattle.tree_fs.specs.Texts.{control_root, control_spot}
use Rattle.tree_fs.proofs.Spots.{same_spot, root_eq-Decides, not_nameless}
use Rattle.backup_keep.specs.Places.{backup_spot, aside_folder}
use Rattle.move_plan.specs.Places.{IsKeeping}
use Rattle.move_plan.specs.Rules.{IsFree}
use Rattle.move_plan.specs.Tests.{lies_at, is_free_below, is_free_path, is_free, is_user_text, front_of, is_backup, is_keeping_below, is_keeping_path, is_keeping, is_above, lies_below}

never_true : {P : Type 0} → false ≡ true → P
never_true e = absurd (cc)

-- names that begin with others and go on
record GoesOn (names first : List (List ℕ)) : Type 0 where
  name : List ℕ
  rest : List (List ℕ)
  split : names ≡ first ++ name ∷ rest

longer : (first : List (List ℕ)) (name : List ℕ) (rest : List (List ℕ)) → length first < length (first ++ name ∷ rest)
longer first name rest = rw (length-append first (name ∷ rest)) (omega arith)

goes_on-Decides : (names first : List (List ℕ)) → Decides (starts_with bytes_eq names first && nat_lt (length first) (length names)) (GoesOn names first)
goes_on-Decides names first =
    Decides-like _ (λ h. into (drop (length first) names) (IsPrefix-from_test names first h.0) (lt h.1)) (λ (h : GoesOn names first). (test-from_prefix names first (h.name ∷ h.rest) h.split, gt (subst (λ l. length first < length l) (sym h.split) (longer first h.name h.rest))))
    (Decides-and _ _ (tested (starts_with bytes_eq names first)) (tested (nat_lt (length first) (length names))))
  where
    tested : (b : Bool) → Decides b (b ≡ true)
    tested b = (λ e. e, λ e. e)

    lt : nat_lt (length first) (length names) ≡ true → length first < length names
    lt e = grind (arith, nat_tests)

    gt : length first < length names → nat_lt (length first) (length names) ≡ true
    gt h = grind (arith, nat_tests)

    into : (tail : List (List ℕ)) → names ≡ first ++ tail → length first < length names → GoesOn names first
    into [] e h = let same : names ≡ first = e ∙ append-nil first in let n = ap length same in let no : ⊥ = omega arith in absurd no
    into (n ∷ ns) e h = record { name = n; rest = ns; split = e }

-- below

pub is_above-Decides : (root : Root) (path : List ℕ) (y : Place) → Decides (is_above root path y) (IsBelow (spot_of y) (record { root = root; names = names_of path }))
is_above-Decides root path y =
    Decides-like _
    (λ h. record { root = h.0; name = h.1.name; rest = h.1.rest; names = h.1.split })
    (λ (h : IsBelow (spot_of y) (record { root = root; names = names_of path })). (h.root, record { name = h.name; rest = h.rest; split = h.names }))
    (Decides-and _ _ (root_eq-Decides root y.root) (goes_on-Decides (names_of path) (names_below y.rel)))

not_below_nothing : (first : List (List ℕ)) (name : List ℕ) (rest : List (List ℕ)) → [] ≡ first ++ name ∷ rest → ⊥
not_below_nothing [] name rest e = let no : [] ≡ name ∷ rest = e in cc
not_below_nothing (n ∷ ns) name rest e = let no : [] ≡ n ∷ (ns ++ name ∷ rest) = e in cc

below_rel : (root : Root) (rel : Option (List ℕ)) (y : Place) → Decides (lies_below (record { root = root; rel = rel }) y) (IsBelow (spot_of y) (record { root = root; names = names_below rel }))
below_rel root None y = (λ e. never_true e, λ (h : IsBelow (spot_of y) (record { root = root; names = [] })). absurd (not_below_nothing (names_below y.rel) h.name h.rest h.names))
below_rel root (Some path) y = is_above-Decides root path y

pub lies_below-Decides : (x y : Place) → Decides (lies_below x y) (IsBelow (spot_of y) (spot_of x))
lies_below-Decides x y = below_rel x.root x.rel y

-- free

-- a place is a control place or lies below it
abbrev pub Bad : Control → Spot → Type 0
Bad which x = (x ≡ control_spot which) ⊎ IsBelow (control_spot which) x

lies_at-Decides : (which : Control) (path : List ℕ) → Decides (lies_at which path) (Bad which (record { root = control_root which; names = names_of path }))
lies_at-Decides which path = (λ e. into (drop (length first) names) (IsPrefix-from_test names first e), back)
  where
    first : List (List ℕ)
    first = names_of (control_path which)

    names : List (List ℕ)
    names = names_of path

    into : (tail : List (List ℕ)) → names_of path ≡ names_of (control_path which) ++ tail → Bad which (record { root = control_root which; names = names_of path })
    into [] e = inl (same_spot _ _ refl (e ∙ append-nil (names_of (control_path which))))
    into (n ∷ ns) e = inr (record { root = refl; name = n; rest = ns; names = e })

    back : Bad which (record { root = control_root which; names = names_of path }) → lies_at which path ≡ true
    back (inl e) = test-from_prefix (names_of path) (names_of (control_path which)) [] (ap (λ s. s.names) e ∙ sym (append-nil (names_of (control_path which))))
    back (inr b) = test-from_prefix (names_of path) (names_of (control_path which)) (b.name ∷ b.rest) b.names

other_root : (which : Control) (x : Spot) → (x.root ≡ control_root which → ⊥) → Bad which x → ⊥
other_root which x never (inl e) = never (ap (λ s. s.root) e)
other_root which x never (inr b) = never b.root

stage_game : Stage ≡ Game → ⊥
stage_game e = cc

stage_keep : Stage ≡ Keep → ⊥
stage_keep e = cc

game_keep : Game ≡ Keep → ⊥
game_keep e = cc

keep_game : Keep ≡ Game → ⊥
keep_game e = cc

free_from : (root : Root) (path : List ℕ) → ((which : Control) → Bad which (record { root = root; names = names_of path }) → ⊥) → IsFree (record { root = root; names = names_of path })
free_from root path h = record { not_root = not_nameless path; not_control = λ which e. h which (inl e); not_below = λ which b. h which (inr b) }

bad_from : (x : Spot) → IsFree x → (which : Control) → Bad which x → ⊥
bad_from x free which (inl e) = free.not_control which e
bad_from x free which (inr b) = free.not_below which b

in_stage : (path : List ℕ) (which : Control) → Bad which (record { root = Stage; names = names_of path }) → ⊥
in_stage path Manifest = other_root Manifest (record { root = Stage; names = names_of path }) stage_game
in_stage path Intent = other_root Intent (record { root = Stage; names = names_of path }) stage_keep
in_stage path IntentTemp = other_root IntentTemp (record { root = Stage; names = names_of path }) stage_keep
in_stage path ManifestTemp = other_root ManifestTemp (record { root = Stage; names = names_of path }) stage_keep
in_stage path ProfileTemp = other_root ProfileTemp (record { root = Stage; names = names_of path }) stage_keep
in_stage path Profile = other_root Profile (record { root = Stage; names = names_of path }) stage_keep

in_game : (path : List ℕ) → (Bad Manifest (record { root = Game; names = names_of path }) → ⊥) → (which : Control) → Bad which (record { root = Game; names = names_of path }) → ⊥
in_game path h Manifest = h
in_game path h Intent = other_root Intent (record { root = Game; names = names_of path }) game_keep
in_game path h IntentTemp = other_root IntentTemp (record { root = Game; names = names_of path }) game_keep
in_game path h ManifestTemp = other_root ManifestTemp (record { root = Game; names = names_of path }) game_keep
in_game path h ProfileTemp = other_root ProfileTemp (record { root = Game; names = names_of path }) game_keep
in_game path h Profile = other_root Profile (record { root = Game; names = names_of path }) game_keep

abbrev NotBad : List ℕ → Control → Type 0
NotBad path which = Bad which (record { root = Keep; names = names_of path }) → ⊥

in_keep : (path : List ℕ) → NotBad path Intent × (NotBad path IntentTemp × (NotBad path ManifestTemp × (NotBad path ProfileTemp × NotBad path Profile))) → (which : Control) → NotBad path which
in_keep path h Manifest = other_root Manifest (record { root = Keep; names = names_of path }) keep_game
in_keep path h Intent = h.0
in_keep path h IntentTemp = h.1.0
in_keep path h ManifestTemp = h.1.1.0
in_keep path h ProfileTemp = h.1.1.1.0
in_keep path h Profile = h.1.1.1.1

free_path : (root : Root) (path : List ℕ) → Decides (is_free_below root path) (IsFree (record { root = root; names = names_of path }))
free_path Stage path = (λ _. free_from Stage path (in_stage path), λ _. refl)
free_path Game path =
    Decides-like _ (λ h. free_from Game path (in_game path h)) (λ f. bad_from _ f Manifest)
    (Decides-not _ (lies_at-Decides Manifest path))
free_path Keep path =
    Decides-like _ (λ h. free_from Keep path (in_keep path h))
    (λ f. (bad_from _ f Intent, (bad_from _ f IntentTemp, (bad_from _ f ManifestTemp, (bad_from _ f ProfileTemp, bad_from _ f Profile)))))
    (Decides-and _ _ (Decides-not _ (lies_at-Decides Intent path)) (Decides-and _ _ (Decides-not _ (lies_at-Decides IntentTemp path)) (Decides-and _ _ (Decides-not _ (lies_at-Decides ManifestTemp path)) (Decides-and _ _ (Decides-not _ (lies_at-Decides ProfileTemp path)) (Decides-not _ (lies_at-Decides Profile path))))))

free_rel : (root : Root) (rel : Option (List ℕ)) → Decides (is_free_path root rel) (IsFree (record { root = root; names = names_below rel }))
free_rel root None = (λ e. never_true e, λ (h : IsFree (record { root = root; names = [] })). absurd (h.not_root refl))
free_rel root (Some path) = free_path root path

pub is_free-Decides : (p : Place) → Decides (is_free p) (IsFree (spot_of p))
is_free-Decides p = free_rel p.root p.rel

-- keeping

pub is_user_text-Decides : (text : List ℕ) → Decides (is_user_text text) (IsUserPath text)
is_user_text-Decides text = (λ e. fault-from_IsWithin user_limits text (within e), λ u. back (IsWithin-from_fault user_limits text u))
  where
    parts : (a b c d : Bool) → (a && b && c && d) ≡ true → (a ≡ true) × (b ≡ true) × (c ≡ true) × (d ≡ true)
    parts true true true d e = (refl, refl, refl, e)
    parts true true false d e = never_true e
    parts true false c d e = never_true e
    parts false b c d e = never_true e

    within : is_user_text text ≡ true → IsWithin user_limits text
    within e =
        let h = parts (not (length text == 0)) (nat_le (length text) 1024) (nat_le (length (names_of text)) 64) (list_all (is_name_within 240) (names_of text)) e in
        let a = h.0 in
        let b = h.1 in
        let c = h.2 in
        record { some = grind (arith, nat_tests); bytes = grind (arith, nat_tests); names = grind (arith, nat_tests); good = h.3 }

    back : IsWithin user_limits text → is_user_text text ≡ true
    back w =
        let some = w.some in
        let bytes = w.bytes in
        let names = w.names in
        let a : not (length text == 0) ≡ true = grind (arith, nat_tests) in
        let b : nat_le (length text) 1024 ≡ true = grind (arith, nat_tests) in
        let c : nat_le (length (names_of text)) 64 ≡ true = grind (arith, nat_tests) in
        λ i. a i && b i && c i && w.good i

-- what stands in front of the ending, and the ending
ends_with-split : (path : List ℕ) → ends_with nat_eq path backup_ending ≡ true → path ≡ front_of path ++ backup_ending
ends_with-split path e =
    let ending : backup_ending ≡ drop (length path - 14) path = (bytes_eq-Decides backup_ending (drop (length path - 14) path)).0 e in
    sym (take-append-drop (length path - 14) path) ∙ ap (λ t. front_of path ++ t) (sym ending)

backup_length : (q : List ℕ) → length (q ++ backup_ending) - 14 ≡ length q
backup_length q = let e = length-append q backup_ending in let f : length (q ++ backup_ending) ≡ length q + 14 = e in omega arith

front_of-backup : (q : List ℕ) → front_of (q ++ backup_ending) ≡ q
front_of-backup q = ap (λ n. take n (q ++ backup_ending)) (backup_length q) ∙ take-seam q backup_ending

ends_with-backup : (q : List ℕ) → ends_with nat_eq (q ++ backup_ending) backup_ending ≡ true
ends_with-backup q =
    (bytes_eq-Decides backup_ending (drop (length (q ++ backup_ending) - 14) (q ++ backup_ending))).1
    (sym (ap (λ n. drop n (q ++ backup_ending)) (backup_length q) ∙ drop-seam q backup_ending))

abbrev IsBackupSpot : Spot → Type 0
IsBackupSpot x = (path : List ℕ) × IsUserPath path × (x ≡ backup_spot path)

backup_path : (path : List ℕ) → Decides (is_backup path) (IsBackupSpot (record { root = Game; names = names_of path }))
backup_path path = (into, back)
  where
    both : (a b : Bool) → (a && b) ≡ true → (a ≡ true) × (b ≡ true)
    both true b e = (refl, e)
    both false b e = never_true e

    into : is_backup path ≡ true → IsBackupSpot (record { root = Game; names = names_of path })
    into e =
        let h = both (ends_with nat_eq path backup_ending) (is_user_text (front_of path)) e in
        (front_of path, (is_user_text-Decides (front_of path)).0 h.1, same_spot _ _ refl (ap names_of (ends_with-split path h.0) ∙ names_of-backup (front_of path)))

    back : IsBackupSpot (record { root = Game; names = names_of path }) → is_backup path ≡ true
    back h =
        let text : path ≡ h.0 ++ backup_ending = same_text path (h.0 ++ backup_ending) (ap (λ s. s.names) h.2 ∙ sym (names_of-backup h.0)) in
        subst (λ t. is_backup t ≡ true) (sym text)
        (λ i. ends_with-backup h.0 i && (ap is_user_text (front_of-backup h.0) ∙ (is_user_text-Decides h.0).1 h.1) i)

aside_word : List ℕ
aside_word = codes "aside"

aside_path : (path : List ℕ) → Decides (starts_with nat_eq path (codes "aside/")) (IsBelow aside_folder (record { root = Keep; names = names_of path }))
aside_path path = (into, back)
  where
    into : starts_with nat_eq path (codes "aside/") ≡ true → IsBelow aside_folder (record { root = Keep; names = names_of path })
    into e =
        let front : codes "aside/" ≡ take 6 path = (bytes_eq-Decides (codes "aside/") (take 6 path)).0 e in
        let text : path ≡ codes "aside" ++ 47 ∷ drop 6 path = sym (take-append-drop 6 path) ∙ ap (λ t. t ++ drop 6 path) (sym front) in
        let last = has_names (drop 6 path) in
        record {
          root = refl;
          name = last.0;
          rest = last.1;
          names = ap names_of text ∙ names_of-between (codes "aside") (drop 6 path) ∙ (λ i. names_of-name (codes "aside") refl i ++ last.2 i);
        }

    back : IsBelow aside_folder (record { root = Keep; names = names_of path }) → starts_with nat_eq path (codes "aside/") ≡ true
    back b =
        let text : path ≡ codes "aside" ++ 47 ∷ text_of (b.name ∷ b.rest) = sym (text_of-names_of path) ∙ ap text_of b.names ∙ text_of-append (codes "aside") [] b.name b.rest in
        subst (λ t. starts_with nat_eq t (codes "aside/") ≡ true) (sym text) refl

no_backup_root : (root : Root) (names : List (List ℕ)) → (root ≡ Game → ⊥) → IsBackupSpot (record { root = root; names = names }) → ⊥
no_backup_root root names never h = never (ap (λ s. s.root) h.2)

no_aside_root : (root : Root) (names : List (List ℕ)) → (root ≡ Keep → ⊥) → IsBelow aside_folder (record { root = root; names = names }) → ⊥
no_aside_root root names never b = never b.root

keeping_below : (root : Root) (path : List ℕ) → Decides (is_keeping_below root path) (IsKeeping (record { root = root; names = names_of path }))
keeping_below Stage path = (λ e. never_true e, back)
  where
    back : IsKeeping (record { root = Stage; names = names_of path }) → false ≡ true
    back (inl h) = absurd (no_backup_root Stage (names_of path) stage_game h)
    back (inr b) = absurd (no_aside_root Stage (names_of path) stage_keep b)
keeping_below Game path = Decides-like _ (λ h. inl h) back (backup_path path)
  where
    back : IsKeeping (record { root = Game; names = names_of path }) → IsBackupSpot (record { root = Game; names = names_of path })
    back (inl h) = h
    back (inr b) = absurd (no_aside_root Game (names_of path) game_keep b)
keeping_below Keep path = Decides-like _ (λ b. inr b) back (aside_path path)
  where
    back : IsKeeping (record { root = Keep; names = names_of path }) → IsBelow aside_folder (record { root = Keep; names = names_of path })
    back (inl h) = absurd (no_backup_root Keep (names_of path) keep_game h)
    back (inr b) = b

backup_some : (names : List (List ℕ)) → names ≢ [] → [] ≡ backup_names names → ⊥
backup_some [] some e = some refl
backup_some (n ∷ []) some e = let no : [] ≡ (n ++ backup_ending) ∷ [] = e in cc
backup_some (n ∷ m ∷ ns) some e = let no : [] ≡ n ∷ backup_names (m ∷ ns) = e in cc

keeping_rel : (root : Root) (rel : Option (List ℕ)) → Decides (is_keeping_path root rel) (IsKeeping (record { root = root; names = names_below rel }))
keeping_rel root None = (λ e. never_true e, back)
  where
    back : IsKeeping (record { root = root; names = [] }) → false ≡ true
    back (inl h) = absurd (backup_some (names_of h.0) (not_nameless h.0) (ap (λ s. s.names) h.2))
    back (inr b) = absurd (not_below_nothing (codes "aside" ∷ []) b.name b.rest b.names)
keeping_rel root (Some path) = keeping_below root path

pub is_keeping-Decides : (p : Place) → Decides (is_keeping p) (IsKeeping (spot_of p))
is_keeping-Decides p = keeping_rel p.root p.rel
