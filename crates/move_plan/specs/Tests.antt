-- The nine rules as tests, which `check_plan` makes.
use Rattle.std.specs.Prelude.{ℕ, ◌-◌, Bool, true, false, not, ◌&&◌, ◌||◌, ◌==◌, nat_lt, List, [], ◌∷◌, ◌++◌, length, take, if◌then◌else◌, codes, nat_eq, nat_le}
use Rattle.std.specs.List.{list_any, list_all, starts_with, ends_with}
use Rattle.std.specs.Ordering.{nat_cmp, is_lt}
use Rattle.std.specs.Cmp.Lexicographic.{slice_cmp}
use Rattle.std.specs.Str.{bytes_eq}
use Rattle.std.specs.declared.option.Option.{Option}
use Rattle.std.specs.declared.option.Option.TheVariants.{None, Some}
use Rattle.rel_paths.specs.declared.control.Control.{Control}
use Rattle.rel_paths.specs.declared.control.Control.TheVariants.{Intent, IntentTemp, ManifestTemp, ProfileTemp, Profile, Manifest}
use Rattle.rel_paths.specs.Controls.{control_path}
use Rattle.rel_paths.specs.Names.{names_of, is_name_within, backup_ending}
use Rattle.tree_fs.specs.declared.place.Root.{Root}
use Rattle.tree_fs.specs.declared.place.Root.TheVariants.{Stage, Game, Keep}
use Rattle.tree_fs.specs.declared.place.Place.{Place}
use Rattle.tree_fs.specs.Spot.{root_eq, names_below}
use Rattle.tree_fs.specs.Texts.{place_text, root_word, rel_text}
use Rattle.move_plan.specs.declared.plan.SetRow.{SetRow}
use Rattle.move_plan.specs.declared.plan.Plan.{Plan}
use Rattle.move_plan.specs.Entries.{Entry, folder, save, set, clear, off, key_of, Listed, entries}
use Rattle.move_plan.specs.Rules.{Rule, in_order, avoids_controls, source_stays, save_stays, keeping, clear_is_used, save_is_back, back_stays, apart}

-- whether there is no value, or it passes
abbrev pub none_or : {A : Type 0} → (A → Bool) → Option A → Bool
none_or t None = true
none_or t (Some x) = t x

-- whether there is a value that passes
abbrev pub some_and : {A : Type 0} → (A → Bool) → Option A → Bool
some_and t None = false
some_and t (Some x) = t x

-- whether the place has this text
abbrev pub has_text : List ℕ → Place → Bool
has_text text p = bytes_eq (place_text p) text

-- the text of a place by its root and its path
abbrev pub text_at : Root → Option (List ℕ) → List ℕ
text_at root path = root_word root ++ rel_text path

abbrev pub is_before : Place → Place → Bool
is_before p q = is_lt (slice_cmp nat_cmp (place_text p) (place_text q))

abbrev pub is_behind : Place → Place → Bool
is_behind p q = is_before q p

abbrev pub in_order_test : Entry → Option Place → Bool
in_order_test (off p) front = none_or (λ q. is_behind q p) front
in_order_test entry front = none_or (λ q. is_before q (key_of entry)) front

-- whether a path is that of a control place, or lies below it
abbrev pub lies_at : Control → List ℕ → Bool
lies_at which path = starts_with bytes_eq (names_of path) (names_of (control_path which))

abbrev pub is_free_below : Root → List ℕ → Bool
is_free_below Stage path = true
is_free_below Game path = not (lies_at Manifest path)
is_free_below Keep path =
    not (lies_at Intent path) && (not (lies_at IntentTemp path) && (not (lies_at ManifestTemp path)
    && (not (lies_at ProfileTemp path) && not (lies_at Profile path))))

abbrev pub is_free_path : Root → Option (List ℕ) → Bool
is_free_path root None = false
is_free_path root (Some path) = is_free_below root path

abbrev pub is_free : Place → Bool
is_free p = is_free_path p.root p.rel

abbrev pub avoids_controls_test : Entry → Bool
avoids_controls_test (save s) = is_free s.0 && is_free s.1
avoids_controls_test (set row) = is_free row.to && (none_or is_free row.from && none_or is_free row.back)
avoids_controls_test entry = is_free (key_of entry)

-- whether one of the items has its key here
abbrev pub has_key : {A : Type 0} → (A → Place) → List A → Place → Bool
has_key key items p = list_any (λ x. has_text (place_text p) (key x)) items

-- whether one of the items has its key here, and passes
abbrev pub key_passes : {A : Type 0} → (A → Place) → (A → Bool) → List A → Place → Bool
key_passes key t items p = list_any (λ x. has_text (place_text p) (key x) && t x) items

abbrev pub is_set_to : Plan → Place → Bool
is_set_to plan p = has_key (λ (row : SetRow). row.to) plan.sets p

abbrev pub is_save_to : Plan → Place → Bool
is_save_to plan p = has_key (λ (s : Place × Place). s.1) plan.saves p

-- whether the place is the set's source
abbrev pub is_from : Place → SetRow → Bool
is_from p row = some_and (λ from. has_text (place_text from) p) row.from

-- whether one of the sets has its source here
abbrev pub is_source : List SetRow → Place → Bool
is_source sets p = list_any (is_from p) sets

abbrev pub source_stays_test : Plan → Entry → Bool
source_stays_test plan (set row) = none_or (λ p. not (is_set_to plan p)) row.from
source_stays_test plan _ = true

abbrev pub save_stays_test : Plan → Entry → Bool
save_stays_test plan (save s) = not (is_set_to plan s.1 || is_source plan.sets s.1)
save_stays_test plan _ = true

-- whether a text is that of a user path
abbrev pub is_user_text : List ℕ → Bool
is_user_text text =
    not (length text == 0) && nat_le (length text) 1024 && nat_le (length (names_of text)) 64
    && list_all (is_name_within 240) (names_of text)

-- what stands in front of a backup's ending
abbrev pub front_of : List ℕ → List ℕ
front_of path = take (length path - 14) path

abbrev pub is_backup : List ℕ → Bool
is_backup path = ends_with nat_eq path backup_ending && is_user_text (front_of path)

abbrev pub is_keeping_below : Root → List ℕ → Bool
is_keeping_below Stage path = false
is_keeping_below Game path = is_backup path
is_keeping_below Keep path = starts_with nat_eq path (codes "aside/")

abbrev pub is_keeping_path : Root → Option (List ℕ) → Bool
is_keeping_path root None = false
is_keeping_path root (Some path) = is_keeping_below root path

abbrev pub is_keeping : Place → Bool
is_keeping p = is_keeping_path p.root p.rel

abbrev pub keeping_test : Plan → Entry → Bool
keeping_test plan (save s) = is_keeping s.1
keeping_test plan (clear p) = not (is_set_to plan p) && is_keeping p
keeping_test plan _ = true

abbrev pub moves_some : Plan → Bool
moves_some plan = not (length plan.saves == 0) || not (length plan.sets == 0)

abbrev pub clear_is_used_test : Plan → Entry → Bool
clear_is_used_test plan (clear p) = not (moves_some plan) || (is_source plan.sets p || is_save_to plan p)
clear_is_used_test plan _ = true

-- whether the place is the set's `back`
abbrev pub is_back_of : Place → SetRow → Bool
is_back_of p row = some_and (has_text (place_text p)) row.back

abbrev pub save_is_back_test : Plan → Entry → Bool
save_is_back_test plan (save s) = key_passes (λ (row : SetRow). row.to) (is_back_of s.1) plan.sets s.0
save_is_back_test plan _ = true

-- whether the file of this place is saved there
abbrev pub is_saved : Plan → Place → Place → Bool
is_saved plan from to = key_passes (λ (s : Place × Place). s.1) (λ s. has_text (place_text from) s.0) plan.saves to

-- whether a file may stay at a place while the destination is set
abbrev pub may_stay : Plan → Place → Place → Bool
may_stay plan to back = is_saved plan to back || (root_eq back.root Stage && not (is_set_to plan back))

abbrev pub back_stays_test : Plan → Entry → Bool
back_stays_test plan (set row) = none_or (may_stay plan row.to) row.back
back_stays_test plan _ = true

-- whether the place at a root and a path lies below y
abbrev pub is_above : Root → List ℕ → Place → Bool
is_above root path y =
    root_eq root y.root && (starts_with bytes_eq (names_of path) (names_below y.rel)
    && nat_lt (length (names_below y.rel)) (length (names_of path)))

-- whether x lies below y
abbrev pub lies_below : Place → Place → Bool
lies_below x y = some_and (λ path. is_above x.root path y) x.rel

-- whether the place lies below the key of one of the items
abbrev pub below_some : {A : Type 0} → (A → Place) → List A → Place → Bool
below_some key items p = list_any (λ x. lies_below p (key x)) items

abbrev pub lies_apart : Plan → Place → Bool
lies_apart plan p =
    not (below_some (λ (row : SetRow). row.to) plan.sets p)
    && not (below_some (λ (s : Place × Place). s.1) plan.saves p)

abbrev pub apart_test : Plan → Entry → Bool
apart_test plan (folder p) =
    not (is_set_to plan p) && (not (is_save_to plan p) && not (has_key (λ q. q) plan.clears p))
apart_test plan (save s) = lies_apart plan s.1
apart_test plan (set row) = lies_apart plan row.to
apart_test plan (clear p) = true
apart_test plan (off p) = root_eq p.root Game

-- the test of a rule
abbrev pub test_of : Rule → Plan → Listed → Bool
test_of in_order plan l = in_order_test l.entry l.front
test_of avoids_controls plan l = avoids_controls_test l.entry
test_of source_stays plan l = source_stays_test plan l.entry
test_of save_stays plan l = save_stays_test plan l.entry
test_of keeping plan l = keeping_test plan l.entry
test_of clear_is_used plan l = clear_is_used_test plan l.entry
test_of save_is_back plan l = save_is_back_test plan l.entry
test_of back_stays plan l = back_stays_test plan l.entry
test_of apart plan l = apart_test plan l.entry

-- the index of the first entry that fails a test
abbrev pub first_failing : (Listed → Bool) → List Listed → Option ℕ
first_failing t [] = None
first_failing t (l ∷ ls) = if t l then first_failing t ls else Some l.index

-- the index of the first entry that fails the rule
abbrev pub first_of : Rule → Plan → Option ℕ
first_of rule plan = first_failing (test_of rule plan) (entries plan)

-- the rule of a number, from 1 to 9
abbrev pub rule_named : ℕ → Rule
rule_named n =
    if n == 1 then in_order
    else (if n == 2 then avoids_controls
    else (if n == 3 then source_stays
    else (if n == 4 then save_stays
    else (if n == 5 then keeping
    else (if n == 6 then clear_is_used
    else (if n == 7 then save_is_back
    else (if n == 8 then back_stays
    else apart)))))))

-- whether each entry passes the rule
abbrev pub keeps : Rule → Plan → Bool
keeps rule plan = list_all (test_of rule plan) (entries plan)

-- whether the plan passes the nine rules
unfoldable pub passes : Plan → Bool
passes plan =
    keeps in_order plan
    && (keeps avoids_controls plan
    && (keeps source_stays plan
    && (keeps save_stays plan
    && (keeps keeping plan
    && (keeps clear_is_used plan
    && (keeps save_is_back plan
    && (keeps back_stays plan
    && keeps apart plan)))))))
