-- The first entry that fails a test, list by list.
use Rattle.std.proofs.Common.{◌≡◌, ℕ, ◌+◌, ◌<◌, Bool, true, false, cond, List, [], ◌∷◌, ◌++◌, map, get_or, refl, sym, ap, ◌∙◌}
use Rattle.std.specs.Prelude.{◌||◌, not, position, if◌then◌else◌}
use Rattle.std.specs.List.{AllByRecursion, position_from}
use Rattle.std.specs.Option.{option_or}
use Rattle.std.specs.declared.option.Option.{Option}
use Rattle.std.specs.declared.option.Option.TheVariants.{None, Some}
use Rattle.std.proofs.lemmas.Iterator.Adapters.{position_from-zero}
use Rattle.tree_fs.specs.declared.place.Place.{Place}
use Rattle.move_plan.specs.declared.plan.SetRow.{SetRow}
use Rattle.move_plan.specs.declared.plan.Plan.{Plan}
use Rattle.move_plan.specs.Entries.{Entry, folder, save, set, clear, off, key_of, Listed, listed, entries}
use Rattle.move_plan.specs.Rules.{Rule, Keeps, KeepsRule, IsFirstFault, number_of}
use Rattle.move_plan.specs.Tests.{none_or, is_before, is_behind, in_order_test, test_of, first_failing, first_of}
use Rattle.move_plan.specs.Rising.{first_out}
use Rattle.move_plan.proofs.Deciding.{test-Decides, all_kept, all_passed}
use Rattle.move_plan.proofs.Searching.{position-nowhere}
use Rattle.move_plan.proofs.Turned.{same_map}

first_failing-append : (t : Listed → Bool) (xs ys : List Listed) → first_failing t (xs ++ ys) ≡ option_or (first_failing t xs) (first_failing t ys)
first_failing-append t [] ys = refl
first_failing-append t (l ∷ ls) ys = by (t l) (first_failing-append t ls ys)
  where
    by : (b : Bool) → first_failing t (ls ++ ys) ≡ option_or (first_failing t ls) (first_failing t ys) → (if b then first_failing t (ls ++ ys) else Some l.index) ≡ option_or (if b then first_failing t ls else Some l.index) (first_failing t ys)
    by true rest = rest
    by false rest = refl

-- nothing fails after nothing
pub or-none : {A : Type 0} (o : Option A) → option_or o None ≡ o
or-none None = refl
or-none (Some x) = refl

pub or-nested : {A : Type 0} (a b c d e : Option A) → option_or (option_or (option_or (option_or a b) c) d) e ≡ option_or a (option_or b (option_or c (option_or d e)))
or-nested (Some x) b c d e = refl
or-nested None (Some x) c d e = refl
or-nested None None (Some x) d e = refl
or-nested None None None d e = refl

-- a chain of alternatives
pub or_chain : {A : Type 0} (r1 r2 r3 r4 a b c d e : Option A) → r1 ≡ option_or a b → r2 ≡ option_or r1 c → r3 ≡ option_or r2 d → r4 ≡ option_or r3 e → r4 ≡ option_or a (option_or b (option_or c (option_or d e)))
or_chain r1 r2 r3 r4 a b c d e one two three four =
    four ∙ (λ i. option_or ((three ∙ (λ j. option_or ((two ∙ (λ k. option_or (one k) c)) j) d)) i) e) ∙ or-nested a b c d e

pub or_chain_3 : {A : Type 0} (r1 r2 r3 a b c d : Option A) → r1 ≡ option_or a b → r2 ≡ option_or r1 c → r3 ≡ option_or r2 d → r3 ≡ option_or a (option_or b (option_or c d))
or_chain_3 {A = A} r1 r2 r3 a b c d one two three =
    three ∙ (λ j. option_or ((two ∙ (λ k. option_or (one k) c)) j) d) ∙ nested a b c d
  where
    nested : (a b c d : Option A) → option_or (option_or (option_or a b) c) d ≡ option_or a (option_or b (option_or c d))
    nested (Some x) b c d = refl
    nested None (Some x) c d = refl
    nested None None (Some x) d = refl
    nested None None None d = refl

module _ (t : Entry → Bool) where
  of_list : {A : Type 0} (to : A → Entry) (i : ℕ) (front : Option Place) (xs : List A) → first_failing (λ (l : Listed). t l.entry) (listed to i front xs) ≡ position_from (λ x. not (t (to x))) i xs
  of_list to i front [] = refl
  of_list to i front (x ∷ xs) = by (t (to x)) (of_list to (i + 1) (Some (key_of (to x))) xs)
    where
      by : (b : Bool) → first_failing (λ (l : Listed). t l.entry) (listed to (i + 1) (Some (key_of (to x))) xs) ≡ position_from (λ y. not (t (to y))) (i + 1) xs → (if b then first_failing (λ (l : Listed). t l.entry) (listed to (i + 1) (Some (key_of (to x))) xs) else Some i) ≡ cond (not b) (Some i) (position_from (λ y. not (t (to y))) (i + 1) xs)
      by true rest = rest
      by false rest = refl

  from_zero : {A : Type 0} (to : A → Entry) (xs : List A) → first_failing (λ (l : Listed). t l.entry) (listed to 0 None xs) ≡ position (λ x. not (t (to x))) xs
  from_zero to xs = of_list to 0 None xs ∙ sym (position_from-zero (λ x. not (t (to x))) xs)

  module _ (plan : Plan) where
    abbrev folders : Option ℕ
    folders = position (λ p. not (t (folder p))) plan.folders

    abbrev saves : Option ℕ
    saves = position (λ s. not (t (save s))) plan.saves

    abbrev sets : Option ℕ
    sets = position (λ row. not (t (set row))) plan.sets

    abbrev clears : Option ℕ
    clears = position (λ p. not (t (clear p))) plan.clears

    abbrev folders_off : Option ℕ
    folders_off = position (λ p. not (t (off p))) plan.folders_off

    pub of_entries : first_failing (λ (l : Listed). t l.entry) (entries plan) ≡ option_or folders (option_or saves (option_or sets (option_or clears folders_off)))
    of_entries =
        let T = λ (l : Listed). t l.entry in
        first_failing-append T (listed folder 0 None plan.folders) (listed save 0 None plan.saves ++ (listed set 0 None plan.sets ++ (listed clear 0 None plan.clears ++ listed off 0 None plan.folders_off)))
        ∙ (λ i. option_or (from_zero folder plan.folders i)
        ((first_failing-append T (listed save 0 None plan.saves) (listed set 0 None plan.sets ++ (listed clear 0 None plan.clears ++ listed off 0 None plan.folders_off))
        ∙ (λ j. option_or (from_zero save plan.saves j)
        ((first_failing-append T (listed set 0 None plan.sets) (listed clear 0 None plan.clears ++ listed off 0 None plan.folders_off)
        ∙ (λ k. option_or (from_zero set plan.sets k)
        ((first_failing-append T (listed clear 0 None plan.clears) (listed off 0 None plan.folders_off)
        ∙ (λ m. option_or (from_zero clear plan.clears m) (from_zero off plan.folders_off m))) k))) j))) i))

    pub quiet : {A : Type 0} (to : A → Entry) → ((x : A) → t (to x) ≡ true) → (xs : List A) → position (λ x. not (t (to x))) xs ≡ None
    quiet to all xs = position-nowhere (λ x. not (t (to x))) xs (λ k d h. ap not (all (get_or xs k d)))

    -- only entries of one list can fail
    pub of_sets : ((p : Place) → t (folder p) ≡ true) → ((s : Place × Place) → t (save s) ≡ true) → ((p : Place) → t (clear p) ≡ true) → ((p : Place) → t (off p) ≡ true) → first_failing (λ (l : Listed). t l.entry) (entries plan) ≡ sets
    of_sets f s c o =
        of_entries
        ∙ (λ i. option_or (quiet folder f plan.folders i) (option_or (quiet save s plan.saves i) (option_or sets (option_or (quiet clear c plan.clears i) (quiet off o plan.folders_off i)))))
        ∙ or-none sets

    pub of_saves : ((p : Place) → t (folder p) ≡ true) → ((row : SetRow) → t (set row) ≡ true) → ((p : Place) → t (clear p) ≡ true) → ((p : Place) → t (off p) ≡ true) → first_failing (λ (l : Listed). t l.entry) (entries plan) ≡ saves
    of_saves f r c o =
        of_entries
        ∙ (λ i. option_or (quiet folder f plan.folders i) (option_or saves (option_or (quiet set r plan.sets i) (option_or (quiet clear c plan.clears i) (quiet off o plan.folders_off i)))))
        ∙ or-none saves

    pub of_clears : ((p : Place) → t (folder p) ≡ true) → ((s : Place × Place) → t (save s) ≡ true) → ((row : SetRow) → t (set row) ≡ true) → ((p : Place) → t (off p) ≡ true) → first_failing (λ (l : Listed). t l.entry) (entries plan) ≡ clears
    of_clears f s r o =
        of_entries
        ∙ (λ i. option_or (quiet folder f plan.folders i) (option_or (quiet save s plan.saves i) (option_or (quiet set r plan.sets i) (option_or clears (quiet off o plan.folders_off i)))))
        ∙ or-none clears

    pub of_saves_and_clears : ((p : Place) → t (folder p) ≡ true) → ((row : SetRow) → t (set row) ≡ true) → ((p : Place) → t (off p) ≡ true) → first_failing (λ (l : Listed). t l.entry) (entries plan) ≡ option_or saves clears
    of_saves_and_clears f r o =
        of_entries
        ∙ (λ i. option_or (quiet folder f plan.folders i) (option_or saves (option_or (quiet set r plan.sets i) (option_or clears (quiet off o plan.folders_off i)))))
        ∙ ap (option_or saves) (or-none clears)

    pub of_all_but_clears : ((p : Place) → t (clear p) ≡ true) → first_failing (λ (l : Listed). t l.entry) (entries plan) ≡ option_or folders (option_or saves (option_or sets folders_off))
    of_all_but_clears c =
        of_entries ∙ (λ i. option_or folders (option_or saves (option_or sets (option_or (quiet clear c plan.clears i) folders_off))))

-- clears of a plan that moves none, or some
pub idle_clears : {X : Type 0} (b : Bool) (u : X → Bool) (xs : List X) → b ≡ false → position (λ p. not (not b || u p)) xs ≡ None
idle_clears b u xs e = position-nowhere (λ p. not (not b || u p)) xs (λ k d h. λ i. not (not (e i) || u (get_or xs k d)))

pub moved_clears : {X : Type 0} (b : Bool) (u : X → Bool) (xs : List X) → b ≡ true → position (λ p. not (u p)) xs ≡ position (λ p. not (not b || u p)) xs
moved_clears b u xs e = λ i. position (λ p. not (not (sym e i) || u p)) xs

-- the order of the lists

out_of_list : {A : Type 0} (to : A → Entry) (key : A → Place) (suits : Place → Place → Bool) → ((a : A) (front : Option Place) → in_order_test (to a) front ≡ none_or (λ q. suits q (key a)) front) → ((a : A) → key_of (to a) ≡ key a) → (i : ℕ) (front : Option Place) (xs : List A) → first_failing (λ (l : Listed). in_order_test l.entry l.front) (listed to i front xs) ≡ first_out suits i front (map key xs)
out_of_list to key suits test keys i front [] = refl
out_of_list to key suits test keys i front (x ∷ xs) =
    (λ j. if test x front j then first_failing (λ (l : Listed). in_order_test l.entry l.front) (listed to (i + 1) (Some (keys x j)) xs) else Some i)
    ∙ ap (λ o. if none_or (λ q. suits q (key x)) front then o else Some i) (out_of_list to key suits test keys (i + 1) (Some (key x)) xs)

pub out_of_entries : (plan : Plan) → first_failing (λ (l : Listed). in_order_test l.entry l.front) (entries plan)
    ≡ option_or (first_out is_before 0 None (map (λ p. p) plan.folders))
    (option_or (first_out is_before 0 None (map (λ (s : Place × Place). s.1) plan.saves))
    (option_or (first_out is_before 0 None (map (λ (row : SetRow). row.to) plan.sets))
    (option_or (first_out is_before 0 None (map (λ p. p) plan.clears)) (first_out is_behind 0 None plan.folders_off))))
out_of_entries plan =
    let T = λ (l : Listed). in_order_test l.entry l.front in
    first_failing-append T (listed folder 0 None plan.folders) (listed save 0 None plan.saves ++ (listed set 0 None plan.sets ++ (listed clear 0 None plan.clears ++ listed off 0 None plan.folders_off)))
    ∙ (λ i. option_or (out_of_list folder (λ p. p) is_before (λ a f. refl) (λ a. refl) 0 None plan.folders i)
    ((first_failing-append T (listed save 0 None plan.saves) (listed set 0 None plan.sets ++ (listed clear 0 None plan.clears ++ listed off 0 None plan.folders_off))
    ∙ (λ j. option_or (out_of_list save (λ s. s.1) is_before (λ a f. refl) (λ a. refl) 0 None plan.saves j)
    ((first_failing-append T (listed set 0 None plan.sets) (listed clear 0 None plan.clears ++ listed off 0 None plan.folders_off)
    ∙ (λ k. option_or (out_of_list set (λ row. row.to) is_before (λ a f. refl) (λ a. refl) 0 None plan.sets k)
    ((first_failing-append T (listed clear 0 None plan.clears) (listed off 0 None plan.folders_off)
    ∙ (λ m. option_or (out_of_list clear (λ p. p) is_before (λ a f. refl) (λ a. refl) 0 None plan.clears m)
    ((out_of_list off (λ p. p) is_behind (λ a f. refl) (λ a. refl) 0 None plan.folders_off ∙ ap (first_out is_behind 0 None) (same_map plan.folders_off)) m))) k))) j))) i))

-- what the first failing entry tells of the rule

-- the entries around the first that fails
pub record Fails (t : Listed → Bool) (ls : List Listed) (i : ℕ) : Type 0 where
  pub earlier : List Listed
  pub at : Listed
  pub later : List Listed
  pub split : ls ≡ earlier ++ at ∷ later
  pub passed : AllByRecursion (λ (l : Listed). t l ≡ true) earlier
  pub fails : t at ≡ false
  pub here : i ≡ at.index

fails_at : (t : Listed → Bool) (ls : List Listed) (i : ℕ) → first_failing t ls ≡ Some i → Fails t ls i
fails_at t [] i e = let no : None ≡ Some i = e in absurd (cc)
fails_at t (l ∷ ls) i e = by (t l) refl e (fails_at t ls i)
  where
    by : (b : Bool) → t l ≡ b → (if b then first_failing t ls else Some l.index) ≡ Some i → (first_failing t ls ≡ Some i → Fails t ls i) → Fails t (l ∷ ls) i
    by true is e later =
        let rest = later e in
        record { earlier = l ∷ rest.earlier; at = rest.at; later = rest.later; split = ap (λ k. l ∷ k) rest.split; passed = (is, rest.passed); fails = rest.fails; here = rest.here }
    by false is e later = record { earlier = []; at = l; later = ls; split = refl; passed = tt; fails = is; here = let same : Some l.index ≡ Some i = e in cc }

none_fails : (t : Listed → Bool) (ls : List Listed) → first_failing t ls ≡ None → AllByRecursion (λ (l : Listed). t l ≡ true) ls
none_fails t [] e = tt
none_fails t (l ∷ ls) e = by (t l) refl e (none_fails t ls)
  where
    by : (b : Bool) → t l ≡ b → (if b then first_failing t ls else Some l.index) ≡ None → (first_failing t ls ≡ None → AllByRecursion (λ (m : Listed). t m ≡ true) ls) → AllByRecursion (λ (m : Listed). t m ≡ true) (l ∷ ls)
    by true is e later = (is, later e)
    by false is e later = let wrong : Some l.index ≡ None = e in absurd (cc)

none_found : (t : Listed → Bool) (ls : List Listed) → AllByRecursion (λ (l : Listed). t l ≡ true) ls → first_failing t ls ≡ None
none_found t [] h = refl
none_found t (l ∷ ls) h = (λ i. if h.0 i then first_failing t ls else Some l.index) ∙ none_found t ls h.1

pub none-from_kept : (rule : Rule) (plan : Plan) → KeepsRule rule plan → first_of rule plan ≡ None
none-from_kept rule plan h = none_found (test_of rule plan) (entries plan) (all_passed plan rule (entries plan) h)

-- no entry fails a rule that is kept
pub kept-from_none : (rule : Rule) (plan : Plan) → first_of rule plan ≡ None → KeepsRule rule plan
kept-from_none rule plan e = all_kept plan rule (entries plan) (none_fails (test_of rule plan) (entries plan) e)

false_keeps : (rule : Rule) (plan : Plan) (l : Listed) → test_of rule plan l ≡ false → Keeps rule plan l → ⊥
false_keeps rule plan l e k = let t = (test-Decides plan rule l).1 k in cc

pub fault-from_first : (rule : Rule) (plan : Plan) (i : ℕ) → ((r : Rule) → number_of r < number_of rule → KeepsRule r plan) → first_of rule plan ≡ Some i → IsFirstFault plan (number_of rule) i
fault-from_first rule plan i before e =
    let f = fails_at (test_of rule plan) (entries plan) i e in
    record {
      rule = rule;
      its_number = refl;
      earlier_rules = before;
      earlier = f.earlier;
      at = f.at;
      later = f.later;
      split = f.split;
      kept = all_kept plan rule f.earlier f.passed;
      fails = false_keeps rule plan f.at f.fails;
      its_index = f.here;
    }
