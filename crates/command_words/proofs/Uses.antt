-- A command with options and a flag.
use Rattle.std.proofs.Common.{◌≡◌, ◌∙◌, ◌⊎◌, inl, inr, sym, ap, ap₂, subst, drop, refl, true, false, true≢false, Bool, cond, List, [], ◌∷◌, ◌++◌, map, codes, Option, Some, None, ℕ, append-nil}
use Rattle.std.proofs.lemmas.Bool.{or_parts}
use Rattle.std.proofs.lemmas.List.{map-append}
use Rattle.std.proofs.lemmas.List.Elements.{All-head, All-tail}
use Rattle.std.proofs.lemmas.Slice.Eq.{bytes_eq-Decides}
use Rattle.std.specs.List.{All, AllByRecursion, fold}
use Rattle.std.specs.Str.{bytes_eq, chars, IsUtf8}
use Rattle.std.specs.Prelude.{slice_get, option_map, option_and_then, unwrap_or, ◌||◌}
use Rattle.clap.specs.Lexer.{long_of, short_of}
use Rattle.clap.specs.Walk.{Held, Waiting, Walk, Row, Rule, Text, arg_by_id, arg_by_long, at_row, first_of, has_row, idle, more_values, nothing_held, option, rows_of, settled_rows, used, walk_from, walked, with_default, with_values, without}
use Rattle.clap.specs.Simple.{HasMatchesOf, Shape, built, filled}
use Rattle.clap.specs.Faults.{default_fault, defaults_fault, fault_of, flags_fault, given_default_fault, is_simple_and_free, long_fault, other_fault, settle_fault, turn_fault, use_fault}
use Rattle.clap.specs.declared.builder.value_parser.Reading.TheVariants.{AsWritten}
use Rattle.clap.specs.declared.parser.matches.ValueSource.TheVariants.{CommandLine, DefaultValue}
use Rattle.clap.specs.Kinds.{Kinds, IsAmong, or_else}
use Rattle.clap.specs.Matches.{found_of}
use Rattle.clap.specs.declared.parser.matches.ArgMatches.{ArgMatches}
use Rattle.clap.specs.declared.error.kind.ErrorKind.{ErrorKind}
use Rattle.clap.proofs.WalkLemmas.{first_value-rows, list_any-map}
use Rattle.clap.proofs.FaultLemmas.{leaf_fault}
use Rattle.clap.proofs.OnLiterals.{clap_on_literals}
use Rattle.list_laws.proofs.Alls.{all_item, all-from_none}
use Rattle.list_laws.proofs.Containing.{contains-from_any_one}
use Rattle.command_words.proofs.Look.{Look, look, end, long, short, plain}
use Rattle.command_words.proofs.Verdict.{no_kinds, or_else-more, some_kind, Meets, pass, fail, verdict}
use Rattle.command_words.specs.Apps.{GivesUses, flag_rule, option_rule, settle_app}
use Rattle.command_words.specs.Options.{Uses, flag_name, has_use, is_flag, is_option, name_in, after_name, option_names, options, uses_from, value_in, value_of}
use Rattle.command_words.specs.Words.{is_end}

abbrev opt : Text → Rule
opt n = filled (option_rule n)

abbrev flag : Rule
flag = filled flag_rule

abbrev top : Text → Shape
top name = (built (settle_app name)).top

abbrev rules : List Rule
rules = (top []).rules

pub is_free : (name : Text) → is_simple_and_free (settle_app name) ≡ true
unfolding clap_on_literals
is_free name = refl

-- ---- the rule of a name

abbrev IsOpt : Text → Type 0
IsOpt n = (arg_by_long rules n ≡ Some (opt n)) × (arg_by_id rules n ≡ Some (opt n)) × (bytes_eq flag_name n ≡ false)

option_found : (n : Text) → is_option n ≡ true → IsOpt n
option_found n e =
    all_item IsOpt option_names n ((refl, refl, refl), ((refl, refl, refl), ((refl, refl, refl), ((refl, refl, refl), ((refl, refl, refl), tt)))))
    (contains-from_any_one (λ m. bytes_eq m n) option_names n (λ m. (bytes_eq-Decides m n).0) e)

flag_found : (n : Text) → is_flag n ≡ true → arg_by_long rules n ≡ Some flag
flag_found n e = subst (λ m. arg_by_long rules m ≡ Some flag) ((bytes_eq-Decides flag_name n).0 e) refl

none_found : (n : Text) → is_option n ≡ false → is_flag n ≡ false → arg_by_long rules n ≡ None
none_found n e f =
    let m = all-from_none (λ m. bytes_eq m n) option_names e in
    rw (m.0, m.1.0, m.1.1.0, m.1.1.1.0, m.1.1.1.1.0, f) refl

-- ---- rows

abbrev row_of_use : Text × Text → Row
row_of_use u = record { id = u.0; values = u.1 ∷ []; count = None; source = Some CommandLine; reading = AsWritten }

abbrev rows_for : Uses → List Row
rows_for = map row_of_use

has_row-uses : (n : Text) (u : Uses) → has_row n (rows_for u) ≡ has_use n u
has_row-uses n u = sym (list_any-map (λ (r : Row). bytes_eq r.id n) row_of_use u)

at_row-missing : (n : Text) (change : Row → List Row) (new : List Row) (rows : List Row) → has_row n rows ≡ false → at_row n change new rows ≡ rows ++ new
at_row-missing n change new [] e = refl
at_row-missing n change new (r ∷ rs) e =
    let p = or_parts (bytes_eq r.id n) (has_row n rs) e in
    rw p.0 (ap (λ xs. r ∷ xs) (at_row-missing n change new rs p.1))

added : (n v : Text) (rows : List Row) → has_row n rows ≡ false → with_values n AsWritten CommandLine (v ∷ []) (without n rows) ≡ rows ++ row_of_use (n, v) ∷ []
added n v rows e =
    ap (λ rs. with_values n AsWritten CommandLine (v ∷ []) rs) (at_row-missing n (λ _. []) [] rows e ∙ append-nil rows)
    ∙ at_row-missing n (more_values CommandLine (v ∷ [])) (row_of_use (n, v) ∷ []) rows e

added-uses : (n v : Text) (u : Uses) → has_use n u ≡ false → with_values n AsWritten CommandLine (v ∷ []) (without n (rows_for u)) ≡ rows_for (u ++ (n, v) ∷ [])
added-uses n v u e = added n v (rows_for u) (has_row-uses n u ∙ e) ∙ sym (map-append row_of_use u ((n, v) ∷ []))

-- ---- one use

option_use : (n v : Text) (rows : List Row) → has_row n rows ≡ false → use_fault false (opt n) (v ∷ []) rows ≡ []
option_use n v rows e = rw e refl

option_twice : (n v : Text) (rows : List Row) → has_row n rows ≡ true → no_kinds (use_fault false (opt n) (v ∷ []) rows) ≡ false
option_twice n v rows e = rw e refl

flag_use : (rows : List Row) → has_row flag_name rows ≡ false → use_fault false flag [] rows ≡ []
flag_use rows e = rw e refl

flag_twice : (rows : List Row) → has_row flag_name rows ≡ true → no_kinds (use_fault false flag [] rows) ≡ false
flag_twice rows e = rw e refl

-- ---- what is held

abbrev Pending : Type 0
Pending = Option (Text × List Text)

abbrev held : List Row → Pending → Held
held rows p = record { rows = rows; pending = p; skip = 0 }

-- what is held comes to these uses, and fails in nothing
record Clean (rows : List Row) (p : Pending) (u : Uses) : Type 0 where
  passes : settle_fault rules false (held rows p) ≡ []
  are : settled_rows rules p rows ≡ rows_for u

clean : (u : Uses) → Clean (rows_for u) None u
clean u = record { passes = refl; are = refl }

abbrev IsBad : List Row → Pending → Type 0
IsBad rows p = no_kinds (settle_fault rules false (held rows p)) ≡ false

ready : (n v : Text) (u : Uses) → is_option n ≡ true → has_use n u ≡ false → Clean (rows_for u) (Some (n, v ∷ [])) (u ++ (n, v) ∷ [])
ready n v u o e =
    let f = option_found n o in record {
      passes = rw f.1 (option_use n v (rows_for u) (has_row-uses n u ∙ e));
      are = rw f.1 (added-uses n v u e);
    }

twice : (n v : Text) (u : Uses) → is_option n ≡ true → has_use n u ≡ true → IsBad (rows_for u) (Some (n, v ∷ []))
twice n v u o e = let f = option_found n o in rw f.1 (option_twice n v (rows_for u) (has_row-uses n u ∙ e))

wants_bad : (n : Text) (rows : List Row) → is_option n ≡ true → IsBad rows (Some (n, []))
wants_bad n rows o = let f = option_found n o in rw f.1 refl

-- ---- the end of the words

abbrev final : Uses → List Row
final u = fold with_default (rows_for u) rules

no_default : (a : Rule) (rows : List Row) → given_default_fault a a.defaults ≡ [] → default_fault rows a ≡ []
no_default a rows h = go _
  where
    go : (b : Bool) → cond b [] (given_default_fault a a.defaults) ≡ []
    go true = refl
    go false = h

no_defaults : (rs : List Rule) (rows : List Row) → AllByRecursion (λ a. given_default_fault a a.defaults ≡ []) rs → defaults_fault rows rs ≡ []
unfolding defaults_fault
no_defaults [] rows h = refl
no_defaults (a ∷ rs) rows h = ap₂ or_else (no_default a rows h.0) (no_defaults rs (with_default rows a) h.1)

abbrev walk_with : Bool → Waiting → Held → Walk
walk_with t waiting h = record { held = h; waiting = waiting; position = 1; is_trailing = t; stopped = None }

module _ (name : Text) where
  ends : (t : Bool) (waiting : Waiting) (rows : List Row) (p : Pending) (u : Uses) → Clean rows p u → Meets (top name) (Some (final u)) (walk_with t waiting (held rows p)) []
  unfolding clap_on_literals
  ends t waiting rows p u c = (
    ap (λ (k : Kinds). or_else k (or_else (defaults_fault (settled_rows rules p rows) rules) [])) c.passes
        ∙ ap (λ (k : Kinds). or_else k []) (no_defaults rules (settled_rows rules p rows) (refl, (refl, (refl, (refl, (refl, (refl, tt))))))),
    ap (λ rs. fold with_default rs rules) c.are,
  )

  bad_ends : (t : Bool) (waiting : Waiting) (rows : List Row) (p : Pending) → IsBad rows p → Meets (top name) None (walk_with t waiting (held rows p)) []
  unfolding clap_on_literals
  bad_ends t waiting rows p b = or_else-more _ _ b

  -- a word after `--`, which no positional takes
  stray : (waiting : Waiting) (h : Held) (w : Text) (ws : List Text) → Meets (top name) None (walk_with true waiting h) (w ∷ ws)
  stray waiting h w ws = fail (top name) (walk_with true waiting h) w ws refl

  trailing_bad : (waiting : Waiting) (rows : List Row) (p : Pending) (ws : List Text) → IsBad rows p → Meets (top name) None (walk_with true waiting (held rows p)) ws
  trailing_bad waiting rows p [] b = bad_ends true waiting rows p b
  trailing_bad waiting rows p (w ∷ ws) b = stray waiting (held rows p) w ws

  -- ---- what a word does

  end_turn : (h : Held) (w : Text) → is_end w ≡ true → turn_fault (top name) [] (walk_with false idle h) w ≡ []
  end_turn h w e = rw e refl

  end_walk : (h : Held) (w : Text) → is_end w ≡ true → walked rules [] (walk_with false idle h) w ≡ walk_with true idle h
  unfolding walked
  end_walk h w e = rw e refl

  end_turn_waiting : (n : Text) (h : Held) (w : Text) → is_end w ≡ true → turn_fault (top name) [] (walk_with false (option n) h) w ≡ []
  end_turn_waiting n h w e = rw e refl

  end_walk_waiting : (n : Text) (h : Held) (w : Text) → is_end w ≡ true → walked rules [] (walk_with false (option n) h) w ≡ walk_with true (option n) h
  unfolding walked
  end_walk_waiting n h w e = rw e refl

  -- a word that is refused before it reaches a positional
  refused_at : (waiting : Waiting) (h : Held) (w : Text) (ws : List Text) → (waiting ≡ idle) ⊎ ((n : Text) × (waiting ≡ option n))
      → no_kinds (other_fault (top name) None w h) ≡ false → Meets (top name) None (walk_with false waiting h) (w ∷ ws)
  refused_at waiting h w ws (inl is) b = subst (λ v. Meets (top name) None (walk_with false v h) (w ∷ ws)) (sym is) (fail (top name) (walk_with false idle h) w ws (or_else-more _ _ b))
  refused_at waiting h w ws (inr is) b = subst (λ v. Meets (top name) None (walk_with false v h) (w ∷ ws)) (sym is.1) (fail (top name) (walk_with false (option is.0) h) w ws (or_else-more _ _ b))

  short_refused : (rows : List Row) (p : Pending) (w : Text) (b : ℕ) (bs : Text) (c : ℕ) → is_end w ≡ false → long_of w ≡ None → short_of w ≡ Some (b ∷ bs)
      → slice_get (chars (b ∷ bs)) 0 ≡ Some c → no_kinds (other_fault (top name) None w (held rows p)) ≡ false
  unfolding flags_fault
  short_refused rows p w b bs c e l is at = rw (e, l, is, at) refl

  long_is : (rows : List Row) (p : Pending) (w n : Text) (v : Option Text) (o : Option Rule) → is_end w ≡ false → long_of w ≡ Some (n, v) → arg_by_long rules n ≡ o
      → other_fault (top name) None w (held rows p) ≡ long_fault rules false o v (held rows p)
  long_is rows p w n v o e is found = rw (e, is, found) refl

  long_bad : (rows : List Row) (p : Pending) (w n : Text) (v : Option Text) → is_end w ≡ false → long_of w ≡ Some (n, v) → IsBad rows p
      → no_kinds (other_fault (top name) None w (held rows p)) ≡ false
  long_bad rows p w n v e is b = go (is_option n) refl (is_flag n) refl v is
    where
      go : (o : Bool) → is_option n ≡ o → (f : Bool) → is_flag n ≡ f → (v : Option Text) → long_of w ≡ Some (n, v) → no_kinds (other_fault (top name) None w (held rows p)) ≡ false
      go true o f g (Some x) is = ap no_kinds (long_is rows p w n (Some x) _ e is (option_found n o).0) ∙ or_else-more _ _ b
      go true o f g None is = ap no_kinds (long_is rows p w n None _ e is (option_found n o).0) ∙ b
      go false o true g (Some x) is = ap no_kinds (long_is rows p w n (Some x) _ e is (flag_found n g))
      go false o true g None is = ap no_kinds (long_is rows p w n None _ e is (flag_found n g)) ∙ or_else-more _ _ b
      go false o false g v is = ap no_kinds (long_is rows p w n v _ e is (none_found n o g))

  plain_refused : (h : Held) (w : Text) (ws : List Text) → is_end w ≡ false → long_of w ≡ None → short_of w ≡ None → Meets (top name) None (walk_with false idle h) (w ∷ ws)
  plain_refused h w ws e l s = fail (top name) (walk_with false idle h) w ws (rw (e, l, s) refl)

  -- from a value on that is a second one of its option, each way on fails
  bad : (ws : List Text) (rows : List Row) (p : Pending) → IsBad rows p → All IsUtf8 ws → Meets (top name) None (walk_with false idle (held rows p)) ws
  bad [] rows p b utf8 = bad_ends false idle rows p b
  bad (w ∷ ws) rows p b utf8 = go (look w (All-head IsUtf8 w ws utf8))
    where
      go : Look w → Meets (top name) None (walk_with false idle (held rows p)) (w ∷ ws)
      go (end e d) = pass (top name) None _ (walk_with true idle (held rows p)) w ws (end_turn _ w e) (end_walk _ w e) (trailing_bad idle rows p ws b)
      go (long x xs e d l a) = refused_at idle _ w ws (inl refl) (long_bad rows p w _ _ e l b)
      go (short x xs c e d l s f a) = refused_at idle _ w ws (inl refl) (short_refused rows p w x xs c e l s f)
      go (plain e d l s a) = plain_refused (held rows p) w ws e l s

  -- ---- an option, a flag, a value

  -- where a word stands: nothing waits, or this option waits for its value
  data State : Type 0 where
    at : (rows : List Row) (p : Pending) (u : Uses) → Clean rows p u → State
    wants : (n : Text) (u : Uses) → is_option n ≡ true → State

  abbrev form_of : State → List Text → Option Uses
  form_of (at rows p u c) ws = uses_from None u ws
  form_of (wants n u o) ws = uses_from (Some n) u ws

  abbrev walk_of : State → Walk
  walk_of (at rows p u c) = walk_with false idle (held rows p)
  walk_of (wants n u o) = walk_with false (option n) (held (rows_for u) (Some (n, [])))

  abbrev Reads : State → List Text → Type 0
  Reads s ws = Meets (top name) (option_map final (form_of s ws)) (walk_of s) ws

  module _ (rows : List Row) (p : Pending) (u : Uses) (c : Clean rows p u) (w n : Text) (e : is_end w ≡ false) where
    option_turn : (v : Text) → long_of w ≡ Some (n, Some v) → is_option n ≡ true → turn_fault (top name) [] (walk_with false idle (held rows p)) w
        ≡ or_else (or_else (settle_fault rules false (held rows p)) (use_fault false (opt n) (v ∷ []) (settled_rows rules p rows))) []
    option_turn v is o = let f = option_found n o in rw (e, is, f.0) refl

    option_walk : (v : Text) → long_of w ≡ Some (n, Some v) → is_option n ≡ true
        → walked rules [] (walk_with false idle (held rows p)) w ≡ walk_with false idle (held (used (opt n) (v ∷ []) (settled_rows rules p rows)) None)
    unfolding walked
    option_walk v is o = let f = option_found n o in rw (e, is, f.0) refl

    wants_turn : long_of w ≡ Some (n, None) → is_option n ≡ true → turn_fault (top name) [] (walk_with false idle (held rows p)) w ≡ or_else (settle_fault rules false (held rows p)) []
    wants_turn is o = let f = option_found n o in rw (e, is, f.0) refl

    wants_walk : long_of w ≡ Some (n, None) → is_option n ≡ true
        → walked rules [] (walk_with false idle (held rows p)) w ≡ walk_with false (option n) (held (settled_rows rules p rows) (Some (n, [])))
    unfolding walked
    wants_walk is o = let f = option_found n o in rw (e, is, f.0) refl

    flag_turn : long_of w ≡ Some (n, None) → is_flag n ≡ true → turn_fault (top name) [] (walk_with false idle (held rows p)) w
        ≡ or_else (or_else (settle_fault rules false (held rows p)) (use_fault false flag [] (settled_rows rules p rows))) []
    flag_turn is o = rw (e, is, flag_found n o) refl

    flag_walk : long_of w ≡ Some (n, None) → is_flag n ≡ true
        → walked rules [] (walk_with false idle (held rows p)) w ≡ walk_with false idle (held (used flag [] (settled_rows rules p rows)) None)
    unfolding walked
    flag_walk is o = rw (e, is, flag_found n o) refl

    -- ---- `--name=value`, `--name` and `--flag` where nothing waits

    abbrev Goal : Text → Option Text → List Text → Type 0
    Goal m v ws = Meets (top name) (option_map final (option_and_then (λ s. uses_from s.0 s.1 ws) (after_name m v u))) (walk_with false idle (held rows p)) (w ∷ ws)

    step_value : (ws : List Text) (v : Text) → long_of w ≡ Some (n, Some v) → is_option n ≡ true → ((s : State) → Reads s ws) → Goal n (Some v) ws
    step_value ws v is o rest = go (has_use n u) refl
      where
        go : (b : Bool) → has_use n u ≡ b → Goal n (Some v) ws
        go true h =
            rw (o, h)
            (fail (top name) (walk_with false idle (held rows p)) w ws
            (ap no_kinds (option_turn v is o ∙ ap (λ (k : Kinds). or_else (or_else k (use_fault false (opt n) (v ∷ []) (settled_rows rules p rows))) []) c.passes)
            ∙ or_else-more _ [] (option_twice n v _ (ap (has_row n) c.are ∙ (has_row-uses n u ∙ h)))))
        go false h =
            let more = u ++ (n, v) ∷ [] in
            rw (o, h)
            (pass (top name) (option_map final (uses_from None more ws)) (walk_with false idle (held rows p)) (walk_with false idle (held (rows_for more) None)) w ws
            (option_turn v is o ∙ ap (λ (k : Kinds). or_else k []) (ap₂ or_else c.passes (option_use n v _ (ap (has_row n) c.are ∙ (has_row-uses n u ∙ h)))))
            (option_walk v is o ∙ ap (λ rs. walk_with false idle (held rs None)) (ap (λ rs. with_values n AsWritten CommandLine (v ∷ []) (without n rs)) c.are ∙ added-uses n v u h))
            (rest (at (rows_for more) None more (clean more))))

    step_wants : (ws : List Text) → long_of w ≡ Some (n, None) → is_option n ≡ true → ((s : State) → Reads s ws) → Goal n None ws
    step_wants ws is o rest =
        rw o
        (pass (top name) (option_map final (uses_from (Some n) u ws)) (walk_with false idle (held rows p)) (walk_with false (option n) (held (rows_for u) (Some (n, [])))) w ws
        (wants_turn is o ∙ ap (λ (k : Kinds). or_else k []) c.passes)
        (wants_walk is o ∙ ap (λ rs. walk_with false (option n) (held rs (Some (n, [])))) c.are)
        (rest (wants n u o)))

    step_flag : (ws : List Text) → long_of w ≡ Some (n, None) → is_option n ≡ false → is_flag n ≡ true → ((s : State) → Reads s ws) → Goal n None ws
    step_flag ws is o f rest = go (has_use n u) refl
      where
        same : flag_name ≡ n
        same = (bytes_eq-Decides flag_name n).0 f

        has : (b : Bool) → has_use n u ≡ b → has_row flag_name (settled_rows rules p rows) ≡ b
        has b h = ap (has_row flag_name) c.are ∙ (has_row-uses flag_name u ∙ (ap (λ m. has_use m u) same ∙ h))

        go : (b : Bool) → has_use n u ≡ b → Goal n None ws
        go true h =
            rw (o, f, h)
            (fail (top name) (walk_with false idle (held rows p)) w ws
            (ap no_kinds (flag_turn is f ∙ ap (λ (k : Kinds). or_else (or_else k (use_fault false flag [] (settled_rows rules p rows))) []) c.passes)
            ∙ or_else-more _ [] (flag_twice (settled_rows rules p rows) (has true h))))
        go false h =
            let more = u ++ (n, codes "true") ∷ [] in
            rw (o, f, h)
            (pass (top name) (option_map final (uses_from None more ws)) (walk_with false idle (held rows p)) (walk_with false idle (held (rows_for more) None)) w ws
            (flag_turn is f ∙ ap (λ (k : Kinds). or_else k []) (ap₂ or_else c.passes (flag_use (settled_rows rules p rows) (has false h))))
            (flag_walk is f ∙ ap (λ rs. walk_with false idle (held rs None)) (ap (λ rs. with_values flag_name AsWritten CommandLine (codes "true" ∷ []) (without flag_name rs)) c.are
            ∙ (ap (λ m. with_values m AsWritten CommandLine (codes "true" ∷ []) (without m (rows_for u))) same ∙ added-uses n (codes "true") u h)))
            (rest (at (rows_for more) None more (clean more))))

    step_long : (ws : List Text) (v : Option Text) → long_of w ≡ Some (n, v) → ((s : State) → Reads s ws) → Goal n v ws
    step_long ws v is rest = go (is_option n) refl (is_flag n) refl v is
      where
        go : (o : Bool) → is_option n ≡ o → (f : Bool) → is_flag n ≡ f → (v : Option Text) → long_of w ≡ Some (n, v) → Goal n v ws
        go true o f g (Some v) is = step_value ws v is o rest
        go true o f g None is = step_wants ws is o rest
        go false o true g (Some v) is = rw o (refused_at idle (held rows p) w ws (inl refl) (ap no_kinds (long_is rows p w n (Some v) _ e is (flag_found n g))))
        go false o true g None is = step_flag ws is o g rest
        go false o false g (Some v) is = rw o (refused_at idle (held rows p) w ws (inl refl) (ap no_kinds (long_is rows p w n (Some v) _ e is (none_found n o g))))
        go false o false g None is = rw (o, g) (refused_at idle (held rows p) w ws (inl refl) (ap no_kinds (long_is rows p w n None _ e is (none_found n o g))))

  -- ---- a value

  value_turn : (n : Text) (u : Uses) (w : Text) → is_option n ≡ true → is_end w ≡ false → long_of w ≡ None → short_of w ≡ None
      → turn_fault (top name) [] (walk_with false (option n) (held (rows_for u) (Some (n, [])))) w ≡ []
  value_turn n u w o e l s = rw (e, l, s) refl

  value_walk : (n : Text) (u : Uses) (w : Text) → is_option n ≡ true → is_end w ≡ false → long_of w ≡ None → short_of w ≡ None
      → walked rules [] (walk_with false (option n) (held (rows_for u) (Some (n, [])))) w ≡ walk_with false idle (held (rows_for u) (Some (n, w ∷ [])))
  unfolding walked
  value_walk n u w o e l s =
      let f = option_found n o in
      let same : bytes_eq n n ≡ true = (bytes_eq-Decides n n).1 refl in
      rw (e, l, s, f.1, same) refl

  step_waiting : (n : Text) (u : Uses) (o : is_option n ≡ true) (w : Text) (ws : List Text) → Look w → All IsUtf8 ws → ((s : State) → Reads s ws) → Reads (wants n u o) (w ∷ ws)
  step_waiting n u o w ws (end e d) utf8 rest =
      rw d
      (pass (top name) None _ (walk_with true (option n) (held (rows_for u) (Some (n, [])))) w ws (end_turn_waiting n _ w e) (end_walk_waiting n _ w e)
      (trailing_bad (option n) (rows_for u) (Some (n, [])) ws (wants_bad n (rows_for u) o)))
  step_waiting n u o w ws (long x xs e d l a) utf8 rest =
      rw d (refused_at (option n) _ w ws (inr (n, refl)) (long_bad (rows_for u) (Some (n, [])) w _ _ e l (wants_bad n (rows_for u) o)))
  step_waiting n u o w ws (short x xs c e d l s f a) utf8 rest = rw d (refused_at (option n) _ w ws (inr (n, refl)) (short_refused (rows_for u) (Some (n, [])) w x xs c e l s f))
  step_waiting n u o w ws (plain e d l s a) utf8 rest = go (has_use n u) refl
    where
      go : (b : Bool) → has_use n u ≡ b → Reads (wants n u o) (w ∷ ws)
      go true h =
          rw (d, h)
          (pass (top name) None _ (walk_with false idle (held (rows_for u) (Some (n, w ∷ [])))) w ws (value_turn n u w o e l s) (value_walk n u w o e l s)
          (bad ws (rows_for u) (Some (n, w ∷ [])) (twice n w u o h) utf8))
      go false h =
          let more = u ++ (n, w) ∷ [] in
          rw (d, h)
          (pass (top name) (option_map final (uses_from None more ws)) _ (walk_with false idle (held (rows_for u) (Some (n, w ∷ [])))) w ws (value_turn n u w o e l s) (value_walk n u w o e l s)
          (rest (at (rows_for u) (Some (n, w ∷ [])) more (ready n w u o h))))

  step_idle : (rows : List Row) (p : Pending) (u : Uses) (c : Clean rows p u) (w : Text) (ws : List Text) → Look w → ((s : State) → Reads s ws) → Reads (at rows p u c) (w ∷ ws)
  step_idle rows p u c w [] (end e d) rest =
      rw e (pass (top name) (Some (final u)) _ (walk_with true idle (held rows p)) w [] (end_turn _ w e) (end_walk _ w e) (ends true idle rows p u c))
  step_idle rows p u c w (x ∷ xs) (end e d) rest =
      rw e (pass (top name) None _ (walk_with true idle (held rows p)) w (x ∷ xs) (end_turn _ w e) (end_walk _ w e) (stray idle (held rows p) x xs))
  step_idle rows p u c w ws (long x xs e d l a) rest = rw (e, a) (step_long rows p u c w (name_in (x ∷ xs)) e ws (value_in (x ∷ xs)) l rest)
  step_idle rows p u c w ws (short x xs y e d l s f a) rest = rw (e, a) (refused_at idle _ w ws (inl refl) (short_refused rows p w x xs y e l s f))
  step_idle rows p u c w ws (plain e d l s a) rest = rw (e, a) (plain_refused (held rows p) w ws e l s)

  from : (words : List Text) → All IsUtf8 words → (s : State) → Reads s words
  from [] utf8 (at rows p u c) = ends false idle rows p u c
  from [] utf8 (wants n u o) = bad_ends false (option n) (rows_for u) (Some (n, [])) (wants_bad n (rows_for u) o)
  from (w ∷ ws) utf8 (at rows p u c) = step_idle rows p u c w ws (look w (All-head IsUtf8 w ws utf8)) (from ws (All-tail IsUtf8 w ws utf8))
  from (w ∷ ws) utf8 (wants n u o) = step_waiting n u o w ws (look w (All-head IsUtf8 w ws utf8)) (All-tail IsUtf8 w ws utf8) (from ws (All-tail IsUtf8 w ws utf8))

  -- ---- the parse

  reads : (words : List Text) → All IsUtf8 words → Meets (top name) (option_map final (options words)) (walk_from nothing_held) words
  reads words utf8 = from words utf8 (at [] None [] (clean []))

  fault-verdict : (words : List Text) → fault_of (settle_app name) words ≡ verdict (top name) (walk_from nothing_held) (drop 1 words)
  fault-verdict words = leaf_fault (built (settle_app name)) nothing_held (drop 1 words) refl

  pub accepted : (words : List Text) (m : ArgMatches) → All IsUtf8 (drop 1 words) → fault_of (settle_app name) words ≡ [] → HasMatchesOf (settle_app name) words m
      → (u : Uses) × (options (drop 1 words) ≡ Some u) × (rows_of (found_of m) ≡ final u)
  accepted words m utf8 passes has = go (options (drop 1 words)) refl (reads (drop 1 words) utf8)
    where
      go : (o : Option Uses) → options (drop 1 words) ≡ o → Meets (top name) (option_map final o) (walk_from nothing_held) (drop 1 words)
          → (u : Uses) × (options (drop 1 words) ≡ Some u) × (rows_of (found_of m) ≡ final u)
      go None is h = let bad : true ≡ false = sym (ap no_kinds passes) ∙ (ap no_kinds (fault-verdict words) ∙ h) in cc
      go (Some u) is h = (u, is, (has refl).0 ∙ h.1)

  pub refused : (words : List Text) (k : ErrorKind) → All IsUtf8 (drop 1 words) → IsAmong k (fault_of (settle_app name) words) → options (drop 1 words) ≡ None
  refused words k utf8 among = go (options (drop 1 words)) refl (reads (drop 1 words) utf8)
    where
      go : (o : Option Uses) → options (drop 1 words) ≡ o → Meets (top name) (option_map final o) (walk_from nothing_held) (drop 1 words) → options (drop 1 words) ≡ None
      go None is h = is
      go (Some u) is h = let bad : false ≡ true = sym (some_kind k _ among) ∙ (ap no_kinds (fault-verdict words) ∙ ap no_kinds h.0) in cc

-- ---- the values

kept : (a : Rule) (rows : List Row) → a.defaults ≡ [] → with_default rows a ≡ rows
kept a rows e = rw e (go (has_row a.id rows))
  where
    go : (b : Bool) → cond b rows rows ≡ rows
    go true = refl
    go false = refl

fold-kept : (rs : List Rule) (last : Rule) (rows : List Row) → AllByRecursion (λ a. a.defaults ≡ []) rs → fold with_default rows (rs ++ last ∷ []) ≡ with_default rows last
fold-kept [] last rows h = refl
fold-kept (a ∷ rs) last rows h = ap (λ r. fold with_default r (rs ++ last ∷ [])) (kept a rows h.0) ∙ fold-kept rs last rows h.1

abbrev unset : List Row
unset = record { id = flag_name; values = codes "false" ∷ []; count = None; source = Some DefaultValue; reading = AsWritten } ∷ []

final-is : (u : Uses) (b : Bool) → has_use flag_name u ≡ b → final u ≡ cond b (rows_for u) (rows_for u ++ unset)
final-is u b h =
    fold-kept (opt (codes "replaced") ∷ opt (codes "changed") ∷ opt (codes "deleted") ∷ opt (codes "source-deleted") ∷ opt (codes "gone") ∷ []) flag (rows_for u)
    (refl, (refl, (refl, (refl, (refl, tt)))))
    ∙ go b (has_row-uses flag_name u ∙ h)
  where
    go : (b : Bool) → has_row flag_name (rows_for u) ≡ b → with_default (rows_for u) flag ≡ cond b (rows_for u) (rows_for u ++ unset)
    go true e = rw e refl
    go false e = rw e (at_row-missing flag_name (more_values DefaultValue (codes "false" ∷ [])) unset (rows_for u) e)

first_in : (n : Text) (u : Uses) (tail : List Row) → first_of n (rows_for u ++ tail) ≡ cond (has_use n u) (value_of u n) (first_of n tail)
first_in n [] tail = refl
first_in n (x ∷ u) tail = go (bytes_eq x.0 n) refl (first_in n u tail)
  where
    go : (b : Bool) → bytes_eq x.0 n ≡ b → first_of n (rows_for u ++ tail) ≡ cond (has_use n u) (value_of u n) (first_of n tail)
        → first_of n (rows_for (x ∷ u) ++ tail) ≡ cond (has_use n (x ∷ u)) (value_of (x ∷ u) n) (first_of n tail)
    go true e h = rw e refl
    go false e h = rw e h

value_missing : (n : Text) (u : Uses) → has_use n u ≡ false → value_of u n ≡ None
value_missing n [] e = refl
value_missing n (x ∷ u) e = let p = or_parts (bytes_eq x.0 n) (has_use n u) e in rw p.0 (value_missing n u p.1)

value_there : (n d : Text) (u : Uses) → has_use n u ≡ true → value_of u n ≡ Some (unwrap_or (value_of u n) d)
value_there n d [] e = absurd (true≢false (sym e))
value_there n d (x ∷ u) e = go (bytes_eq x.0 n) refl e (value_there n d u)
  where
    go : (b : Bool) → bytes_eq x.0 n ≡ b → (b || has_use n u) ≡ true → (has_use n u ≡ true → value_of u n ≡ Some (unwrap_or (value_of u n) d))
        → value_of (x ∷ u) n ≡ Some (unwrap_or (value_of (x ∷ u) n) d)
    go true is e rest = rw is refl
    go false is e rest = rw is (rest e)

first_final : (n : Text) (u : Uses) (b : Bool) → has_use n u ≡ b → (c : Bool) → has_use flag_name u ≡ c → first_of n (final u) ≡ cond b (value_of u n) (cond c None (first_of n unset))
first_final n u b h true e = ap (first_of n) (final-is u true e ∙ sym (append-nil (rows_for u))) ∙ (first_in n u [] ∙ ap (λ x. cond x (value_of u n) None) h)
first_final n u b h false e = ap (first_of n) (final-is u false e) ∙ (first_in n u unset ∙ ap (λ x. cond x (value_of u n) (first_of n unset)) h)

option_value : (n : Text) (u : Uses) → is_option n ≡ true → first_of n (final u) ≡ value_of u n
option_value n u o = go (has_use n u) refl (has_use flag_name u) refl
  where
    go : (b : Bool) → has_use n u ≡ b → (c : Bool) → has_use flag_name u ≡ c → first_of n (final u) ≡ value_of u n
    go true h c e = first_final n u true h c e
    go false h true e = first_final n u false h true e ∙ sym (value_missing n u h)
    go false h false e =
        let f = option_found n o in
        let none : first_of n unset ≡ None = rw f.2 refl in
        first_final n u false h false e ∙ (none ∙ sym (value_missing n u h))

flag_value : (u : Uses) → first_of flag_name (final u) ≡ Some (unwrap_or (value_of u flag_name) (codes "false"))
flag_value u = go (has_use flag_name u) refl
  where
    go : (b : Bool) → has_use flag_name u ≡ b → first_of flag_name (final u) ≡ Some (unwrap_or (value_of u flag_name) (codes "false"))
    go true h = first_final flag_name u true h true h ∙ value_there flag_name (codes "false") u h
    go false h = first_final flag_name u false h false h ∙ ap (λ v. Some (unwrap_or v (codes "false"))) (sym (value_missing flag_name u h))

pub gives : (words : List Text) (m : ArgMatches) → ((u : Uses) × (options words ≡ Some u) × (rows_of (found_of m) ≡ final u)) → GivesUses words m
gives words m h = record {
  uses = h.0;
  are = h.1;
  values = λ n o. first_value-rows (found_of m) n ∙ (ap (first_of n) h.2 ∙ option_value n h.0 o);
  from_input = first_value-rows (found_of m) flag_name ∙ (ap (first_of flag_name) h.2 ∙ flag_value h.0);
}
