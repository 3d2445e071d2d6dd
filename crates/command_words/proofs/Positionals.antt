-- A command with one positional that may stand any number of times.
use Rattle.std.proofs.Common.{◌≡◌, ◌∙◌, sym, ap, subst, drop, refl, true, false, Bool, List, [], ◌∷◌, ◌++◌, codes, Option, Some, None, ℕ, append_assoc, append-nil}
use Rattle.std.proofs.lemmas.List.Elements.{All-head, All-tail}
use Rattle.std.specs.List.{All}
use Rattle.std.specs.Str.{chars, IsUtf8}
use Rattle.std.specs.Prelude.{slice_get, option_map, unwrap_or}
use Rattle.clap.specs.Lexer.{long_of, short_of}
use Rattle.clap.specs.Walk.{Walk, Row, Text, all_of, rows_of, idle, positional, nothing_held, walk_from, walked, reading_by}
use Rattle.clap.specs.Simple.{Shape, built, HasMatchesOf}
use Rattle.clap.specs.Faults.{fault_of, is_simple_and_free, turn_fault, flags_fault}
use Rattle.clap.specs.Walk.{bundle_met}
use Rattle.clap.specs.declared.parser.matches.ValueSource.TheVariants.{CommandLine}
use Rattle.clap.specs.Kinds.{IsAmong}
use Rattle.clap.specs.Matches.{found_of, matched_of, raw_values}
use Rattle.clap.specs.declared.parser.matches.ArgMatches.{ArgMatches}
use Rattle.clap.specs.declared.error.kind.ErrorKind.{ErrorKind}
use Rattle.clap.proofs.WalkLemmas.{raw_values-rows}
use Rattle.clap.proofs.FaultLemmas.{leaf_fault}
use Rattle.clap.proofs.OnLiterals.{clap_on_literals}
use Rattle.command_words.proofs.Look.{Look, look, end, long, short, plain}
use Rattle.command_words.proofs.Verdict.{no_kinds, some_kind, Meets, pass, fail, verdict}
use Rattle.command_words.specs.Apps.{rest_rule, rest_app, given_words}
use Rattle.command_words.specs.Words.{is_end}
use Rattle.command_words.specs.Positionals.{positionals}

abbrev top : Text → Shape
top name = (built (rest_app name)).top

pub is_free : (name : Text) → is_simple_and_free (rest_app name) ≡ true
unfolding clap_on_literals
is_free name = refl

-- ---- the walk

-- the positional words so far
data Seen : Type 0 where
  none : Seen
  upto : List Text → Text → Seen

abbrev texts_of : Seen → List Text
texts_of none = []
texts_of (upto before last) = before ++ last ∷ []

abbrev next : Seen → Text → Seen
next none word = upto [] word
next (upto before last) word = upto (before ++ last ∷ []) word

abbrev row_list : List Text → List Row
row_list [] = []
row_list (p ∷ ps) = record { id = codes "words"; values = p ∷ ps; count = None; source = Some CommandLine; reading = reading_by rest_rule } ∷ []

abbrev walk_at : Bool → Seen → Walk
walk_at t none = record { held = nothing_held; waiting = idle; position = 1; is_trailing = t; stopped = None }
walk_at t (upto before last) = record {
  held = record { rows = row_list before; pending = Some (codes "words", last ∷ []); skip = 0 };
  waiting = positional;
  position = 1;
  is_trailing = t;
  stopped = None;
}

texts-next : (s : Seen) (word : Text) (rest : List Text) → texts_of (next s word) ++ rest ≡ texts_of s ++ word ∷ rest
texts-next none word rest = refl
texts-next (upto before last) word rest = append_assoc (before ++ last ∷ []) (word ∷ []) rest

module _ (name : Text) where
  ends : (t : Bool) (s : Seen) → Meets (top name) (Some (row_list (texts_of s))) (walk_at t s) []
  unfolding clap_on_literals
  ends t none = (refl, refl)
  ends t (upto [] last) = (refl, refl)
  ends t (upto (b ∷ bs) last) = (refl, refl)

  -- a word after `--`
  trailing_turn : (s : Seen) (word : Text) → turn_fault (top name) [] (walk_at true s) word ≡ []
  trailing_turn none word = refl
  trailing_turn (upto before last) word = refl

  trailing_walk : (s : Seen) (word : Text) → walked (top name).rules [] (walk_at true s) word ≡ walk_at true (next s word)
  unfolding walked
  trailing_walk none word = refl
  trailing_walk (upto [] last) word = refl
  trailing_walk (upto (b ∷ bs) last) word = refl

  trailing : (words : List Text) (s : Seen) → Meets (top name) (Some (row_list (texts_of s ++ words))) (walk_at true s) words
  trailing [] s = subst (λ ps. Meets (top name) (Some (row_list ps)) (walk_at true s) []) (sym (append-nil (texts_of s))) (ends true s)
  trailing (w ∷ ws) s = pass (top name) (Some (row_list (texts_of s ++ w ∷ ws))) (walk_at true s) (walk_at true (next s w)) w ws (trailing_turn s w) (trailing_walk s w)
      (subst (λ ps. Meets (top name) (Some (row_list ps)) (walk_at true (next s w)) ws) (texts-next s w ws) (trailing ws (next s w)))

  -- `--`
  end_turn : (s : Seen) (word : Text) → is_end word ≡ true → turn_fault (top name) [] (walk_at false s) word ≡ []
  end_turn none word e = rw e refl
  end_turn (upto before last) word e = rw e refl

  end_walk : (s : Seen) (word : Text) → is_end word ≡ true → walked (top name).rules [] (walk_at false s) word ≡ walk_at true s
  unfolding walked
  end_walk none word e = rw e refl
  end_walk (upto before last) word e = rw e refl

  -- a word that is not dashed
  plain_turn : (s : Seen) (word : Text) → is_end word ≡ false → long_of word ≡ None → short_of word ≡ None → turn_fault (top name) [] (walk_at false s) word ≡ []
  plain_turn none word e l h = rw (e, l, h) refl
  plain_turn (upto before last) word e l h = rw (e, l, h) refl

  plain_walk : (s : Seen) (word : Text) → is_end word ≡ false → long_of word ≡ None → short_of word ≡ None
      → walked (top name).rules [] (walk_at false s) word ≡ walk_at false (next s word)
  unfolding walked
  plain_walk none word e l h = rw (e, l, h) refl
  plain_walk (upto [] last) word e l h = rw (e, l, h) refl
  plain_walk (upto (b ∷ bs) last) word e l h = rw (e, l, h) refl

  -- a flag
  long_turn : (s : Seen) (word : Text) (p : Text × Option Text) → is_end word ≡ false → long_of word ≡ Some p → no_kinds (turn_fault (top name) [] (walk_at false s) word) ≡ false
  long_turn none word p e is = rw (e, is) refl
  long_turn (upto before last) word p e is = rw (e, is) refl

  short_turn : (s : Seen) (word : Text) (b : ℕ) (bs : Text) (c : ℕ) → is_end word ≡ false → long_of word ≡ None → short_of word ≡ Some (b ∷ bs)
      → slice_get (chars (b ∷ bs)) 0 ≡ Some c → no_kinds (turn_fault (top name) [] (walk_at false s) word) ≡ false
  unfolding flags_fault bundle_met
  short_turn none word b bs c e l is at = rw (e, l, is, at) refl
  short_turn (upto before last) word b bs c e l is at = rw (e, l, is, at) refl

  abbrev Reads : Seen → Walk → Option (List Text) → List Text → Type 0
  Reads s w o words = Meets (top name) (option_map (λ ps. row_list (texts_of s ++ ps)) o) w words

  step : (s : Seen) (w : Text) (ws : List Text) → Look w → Reads (next s w) (walk_at false (next s w)) (positionals ws) ws → Reads s (walk_at false s) (positionals (w ∷ ws)) (w ∷ ws)
  step s w ws (end e d) rest = rw e (pass (top name) (Some (row_list (texts_of s ++ ws))) (walk_at false s) (walk_at true s) w ws (end_turn s w e) (end_walk s w e) (trailing ws s))
  step s w ws (long b bs e d l a) rest = rw (e, d) (fail (top name) (walk_at false s) w ws (long_turn s w _ e l))
  step s w ws (short b bs c e d l h f a) rest = rw (e, d) (fail (top name) (walk_at false s) w ws (short_turn s w b bs c e l h f))
  step s w ws (plain e d l h a) rest =
      rw (e, d)
      (pass (top name) (option_map (λ ps. row_list (texts_of s ++ ps)) (option_map (λ ps. w ∷ ps) (positionals ws))) (walk_at false s) (walk_at false (next s w)) w ws
      (plain_turn s w e l h) (plain_walk s w e l h) (subst (λ o. Meets (top name) o (walk_at false (next s w)) ws) (same (positionals ws)) rest))
    where
      same : (o : Option (List Text)) → option_map (λ ps. row_list (texts_of (next s w) ++ ps)) o ≡ option_map (λ ps. row_list (texts_of s ++ ps)) (option_map (λ ps. w ∷ ps) o)
      same None = refl
      same (Some ps) = ap (λ qs. Some (row_list qs)) (texts-next s w ps)

  from : (words : List Text) (s : Seen) → All IsUtf8 words → Reads s (walk_at false s) (positionals words) words
  from [] s utf8 = subst (λ ps. Meets (top name) (Some (row_list ps)) (walk_at false s) []) (sym (append-nil (texts_of s))) (ends false s)
  from (w ∷ ws) s utf8 = step s w ws (look w (All-head IsUtf8 w ws utf8)) (from ws (next s w) (All-tail IsUtf8 w ws utf8))

  -- ---- the parse

  reads : (words : List Text) → All IsUtf8 words → Meets (top name) (option_map row_list (positionals words)) (walk_from nothing_held) words
  reads words utf8 = from words none utf8

  fault-verdict : (words : List Text) → fault_of (rest_app name) words ≡ verdict (top name) (walk_from nothing_held) (drop 1 words)
  fault-verdict words = leaf_fault (built (rest_app name)) nothing_held (drop 1 words) refl

  row_values : (ps : List Text) → unwrap_or (all_of (codes "words") (row_list ps)) [] ≡ ps
  row_values [] = refl
  row_values (p ∷ ps) = refl

  pub accepted : (words : List Text) (m : ArgMatches) → All IsUtf8 (drop 1 words) → fault_of (rest_app name) words ≡ [] → HasMatchesOf (rest_app name) words m
      → positionals (drop 1 words) ≡ Some (given_words m)
  accepted words m utf8 passes has = go (positionals (drop 1 words)) refl (reads (drop 1 words) utf8)
    where
      go : (o : Option (List Text)) → positionals (drop 1 words) ≡ o → Meets (top name) (option_map row_list o) (walk_from nothing_held) (drop 1 words)
          → positionals (drop 1 words) ≡ Some (given_words m)
      go None is h = let bad : true ≡ false = sym (ap no_kinds passes) ∙ (ap no_kinds (fault-verdict words) ∙ h) in cc
      go (Some ps) is h =
          let rows : rows_of (found_of m) ≡ row_list ps = (has refl).0 ∙ h.1 in
          let values : option_map raw_values (matched_of (found_of m) (codes "words")) ≡ all_of (codes "words") (row_list ps) =
          raw_values-rows (found_of m) (codes "words") ∙ ap (all_of (codes "words")) rows in
          is ∙ ap Some (sym (ap (λ o. unwrap_or o []) values ∙ row_values ps))

  pub refused : (words : List Text) (k : ErrorKind) → All IsUtf8 (drop 1 words) → IsAmong k (fault_of (rest_app name) words) → positionals (drop 1 words) ≡ None
  refused words k utf8 among = go (positionals (drop 1 words)) refl (reads (drop 1 words) utf8)
    where
      go : (o : Option (List Text)) → positionals (drop 1 words) ≡ o → Meets (top name) (option_map row_list o) (walk_from nothing_held) (drop 1 words)
          → positionals (drop 1 words) ≡ None
      go None is h = is
      go (Some ps) is h = let bad : false ≡ true = sym (some_kind k _ among) ∙ (ap no_kinds (fault-verdict words) ∙ ap no_kinds h.0) in cc
