-- What a word looks like, to `clap` and to the words' own form.
use Rattle.std.proofs.Common.{◌≡◌, subst, refl, true, false, Bool, List, [], ◌∷◌, ◌==◌, Some, None, ℕ, arith}
use Rattle.std.proofs.lemmas.Str.{encodes-chars}
use Rattle.std.proofs.lemmas.Bool.Decides.{nat_tests}
use Rattle.std.specs.Char.{encode_utf8}
use Rattle.std.specs.Str.{chars, IsUtf8, encode_utf8_all}
use Rattle.std.specs.Prelude.{slice_get}
use Rattle.clap.specs.Lexer.{long_of, name_and_value, short_of}
use Rattle.command_words.specs.Words.{Text, is_end, is_dashed}
use Rattle.command_words.specs.Options.{after_dashes}

-- what follows the `-` of a text has a first character
first_char : (b : ℕ) (bs : Text) → IsUtf8 (45 ∷ b ∷ bs) → (x : ℕ) × (slice_get (chars (b ∷ bs)) 0 ≡ Some x)
unfolding chars encode_utf8
first_char b bs utf8 = go (chars (b ∷ bs)) (encodes-chars (45 ∷ b ∷ bs) utf8)
  where
    go : (cs : List ℕ) → encode_utf8_all (45 ∷ cs) ≡ 45 ∷ b ∷ bs → (x : ℕ) × (slice_get cs 0 ≡ Some x)
    go [] e = let bad : 45 ∷ [] ≡ 45 ∷ b ∷ bs = e in cc
    go (c ∷ cs) e = (c, refl)

-- `--`, `--name`, `-x`, or a word that is not dashed
pub data Look (word : Text) : Type 0 where
  end : is_end word ≡ true → is_dashed word ≡ true → Look word
  long : (b : ℕ) (bs : Text) → is_end word ≡ false → is_dashed word ≡ true → long_of word ≡ Some (name_and_value (b ∷ bs)) → after_dashes word ≡ Some (b ∷ bs) → Look word
  short : (b : ℕ) (bs : Text) (c : ℕ) → is_end word ≡ false → is_dashed word ≡ true → long_of word ≡ None → short_of word ≡ Some (b ∷ bs)
      → slice_get (chars (b ∷ bs)) 0 ≡ Some c → after_dashes word ≡ None → Look word
  plain : is_end word ≡ false → is_dashed word ≡ false → long_of word ≡ None → short_of word ≡ None → after_dashes word ≡ None → Look word

pub look : (word : Text) → IsUtf8 word → Look word
look [] utf8 = plain refl refl refl refl refl
look (b ∷ []) utf8 = go (b == 45) refl
  where
    go : (t : Bool) → (b == 45) ≡ t → Look (b ∷ [])
    go true e = plain (rw e refl) refl (rw e refl) (rw e refl) refl
    go false e = plain (rw e refl) refl (rw e refl) (rw e refl) refl
look (b ∷ c ∷ bs) utf8 = go (b == 45) refl (c == 45) refl bs refl
  where
    go : (t : Bool) → (b == 45) ≡ t → (u : Bool) → (c == 45) ≡ u → (rest : Text) → bs ≡ rest → Look (b ∷ c ∷ bs)
    go false e u f rest is = plain (rw e refl) e (rw e refl) (rw e refl) (rw e refl)
    go true e true f [] is = end (rw (e, f, is) refl) e
    go true e true f (x ∷ xs) is = long x xs (rw (e, f, is) refl) e (rw (e, f, is) refl) (rw (e, f, is) refl)
    go true e false f rest is =
        let dash : b ≡ 45 = grind (arith, nat_tests) in
        let c = first_char c bs (subst (λ (x : ℕ). IsUtf8 (x ∷ c ∷ bs)) dash utf8) in
        short _ bs c.0 (rw (e, f) refl) e (rw (e, f) refl) (rw (e, f) refl) c.1 (rw (e, f) refl)
