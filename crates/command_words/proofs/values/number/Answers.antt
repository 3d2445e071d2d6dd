use Rattle.std.proofs.Common.{◌≡◌, ◌∙◌, ◌^◌, ◌<◌, ap, sym, refl, true, false, Bool, List, [], ◌∷◌, ℕ, length, nat_le, Some, None, Result, Ok, Err, OkIff, arith}
use Rattle.std.specs.Result.{result_ok}
use Rattle.std.specs.Str.{all_ascii_digits}
use Rattle.std.specs.Str.Parse.{digits_value}
use Rattle.std.proofs.lemmas.Str.Parse.{IsNumeralModel, numerals_by_value, parse_plain, tells_all_ascii_digits}
use Rattle.std.proofs.lemmas.Bool.{eqb-false, le-leb, leb-true}
use Rattle.command_words.specs.Values.{number}
use Rattle.command_words.proofs.values.number.Goals as goal

digits : IsNumeralModel (λ ds. all_ascii_digits ds ≡ true) (digits_value 10)
digits = numerals_by_value (λ ds. all_ascii_digits ds ≡ true) tells_all_ascii_digits

number_is : {E : Type 0} (text : List ℕ) (r : Result ℕ E) → OkIff r ((all_ascii_digits text ≡ true) × (0 < length text) × (digits_value 10 text < 2 ^ 64)) (digits_value 10 text)
    → result_ok r ≡ number text
number_is [] (Ok x) h = absurd (omega (arith, h.0.1))
number_is [] (Err x) h = refl
number_is (d ∷ ds) (Ok x) h =
    let within : nat_le (digits_value 10 (d ∷ ds)) 18446744073709551615 ≡ true = le-leb _ _ (omega (arith, h.0.2)) in
    rw (h.0.0, within) (ap Some h.1)
number_is (d ∷ ds) (Err x) h = go (all_ascii_digits (d ∷ ds)) refl (nat_le (digits_value 10 (d ∷ ds)) 18446744073709551615) refl
  where
    go : (a : Bool) → all_ascii_digits (d ∷ ds) ≡ a → (b : Bool) → nat_le (digits_value 10 (d ∷ ds)) 18446744073709551615 ≡ b → None ≡ number (d ∷ ds)
    go true a true b =
        let le = leb-true (digits_value 10 (d ∷ ds)) 18446744073709551615 b in
        absurd (h (a, omega arith, omega arith))
    go true a false b = rw (a, b) refl
    go false a b e = rw a refl

pub returns : goal.returns
returns c =
    let no_plus = c.if-starts_with.ensures.byte (omega arith) (omega arith) (λ w o h. h) in
    c.ok.ensures.value ∙ number_is c.args.text.now c.parse.result (parse_plain digits 64 c.args.text.now c.parse.result c.parse.ensures.value.0 (eqb-false _ _ (sym no_plus)))
