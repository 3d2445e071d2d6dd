-- Names that are numbers.
use Rattle.std.proofs.Common.{◌≡◌, ◌≢◌, ◌⊎◌, ℕ, zero, suc, ◌+◌, ◌<◌, ◌≤◌, ◌^◌, Bool, true, false, ◌==◌, List, [], ◌∷◌, length, get_or, IfSome, OkIff, refl, sym, ap, ◌∙◌, subst, arith, lit<, lit≤}
use Rattle.std.specs.Fmt.{decimal}
use Rattle.std.specs.Result.{result_ok}
use Rattle.std.specs.Str.{all_ascii_digits}
use Rattle.std.specs.Str.Parse.{digits_value, ParsesUnsigned}
use Rattle.std.specs.declared.option.Option.{Option}
use Rattle.std.specs.declared.option.Option.TheVariants.{None, Some}
use Rattle.std.specs.declared.result.Result.{Result}
use Rattle.std.specs.declared.result.Result.TheVariants.{Ok, Err}
use Rattle.std.proofs.lemmas.Str.Parse.{IsNumeralModel, numerals_by_value, tells_all_ascii_digits, parse_plain}
use Rattle.std.proofs.lemmas.Fmt.{decimal-digits_value, first_decimal, decimal_digit, parse-decimal}
use Rattle.backup_keep.specs.Asides.{IsAsideNumber}

digits : IsNumeralModel (λ ds. all_ascii_digits ds ≡ true) (digits_value 10)
digits = numerals_by_value (λ ds. all_ascii_digits ds ≡ true) tells_all_ascii_digits

-- a number that is read without a sign or a leading zero is written so
pub number_read : {E : Type 0} (bs : List ℕ) (r : Result ℕ E) → get_or bs 0 0 ≢ 43 → get_or bs 0 0 ≢ 48 → ParsesUnsigned 32 10 bs r → IfSome (result_ok r) (λ n. IsAsideNumber n × (bs ≡ decimal n))
number_read {E} bs r unsigned not_zero parses = by_result r (parse_plain digits 32 bs r parses unsigned)
  where
    by_result : (r : Result ℕ E) → OkIff r ((all_ascii_digits bs ≡ true) × (0 < length bs) × (digits_value 10 bs < 2 ^ 32)) (digits_value 10 bs) → IfSome (result_ok r) (λ n. IsAsideNumber n × (bs ≡ decimal n))
    by_result (Err e) h = tt
    by_result (Ok n) h =
        let value : n ≡ digits_value 10 bs = h.1 in
        let small : digits_value 10 bs < 4294967296 = h.0.2 in
        let wide : digits_value 10 bs < 2 ^ 64 = omega arith in
        let text : decimal (digits_value 10 bs) ≡ bs = decimal-digits_value digits bs h.0.0 h.0.1 (λ zero_first. absurd (not_zero zero_first)) wide in
        let written : bs ≡ decimal n = sym text ∙ ap decimal (sym value) in
        ((some n written, omega arith), written)
      where
        some : (n : ℕ) → bs ≡ decimal n → 1 ≤ n
        some zero written = absurd (not_zero (ap (λ t. get_or t 0 0) (written ∙ decimal_digit 0 (lit< tt))))
        some (suc n) written = omega arith

-- a number that is written is read
pub number_written : {E : Type 0} (bs : List ℕ) (r : Result ℕ E) (n : ℕ) → IsAsideNumber n → bs ≡ decimal n → ParsesUnsigned 32 10 bs r → result_ok r ≡ Some n
number_written bs r n h written parses =
    let narrow : n < 2 ^ 32 = omega (arith, h.1) in
    let wide : n < 2 ^ 64 = omega (arith, h.1) in
    ap result_ok (parse-decimal 32 n bs r narrow wide written parses)

-- it begins neither with a sign nor with a zero
pub first_digit : (bs : List ℕ) (n : ℕ) → IsAsideNumber n → bs ≡ decimal n → 48 < get_or bs 0 0
first_digit bs n h written =
    let wide : n < 2 ^ 64 = omega (arith, h.1) in
    let some : 0 < n = omega (arith, h.0) in
    subst (λ t. 48 < get_or t 0 0) (sym written) (first_decimal n some wide)
