-- Numbers in decimal digits, with zeros in front.
use Rattle.std.proofs.Common.{◌≡◌, ◌<◌, ◌+◌, ◌-◌, ◌/◌, ◌%◌, ◌^◌, ℕ, zero, suc, true, List, [], ◌∷◌, ◌++◌, length, length-append, decimal, refl, sym, ◌∙◌, arith}
use Rattle.std.specs.List.{AllByRecursion, list_all}
use Rattle.std.proofs.Math.Nat.{div-add-mod}
use Rattle.std.proofs.lemmas.Bool.Decides.{nat_tests}
use Rattle.std.proofs.lemmas.Nat.{div_below, mod_below}
use Rattle.std.proofs.lemmas.Fmt.{decimal_digit}
use Rattle.list_laws.proofs.Alls.{all_append, test-from_all}
use Rattle.rel_paths.specs.Names.{is_good_byte}
use Rattle.sample_world.specs.Texts.{padded}

pub length-padded : (w n : ℕ) → length (padded w n) ≡ w
length-padded zero n = refl
length-padded (suc w) n =
    let front : length (padded w (n / 10)) ≡ w = length-padded w (n / 10) in
    omega (arith, length-append (padded w (n / 10)) ((48 + n % 10) ∷ []))

-- lists of one length, with one item more
ends : (xs ys : List ℕ) (x y : ℕ) → length xs ≡ length ys → xs ++ x ∷ [] ≡ ys ++ y ∷ [] → (xs ≡ ys) × (x ≡ y)
ends [] [] x y l e = (refl, cc)
ends [] (b ∷ bs) x y l e = absurd (omega arith)
ends (a ∷ ms) [] x y l e = absurd (omega arith)
ends (a ∷ ms) (b ∷ bs) x y l e =
    let tails : ms ++ x ∷ [] ≡ bs ++ y ∷ [] = cc in
    let rest = ends ms bs x y (omega arith) tails in
    let first : a ≡ b = cc in
    (λ i. first i ∷ rest.0 i, rest.1)

-- numbers that fit the width are told apart
pub padded-injective : (w m n : ℕ) → m < 10 ^ w → n < 10 ^ w → padded w m ≡ padded w n → m ≡ n
padded-injective zero m n a b e = omega arith
padded-injective (suc w) m n a b e =
    let parts = ends (padded w (m / 10)) (padded w (n / 10)) (48 + m % 10) (48 + n % 10) (length-padded w (m / 10) ∙ sym (length-padded w (n / 10))) e in
    let ih : m / 10 ≡ n / 10 = padded-injective w (m / 10) (n / 10) (div_below m 10 (10 ^ w) (omega arith) (omega arith)) (div_below n 10 (10 ^ w) (omega arith) (omega arith)) parts.0 in
    let last : 48 + m % 10 ≡ 48 + n % 10 = parts.1 in
    omega (arith, div-add-mod m 10, div-add-mod n 10)

good_digit : (d : ℕ) → d < 10 → is_good_byte (48 + d) ≡ true
good_digit d below = grind (arith, nat_tests)

all-padded : (w n : ℕ) → AllByRecursion (λ b. is_good_byte b ≡ true) (padded w n)
all-padded zero n = tt
all-padded (suc w) n =
    all_append (λ b. is_good_byte b ≡ true) (padded w (n / 10)) ((48 + n % 10) ∷ []) (all-padded w (n / 10)) (good_digit (n % 10) (mod_below n 10 (omega arith)), tt)

-- its digits may stand in a name
pub good-padded : (w n : ℕ) → list_all is_good_byte (padded w n) ≡ true
good-padded w n = test-from_all is_good_byte (padded w n) (all-padded w n)

-- the last digit stands behind the others
pub padded-step : (w n : ℕ) → (w ≡ 0 → ⊥) → padded w n ≡ padded (w - 1) (n / 10) ++ decimal (n % 10)
padded-step zero n some = absurd (some refl)
padded-step (suc w) n some =
    let front : suc w - 1 ≡ w = omega arith in
    let digit : decimal (n % 10) ≡ (48 + n % 10) ∷ [] = decimal_digit (n % 10) (mod_below n 10 (omega arith)) in
    rw (front, digit) refl
