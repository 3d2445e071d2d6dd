-- A line, parted at its last tab.
use Rattle.std.proofs.Common.{◌≡◌, ◌≢◌, ℕ, suc, nat_eq, ◌<◌, Bool, true, false, ◌||◌, List, [], ◌∷◌, ◌++◌, length, get_or, take, drop, refl, sym, ap, ◌∙◌, subst, arith, lit<}
use Rattle.std.specs.List.{list_any}
use Rattle.std.specs.Str.{NoCharPasses}
use Rattle.std.specs.Str.Pattern.{RFindsChar, SplitsAroundMatch}
use Rattle.std.proofs.lemmas.Bool.Decides.{nat_tests}
use Rattle.std.proofs.lemmas.List.{take-append-drop}
use Rattle.std.proofs.lemmas.Str.Pattern.{NoCharPasses-char, drop_at_char}

abbrev pub has_tab : List ℕ → Bool
has_tab text = list_any (λ b. nat_eq b 9) text

not_tab : (b : ℕ) → b ≢ 9 → nat_eq b 9 ≡ false
not_tab b ne = grind (arith, nat_tests)

none_at : (bs : List ℕ) → ((i : ℕ) → i < length bs → get_or bs i 0 ≢ 9) → has_tab bs ≡ false
none_at [] f = refl
none_at (b ∷ bs) f = λ j. not_tab b (f 0 (omega arith)) j || none_at bs (λ i low. f (suc i) (omega arith)) j

pub tabless : (bs : List ℕ) → NoCharPasses (λ d. nat_eq d 9) bs → has_tab bs ≡ false
tabless bs h = none_at bs (λ i low. NoCharPasses-char 9 bs i h (lit< tt) low)

or_true : (b : Bool) → (b || true) ≡ true
or_true true = refl
or_true false = refl

pub tab_in : (front back : List ℕ) → has_tab (front ++ 9 ∷ back) ≡ true
tab_in [] back = refl
tab_in (b ∷ front) back = ap (λ t. nat_eq b 9 || t) (tab_in front back) ∙ or_true (nat_eq b 9)

-- the last tab of a line, and what stands in front of it and behind it
pub record IsParted (text front back : List ℕ) : Type 0 where
  pub whole : text ≡ front ++ 9 ∷ back
  pub last : has_tab back ≡ false

pub parted : (text front back : List ℕ) → SplitsAroundMatch (RFindsChar 9) text front back → IsParted text front back
parted text front back h =
    let cut : drop h.0 text ≡ 9 ∷ drop h.1 text = drop_at_char 9 text h.0 h.1 h.2.1 (lit< tt) in
    record {
      whole = sym (take-append-drop h.0 text) ∙ ap (λ l. take h.0 text ++ l) cut ∙ (λ i. sym h.3 i ++ 9 ∷ sym h.4 i);
      last = subst (λ l. has_tab l ≡ false) (sym h.4) (tabless (drop h.1 text) h.2.0);
    }

-- a line is parted in one way
pub one_part : (a b x y : List ℕ) → a ++ 9 ∷ x ≡ b ++ 9 ∷ y → has_tab x ≡ false → has_tab y ≡ false → (a ≡ b) × (x ≡ y)
one_part [] [] x y e p q = (refl, cc)
one_part [] (d ∷ ds) x y e p q =
    let rest : x ≡ ds ++ 9 ∷ y = cc in
    let no : true ≡ false = sym (tab_in ds y) ∙ ap has_tab (sym rest) ∙ p in absurd (cc)
one_part (c ∷ cs) [] x y e p q =
    let rest : cs ++ 9 ∷ x ≡ y = cc in
    let no : true ≡ false = sym (tab_in cs x) ∙ ap has_tab rest ∙ q in absurd (cc)
one_part (c ∷ cs) (d ∷ ds) x y e p q =
    let head : c ≡ d = cc in
    let rest : cs ++ 9 ∷ x ≡ ds ++ 9 ∷ y = cc in
    let more = one_part cs ds x y rest p q in
    ((λ i. head i ∷ more.0 i), more.1)
