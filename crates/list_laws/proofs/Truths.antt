-- Tests, options and results: what they tell.
use Rattle.std.proofs.Common.{◌≡◌, ◌⊎◌, ◌<◌, ◌==◌, ℕ, Bool, true, false, not, cond, ◌&&◌, ◌||◌, is_some, is_none, IsSome, IsErrAnd, IfOk, IfErr, OnOk, OnErr, Decides, option_map, Option, Some, None, Result, Ok, Err, refl, sym, subst, inl, inr, arith}
use Rattle.std.proofs.lemmas.Bool.Decides.{nat_tests}

-- Tests

pub false_or : (a b : Bool) → a ≡ false → (a || b) ≡ b
false_or a b h = rw h

pub or_false : (a b : Bool) → b ≡ false → (a || b) ≡ a
or_false true b h = refl
or_false false b h = h

pub or_wider : (a b c : Bool) → (a || c) ≡ true → (a || b || c) ≡ true
or_wider true b c h = refl
or_wider false true c h = refl
or_wider false false c h = h

pub and_second : (a b t : Bool) → a ≡ true → t ≡ (a && b) → t ≡ b
and_second true b t p h = h
and_second false b t p h = let never : ⊥ = cc in absurd never

pub neither : (a b : Bool) → (not a && not b) ≡ true → (a ≡ false) × (b ≡ false)
neither false b h = (refl, not_true b h)
  where
    not_true : (t : Bool) → not t ≡ true → t ≡ false
    not_true true e = let never : ⊥ = cc in absurd never
    not_true false e = refl
neither true b h = let never : ⊥ = cc in absurd never

-- what a test that decides tells
pub tells : {P : Type 0} (b : Bool) → Decides b P → ((b ≡ true) × P) ⊎ ((b ≡ false) × (P → ⊥))
tells true d = inl (refl, d.0 refl)
tells false d = inr (refl, λ p. let e : false ≡ true = d.1 p in cc)

pub some-from_test : (n : ℕ) → (n == 0) ≡ false → 0 < n
some-from_test n h = grind (arith, nat_tests)

pub test-from_some : (n : ℕ) → 0 < n → (n == 0) ≡ false
test-from_some n h = grind (arith, nat_tests)

-- Options

pub none-from_is_none : {X : Type 0} (o : Option X) → is_none o ≡ true → o ≡ None
none-from_is_none None e = refl
none-from_is_none (Some x) e = let never : ⊥ = cc in absurd never

pub none-from_is_some : {X : Type 0} (o : Option X) → is_some o ≡ false → o ≡ None
none-from_is_some None e = refl
none-from_is_some (Some x) e = let never : ⊥ = cc in absurd never

pub none-from_map : {X Y : Type 0} (f : X → Y) (o : Option X) → None ≡ option_map f o → o ≡ None
none-from_map f None e = refl
none-from_map f (Some x) e = let never : ⊥ = cc in absurd never

pub some-from_map : {X Y : Type 0} (f : X → Y) (o : Option X) (y : Y) → option_map f o ≡ Some y → (x : X) × (o ≡ Some x) × (f x ≡ y)
some-from_map f None y e = let never : ⊥ = cc in absurd never
some-from_map f (Some x) y e = (x, refl, cc)

pub some_is : {X : Type 0} (o : Option X) → IsSome o → (x : X) × (o ≡ Some x)
some_is (Some x) h = (x, refl)
some_is None h = let never : ⊥ = cc in absurd never

-- what a choice between an item and the rest tells
pub chosen_first : {X : Type 0} (t : Bool) (x y : X) (rest : Option X) → t ≡ true → cond t (Some x) rest ≡ Some y → x ≡ y
chosen_first true x y rest is h = cc
chosen_first false x y rest is h = let never : ⊥ = cc in absurd never

pub chosen_rest : {X : Type 0} (t : Bool) (x : X) (rest found : Option X) → t ≡ false → cond t (Some x) rest ≡ found → rest ≡ found
chosen_rest false x rest found is h = h
chosen_rest true x rest found is h = let never : ⊥ = cc in absurd never

-- Results

pub if_err-from_same : {A E : Type 0} (P : E → Type 0) (r : Result A E) (e : E) → IsErrAnd r (λ x. x ≡ e) → P e → IfErr r P
if_err-from_same P (Ok x) e h p = absurd h
if_err-from_same P (Err x) e h p = subst P (sym h) p

pub on_ok-always : {A E P : Type 0} (r : Result A E) → P → OnOk r P
on_ok-always (Ok x) p = p
on_ok-always (Err x) p = tt

pub on_err-always : {A E P : Type 0} (r : Result A E) → P → OnErr r P
on_err-always (Ok x) p = tt
on_err-always (Err x) p = p

pub if_ok_both : {A E : Type 0} (P Q R : A → Type 0) (r : Result A E) → IfOk r P → IfOk r Q → ((x : A) → P x → Q x → R x) → IfOk r R
if_ok_both P Q R (Ok x) p q to = to x p q
if_ok_both P Q R (Err e) p q to = tt

pub if_ok_on : {A E : Type 0} {P Q : A → Type 0} {S : Type 0} (r : Result A E) → ((a : A) → P a → S → Q a) → IfOk r P → OnOk r S → IfOk r Q
if_ok_on (Ok a) to p s = to a p s
if_ok_on (Err e) to p s = tt

-- Functions

pub same_function : {A B : Type 0} (f g : A → B) → ((x : A) → f x ≡ g x) → f ≡ g
same_function f g h = λ i x. h x i
