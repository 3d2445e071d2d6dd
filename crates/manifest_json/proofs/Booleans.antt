-- What tests of truth values tell.
use Rattle.std.proofs.Common.{◌≡◌, Bool, true, false, ◌&&◌, ◌||◌, refl, sym}
use Rattle.std.specs.Ordering.{is_lt}
use Rattle.std.specs.declared.cmp.Ordering.{Ordering}
use Rattle.std.specs.declared.cmp.Ordering.TheVariants.{Less, Equal, Greater}

pub neither : (a b : Bool) → (a || b) ≡ false → (a ≡ false) × (b ≡ false)
neither true b h = let never : ⊥ = cc in absurd never
neither false b h = (refl, h)

pub false_or : (a b : Bool) → a ≡ false → (a || b) ≡ b
false_or a b h = rw h

pub or_false : (a b : Bool) → b ≡ false → (a || b) ≡ a
or_false true b h = refl
or_false false b h = h

pub less : (o : Ordering) → is_lt o ≡ true → o ≡ Less
less Less h = refl
less Equal h = let never : ⊥ = cc in absurd never
less Greater h = let never : ⊥ = cc in absurd never

pub is_less : (o : Ordering) → o ≡ Less → is_lt o ≡ true
is_less o h = rw h

pub or_true : (a : Bool) → (a || true) ≡ true
or_true true = refl
or_true false = refl

pub and_false : (a : Bool) → (a && false) ≡ false
and_false true = refl
and_false false = refl

-- a test that stands in both
pub same_or : (a b c : Bool) → b ≡ a → (b || c) ≡ (a || (b || c))
same_or true b c h = rw h refl
same_or false b c h = refl

pub swap_or : (a b c : Bool) → (a || (b || c)) ≡ (b || (a || c))
swap_or true b c = sym (or_true b)
swap_or false b c = refl

pub in_front : (c e a h : Bool) → ((c && e) || ((c && a) || h)) ≡ ((c && (e || a)) || h)
in_front false e a h = refl
in_front true true a h = refl
in_front true false a h = refl

pub spread : (c b q t x y : Bool) → ((b && ((c && q) || t)) || ((c && x) || y)) ≡ ((c && ((b && q) || x)) || ((b && t) || y))
spread false b q t x y = refl
spread true false q t x y = refl
spread true true true t x y = refl
spread true true false t x y = swap_or t x y

pub three : (c p q t x y z : Bool) → (((c && p) || x) || (((c && q) || y) || ((c && t) || z))) ≡ ((c && (p || (q || t))) || (x || (y || z)))
three false p q t x y z = refl
three true true q t x y z = refl
three true false q t true y z = sym (or_true (q || t))
three true false true t false y z = refl
three true false false t false y z = swap_or y t z
