-- Look-ups in lists of keys with values.
use Rattle.std.proofs.Common.{◌≡◌, Bool, true, false, cond, List, [], ◌∷◌, ◌++◌, map, Some, None, is_some, refl, sym, ap, subst, ◌∙◌}
use Rattle.std.specs.List.{IsDistinct, list_any}
use Rattle.std.specs.Map.{keys_of, lookup, set_value}
use Rattle.list_laws.proofs.Alls.{all_middle}

-- a key is found where it is among the keys
pub found-any : {K V : Type 0} (test : K → Bool) (es : List (K × V)) → is_some (lookup test es) ≡ list_any test (keys_of es)
found-any test [] = refl
found-any test (e ∷ es) = at (test e.0) refl (found-any test es)
  where
    at : (b : Bool) → test e.0 ≡ b → is_some (lookup test es) ≡ list_any test (keys_of es) → is_some (lookup test (e ∷ es)) ≡ list_any test (keys_of (e ∷ es))
    at true p rest = rw p refl
    at false p rest = rw p rest

pub lookup-set_value : {K X : Type 0} (test : K → Bool) (es : List (K × X)) (v w : X) → lookup test es ≡ Some v → lookup test (set_value test es w) ≡ Some w
lookup-set_value t [] v w h = let never : ⊥ = cc in absurd never
lookup-set_value t (e ∷ es) v w h = by (t e.0) refl (lookup-set_value t es v w)
  where
    by : (b : Bool) → t e.0 ≡ b → (lookup t es ≡ Some v → lookup t (set_value t es w) ≡ Some w) → lookup t (set_value t (e ∷ es) w) ≡ Some w
    by true is rest = subst (λ b. lookup t (cond b ((e.0, w) ∷ es) (e ∷ set_value t es w)) ≡ Some w) (sym is) (ap (λ b. cond b (Some w) (lookup t es)) is)
    by false is rest =
        subst (λ b. lookup t (cond b ((e.0, w) ∷ es) (e ∷ set_value t es w)) ≡ Some w) (sym is)
        (ap (λ b. cond b (Some e.1) (lookup t (set_value t es w))) is ∙ rest (sym (ap (λ b. cond b (Some e.1) (lookup t es)) is) ∙ h))

-- of keys that differ, a later one isn't found among the earlier ones
pub fresh_key : {K V : Type 0} (e : K → K → Bool) → ((x y : K) → e x y ≡ e y x) → (v : V) (ys : List K) (x : K) (zs : List K) → IsDistinct e (ys ++ x ∷ zs) → lookup (e x) (map (λ k. (k, v)) ys) ≡ None
unfolding IsDistinct
fresh_key e flips v [] x zs h = refl
fresh_key e flips v (y ∷ ys) x zs h =
    let other : e x y ≡ false = flips x y ∙ all_middle (λ z. e y z ≡ false) ys x zs h.0 in
    ap (λ b. cond b (Some v) (lookup (e x) (map (λ k. (k, v)) ys))) other ∙ fresh_key e flips v ys x zs h.1
