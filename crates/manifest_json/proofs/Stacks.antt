-- The stack finds exactly the paths that extend an earlier one.
use Rattle.std.proofs.Common.{◌≡◌, ℕ, nat_eq, true, false, ◌||◌, cond, List, [], ◌∷◌, ◌++◌, length, drop, refl, sym, ap, ◌∙◌, append_assoc, append-nil}
use Rattle.std.specs.List.{starts_with, list_any}
use Rattle.std.specs.Ordering.{nat_cmp}
use Rattle.std.specs.declared.cmp.Ordering.TheVariants.{Less, Equal}
use Rattle.std.specs.Cmp.Lexicographic.{slice_cmp, nat_list_cmp_total}
use Rattle.std.proofs.lemmas.Cmp.{tied_itself}
use Rattle.std.proofs.lemmas.List.{append_cancel_left}
use Rattle.manifest_json.specs.Paths.{is_above}
use Rattle.rel_paths.specs.Names.{extends}
use Rattle.manifest_json.specs.Stack.{still_open, open_of, extends_first, IsLine}
use Rattle.manifest_json.proofs.Booleans.{less, false_or, or_false}
use Rattle.rel_paths.proofs.Extends.{extends-below, extends-not}
use Rattle.manifest_json.proofs.Lines.{AreBelow, between, all_below, begins, begins_with}

not_less : (p : List ℕ) → slice_cmp nat_cmp p p ≡ Less → ⊥
not_less p h = let same : slice_cmp nat_cmp p p ≡ Equal = tied_itself nat_list_cmp_total p in cc

-- what extends a path below one that it begins with, is that path's extension too
through : (q r p x rest : List ℕ) → slice_cmp nat_cmp q r ≡ Less → slice_cmp nat_cmp r p ≡ Less → p ≡ r ++ x → p ≡ q ++ 47 ∷ rest → extends r q ≡ true
through q r p x rest h k at below = go (found.0) found.1
  where
    found : (y : List ℕ) × (r ≡ q ++ y)
    found = between q r p (47 ∷ rest) h k below

    go : (y : List ℕ) → r ≡ q ++ y → extends r q ≡ true
    go [] e = let same : r ≡ q = e ∙ append-nil q in absurd (not_less q (ap (slice_cmp nat_cmp q) (sym same) ∙ h))
    go (c ∷ y) e =
        let two : q ++ (c ∷ (y ++ x)) ≡ q ++ 47 ∷ rest = sym (append_assoc q (c ∷ y) x) ∙ ap (λ l. l ++ x) (sym e) ∙ sym at ∙ below in
        let tails : c ∷ (y ++ x) ≡ 47 ∷ rest = append_cancel_left q _ _ two in
        let slash : c ≡ 47 = cc in
        extends-below r q y (e ∙ ap (λ d. q ++ d ∷ y) slash)

-- a path that begins with r extends nothing below r, where r extends nothing
none_below : (r p x : List ℕ) (qs : List (List ℕ)) → AreBelow r qs → slice_cmp nat_cmp r p ≡ Less → p ≡ r ++ x → list_any (extends r) qs ≡ false → list_any (extends p) qs ≡ false
none_below r p x [] below k at h = refl
none_below r p x (q ∷ qs) below k at h =
    let first : extends r q ≡ false = elim (extends r q) as (λ b. (b || list_any (extends r) qs) ≡ false → b ≡ false) [ true ↦ λ g. let never : ⊥ = cc in absurd never | false ↦ λ g. refl ] h in
    let others : list_any (extends r) qs ≡ false = sym (false_or (extends r q) _ first) ∙ h in
    let here : extends p q ≡ false = extends-not p q (λ rest e. let there : extends r q ≡ true = through q r p x rest below.0 k at e in let never : ⊥ = cc in never) in
    false_or (extends p q) _ here ∙ none_below r p x qs below.1 k at others

-- texts that r doesn't begin with, p above r doesn't begin with
skip : (r p : List ℕ) (ts : List (List ℕ)) → AreBelow r ts → slice_cmp nat_cmp r p ≡ Less → still_open p (still_open r ts) ≡ still_open p ts
skip r p [] below k = refl
skip r p (t ∷ ts) below k =
    elim (starts_with nat_eq r t) as (λ b. starts_with nat_eq r t ≡ b → still_open p (cond b (t ∷ ts) (still_open r ts)) ≡ still_open p (t ∷ ts)) [
      | true ↦ λ e. refl
      | false ↦ λ e.
          let lacks : starts_with nat_eq p t ≡ false = elim (starts_with nat_eq p t) as (λ b. starts_with nat_eq p t ≡ b → b ≡ false) [
            | true ↦ λ g. let y = between t r p _ below.0 k (begins p t g) in let there : starts_with nat_eq r t ≡ true = begins_with r t y.0 y.1 in let never : ⊥ = cc in absurd never
            | false ↦ λ g. refl
          ] refl in
          skip r p ts below.1 k ∙ ap (λ b. cond b (t ∷ ts) (still_open p ts)) (sym lacks)
    ] refl

still_below : (r p : List ℕ) (ts : List (List ℕ)) → AreBelow r ts → AreBelow r (still_open p ts)
still_below r p [] h = tt
still_below r p (t ∷ ts) h = elim (starts_with nat_eq p t) as (λ b. AreBelow r (cond b (t ∷ ts) (still_open p ts))) [ true ↦ h | false ↦ still_below r p ts h.1 ]

open_below : (r : List ℕ) (ps : List (List ℕ)) → AreBelow r ps → AreBelow r (open_of ps)
open_below r [] h = tt
open_below r (p ∷ ps) h = (h.0, still_below r p (open_of ps) (open_below r ps h.1))

-- the one test tells all
pub nested_is : (ps : List (List ℕ)) (p : List ℕ) → IsLine ps → is_above ps p ≡ true → list_any (extends p) ps ≡ extends_first p (still_open p (open_of ps))
nested_is [] p line above = refl
nested_is (r ∷ ps) p line above =
    let under : slice_cmp nat_cmp r p ≡ Less = less _ above in
    let below : AreBelow r ps = all_below ps r line.2 line.0 in
    let above_others : AreBelow p ps = (all_below (r ∷ ps) p line above).1 in
    elim (starts_with nat_eq p r) as (λ b. starts_with nat_eq p r ≡ b → (extends p r || list_any (extends p) ps) ≡ extends_first p (cond b (r ∷ still_open r (open_of ps)) (still_open p (still_open r (open_of ps))))) [
      | true ↦ λ e. or_false (extends p r) _ (none_below r p (drop (length r) p) ps below under (begins p r e) line.1)
      | false ↦ λ e.
          let lacks : extends p r ≡ false = extends-not p r (λ rest g. let there : starts_with nat_eq p r ≡ true = begins_with p r (47 ∷ rest) g in let never : ⊥ = cc in never) in
          false_or (extends p r) _ lacks
          ∙ nested_is ps p line.2 (under_head ps p above_others)
          ∙ ap (extends_first p) (sym (skip r p (open_of ps) (open_below r ps below) under))
    ] refl
  where
    under_head : (ps : List (List ℕ)) (p : List ℕ) → AreBelow p ps → is_above ps p ≡ true
    under_head [] p h = refl
    under_head (q ∷ ps) p h = rw h.0
