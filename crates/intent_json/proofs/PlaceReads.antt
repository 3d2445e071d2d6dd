-- Places read back.
use Rattle.std.proofs.Common.{◌≡◌, ℕ, true, false, cond, List, [], ◌∷◌, ◌++◌, map, Option, None, Some, Result, Ok, Err, codes, option_map, option_and_then, refl, ap, sym, ◌∙◌, append-nil, append_assoc}
use Rattle.std.specs.Prelude.{is_none, is_some, IfSome}
use Rattle.std.specs.List.{AllByRecursion}
use Rattle.rel_paths.specs.declared.error.PathError.{PathError}
use Rattle.serde_json.specs.Data.{Data, null, boolean, number, string, array, object}
use Rattle.serde_json.specs.Find.{get, at, as_str, as_null}
use Rattle.tree_fs.specs.declared.place.Root.{Root}
use Rattle.tree_fs.specs.declared.place.Root.TheVariants.{Stage, Game, Keep}
use Rattle.tree_fs.specs.declared.place.Place.{Place}
use Rattle.tree_fs.specs.Texts.{place_text, place_fault, root_word, root_named, word_of, below_word}
use Rattle.tree_fs.proofs.Parses.{word_of-text, below_word-text}
use Rattle.move_plan.specs.declared.plan.SetRow.{SetRow}
use Rattle.intent_json.specs.Places.{place_at, place_named, place_of, option_of, pair_of, set_of, set_from, two, all_from, place_data, option_data, pair_data, set_data}
use Rattle.intent_json.specs.Held.{IsHeld, IsHeldOption, IsHeldPair, IsHeldSet}

root_back : (r : Root) → root_named (root_word r) ≡ Some r
root_back Stage = refl
root_back Game = refl
root_back Keep = refl

named_back : (p : Place) → place_fault (place_text p) ≡ None → place_named (place_text p) ≡ Some p
unfolding place_named
named_back p h =
    ap (λ o. cond (is_none o) (place_at (root_named (word_of (place_text p))) (below_word (place_text p))) None) h
    ∙ (λ i. place_at (root_named (word_of-text p i)) (below_word-text p i)) ∙ ap (λ r. place_at r p.rel) (root_back p.root)

no_fault : (p : Place) (o : Option PathError) → IfSome o (λ e. ◌≡◌ {A = Result Place PathError} (Ok p) (Err e)) → o ≡ None
no_fault p None h = refl
no_fault p (Some e) h = let never : ⊥ = cc in absurd never

pub place_none : (d : Data) → as_str d ≡ None → None ≡ place_of d
unfolding place_of
place_none d h = sym (ap (option_and_then place_named) h)

pub place_read : (d : Data) (text : List ℕ) (p : Place) → as_str d ≡ Some text → place_text p ≡ text → IfSome (place_fault text) (λ e. ◌≡◌ {A = Result Place PathError} (Ok p) (Err e)) → Some p ≡ place_of d
unfolding place_of
place_read d text p has same good =
    let held : place_fault (place_text p) ≡ None = ap place_fault same ∙ no_fault p (place_fault text) good in
    sym (ap (option_and_then place_named) has ∙ ap place_named (sym same) ∙ named_back p held)

pub place_refused : (d : Data) (text : List ℕ) (e : PathError) → as_str d ≡ Some text → place_fault text ≡ Some e → None ≡ place_of d
unfolding place_of place_named
place_refused d text e has h =
    sym (ap (option_and_then place_named) has ∙ ap (λ o. cond (is_none o) (place_at (root_named (word_of text)) (below_word text)) None) h)

-- ---- a place or null

pub option_null : (d : Data) → is_some (as_null d) ≡ true → Some None ≡ option_of d
unfolding option_of
option_null null h = refl
option_null (boolean b) h = let never : ⊥ = cc in absurd never
option_null (number n) h = let never : ⊥ = cc in absurd never
option_null (string s) h = let never : ⊥ = cc in absurd never
option_null (array ds) h = let never : ⊥ = cc in absurd never
option_null (object ms) h = let never : ⊥ = cc in absurd never

pub option_other : (d : Data) → is_some (as_null d) ≡ false → option_of d ≡ option_map Some (place_of d)
unfolding option_of
option_other null h = let never : ⊥ = cc in absurd never
option_other (boolean b) h = refl
option_other (number n) h = refl
option_other (string s) h = refl
option_other (array ds) h = refl
option_other (object ms) h = refl

-- ---- pairs and sets by their parts

pub pair_by : (d : Data) (a b : Option Data) → at 0 d ≡ a → at 1 d ≡ b → pair_of d ≡ two (option_and_then place_of a) (option_and_then place_of b)
unfolding pair_of
pair_by d a b h k = λ i. two (option_and_then place_of (h i)) (option_and_then place_of (k i))

pub two_none : {A B : Type 0} (o : Option A) → two {A = A} {B = B} o None ≡ None
two_none None = refl
two_none (Some x) = refl

pub set_by : (d : Data) (a b c : Option Data) → get (codes "to") d ≡ a → get (codes "from") d ≡ b → get (codes "back") d ≡ c → set_of d ≡ set_from (option_and_then place_of a) (option_and_then option_of b) (option_and_then option_of c)
unfolding set_of
set_by d a b c h k l = λ i. set_from (option_and_then place_of (h i)) (option_and_then option_of (k i)) (option_and_then option_of (l i))

pub set_none_2 : (o : Option Place) (q : Option (Option Place)) → set_from o None q ≡ None
set_none_2 None q = refl
set_none_2 (Some p) q = refl

pub set_none_3 : (o : Option Place) (q : Option (Option Place)) → set_from o q None ≡ None
set_none_3 None q = refl
set_none_3 (Some p) None = refl
set_none_3 (Some p) (Some q) = refl

-- ---- lists

module _ {A : Type 0} (f : Data → Option A) (done : List A) (d : Data) (ds : List Data) where
  pub all_none : f d ≡ None → all_from f done (d ∷ ds) ≡ None
  all_none h = ap (option_and_then (λ x. all_from f (done ++ x ∷ []) ds)) h

  pub all_more : (x : A) → f d ≡ Some x → all_from f done (d ∷ ds) ≡ all_from f (done ++ x ∷ []) ds
  all_more x h = ap (option_and_then (λ x. all_from f (done ++ x ∷ []) ds)) h

-- ---- and back

pub place_back : (p : Place) → IsHeld p → place_of (place_data p) ≡ Some p
unfolding place_of
place_back p h = named_back p h

pub option_back : (o : Option Place) → IsHeldOption o → option_of (option_data o) ≡ Some o
unfolding option_of
option_back None h = refl
option_back (Some p) h = ap (option_map Some) (place_back p h)

pub pair_back : (s : Place × Place) → IsHeldPair s → pair_of (pair_data s) ≡ Some s
unfolding pair_of
pair_back s h = λ i. two (place_back s.0 h.from i) (place_back s.1 h.to i)

pub set_back : (s : SetRow) → IsHeldSet s → set_of (set_data s) ≡ Some s
unfolding set_of
set_back s h = λ i. set_from (place_back s.to h.to i) (option_back s.from h.from i) (option_back s.back h.back i)

pub all_back : {A : Type 0} (f : Data → Option A) (g : A → Data) (P : A → Type 0) → ((x : A) → P x → f (g x) ≡ Some x) → (done xs : List A) → AllByRecursion P xs → all_from f done (map g xs) ≡ Some (done ++ xs)
all_back f g P back done [] h = ap Some (sym (append-nil done))
all_back f g P back done (x ∷ xs) h = all_more f done (g x) (map g xs) x (back x h.0) ∙ all_back f g P back (done ++ x ∷ []) xs h.1 ∙ ap Some (append_assoc done (x ∷ []) xs)
