-- The tokens of lists.
use Rattle.std.proofs.Common.{◌≡◌, ◌≤◌, ℕ, List, [], ◌∷◌, ◌++◌, length, take, map, Result, Ok, Err, OnOk, refl, sym, ap, ◌∙◌, append_assoc}
use Rattle.std.proofs.lemmas.List.{take_all}
use Rattle.std.specs.List.{flat_map}
use Rattle.json.specs.Token.{Token}
use Rattle.json.specs.Tree.{items_tokens}
use Rattle.serde_json.specs.Data.{Data}
use Rattle.serde_json.specs.View.{items_of}
use Rattle.serde_json.specs.Written.{items_outline}
use Rattle.manifest_json.specs.Texts.{tokens_of}

pub items_each : {A : Type 0} (g : A → Data) (xs : List A) → items_tokens (items_outline (items_of (map g xs))) ≡ flat_map (λ x. tokens_of (g x)) xs ++ Token.end_array ∷ []
items_each g [] = refl
items_each g (x ∷ xs) = ap (λ ts. tokens_of (g x) ++ ts) (items_each g xs) ∙ sym (append_assoc (tokens_of (g x)) (flat_map (λ x. tokens_of (g x)) xs) (Token.end_array ∷ []))

-- pieces written one after the other
pub five_pieces : (w a b c d e : List Token) → ((((w ++ a) ++ b) ++ c) ++ d) ++ e ≡ w ++ (a ++ (b ++ (c ++ (d ++ e))))
five_pieces w a b c d e = simp append_assoc

pub on_ok : {T E : Type 0} {P Q : Type 0} (r : Result T E) → (P → Q) → OnOk r P → OnOk r Q
on_ok (Ok x) f h = f h
on_ok (Err e) f h = h

-- the tokens of a list, all of whose items are written
module _ {A : Type 0} (g : A → Data) (xs : List A) (start : List Token) where
  pub list_written : (written : List Token) (i : ℕ) → length xs ≤ i → written ≡ start ++ Token.begin_array ∷ flat_map (λ x. tokens_of (g x)) (take i xs)
      → written ++ Token.end_array ∷ [] ≡ start ++ Token.begin_array ∷ items_tokens (items_outline (items_of (map g xs)))
  list_written written i all h =
      let each = flat_map (λ x. tokens_of (g x)) in
      ap (λ ts. ts ++ Token.end_array ∷ []) (h ∙ ap (λ l. start ++ Token.begin_array ∷ each l) (take_all i xs all))
      ∙ append_assoc start (Token.begin_array ∷ each xs) (Token.end_array ∷ [])
      ∙ ap (λ ts. start ++ Token.begin_array ∷ ts) (sym (items_each g xs))
