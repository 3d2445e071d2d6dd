-- The tokens of what is written piece by piece.
use Rattle.std.proofs.Common.{◌≡◌, ◌≤◌, ℕ, List, [], ◌∷◌, ◌++◌, map, length, drop, sym, ap, ◌∙◌}
use Rattle.std.proofs.lemmas.List.{append_assoc, at_drop_all}
use Rattle.json.specs.Token.{Token, end_array}
use Rattle.json.specs.Tree.{items_tokens}
use Rattle.serde_json.specs.Data.{Data}
use Rattle.serde_json.specs.View.{items_of}
use Rattle.serde_json.specs.Written.{items_outline}

-- the tokens of the values of these, with the closing bracket
abbrev pub list_tokens : {A : Type 0} → (A → Data) → List A → List Token
list_tokens g xs = items_tokens (items_outline (items_of (map g xs)))

-- one piece behind another
pub behind : (old a b now new : List Token) → now ≡ old ++ a → new ≡ now ++ b → new ≡ old ++ (a ++ b)
behind old a b now new first second = second ∙ ap (λ ts. ts ++ b) first ∙ append_assoc old a b

-- where all values of a list are written, its bracket is left
pub all_written : {A : Type 0} (g : A → Data) (xs : List A) (i : ℕ) (now start : List Token) → length xs ≤ i → now ++ list_tokens g (drop i xs) ≡ start ++ list_tokens g xs → now ++ end_array ∷ [] ≡ start ++ list_tokens g xs
all_written g xs i now start all whole = ap (λ ts. now ++ ts) (sym (at_drop_all (list_tokens g) xs i all)) ∙ whole
