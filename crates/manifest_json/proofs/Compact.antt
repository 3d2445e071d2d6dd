-- Compact JSON is read as the value that it was written for.
use Rattle.std.proofs.Common.{◌≡◌, ◌≤◌, suc, max, List, [], Option, Some, option_and_then, refl, ap, sym, ◌∙◌, append-nil, arith}
use Rattle.json.specs.Token.{Token}
use Rattle.json.specs.Lex.{tokens}
use Rattle.json.specs.Json as json
use Rattle.json.specs.Tree as tree
use Rattle.json.proofs.Printed.Tokens.{tokens-print}
use Rattle.json.proofs.Printed.Trees.{value-json_tokens, ArePrintable-json_tokens}
use Rattle.serde_json.specs.Data.{Data, null, boolean, number, string, array, object, Items, no_items, item, Members, no_members, member, depth, items_depth, members_depth}
use Rattle.serde_json.specs.Read.{read, of_json, max_depth}
use Rattle.serde_json.specs.Written.{compact_text, outline, items_outline, members_outline}
use Rattle.serde_json.proofs.Texts.{print-outline}
use Rattle.manifest_json.proofs.Plain.{IsPlain}

mutual
  depth_is : (d : Data) → tree.depth (outline d) ≡ depth d
  depth_is null = refl
  depth_is (boolean b) = refl
  depth_is (number n) = refl
  depth_is (string s) = refl
  depth_is (array ds) = ap suc (items_depth_is ds)
  depth_is (object ms) = ap suc (members_depth_is ms)

  items_depth_is : (ds : Items) → tree.items_depth (items_outline ds) ≡ items_depth ds
  items_depth_is no_items = refl
  items_depth_is (item d ds) = λ i. max (depth_is d i) (items_depth_is ds i)

  members_depth_is : (ms : Members) → tree.members_depth (members_outline ms) ≡ members_depth ms
  members_depth_is no_members = refl
  members_depth_is (member k d ms) = λ i. max (depth_is d i) (members_depth_is ms i)

whole : Option (json.Json × List Token) → Option Data
whole o = option_and_then of_json (option_and_then (λ p. json.if_last p.0 p.1) o)

pub read_compact : (d : Data) → IsPlain max_depth d → read (compact_text d) ≡ Some d
unfolding whole
read_compact d h =
    let j = outline d in
    let within : tree.depth j ≤ max_depth = omega (arith, depth_is d, h.shallow) in
    ap (λ t. whole (json.value max_depth (tokens t))) (sym (print-outline d))
    ∙ ap (λ ts. whole (json.value max_depth ts)) (tokens-print (tree.json_tokens j) (ArePrintable-json_tokens j h.numbers) ∙ sym (append-nil (tree.json_tokens j)))
    ∙ ap whole (value-json_tokens j max_depth [] within)
    ∙ h.back
