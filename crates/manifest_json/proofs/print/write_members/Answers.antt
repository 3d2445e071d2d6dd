use Rattle.std.proofs.Common.{◌≡◌, [], ◌∷◌, ◌++◌, codes, ap, ◌∙◌}
use Rattle.hex.specs.Hex.{encode_lower}
use Rattle.json.specs.Token.{Token}
use Rattle.manifest_json.proofs.Printed.{on_ok, five_pieces}
use Rattle.manifest_json.proofs.print.write_members.Goals as goal

pub returns-clause-tokens : goal.returns-clause-tokens
returns-clause-tokens c =
    let w = c.args.writer.now.tokens in
    let r = c.args.row.now in
    let digest = Token.key (codes "digest") ∷ Token.string (encode_lower r.digest.bytes) ∷ [] in
    let id = Token.key (codes "mod") ∷ Token.string r.mod_id ∷ [] in
    let path = Token.key (codes "path") ∷ Token.string r.path ∷ [] in
    let key = Token.key (codes "shadowed") ∷ [] in
    let flag = Token.boolean r.shadowed ∷ [] in
    let first = c.in_ok-write_text.ensures.tokens ∙ ap (λ s. w ++ Token.key (codes "digest") ∷ Token.string s ∷ []) (c.as_str.ensures.value ∙ c.in_ok-text.ensures.exact) in
    let second = c.in_ok-write_text-2.ensures.tokens ∙ ap (λ s. c.write_text.new.writer.tokens ++ Token.key (codes "mod") ∷ Token.string s ∷ []) c.text-2.ensures.same ∙ ap (λ t. t ++ id) first in
    let third = c.in_ok-write_text-3.ensures.tokens ∙ ap (λ s. c.write_text-2.new.writer.tokens ++ Token.key (codes "path") ∷ Token.string s ∷ []) c.text-3.ensures.same ∙ ap (λ t. t ++ path) second in
    let fourth = c.in_ok-key.ensures.ok ∙ ap (λ t. t ++ key) third in
    on_ok c.boolean.result (λ last. last ∙ ap (λ t. t ++ flag) fourth ∙ five_pieces w digest id path key flag) c.boolean.ensures.ok
