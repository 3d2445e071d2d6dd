use Rattle.std.proofs.Common.{◌≡◌, ◌++◌, ◌∷◌, [], List, ℕ, lit<, ap, sym, ◌∙◌, append_assoc}
use Rattle.std.specs.String.{string_bytes}
use Rattle.rel_paths.proofs.NamesOf.{joined-text}
use Rattle.rel_paths.proofs.names.joined.Goals as goal

-- what the pieces make together
pieces : (start one two whole above below : List ℕ) → start ≡ [] → one ≡ start ++ above → two ≡ one ++ 47 ∷ [] → whole ≡ two ++ below → whole ≡ above ++ 47 ∷ below
pieces start one two whole above below a b c d =
    d ∙ ap (λ t. t ++ below) (c ∙ ap (λ t. t ++ 47 ∷ []) (b ∙ ap (λ t. t ++ above) a)) ∙ append_assoc above (47 ∷ []) below

pub returns : goal.returns
returns c =
    pieces _ _ _ _ c.args.above.now c.args.below.now c.in_ok-text.ensures.bytes c.in_ok-push_str.ensures.bytes (c.in_ok-push.ensures.bytes ∙ ap (λ t. string_bytes c.push_str.new.self ++ t) (c.in_ok-push.ensures.ascii (lit< tt))) c.in_ok-push_str-2.ensures.bytes
    ∙ sym (joined-text c.args.above.now c.args.below.now)
