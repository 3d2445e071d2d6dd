use Rattle.std.proofs.Common.{true, false, nat_le, length, refl, sym, ap, ◌∙◌}
use Rattle.rel_paths.specs.Names.{names_of}
use Rattle.profile_toml.proofs.Texts.{base_by, too_many, not_too_many}
use Rattle.profile_toml.proofs.pieces.is_base.Goals as goal

pub returns-then-is_reserved : goal.returns-then-is_reserved
returns-then-is_reserved c = base_by c.args.path.now true _ _ c.requires (sym c.is_reserved.ensures ∙ c.if-is_reserved.true) refl refl

pub returns-then-count_names-gt-BASE_NAMES : goal.returns-then-count_names-gt-BASE_NAMES
returns-then-count_names-gt-BASE_NAMES c =
    let path = c.args.path.now in
    let count = sym (c.count_names.ensures ∙ ap (λ t. length (names_of t)) c.text.ensures.same) in
    base_by path false false _ c.requires (sym c.is_reserved.ensures ∙ c.if-is_reserved.false)
    (ap (λ n. nat_le n 8) count ∙ too_many c.count_names.result c.if-count_names-gt-BASE_NAMES.true) refl

pub returns : goal.returns
returns c =
    let path = c.args.path.now in
    let count = sym (c.count_names.ensures ∙ ap (λ t. length (names_of t)) c.text.ensures.same) in
    base_by path false true _ c.requires (sym c.is_reserved.ensures ∙ c.if-is_reserved.false)
    (ap (λ n. nat_le n 8) count ∙ not_too_many c.count_names.result c.if-count_names-gt-BASE_NAMES.false)
    (ap (λ t. nat_le (length t) 300) (sym c.text-2.ensures.same))
