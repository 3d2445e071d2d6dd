use Rattle.std.proofs.Common.{◌≡◌, true, false, nat_eq, sym, ap, ◌∙◌}
use Rattle.std.specs.Map.{keys_of}
use Rattle.std.specs.Cmp.Lexicographic.{pointwise}
use Rattle.profile_toml.specs.Kept.{is_type}
use Rattle.profile_toml.specs.Texts.{is_mod_id}
use Rattle.list_laws.proofs.Lookups.{found-any}
use Rattle.profile_toml.proofs.Texts.{no_type, none_if, some_if, if_false, if_true}
use Rattle.profile_toml.proofs.optional.type_of.Goals as goal

pub returns-in_default : goal.returns-in_default
returns-in_default c =
    let text = c.args.text.now in
    let ids = keys_of c.args.types.now.entries in
    if_false (is_type ids text) text (no_type ids text c.requires (none_if (is_mod_id text) text (sym c.in_default.is ∙ c.in_ok-id.ensures)))

pub returns-then-not-contains_key : goal.returns-then-not-contains_key
returns-then-not-contains_key c =
    let text = c.args.text.now in
    let es = c.args.types.now.entries in
    let is = (some_if (is_mod_id text) text c.in-Some.id (sym c.in-Some.is ∙ c.in_ok-id.ensures)).1 in
    if_false (is_type (keys_of es) text) text (ap (is_type (keys_of es)) (sym is) ∙ sym (found-any (pointwise nat_eq c.in-Some.id) es) ∙ sym c.contains_key.ensures ∙ c.if-not-contains_key.true)

pub returns : goal.returns
returns c =
    let text = c.args.text.now in
    let es = c.args.types.now.entries in
    let is = (some_if (is_mod_id text) text c.in-Some.id (sym c.in-Some.is ∙ c.in_ok-id.ensures)).1 in
    if_true (is_type (keys_of es) text) text c.in-Some.id (ap (is_type (keys_of es)) (sym is) ∙ sym (found-any (pointwise nat_eq c.in-Some.id) es) ∙ sym c.contains_key.ensures ∙ c.if-not-contains_key.false) is
