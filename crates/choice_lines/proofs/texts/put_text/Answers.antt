use Rattle.std.proofs.Common.{cond, sym, ◌∙◌, Some}
use Rattle.std.specs.HashMap.{get_by_text}
use Rattle.std.specs.Option.{option_or}
use Rattle.std.specs.Str.{bytes_eq}
use Rattle.std.specs.String.{string_bytes}
use Rattle.std.proofs.lemmas.Map.Text.{hash_map_updates_text}
use Rattle.choice_lines.proofs.texts.put_text.Goals as goal

pub returns-in_ok-insert : goal.returns-in_ok-insert
returns-in_ok-insert c text =
    let old = get_by_text c.args.texts.now text in
    let bytes = c.in_ok-from_str.ensures.ok ∙ c.text.ensures.same in
    hash_map_updates_text (string_bytes c.in_ok-from_str.field-0) c.args.texts.now c.insert.new.self (Some c.in-Some.action) c.in_ok-insert.ensures.updates text
    ∙ (λ i. cond (bytes_eq (bytes i) text) (option_or (sym c.in-Some.is i) old) old)
