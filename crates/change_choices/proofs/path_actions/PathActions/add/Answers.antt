use Rattle.std.proofs.Common.{rules, nat_eq, true, false, is_some, None, ◌≡◌, ◌∙◌, sym, ap, subst, true≢false}
use Rattle.std.specs.Cmp.Lexicographic.{pointwise}
use Rattle.std.specs.Map.{lookup}
use Rattle.std.specs.Str.{bytes_eq}
use Rattle.list_laws.proofs.Truths.{none-from_is_some}
use Rattle.indexmap.proofs.CallerLemmas.{insert_entry-new}
use Rattle.change_choices.proofs.path_actions.PathActions.add.Goals as goal
use Rattle.change_choices.proofs.path_actions.PathActions.add.Goals.{in-Ok, in-Err}

pub returns-then-contains_key-clause-added : goal.returns-then-contains_key-clause-added
returns-then-contains_key-clause-added c absent =
    let there = subst (λ es. lookup (bytes_eq c.args.path) es ≡ None) (sym c.self.view_is) absent in
    let found : true ≡ false = sym c.if-contains_key.true ∙ (c.contains_key.ensures ∙ ap is_some there) in
    absurd (true≢false found)

pub returns-clause-kept : goal.returns-clause-kept
returns-clause-kept c present =
    let none : lookup (bytes_eq c.args.path) c.self.inside.by_path.entries ≡ None = none-from_is_some _ (sym c.contains_key.ensures ∙ c.if-contains_key.false) in
    absurd (present (subst (λ es. lookup (bytes_eq c.args.path) es ≡ None) c.self.view_is none))

pub returns-clause-added : goal.returns-clause-added
returns-clause-added c absent =
    let there = subst (λ es. lookup (bytes_eq c.args.path) es ≡ None) (sym c.self.view_is) absent in
    let new = insert_entry-new (pointwise nat_eq) c.self.inside.by_path c.args.path c.args.action there in
    elim c.match-insert.branch [ in-Ok w ↦ search (rules, new) | in-Err w ↦ search rules ]
