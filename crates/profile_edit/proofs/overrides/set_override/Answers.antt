use Rattle.std.proofs.Common.{◌≡◌, ◌++◌, ◌∷◌, [], None, ap, sym, subst, refl, ◌∙◌, nat_eq}
use Rattle.std.specs.Cmp.Lexicographic.{pointwise}
use Rattle.std.specs.Str.{bytes_eq}
use Rattle.std.specs.Option.{option_map}
use Rattle.list_laws.proofs.Truths.{none-from_map}
use Rattle.indexmap.proofs.CallerLemmas.{insert_entry-new}
use Rattle.toml.specs.Data.{no_members}
use Rattle.profile_toml.specs.Records.{OverrideData, AreAtTheirPaths}
use Rattle.profile_edit.specs.Parts.{value_at, with_value, with_mod_id}
use Rattle.profile_edit.proofs.Applied.{override_set, override_added, pointed}
use Rattle.profile_edit.proofs.Keyed.{keyed-with_value, keyed-push}
use Rattle.profile_edit.proofs.overrides.set_override.Goals as goal

pub returns-in-Some-clause-result : goal.returns-in-Some-clause-result
returns-in-Some-clause-result c =
    let id = c.args.id.now in
    let same = c.in-Some.ensures ∙ pointed id c.get.result ∙ ap (option_map (λ x. bytes_eq x.mod_id id)) c.get.ensures.value in
    override_set c.args.path.now id c.args.overrides.now.entries c.set_mod.new.overrides.entries c.in-Some.same c.requires.keyed same
    (c.set_mod.ensures ∙ ap (λ k. with_value c.args.path.now (with_mod_id k) c.args.overrides.now.entries) c.in_ok-copy-in-Some.ensures)

pub returns-in-Some-clause-keyed : goal.returns-in-Some-clause-keyed
returns-in-Some-clause-keyed c = subst AreAtTheirPaths (sym c.set_mod.ensures) (keyed-with_value c.args.path.now _ c.args.overrides.now.entries c.requires.keyed)

pub returns-in-Ok-clause-result : goal.returns-in-Ok-clause-result
returns-in-Ok-clause-result c =
    let id = c.args.id.now in
    let path = c.args.path.now in
    let old = c.args.overrides.now.entries in
    let none : value_at path old ≡ None = none-from_map (λ x. bytes_eq x.mod_id id) (value_at path old) (sym c.in-None.is ∙ c.is_to.ensures ∙ pointed id c.get.result ∙ ap (option_map (λ x. bytes_eq x.mod_id id)) c.get.ensures.value) in
    let fresh = ap (λ k. value_at k old) c.in_ok-copy-in-None-3.ensures ∙ none in
    let entry : c.plain-entry.result ≡ record { path = path; mod_id = id; extra = no_members } = c.plain-entry.ensures ∙ λ i. record { path = c.in_ok-copy-in-None.ensures i; mod_id = c.in_ok-copy-in-None-2.ensures i; extra = no_members } in
    let entries = c.in-Ok.ensures.entries ∙ insert_entry-new (pointwise nat_eq) c.args.overrides.now c.in_ok-copy-in-None-3.field-0 c.plain-entry.result fresh in
    override_added path id old c.insert.new.self.entries c.requires.keyed none (entries ∙ λ i. old ++ (c.in_ok-copy-in-None-3.ensures i, entry i) ∷ [])

pub returns-in-Ok-clause-keyed : goal.returns-in-Ok-clause-keyed
returns-in-Ok-clause-keyed c =
    let id = c.args.id.now in
    let path = c.args.path.now in
    let old = c.args.overrides.now.entries in
    let none : value_at path old ≡ None = none-from_map (λ x. bytes_eq x.mod_id id) (value_at path old) (sym c.in-None.is ∙ c.is_to.ensures ∙ pointed id c.get.result ∙ ap (option_map (λ x. bytes_eq x.mod_id id)) c.get.ensures.value) in
    let fresh = ap (λ k. value_at k old) c.in_ok-copy-in-None-3.ensures ∙ none in
    let entry : c.plain-entry.result ≡ record { path = path; mod_id = id; extra = no_members } = c.plain-entry.ensures ∙ λ i. record { path = c.in_ok-copy-in-None.ensures i; mod_id = c.in_ok-copy-in-None-2.ensures i; extra = no_members } in
    let entries = c.in-Ok.ensures.entries ∙ insert_entry-new (pointwise nat_eq) c.args.overrides.now c.in_ok-copy-in-None-3.field-0 c.plain-entry.result fresh in
    let made : OverrideData = record { path = path; mod_id = id; extra = no_members } in
    subst AreAtTheirPaths (sym (entries ∙ λ i. old ++ (c.in_ok-copy-in-None-3.ensures i, entry i) ∷ [])) (keyed-push old (path, made) c.requires.keyed refl)
