use Rattle.std.proofs.Common.{◌≡◌, true, false, nat_le, sym, subst, ◌∙◌}
use Rattle.toml.specs.View.{table_view}
use Rattle.profile_toml.specs.Faults.{Reads}
use Rattle.profile_toml.specs.Floats.{members_have_float}
use Rattle.profile_toml.specs.Levels.{members_levels}
use Rattle.profile_toml.specs.Profiles.{document_value}
use Rattle.profile_toml.proofs.DocumentFacts.{within, document_fault_is}
use Rattle.profile_toml.proofs.read.read_table.Goals as goal

pub read_sound-requires : goal.read_sound-requires
read_sound-requires c = record {
  shallow = within (members_levels (table_view c.args.table)) (sym c.table_fits.ensures ∙ c.if-not-table_fits.false);
  no_floats = sym c.table_has_float.ensures ∙ c.if-table_has_float.false;
}

pub returns : goal.returns
returns c =
    let ms = table_view c.args.table in
    let flat : nat_le (members_levels ms) 63 ≡ true = sym c.table_fits.ensures ∙ c.if-not-table_fits.false in
    let no_floats : members_have_float ms ≡ false = sym c.table_has_float.ensures ∙ c.if-table_has_float.false in
    subst (λ f. Reads f (document_value ms) c.read_sound.result) (sym (document_fault_is ms flat no_floats)) c.read_sound.ensures
