use Rattle.std.proofs.Common.{◌≡◌, Err, sym, ap, ◌∙◌}
use Rattle.toml.specs.View.{table_view}
use Rattle.profile_toml.specs.declared.error.ProfileError.TheVariants.{Memory}
use Rattle.profile_toml.specs.Profiles.{profile_of}
use Rattle.profile_toml.proofs.DocumentFacts.{not_toml, profile_read, fault_read}
use Rattle.list_laws.proofs.Truths.{if_err-from_same}
use Rattle.profile_toml.proofs.read.read_profile.Goals as goal

pub returns-in_err-table-clause-err : goal.returns-in_err-table-clause-err
returns-in_err-table-clause-err c =
    if_err-from_same (λ e. (e ≡ Memory → ⊥) → profile_of c.args.bytes.now ≡ Err e) c.from_residual.result c.in_err-table.field-0.0 c.from_residual.ensures.1
    (λ n. let h = c.in_err-table.ensures.err n in not_toml c.args.bytes.now h.1 ∙ ap Err (sym h.0))

pub returns-clause-ok : goal.returns-clause-ok
returns-clause-ok c = profile_read c.args.bytes.now (table_view c.in_ok-table.table) c.read_table.result c.in_ok-table.ensures.ok c.read_table.ensures

pub returns-clause-err : goal.returns-clause-err
returns-clause-err c = fault_read c.args.bytes.now (table_view c.in_ok-table.table) c.read_table.result c.in_ok-table.ensures.ok c.read_table.ensures
