use Rattle.std.proofs.Common.{not, ap, sym, subst, ◌∙◌}
use Rattle.std.specs.Str.{bytes_eq}
use Rattle.profile_toml.specs.Records.{AreAtTheirPaths}
use Rattle.profile_edit.proofs.Applied.{override_dropped, override_missing}
use Rattle.profile_edit.proofs.Keyed.{keyed-remove_entry}
use Rattle.profile_edit.proofs.overrides.drop_override.Goals as goal

pub returns-then-is_none-clause-result : goal.returns-then-is_none-clause-result
returns-then-is_none-clause-result c =
    override_missing c.args.path.now c.args.overrides.now.entries c.shift_remove.new.self.entries c.shift_remove.result c.in_ok-no_override.field-0 c.requires c.shift_remove.ensures.value
    (c.is_none.ensures ∙ ap not c.if-is_none.true) c.shift_remove.ensures.unchanged c.in_ok-no_override.ensures

pub returns-clause-result : goal.returns-clause-result
returns-clause-result c =
    override_dropped c.args.path.now c.args.overrides.now.entries c.shift_remove.new.self.entries c.shift_remove.result c.requires c.shift_remove.ensures.value
    (c.is_none.ensures ∙ ap not c.if-is_none.false) c.shift_remove.ensures.entries c.shift_remove.ensures.len

pub returns-clause-keyed : goal.returns-clause-keyed
returns-clause-keyed c = subst AreAtTheirPaths (sym c.shift_remove.ensures.entries) (keyed-remove_entry (bytes_eq c.args.path.now) c.args.overrides.now.entries c.requires)
