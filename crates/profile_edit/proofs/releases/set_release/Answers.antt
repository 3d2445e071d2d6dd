use Rattle.std.proofs.Common.{ap, sym, ◌∙◌}
use Rattle.profile_edit.specs.Parts.{with_value, with_release}
use Rattle.profile_edit.proofs.Applied.{release_same, release_set}
use Rattle.profile_edit.proofs.releases.set_release.Goals as goal

pub returns-then-is_release : goal.returns-then-is_release
returns-then-is_release c =
    release_same c.args.id.now c.args.release.now c.args.mods.now.entries c.in-Some.entry.now c.release.result (sym c.in-Some.ensures.value) c.release.ensures (sym c.is_release.ensures ∙ c.if-is_release.true)

pub returns : goal.returns
returns c =
    release_set c.args.id.now c.args.release.now c.args.mods.now.entries c.put_release.new.mods.entries c.in-Some.entry.now c.release.result (sym c.in-Some.ensures.value) c.release.ensures (sym c.is_release.ensures ∙ c.if-is_release.false)
    (c.put_release.ensures ∙ ap (λ r. with_value c.args.id.now (with_release r) c.args.mods.now.entries) c.in_ok-copy.ensures)
