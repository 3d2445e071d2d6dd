use Rattle.std.proofs.Common.{false, nat_eq, ap, refl, sym, subst}
use Rattle.std.specs.Option.{option_or}
use Rattle.profile_edit.specs.declared.error.EditError.TheVariants.{OldProfile}
use Rattle.profile_edit.specs.Parts.{with_value, with_release}
use Rattle.profile_edit.specs.Edits.{Applies, fault_if, no_mod_fault, release_fault}
use Rattle.profile_edit.proofs.Upgraded.{not_first}
use Rattle.profile_edit.proofs.releases.release_mod.Goals as goal

pub returns-then-version-eq1 : goal.returns-then-version-eq1
returns-then-version-eq1 c = ((λ n. ap (λ v. release_fault v c.args.id.now c.args.mods.now.entries) c.if-version-eq1.true), refl)

pub returns : goal.returns
returns c =
    let id = c.args.id.now in
    let mods = c.args.mods.now.entries in
    subst (λ f. Applies f mods (with_value id (with_release c.args.release.now) mods) c.set_release.new.mods.entries c.set_release.result)
    (sym (ap (λ b. option_or (fault_if b OldProfile) (no_mod_fault id mods)) (not_first c.args.version c.if-version-eq1.false))) c.set_release.ensures
