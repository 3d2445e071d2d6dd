use Rattle.std.proofs.Common.{◌≡◌, ◌++◌, ◌∷◌, [], None, Some, sym, subst}
use Rattle.backup_keep.specs.Asides.{IsGreatest}
use Rattle.backup_keep.proofs.Numbered.{greatest-number, greatest-other}
use Rattle.backup_keep.proofs.number.with_name.Goals as goal

pub returns-in-Some : goal.returns-in-Some
returns-in-Some c names is =
    let both = c.in-Some.ensures.number in
    subst (IsGreatest (names ++ c.args.name.now ∷ [])) (sym c.max.ensures)
    (greatest-number names c.args.greatest c.args.name.now is c.in-Some.number both.0 both.1)

pub returns-in-None : goal.returns-in-None
returns-in-None c names is =
    greatest-other names c.args.greatest c.args.name.now is
    (λ n number written. let wrong : None ≡ Some n = c.in-None.ensures.whole n number written in absurd (cc))
