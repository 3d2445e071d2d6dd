use Rattle.std.proofs.Common.{rules, ◌≡◌, ◌≢◌, true, false, sym, ap, ◌∙◌}
use Rattle.rel_paths.specs.Names.{names_of, is_reserved}
use Rattle.tree_fs.specs.declared.name.Kind.TheVariants.{Other}
use Rattle.tree_fs.specs.Spot.{below}
use Rattle.stage_scan.specs.Walks.{inside}
use Rattle.stage_scan.proofs.pending.Pending.sound_path.Goals as goal

pub returns-in_default-clause-err : goal.returns-in_default-clause-err
returns-in_default-clause-err c = (ap (λ q. below q c.args.self.entry.name) (sym c.in_ok-folder.ensures), rw c.in_default.is at c.in_ok-path.ensures)

pub returns-then-eq-clause-err : goal.returns-then-eq-clause-err
returns-then-eq-clause-err c =
    let found = rw c.in-Some.is at c.in_ok-path.ensures in
    let odd : c.args.self.entry.kind ≡ Other = search rules in
    (ap (λ q. below q c.args.self.entry.name) (sym c.in_ok-folder-2.ensures), found.2, odd)

pub returns-then-is_reserved-clause-err : goal.returns-then-is_reserved-clause-err
returns-then-is_reserved-clause-err c =
    let found = rw c.in-Some.is at c.in_ok-path.ensures in
    let not_odd : c.args.self.entry.kind ≢ Other = search rules in
    let taken : is_reserved (names_of c.in-Some.path) ≡ true = search rules in
    (ap (inside c.args.id.now) (sym found.0) ∙ sym c.in_ok-staged.ensures, found.2, not_odd, ap is_reserved (sym found.0) ∙ taken)

pub returns-clause-ok : goal.returns-clause-ok
returns-clause-ok c =
    let found = rw c.in-Some.is at c.in_ok-path.ensures in
    let not_odd : c.args.self.entry.kind ≢ Other = search rules in
    let free : is_reserved (names_of c.in-Some.path) ≡ false = search rules in
    (found.0, found.1, record { user = found.2; not_odd = not_odd; free = ap is_reserved (sym found.0) ∙ free })
