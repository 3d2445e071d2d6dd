use Rattle.std.proofs.Common.{◌≡◌, true, false, refl, sym, ap, ◌∙◌}
use Rattle.tree_fs.specs.Spot.{spot_of}
use Rattle.change_choices.specs.declared.class.Class.TheVariants.{Deleted, SourceDeleted, Gone}
use Rattle.change_detect.specs.Tests.{told_by}
use Rattle.change_detect.proofs.Told.{class_here, told-by_each, told_pair}
use Rattle.change_detect.proofs.classes.row_class.Goals as goal

pub returns-in_ok-pair_class-in-true-true-clause-answer : goal.returns-in_ok-pair_class-in-true-true-clause-answer
returns-in_ok-pair_class-in-true-true-clause-answer g c = λ told.
    let start = g.T.Tree.story c.args.tree.now in
    let then = g.T.Tree.story c.has_file.new.tree in
    let last = g.T.Tree.story c.has_file-2.new.tree in
    let row = c.args.row.now in
    let game = spot_of c.args.places.now.game in
    let staged = spot_of c.args.places.now.staged in
    let same : then ≡ start = c.in_ok-in_game.ensures.same told in
    let still : last ≡ start = c.in_ok-in_stage.ensures.same told ∙ same in
    let is = class_here start then row game staged c.in_ok-in_game.in_game c.in_ok-in_stage.in_stage true true same c.requires.game c.requires.staged (c.in_ok-in_game.ensures.answer told) (c.in_ok-in_stage.ensures.answer told) c.in-true-true.is-0 c.in-true-true.is-1 in
    told_pair start last row game staged c.args.test c.in_ok-pair_class-in-true-true.field-0 still c.requires.game c.requires.staged is (c.in_ok-pair_class-in-true-true.ensures.answer told)

pub returns-in-true-false-clause-answer : goal.returns-in-true-false-clause-answer
returns-in-true-false-clause-answer g c = λ told.
    let start = g.T.Tree.story c.args.tree.now in
    let then = g.T.Tree.story c.has_file.new.tree in
    let is = class_here start then c.args.row.now (spot_of c.args.places.now.game) (spot_of c.args.places.now.staged) c.in_ok-in_game.in_game c.in_ok-in_stage.in_stage true false (c.in_ok-in_game.ensures.same told) c.requires.game c.requires.staged (c.in_ok-in_game.ensures.answer told) (c.in_ok-in_stage.ensures.answer told) c.in-true-false.is-0 c.in-true-false.is-1 in
    sym (ap (told_by c.args.test) is ∙ told-by_each c.args.test SourceDeleted refl)

pub returns-in-false-true-clause-answer : goal.returns-in-false-true-clause-answer
returns-in-false-true-clause-answer g c = λ told.
    let start = g.T.Tree.story c.args.tree.now in
    let then = g.T.Tree.story c.has_file.new.tree in
    let is = class_here start then c.args.row.now (spot_of c.args.places.now.game) (spot_of c.args.places.now.staged) c.in_ok-in_game.in_game c.in_ok-in_stage.in_stage false true (c.in_ok-in_game.ensures.same told) c.requires.game c.requires.staged (c.in_ok-in_game.ensures.answer told) (c.in_ok-in_stage.ensures.answer told) c.in-false-true.is-0 c.in-false-true.is-1 in
    sym (ap (told_by c.args.test) is ∙ told-by_each c.args.test Deleted refl)

pub returns-in-false-false-clause-answer : goal.returns-in-false-false-clause-answer
returns-in-false-false-clause-answer g c = λ told.
    let start = g.T.Tree.story c.args.tree.now in
    let then = g.T.Tree.story c.has_file.new.tree in
    let is = class_here start then c.args.row.now (spot_of c.args.places.now.game) (spot_of c.args.places.now.staged) c.in_ok-in_game.in_game c.in_ok-in_stage.in_stage false false (c.in_ok-in_game.ensures.same told) c.requires.game c.requires.staged (c.in_ok-in_game.ensures.answer told) (c.in_ok-in_stage.ensures.answer told) c.in-false-false.is-0 c.in-false-false.is-1 in
    sym (ap (told_by c.args.test) is ∙ told-by_each c.args.test Gone refl)
