use Rattle.std.proofs.Common.{List, subst}
use Rattle.std.specs.List.{Contains}
use Rattle.std.proofs.lemmas.List.{take_all}
use Rattle.tree_fs.specs.declared.place.Place.{Place}
use Rattle.list_laws.proofs.Containing.{in_all}
use Rattle.intent_journal.proofs.ReadyFolders.{copies_all, copies_only}
use Rattle.intent_journal.proofs.folders.copies.Goals as goal

pub loop-place-preserved : goal.loop-place-preserved
loop-place-preserved c = record {
  all = copies_all c.args.places.now c.loop-place.list.items c.push_other.new.list.items c.loop-place.place-index c.place-item.result c.loop-place-test.true c.place-item.is c.in_ok-push_other.ensures.before c.in_ok-push_other.ensures.here c.loop-place.invariant.all;
  only = copies_only c.args.places.now c.loop-place.list.items c.push_other.new.list.items c.loop-place.place-index c.place-item.result c.loop-place-test.true c.place-item.is c.in_ok-push_other.ensures.only c.loop-place.invariant.only;
}

pub returns-clause-all : goal.returns-clause-all
returns-clause-all c = λ p h. c.loop-place.invariant.all p (in_all c.args.places.now c.loop-place.place-index p c.loop-place-test.false h)

pub returns-clause-only : goal.returns-clause-only
returns-clause-only c = λ p h. subst (λ (l : List Place). Contains l p) (take_all c.loop-place.place-index c.args.places.now c.loop-place-test.false) (c.loop-place.invariant.only p h)
