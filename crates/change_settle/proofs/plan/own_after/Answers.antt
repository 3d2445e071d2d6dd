use Rattle.std.proofs.Common.{◌++◌, inl, inr, sym, subst}
use Rattle.std.specs.List.{Contains}
use Rattle.std.proofs.lemmas.List.Elements.{Contains-append_left, Contains-append_right, Contains-append_cases}
use Rattle.list_laws.proofs.Alls.{all_among, all_append}
use Rattle.rel_paths.specs.Names.{IsFreePath}
use Rattle.change_settle.specs.Above.{game_paths}
use Rattle.change_settle.proofs.ListsOf.{game_paths_are}
use Rattle.change_settle.proofs.plan.own_after.Goals as goal

pub new-requires : goal.new-requires
new-requires c =
    let whole = c.args.kept.items ++ game_paths c.args.made.now in
    record {
      good = all_among IsFreePath whole c.in_ok-all.all.items (λ p h. subst (λ l. Contains l p) c.in_ok-with_made.ensures ((c.in_ok-all.ensures.same p).0 h)) (all_append IsFreePath c.args.kept.items (game_paths c.args.made.now) c.requires.kept c.requires.made);
      rise = c.in_ok-all.ensures.rise;
    }

pub returns-clause-same : goal.returns-clause-same
returns-clause-same c = λ p. (
  λ h. elim (Contains-append_cases c.args.kept.items (game_paths c.args.made.now) p (subst (λ l. Contains l p) c.in_ok-with_made.ensures ((c.in_ok-all.ensures.same p).0 (subst (λ l. Contains l p) c.new.ensures h)))) [
    | inl k ↦ inl k
    | inr m ↦ inr ((game_paths_are c.args.made.now p).0 m)
  ],
  λ h. subst (λ l. Contains l p) (sym c.new.ensures) ((c.in_ok-all.ensures.same p).1 (subst (λ l. Contains l p) (sym c.in_ok-with_made.ensures) (elim h [
    | inl k ↦ Contains-append_left c.args.kept.items (game_paths c.args.made.now) p k
    | inr m ↦ Contains-append_right c.args.kept.items (game_paths c.args.made.now) p ((game_paths_are c.args.made.now p).1 m)
  ]))),
)
