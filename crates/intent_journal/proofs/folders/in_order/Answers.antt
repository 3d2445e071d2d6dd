use Rattle.std.proofs.Common.{List, ◌∙◌, sym, subst}
use Rattle.std.specs.Prelude.{nat_eq}
use Rattle.std.specs.List.{Contains}
use Rattle.std.specs.List.Sorted.{IsStrictlySortedBy}
use Rattle.std.specs.Ordering.{on, nat_cmp}
use Rattle.std.specs.Cmp.Lexicographic.{pointwise, slice_cmp}
use Rattle.std.proofs.lemmas.List.Filters.{dedup_is}
use Rattle.tree_fs.specs.declared.place.Place.{Place}
use Rattle.tree_fs.specs.Texts.{place_text}
use Rattle.intent_journal.proofs.ReadyFolders.{sorted_all, sorted_only, sorted_rise}
use Rattle.intent_journal.proofs.folders.in_order.Goals as goal

pub returns-clause-all : goal.returns-clause-all
returns-clause-all c = λ p h.
    let is = c.new.ensures ∙ dedup_is (on place_text (pointwise nat_eq)) _ _ c.dedup.ensures.filtered in
    subst (λ (l : List Place). Contains l p) (sym is) (sorted_all _ _ c.sort_unstable.ensures.permutation p h)

pub returns-clause-only : goal.returns-clause-only
returns-clause-only c = λ p h.
    let is = c.new.ensures ∙ dedup_is (on place_text (pointwise nat_eq)) _ _ c.dedup.ensures.filtered in
    sorted_only _ _ c.sort_unstable.ensures.permutation p (subst (λ (l : List Place). Contains l p) is h)

pub returns-clause-rise : goal.returns-clause-rise
returns-clause-rise c =
    let is = c.new.ensures ∙ dedup_is (on place_text (pointwise nat_eq)) _ _ c.dedup.ensures.filtered in
    subst (λ (l : List Place). IsStrictlySortedBy (on place_text (slice_cmp nat_cmp)) l) (sym is) (sorted_rise _ c.sort_unstable.ensures.sorted)
