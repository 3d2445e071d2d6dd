use Rattle.std.proofs.Common.{◌≡◌, ◌+◌, ◌-◌, ℕ, List, drop, Some, cond, option_map, arith, sym, ap, ◌∙◌}
use Rattle.std.specs.Ordering.{nat_cmp, is_eq}
use Rattle.std.specs.Str.{bytes_eq}
use Rattle.std.specs.Cmp.Lexicographic.{slice_cmp}
use Rattle.std.specs.BTreeMap.{get}
use Rattle.std.proofs.lemmas.Map.Text.{is_eq-slice_cmp}
use Rattle.list_laws.proofs.Lists.{rest_from}
use Rattle.stage_scan.specs.declared.scan.Scan.{Scan}
use Rattle.deploy_plan.specs.Sources.{first_index}
use Rattle.deploy_plan.proofs.Sourced.{index_more, index_all}
use Rattle.deploy_plan.proofs.wins.indexes_of.Goals as goal

pub loop-index-preserved : goal.loop-index-preserved
loop-index-preserved c =
    let scans = c.args.scans.now in
    let n = c.loop-index.index in
    let i = n - 1 in
    let scan = c.index-scans-index.result in
    let next : i + 1 ≡ n = omega arith in
    record {
      within = omega arith;
      so_far = λ (id : List ℕ).
          let old = get (slice_cmp nat_cmp) c.loop-index.indexes id in
          let was : old ≡ option_map (λ k. (i + 1) + k) (first_index (drop (i + 1) scans) id) = c.loop-index.invariant.so_far id ∙ ap (λ m. option_map (λ k. m + k) (first_index (drop m scans) id)) (sym next) in
          c.in_ok-insert.ensures.updates.0 id
          ∙ ap (λ (k : List ℕ). cond (is_eq (slice_cmp nat_cmp k id)) (Some i) old) c.in_ok-copy.ensures
          ∙ ap (λ (t : List ℕ). cond (is_eq (slice_cmp nat_cmp t id)) (Some i) old) (ap (λ (z : Scan). z.mod_id) (sym c.index-scans-index.is))
          ∙ ap (λ t. cond t (Some i) old) (is_eq-slice_cmp scan.mod_id id)
          ∙ index_more i (bytes_eq scan.mod_id id) (first_index (drop (i + 1) scans) id) old was
          ∙ ap (λ l. option_map (λ k. i + k) (first_index l id)) (sym (rest_from scans i scan (omega arith) c.index-scans-index.is));
    }

pub returns : goal.returns
returns c id =
    c.loop-index.invariant.so_far id ∙ ap (λ m. option_map (λ k. m + k) (first_index (drop m c.args.scans.now) id)) (let z : c.loop-index.index ≡ 0 = omega arith in z) ∙ index_all (first_index c.args.scans.now id)
