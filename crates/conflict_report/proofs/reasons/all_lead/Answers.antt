use Rattle.std.proofs.Common.{get_or, refl, sym, ◌∙◌, subst, inl, inr}
use Rattle.std.proofs.lemmas.List.{get_or_default}
use Rattle.list_laws.proofs.Containing.{in_next, in_all}
use Rattle.conflict_report.specs.Relations.{Holds}
use Rattle.conflict_report.proofs.reasons.all_lead.Goals as goal
use Rattle.conflict_report.proofs.reasons.all_lead.Goals.{else-node-winner-via-then-node-winner+else-not-has, else-node-winner-via-else-node-winner}

pub loop-node-preserved : goal.loop-node-preserved
loop-node-preserved c =
    let nodes = c.args.nodes.now in
    let i = c.loop-node.node-index in
    let low = c.loop-node-test.true in
    let x = get_or nodes i 0 in
    λ node at other. elim (in_next nodes i x node low (get_or_default nodes i 0 x low) at) [
      | inl front ↦ c.loop-node.invariant node front other
      | inr last ↦ elim c.else-node-winner.branch [
        | else-node-winner-via-then-node-winner+else-not-has w ↦ subst (λ n. Holds c.args.reach.now n c.args.winner) (sym last) (w.has.ensures.0 w.if-not-has.false)
        | else-node-winner-via-else-node-winner w ↦ absurd (other (last ∙ w.if-node-winner.false))
      ]
    ]

pub returns : goal.returns
returns c = (λ _ node at. c.loop-node.invariant node (in_all c.args.nodes.now c.loop-node.node-index node c.loop-node-test.false at), λ _. refl)
