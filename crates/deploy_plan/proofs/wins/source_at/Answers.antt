use Rattle.std.proofs.Common.{sym, ◌∙◌, length, refl, arith}
use Rattle.std.proofs.lemmas.Option.{slice_get_read}
use Rattle.deploy_plan.proofs.Sourced.{source_by_index, index_within, sources_short}
use Rattle.deploy_plan.proofs.wins.source_at.Goals as goal

pub returns-in-None : goal.returns-in-None
returns-in-None c id e =
    let less = index_within id c.args.path.now c.args.scans.now c.args.index e in
    let past = c.in-None.ensures.lookup.3 in
    let no : ⊥ = omega arith in
    absurd no

pub returns-in-None-get : goal.returns-in-None-get
returns-in-None-get c id e = sym (sources_short id c.args.path.now c.args.scans.now c.args.sources.now c.args.index e (omega (arith, c.in-None-get.ensures.lookup.3)))

pub returns-in-Some-get : goal.returns-in-Some-get
returns-in-Some-get c id e =
    c.source_of.ensures
    ∙ sym (source_by_index id c.args.path.now c.args.scans.now c.args.sources.now c.args.index c.in-Some.scan.now c.in-Some-get.own.now e
    (slice_get_read c.args.scans.now (length c.args.scans.now) c.args.index c.in-Some.scan.now refl c.in-Some.ensures.lookup.3.0 c.in-Some.ensures.lookup.1)
    (slice_get_read c.args.sources.now (length c.args.sources.now) c.args.index c.in-Some-get.own.now refl c.in-Some-get.ensures.lookup.3.0 c.in-Some-get.ensures.lookup.1))
