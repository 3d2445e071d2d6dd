use Rattle.std.proofs.Common.{◌≡◌, ◌≤◌, ◌+◌, ◌-◌, ◌<◌, ℕ, List, [], length, map, drop, arith, sym, ◌∙◌, subst, refl, rules}
use Rattle.std.proofs.lemmas.List.{drop_all}
use Rattle.std.specs.List.{AllByRecursion, Contains}
use Rattle.tree_fs.specs.Disk.{IsFile}
use Rattle.tree_fs.specs.Places.{game_spot}
use Rattle.tree_fs.specs.Story.{disk_of}
use Rattle.plan_lists.specs.Search.{AreFalling}
use Rattle.plan_lists.specs.Off.{GoesByOwn, AreOffBelow, AreParted, IsFate, kept_with}
use Rattle.list_laws.proofs.Containing.{in_this, contains_none}
use Rattle.plan_lists.proofs.Parting.{parted_none, parted_more, off_below, falling_more, among_more, falling_none, kept_more, dropped_among}
use Rattle.plan_lists.proofs.folders.own_folders.Goals as goal

pub loop-index-init : goal.loop-index-init
loop-index-init g c =
    let own = c.args.own.now in
    let files = map g.P.Pathed.path c.args.files.now in
    let kept : c.new.result.items ≡ [] = search rules in
    let off : c.new-2.result.items ≡ [] = search rules in
    let rest : drop (length own) own ≡ [] = drop_all (length own) own (omega arith) in
    record {
      within = omega arith;
      same = λ told. refl;
      later = omega arith;
      falling = subst AreFalling (sym off) falling_none;
      among = λ q c. absurd (contains_none q (subst (λ l. Contains l q) off c));
      kept = λ q c. absurd (contains_none q (subst (λ l. Contains l q) kept c));
      parted = λ told plan by.
          subst (λ l. AreParted (disk_of (g.T.Tree.story c.args.tree.now)) own files plan l c.new.result.items c.new-2.result.items) (sym rest)
          (subst (λ l. AreParted (disk_of (g.T.Tree.story c.args.tree.now)) own files plan [] l c.new-2.result.items) (sym kept)
          (subst (λ l. AreParted (disk_of (g.T.Tree.story c.args.tree.now)) own files plan [] [] l) (sym off) (parted_none (disk_of (g.T.Tree.story c.args.tree.now)) own files c.args.emptied.now plan)));
    }

pub fate_of-requires-clause-off : goal.fate_of-requires-clause-off
fate_of-requires-clause-off g c = subst AreFalling (sym c.as_slice.ensures.value) c.loop-index.invariant.falling

pub fate_of-requires-clause-stood : goal.fate_of-requires-clause-stood
fate_of-requires-clause-stood g c told =
    subst (λ s. AllByRecursion (λ p. IsFile (disk_of s) (game_spot p)) c.args.emptied.now) (sym (c.loop-index.invariant.same told)) (c.requires.stood told)

pub loop-index-preserved : goal.loop-index-preserved
loop-index-preserved g c =
    let start = g.T.Tree.story c.args.tree.now in
    let a = disk_of start in
    let own = c.args.own.now in
    let files = map g.P.Pathed.path c.args.files.now in
    let emptied = c.args.emptied.now in
    let n = c.loop-index.index in
    let i = n - 1 in
    let next : i + 1 ≡ n = omega arith in
    let path = c.index-own-index.result in
    let low : i < length own = omega arith in
    let off = c.loop-index.found.off.items in
    let kept = c.loop-index.found.kept.items in
    let fate = c.in_ok-fate.fate in
    let before : g.T.Tree.faults c.args.tree.now ≤ g.T.Tree.faults c.loop-index.tree = c.loop-index.invariant.later in
    let after : g.T.Tree.faults c.loop-index.tree ≤ g.T.Tree.faults c.fate_of.new.tree = c.fate_of.ensures.cause.later in
    let among : (q : List ℕ) → Contains off q → Contains (drop (i + 1) own) q = λ q h. subst (λ m. Contains (drop m own) q) (sym next) (c.loop-index.invariant.among q h) in
    record {
      within = omega arith;
      same = λ told. c.in_ok-fate.ensures.same told ∙ c.loop-index.invariant.same told;
      later = omega arith;
      falling = subst AreFalling (sym c.in_ok-note.ensures.off) (falling_more own c.requires.own i path low c.index-own-index.is off fate among c.loop-index.invariant.falling);
      among = λ q h. among_more own c.requires.own i path low c.index-own-index.is off fate among q (subst (λ l. Contains l q) c.in_ok-note.ensures.off h);
      kept = λ q h. kept_more own path (in_this own i path low c.index-own-index.is) kept fate c.loop-index.invariant.kept q (subst (λ l. Contains l q) c.in_ok-note.ensures.kept h);
      parted = λ told plan by.
          let same : g.T.Tree.story c.loop-index.tree ≡ start = c.loop-index.invariant.same told in
          let was : AreParted a own files plan (drop (i + 1) own) kept off = subst (λ m. AreParted a own files plan (drop m own) kept off) (sym next) (c.loop-index.invariant.parted told plan by) in
          let below = off_below a own files emptied plan by c.requires.own i path low c.index-own-index.is kept off was in
          let its : IsFate a own files plan path fate =
          subst (λ s. IsFate (disk_of s) own files plan path fate) same
          (c.in_ok-fate.ensures.answer told own plan (subst (λ s. GoesByOwn (disk_of s) own files emptied plan) (sym same) by) (in_this own i path low c.index-own-index.is)
          (subst (λ s. AreOffBelow (disk_of s) own c.as_slice.result.now plan (game_spot path)) (sym same) (subst (λ l. AreOffBelow a own l plan (game_spot path)) (sym c.as_slice.ensures.value) below))) in
          subst (λ l. AreParted a own files plan (drop i own) l c.note.new.self.off.items) (sym c.in_ok-note.ensures.kept)
          (subst (λ l. AreParted a own files plan (drop i own) (kept_with fate path kept) l) (sym c.in_ok-note.ensures.off)
          (parted_more a own files emptied plan by c.requires.own i path low c.index-own-index.is kept off was fate its));
    }

pub returns-clause-off : goal.returns-clause-off
returns-clause-off g c = λ q h. dropped_among c.loop-index.index c.args.own.now q (c.loop-index.invariant.among q h)
