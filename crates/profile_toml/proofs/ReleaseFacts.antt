-- What is read of a release and a range decides whether the range matches.
use Rattle.std.proofs.Common.{◌≡◌, ℕ, List, ap, sym, ◌∙◌}
use Rattle.semver.specs.Eval.{matches_all}
use Rattle.semver.specs.declared.Comparator.{Comparator}
use Rattle.semver.specs.declared.Version.{Version}
use Rattle.semver.proofs.EvalViews.{matches_all-views}
use Rattle.profile_toml.specs.Releases.{IsTextOf, IsTextOfAll, range_matches, matched}

pub matches-texts : (range release : List ℕ) (cs : List Comparator) (v : Version)
    → IsTextOfAll range cs → IsTextOf release v → matches_all cs v ≡ range_matches range release
unfolding range_matches
matches-texts range release cs v a b = matches_all-views cs v ∙ sym (λ i. matched (a i) (b i))
