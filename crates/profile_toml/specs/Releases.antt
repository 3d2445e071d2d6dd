-- Releases and ranges: which texts are one, and which ranges match which releases.
use Rattle.std.specs.Prelude.{◌≡◌, ℕ, List, Bool, true, false, Option, None, Some, Result, Ok, Err, is_ok, map}
use Rattle.semver.specs.EvalViews.{matches_views}
use Rattle.semver.specs.Identifiers.{parts_of, comparator_view}
use Rattle.semver.specs.Parse.{Parts, Held, version_parts, req_of}
use Rattle.semver.specs.declared.Comparator.{Comparator}
use Rattle.semver.specs.declared.Version.{Version}
use Rattle.semver.specs.declared.error.Error.{Error}

-- the numbers and identifiers of a release's text, as semver reads it
unfoldable pub release_parts : List ℕ → Result Parts Error
release_parts text = version_parts text

-- the comparators of a range's text, as semver reads it
unfoldable pub range_parts : List ℕ → Result (List Held) Error
range_parts text = req_of text

abbrev pub is_release : List ℕ → Bool
is_release text = is_ok (release_parts text)

abbrev pub is_range : List ℕ → Bool
is_range text = is_ok (range_parts text)

-- the text is that of this version
abbrev pub IsTextOf : List ℕ → Version → Type 0
IsTextOf text version = release_parts text ≡ Ok (parts_of version)

-- the text is that of these comparators
abbrev pub IsTextOfAll : List ℕ → List Comparator → Type 0
IsTextOfAll text comparators = range_parts text ≡ Ok (map comparator_view comparators)

abbrev pub matched : Result (List Held) Error → Result Parts Error → Bool
matched (Ok comparators) (Ok release) = matches_views comparators release
matched _ _ = false

-- whether the range matches the release, by semver's `matches` of what it reads of the two texts
unfoldable pub range_matches : List ℕ → List ℕ → Bool
range_matches range release = matched (range_parts range) (release_parts release)

-- whether a rule with this range, if it has one, admits a mod with this release, if it has one: a
-- rule without a range admits each mod, and one with a range each mod with a release that it
-- matches
abbrev pub admits : Option (List ℕ) → Option (List ℕ) → Bool
admits None release = true
admits (Some range) None = false
admits (Some range) (Some release) = range_matches range release
