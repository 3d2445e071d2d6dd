-- The JSON value of a manifest reads as the manifest.
use Rattle.std.proofs.Common.{◌≡◌, ◌≤◌, ℕ, ◌+◌, ◌||◌, true, false, Some, List, [], ◌∷◌, ◌++◌, map, reverse, Ok, refl, ap, sym, ◌∙◌, append-nil, append_assoc, arith}
use Rattle.std.specs.List.{list_any, AllByRecursion}
use Rattle.std.specs.List.Sorted.{IsStrictlySortedBy}
use Rattle.std.specs.Ordering.{nat_cmp}
use Rattle.std.specs.Cmp.Lexicographic.{slice_cmp}
use Rattle.std.specs.declared.cmp.Ordering.TheVariants.{Less}
use Rattle.std.proofs.lemmas.List.{reverse-append}
use Rattle.serde_json.specs.Data.{Data, string}
use Rattle.serde_json.specs.View.{items_of}
use Rattle.manifest_json.specs.declared.manifest.Row.{Row}
use Rattle.manifest_json.specs.Paths.{is_free_path, is_above, AreRising, AreFlat}
use Rattle.rel_paths.specs.Names.{extends}
use Rattle.manifest_json.specs.declared.manifest.Manifest.{Manifest}
use Rattle.manifest_json.specs.Records.{paths_of}
use Rattle.manifest_json.specs.Answers.{and_then, or_fault}
use Rattle.manifest_json.specs.Rows.{row_of, row_alone, rows_from}
use Rattle.manifest_json.specs.Folders.{folder_alone, folders_from}
use Rattle.rel_paths.specs.Names.{IsFreePath}
use Rattle.manifest_json.specs.Apart.{HaveApartSources, HasApartSources}
use Rattle.manifest_json.specs.Sources.{meets}
use Rattle.manifest_json.specs.Digests.{IsDigest}
use Rattle.manifest_json.specs.Versions.{number_of, version_numbered}
use Rattle.manifest_json.specs.declared.error.ManifestError.TheVariants.{Version}
use Rattle.manifest_json.specs.Sound.{IsRow}
use Rattle.manifest_json.specs.Whole.{IsManifest, HaveDigests}
use Rattle.manifest_json.specs.declared.version.FormatVersion.{FormatVersion}
use Rattle.manifest_json.specs.declared.version.FormatVersion.TheVariants.{One, Two}
use Rattle.manifest_json.specs.Manifests.{list_of, parts_of, manifest_in}
use Rattle.manifest_json.specs.Texts.{row_data, manifest_data, HasForm}
use Rattle.manifest_json.proofs.Digits.{digest_back}
use Rattle.manifest_json.proofs.Beside.{meets_from_apart}
use Rattle.manifest_json.proofs.Good.{free_test, id_test}
use Rattle.manifest_json.proofs.RowFacts.{behind_ok, beside_ok}
use Rattle.manifest_json.proofs.RowScans.{scan_more}
use Rattle.manifest_json.proofs.FolderScans.{folder_more}

pub list_of-items_of : (ds : List Data) → list_of (items_of ds) ≡ ds
list_of-items_of [] = refl
list_of-items_of (d ∷ ds) = ap (λ l. d ∷ l) (list_of-items_of ds)

-- the version has a form for the row
abbrev pub FormedRow : FormatVersion → Row → Type 0
FormedRow One r = r.source ≡ r.path
FormedRow Two r = Unit {0}

row_back : (version : FormatVersion) (i : ℕ) (r : Row) → IsRow r → IsDigest r.digest.bytes → FormedRow version r → row_alone version i (row_data version r) ≡ Ok r
unfolding row_alone row_of
row_back One i r h k f =
    rw (digest_back r.digest.bytes k, id_test r.mod_id h.mod_id, free_test r.path h.path) (λ j. Ok (record r { source = sym f j }))
row_back Two i r h k f = rw (digest_back r.digest.bytes k, id_test r.mod_id h.mod_id, free_test r.path h.path, free_test r.source h.source) refl

-- a row's place behind others
record Fits (earlier : List Row) (r : Row) : Type 0 where
  above : is_above (paths_of earlier) r.path ≡ true
  flat : list_any (extends r.path) (paths_of earlier) ≡ false
  apart : list_any (meets r) earlier ≡ false

fits_more : (earlier : List Row) (r : Row) (rows : List Row) → AllByRecursion (λ p. slice_cmp nat_cmp r.path p ≡ Less) (paths_of rows) → AllByRecursion (λ p. extends p r.path ≡ false) (paths_of rows)
    → AllByRecursion (HaveApartSources r) rows → AllByRecursion (Fits earlier) rows → AllByRecursion (Fits (r ∷ earlier)) rows
fits_more earlier r [] above flat apart h = tt
fits_more earlier r (s ∷ rows) above flat apart h = (
  record {
    above = rw above.0;
    flat = (λ i. flat.0 i || h.0.flat i);
    apart = (λ i. meets_from_apart s r apart.0 i || h.0.apart i);
  },
  fits_more earlier r rows above.1 flat.1 apart.1 h.1,
)

rows_back : (version : FormatVersion) (earlier : List Row) (i : ℕ) (rows : List Row) → AllByRecursion IsRow rows → HaveDigests rows → AllByRecursion (FormedRow version) rows
    → AreRising (paths_of rows) → AreFlat (paths_of rows) → HasApartSources rows → AllByRecursion (Fits earlier) rows
    → rows_from version earlier i (map (row_data version) rows) ≡ Ok (reverse earlier ++ rows)
unfolding IsStrictlySortedBy
rows_back version earlier i [] kept digests formed rising flat apart fits = ap Ok (sym (append-nil (reverse earlier)))
rows_back version earlier i (r ∷ rows) kept digests formed rising flat apart fits =
    scan_more version earlier i (row_data version r) (map (row_data version) rows) r (row_back version i r kept.0 digests.0 formed.0) (behind_ok earlier i r fits.0.above fits.0.flat) (beside_ok earlier i r fits.0.apart)
    ∙ rows_back version (r ∷ earlier) (i + 1) rows kept.1 digests.1 formed.1 rising.1 flat.1 apart.1 (fits_more earlier r rows rising.0 flat.0 apart.0 fits.1)
    ∙ ap (λ l. Ok (l ++ rows)) (reverse-append (r ∷ []) earlier) ∙ ap Ok (append_assoc (reverse earlier) (r ∷ []) rows)

fits_first : (rows : List Row) → AllByRecursion (Fits []) rows
fits_first [] = tt
fits_first (r ∷ rows) = (record { above = refl; flat = refl; apart = refl }, fits_first rows)

folder_back : (i : ℕ) (p : List ℕ) → IsFreePath p → folder_alone i (string p) ≡ Ok p
unfolding folder_alone
folder_back i p h = rw (free_test p h)

above_more : (earlier : List (List ℕ)) (p : List ℕ) (ps : List (List ℕ)) → AllByRecursion (λ q. slice_cmp nat_cmp p q ≡ Less) ps → AllByRecursion (λ q. is_above (p ∷ earlier) q ≡ true) ps
above_more earlier p [] h = tt
above_more earlier p (q ∷ ps) h = (rw h.0, above_more earlier p ps h.1)

folders_back : (earlier : List (List ℕ)) (i : ℕ) (ps : List (List ℕ)) → AllByRecursion IsFreePath ps → AreRising ps → AllByRecursion (λ p. is_above earlier p ≡ true) ps
    → folders_from earlier i (map string ps) ≡ Ok (reverse earlier ++ ps)
unfolding IsStrictlySortedBy
folders_back earlier i [] kept rising above = ap Ok (sym (append-nil (reverse earlier)))
folders_back earlier i (p ∷ ps) kept rising above =
    folder_more earlier i (string p) (map string ps) p (folder_back i p kept.0) above.0
    ∙ folders_back (p ∷ earlier) (i + 1) ps kept.1 rising.1 (above_more earlier p ps rising.0)
    ∙ ap (λ l. Ok (l ++ ps)) (reverse-append (p ∷ []) earlier) ∙ ap Ok (append_assoc (reverse earlier) (p ∷ []) ps)

above_first : (ps : List (List ℕ)) → AllByRecursion (λ p. is_above [] p ≡ true) ps
above_first [] = tt
above_first (p ∷ ps) = (refl, above_first ps)

rows_formed : (version : FormatVersion) (rows : List Row) → HasForm version rows → AllByRecursion (FormedRow version) rows
rows_formed One rows h = h
rows_formed Two [] h = tt
rows_formed Two (r ∷ rows) h = (tt, rows_formed Two rows h)

version_back : (version : FormatVersion) → version_numbered (number_of version) ≡ Some version
version_back One = refl
version_back Two = refl

-- what is written is read as the value that it was made of
pub manifest_back : (version : FormatVersion) (m : Manifest) → IsManifest m → HasForm version m.rows → manifest_in (manifest_data version m) ≡ Ok m
unfolding manifest_in
manifest_back version m h form =
    ap (λ o. and_then (or_fault o Version) (λ v. parts_of v (items_of (map (row_data version) m.rows), items_of (map string m.folders)))) (version_back version)
    ∙ (λ i. and_then (rows_from version [] 0 (list_of-items_of (map (row_data version) m.rows) i)) (λ rows. and_then (folders_from [] 0 (list_of-items_of (map string m.folders) i)) (λ folders. Ok (record { rows = rows; folders = folders }))))
    ∙ (λ i. and_then (rows_back version [] 0 m.rows h.rows.good h.digests (rows_formed version m.rows form) h.rows.rise h.rows.flat h.rows.apart (fits_first m.rows) i) (λ rows. and_then (folders_back [] 0 m.folders h.folders.good h.folders.rise (above_first m.folders) i) (λ folders. Ok (record { rows = rows; folders = folders }))))
