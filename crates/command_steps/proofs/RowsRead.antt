-- The rows that a disk's manifest is read as can be those of a manifest.
use Rattle.std.proofs.Common.{◌≡◌, ℕ, ◌+◌, Bool, true, false, not, List, [], ◌∷◌, Ok, Err, reverse, refl, sym, subst}
use Rattle.std.proofs.lemmas.Bool.{not-true}
use Rattle.std.proofs.lemmas.List.{reverse-reverse}
use Rattle.std.specs.Prelude.{codes}
use Rattle.std.specs.List.{AllByRecursion, list_any}
use Rattle.std.specs.Result.{result_ok}
use Rattle.std.specs.declared.option.Option.{Option}
use Rattle.std.specs.declared.option.Option.TheVariants.{None, Some}
use Rattle.std.specs.declared.result.Result.{Result}
use Rattle.rel_paths.specs.Names.{extends}
use Rattle.tree_fs.specs.Disk.{Disk, Value, none, file, odd}
use Rattle.serde_json.specs.Data.{Data, Items}
use Rattle.serde_json.specs.Find.{as_object}
use Rattle.manifest_json.specs.declared.error.ManifestError.{ManifestError}
use Rattle.manifest_json.specs.declared.manifest.Manifest.{Manifest}
use Rattle.manifest_json.specs.declared.manifest.Row.{Row}
use Rattle.manifest_json.specs.declared.version.FormatVersion.{FormatVersion}
use Rattle.manifest_json.specs.declared.error.ManifestError.TheVariants.{NotJson, Version, Shape, BadPath, Order, Nested, Source}
use Rattle.manifest_json.specs.declared.spot.Spot.TheVariants.{Top, File}
use Rattle.manifest_json.specs.Answers.{or_fault, checked, and_then}
use Rattle.manifest_json.specs.Folders.{folders_from}
use Rattle.manifest_json.specs.Manifests.{list_of, array_at, version_of, two_arrays, parts_of, manifest_in, json_of}
use Rattle.manifest_json.specs.Manifests as json
use Rattle.manifest_json.specs.Paths.{is_above}
use Rattle.manifest_json.specs.Records.{paths_of}
use Rattle.manifest_json.specs.Rows.{row_of, has_good_paths, row_alone, row_behind, row_beside, row_at, rows_from}
use Rattle.manifest_json.specs.Sound.{IsRow, AreRows}
use Rattle.manifest_json.specs.Sources.{meets, AreUnmet}
use Rattle.manifest_json.specs.Stack.{IsLine}
use Rattle.manifest_json.proofs.Beside.{unmet_apart}
use Rattle.manifest_json.proofs.Good.{row_means}
use Rattle.manifest_json.proofs.RowScans.{all_reverse, rows_rise, rows_flat}
use Rattle.desk_model.specs.Places.{manifest_spot}
use Rattle.desk_model.specs.Records.{recorded_by, read_as, rows_of, rows_on}

-- What a reading that answers Ok passed

and_then_ok : {A B : Type 0} (r : Result A ManifestError) (f : A → Result B ManifestError) (y : B) → and_then r f ≡ Ok y → (x : A) × (r ≡ Ok x) × (f x ≡ Ok y)
and_then_ok (Ok x) f y h = (x, refl, h)
and_then_ok (Err e) f y h = absurd (cc)

checked_ok : {A : Type 0} (test : Bool) (e : ManifestError) (x y : A) → checked test e x ≡ Ok y → (test ≡ true) × (x ≡ y)
checked_ok true e x y h = (refl, cc)
checked_ok false e x y h = absurd (cc)

alone_good : (version : FormatVersion) (i : ℕ) (d : Data) (r : Row) → row_alone version i d ≡ Ok r → IsRow r
unfolding row_alone
alone_good version i d r h =
    let found = and_then_ok (or_fault (row_of version d) (Shape (File i))) _ r h in
    let good = checked_ok (has_good_paths found.0) (BadPath (File i)) found.0 r found.2 in
    subst IsRow good.1 (row_means found.0 good.0)

-- the tests that a row passes behind others, which come last one first
record IsBehind (earlier : List Row) (r : Row) : Type 0 where
  above : is_above (paths_of earlier) r.path ≡ true
  flat : list_any (extends r.path) (paths_of earlier) ≡ false

behind_passed : (earlier : List Row) (i : ℕ) (r s : Row) → row_behind earlier i r ≡ Ok s → (r ≡ s) × IsBehind earlier r
unfolding row_behind
behind_passed earlier i r s h =
    let first = and_then_ok (checked (is_above (paths_of earlier) r.path) (Order (File i)) r) _ s h in
    let above = checked_ok (is_above (paths_of earlier) r.path) (Order (File i)) r first.0 first.1 in
    let flat = checked_ok (not (list_any (extends first.0.path) (paths_of earlier))) (Nested (File i)) first.0 s first.2 in
    (subst (λ q. r ≡ q) flat.1 above.1, record { above = above.0; flat = subst (λ (q : Row). list_any (extends q.path) (paths_of earlier) ≡ false) (sym above.1) (not-true _ flat.0) })

beside_passed : (earlier : List Row) (i : ℕ) (r s : Row) → row_beside earlier i r ≡ Ok s → (r ≡ s) × (list_any (meets r) earlier ≡ false)
unfolding row_beside
beside_passed earlier i r s h = let passed = checked_ok (not (list_any (meets r) earlier)) (Source (File i)) r s h in (passed.1, not-true _ passed.0)

-- rows that were read, last one first
record AreRead (rows : List Row) : Type 0 where
  good : AllByRecursion IsRow rows
  line : IsLine (paths_of rows)
  unmet : AreUnmet rows

one_more : (version : FormatVersion) (earlier : List Row) (i : ℕ) (d : Data) (r : Row) → AreRead earlier → row_at version earlier i d ≡ Ok r → AreRead (r ∷ earlier)
one_more version earlier i d r read h =
    let alone = and_then_ok (row_alone version i d) _ r h in
    let behind = and_then_ok (row_behind earlier i alone.0) (row_beside earlier i) r alone.2 in
    let by_path = behind_passed earlier i alone.0 behind.0 behind.1 in
    let by_source = beside_passed earlier i behind.0 r behind.2 in
    let whole : AreRead (behind.0 ∷ earlier) = record {
      good = (subst IsRow by_path.0 (alone_good version i d alone.0 alone.1), read.good);
      line = subst (λ (q : Row). IsLine (q.path ∷ paths_of earlier)) by_path.0 (by_path.1.above, by_path.1.flat, read.line);
      unmet = (by_source.1, read.unmet);
    } in
    subst (λ q. AreRead (q ∷ earlier)) by_source.0 whole

turned : (rows : List Row) → AreRead rows → AreRows (reverse rows)
turned rows read =
    let line = subst (λ l. IsLine (paths_of l)) (sym (reverse-reverse rows)) read.line in
    record { good = all_reverse IsRow rows read.good; rise = rows_rise (reverse rows) line; flat = rows_flat (reverse rows) line; apart = unmet_apart rows read.unmet }

all_read : (version : FormatVersion) (earlier : List Row) (i : ℕ) (ds : List Data) (rows : List Row) → AreRead earlier → rows_from version earlier i ds ≡ Ok rows → AreRows rows
all_read version earlier i [] rows read h = let is : reverse earlier ≡ rows = cc in subst AreRows is (turned earlier read)
all_read version earlier i (d ∷ ds) rows read h =
    let first = and_then_ok (row_at version earlier i d) (λ r. rows_from version (r ∷ earlier) (i + 1) ds) rows h in
    all_read version (first.0 ∷ earlier) (i + 1) ds rows (one_more version earlier i d first.0 read first.1) first.2

none_read : AreRead []
none_read = record { good = tt; line = tt; unmet = tt }

-- The manifest

parts_are : (version : FormatVersion) (p : Items × Items) (m : Manifest) → parts_of version p ≡ Ok m → AreRows m.rows
parts_are version p m h =
    let rows = and_then_ok (rows_from version [] 0 (list_of p.0)) _ m h in
    let folders = and_then_ok (folders_from [] 0 (list_of p.1)) _ m rows.2 in
    let is : record { rows = rows.0; folders = folders.0 } ≡ m = cc in
    subst (λ (n : Manifest). AreRows n.rows) is (all_read version [] 0 (list_of p.0) rows.0 none_read rows.1)

value_are : (d : Data) (m : Manifest) → manifest_in d ≡ Ok m → AreRows m.rows
unfolding manifest_in
value_are d m h =
    let object = and_then_ok (or_fault (as_object d) (Shape Top)) _ m h in
    let version = and_then_ok (or_fault (version_of d) Version) _ m object.2 in
    let arrays = and_then_ok (or_fault (two_arrays (array_at (codes "files") d) (array_at (codes "folders") d)) (Shape Top)) _ m version.2 in
    parts_are version.0 arrays.0 m arrays.2

bytes_are : (bytes : List ℕ) (m : Manifest) → json.manifest_of bytes ≡ Ok m → AreRows m.rows
unfolding json.manifest_of
bytes_are bytes m h = let value = and_then_ok (or_fault (json_of bytes) NotJson) _ m h in value_are value.0 m value.2

of_ok : (r : Result Manifest ManifestError) (m : Manifest) → result_ok r ≡ Some m → r ≡ Ok m
of_ok (Ok n) m h = cc
of_ok (Err e) m h = absurd (cc)

value_of : (bytes : List ℕ) (m : Manifest) → json.manifest_value bytes ≡ Some m → json.manifest_of bytes ≡ Ok m
unfolding json.manifest_value
value_of bytes m h = of_ok (json.manifest_of bytes) m h

none_are : AreRows []
none_are = turned [] none_read

read_are : (bytes : List ℕ) (o : Option Manifest) → json.manifest_value bytes ≡ o → AreRows (rows_of (read_as bytes o))
read_are bytes None h = none_are
read_are bytes (Some m) h = bytes_are bytes m (value_of bytes m h)

rows_by : (bytes : ℕ → List ℕ) (v : Value) → AreRows (rows_of (recorded_by bytes v))
rows_by bytes none = none_are
rows_by bytes odd = none_are
rows_by bytes (file n) = read_are (bytes n) (json.manifest_value (bytes n)) refl

pub rows_read : (d : Disk) → AreRows (rows_on d)
rows_read d = rows_by d.bytes (d.now manifest_spot)
