-- An intent has no float and is shallow, and its JSON is written and read back as it is.
use Rattle.std.proofs.Common.{◌≡◌, ◌≤◌, ℕ, suc, false, ◌||◌, List, [], ◌∷◌, map, Option, None, Some, codes, decimal, option_map, option_and_then, refl, ap, ◌∙◌, lit<, arith}
use Rattle.serde_json.specs.Data.{Data, number, unsigned, string, array, object, item, no_members, put, depth, items_depth}
use Rattle.serde_json.specs.View.{items_of}
use Rattle.serde_json.specs.Written.{has_float, items_have_float, outline, items_outline}
use Rattle.serde_json.specs.Read.{of_json, of_items, max_depth}
use Rattle.serde_json.specs.Read as json
use Rattle.serde_json.proofs.Numbers.{number_of-decimal}
use Rattle.json.specs.Tree.{HasNumbers, ItemsHaveNumbers}
use Rattle.json.proofs.Printed.Decimals.{IsNumber-decimal}
use Rattle.tree_fs.specs.declared.place.Place.{Place}
use Rattle.tree_fs.specs.Texts.{place_text}
use Rattle.manifest_json.specs.declared.manifest.Row.{Row}
use Rattle.manifest_json.specs.declared.manifest.Manifest.{Manifest}
use Rattle.manifest_json.specs.declared.version.FormatVersion.{FormatVersion}
use Rattle.manifest_json.specs.declared.version.FormatVersion.TheVariants.{One, Two}
use Rattle.manifest_json.specs.Versions.{number_of}
use Rattle.manifest_json.specs.Texts.{row_data, manifest_data}
use Rattle.move_plan.specs.declared.plan.SetRow.{SetRow}
use Rattle.intent_json.specs.declared.intent.Intent.{Intent}
use Rattle.intent_json.specs.Places.{place_data, places_data, option_data, pair_data, set_data}
use Rattle.intent_json.specs.Texts.{manifest_or_null, phase_word, intent_data}

-- what holds of a value that has no float, isn't deep, and is read back as it is written
pub record IsPlain (most : ℕ) (d : Data) : Type 0 where
  pub no_float : has_float d ≡ false
  pub shallow : depth d ≤ most
  pub numbers : HasNumbers (outline d)
  pub back : of_json (outline d) ≡ Some d

module _ {A : Type 0} (g : A → Data) (most : ℕ) (plain : (x : A) → IsPlain most (g x)) where
  items_plain : (xs : List A) → items_have_float (items_of (map g xs)) ≡ false
  items_plain [] = refl
  items_plain (x ∷ xs) = ap (λ b. b || items_have_float (items_of (map g xs))) (plain x).no_float ∙ items_plain xs

  items_shallow : (xs : List A) → items_depth (items_of (map g xs)) ≤ most
  items_shallow [] = omega arith
  items_shallow (x ∷ xs) = let ih = items_shallow xs in let h = (plain x).shallow in omega arith

  items_numbers : (xs : List A) → ItemsHaveNumbers (items_outline (items_of (map g xs)))
  items_numbers [] = tt
  items_numbers (x ∷ xs) = ((plain x).numbers, items_numbers xs)

  items_back : (xs : List A) → of_items (items_outline (items_of (map g xs))) ≡ Some (items_of (map g xs))
  items_back [] = refl
  items_back (x ∷ xs) = λ i. option_and_then (λ d. option_map (item d) (items_back xs i)) ((plain x).back i)

  pub array_plain : (xs : List A) → IsPlain (suc most) (array (items_of (map g xs)))
  array_plain xs = record {
    no_float = items_plain xs;
    shallow = let h = items_shallow xs in omega arith;
    numbers = items_numbers xs;
    back = ap (option_map array) (items_back xs);
  }

string_plain : (s : List ℕ) → IsPlain 0 (string s)
string_plain s = record { no_float = refl; shallow = omega arith; numbers = tt; back = refl }

option_plain : (o : Option Place) → IsPlain 0 (option_data o)
option_plain None = record { no_float = refl; shallow = omega arith; numbers = tt; back = refl }
option_plain (Some p) = string_plain (place_text p)

pair_plain : (s : Place × Place) → IsPlain 1 (pair_data s)
pair_plain s = record { no_float = refl; shallow = omega arith; numbers = (tt, (tt, tt)); back = refl }

set_plain : (s : SetRow) → IsPlain 1 (set_data s)
set_plain s =
    let b = option_plain s.back in
    let f = option_plain s.from in
    record {
      no_float = λ i. b.no_float i || (f.no_float i || false);
      shallow = let h = b.shallow in let k = f.shallow in omega arith;
      numbers = (b.numbers, (f.numbers, (tt, tt)));
      back = λ i. option_map object (option_and_then (λ x. option_and_then (λ y. Some (put (codes "to") (place_data s.to) (put (codes "from") y (put (codes "back") x no_members)))) (f.back i)) (b.back i));
    }

row_plain : (version : FormatVersion) (r : Row) → IsPlain 1 (row_data version r)
row_plain One r = record { no_float = refl; shallow = omega arith; numbers = (tt, (tt, (tt, (tt, tt)))); back = refl }
row_plain Two r = record { no_float = refl; shallow = omega arith; numbers = (tt, (tt, (tt, (tt, (tt, tt))))); back = refl }

number_back : (version : FormatVersion) → json.number_of (decimal (number_of version)) ≡ Some (unsigned (number_of version))
number_back One = number_of-decimal 1 (lit< tt)
number_back Two = number_of-decimal 2 (lit< tt)

has_number : (version : FormatVersion) → HasNumbers (outline (number (unsigned (number_of version))))
has_number One = IsNumber-decimal 1 (lit< tt)
has_number Two = IsNumber-decimal 2 (lit< tt)

manifest_plain : (version : FormatVersion) (m : Manifest) → IsPlain 3 (manifest_data version m)
manifest_plain version m =
    let rows = array_plain (row_data version) 1 (row_plain version) m.rows in
    let folders = array_plain string 0 string_plain m.folders in
    record {
      no_float = λ i. rows.no_float i || (folders.no_float i || false);
      shallow = let h = rows.shallow in let k = folders.shallow in omega arith;
      numbers = (rows.numbers, (folders.numbers, (has_number version, tt)));
      back = λ i. option_map object (option_and_then (λ x. option_and_then (λ y. option_and_then (λ v. Some (put (codes "version") v (put (codes "folders") y (put (codes "files") x no_members)))) (option_map number (number_back version i))) (folders.back i)) (rows.back i));
    }

null_plain : (version : FormatVersion) (m : Option Manifest) → IsPlain 3 (manifest_or_null version m)
null_plain version None = record { no_float = refl; shallow = omega arith; numbers = tt; back = refl }
null_plain version (Some m) = manifest_plain version m

places_plain : (ps : List Place) → IsPlain 1 (places_data ps)
places_plain ps = array_plain place_data 0 (λ p. string_plain (place_text p)) ps

pub intent_plain : (version : FormatVersion) (i : Intent) → IsPlain max_depth (intent_data version i)
intent_plain version i =
    let clears = places_plain i.plan.clears in
    let folders = places_plain i.plan.folders in
    let folders_off = places_plain i.plan.folders_off in
    let manifest = null_plain version i.plan.manifest in
    let saves = array_plain pair_data 1 pair_plain i.plan.saves in
    let sets = array_plain set_data 1 set_plain i.plan.sets in
    record {
      no_float = λ j. clears.no_float j || (folders.no_float j || (folders_off.no_float j || (manifest.no_float j || (false || (saves.no_float j || (sets.no_float j || (false || false)))))));
      shallow = let a = clears.shallow in let b = folders.shallow in let c = folders_off.shallow in let d = manifest.shallow in let e = saves.shallow in let f = sets.shallow in omega arith;
      numbers = (clears.numbers, (folders.numbers, (folders_off.numbers, (manifest.numbers, (tt, (saves.numbers, (sets.numbers, (has_number version, tt))))))));
      back = λ j. option_map object (option_and_then (λ a. option_and_then (λ b. option_and_then (λ c. option_and_then (λ d. option_and_then (λ e. option_and_then (λ f. option_and_then (λ v.
          Some (put (codes "version") v (put (codes "sets") f (put (codes "saves") e (put (codes "phase") (string (phase_word i.phase)) (put (codes "manifest") d (put (codes "folders_off") c (put (codes "folders") b (put (codes "clears") a no_members)))))))))
          (option_map number (number_back version j))) (sets.back j)) (saves.back j)) (manifest.back j)) (folders_off.back j)) (folders.back j)) (clears.back j));
    }
