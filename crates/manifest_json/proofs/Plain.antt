-- A manifest has no float and is shallow, and its JSON is written and read back as it is.
use Rattle.std.proofs.Common.{◌≡◌, ◌≤◌, ℕ, suc, false, ◌||◌, List, [], ◌∷◌, map, Some, codes, decimal, option_map, option_and_then, refl, ap, ◌∙◌, lit<, arith}
use Rattle.serde_json.specs.Data.{Data, number, unsigned, string, array, object, item, no_members, put, depth, items_depth}
use Rattle.serde_json.specs.View.{items_of}
use Rattle.serde_json.specs.Written.{has_float, items_have_float, outline, items_outline}
use Rattle.serde_json.specs.Read.{of_json, of_items, max_depth}
use Rattle.serde_json.specs.Read as json
use Rattle.serde_json.proofs.Numbers.{number_of-decimal}
use Rattle.json.specs.Tree.{HasNumbers, ItemsHaveNumbers}
use Rattle.json.proofs.Printed.Decimals.{IsNumber-decimal}
use Rattle.manifest_json.specs.declared.manifest.Row.{Row}
use Rattle.manifest_json.specs.declared.manifest.Manifest.{Manifest}
use Rattle.manifest_json.specs.declared.version.FormatVersion.{FormatVersion}
use Rattle.manifest_json.specs.declared.version.FormatVersion.TheVariants.{One, Two}
use Rattle.manifest_json.specs.Versions.{number_of}
use Rattle.manifest_json.specs.Texts.{row_data, manifest_data}

-- what holds of a value that has no float, isn't deep, and is read back as it is written
pub record IsPlain (most : ℕ) (d : Data) : Type 0 where
  pub no_float : has_float d ≡ false
  pub shallow : depth d ≤ most
  pub numbers : HasNumbers (outline d)
  pub back : of_json (outline d) ≡ Some d

module _ {A : Type 0} (g : A → Data) (most : ℕ) (plain : (x : A) → IsPlain most (g x)) where
  items_plain : (xs : List A) → items_have_float (items_of (map g xs)) ≡ false
  items_plain [] = refl
  items_plain (x ∷ xs) = ap (λ b. b || items_have_float (items_of (map g xs))) (plain x).no_float ∙ items_plain xs

  items_shallow : (xs : List A) → items_depth (items_of (map g xs)) ≤ most
  items_shallow [] = omega arith
  items_shallow (x ∷ xs) = let ih = items_shallow xs in let h = (plain x).shallow in omega arith

  items_numbers : (xs : List A) → ItemsHaveNumbers (items_outline (items_of (map g xs)))
  items_numbers [] = tt
  items_numbers (x ∷ xs) = ((plain x).numbers, items_numbers xs)

  items_back : (xs : List A) → of_items (items_outline (items_of (map g xs))) ≡ Some (items_of (map g xs))
  items_back [] = refl
  items_back (x ∷ xs) = λ i. option_and_then (λ d. option_map (item d) (items_back xs i)) ((plain x).back i)

  pub array_plain : (xs : List A) → IsPlain (suc most) (array (items_of (map g xs)))
  array_plain xs = record {
    no_float = items_plain xs;
    shallow = let h = items_shallow xs in omega arith;
    numbers = items_numbers xs;
    back = ap (option_map array) (items_back xs);
  }

pub string_plain : (s : List ℕ) → IsPlain 0 (string s)
string_plain s = record { no_float = refl; shallow = omega arith; numbers = tt; back = refl }

row_plain : (version : FormatVersion) (r : Row) → IsPlain 1 (row_data version r)
row_plain One r = record { no_float = refl; shallow = omega arith; numbers = (tt, (tt, (tt, (tt, tt)))); back = refl }
row_plain Two r = record { no_float = refl; shallow = omega arith; numbers = (tt, (tt, (tt, (tt, (tt, tt))))); back = refl }

pub number_back : (version : FormatVersion) → json.number_of (decimal (number_of version)) ≡ Some (unsigned (number_of version))
number_back One = number_of-decimal 1 (lit< tt)
number_back Two = number_of-decimal 2 (lit< tt)

pub has_number : (version : FormatVersion) → HasNumbers (outline (number (unsigned (number_of version))))
has_number One = IsNumber-decimal 1 (lit< tt)
has_number Two = IsNumber-decimal 2 (lit< tt)

pub manifest_plain : (version : FormatVersion) (m : Manifest) → IsPlain 3 (manifest_data version m)
manifest_plain version m =
    let rows = array_plain (row_data version) 1 (row_plain version) m.rows in
    let folders = array_plain string 0 string_plain m.folders in
    record {
      no_float = λ i. rows.no_float i || (folders.no_float i || false);
      shallow = let h = rows.shallow in let k = folders.shallow in omega arith;
      numbers = (rows.numbers, (folders.numbers, (has_number version, tt)));
      back = λ i. option_map object (option_and_then (λ x. option_and_then (λ y. option_and_then (λ v. Some (put (codes "version") v (put (codes "folders") y (put (codes "files") x no_members)))) (option_map number (number_back version i))) (folders.back i)) (rows.back i));
    }

pub whole_plain : (version : FormatVersion) (m : Manifest) → IsPlain max_depth (manifest_data version m)
whole_plain version m =
    let p = manifest_plain version m in
    record { no_float = p.no_float; shallow = let h = p.shallow in omega arith; numbers = p.numbers; back = p.back }
