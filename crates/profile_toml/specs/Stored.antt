-- How the logic stores members, so that a type's value may hold them.
use Rattle.std.proofs.Common.{◌≡◌, ◌≢◌, ℕ, List, refl, ap, arith}
use Rattle.std.specs.Coded.{Coded, coded_ℕ, coded_ℤ, coded_bool, coded_list}
use base.Stored.{Gv, gnil, gnum, gcons, num, coded_float}
use Rattle.toml_datetime.specs.contracts.datetime.Datetime as date
use Rattle.toml.specs.Data.{Data, string, integer, float, boolean, datetime, array, table, Items, no_items, item, Members, no_members, member, type_of}

abbrev head : Gv → Gv
head gnil = gnil
head (gnum n) = gnil
head (gcons a b) = a

abbrev tail : Gv → Gv
tail gnil = gnil
tail (gnum n) = gnil
tail (gcons a b) = b

abbrev is_more : Gv → ℕ
is_more gnil = 0
is_more (gnum n) = 0
is_more (gcons a b) = 1

abbrev mutual
  pub data_code : Data → Gv
  data_code (string s) = gcons (gnum 0) ((coded_list coded_ℕ).code s)
  data_code (integer z) = gcons (gnum 1) (coded_ℤ.code z)
  data_code (float x) = gcons (gnum 2) (coded_float.code x)
  data_code (boolean b) = gcons (gnum 3) (coded_bool.code b)
  data_code (datetime dt) = gcons (gnum 4) (date.the_row.coded.code dt)
  data_code (array ds) = gcons (gnum 5) (items_code ds)
  data_code (table ms) = gcons (gnum 6) (members_code ms)

  pub items_code : Items → Gv
  items_code no_items = gnil
  items_code (item d ds) = gcons (data_code d) (items_code ds)

  pub members_code : Members → Gv
  members_code no_members = gnil
  members_code (member k d ms) = gcons ((coded_list coded_ℕ).code k) (gcons (data_code d) (members_code ms))

kind_in_code : (d : Data) → num (head (data_code d)) ≡ type_of d
kind_in_code (string s) = refl
kind_in_code (integer z) = refl
kind_in_code (float x) = refl
kind_in_code (boolean b) = refl
kind_in_code (datetime dt) = refl
kind_in_code (array ds) = refl
kind_in_code (table ms) = refl

apart : (x y : Data) → data_code x ≡ data_code y → type_of x ≢ type_of y → x ≡ y
apart x y p other = absurd (other (rw (← kind_in_code x, ← kind_in_code y) (ap (λ g. num (head g)) p)))

mutual
  pub data_inj : (x y : Data) → data_code x ≡ data_code y → x ≡ y
  data_inj (string a) (string b) p = ap string ((coded_list coded_ℕ).inj a b (ap tail p))
  data_inj (integer a) (integer b) p = ap integer (coded_ℤ.inj a b (ap tail p))
  data_inj (float a) (float b) p = ap float (coded_float.inj a b (ap tail p))
  data_inj (boolean a) (boolean b) p = ap boolean (coded_bool.inj a b (ap tail p))
  data_inj (datetime a) (datetime b) p = ap datetime (date.the_row.coded.inj a b (ap tail p))
  data_inj (array a) (array b) p = ap array (items_inj a b (ap tail p))
  data_inj (table a) (table b) p = ap table (members_inj a b (ap tail p))
  data_inj x y p = apart x y p (omega arith)

  pub items_inj : (x y : Items) → items_code x ≡ items_code y → x ≡ y
  items_inj no_items no_items p = refl
  items_inj no_items (item d ds) p = absurd (omega (arith, ap is_more p))
  items_inj (item d ds) no_items p = absurd (omega (arith, ap is_more p))
  items_inj (item d ds) (item e es) p = λ i. item (data_inj d e (ap head p) i) (items_inj ds es (ap tail p) i)

  pub members_inj : (x y : Members) → members_code x ≡ members_code y → x ≡ y
  members_inj no_members no_members p = refl
  members_inj no_members (member k d ms) p = absurd (omega (arith, ap is_more p))
  members_inj (member k d ms) no_members p = absurd (omega (arith, ap is_more p))
  members_inj (member k d ms) (member l e ns) p =
      λ i. member ((coded_list coded_ℕ).inj k l (ap head p) i) (data_inj d e (ap (λ g. head (tail g)) p) i) (members_inj ms ns (ap (λ g. tail (tail g)) p) i)

abbrev pub coded_members : Coded Members
coded_members = record { code = members_code; inj = members_inj }
