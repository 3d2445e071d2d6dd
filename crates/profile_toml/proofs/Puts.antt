-- Members with one more.
use Rattle.std.proofs.Common.{◌≡◌, ◌≤◌, ℕ, suc, Bool, true, false, ◌||◌, ◌&&◌, not, max, List, [], ◌∷◌, Option, None, Some, String, Global, Ordering, Less, Equal, Greater, string_bytes, is_eq, nat_cmp, refl, ap, sym, subst, ◌∙◌, arith}
use Rattle.std.specs.BTreeMap.{insert_entry}
use Rattle.std.specs.Ordering.{match_ordering}
use Rattle.std.specs.String.{string_cmp}
use Rattle.std.specs.Cmp.Lexicographic.{slice_cmp}
use Rattle.toml.specs.Data.{Data, string, integer, float, boolean, datetime, array, table, Items, no_items, item, Members, no_members, member, get_member, same_key, depth, items_depth, members_depth, has_valid_dates, items_have_valid_dates, members_have_valid_dates}
use Rattle.toml.specs.View.{view, members_view}
use Rattle.toml.specs.declared.value.Value.{Value}
use Rattle.toml.proofs.Views.{Entry}
use Rattle.toml_datetime.specs.Valid.{is_valid}
use Rattle.profile_toml.specs.Documents.{put_member}
use Rattle.profile_toml.specs.Levels.{levels, items_levels, members_levels}
use Rattle.profile_toml.specs.Floats.{has_float, items_have_float, members_have_float}
use Rattle.profile_toml.specs.Sound.{IsSound, AreSound}
use Rattle.profile_toml.specs.Unknown.{without_key}
use Rattle.profile_toml.proofs.Members.{same, same_itself, apart, without_key-none, or_parts}

inserted_at : (o : Ordering) (k : String Global) (v : Value) (e : Entry) (es : List Entry) → string_cmp k e.0 ≡ o
    → members_view (insert_entry string_cmp es k v) ≡ put_member (string_bytes k) (view v) (members_view es)
    → members_view (insert_entry string_cmp (e ∷ es) k v) ≡ put_member (string_bytes k) (view v) (members_view (e ∷ es))
inserted_at Less k v e es o h = rw o refl
inserted_at Equal k v e es o h = rw o refl
inserted_at Greater k v e es o h = rw (o, h) refl

-- an insert into the map of a table
pub members_view-insert : (k : String Global) (v : Value) (es : List Entry) → members_view (insert_entry string_cmp es k v) ≡ put_member (string_bytes k) (view v) (members_view es)
members_view-insert k v [] = refl
members_view-insert k v (e ∷ es) = inserted_at (string_cmp k e.0) k v e es refl (members_view-insert k v es)

tie : (k : List ℕ) → slice_cmp nat_cmp k k ≡ Equal
tie k = equal_from (slice_cmp nat_cmp k k) (same_itself k)
  where
    equal_from : (o : Ordering) → is_eq o ≡ true → o ≡ Equal
    equal_from Less h = cc
    equal_from Equal h = refl
    equal_from Greater h = cc

got_at : (o : Ordering) (k l : List ℕ) (d e : Data) (ms : Members) → slice_cmp nat_cmp k l ≡ o → get_member k (put_member k d ms) ≡ Some d → get_member k (put_member k d (member l e ms)) ≡ Some d
got_at Less k l d e ms o h = rw (o, tie k) refl
got_at Equal k l d e ms o h = rw (o, o) refl
got_at Greater k l d e ms o h = rw (o, o) h

pub get-put : (k : List ℕ) (d : Data) (ms : Members) → get_member k (put_member k d ms) ≡ Some d
get-put k d no_members = rw (tie k) refl
get-put k d (member l e ms) = got_at (slice_cmp nat_cmp k l) k l d e ms refl (get-put k d ms)

passed : (o : Ordering) {A : Type 0} (a b : A) → is_eq o ≡ false → match_ordering o a b a ≡ a
passed Less a b h = refl
passed Equal a b h = cc
passed Greater a b h = refl

-- another key, at a member
get-other : (l k : List ℕ) (d : Data) (ms : Members) → same_key l k ≡ false → get_member l (member k d ms) ≡ get_member l ms
get-other l k d ms h = passed (slice_cmp nat_cmp l k) (get_member l ms) (Some d) h

other_got_at : (o : Ordering) (k l j : List ℕ) (d e : Data) (ms : Members) → slice_cmp nat_cmp k j ≡ o → same_key k l ≡ false → get_member l (put_member k d ms) ≡ get_member l ms
    → get_member l (put_member k d (member j e ms)) ≡ get_member l (member j e ms)
other_got_at Less k l j d e ms o h rest = rw o (get-other l k d (member j e ms) (apart k l h))
other_got_at Equal k l j d e ms o h rest =
    let here : k ≡ j = same k j (ap is_eq o) in
    let differ : same_key l j ≡ false = subst (λ x. same_key l x ≡ false) here (apart k l h) in
    rw o (get-other l j d ms differ ∙ sym (get-other l j e ms differ))
other_got_at Greater k l j d e ms o h rest = rw (o, rest) refl

pub get-put_other : (k l : List ℕ) (d : Data) (ms : Members) → same_key k l ≡ false → get_member l (put_member k d ms) ≡ get_member l ms
get-put_other k l d no_members h = get-other l k d no_members (apart k l h)
get-put_other k l d (member j e ms) h = other_got_at (slice_cmp nat_cmp k j) k l j d e ms refl h (get-put_other k l d ms h)

left_at : (o : Ordering) (k l : List ℕ) (d e : Data) (ms : Members) → slice_cmp nat_cmp k l ≡ o → without_key k (put_member k d ms) ≡ without_key k ms → without_key k (put_member k d (member l e ms)) ≡ without_key k (member l e ms)
left_at Less k l d e ms o h = ap (λ x. without_key k (match_ordering x (member k d (member l e ms)) (member l d ms) (member l e (put_member k d ms)))) o ∙ rw (tie k) refl
left_at Equal k l d e ms o h = rw (o, o) refl
left_at Greater k l d e ms o h = rw (o, o, h) refl

without-put : (k : List ℕ) (d : Data) (ms : Members) → without_key k (put_member k d ms) ≡ without_key k ms
without-put k d no_members = rw (tie k) refl
without-put k d (member l e ms) = left_at (slice_cmp nat_cmp k l) k l d e ms refl (without-put k d ms)

-- a new key put in and taken out
pub put-taken : (k : List ℕ) (d : Data) (ms : Members) → get_member k ms ≡ None → without_key k (put_member k d ms) ≡ ms
put-taken k d ms h = without-put k d ms ∙ without_key-none k ms h

levels_at : (o : Ordering) (k l : List ℕ) (d e : Data) (ms : Members) (most : ℕ) → slice_cmp nat_cmp k l ≡ o → levels d ≤ most → members_levels (member l e ms) ≤ most → (members_levels ms ≤ most → members_levels (put_member k d ms) ≤ most)
    → members_levels (put_member k d (member l e ms)) ≤ most
levels_at Less k l d e ms most o a b rest = rw o (omega (arith, a, b))
levels_at Equal k l d e ms most o a b rest = rw o (omega (arith, a, b))
levels_at Greater k l d e ms most o a b rest =
    let low : members_levels ms ≤ most = omega (arith, b) in
    let more = rest low in
    rw o (omega (arith, b, more))

levels-put : (k : List ℕ) (d : Data) (ms : Members) (most : ℕ) → levels d ≤ most → members_levels ms ≤ most → members_levels (put_member k d ms) ≤ most
levels-put k d no_members most a b = omega (arith, a)
levels-put k d (member l e ms) most a b = levels_at (slice_cmp nat_cmp k l) k l d e ms most refl a b (levels-put k d ms most a)

floats_at : (o : Ordering) (k l : List ℕ) (d e : Data) (ms : Members) → slice_cmp nat_cmp k l ≡ o → has_float d ≡ false → members_have_float (member l e ms) ≡ false → (members_have_float ms ≡ false → members_have_float (put_member k d ms) ≡ false)
    → members_have_float (put_member k d (member l e ms)) ≡ false
floats_at Less k l d e ms o a b rest = rw (o, a) b
floats_at Equal k l d e ms o a b rest = rw (o, a) (or_parts (has_float e) (members_have_float ms) b).1
floats_at Greater k l d e ms o a b rest = let parts = or_parts (has_float e) (members_have_float ms) b in rw (o, parts.0) (rest parts.1)

floats-put : (k : List ℕ) (d : Data) (ms : Members) → has_float d ≡ false → members_have_float ms ≡ false → members_have_float (put_member k d ms) ≡ false
floats-put k d no_members a b = rw a refl
floats-put k d (member l e ms) a b = floats_at (slice_cmp nat_cmp k l) k l d e ms refl a b (floats-put k d ms a)

pub AreSound-put : (most : ℕ) (k : List ℕ) (d : Data) (ms : Members) → IsSound most d → AreSound most ms → AreSound most (put_member k d ms)
AreSound-put most k d ms a b = record { shallow = levels-put k d ms most a.shallow b.shallow; no_floats = floats-put k d ms a.no_floats b.no_floats }

mutual
  depth-within : (d : Data) → depth d ≤ levels d
  depth-within (string s) = omega arith
  depth-within (integer z) = omega arith
  depth-within (float x) = omega arith
  depth-within (boolean b) = omega arith
  depth-within (datetime dt) = omega arith
  depth-within (array ds) = omega (arith, items_depth-within ds)
  depth-within (table ms) = omega (arith, members_depth-within ms)

  items_depth-within : (ds : Items) → items_depth ds ≤ items_levels ds
  items_depth-within no_items = omega arith
  items_depth-within (item d ds) = omega (arith, depth-within d, items_depth-within ds)

  pub members_depth-within : (ms : Members) → members_depth ms ≤ members_levels ms
  members_depth-within no_members = omega arith
  members_depth-within (member k d ms) = omega (arith, depth-within d, members_depth-within ms)

valid_from : (b : Bool) → not b ≡ false → b ≡ true
valid_from true h = refl
valid_from false h = cc

mutual
  dates_from : (d : Data) → has_float d ≡ false → has_valid_dates d ≡ true
  dates_from (string s) h = refl
  dates_from (integer z) h = refl
  dates_from (float x) h = cc
  dates_from (boolean b) h = refl
  dates_from (datetime dt) h = valid_from (is_valid dt) h
  dates_from (array ds) h = items_dates_from ds h
  dates_from (table ms) h = members_dates_from ms h

  items_dates_from : (ds : Items) → items_have_float ds ≡ false → items_have_valid_dates ds ≡ true
  items_dates_from no_items h = refl
  items_dates_from (item d ds) h = let parts = or_parts (has_float d) (items_have_float ds) h in rw (dates_from d parts.0) (items_dates_from ds parts.1)

  -- without floats in this sense all dates are printed
  pub members_dates_from : (ms : Members) → members_have_float ms ≡ false → members_have_valid_dates ms ≡ true
  members_dates_from no_members h = refl
  members_dates_from (member k d ms) h = let parts = or_parts (has_float d) (members_have_float ms) h in rw (dates_from d parts.0) (members_dates_from ms parts.1)
