-- Members, without some, and what stands in them.
use Rattle.std.proofs.Common.{◌≡◌, ◌≤◌, ℕ, suc, Bool, true, false, cond, ◌||◌, max, List, [], ◌∷◌, ◌++◌, codes, nat_eq, if◌then◌else◌, is_some, Option, None, Some, Ordering, Less, Equal, Greater, is_eq, nat_cmp, refl, ap, sym, subst, ◌∙◌, arith}
use Rattle.std.proofs.lemmas.Map.Text.{is_eq-slice_cmp}
use Rattle.std.specs.List.{AllByRecursion}
use Rattle.std.specs.Ordering.{match_ordering}
use Rattle.std.specs.Cmp.Lexicographic.{slice_cmp, nat_list_cmp_total}
use Rattle.std.proofs.lemmas.Slice.Eq.{bytes_eq-Decides}
use Rattle.std.proofs.lemmas.Bool.{and_parts}
use Rattle.std.specs.Cmp.{tied_itself}
use Rattle.std.specs.Option.{option_map, IfSome}
use Rattle.toml.specs.View.{view}
use Rattle.toml.specs.declared.value.Value.{Value}
use Rattle.toml.specs.Data.{Data, string, integer, float, boolean, datetime, array, table, Items, no_items, item, Members, no_members, member, get_member, same_key, as_table}
use Rattle.profile_toml.specs.Levels.{levels, items_levels, members_levels}
use Rattle.profile_toml.specs.Floats.{has_float, items_have_float, members_have_float}
use Rattle.profile_toml.specs.Sound.{IsSound, AreSound}
use Rattle.profile_toml.specs.Tables.{Table, Document, OfType, OfMod, OfRule, OfOverride, known_keys, room, from_2, member_from_2}
use Rattle.profile_toml.specs.Unknown.{without_key, without, unknown_in, HaveNone, AreUnknown}
use Rattle.profile_toml.specs.Texts.{list_of}

-- the same key is the same text
pub same : (k l : List ℕ) → same_key k l ≡ true → k ≡ l
same k l h = (bytes_eq-Decides k l).0 (sym (is_eq-slice_cmp k l) ∙ h)

pub same_itself : (k : List ℕ) → same_key k k ≡ true
same_itself k = ap is_eq (tied_itself nat_list_cmp_total k)

apart_by : (k l : List ℕ) (b : Bool) → same_key l k ≡ b → same_key k l ≡ false → b ≡ false
apart_by k l true p h = sym (subst (λ x. same_key k x ≡ true) (sym (same l k p)) (same_itself k)) ∙ h
apart_by k l false p h = refl

pub apart : (k l : List ℕ) → same_key k l ≡ false → same_key l k ≡ false
apart k l h = apart_by k l (same_key l k) refl h

skip : (o : Ordering) {A : Type 0} (a b : A) → is_eq o ≡ false → match_ordering o a b a ≡ a
skip Less a b h = refl
skip Equal a b h = absurd (true_false h)
  where
    true_false : true ≡ false → ⊥
    true_false q = cc
skip Greater a b h = refl

other_at : (k l j : List ℕ) (d : Data) (ms : Members) → same_key k l ≡ false → (b : Bool) → same_key k j ≡ b → get_member l (without_key k ms) ≡ get_member l ms
    → get_member l (without_key k (member j d ms)) ≡ get_member l (member j d ms)
other_at k l j d ms h true p rest =
    let differ : same_key l j ≡ false = ap (same_key l) (sym (same k j p)) ∙ apart k l h in
    rw p (rest ∙ sym (skip (slice_cmp nat_cmp l j) (get_member l ms) (Some d) differ))
other_at k l j d ms h false p rest = rw (p, rest) refl

-- another key keeps its value
pub get-without : (k l : List ℕ) (ms : Members) → same_key k l ≡ false → get_member l (without_key k ms) ≡ get_member l ms
get-without k l no_members h = refl
get-without k l (member j d ms) h = other_at k l j d ms h (same_key k j) refl (get-without k l ms h)

gone_at : (k j : List ℕ) (d : Data) (ms : Members) (b : Bool) → same_key k j ≡ b → get_member k (without_key k ms) ≡ None → get_member k (without_key k (member j d ms)) ≡ None
gone_at k j d ms true p rest = rw p rest
gone_at k j d ms false p rest = rw p (skip (slice_cmp nat_cmp k j) (get_member k (without_key k ms)) (Some d) p ∙ rest)

pub get-gone : (k : List ℕ) (ms : Members) → get_member k (without_key k ms) ≡ None
get-gone k no_members = refl
get-gone k (member j d ms) = gone_at k j d ms (same_key k j) refl (get-gone k ms)

none_at : (k l : List ℕ) (ms : Members) (b : Bool) → same_key k l ≡ b → get_member l ms ≡ None → get_member l (without_key k ms) ≡ None
none_at k l ms true p h = subst (λ x. get_member x (without_key k ms) ≡ None) (same k l p) (get-gone k ms)
none_at k l ms false p h = get-without k l ms p ∙ h

pub none-without : (ks : List (List ℕ)) (l : List ℕ) (ms : Members) → get_member l ms ≡ None → get_member l (without ks ms) ≡ None
none-without [] l ms h = h
none-without (k ∷ ks) l ms h = none-without ks l (without_key k ms) (none_at k l ms (same_key k l) refl h)

pub HaveNone-without : (ks : List (List ℕ)) (ms : Members) → HaveNone ks (without ks ms)
HaveNone-without [] ms = tt
HaveNone-without (k ∷ ks) ms = (none-without ks k (without_key k ms) (get-gone k ms), HaveNone-without ks (without_key k ms))

hit : (o : Ordering) {A : Type 0} (a b : A) → is_eq o ≡ true → match_ordering o a b a ≡ b
hit Less a b h = absurd (false_true h)
  where
    false_true : false ≡ true → ⊥
    false_true q = cc
hit Equal a b h = refl
hit Greater a b h = absurd (false_true h)
  where
    false_true : false ≡ true → ⊥
    false_true q = cc

some_none : {A : Type 0} (x : A) → Some x ≡ None → ⊥
some_none x q = cc

kept_at : (k j : List ℕ) (d : Data) (ms : Members) (b : Bool) → same_key k j ≡ b → get_member k (member j d ms) ≡ None → (get_member k ms ≡ None → without_key k ms ≡ ms) → without_key k (member j d ms) ≡ member j d ms
kept_at k j d ms true p h rest = absurd (some_none d (sym (hit (slice_cmp nat_cmp k j) (get_member k ms) (Some d) p) ∙ h))
kept_at k j d ms false p h rest = rw p (ap (member j d) (rest (sym (skip (slice_cmp nat_cmp k j) (get_member k ms) (Some d) p) ∙ h)))

-- a key that isn't there
pub without_key-none : (k : List ℕ) (ms : Members) → get_member k ms ≡ None → without_key k ms ≡ ms
without_key-none k no_members h = refl
without_key-none k (member j d ms) h = kept_at k j d ms (same_key k j) refl h (without_key-none k ms)

levels_at : (k j : List ℕ) (d : Data) (ms : Members) (b : Bool) → same_key k j ≡ b → members_levels (without_key k ms) ≤ members_levels ms → members_levels (without_key k (member j d ms)) ≤ members_levels (member j d ms)
levels_at k j d ms true p rest = rw p (omega (arith, rest))
levels_at k j d ms false p rest = rw p (omega (arith, rest))

levels-without_key : (k : List ℕ) (ms : Members) → members_levels (without_key k ms) ≤ members_levels ms
levels-without_key k no_members = omega arith
levels-without_key k (member j d ms) = levels_at k j d ms (same_key k j) refl (levels-without_key k ms)

pub or_parts : (a b : Bool) → (a || b) ≡ false → (a ≡ false) × (b ≡ false)
or_parts true b h = absurd (true_false h)
  where
    true_false : true ≡ false → ⊥
    true_false q = cc
or_parts false b h = (refl, h)

floats_at : (k j : List ℕ) (d : Data) (ms : Members) (b : Bool) → same_key k j ≡ b → members_have_float (member j d ms) ≡ false → (members_have_float ms ≡ false → members_have_float (without_key k ms) ≡ false)
    → members_have_float (without_key k (member j d ms)) ≡ false
floats_at k j d ms true p h rest = rw p (rest (or_parts (has_float d) (members_have_float ms) h).1)
floats_at k j d ms false p h rest = rw (p, (or_parts (has_float d) (members_have_float ms) h).0) (rest (or_parts (has_float d) (members_have_float ms) h).1)

floats-without_key : (k : List ℕ) (ms : Members) → members_have_float ms ≡ false → members_have_float (without_key k ms) ≡ false
floats-without_key k no_members h = refl
floats-without_key k (member j d ms) h = floats_at k j d ms (same_key k j) refl h (floats-without_key k ms)

pub AreSound-without_key : (most : ℕ) (k : List ℕ) (ms : Members) → AreSound most ms → AreSound most (without_key k ms)
AreSound-without_key most k ms h = record { shallow = omega (arith, levels-without_key k ms, h.shallow); no_floats = floats-without_key k ms h.no_floats }

pub AreSound-without : (most : ℕ) (ks : List (List ℕ)) (ms : Members) → AreSound most ms → AreSound most (without ks ms)
AreSound-without most [] ms h = h
AreSound-without most (k ∷ ks) ms h = AreSound-without most ks (without_key k ms) (AreSound-without_key most k ms h)

-- the unknown members of a sound table
pub AreUnknown-in : (version : ℕ) (at : Table) (ms : Members) → AreSound (room at) ms → AreUnknown version at (unknown_in version at ms)
AreUnknown-in version at ms h =
    let ks = known_keys version at in
    let sound = AreSound-without (room at) ks ms h in
    record { others = HaveNone-without ks ms; shallow = sound.shallow; no_floats = sound.no_floats }

pub AreSound-table : (most : ℕ) (ms : Members) → IsSound (suc most) (table ms) → AreSound most ms
AreSound-table most ms h = record { shallow = omega (arith, h.shallow); no_floats = h.no_floats }

sound_parts : (most : ℕ) (j : List ℕ) (d : Data) (ms : Members) → AreSound most (member j d ms) → IsSound most d × AreSound most ms
sound_parts most j d ms h =
    let parts = or_parts (has_float d) (members_have_float ms) h.no_floats in
    (record { shallow = omega (arith, h.shallow); no_floats = parts.0 }, record { shallow = omega (arith, h.shallow); no_floats = parts.1 })

found_at : (most : ℕ) (o : Ordering) (d e : Data) (rest : Option Data) → match_ordering o rest (Some d) rest ≡ Some e → IsSound most d → (rest ≡ Some e → IsSound most e) → IsSound most e
found_at most Less d e rest h here more = more h
found_at most Equal d e rest h here more = subst (IsSound most) (cc) here
found_at most Greater d e rest h here more = more h

-- the value at a key of a sound table
pub IsSound-at : (most : ℕ) (k : List ℕ) (e : Data) (ms : Members) → get_member k ms ≡ Some e → AreSound most ms → IsSound most e
IsSound-at most k e no_members h sound = absurd (none_some h)
  where
    none_some : None ≡ Some e → ⊥
    none_some q = cc
IsSound-at most k e (member j d ms) h sound =
    let parts = sound_parts most j d ms sound in
    found_at most (slice_cmp nat_cmp k j) d e (get_member k ms) h parts.0 (λ g. IsSound-at most k e ms g parts.1)

-- the items of a sound array
pub AllSound-array : (most : ℕ) (ds : Items) → IsSound (suc most) (array ds) → AllByRecursion (IsSound most) (list_of ds)
AllSound-array most no_items h = tt
AllSound-array most (item d ds) h =
    let parts = or_parts (has_float d) (items_have_float ds) h.no_floats in
    (record { shallow = omega (arith, h.shallow); no_floats = parts.0 }, AllSound-array most ds (record { shallow = omega (arith, h.shallow); no_floats = parts.1 }))

-- the value at a key, as it was taken out
pub IsSound-taken : (most : ℕ) (k : List ℕ) (ms : Members) (r : Option Value) → option_map view r ≡ get_member k ms → AreSound most ms → IfSome r (λ v. IsSound most (view v))
IsSound-taken most k ms None h sound = tt
IsSound-taken most k ms (Some v) h sound = IsSound-at most k (view v) ms (sym h) sound

-- the same of a key that version 1 has no meaning for
pub IsSound-taken_from_2 : (most version : ℕ) (k : List ℕ) (ms : Members) (r : Option Value) → option_map view r ≡ member_from_2 version k ms → AreSound most ms → IfSome r (λ v. IsSound most (view v))
IsSound-taken_from_2 most version k ms r h sound = by_version (nat_eq version 1) h
  where
    by_version : (b : Bool) → option_map view r ≡ (if b then None else get_member k ms) → IfSome r (λ v. IsSound most (view v))
    by_version true none = nothing r none
      where
        nothing : (q : Option Value) → option_map view q ≡ None → IfSome q (λ v. IsSound most (view v))
        nothing None none = tt
        nothing (Some v) none = absurd (some_none (view v) none)
    by_version false h = IsSound-taken most k ms r h sound

-- a key of a later version, where other keys were taken
pub member_from_2-is : (version : ℕ) (k : List ℕ) (ns ms : Members) → get_member k ns ≡ get_member k ms → member_from_2 version k ns ≡ member_from_2 version k ms
member_from_2-is version k ns ms h = ap (λ o. if nat_eq version 1 then None else o) h

pub AreSound-from_2 : (most version : ℕ) (k : List ℕ) (ms : Members) → AreSound most ms → AreSound most (without (from_2 version (k ∷ [])) ms)
AreSound-from_2 most version k ms h = AreSound-without most (from_2 version (k ∷ [])) ms h

older_at : (b : Bool) (ks ls : List (List ℕ)) (ms : Members) → HaveNone ((if b then [] else ks) ++ ls) ms → HaveNone ls ms
older_at true ks ls ms h = h
older_at false [] ls ms h = h
older_at false (k ∷ ks) ls ms h = older_at false ks ls ms h.1

-- what a version has no meaning for, version 1 has none for either
pub unknown_to_1 : (version : ℕ) (at : Table) (ms : Members) → AreUnknown version at ms → AreUnknown 1 at ms
unknown_to_1 version Document ms h = record {
  others = (h.others.0, older_at (nat_eq version 1) (codes "fold" ∷ codes "types" ∷ []) (codes "mods" ∷ codes "overrides" ∷ []) ms h.others.1);
  shallow = h.shallow;
  no_floats = h.no_floats;
}
unknown_to_1 version OfType ms h = record { others = h.others; shallow = h.shallow; no_floats = h.no_floats }
unknown_to_1 version OfMod ms h = record {
  others = (h.others.0, (h.others.1.0, older_at (nat_eq version 1) (codes "release" ∷ codes "type" ∷ []) (codes "rules" ∷ []) ms h.others.1.1));
  shallow = h.shallow;
  no_floats = h.no_floats;
}
unknown_to_1 version OfRule ms h = record { others = (h.others.0, (h.others.1.0, tt)); shallow = h.shallow; no_floats = h.no_floats }
unknown_to_1 version OfOverride ms h = record { others = h.others; shallow = h.shallow; no_floats = h.no_floats }

pub viewed : (r : Option Value) → is_some (option_map view r) ≡ is_some r
viewed None = refl
viewed (Some v) = refl
