-- Overrides: their indexes, and that each path has one at most.
use Rattle.std.proofs.Common.{◌≡◌, ℕ, ◌<◌, Bool, true, false, cond, nat_eq, List, [], ◌∷◌, ◌++◌, length, get_or, map, sym, refl, ap, subst, ◌∙◌, inl, inr, arith, length-append, true≢false}
use Rattle.std.specs.List.{AllByRecursion, Contains, IsDistinct, slice_get}
use Rattle.std.specs.Str.{bytes_eq}
use Rattle.std.specs.Ordering.{nat_cmp, is_eq}
use Rattle.std.specs.Cmp.Lexicographic.{slice_cmp, pointwise}
use Rattle.std.specs.declared.option.Option.{Option}
use Rattle.std.specs.declared.option.Option.TheVariants.{None, Some}
use Rattle.std.proofs.Math.Seq.{get_or-append_seam}
use Rattle.std.proofs.lemmas.List.{get_or_append_left}
use Rattle.std.proofs.lemmas.List.Elements.{Contains-append_cases}
use Rattle.std.proofs.lemmas.Option.{slice_get-get_or, slice_get_within, get_or_from_slice_get}
use Rattle.std.proofs.lemmas.Map.Text.{is_eq-slice_cmp}
use Rattle.list_laws.proofs.Alls.{all_item}
use Rattle.list_laws.proofs.Containing.{contains_here, contains_cases, contains_none, map_contains}
use Rattle.profile_toml.specs.Records.{OverrideData}
use Rattle.winner_table.specs.Overrides.{HasNone, IsEntryAt, IsEntryWith, IsModAt, IsIndexAt}
use Rattle.winner_table.proofs.Grouping.{equal, same}
use Rattle.winner_table.proofs.Sorting.{either}

-- One override more

get_left : (xs ys : List OverrideData) (k : ℕ) (x : OverrideData) → slice_get xs k ≡ Some x → slice_get (xs ++ ys) k ≡ Some x
get_left xs ys k x e =
    let low = slice_get_within xs k x e in
    let more : k < length (xs ++ ys) = omega (arith, low, length-append xs ys) in
    slice_get-get_or (xs ++ ys) k x more ∙ ap Some (get_or_append_left xs ys x k low ∙ get_or_from_slice_get xs k x x e)

get_seam : (xs : List OverrideData) (x : OverrideData) → slice_get (xs ++ x ∷ []) (length xs) ≡ Some x
get_seam xs x =
    let more : length xs < length (xs ++ x ∷ []) = omega (arith, length-append xs (x ∷ [])) in
    slice_get-get_or (xs ++ x ∷ []) (length xs) x more ∙ ap Some (get_or-append_seam xs x [] x)

module _ (xs : List OverrideData) (x : OverrideData) (path : List ℕ) where
  other : (old : Option ℕ) → (x.path ≡ path → ⊥) → IsIndexAt xs path old → IsIndexAt (xs ++ x ∷ []) path old
  other None ne none = λ entry c is. elim (Contains-append_cases xs (x ∷ []) entry c) [
    | inl l ↦ none entry l is
    | inr r ↦ elim (contains_cases x entry [] r) [
      | inl e ↦ ne (ap (λ (o : OverrideData). o.path) (sym e) ∙ is)
      | inr n ↦ contains_none entry n
    ]
  ]
  other (Some k) ne h = record { entry = h.entry; is = get_left xs (x ∷ []) k h.entry h.is; at = h.at }

  pub index_more : (old : Option ℕ) → IsIndexAt xs path old → IsIndexAt (xs ++ x ∷ []) path (cond (is_eq (slice_cmp nat_cmp x.path path)) (Some (length xs)) old)
  index_more old h = elim (either (is_eq (slice_cmp nat_cmp x.path path))) [
    | inl e ↦ subst (λ b. IsIndexAt (xs ++ x ∷ []) path (cond b (Some (length xs)) old)) (sym e)
        (record { entry = x; is = get_seam xs x; at = same x.path path (sym (is_eq-slice_cmp x.path path) ∙ e) })
    | inr e ↦ subst (λ b. IsIndexAt (xs ++ x ∷ []) path (cond b (Some (length xs)) old)) (sym e)
        (other old (λ is. true≢false (sym (is_eq-slice_cmp x.path path ∙ equal x.path path is) ∙ e)) h)
  ]

-- One override at most

pub one_override : (xs : List OverrideData) (a b : OverrideData) → IsDistinct (pointwise nat_eq) (map (λ (o : OverrideData). o.path) xs) → Contains xs a → Contains xs b → a.path ≡ b.path → a ≡ b
unfolding IsDistinct
one_override [] a b h ca cb e = absurd (contains_none a ca)
one_override (x ∷ xs) a b h ca cb e = elim (contains_cases x a xs ca) [
  | inl ax ↦ elim (contains_cases x b xs cb) [
    | inl bx ↦ ax ∙ sym bx
    | inr bs ↦ (let differs = all_item (λ q. pointwise nat_eq x.path q ≡ false) (map (λ (o : OverrideData). o.path) xs) b.path h.0 (map_contains (λ (o : OverrideData). o.path) xs b bs) in
        absurd (true≢false (sym (equal x.path b.path (ap (λ (o : OverrideData). o.path) (sym ax) ∙ e)) ∙ differs)))
  ]
  | inr rest ↦ elim (contains_cases x b xs cb) [
    | inl bx ↦ (let differs = all_item (λ q. pointwise nat_eq x.path q ≡ false) (map (λ (o : OverrideData). o.path) xs) a.path h.0 (map_contains (λ (o : OverrideData). o.path) xs a rest) in
        absurd (true≢false (sym (equal x.path a.path (ap (λ (o : OverrideData). o.path) (sym bx) ∙ sym e)) ∙ differs)))
    | inr bs ↦ one_override xs a b h.1 rest bs e
  ]
]

-- The mod of the override with an index

pub entry_at : (xs : List OverrideData) (path : List ℕ) (index : ℕ) (id : List ℕ) → IsEntryWith xs path index → IsModAt xs index id → IsEntryAt xs path id
entry_at xs path index id w m =
    let one : w.entry ≡ m.entry = some_is w.entry m.entry (sym w.is ∙ m.is) in
    record {
      entry = w.entry;
      among = (index, slice_get_within xs index w.entry w.is, get_or_from_slice_get xs index w.entry w.entry w.is);
      at = w.at;
      to = ap (λ (o : OverrideData). o.mod_id) one ∙ m.to;
    }
  where
    some_is : (a b : OverrideData) → Some a ≡ Some b → a ≡ b
    some_is a b e = cc
