-- Files below a base folder.
use Rattle.std.proofs.Common.{◌≡◌, ℕ, suc, ◌<◌, ◌≤◌, ◌+◌, Bool, false, true, not, ◌||◌, ◌&&◌, nat_le, List, [], ◌∷◌, ◌++◌, length, get_or, take, drop, map, is_none, refl, sym, ap, ◌∙◌, subst, arith}
use Rattle.std.specs.List.{AllByRecursion, list_any}
use Rattle.std.specs.List.Sorted.{IsStrictlySortedBy}
use Rattle.std.specs.Ordering.{nat_cmp, ordering_then}
use Rattle.std.specs.Cmp.Lexicographic.{slice_cmp}
use Rattle.std.specs.declared.cmp.Ordering.TheVariants.{Less}
use Rattle.std.specs.declared.option.Option.{Option}
use Rattle.std.specs.declared.option.Option.TheVariants.{None, Some}
use Rattle.std.proofs.lemmas.Cmp.{tied_itself, nat_cmp_total}
use Rattle.std.proofs.lemmas.List.Folds.{list_any-append}
use Rattle.rel_paths.specs.Names.{names_of, joined, has_backup, begins_with_manifest, is_reserved, path_fault, user_limits, is_base, IsBase, IsFreePath, IsUserPath, IsHeldPath}
use Rattle.rel_paths.proofs.NamesOf.{has_names, same_text, joined-text, names_of-joined}
use Rattle.rel_paths.proofs.Limits.{IsWithin-from_fault, IsHeldPath-user, IsHeldPath-joined}
use Rattle.std.proofs.lemmas.Bool.{and_parts, and_from, not-true, not_from_false, leb-true, le-leb}
use Rattle.list_laws.proofs.Truths.{none-from_is_none}
use Rattle.list_laws.proofs.Alls.{all_map, all_weaken}
use Rattle.list_laws.proofs.Lists.{around}
use Rattle.stage_scan.specs.Files.{AreInPathOrder}
use Rattle.stage_scan.specs.Placed.{target, HasUserTarget, IsFirstLong}

-- Order

-- one text in front of both keeps their order
cmp-behind : (front a b : List ℕ) → slice_cmp nat_cmp (front ++ 47 ∷ a) (front ++ 47 ∷ b) ≡ slice_cmp nat_cmp a b
cmp-behind [] a b = refl
cmp-behind (x ∷ xs) a b = ap (λ o. ordering_then o (slice_cmp nat_cmp (xs ++ 47 ∷ a) (xs ++ 47 ∷ b))) (tied_itself nat_cmp_total x) ∙ cmp-behind xs a b

pub cmp-target : (base : Option (List ℕ)) (a b : List ℕ) → slice_cmp nat_cmp (target base a) (target base b) ≡ slice_cmp nat_cmp a b
cmp-target None a b = refl
cmp-target (Some base) a b = (λ i. slice_cmp nat_cmp (joined-text base a i) (joined-text base b i)) ∙ cmp-behind base a b

pub targets_ordered : (base : Option (List ℕ)) (sources : List (List ℕ)) → AreInPathOrder sources → AreInPathOrder (map (target base) sources)
unfolding IsStrictlySortedBy
targets_ordered base [] h = tt
targets_ordered base (s ∷ ss) h = (
  all_map (λ t. slice_cmp nat_cmp (target base s) t ≡ Less) (target base) ss
      (all_weaken (λ t. slice_cmp nat_cmp s t ≡ Less) (λ t. slice_cmp nat_cmp (target base s) (target base t) ≡ Less) ss (λ t e. cmp-target base s t ∙ e) h.0),
  targets_ordered base ss h.1,
)

-- What a base is

record BaseParts (base : List ℕ) : Type 0 where
  free : IsFreePath base
  names : length (names_of base) ≤ 8
  bytes : length base ≤ 300

base_parts : (base : List ℕ) → IsBase base → BaseParts base
unfolding is_base
base_parts base h =
    let user = is_none (path_fault user_limits base) in
    let free = not (is_reserved (names_of base)) in
    let few = nat_le (length (names_of base)) 8 in
    let a = and_parts (user && free && few) (nat_le (length base) 300) h in
    let b = and_parts (user && free) few a.0 in
    let c = and_parts user free b.0 in
    record {
      free = (none-from_is_none (path_fault user_limits base) c.0, not-true (is_reserved (names_of base)) c.1);
      names = leb-true (length (names_of base)) 8 b.1;
      bytes = leb-true (length base) 300 a.1;
    }

-- What is free

neither : (a b c d : Bool) → (a || c) ≡ false → (b || d) ≡ false → (a || b || c) ≡ false
neither false false false d e f = refl
neither false false true d e f = e
neither false true c d e f = f
neither true b c d e f = e

not_reserved : (n : List ℕ) (ns more : List (List ℕ)) → is_reserved (n ∷ ns) ≡ false → is_reserved more ≡ false → is_reserved ((n ∷ ns) ++ more) ≡ false
unfolding is_reserved
not_reserved n ns more e f = rw list_any-append (neither (has_backup (n ∷ ns)) (has_backup more) (begins_with_manifest (n ∷ ns)) (begins_with_manifest more) e f)

not_reserved_below : (above below : List (List ℕ)) (n : List ℕ) (ns : List (List ℕ)) → above ≡ n ∷ ns → is_reserved above ≡ false → is_reserved below ≡ false → is_reserved (above ++ below) ≡ false
not_reserved_below above below n ns is e f = ap (λ l. is_reserved (l ++ below)) is ∙ not_reserved n ns below (ap is_reserved (sym is) ∙ e) f

-- what isn't reserved, joined behind what isn't, isn't either
pub joined_free : (base source : List ℕ) → IsFreePath base → IsFreePath source → IsUserPath (joined base source) → IsFreePath (joined base source)
joined_free base source b s user =
    let r = has_names base in
    (user, ap is_reserved (names_of-joined base source) ∙ not_reserved_below (names_of base) (names_of source) r.0 r.1 r.2 b.1 s.1)

-- a path below a base is within the limits of a held path
pub joined_held : (base source : List ℕ) → IsBase base → IsFreePath source → IsHeldPath (joined base source)
joined_held base source b s =
    let parts = base_parts base b in
    let w = IsWithin-from_fault user_limits source s.0 in
    let bytes = w.bytes in
    let names = w.names in
    IsHeldPath-joined base source (IsHeldPath-user base parts.free.0) (IsHeldPath-user source s.0) (omega (arith, parts.bytes, bytes)) (omega (arith, parts.names, names))

-- A path made of the names of a base and of a file

pub is_target : (base : Option (List ℕ)) (above source path : List ℕ) → base ≡ Some above → names_of path ≡ names_of above ++ names_of source → path ≡ target base source
is_target base above source path is names = same_text path (joined above source) (names ∙ sym (names_of-joined above source)) ∙ ap (λ b. target b source) (sym is)

pub target_free : (base : Option (List ℕ)) (above source path : List ℕ) → base ≡ Some above → path ≡ target base source → IsBase above → IsFreePath source → IsUserPath path → IsFreePath path
target_free base above source path is at b s user =
    let same : path ≡ joined above source = at ∙ ap (λ o. target o source) is in
    subst IsFreePath (sym same) (joined_free above source (base_parts above b).free s (subst IsUserPath same user))

pub no_target : (base : Option (List ℕ)) (source path : List ℕ) → path ≡ target base source → (IsUserPath path → ⊥) → HasUserTarget base source → ⊥
no_target base source path at not user = not (subst IsUserPath (sym at) user)

-- the one that has none, where those in front of it have one
pub first_long : (base : Option (List ℕ)) (files items : List (List ℕ)) (i : ℕ) (source copy : List ℕ) → items ≡ files → i < length items → source ≡ get_or items i source → copy ≡ source
    → AllByRecursion (HasUserTarget base) (take i items) → (HasUserTarget base source → ⊥) → IsFirstLong base files copy
first_long base files items i source copy same low is copied before long = subst (IsFirstLong base files) (sym copied) (record {
  front = take i items;
  back = drop (suc i) items;
  here = sym same ∙ around items i source low is;
  before = before;
  long = long;
})
