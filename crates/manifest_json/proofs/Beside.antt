-- Rows whose sources don't meet lie apart.
use Rattle.std.proofs.Common.{◌≡◌, ℕ, Bool, true, false, not, ◌&&◌, ◌||◌, List, [], ◌∷◌, ◌++◌, drop, length, reverse, refl, ap, sym, subst, ◌∙◌}
use Rattle.std.specs.List.{starts_with, list_any, AllByRecursion}
use Rattle.std.specs.Str.{bytes_eq}
use Rattle.std.proofs.lemmas.List.{append-nil, reverse-append}
use Rattle.std.proofs.lemmas.Slice.Eq.{bytes_eq-Decides}
use Rattle.rel_paths.specs.Names.{names_of, extends}
use Rattle.list_laws.proofs.Texts.{names_begin, names_begin-test}
use Rattle.std.proofs.lemmas.Bool.{and_parts}
use Rattle.manifest_json.specs.declared.manifest.Row.{Row}
use Rattle.manifest_json.specs.Apart.{Reaches, AreApart, OfEachPair, HaveApartSources, HasApartSources}
use Rattle.manifest_json.specs.Sources.{meets, AreUnmet}
use Rattle.manifest_json.proofs.Booleans.{neither, false_or}
use Rattle.manifest_json.proofs.Lookups.{bytes_eq-sym}
use Rattle.manifest_json.proofs.RowScans.{all_push, all_reverse}

out_of_reach : (a b : List ℕ) → bytes_eq a b ≡ false → extends a b ≡ false → Reaches a b → ⊥
unfolding extends
out_of_reach a b differs h reach =
    let begins : starts_with bytes_eq (names_of a) (names_of b) ≡ true = names_begin-test (names_of a) (names_of b) reach.rest reach.names in
    let there : (starts_with bytes_eq (names_of a) (names_of b) && not (bytes_eq a b)) ≡ true = (λ i. begins i && not (differs i)) in
    cc

reached : (a b : List ℕ) → extends a b ≡ true → Reaches a b
unfolding extends
reached a b h =
    let parts = and_parts (starts_with bytes_eq (names_of a) (names_of b)) (not (bytes_eq a b)) h in
    record { rest = drop (length (names_of b)) (names_of a); names = names_begin (names_of a) (names_of b) parts.0 }

equal_reach : (a b : List ℕ) → bytes_eq a b ≡ true → Reaches a b
equal_reach a b h = record { rest = []; names = ap names_of ((bytes_eq-Decides a b).0 h) ∙ sym (append-nil (names_of b)) }

-- what isn't so is false
refuted : (b : Bool) → (b ≡ true → ⊥) → b ≡ false
refuted true h = absurd (h refl)
refuted false h = refl

pub apart_from_meets : (r x : Row) → meets r x ≡ false → HaveApartSources x r
apart_from_meets r x h same =
    let one : bytes_eq x.mod_id r.mod_id ≡ true = (bytes_eq-Decides x.mod_id r.mod_id).1 same in
    let rest = ap (λ b. b && (bytes_eq x.source r.source || (extends x.source r.source || extends r.source x.source))) (sym one) ∙ h in
    let first = neither (bytes_eq x.source r.source) (extends x.source r.source || extends r.source x.source) rest in
    let second = neither (extends x.source r.source) (extends r.source x.source) first.1 in
    (out_of_reach x.source r.source first.0 second.0, out_of_reach r.source x.source (bytes_eq-sym r.source x.source ∙ first.0) second.1)

pub meets_from_apart : (r x : Row) → HaveApartSources x r → meets r x ≡ false
meets_from_apart r x h =
    elim (bytes_eq x.mod_id r.mod_id) as (λ b. bytes_eq x.mod_id r.mod_id ≡ b → (b && (bytes_eq x.source r.source || (extends x.source r.source || extends r.source x.source))) ≡ false) [
      | true ↦ λ e.
          let apart = h ((bytes_eq-Decides x.mod_id r.mod_id).0 e) in
          let a = refuted (bytes_eq x.source r.source) (λ t. apart.0 (equal_reach x.source r.source t)) in
          let b = refuted (extends x.source r.source) (λ t. apart.0 (reached x.source r.source t)) in
          let c = refuted (extends r.source x.source) (λ t. apart.1 (reached r.source x.source t)) in
          λ i. a i || (b i || c i)
      | false ↦ λ e. refl
    ] refl

each_push : (P : Row → Row → Type 0) (xs : List Row) (y : Row) → OfEachPair P xs → AllByRecursion (λ x. P x y) xs → OfEachPair P (xs ++ y ∷ [])
each_push P [] y h k = (tt, tt)
each_push P (x ∷ xs) y h k = (all_push (P x) xs y h.0 k.0, each_push P xs y h.1 k.1)

all_apart : (r : Row) (rs : List Row) → list_any (meets r) rs ≡ false → AllByRecursion (λ x. HaveApartSources x r) rs
all_apart r [] h = tt
all_apart r (x ∷ rs) h = let parts = neither (meets r x) (list_any (meets r) rs) h in (apart_from_meets r x parts.0, all_apart r rs parts.1)

pub unmet_apart : (rows : List Row) → AreUnmet rows → HasApartSources (reverse rows)
unmet_apart [] h = tt
unmet_apart (r ∷ rs) h =
    subst HasApartSources (sym (reverse-append (r ∷ []) rs))
    (each_push HaveApartSources (reverse rs) r (unmet_apart rs h.1) (all_reverse (λ x. HaveApartSources x r) rs (all_apart r rs h.0)))
