-- Entries with the value at a key changed.
use Rattle.std.proofs.Common.{◌≡◌, ◌≢◌, ◌<◌, ℕ, List, [], ◌∷◌, ◌++◌, Bool, true, false, cond, not, nat_lt, None, Some, length, position, refl, sym, ap, subst, ◌∙◌, length-append, arith}
use Rattle.std.specs.Prelude.{MatchBool}
use Rattle.std.specs.List.{position_or_len}
use Rattle.std.specs.Map.{lookup, set_value}
use Rattle.std.specs.Option.{option_map_or}
use Rattle.std.specs.Str.{bytes_eq}
use Rattle.std.proofs.lemmas.Map.Steps.{set_value_same}
use Rattle.std.proofs.lemmas.List.Edits.{length-remove}
use Rattle.std.proofs.lemmas.List.Quantifiers.{position-Some}
use Rattle.list_laws.proofs.Lists.{longer}
use Rattle.list_laws.proofs.Lookups.{lookup-set_value}
use Rattle.list_laws.proofs.Positions.{place-from_some, place_below}
use Rattle.profile_toml.specs.declared.rule.RuleKind.{RuleKind}
use Rattle.profile_toml.specs.Records.{ModData}
use Rattle.profile_edit.specs.Parts.{value_at, with_value, with_enabled, with_rule, without_rule, is_rule}

pub with_value-None : {X : Type 0} (key : List ℕ) (f : X → X) (es : List (List ℕ × X)) → value_at key es ≡ None → with_value key f es ≡ es
with_value-None key f es none = ap (λ o. option_map_or (λ x. set_value (bytes_eq key) es (f x)) o es) none

pub with_value-Some : {X : Type 0} (key : List ℕ) (f : X → X) (es : List (List ℕ × X)) (v : X) → value_at key es ≡ Some v → with_value key f es ≡ set_value (bytes_eq key) es (f v)
with_value-Some key f es v some = ap (λ o. option_map_or (λ x. set_value (bytes_eq key) es (f x)) o es) some

pub stays : {X : Type 0} (key : List ℕ) (f : X → X) (es : List (List ℕ × X)) (v : X) → value_at key es ≡ Some v → f v ≡ v → with_value key f es ≡ es
stays key f es v some same = with_value-Some key f es v some ∙ ap (set_value (bytes_eq key) es) same ∙ set_value_same (bytes_eq key) es v some

pub differs : {X : Type 0} (key : List ℕ) (f : X → X) (es : List (List ℕ × X)) (v : X) → value_at key es ≡ Some v → f v ≢ v → with_value key f es ≢ es
differs key f es v some other same =
    let new : value_at key es ≡ Some (f v) = ap (value_at key) (sym same ∙ with_value-Some key f es v some) ∙ lookup-set_value (bytes_eq key) es v (f v) some in
    let both : Some (f v) ≡ Some v = sym new ∙ some in
    other cc

-- enabling or disabling changes the mod unless it was so
pub enabled_differs : (id : List ℕ) (mods : List (List ℕ × ModData)) (m : ModData) (was : Bool) → value_at id mods ≡ Some m → m.enabled ≡ was
    → MatchBool (not was) (with_value id (with_enabled true) mods ≢ mods) (with_value id (with_enabled true) mods ≡ mods)
enabled_differs id mods m true some is = stays id (with_enabled true) mods m some (λ i. record m { enabled = sym is i })
enabled_differs id mods m false some is = differs id (with_enabled true) mods m some (λ e. let bad : true ≡ false = ap (λ x. x.enabled) e ∙ is in cc)

pub disabled_differs : (id : List ℕ) (mods : List (List ℕ × ModData)) (m : ModData) (was : Bool) → value_at id mods ≡ Some m → m.enabled ≡ was
    → MatchBool was (with_value id (with_enabled false) mods ≢ mods) (with_value id (with_enabled false) mods ≡ mods)
disabled_differs id mods m true some is = differs id (with_enabled false) mods m some (λ e. let bad : false ≡ true = ap (λ x. x.enabled) e ∙ is in cc)
disabled_differs id mods m false some is = stays id (with_enabled false) mods m some (λ i. record m { enabled = sym is i })

pub rule_differs : (id : List ℕ) (kind : RuleKind) (refers : List ℕ) (mods : List (List ℕ × ModData)) (m : ModData) → value_at id mods ≡ Some m → with_value id (with_rule kind refers) mods ≢ mods
rule_differs id kind refers mods m some = differs id (with_rule kind refers) mods m some (λ e. longer m.rules _ (ap (λ x. x.rules) e))

pub no_rule_differs : (id : List ℕ) (kind : RuleKind) (refers : List ℕ) (mods : List (List ℕ × ModData)) (m : ModData) (i : ℕ) → value_at id mods ≡ Some m → position (is_rule kind refers) m.rules ≡ Some i
    → with_value id (without_rule kind refers) mods ≢ mods
no_rule_differs id kind refers mods m i some at =
    let is = place-from_some (is_rule kind refers) m.rules i at in
    let below : position_or_len (is_rule kind refers) m.rules < length m.rules = subst (λ k. k < length m.rules) is (place_below (is_rule kind refers) m.rules i at) in
    differs id (without_rule kind refers) mods m some
    (λ e. omega (arith, ap (λ x. length x.rules) e, length-remove m.rules (position_or_len (is_rule kind refers) m.rules) below))
