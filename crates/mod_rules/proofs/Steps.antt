-- Steps of the loops over the mods and over the rules.
use Rattle.std.proofs.Common.{◌≡◌, ◌≤◌, ℕ, ◌+◌, List, [], ◌∷◌, ◌++◌, Bool, true, false, cond, ◌||◌, Option, None, Some, length, map, find, refl, ap, ◌∙◌, append-nil, length-append, arith}
use Rattle.std.proofs.lemmas.List.Elements.{filter-append, filter_map-append}
use Rattle.std.proofs.lemmas.List.Folds.{list_any-append, find-append}
use Rattle.std.proofs.lemmas.List.Concat.{flat_map-append}
use Rattle.std.specs.List.{list_any, filter_map, flat_map}
use Rattle.std.specs.Option.{option_or, option_map}
use Rattle.profile_toml.specs.Records.{ModData, RuleData}
use Rattle.mod_rules.specs.Nodes.{enabled_of}
use Rattle.mod_rules.specs.Checks.{rules_of}
use Rattle.mod_rules.specs.Pairs.{is_edge}

pub enabled_of-on : (ys : List (List ℕ × ModData)) (m : List ℕ × ModData) → m.1.enabled ≡ true → enabled_of (ys ++ m ∷ []) ≡ enabled_of ys ++ m ∷ []
enabled_of-on ys m on = filter-append (λ x. x.1.enabled) ys (m ∷ []) ∙ ap (λ b. enabled_of ys ++ cond b (m ∷ []) []) on

pub enabled_of-off : (ys : List (List ℕ × ModData)) (m : List ℕ × ModData) → m.1.enabled ≡ false → enabled_of (ys ++ m ∷ []) ≡ enabled_of ys
enabled_of-off ys m off = filter-append (λ x. x.1.enabled) ys (m ∷ []) ∙ ap (λ b. enabled_of ys ++ cond b (m ∷ []) []) off ∙ append-nil (enabled_of ys)

-- all the enabled ones, about one of them
pub enabled_of-around : (ys : List (List ℕ × ModData)) (m : List ℕ × ModData) (zs : List (List ℕ × ModData)) → m.1.enabled ≡ true → enabled_of (ys ++ m ∷ zs) ≡ enabled_of ys ++ m ∷ enabled_of zs
enabled_of-around ys m zs on = filter-append (λ x. x.1.enabled) ys (m ∷ zs) ∙ ap (λ b. enabled_of ys ++ cond b (m ∷ enabled_of zs) (enabled_of zs)) on

-- a loop over the mods that counts the enabled ones
pub counted_on : (ys : List (List ℕ × ModData)) (m : List ℕ × ModData) (all : List (List ℕ × ModData)) (n : ℕ) → all ≡ ys ++ m ∷ [] → m.1.enabled ≡ true → n ≡ length (enabled_of ys) → n + 1 ≡ length (enabled_of all)
counted_on ys m all n is on h = rw (is, enabled_of-on ys m on, length-append, h) refl

pub counted_off : (ys : List (List ℕ × ModData)) (m : List ℕ × ModData) (all : List (List ℕ × ModData)) (n : ℕ) → all ≡ ys ++ m ∷ [] → m.1.enabled ≡ false → n ≡ length (enabled_of ys) → n ≡ length (enabled_of all)
counted_off ys m all n is off h = rw (is, enabled_of-off ys m off) h

-- of fewer than 2 ^ 32 enabled mods one more is still counted
pub room_for : (ys : List (List ℕ × ModData)) (m : List ℕ × ModData) (zs all : List (List ℕ × ModData)) (n : ℕ) → ys ++ m ∷ zs ≡ all → m.1.enabled ≡ true → n ≡ length (enabled_of ys) → n + 1 ≤ length (enabled_of all)
room_for ys m zs all n is on h = rw (← is, enabled_of-around ys m zs on, length-append, h) (omega arith)

or_cases : (b was old l : Bool) → was ≡ (old || l) → cond b true was ≡ (old || (l || (b || false)))
or_cases true was true l h = refl
or_cases true was false true h = refl
or_cases true was false false h = refl
or_cases false was true l h = h
or_cases false was false true h = h
or_cases false was false false h = h

-- a loop over rules that adds the edge that a rule has
pub edge_added : (f : RuleData → Option (ℕ × ℕ)) (rs : List RuleData) (r : RuleData) (e q : ℕ × ℕ) (was old now : Bool) → f r ≡ Some e → now ≡ cond (is_edge e q) true was
    → was ≡ (old || list_any (λ x. is_edge x q) (filter_map f rs)) → now ≡ (old || list_any (λ x. is_edge x q) (filter_map f (rs ++ r ∷ [])))
edge_added f rs r e q was old now has is h =
    rw (filter_map-append f rs (r ∷ []), has, list_any-append (λ x. is_edge x q) (filter_map f rs) (e ∷ [])) (is ∙ or_cases (is_edge e q) was old (list_any (λ x. is_edge x q) (filter_map f rs)) h)

pub no_edge_added : (f : RuleData → Option (ℕ × ℕ)) (rs : List RuleData) (r : RuleData) (q : ℕ × ℕ) (was old : Bool) → f r ≡ None
    → was ≡ (old || list_any (λ x. is_edge x q) (filter_map f rs)) → was ≡ (old || list_any (λ x. is_edge x q) (filter_map f (rs ++ r ∷ [])))
no_edge_added f rs r q was old has h = rw (filter_map-append f rs (r ∷ []), has, append-nil) h

-- the first rule that passes, each rule taken with its mod's id
find-rules : (p : List ℕ × RuleData → Bool) (id : List ℕ) (rs : List RuleData) → find p (map (λ r. (id, r)) rs) ≡ option_map (λ r. (id, r)) (find (λ r. p (id, r)) rs)
find-rules p id [] = refl
find-rules p id (r ∷ rs) = by (p (id, r)) refl (find-rules p id rs)
  where
    by : (b : Bool) → p (id, r) ≡ b → find p (map (λ x. (id, x)) rs) ≡ option_map (λ x. (id, x)) (find (λ x. p (id, x)) rs)
        → find p (map (λ x. (id, x)) (r ∷ rs)) ≡ option_map (λ x. (id, x)) (find (λ x. p (id, x)) (r ∷ rs))
    by true e rest = rw e refl
    by false e rest = rw e rest

pub first_found : (p : List ℕ × RuleData → Bool) (ys : List (List ℕ × ModData)) (m : List ℕ × ModData) (zs all : List (List ℕ × ModData)) (r : RuleData) → ys ++ m ∷ zs ≡ all → m.1.enabled ≡ true
    → find p (flat_map rules_of (enabled_of ys)) ≡ None → find (λ x. p (m.0, x)) m.1.rules ≡ Some r → find p (flat_map rules_of (enabled_of all)) ≡ Some (m.0, r)
first_found p ys m zs all r is on none has =
    rw (← is, enabled_of-around ys m zs on, flat_map-append rules_of (enabled_of ys) (m ∷ enabled_of zs), find-append p (flat_map rules_of (enabled_of ys)) (flat_map rules_of (m ∷ enabled_of zs)), none)
    (find-append p (rules_of m) (flat_map rules_of (enabled_of zs)) ∙ ap (λ o. option_or o (find p (flat_map rules_of (enabled_of zs)))) (find-rules p m.0 m.1.rules ∙ ap (option_map (λ x. (m.0, x))) has))

pub none_found : (p : List ℕ × RuleData → Bool) (ys : List (List ℕ × ModData)) (m : List ℕ × ModData) (all : List (List ℕ × ModData)) → all ≡ ys ++ m ∷ [] → m.1.enabled ≡ true
    → find p (flat_map rules_of (enabled_of ys)) ≡ None → find (λ x. p (m.0, x)) m.1.rules ≡ None → find p (flat_map rules_of (enabled_of all)) ≡ None
none_found p ys m all is on none has =
    rw (is, enabled_of-on ys m on, flat_map-append rules_of (enabled_of ys) (m ∷ []), find-append p (flat_map rules_of (enabled_of ys)) (flat_map rules_of (m ∷ [])), none, append-nil (rules_of m))
    (find-rules p m.0 m.1.rules ∙ ap (option_map (λ x. (m.0, x))) has)
