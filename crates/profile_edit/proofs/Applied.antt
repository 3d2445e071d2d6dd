-- What the edits of a part leave.
use Rattle.std.proofs.Common.{◌≡◌, ◌≢◌, ◌≤◌, ℕ, ◌+◌, List, [], ◌∷◌, ◌++◌, Bool, true, false, cond, not, ◌&&◌, nat_lt, is_some, is_none, Option, None, Some, Result, Ok, Err, length, position, refl, sym, ap, subst, ◌∙◌, arith}
use Rattle.std.specs.Prelude.{MatchBool, remove, OnErr, IfNone}
use Rattle.std.specs.Map.{set_value, remove_entry, values_of}
use Rattle.std.specs.Option.{option_map, option_map_or, option_copied}
use Rattle.std.specs.Borrow.{Bor}
use Rattle.std.specs.Str.{bytes_eq}
use Rattle.std.proofs.lemmas.List.{map-append}
use Rattle.std.proofs.lemmas.Map.Entries.{length-values_of}
use Rattle.std.specs.Cmp.Lexicographic.{bytes_decides}
use Rattle.list_laws.proofs.Lists.{longer}
use Rattle.list_laws.proofs.Positions.{place-from_some}
use Rattle.toml.specs.Data.{no_members}
use Rattle.profile_toml.specs.declared.rule.RuleKind.{RuleKind}
use Rattle.profile_toml.specs.Plain.{plain_mod}
use Rattle.profile_toml.specs.Records.{ProfileData, ModData, OverrideData, AreAtTheirPaths}
use Rattle.profile_edit.specs.declared.error.EditError.{EditError}
use Rattle.profile_edit.specs.declared.error.EditError.TheVariants.{TooMany, NoMod, SameRule, NoRule, NoOverride}
use Rattle.profile_edit.specs.Parts.{value_at, with_value, with_enabled, with_rule, without_rule, with_release, with_mod_id, is_rule, has_rule}
use Rattle.profile_edit.specs.Edits.{Applies, fault_if, enable_fault, no_mod_fault, add_fault, drop_fault, no_override_fault, mods_enabled, overrides_set, overrides_dropped}
use Rattle.profile_edit.proofs.Values.{with_value-Some, enabled_differs, disabled_differs, rule_differs, no_rule_differs, differs, stays}
use Rattle.profile_edit.proofs.Keyed.{keyed_again, same_entries, keyed-with_value}

record Was (o : Option ModData) (was : Bool) : Type 0 where
  entry : ModData
  there : o ≡ Some entry
  is : entry.enabled ≡ was

was_there : (o : Option ModData) (was : Bool) → Some was ≡ option_map (λ m. m.enabled) o → Was o was
was_there None was h = cc
was_there (Some m) was h = record { entry = m; there = refl; is = cc }

not_below : (a b : ℕ) → b ≤ a → nat_lt a b ≡ false
not_below a b h = grind arith

pub disabled : (id : List ℕ) (mods new : List (List ℕ × ModData)) (was : Bool) → Some was ≡ option_map (λ m. m.enabled) (value_at id mods) → new ≡ with_value id (with_enabled false) mods
    → Applies (no_mod_fault id mods) mods (with_value id (with_enabled false) mods) new (Ok was)
disabled id mods new was h is =
    let w = was_there (value_at id mods) was h in (
      ap (λ o. fault_if (is_none o) (NoMod id)) w.there,
      is,
      subst (λ l. MatchBool was (l ≢ mods) (l ≡ mods)) (sym is) (disabled_differs id mods w.entry was w.there w.is),
    )

pub enabled : (most : ℕ) (id : List ℕ) (mods new : List (List ℕ × ModData)) (was : Bool) → Some was ≡ option_map (λ m. m.enabled) (value_at id mods) → new ≡ with_value id (with_enabled true) mods
    → Applies (enable_fault most id mods) mods (mods_enabled id mods) new (Ok (not was))
enabled most id mods new was h is =
    let w = was_there (value_at id mods) was h in (
      ap (λ o. fault_if (is_none o && nat_lt most (length mods + 1)) (TooMany (length mods + 1))) w.there,
      is ∙ ap (λ o. cond (is_some o) (with_value id (with_enabled true) mods) (mods ++ (id, plain_mod true) ∷ [])) (sym w.there),
      subst (λ l. MatchBool (not was) (l ≢ mods) (l ≡ mods)) (sym is) (enabled_differs id mods w.entry was w.there w.is),
    )

pub enabled_new : (most : ℕ) (id : List ℕ) (mods new : List (List ℕ × ModData)) → value_at id mods ≡ None → length mods + 1 ≤ most → new ≡ mods ++ (id, plain_mod true) ∷ []
    → Applies (enable_fault most id mods) mods (mods_enabled id mods) new (Ok true)
enabled_new most id mods new none room is = (
  ap (λ o. fault_if (is_none o && nat_lt most (length mods + 1)) (TooMany (length mods + 1))) none ∙ ap (λ b. fault_if b (TooMany (length mods + 1))) (not_below most (length mods + 1) room),
  is ∙ ap (λ o. cond (is_some o) (with_value id (with_enabled true) mods) (mods ++ (id, plain_mod true) ∷ [])) (sym none),
  λ e. longer mods (id, plain_mod true) (sym is ∙ e),
)

pub rule_added : (id : List ℕ) (kind : RuleKind) (refers : List ℕ) (mods new : List (List ℕ × ModData)) (m : ModData) → value_at id mods ≡ Some m → has_rule kind refers m ≡ false
    → new ≡ with_value id (with_rule kind refers) mods → Applies (add_fault id kind refers mods) mods (with_value id (with_rule kind refers) mods) new (Ok true)
rule_added id kind refers mods new m there lacks is = (
  ap (λ o. option_map_or (λ x. fault_if (has_rule kind refers x) SameRule) o (Some (NoMod id))) there ∙ ap (λ b. fault_if b SameRule) lacks,
  is,
  λ e. rule_differs id kind refers mods m there (sym is ∙ e),
)

pub rule_dropped : (id : List ℕ) (kind : RuleKind) (refers : List ℕ) (mods new : List (List ℕ × ModData)) (m : ModData) (i : ℕ) → value_at id mods ≡ Some m → position (is_rule kind refers) m.rules ≡ Some i
    → new ≡ with_value id (λ x. record x { rules = remove x.rules i }) mods → Applies (drop_fault id kind refers mods) mods (with_value id (without_rule kind refers) mods) new (Ok true)
rule_dropped id kind refers mods new m i there at is =
    let same = is ∙ with_value-Some id (λ x. record x { rules = remove x.rules i }) mods m there
    ∙ ap (λ k. set_value (bytes_eq id) mods (record m { rules = remove m.rules k })) (place-from_some (is_rule kind refers) m.rules i at)
    ∙ sym (with_value-Some id (without_rule kind refers) mods m there) in (
      ap (λ o. option_map_or (λ x. fault_if (not (has_rule kind refers x)) NoRule) o (Some (NoMod id))) there ∙ ap (λ o. fault_if (not (is_some o)) NoRule) at,
      same,
      λ e. no_rule_differs id kind refers mods m i there at (sym same ∙ e),
    )

-- whether a mod has this release already
there_already : (o : Option (Bor (List ℕ))) (release : List ℕ) → option_map_or (λ r. bytes_eq r.now release) o false ≡ true → option_map (λ r. r.now) o ≡ Some release
there_already None release h = cc
there_already (Some r) release h = ap Some ((bytes_decides r.now release).0 h)

another : (o : Option (Bor (List ℕ))) (release : List ℕ) → option_map_or (λ r. bytes_eq r.now release) o false ≡ false → option_map (λ r. r.now) o ≢ Some release
another None release h e = cc
another (Some r) release h e = let bad : true ≡ false = sym ((bytes_decides r.now release).1 cc) ∙ h in cc

pub release_same : (id release : List ℕ) (mods : List (List ℕ × ModData)) (m : ModData) (o : Option (Bor (List ℕ))) → value_at id mods ≡ Some m → option_map (λ r. r.now) o ≡ m.release
    → option_map_or (λ r. bytes_eq r.now release) o false ≡ true → Applies (no_mod_fault id mods) mods (with_value id (with_release release) mods) mods (Ok false)
release_same id release mods m o there is same =
    let kept : m.release ≡ Some release = sym is ∙ there_already o release same in (
      ap (λ x. fault_if (is_none x) (NoMod id)) there,
      sym (stays id (with_release release) mods m there (λ i. record m { release = sym kept i })),
      refl,
    )

pub release_set : (id release : List ℕ) (mods new : List (List ℕ × ModData)) (m : ModData) (o : Option (Bor (List ℕ))) → value_at id mods ≡ Some m → option_map (λ r. r.now) o ≡ m.release
    → option_map_or (λ r. bytes_eq r.now release) o false ≡ false → new ≡ with_value id (with_release release) mods → Applies (no_mod_fault id mods) mods (with_value id (with_release release) mods) new (Ok true)
release_set id release mods new m o there is other made = (
  ap (λ x. fault_if (is_none x) (NoMod id)) there,
  made,
  λ e. differs id (with_release release) mods m there (λ same. another o release other (is ∙ sym (ap (λ x. x.release) same))) (sym made ∙ e),
)

-- ---- overrides

record Here (o : Option OverrideData) (id : List ℕ) (same : Bool) : Type 0 where
  entry : OverrideData
  there : o ≡ Some entry
  is : bytes_eq entry.mod_id id ≡ same

here : (o : Option OverrideData) (id : List ℕ) (same : Bool) → Some same ≡ option_map (λ x. bytes_eq x.mod_id id) o → Here o id same
here None id same h = cc
here (Some x) id same h = record { entry = x; there = refl; is = cc }

moved : (path id : List ℕ) (es : List (List ℕ × OverrideData)) (o : OverrideData) (same : Bool) → value_at path es ≡ Some o → bytes_eq o.mod_id id ≡ same
    → MatchBool (not same) (with_value path (with_mod_id id) es ≢ es) (with_value path (with_mod_id id) es ≡ es)
moved path id es o true there is = stays path (with_mod_id id) es o there (λ i. record o { mod_id = sym ((bytes_decides o.mod_id id).0 is) i })
moved path id es o false there is =
    differs path (with_mod_id id) es o there (λ e. let bad : true ≡ false = sym ((bytes_decides o.mod_id id).1 (sym (ap (λ x. x.mod_id) e))) ∙ is in cc)

-- whether the values change is whether the entries do
values_change : (old new : List (List ℕ × OverrideData)) (b : Bool) → AreAtTheirPaths old → AreAtTheirPaths new → MatchBool b (new ≢ old) (new ≡ old) → MatchBool b (values_of new ≢ values_of old) (values_of new ≡ values_of old)
values_change old new true h g differ = λ e. differ (same_entries new old g h e)
values_change old new false h g same = ap values_of same

pub override_set : (path id : List ℕ) (old new : List (List ℕ × OverrideData)) (same : Bool) → AreAtTheirPaths old → Some same ≡ option_map (λ x. bytes_eq x.mod_id id) (value_at path old) → new ≡ with_value path (with_mod_id id) old
    → Applies None (values_of old) (overrides_set path id (values_of old)) (values_of new) (Ok (not same))
override_set path id old new same keyed h is =
    let o = here (value_at path old) id same h in
    let keyed_new = subst AreAtTheirPaths (sym is) (keyed-with_value path id old keyed) in
    let form : List (List ℕ × OverrideData) → List OverrideData = λ es. cond (is_some (value_at path es)) (values_of (with_value path (with_mod_id id) es)) (values_of old ++ record { path = path; mod_id = id; extra = no_members } ∷ []) in
    let there = ap (λ x. cond (is_some x) (values_of (with_value path (with_mod_id id) old)) (values_of old ++ record { path = path; mod_id = id; extra = no_members } ∷ [])) (sym o.there) in (
      refl,
      ap values_of is ∙ there ∙ ap form (sym (keyed_again old keyed)),
      values_change old new (not same) keyed keyed_new (subst (λ l. MatchBool (not same) (l ≢ old) (l ≡ old)) (sym is) (moved path id old o.entry same o.there o.is)),
    )

pub override_added : (path id : List ℕ) (old new : List (List ℕ × OverrideData)) → AreAtTheirPaths old → value_at path old ≡ None → new ≡ old ++ (path, record { path = path; mod_id = id; extra = no_members }) ∷ []
    → Applies None (values_of old) (overrides_set path id (values_of old)) (values_of new) (Ok true)
override_added path id old new keyed none is =
    let made : OverrideData = record { path = path; mod_id = id; extra = no_members } in
    let form : List (List ℕ × OverrideData) → List OverrideData = λ es. cond (is_some (value_at path es)) (values_of (with_value path (with_mod_id id) es)) (values_of old ++ made ∷ []) in
    let whole : values_of new ≡ values_of old ++ made ∷ [] = ap values_of is ∙ map-append (λ e. e.1) old ((path, made) ∷ []) in (
      refl,
      whole ∙ ap (λ x. cond (is_some x) (values_of (with_value path (with_mod_id id) old)) (values_of old ++ made ∷ [])) (sym none) ∙ ap form (sym (keyed_again old keyed)),
      λ e. longer (values_of old) made (sym whole ∙ e),
    )

pub override_dropped : (path : List ℕ) (old new : List (List ℕ × OverrideData)) (o : Option OverrideData) → AreAtTheirPaths old → o ≡ value_at path old → is_some o ≡ true → new ≡ remove_entry (bytes_eq path) old
    → length new + cond (is_some o) 1 0 ≡ length old
    → Applies (no_override_fault path (values_of old)) (values_of old) (overrides_dropped path (values_of old)) (values_of new) (Ok true)
override_dropped path old new None keyed found there is len = cc
override_dropped path old new (Some x) keyed found there is len = (
  ap (λ es. fault_if (is_none (value_at path es)) (NoOverride path)) (keyed_again old keyed) ∙ ap (λ o. fault_if (is_none o) (NoOverride path)) (sym found),
  ap values_of is ∙ ap (λ es. values_of (remove_entry (bytes_eq path) es)) (sym (keyed_again old keyed)),
  λ e. omega (arith, len, ap length e, length-values_of old, length-values_of new),
)

pub override_missing : (path : List ℕ) (old new : List (List ℕ × OverrideData)) (o : Option OverrideData) (e : EditError) → AreAtTheirPaths old → o ≡ value_at path old → is_some o ≡ false → IfNone o (new ≡ old) → e ≡ NoOverride path
    → Applies (no_override_fault path (values_of old)) (values_of old) (overrides_dropped path (values_of old)) (values_of new) (Err e)
override_missing path old new (Some x) e keyed found there kept is = cc
override_missing path old new None e keyed found there kept is = (
  (λ _. ap (λ es. fault_if (is_none (value_at path es)) (NoOverride path)) (keyed_again old keyed) ∙ ap (λ o. fault_if (is_none o) (NoOverride path)) (sym found) ∙ ap (λ x. Some x) (sym is)),
  ap values_of kept,
)

-- what a look-up points to
pub pointed : (id : List ℕ) (o : Option (Bor OverrideData)) → option_map (λ x. bytes_eq x.now.mod_id id) o ≡ option_map (λ x. bytes_eq x.mod_id id) (option_copied o)
pointed id None = refl
pointed id (Some x) = refl

-- ---- a part of a profile

mods_change : (p : ProfileData) (n : List (List ℕ × ModData)) (b : Bool) → MatchBool b (n ≢ p.mods) (n ≡ p.mods) → MatchBool b (record p { mods = n } ≢ p) (record p { mods = n } ≡ p)
mods_change p n true h = λ e. h (ap (λ x. x.mods) e)
mods_change p n false h = λ i. record p { mods = h i }

pub of_mods : (p : ProfileData) (fault : Option EditError) (e n : List (List ℕ × ModData)) (r : Result Bool EditError) → Applies fault p.mods e n r → Applies fault p (record p { mods = e }) (record p { mods = n }) r
of_mods p fault e n (Ok d) h = (h.0, (λ i. record p { mods = h.1 i }), mods_change p n d h.2)
of_mods p fault e n (Err x) h = (h.0, λ i. record p { mods = h.1 i })

overrides_change : (p : ProfileData) (n : List OverrideData) (b : Bool) → MatchBool b (n ≢ p.overrides) (n ≡ p.overrides) → MatchBool b (record p { overrides = n } ≢ p) (record p { overrides = n } ≡ p)
overrides_change p n true h = λ e. h (ap (λ x. x.overrides) e)
overrides_change p n false h = λ i. record p { overrides = h i }

pub of_overrides : (p : ProfileData) (fault : Option EditError) (e n : List OverrideData) (r : Result Bool EditError) → Applies fault p.overrides e n r → Applies fault p (record p { overrides = e }) (record p { overrides = n }) r
of_overrides p fault e n (Ok d) h = (h.0, (λ i. record p { overrides = h.1 i }), overrides_change p n d h.2)
of_overrides p fault e n (Err x) h = (h.0, λ i. record p { overrides = h.1 i })
