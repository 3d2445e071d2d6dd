-- The lists of the profile: their keys are new, and what a profile keeps.
use Rattle.std.proofs.Common.{◌≡◌, ◌≢◌, ◌<◌, ◌+◌, ◌-◌, ◌*◌, ℕ, nat_eq, Bool, true, false, cond, List, [], ◌∷◌, ◌++◌, map, filter, Some, None, inl, refl, ap, ◌∙◌, arith}
use Rattle.std.specs.Cmp.Lexicographic.{pointwise}
use Rattle.std.specs.List.{AllByRecursion, IsDistinct, range_with_len}
use Rattle.std.specs.Map.{lookup}
use Rattle.std.proofs.lemmas.Bool.{false_from_ne_true}
use Rattle.std.proofs.lemmas.Nat.{mod_below}
use Rattle.std.proofs.lemmas.Slice.Eq.{bytes_eq-Decides}
use Rattle.list_laws.proofs.Alls.{all_map, all_every, all_filter}
use Rattle.profile_toml.specs.Kept.{Fits, FitsMod, FitsRule}
use Rattle.profile_toml.specs.Records.{ModData, OverrideData, AreAtTheirPaths}
use Rattle.profile_toml.specs.declared.rule.RuleKind.TheVariants.{Before}
use Rattle.profile_toml.specs.Plain.{plain_rule}
use Rattle.sample_world.specs.Parts.{overrides_below}
use Rattle.sample_world.specs.Profiles.{has_rule, has_override, sample_rules, sample_mod, sample_override, sample_profile}
use Rattle.sample_world.specs.Texts.{mods_of, mod_id, file_path}
use Rattle.sample_world.proofs.Naming.{mod_id-injective, file_path-injective}
use Rattle.sample_world.proofs.Ranges.{all_range, filter_passes, filter_fails}

pub mods_few : (number : ℕ) → mods_of number < 1000
unfolding mods_of
mods_few number = omega (arith, mod_below number 181 (omega arith))

not_equal : (a b : List ℕ) → a ≢ b → pointwise nat_eq a b ≡ false
not_equal a b ne = false_from_ne_true (pointwise nat_eq a b) (λ t. ne ((bytes_eq-Decides a b).0 t))

-- a key that is none of the keys
unknown : {V : Type 0} (key : List ℕ) (es : List (List ℕ × V)) → AllByRecursion (λ e. pointwise nat_eq key e.0 ≡ false) es → lookup (pointwise nat_eq key) es ≡ None
unknown key [] h = refl
unknown key (e ∷ es) h = ap (λ b. cond b (Some e.1) (lookup (pointwise nat_eq key) es)) h.0 ∙ unknown key es h.1

-- Mods

pub new_mod : (number i : ℕ) → i < 1000 → lookup (pointwise nat_eq (mod_id i)) (map (λ j. (mod_id j, sample_mod number j)) (range_with_len 0 i)) ≡ None
new_mod number i few =
    unknown (mod_id i) _
    (all_map (λ (e : List ℕ × ModData). pointwise nat_eq (mod_id i) e.0 ≡ false) (λ j. (mod_id j, sample_mod number j)) (range_with_len 0 i)
    (all_range (λ j. pointwise nat_eq (mod_id i) (mod_id j) ≡ false) 0 i (λ j _ below. not_equal (mod_id i) (mod_id j) (λ e. let same : i ≡ j = mod_id-injective i j few (omega (arith, below)) e in omega (arith, below, same)))))

fits_rules : (number i : ℕ) → AllByRecursion (FitsRule 1) (sample_rules number i)
fits_rules number i = by (has_rule number i)
  where
    by : (b : Bool) → AllByRecursion (FitsRule 1) (cond b (plain_rule Before (mod_id (i - 1)) ∷ []) [])
    by true = (record { range = λ one. refl; extra = (refl, (refl, tt)) }, tt)
    by false = tt

fits_mod : (number i : ℕ) → FitsMod 1 [] (sample_mod number i)
fits_mod number i = record { release = λ one. refl; mod_type = tt; rules = fits_rules number i; extra = (refl, (refl, (refl, tt))) }

-- Overrides

pub new_override : (number i : ℕ) → i < 1000 → lookup (pointwise nat_eq (file_path (50 * i))) (overrides_below number i) ≡ None
unfolding overrides_below
new_override number i few =
    unknown (file_path (50 * i)) _
    (all_map (λ (e : List ℕ × OverrideData). pointwise nat_eq (file_path (50 * i)) e.0 ≡ false) (λ j. (file_path (50 * j), sample_override j)) (filter (has_override number) (range_with_len 0 i))
    (all_filter (λ j. pointwise nat_eq (file_path (50 * i)) (file_path (50 * j)) ≡ false) (has_override number) (range_with_len 0 i)
    (all_range (λ j. pointwise nat_eq (file_path (50 * i)) (file_path (50 * j)) ≡ false) 0 i (λ j _ below.
    not_equal (file_path (50 * i)) (file_path (50 * j)) (λ e. let same : 50 * i ≡ 50 * j = file_path-injective (50 * i) (50 * j) (omega arith) (omega (arith, below)) e in omega (arith, below, same))))))

pub override_more : (number i : ℕ) → has_override number i ≡ true → overrides_below number (i + 1) ≡ overrides_below number i ++ (file_path (50 * i), sample_override i) ∷ []
unfolding overrides_below
override_more number i h = filter_passes (has_override number) (λ j. (file_path (50 * j), sample_override j)) i h

pub override_same : (number i : ℕ) → has_override number i ≡ false → overrides_below number (i + 1) ≡ overrides_below number i
unfolding overrides_below
override_same number i h = filter_fails (has_override number) (λ j. (file_path (50 * j), sample_override j)) i h

pub override_none : (number : ℕ) → overrides_below number 0 ≡ []
unfolding overrides_below
override_none number = refl

pub overrides_at : (number i : ℕ) → AreAtTheirPaths (overrides_below number i)
unfolding overrides_below
overrides_at number i =
    all_map (λ (e : List ℕ × OverrideData). e.0 ≡ e.1.path) (λ j. (file_path (50 * j), sample_override j)) (filter (has_override number) (range_with_len 0 i))
    (all_every (λ j. file_path (50 * j) ≡ file_path (50 * j)) (filter (has_override number) (range_with_len 0 i)) (λ j. refl))

values : {K V : Type 0} (f : ℕ → K) (g : ℕ → V) (ns : List ℕ) → map (λ (e : K × V). e.1) (map (λ j. (f j, g j)) ns) ≡ map g ns
values f g [] = refl
values f g (n ∷ ns) = ap (λ l. g n ∷ l) (values f g ns)

pub overrides_are : (number : ℕ) → map (λ (e : List ℕ × OverrideData). e.1) (overrides_below number (mods_of number)) ≡ (sample_profile number).overrides
unfolding overrides_below
overrides_are number = values (λ j. file_path (50 * j)) sample_override (filter (has_override number) (range_with_len 0 (mods_of number)))

-- The profile

pub fits_sample : (number : ℕ) → Fits (sample_profile number)
unfolding IsDistinct
fits_sample number = record {
  version = inl refl;
  types = λ one. refl;
  ids = tt;
  mods =
      all_map (λ (m : List ℕ × ModData). FitsMod 1 [] m.1) (λ i. (mod_id i, sample_mod number i)) (range_with_len 0 (mods_of number))
      (all_every (λ i. FitsMod 1 [] (sample_mod number i)) (range_with_len 0 (mods_of number)) (fits_mod number));
  extra = record { others = (refl, (refl, (refl, tt))); shallow = omega arith; no_floats = refl };
}
