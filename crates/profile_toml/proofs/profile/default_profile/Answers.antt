use Rattle.std.proofs.Common.{◌≡◌, ◌++◌, ◌∷◌, [], List, None, Option, map, true, nat_eq, length, ap, sym, subst, ◌∙◌, rules, refl, arith}
use Rattle.std.specs.List.{IsDistinct}
use Rattle.std.specs.Map.{lookup}
use Rattle.std.specs.Cmp.Lexicographic.{pointwise, nat_list_eq_equiv}
use Rattle.std.specs.Vec.Iter.{into_iter_items}
use Rattle.profile_toml.specs.Kept.{Fits}
use Rattle.profile_toml.specs.Records.{ProfileData, AreAtTheirPaths}
use Rattle.profile_toml.specs.Plain.{plain_mod, default_value}
use Rattle.list_laws.proofs.Lists.{taken_more, length_after, taken_all_by_length}
use Rattle.list_laws.proofs.Lookups.{fresh_key}
use Rattle.std.proofs.lemmas.List.{map-append}
use Rattle.profile_toml.proofs.KeptFacts.{fits_default}
use Rattle.profile_toml.proofs.profile.default_profile.Goals as goal

pub add_mod-requires : goal.add_mod-requires
add_mod-requires c =
    let at = c.loop-id in
    let id = c.in-Some.id in
    let rest = into_iter_items c.next.new.self in
    let step : into_iter_items at.id-iterator ≡ id ∷ rest = c.in-Some.ensures.steps.0 in
    let distinct : IsDistinct (pointwise nat_eq) (at.yielded ++ id ∷ rest) = subst (λ l. IsDistinct (pointwise nat_eq) l) (sym (ap (λ l. at.yielded ++ l) (sym step) ∙ at.invariant.taken)) c.requires in
    ap (lookup (pointwise nat_eq id)) at.invariant.made ∙ fresh_key (pointwise nat_eq) nat_list_eq_equiv.symm (plain_mod true) at.yielded id rest distinct

pub loop-id-preserved : goal.loop-id-preserved
loop-id-preserved c =
    let at = c.loop-id in
    let id = c.in-Some.id in
    let rest = into_iter_items c.next.new.self in
    let step : into_iter_items at.id-iterator ≡ id ∷ rest = c.in-Some.ensures.steps.0 in
    record {
      taken = taken_more at.yielded id rest _ c.args.ids.items step at.invariant.taken;
      length_is = length_after rest _ id _ _ step c.in-Some.ensures.steps.1 at.invariant.length_is;
      made = c.in_ok-add_mod.ensures ∙ rw (at.invariant.made, c.plain.ensures) (sym (map-append (λ k. (k, plain_mod true)) at.yielded (id ∷ [])));
    }

pub invariant_of-result : goal.invariant_of-result
invariant_of-result c =
    let at = c.loop-id in
    let all = taken_all_by_length at.yielded (into_iter_items at.id-iterator) c.args.ids.items _ at.invariant.length_is c.in-None.ensures.steps.0 at.invariant.taken in
    let made : at.mods.entries ≡ map (λ k. (k, plain_mod true)) c.args.ids.items = at.invariant.made ∙ ap (map (λ k. (k, plain_mod true))) all in
    let whole : record { version = 1; mods = at.mods.entries; overrides = map (λ e. e.1) c.new.result.entries; types = c.new-2.result.items; extra = c.none.result } ≡ default_value c.args.ids.items =
    λ i. record { version = 1; mods = made i; overrides = map (λ e. e.1) (c.new.ensures.empty i); types = c.new-2.ensures.items i; extra = c.none.ensures i } in
    (subst AreAtTheirPaths (sym c.new.ensures.empty) tt, subst Fits (sym whole) (fits_default c.args.ids.items))

pub returns : goal.returns
returns c =
    let at = c.loop-id in
    let all = taken_all_by_length at.yielded (into_iter_items at.id-iterator) c.args.ids.items _ at.invariant.length_is c.in-None.ensures.steps.0 at.invariant.taken in
    let made : at.mods.entries ≡ map (λ k. (k, plain_mod true)) c.args.ids.items = at.invariant.made ∙ ap (map (λ k. (k, plain_mod true))) all in
    λ i. record { version = 1; mods = made i; overrides = map (λ e. e.1) (c.new.ensures.empty i); types = c.new-2.ensures.items i; extra = c.none.ensures i }
