use Rattle.std.proofs.Common.{◌≡◌, ◌∷◌, [], ℕ, List, Option, codes, sym, ◌∙◌, rules}
use Rattle.std.specs.Map.{keys_of}
use Rattle.std.specs.Vec.Iter.{into_iter_items}
use Rattle.toml.specs.Data.{Data}
use Rattle.toml.specs.View.{items_view}
use Rattle.profile_toml.specs.declared.error.ProfileError.{ProfileError}
use Rattle.profile_toml.specs.KeyPaths.{indexed}
use Rattle.profile_toml.specs.Mods.{mod_fault, mod_value, entry_value}
use Rattle.profile_toml.specs.Records.{ModData}
use Rattle.profile_toml.specs.Texts.{id_in, members_in, list_of}
use Rattle.list_laws.proofs.Lists.{length_after}
use Rattle.std.proofs.lemmas.List.{nil_from_length}
use Rattle.profile_toml.proofs.Readers.{among, begins, next_sound, keyed_stops, keyed_goes_on, ends}
use Rattle.profile_toml.proofs.read_mods.read_items.Goals as goal

-- the fault of the mod with an index, and the mod without its id
abbrev fault : ℕ → List (List ℕ) → List (List ℕ) → ℕ → Data → Option ProfileError
fault version ids earlier n d = mod_fault version ids earlier (indexed (codes "mods") n) d

abbrev value : ℕ → Data → ModData
value version d = entry_value version (members_in d)

-- the fault of an item among all
abbrev fault_in : ℕ → List (List ℕ) → List Data → ℕ → Data → Option ProfileError
fault_in version ids all = among (fault version ids) id_in (value version) 62 all

pub loop-item-init : goal.loop-item-init
loop-item-init c =
    let all = list_of (items_view c.args.array.items) in
    record {
      reading = begins (fault_in c.args.version (keys_of c.args.types.now.entries) all) (mod_value c.args.version) 62 c.args.array.items _ _ c.into_iter-item-iterator.ensures.into_iter_gives.0 c.new-mods.ensures.empty c.requires.sound;
      length_is = search rules;
    }

pub read_mod-requires-clause-sound : goal.read_mod-requires-clause-sound
read_mod-requires-clause-sound c =
    let all = list_of (items_view c.args.array.items) in
    next_sound (fault_in c.args.version (keys_of c.args.types.now.entries) all) (mod_value c.args.version) 62 all _ _ c.in-Some.item _ c.in-Some.ensures.steps.0 c.loop-item.invariant.reading

pub returns-in_err-read_mod : goal.returns-in_err-read_mod
returns-in_err-read_mod c =
    keyed_stops (fault c.args.version (keys_of c.args.types.now.entries)) id_in (value c.args.version) 62 (list_of (items_view c.args.array.items)) _ _ c.in-Some.item _ c.in-Some.ensures.steps.0 c.loop-item.invariant.reading
    (λ m. m.entries) c.from_residual.result c.in_err-read_mod.field-0.0 c.from_residual.ensures.1 c.in_err-read_mod.ensures

pub loop-item-preserved : goal.loop-item-preserved
loop-item-preserved c =
    let rest = into_iter_items c.next.new.self in
    let before = into_iter_items c.loop-item.item-iterator in
    let step : before ≡ c.in-Some.item ∷ rest = c.in-Some.ensures.steps.0 in
    record {
      reading = keyed_goes_on (fault c.args.version (keys_of c.args.types.now.entries)) id_in (value c.args.version) 62 (list_of (items_view c.args.array.items)) before rest c.in-Some.item _ step c.loop-item.invariant.reading
          _ c.in_ok-read_mod.ensures.0 c.in_ok-read_mod.ensures.1;
      length_is = length_after rest before c.in-Some.item _ _ step c.in-Some.ensures.steps.1 c.loop-item.invariant.length_is;
    }

pub returns : goal.returns
returns c =
    let all = list_of (items_view c.args.array.items) in
    let left = into_iter_items c.loop-item.item-iterator in
    let empty : left ≡ [] = nil_from_length left (sym c.loop-item.invariant.length_is ∙ c.in-None.ensures.steps.0) in
    ends (fault_in c.args.version (keys_of c.args.types.now.entries) all) (mod_value c.args.version) 62 all left _ empty c.loop-item.invariant.reading
