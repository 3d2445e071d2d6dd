-- What the keys of a value say of the intent.
use Rattle.std.proofs.Common.{◌≡◌, ℕ, true, false, List, [], map, Option, None, Some, Result, Ok, Err, Vec, Global, codes, option_map, option_and_then, refl, ap, sym, ◌∙◌}
use Rattle.std.specs.Prelude.{is_some}
use Rattle.std.specs.Result.{IfOk}
use Rattle.serde_json.specs.Data.{Data, null, boolean, number, string, array, object}
use Rattle.serde_json.specs.Find.{get, as_null}
use Rattle.serde_json.specs.View.{view, items_view}
use Rattle.serde_json.specs.declared.value.Value.{Value}
use Rattle.tree_fs.specs.declared.place.Place.{Place}
use Rattle.manifest_json.specs.declared.manifest.Manifest.{Manifest}
use Rattle.manifest_json.specs.Manifests.{list_of, array_at, manifest_in}
use Rattle.manifest_json.proofs.Values.{list_of-view}
use Rattle.intent_json.specs.declared.intent.Phase.{Phase}
use Rattle.move_plan.specs.declared.plan.SetRow.{SetRow}
use Rattle.intent_json.specs.declared.intent.Intent.{Intent}
use Rattle.intent_json.specs.Places.{place_of, pair_of, set_of, all_from}
use Rattle.intent_json.specs.Reads.{list_at, manifest_from, some_ok, phase_at, intent_of}

pub items_some : {X : Type 0} (o : Option (Vec X Global)) (v : Vec X Global) (whole : Option (List X)) → option_map (λ v. v.items) o ≡ whole → o ≡ Some v → whole ≡ Some v.items
items_some o v whole h k = sym h ∙ ap (option_map (λ (v : Vec _ Global). v.items)) k

pub items_none : {X : Type 0} (o : Option (Vec X Global)) (whole : Option (List X)) → option_map (λ v. v.items) o ≡ whole → o ≡ None → whole ≡ None
items_none o whole h k = sym h ∙ ap (option_map (λ (v : Vec _ Global). v.items)) k

pub list_found : {A : Type 0} (f : Data → Option A) (key : List ℕ) (d : Data) (vs : List Value) → Some (items_view vs) ≡ array_at key d → all_from f [] (map view vs) ≡ list_at f key d
list_found f key d vs h = ap (all_from f []) (sym (list_of-view vs)) ∙ ap (option_and_then (λ ds. all_from f [] (list_of ds))) h

pub from_null : (d : Data) → is_some (as_null d) ≡ true → Some None ≡ manifest_from d
unfolding manifest_from
from_null null h = refl
from_null (boolean b) h = let never : ⊥ = cc in absurd never
from_null (number n) h = let never : ⊥ = cc in absurd never
from_null (string s) h = let never : ⊥ = cc in absurd never
from_null (array ds) h = let never : ⊥ = cc in absurd never
from_null (object ms) h = let never : ⊥ = cc in absurd never

pub from_other : (d : Data) → is_some (as_null d) ≡ false → manifest_from d ≡ some_ok (manifest_in d)
unfolding manifest_from
from_other null h = let never : ⊥ = cc in absurd never
from_other (boolean b) h = refl
from_other (number n) h = refl
from_other (string s) h = refl
from_other (array ds) h = refl
from_other (object ms) h = refl

-- the parts of an intent, where all are there
abbrev pub parts_of : Option (List Place) → Option (List (Place × Place)) → Option (List SetRow) → Option (Option Manifest) → Option (List Place) → Option (List Place) → Option Phase → Option Intent
parts_of a b s m c o p =
    option_and_then (λ folders.
    option_and_then (λ saves.
    option_and_then (λ sets.
    option_and_then (λ manifest.
    option_and_then (λ clears.
    option_and_then (λ folders_off.
    option_map (λ phase. record { phase = phase; plan = record { folders = folders; saves = saves; sets = sets; manifest = manifest; clears = clears; folders_off = folders_off } }) p) o) c) m) s) b) a

pub intent_by : (d : Data) (a : Option (List Place)) (b : Option (List (Place × Place))) (s : Option (List SetRow)) (m : Option (Option Manifest)) (c o : Option (List Place)) (p : Option Phase)
    → list_at place_of (codes "folders") d ≡ a → list_at pair_of (codes "saves") d ≡ b → list_at set_of (codes "sets") d ≡ s → option_and_then manifest_from (get (codes "manifest") d) ≡ m
    → list_at place_of (codes "clears") d ≡ c → list_at place_of (codes "folders_off") d ≡ o → phase_at d ≡ p → intent_of d ≡ parts_of a b s m c o p
unfolding intent_of
intent_by d a b s m c o p ha hb hs hm hc ho hp = λ i. parts_of (ha i) (hb i) (hs i) (hm i) (hc i) (ho i) (hp i)

-- what a call ensures of its value by three clauses
pub all_ok : {X E : Type 0} (P Q R S : X → Type 0) (r : Result X E) → IfOk r P → IfOk r Q → IfOk r R → ((x : X) → P x → Q x → R x → S x) → IfOk r S
all_ok P Q R S (Ok x) p q r f = f x p q r
all_ok P Q R S (Err e) p q r f = tt
