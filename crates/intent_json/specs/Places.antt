-- Places in JSON.
use Rattle.std.specs.Prelude.{ℕ, List, [], ◌∷◌, ◌++◌, Option, None, Some, is_none, map, codes, option_map, option_and_then, if◌then◌else◌}
use Rattle.serde_json.specs.Data.{Data, null, string, array, object, item, no_items, member, no_members}
use Rattle.serde_json.specs.Find.{get, at, as_str}
use Rattle.serde_json.specs.View.{items_of}
use Rattle.tree_fs.specs.declared.place.Root.{Root}
use Rattle.tree_fs.specs.declared.place.Place.{Place}
use Rattle.tree_fs.specs.Texts.{place_text, place_fault, root_named, word_of, below_word}
use Rattle.move_plan.specs.declared.plan.SetRow.{SetRow}

abbrev pub place_data : Place → Data
place_data p = string (place_text p)

abbrev pub places_data : List Place → Data
places_data ps = array (items_of (map place_data ps))

-- a place or `null`
abbrev pub option_data : Option Place → Data
option_data None = null
option_data (Some p) = place_data p

abbrev pub pair_data : Place × Place → Data
pair_data s = array (item (place_data s.0) (item (place_data s.1) no_items))

abbrev pub pairs_data : List (Place × Place) → Data
pairs_data ss = array (items_of (map pair_data ss))

abbrev pub set_data : SetRow → Data
set_data s = object
    (member (codes "back") (option_data s.back)
    (member (codes "from") (option_data s.from)
    (member (codes "to") (place_data s.to) no_members)))

abbrev pub sets_data : List SetRow → Data
sets_data ss = array (items_of (map set_data ss))

-- ---- and back

abbrev pub place_at : Option Root → Option (List ℕ) → Option Place
place_at None rel = None
place_at (Some root) rel = Some (record { root = root; rel = rel })

-- the place with this text
unfoldable pub place_named : List ℕ → Option Place
place_named text =
    if is_none (place_fault text)
    then place_at (root_named (word_of text)) (below_word text)
    else None

unfoldable pub place_of : Data → Option Place
place_of d = option_and_then place_named (as_str d)

-- a place or none
unfoldable pub option_of : Data → Option (Option Place)
option_of null = Some None
option_of d = option_map Some (place_of d)

-- both, where both are there
abbrev pub two : {A B : Type 0} → Option A → Option B → Option (A × B)
two (Some x) (Some y) = Some (x, y)
two _ _ = None

unfoldable pub pair_of : Data → Option (Place × Place)
pair_of d = two (option_and_then place_of (at 0 d)) (option_and_then place_of (at 1 d))

-- the set of these three, where all are there
abbrev pub set_from : Option Place → Option (Option Place) → Option (Option Place) → Option SetRow
set_from (Some to) (Some from) (Some back) = Some (record { to = to; from = from; back = back })
set_from _ _ _ = None

unfoldable pub set_of : Data → Option SetRow
set_of d =
    set_from (option_and_then place_of (get (codes "to") d))
    (option_and_then option_of (get (codes "from") d))
    (option_and_then option_of (get (codes "back") d))

-- the values of all, behind these
abbrev pub all_from : {A : Type 0} → (Data → Option A) → List A → List Data → Option (List A)
all_from f done [] = Some done
all_from f done (d ∷ ds) = option_and_then (λ x. all_from f (done ++ x ∷ []) ds) (f d)
