-- Names in maps by text.
use Rattle.std.specs.Prelude.{◌≡◌, ◌≢◌, ℕ, true, List, [], ◌∷◌}
use Rattle.std.specs.BTreeMap.{BTreeMap, get_by_text}
use Rattle.std.specs.declared.option.Option.{Option}
use Rattle.std.specs.List.{list_all}
use Rattle.std.specs.String.{string_bytes}
use Rattle.std.specs.declared.alloc.Global.{Global}
use Rattle.std.specs.declared.string.String.{String}
use Rattle.rel_paths.specs.Names.{names_of}
use Rattle.tree_fs.specs.EntryName.{is_entry_name}

-- the names of a folder's text, of which a root has none
unfoldable pub folder_names : List ℕ → List (List ℕ)
folder_names [] = []
folder_names (b ∷ bs) = names_of (b ∷ bs)

-- the last of some names
abbrev pub last_name : List (List ℕ) → List ℕ
last_name [] = []
last_name (x ∷ []) = x
last_name (x ∷ y ∷ ys) = last_name (y ∷ ys)

-- each key may be the name of an entry
abbrev pub AreNames : {X : Type 0} → List (String Global × X) → Type 0
AreNames es = list_all (λ e. is_entry_name (string_bytes e.0)) es ≡ true

-- n has the value at the name, or none, and elsewhere what m has
pub record Changes {X : Type 0} (m n : BTreeMap (String Global) X) (name : List ℕ) (value : Option X) : Type 0 where
  pub here : get_by_text n name ≡ value
  pub others : (other : List ℕ) → other ≢ name → get_by_text n other ≡ get_by_text m other

abbrev pub SameTexts : {X : Type 0} → BTreeMap (String Global) X → BTreeMap (String Global) X → Type 0
SameTexts m n = (name : List ℕ) → get_by_text n name ≡ get_by_text m name
