-- The text of a manifest.
use Rattle.std.specs.Prelude.{◌≡◌, ℕ, List, [], ◌∷◌, map, codes}
use Rattle.std.specs.List.{AllByRecursion}
use Rattle.serde_json.specs.Data.{Data, Members, boolean, number, unsigned, string, array, object, member, no_members}
use Rattle.serde_json.specs.View.{items_of}
use Rattle.serde_json.specs.Written.{outline, compact_text}
use Rattle.json.specs.Token.{Token}
use Rattle.json.specs.Tree.{json_tokens}
use Rattle.hex.specs.Hex.{encode_lower}
use Rattle.manifest_json.specs.declared.manifest.Row.{Row}
use Rattle.manifest_json.specs.declared.manifest.Manifest.{Manifest}
use Rattle.manifest_json.specs.declared.version.FormatVersion.{FormatVersion}
use Rattle.manifest_json.specs.declared.version.FormatVersion.TheVariants.{One, Two}
use Rattle.manifest_json.specs.Versions.{number_of}

-- the key of a row's source. The first version has none
abbrev pub source_member : FormatVersion → Row → Members
source_member One r = no_members
source_member Two r = member (codes "source") (string r.source) no_members

-- the keys stand in byte order
abbrev pub row_data : FormatVersion → Row → Data
row_data version r = object
    (member (codes "digest") (string (encode_lower r.digest.bytes))
    (member (codes "mod") (string r.mod_id)
    (member (codes "path") (string r.path)
    (member (codes "shadowed") (boolean r.shadowed) (source_member version r)))))

abbrev pub manifest_data : FormatVersion → Manifest → Data
manifest_data version m = object
    (member (codes "files") (array (items_of (map (row_data version) m.rows)))
    (member (codes "folders") (array (items_of (map string m.folders)))
    (member (codes "version") (number (unsigned (number_of version))) no_members)))

-- the tokens of a value's text
abbrev pub tokens_of : Data → List Token
tokens_of d = json_tokens (outline d)

-- those of the members of a row that each version has
abbrev pub member_tokens : Row → List Token
member_tokens r =
    Token.key (codes "digest") ∷ Token.string (encode_lower r.digest.bytes)
    ∷ Token.key (codes "mod") ∷ Token.string r.mod_id
    ∷ Token.key (codes "path") ∷ Token.string r.path
    ∷ Token.key (codes "shadowed") ∷ Token.boolean r.shadowed ∷ []

-- and of its source
abbrev pub source_tokens : FormatVersion → Row → List Token
source_tokens One r = []
source_tokens Two r = Token.key (codes "source") ∷ Token.string r.source ∷ []

-- compact JSON, in the second version
unfoldable pub text_of : Manifest → List ℕ
text_of m = compact_text (manifest_data Two m)

-- the rows that a version has a form for: in the first the source of each is its path
abbrev pub HasForm : FormatVersion → List Row → Type 0
HasForm One rows = AllByRecursion (λ r. r.source ≡ r.path) rows
HasForm Two rows = Unit {0}
