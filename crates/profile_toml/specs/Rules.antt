-- Rules in a document.
use Rattle.std.specs.Prelude.{◌≡◌, ℕ, List, Bool, not, Option, None, Some, is_none, unwrap_or, map, codes, if◌then◌else◌}
use Rattle.std.specs.Option.{option_or}
use Rattle.std.specs.Str.{bytes_eq}
use Rattle.toml.specs.Data.{Data, array, table, Members, get_member}
use Rattle.profile_toml.specs.declared.rule.RuleKind.{RuleKind}
use Rattle.profile_toml.specs.declared.rule.RuleKind.TheVariants.{Before, After, Requires, Conflicts, Recommends}
use Rattle.profile_toml.specs.declared.error.ProfileError.{ProfileError}
use Rattle.profile_toml.specs.declared.error.ProfileError.TheVariants.{Shape, BadKind, BadRange}
use Rattle.profile_toml.specs.Faults.{fault_if, first_fault}
use Rattle.profile_toml.specs.KeyPaths.{keyed, indexed}
use Rattle.profile_toml.specs.Releases.{is_range}
use Rattle.profile_toml.specs.Tables.{OfRule, member_from_2}
use Rattle.profile_toml.specs.Texts.{members_in, list_of, items_at, text_in, text_at, text_fault, optional_fault, bad_id}
use Rattle.profile_toml.specs.Unknown.{unknown_in}
use Rattle.profile_toml.specs.Records.{RuleData}

-- the word of a kind, and the kind of a word
abbrev pub word_of : RuleKind → List ℕ
word_of Before = codes "before"
word_of After = codes "after"
word_of Requires = codes "requires"
word_of Conflicts = codes "conflicts"
word_of Recommends = codes "recommends"

unfoldable pub kind_of : List ℕ → Option RuleKind
kind_of word =
    if bytes_eq word (codes "before") then Some Before
    else if bytes_eq word (codes "after") then Some After
    else if bytes_eq word (codes "requires") then Some Requires
    else if bytes_eq word (codes "conflicts") then Some Conflicts
    else if bytes_eq word (codes "recommends") then Some Recommends
    else None

abbrev pub bad_kind : List ℕ → Option ProfileError
bad_kind text = fault_if (is_none (kind_of text)) (BadKind text)

abbrev pub bad_range : List ℕ → Option ProfileError
bad_range text = fault_if (not (is_range text)) (BadRange text)

-- the first fault of the rule at a key path
abbrev pub rule_fault : ℕ → List ℕ → Data → Option ProfileError
rule_fault version at (table ms) =
    option_or (text_fault bad_kind (keyed at (codes "kind")) (get_member (codes "kind") ms))
    (option_or (text_fault bad_id (keyed at (codes "ref")) (get_member (codes "ref") ms))
    (optional_fault bad_range (keyed at (codes "range"))
    (member_from_2 version (codes "range") ms)))
rule_fault version at _ = Some (Shape at)

-- the kind at a key, where there is no fault
abbrev pub kind_at : Option Data → RuleKind
kind_at d = unwrap_or (kind_of (text_at d)) Before

-- the rule of a table, where it has no fault
abbrev pub table_value : ℕ → Members → RuleData
table_value version ms = record {
  kind = kind_at (get_member (codes "kind") ms);
  refers = text_at (get_member (codes "ref") ms);
  range = text_in (member_from_2 version (codes "range") ms);
  extra = unknown_in version OfRule ms;
}

abbrev pub rule_value : ℕ → Data → RuleData
rule_value version d = table_value version (members_in d)

-- the first fault of these rules, whose array stands at a key path
abbrev pub list_fault : ℕ → List ℕ → List Data → Option ProfileError
list_fault version at ds = first_fault (λ j d. rule_fault version (indexed at j) d) 0 ds

-- the first fault of the rules at a key path, which may be missing, and else the rules
abbrev pub rules_fault : ℕ → List ℕ → Option Data → Option ProfileError
rules_fault version at None = None
rules_fault version at (Some (array ds)) = list_fault version at (list_of ds)
rules_fault version at _ = Some (Shape at)

abbrev pub rules_value : ℕ → Option Data → List RuleData
rules_value version d = map (rule_value version) (items_at d)
