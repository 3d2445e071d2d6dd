-- The commands that `clap` is handed, and what is read of its matches.
use Rattle.std.specs.Prelude.{◌≡◌, List, [], true, Some, codes, option_map, unwrap_or}
use Rattle.clap.specs.Words.{App, Rule, new_app, new_rule, with_rule, first_value, found_of, matched_of, raw_values}
use Rattle.clap.specs.Simple.{on_top}
use Rattle.clap.specs.declared.builder.action.ArgAction.TheVariants.{Append, Set, SetTrue}
use Rattle.clap.specs.declared.parser.matches.ArgMatches.{ArgMatches}
use Rattle.command_words.specs.Words.{Text}
use Rattle.command_words.specs.Options.{Uses, flag_name, is_option, options, value_of}

-- the command with this name that has no flag of `clap`'s own
abbrev pub bare_app : Text → App
bare_app name =
    on_top (λ s. record s { disable_version_flag = true })
    (on_top (λ s. record s { disable_help_flag = true }) (new_app name))

-- one positional, any number of times
abbrev pub rest_rule : Rule
rest_rule = record (new_rule (codes "words")) { action = Some Append }

abbrev pub rest_app : Text → App
rest_app name = with_rule (bare_app name) rest_rule

abbrev pub given_words : ArgMatches → List Text
given_words m = unwrap_or (option_map raw_values (matched_of (found_of m) (codes "words"))) []

-- an option with a value, and a flag
abbrev pub option_rule : Text → Rule
option_rule name = record (new_rule name) { long = Some name; action = Some Set }

abbrev pub flag_rule : Rule
flag_rule = record (new_rule flag_name) { long = Some flag_name; action = Some SetTrue }

abbrev pub settle_app : Text → App
settle_app name =
    with_rule
    (with_rule
    (with_rule
    (with_rule
    (with_rule (with_rule (bare_app name) (option_rule (codes "replaced")))
    (option_rule (codes "changed")))
    (option_rule (codes "deleted")))
    (option_rule (codes "source-deleted")))
    (option_rule (codes "gone")))
    flag_rule

-- the matches have the options that the words give, and the flag's `true` or `false`
pub record GivesUses (words : List Text) (m : ArgMatches) : Type 0 where
  pub uses : Uses
  pub are : options words ≡ Some uses
  pub values : (name : Text) → is_option name ≡ true
      → first_value (found_of m) name ≡ value_of uses name
  pub from_input : first_value (found_of m) flag_name
      ≡ Some (unwrap_or (value_of uses flag_name) (codes "false"))
