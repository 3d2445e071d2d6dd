-- Which intent a text is accepted as.
use Rattle.std.specs.Prelude.{◌≡◌, ℕ, List, [], Option, Some, IfSome, IsUtf8}
use Rattle.manifest_json.specs.declared.version.FormatVersion.{FormatVersion}
use Rattle.move_plan.specs.Rules.{PassesRules}
use Rattle.intent_json.specs.declared.intent.Phase.TheVariants.{Clear}
use Rattle.intent_json.specs.declared.intent.Intent.{Intent}
use Rattle.intent_json.specs.Held.{IsHeldPlan}
use Rattle.intent_json.specs.Texts.{text_in, HasText}

-- nothing is made, saved or set
pub record IsBare (intent : Intent) : Type 0 where
  pub folders : intent.plan.folders ≡ []
  pub saves : intent.plan.saves ≡ []
  pub sets : intent.plan.sets ≡ []

-- an intent whose text is accepted: its plan passes the rules, and a clear form is bare
pub record IsAccepted (intent : Intent) : Type 0 where
  pub rules : PassesRules intent.plan
  pub bare : intent.phase ≡ Clear → IsBare intent

-- these bytes are the intent's text in one of the versions
pub record IsTextOf (bytes : List ℕ) (intent : Intent) : Type 0 where
  pub version : FormatVersion
  pub has_text : HasText version intent
  pub same : bytes ≡ text_in version intent

-- the one accepted intent whose text these bytes are, or none where there is none
-- (`whole` speaks of plans that code can hold, and of UTF-8 bytes)
pub record IsIntentOf (bytes : List ℕ) (o : Option Intent) : Type 0 where
  pub sound : IfSome o (λ i. IsAccepted i × IsTextOf bytes i)
  pub whole : (i : Intent) → IsHeldPlan i.plan → IsUtf8 bytes → IsAccepted i → IsTextOf bytes i
      → o ≡ Some i

-- these bytes are the text of no other intent
abbrev pub TellsIntent : List ℕ → Intent → Type 0
TellsIntent bytes i = (j : Intent) → IsHeldPlan j.plan → IsTextOf bytes j → j ≡ i
