-- When the text of an intent is too long.
use Rattle.std.specs.Prelude.{ℕ, ◌+◌, if◌then◌else◌, Option, None, Some, length, nat_lt}
use Rattle.move_plan.specs.declared.plan.Plan.{Plan}
use Rattle.intent_json.specs.Forms.{set_form}
use Rattle.intent_json.specs.Texts.{text_of}
use Rattle.intent_journal.specs.declared.error.ReadyError.{ReadyError}
use Rattle.intent_journal.specs.declared.error.ReadyError.TheVariants.{TooLong}

-- the length of the set form's text, and two bytes more
abbrev pub written_length : Plan → ℕ
written_length plan = length (text_of (set_form plan)) + 2

-- it may be at most so long
unfoldable pub length_fault : Plan → ℕ → Option ReadyError
length_fault plan most =
    if nat_lt most (written_length plan) then Some (TooLong (written_length plan)) else None
