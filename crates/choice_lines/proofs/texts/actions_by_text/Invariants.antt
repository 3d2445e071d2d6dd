use Rattle.std.proofs.Common.{◌≡◌, ℕ, List, cond, take, None}
use Rattle.std.specs.HashMap.{get_by_text}
use Rattle.std.specs.Map.{lookup}
use Rattle.std.specs.Str.{bytes_eq}
use Rattle.choice_lines.proofs.Tabled.{is_at_one}
use Rattle.choice_lines.proofs.texts.actions_by_text.Given as goal

-- the actions of the first changes are in
abbrev pub invariant-loop-change : goal.invariant-loop-change
invariant-loop-change l = (text : List ℕ) → get_by_text l.texts text ≡ cond (is_at_one text (take l.change-index l.changes)) (lookup (bytes_eq text) l.actions) None
