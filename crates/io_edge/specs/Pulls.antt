-- What a source gives, pull by pull.
use Rattle.std.specs.Prelude.{◌≡◌, ℕ, false, List, ◌++◌}
use Rattle.io_edge.specs.Lines.{has_lf}

-- what a pull gives comes off what is left
abbrev pub GivesOff : {S : Type 0} → (S → List ℕ → S → Type 0) → (S → List ℕ) → Type 0
GivesOff {S} gives left = (old : S) (piece : List ℕ) (new : S) → gives old piece new → left old ≡ piece ++ left new

-- the bytes at hand, and the source, after pulls: at first those held, to which each pull added what
-- it gave; and each pull came where the bytes at hand had no LF
pub data Pulled {S : Type 0} (gives : S → List ℕ → S → Type 0) (held : List ℕ) (old : S) : List ℕ → S → Type 0 where
  no_pull : Pulled gives held old held old
  one_more : (at_hand piece : List ℕ) (now new : S) → Pulled gives held old at_hand now → has_lf at_hand ≡ false → gives now piece new → Pulled gives held old (at_hand ++ piece) new

-- the source came from the one state to the other by such pulls alone
pub record PullsForALine {S : Type 0} (gives : S → List ℕ → S → Type 0) (held : List ℕ) (old new : S) : Type 0 where
  pub at_hand : List ℕ
  pub pulled : Pulled gives held old at_hand new
