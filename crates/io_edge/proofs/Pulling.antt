use Rattle.std.proofs.Common.{◌≡◌, ◌≢◌, ℕ, false, List, [], ◌∷◌, ◌++◌, refl, ap, ◌∙◌}
use Rattle.io_edge.specs.Lines.{has_lf, through_line}
use Rattle.io_edge.specs.Pulls.{Pulled, PullsForALine}
use Rattle.io_edge.specs.Pulls.Pulled.{no_pull, one_more}
use Rattle.io_edge.proofs.FirstLine.{through-whole}
use Rattle.io_edge.proofs.Gathering.{still_no_lf}

-- pulls after pulls
pub then_more : {S : Type 0} (gives : S → List ℕ → S → Type 0) (held bytes : List ℕ) (old now : S) (bytes' : List ℕ) (new : S) → Pulled gives held old bytes now → Pulled gives bytes now bytes' new → Pulled gives held old bytes' new
then_more gives held bytes old now bytes' new first no_pull = first
then_more gives held bytes old now bytes' new first (one_more at_hand piece mid last before no_lf gave) =
    one_more at_hand piece mid last (then_more gives held bytes old now at_hand mid first before) no_lf gave

pub then_for_a_line : {S : Type 0} (gives : S → List ℕ → S → Type 0) (held bytes : List ℕ) (old now new : S) → Pulled gives held old bytes now → PullsForALine gives bytes now new → PullsForALine gives held old new
then_for_a_line gives held bytes old now new first more =
    record { at_hand = more.at_hand; pulled = then_more gives held bytes old now more.at_hand new first more.pulled }

pub nothing_yet : {S : Type 0} (gives : S → List ℕ → S → Type 0) (line held : List ℕ) (old : S) → line ≡ [] → Pulled gives held old (line ++ held) old
nothing_yet gives line held old empty = rw empty no_pull

-- where the line took all that was held, and had no LF, one more pull came
pub one_pull : {S : Type 0} (gives : S → List ℕ → S → Type 0) (first : List ℕ) (old : S) (line held : List ℕ) (now new : S) (line' held' : List ℕ) → Pulled gives first old (line ++ held) now → has_lf line ≡ false → has_lf held ≡ false → line' ≡ line ++ through_line held → gives now held' new → Pulled gives first old (line' ++ held') new
one_pull gives first old line held now new line' held' before no_lf more moved gave =
    let all : line' ≡ line ++ held = moved ∙ ap (λ x. line ++ x) (through-whole held more) in
    one_more line' held' now new (rw all before) (still_no_lf line held line' no_lf more moved) gave

-- a first pull comes only where nothing is held
pub first_pull : {S : Type 0} (gives : S → List ℕ → S → Type 0) (held held' here : List ℕ) (old new : S) → held' ≡ held → (held' ≡ [] → gives old here new) → (held' ≢ [] → (new ≡ old) × (here ≡ held')) → Pulled gives held old here new
first_pull gives [] held' here old new same pull quiet =
    one_more [] here old new no_pull refl (pull same)
first_pull gives (b ∷ bs) held' here old new same pull quiet =
    let is = quiet (λ empty. cc) in
    rw (is.0, is.1, same) no_pull

pub failed_pull : {S : Type 0} (gives : S → List ℕ → S → Type 0) (held held' : List ℕ) (old new : S) → held' ≡ held → held' ≡ [] → gives old [] new → PullsForALine gives held old new
failed_pull gives held held' old new same empty gave =
    record { at_hand = []; pulled = first_pull gives held held' [] old new same (λ _. gave) (λ some. absurd (some empty)) }
