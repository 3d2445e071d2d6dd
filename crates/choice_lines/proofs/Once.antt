-- What lines say is determined, and so is how they are refused.
use Rattle.std.proofs.Common.{◌≡◌, ◌≢◌, ◌⊎◌, ℕ, ◌+◌, false, true≢false, List, [], ◌∷◌, ◌++◌, length, map, refl, sym, ap, ◌∙◌, subst, arith, inl, inr}
use Rattle.std.specs.List.{AllByRecursion, IsDistinct, list_any, filter}
use Rattle.std.specs.Map.{keys_of}
use Rattle.std.specs.Str.{bytes_eq}
use Rattle.std.specs.Str.Lines.{lines}
use Rattle.std.specs.declared.option.Option.{Option}
use Rattle.std.specs.declared.option.Option.TheVariants.{None, Some}
use Rattle.std.specs.declared.result.Result.{Result}
use Rattle.std.specs.declared.result.Result.TheVariants.{Ok, Err}
use Rattle.std.proofs.lemmas.List.{map-append}
use Rattle.std.proofs.lemmas.List.Elements.{filter-append}
use Rattle.list_laws.proofs.Alls.{all_middle}
use Rattle.list_laws.proofs.Distinct.{not_earlier}
use Rattle.list_laws.proofs.Texts.{bytes_eq-turned, any-from_text_in}
use Rattle.io_edge.specs.declared.lines.LineError.{LineError}
use Rattle.io_edge.specs.Lines.{after_line}
use Rattle.io_edge.specs.Reader.{LineText, next_of}
use Rattle.change_choices.specs.declared.action.Action.{Action}
use Rattle.change_detect.specs.declared.changes.Change.{Change}
use Rattle.choice_lines.specs.declared.error.InputError.{InputError}
use Rattle.choice_lines.specs.Answers.{answer_line, Fits, has_byte, AreAnswers, AreRead}
use Rattle.choice_lines.specs.Refusals.{IsNoAnswer, IsRefused, IsFirstRefused}
use Rattle.choice_lines.proofs.Fitting.{one_answer}

-- Answers, by their lines

one_list : (es fs : List (List ℕ × Action)) → map answer_line es ≡ map answer_line fs → es ≡ fs
one_list [] [] e = refl
one_list [] (f ∷ fs) e = absurd (cc)
one_list (x ∷ es) [] e = absurd (cc)
one_list (x ∷ es) (f ∷ fs) e =
    let head : answer_line x ≡ answer_line f = cc in
    let rest : map answer_line es ≡ map answer_line fs = cc in
    λ i. one_answer x f head i ∷ one_list es fs rest i

pub one_reading : (changes : List Change) (texts : List (List ℕ)) (one other : List (List ℕ × Action)) → AreAnswers changes texts one → AreAnswers changes texts other → one ≡ other
one_reading changes texts one other a b = one_list one other (sym a.said ∙ b.said)

-- the line behind the first answers is one of the answers too
record NextAnswer (es fs : List (List ℕ × Action)) (text : List ℕ) : Type 0 where
  answer : List ℕ × Action
  more : List (List ℕ × Action)
  says : text ≡ answer_line answer
  whole : fs ≡ es ++ answer ∷ more

next_answer : (es fs : List (List ℕ × Action)) (text : List ℕ) (texts : List (List ℕ)) → map answer_line es ++ text ∷ texts ≡ map answer_line fs → NextAnswer es fs text
next_answer [] [] text texts e = absurd (cc)
next_answer [] (f ∷ fs) text texts e = record { answer = f; more = fs; says = cc; whole = refl }
next_answer (x ∷ es) [] text texts e = absurd (cc)
next_answer (x ∷ es) (f ∷ fs) text texts e =
    let head : answer_line x ≡ answer_line f = cc in
    let rest : map answer_line es ++ text ∷ texts ≡ map answer_line fs = cc in
    let next = next_answer es fs text texts rest in
    record { answer = next.answer; more = next.more; says = next.says; whole = λ i. sym (one_answer x f head) i ∷ next.whole i }

-- a line of answers is no line that is refused
not_refused : (changes : List Change) (front : List (List ℕ)) (text : List ℕ) (texts : List (List ℕ)) (earlier all : List (List ℕ × Action)) → AreAnswers changes front earlier → AreAnswers changes (front ++ text ∷ texts) all → text ≢ [] → IsNoAnswer changes earlier text → ⊥
not_refused changes front [] texts earlier all are whole some none = some refl
not_refused changes front (b ∷ bs) texts earlier all are whole some none =
    let parts : map answer_line earlier ++ (b ∷ bs) ∷ filter has_byte texts ≡ map answer_line all =
    (λ i. sym are.said i ++ (b ∷ bs) ∷ filter has_byte texts) ∙ sym (filter-append has_byte front ((b ∷ bs) ∷ texts)) ∙ whole.said in
    let next = next_answer earlier all (b ∷ bs) (filter has_byte texts) parts in
    let fits : Fits changes next.answer = all_middle (Fits changes) earlier next.answer next.more (subst (AllByRecursion (Fits changes)) next.whole whole.fit) in
    let keys : keys_of all ≡ keys_of earlier ++ next.answer.0 ∷ keys_of next.more = ap keys_of next.whole ∙ map-append (λ (e : List ℕ × Action). e.0) earlier (next.answer ∷ next.more) in
    let new : list_any (bytes_eq next.answer.0) (keys_of earlier) ≡ false =
    not_earlier bytes_eq bytes_eq-turned (keys_of earlier) next.answer.0 (keys_of next.more) (subst (IsDistinct bytes_eq) keys whole.once) in
    true≢false (sym (any-from_text_in (keys_of earlier) next.answer.0 (none next.answer next.says fits)) ∙ new)

-- Lines, as they are read

-- these lines are the first of others, and behind them a further one is read
record GoesOn (given : ℕ) (front : List (List ℕ)) (ahead : List ℕ) (texts : List (List ℕ)) : Type 0 where
  text : List ℕ
  more : List (List ℕ)
  whole : texts ≡ front ++ text ∷ more
  at : ℕ
  is_at : at ≡ given + length front
  line : LineText
  next : next_of at ahead ≡ Ok (Some line)
  says : line.text ≡ text

goes_on_here : (given : ℕ) (bytes ahead text : List ℕ) (more : List (List ℕ)) → ahead ≡ bytes → next_of given bytes ≡ Ok (Some (record { number = given + 1; text = text })) → GoesOn given [] ahead (text ∷ more)
goes_on_here given bytes ahead text more is next = record {
  text = text;
  more = more;
  whole = refl;
  at = given;
  is_at = omega arith;
  line = record { number = given + 1; text = text };
  next = ap (next_of given) is ∙ next;
  says = refl;
}

goes_on_behind : (given : ℕ) (one other : List ℕ) (front : List (List ℕ)) (ahead : List ℕ) (texts : List (List ℕ)) → one ≡ other → GoesOn (given + 1) front ahead texts → GoesOn given (one ∷ front) ahead (other ∷ texts)
goes_on_behind given one other front ahead texts same h = record {
  text = h.text;
  more = h.more;
  whole = λ i. sym same i ∷ h.whole i;
  at = h.at;
  is_at = omega (arith, h.is_at);
  line = h.line;
  next = h.next;
  says = h.says;
}

-- of two readings of the same bytes one goes on where the other ends
abbrev Compared : ℕ → List (List ℕ) → List ℕ → List (List ℕ) → List ℕ → Type 0
Compared given one ahead other ahead' =
    ((one ≡ other) × (ahead ≡ ahead')) ⊎ GoesOn given one ahead other ⊎ GoesOn given other ahead' one

compared : (given : ℕ) (bytes : List ℕ) (one other : List (List ℕ)) (ahead ahead' : List ℕ) → AreRead given bytes one ahead → AreRead given bytes other ahead' → Compared given one ahead other ahead'
compared given bytes [] [] ahead ahead' a b = inl (refl, a ∙ sym b)
compared given bytes [] (u ∷ us) ahead ahead' a b = inr (inl (goes_on_here given bytes ahead u us a b.0))
compared given bytes (t ∷ ts) [] ahead ahead' a b = inr (inr (goes_on_here given bytes ahead' t ts b a.0))
compared given bytes (t ∷ ts) (u ∷ us) ahead ahead' a b =
    let lines : ◌≡◌ {A = LineText} (record { number = given + 1; text = t }) (record { number = given + 1; text = u }) = let gives = sym a.0 ∙ b.0 in cc in
    let same : t ≡ u = ap (λ (l : LineText). l.text) lines in
    elim (compared (given + 1) (after_line bytes) ts us ahead ahead' a.1 b.1) [
      | inl equal ↦ inl ((λ i. same i ∷ equal.0 i), equal.1)
      | inr further ↦ elim further [
        | inl first ↦ inr (inl (goes_on_behind given t u ts ahead us same first))
        | inr second ↦ inr (inr (goes_on_behind given u t us ahead' ts (sym same) second))
      ]
    ]

-- Refusals

module _ (changes : List Change) (input : List ℕ) where
  -- lines that go on behind the one that is refused don't all say answers
  ends_there : (error : InputError) (texts : List (List ℕ)) (all : List (List ℕ × Action)) (refused : IsFirstRefused changes input error) → GoesOn 0 refused.front refused.ahead texts → AreAnswers changes texts all → ⊥
  ends_there error texts all refused further are =
      let at : length refused.front ≡ further.at = omega (arith, further.is_at) in
      let next : next_of (length refused.front) refused.ahead ≡ Ok (Some further.line) = ap (λ n. next_of n refused.ahead) at ∙ further.next in
      let turned : IsRefused changes refused.earlier (Ok (Some further.line)) error = subst (λ n. IsRefused changes refused.earlier n error) next refused.refused in
      not_refused changes refused.front further.text further.more refused.earlier all refused.answers (subst (λ l. AreAnswers changes l all) further.whole are)
      (subst (λ t. t ≢ []) further.says turned.1) (subst (IsNoAnswer changes refused.earlier) further.says turned.2)

  -- at the end of input no line is refused
  not_at_end : (earlier : List (List ℕ × Action)) (n : ℕ) (ahead : List ℕ) (error : InputError) → ahead ≡ [] → IsRefused changes earlier (next_of n ahead) error → ⊥
  not_at_end earlier n ahead error none refused = subst (λ l. IsRefused changes earlier (next_of n l) error) none refused

  pub read_or_refused : (answers : List (List ℕ × Action)) (error : InputError) → AreRead 0 input (lines input) [] → AreAnswers changes (lines input) answers → IsFirstRefused changes input error → ⊥
  read_or_refused answers error read are refused = elim (compared 0 input refused.front (lines input) refused.ahead [] refused.read read) [
    | inl equal ↦ not_at_end refused.earlier (length refused.front) refused.ahead error equal.1 refused.refused
    | inr further ↦ elim further [
      | inl first ↦ ends_there error (lines input) answers refused first are
      | inr second ↦ (let no : ◌≡◌ {A = Result (Option LineText) LineError} (Ok None) (Ok (Some second.line)) = second.next in cc)
    ]
  ]

  one_stop : (earlier : List (List ℕ × Action)) (next : Result (Option LineText) LineError) (one other : InputError) → IsRefused changes earlier next one → IsRefused changes earlier next other → one ≡ other
  one_stop earlier (Ok None) one other a b = absurd a
  one_stop earlier (Ok (Some line)) one other a b = a.0 ∙ sym b.0
  one_stop earlier (Err e) one other a b = a ∙ sym b

  pub one_refusal : (one other : InputError) → IsFirstRefused changes input one → IsFirstRefused changes input other → one ≡ other
  one_refusal one other a b = elim (compared 0 input a.front b.front a.ahead b.ahead a.read b.read) [
    | inl equal ↦ (let earlier : b.earlier ≡ a.earlier = one_reading changes a.front b.earlier a.earlier (subst (λ l. AreAnswers changes l b.earlier) (sym equal.0) b.answers) a.answers in
        let next : next_of (length b.front) b.ahead ≡ next_of (length a.front) a.ahead = λ i. next_of (length (sym equal.0 i)) (sym equal.1 i) in
        one_stop a.earlier (next_of (length a.front) a.ahead) one other a.refused
        (subst (λ n. IsRefused changes a.earlier n other) next (subst (λ l. IsRefused changes l (next_of (length b.front) b.ahead) other) earlier b.refused)))
    | inr further ↦ elim further [
      | inl first ↦ absurd (ends_there one b.front b.earlier a first b.answers)
      | inr second ↦ absurd (ends_there other a.front a.earlier b second a.answers)
    ]
  ]
