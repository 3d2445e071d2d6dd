use Rattle.std.proofs.Common.{ℕ, ◌≡◌, ◌∙◌, sym, ap, subst, List, inl, inr, Bor, IsUtf8}
use Rattle.std.proofs.lemmas.List.Elements.{All-drop, All-map}
use Rattle.clap.specs.Words.{HasMatchesOf, IsAmong, fault_of, is_simple_and_free}
use Rattle.command_words.specs.Words.{texts}
use Rattle.command_words.specs.declared.error.WordError.TheVariants as word_error
use Rattle.command_words.proofs.Positionals.{accepted, is_free, refused}
use Rattle.command_words.proofs.positional.rest_matches.Goals as goal

pub returns-in-Ok-clause-ok : goal.returns-in-Ok-clause-ok
returns-in-Ok-clause-ok c =
    let words = texts c.args.words.now in
    let app = c.in_ok-command.ensures in
    accepted c.args.name.now words c.in-Ok.matches (All-drop IsUtf8 1 words (All-map IsUtf8 (λ (w : Bor (List ℕ)). w.now) c.args.words.now c.see_texts.ensures))
    (sym (ap (λ a. fault_of a words) app) ∙ c.in-Ok.ensures.kinds (ap is_simple_and_free app ∙ is_free c.args.name.now))
    (subst (λ a. HasMatchesOf a words c.in-Ok.matches) app c.in-Ok.ensures.matches)

pub returns-in-Err-clause-usage : goal.returns-in-Err-clause-usage
returns-in-Err-clause-usage c =
    let words = texts c.args.words.now in
    let app = c.in_ok-command.ensures in
    elim (c.in-Err.ensures.kinds (ap is_simple_and_free app ∙ is_free c.args.name.now)) [
      | inl memory ↦ λ usage. let bad : word_error.Usage ≡ word_error.Memory = sym usage ∙ c.word_error.ensures.1 (c.kind.ensures ∙ memory) in cc
      | inr among ↦ λ _. refused c.args.name.now words _ (All-drop IsUtf8 1 words (All-map IsUtf8 (λ (w : Bor (List ℕ)). w.now) c.args.words.now c.see_texts.ensures))
          (subst (λ a. IsAmong c.in-Err.e.kind (fault_of a words)) app among)
    ]
