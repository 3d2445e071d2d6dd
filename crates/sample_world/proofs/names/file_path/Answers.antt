use Rattle.std.proofs.Common.{◌≡◌, ◌++◌, ◌/◌, ℕ, List, codes, append_assoc, ap, ◌∙◌, subst}
use Rattle.fault_count.specs.Causes.{Explains}
use Rattle.rel_paths.specs.declared.error.PathError.TheVariants.{Memory}
use Rattle.rel_paths.specs.Names.{path_fault, user_limits}
use Rattle.sample_world.specs.Texts.{padded, folder_name, file_name, file_path}
use Rattle.sample_world.proofs.Naming.{IsUserPath-file_path}
use Rattle.sample_world.proofs.names.file_path.Goals as goal

-- the pieces one after the other
pieces : (k : ℕ) (a b d e f : List ℕ) → a ≡ codes "d" → b ≡ a ++ padded 3 (k / 100) → d ≡ b ++ codes "/f" → e ≡ d ++ padded 5 k → f ≡ e ++ codes ".txt" → f ≡ file_path k
unfolding folder_name file_name
pieces k a b d e f one two three four five =
    let folder : b ≡ folder_name k = two ∙ ap (λ l. l ++ padded 3 (k / 100)) one in
    five ∙ ap (λ l. l ++ codes ".txt") (four ∙ ap (λ l. l ++ padded 5 k) (three ∙ ap (λ l. l ++ codes "/f") folder))
    ∙ append_assoc (folder_name k ++ codes "/f") (padded 5 k) (codes ".txt")
    ∙ append_assoc (folder_name k) (codes "/f") (padded 5 k ++ codes ".txt")

pub returns-in-Ok-clause-same : goal.returns-in-Ok-clause-same
returns-in-Ok-clause-same c =
    c.in-Ok.ensures.same ∙ c.as_str.ensures.value
    ∙ pieces c.args.index _ _ _ _ _ c.in_ok-text.ensures.ok c.in_ok-push_padded.ensures c.in_ok-push_str.ensures.bytes c.in_ok-push_padded-2.ensures c.in_ok-push_str-2.ensures.bytes

pub only_memory-requires : goal.only_memory-requires
only_memory-requires c =
    let text : c.as_str.result.now ≡ file_path c.args.index =
    c.as_str.ensures.value
    ∙ pieces c.args.index _ _ _ _ _ c.in_ok-text.ensures.ok c.in_ok-push_padded.ensures c.in_ok-push_str.ensures.bytes c.in_ok-push_padded-2.ensures c.in_ok-push_str-2.ensures.bytes
    in
    subst (λ o. Explains Memory o c.in-Err.fault) (ap (path_fault user_limits) text ∙ IsUserPath-file_path c.args.index) c.in-Err.ensures.err
