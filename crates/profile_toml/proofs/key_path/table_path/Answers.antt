use Rattle.std.proofs.Common.{◌≡◌, ℕ, ◌++◌, append_assoc, codes, decimal, string_bytes, sym, ap, ◌∙◌}
use Rattle.std.proofs.lemmas.Result.{IfOk-weaker}
use Rattle.profile_toml.specs.KeyPaths.{path_of}
use Rattle.profile_toml.specs.declared.key_path.TablePath.TheVariants.{Rule}
use Rattle.profile_toml.proofs.key_path.table_path.Goals as goal

path_of_rule : (i j : ℕ) → codes "mods[" ++ (decimal i ++ (codes "].rules[" ++ (decimal j ++ codes "]"))) ≡ path_of (Rule i j)
path_of_rule i j = simp append_assoc

pub returns-in-Rule : goal.returns-in-Rule
returns-in-Rule c = IfOk-weaker c.format-in-Rule.result _ _ (λ t h. h ∙ path_of_rule c.in-Rule.i c.in-Rule.j ∙ ap path_of (sym c.in-Rule.is)) c.format-in-Rule.ensures.ok
