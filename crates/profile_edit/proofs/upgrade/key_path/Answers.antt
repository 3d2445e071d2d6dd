use Rattle.std.proofs.Common.{◌≡◌, ℕ, ◌++◌, append_assoc, codes, decimal, string_bytes, sym, ap, ◌∙◌}
use Rattle.std.proofs.lemmas.Result.{IfOk-weaker}
use Rattle.profile_edit.specs.Upgrades.{path_of}
use Rattle.profile_edit.specs.declared.upgrade.NewKey.TheVariants.{Release, ModType, Range}
use Rattle.profile_edit.proofs.upgrade.key_path.Goals as goal

path_of_release : (i : ℕ) → codes "mods[" ++ (decimal i ++ codes "].release") ≡ path_of (Release i)
path_of_release i = simp append_assoc

path_of_type : (i : ℕ) → codes "mods[" ++ (decimal i ++ codes "].type") ≡ path_of (ModType i)
path_of_type i = simp append_assoc

path_of_range : (i j : ℕ) → codes "mods[" ++ (decimal i ++ (codes "].rules[" ++ (decimal j ++ codes "].range"))) ≡ path_of (Range i j)
path_of_range i j = simp append_assoc

pub returns-in-Release : goal.returns-in-Release
returns-in-Release c = IfOk-weaker c.format.result _ _ (λ t h. h ∙ path_of_release c.in-Release.i ∙ ap path_of (sym c.in-Release.is)) c.format.ensures.ok

pub returns-in-ModType : goal.returns-in-ModType
returns-in-ModType c = IfOk-weaker c.format-in-ModType.result _ _ (λ t h. h ∙ path_of_type c.in-ModType.i ∙ ap path_of (sym c.in-ModType.is)) c.format-in-ModType.ensures.ok

pub returns-in-Range : goal.returns-in-Range
returns-in-Range c = IfOk-weaker c.format-in-Range.result _ _ (λ t h. h ∙ path_of_range c.in-Range.i c.in-Range.j ∙ ap path_of (sym c.in-Range.is)) c.format-in-Range.ensures.ok
