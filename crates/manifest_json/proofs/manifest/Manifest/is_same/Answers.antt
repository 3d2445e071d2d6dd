use Rattle.std.proofs.Common.{◌≡◌, ap, sym, ◌∙◌}
use Rattle.manifest_json.specs.declared.manifest.Manifest.{Manifest}
use Rattle.manifest_json.proofs.manifest.Manifest.is_same.Goals as goal

pub returns-then-same_rows : goal.returns-then-same_rows
returns-then-same_rows c =
    let rows = c.same_rows.ensures.0 c.if-same_rows.true in
    let same_rows : c.args.self.now.rows ≡ c.args.other.now.rows = sym c.as_slice.ensures.same ∙ rows ∙ c.as_slice-2.ensures.same in (
      λ h. let same_folders : c.args.self.now.folders ≡ c.args.other.now.folders = sym c.as_slice-then-same_rows.ensures.same ∙ c.same_paths.ensures.0 h ∙ c.as_slice-then-same_rows-2.ensures.same in
          λ i. record { rows = same_rows i; folders = same_folders i },
      λ e. c.same_paths.ensures.1 (c.as_slice-then-same_rows.ensures.same ∙ ap (λ (m : Manifest). m.folders) e ∙ sym c.as_slice-then-same_rows-2.ensures.same),
    )

pub returns-else-same_rows : goal.returns-else-same_rows
returns-else-same_rows c = (
  λ h. let never : ⊥ = cc in absurd never,
  λ e. c.same_rows.ensures.1 (c.as_slice.ensures.same ∙ ap (λ (m : Manifest). m.rows) e ∙ sym c.as_slice-2.ensures.same),
)
