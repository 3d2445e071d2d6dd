-- Desks of disks that agree but for the direct entries of `keep`.
use Rattle.std.proofs.Common.{◌≡◌, ◌≢◌, ◌↔◌, if◌then◌else◌, List, [], ◌∷◌, refl, sym, ap, ◌∙◌, inl, inr}
use Rattle.rel_paths.specs.Names.{backup_names}
use Rattle.tree_fs.specs.Spot.{Spot}
use Rattle.tree_fs.specs.Disk.{Value, none}
use Rattle.tree_fs.proofs.Spots.{spot_eq_tells}
use Rattle.manifest_json.specs.declared.manifest.Row.{Row}
use Rattle.desk_model.specs.Places.{Names, in_game, in_stage, in_aside, manifest_spot, IsUsers, IsKeepEntry}
use Rattle.desk_model.specs.Desk.{without_manifest, plain, plain_by, found, found_by, aside_of, View, Desk, desk_of, SameDeskBut}
use Rattle.desk_model.specs.Records.{row_at, row_behind, rows_of}
use Rattle.desk_model.proofs.Spots.{not_keep, aside-not_keep}

abbrev pub Agree : (Spot → Value) → (Spot → Value) → Type 0
Agree f g = (x : Spot) → ¬ IsKeepEntry x → f x ≡ g x

pub plain-agree : (rows : List Row) (f g : Spot → Value) → Agree f g → plain rows f ≡ plain rows g
unfolding plain
plain-agree rows f g same i p = plain_by (row_at rows p) (row_behind rows p) (same (in_game p) (not_keep (in_game p) tt) i) (same (in_game (backup_names p)) (not_keep (in_game (backup_names p)) tt) i)

pub found-agree : (rows : List Row) (f g : Spot → Value) → Agree f g → found rows f ≡ found rows g
unfolding found
found-agree rows f g same i p = found_by (row_at rows p) (same (in_game p) (not_keep (in_game p) tt) i)

aside_at : (f g : Spot → Value) → Agree f g → (p : Names) → aside_of f p ≡ aside_of g p
aside_at f g same [] = refl
aside_at f g same (n ∷ ns) = same (in_aside (n ∷ ns)) (aside-not_keep n ns)

-- away from the manifest's place only
pub without-agree : (f g : Spot → Value) (x : Spot) → (x ≢ manifest_spot → f x ≡ g x) → without_manifest f x ≡ without_manifest g x
unfolding without_manifest
without-agree f g x same = elim (spot_eq_tells x manifest_spot) [
  | inl s ↦ (λ i. if s.0 i then none else f x) ∙ sym (λ i. if s.0 i then none else g x)
  | inr s ↦ (λ i. if s.0 i then none else f x) ∙ same s.1 ∙ sym (λ i. if s.0 i then none else g x)
]

-- two desks are one but for the profile and bytes
pub record Alike (free : Spot → Type 0) (k l : Desk) : Type 0 where
  pub plain : k.plain ≡ l.plain
  pub manifest : k.manifest ≡ l.manifest
  pub found : k.found ≡ l.found
  pub staged : k.staged ≡ l.staged
  pub aside : k.aside ≡ l.aside
  pub folders : (s : Spot) → ¬ free s → (k.folders s ↔ l.folders s)

abbrev pub No : Spot → Type 0
No s = ⊥

pub alike-trans : (free : Spot → Type 0) (k l m : Desk) → Alike free k l → Alike free l m → Alike free k m
alike-trans free k l m a b = record {
  plain = a.plain ∙ b.plain;
  manifest = a.manifest ∙ b.manifest;
  found = a.found ∙ b.found;
  staged = a.staged ∙ b.staged;
  aside = a.aside ∙ b.aside;
  folders = λ s out. let f = a.folders s out in let g = b.folders s out in (λ h. g.0 (f.0 h), λ h. f.1 (g.1 h));
}

pub alike-sym : (free : Spot → Type 0) (k l : Desk) → Alike free k l → Alike free l k
alike-sym free k l a = record {
  plain = sym a.plain;
  manifest = sym a.manifest;
  found = sym a.found;
  staged = sym a.staged;
  aside = sym a.aside;
  folders = λ s out. let f = a.folders s out in (f.1, f.0);
}

pub alike-weaken : (free : Spot → Type 0) (k l : Desk) → Alike No k l → Alike free k l
alike-weaken free k l a = record {
  plain = a.plain;
  manifest = a.manifest;
  found = a.found;
  staged = a.staged;
  aside = a.aside;
  folders = λ s out. a.folders s (λ never. never);
}

pub alike-same : (free : Spot → Type 0) (k l : Desk) → SameDeskBut free k l → Alike free k l
alike-same free k l a = record {
  plain = a.plain;
  manifest = a.manifest;
  found = a.found;
  staged = a.staged;
  aside = a.aside;
  folders = a.folders;
}

pub desk_of-alike : (v w : View) → v.manifest ≡ w.manifest → Agree v.values w.values → ((s : Spot) → IsUsers s.root → (v.folders s ↔ w.folders s)) → Alike No (desk_of v) (desk_of w)
desk_of-alike v w told same folders = record {
  plain = ap (λ m. plain (rows_of m) v.values) told ∙ plain-agree (rows_of w.manifest) v.values w.values same;
  manifest = told;
  found = ap (λ m. found (rows_of m) v.values) told ∙ found-agree (rows_of w.manifest) v.values w.values same;
  staged = λ i p. same (in_stage p) (not_keep (in_stage p) tt) i;
  aside = λ i p. aside_at v.values w.values same p i;
  folders = λ s out. (λ h. (h.0, (folders s h.0).0 h.1), λ h. (h.0, (folders s h.0).1 h.1));
}
