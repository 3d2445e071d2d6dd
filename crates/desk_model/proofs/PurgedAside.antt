-- A worked case: others put a new file over a deployed one whose path had a file of the game. A purge
-- sets the new file aside, and brings back the game's own.
use Rattle.std.proofs.Common.{◌≡◌, ℕ, Bool, true, false, ◌||◌, if◌then◌else◌, List, [], ◌∷◌, codes, refl, sym, ap, ◌∙◌, inl, inr, subst}
use Rattle.std.specs.Fmt.{decimal}
use Rattle.std.specs.declared.option.Option.TheVariants.{None, Some}
use Rattle.tree_fs.specs.declared.name.Kind.TheVariants.{Absent}
use Rattle.tree_fs.specs.declared.place.Root.{Root}
use Rattle.tree_fs.specs.declared.place.Root.TheVariants.{Stage, Game, Keep}
use Rattle.tree_fs.specs.Spot.{Spot, spot_eq, IsBelow}
use Rattle.tree_fs.specs.Disk.{Disk, Value, none, file, kind_of}
use Rattle.backup_keep.specs.Asides.{IsNextAside}
use Rattle.backup_keep.specs.Origins.{origin_of}
use Rattle.manifest_json.specs.Manifests.{manifest_value}
use Rattle.desk_model.specs.Places.{Names, names_eq, in_game, in_stage, in_aside, IsUsers}
use Rattle.desk_model.specs.Records.{nothing, rows_of, own_of, manifest_of, row_at, row_behind}
use Rattle.desk_model.specs.Desk.{without_manifest, plain, found, desk}
use Rattle.desk_model.specs.Folders.{lies}
use Rattle.desk_model.specs.Settled.{set_aside}
use Rattle.desk_model.specs.Purged.{stands_over, saved_of, purged_aside, Purged}
use Rattle.desk_model.proofs.Cases.{names_off, names_tell, asides-right, folders-stay}
use Rattle.desk_model.proofs.SameDesks.{SameLying, lies_same}
use Rattle.desk_model.proofs.SavedAndPurged.{x_name, x_staged, folders_there, row, the_manifest, before, over, told_over, plain_over, above_before}
use Rattle.list_laws.proofs.Texts.{names_eq-Decides}

abbrev found_aside : Names
found_aside = codes "1" ∷ codes "game" ∷ x_name

-- others put the new file 4 at the game place
abbrev pub covered_disk : (ℕ → List ℕ) → Disk
covered_disk bytes = over (file 4) bytes

-- purged: the game's own file is at its place, the new file stands aside
abbrev now_purged : Spot → Value
now_purged s = if spot_eq s (in_game x_name) then file 1 else if spot_eq s (in_stage x_staged) then file 2 else if spot_eq s (in_aside found_aside) then file 4 else none

abbrev and_aside : Spot → Bool
and_aside s = spot_eq s (in_aside []) || spot_eq s (in_aside (codes "1" ∷ [])) || spot_eq s (in_aside (codes "1" ∷ codes "game" ∷ [])) || folders_there s

abbrev pub purged_disk : (ℕ → List ℕ) → Disk
purged_disk bytes = record { folders = and_aside; now = now_purged; before = λ s. []; bytes = bytes; firm = λ n. true; fresh = 5 }

nothing_aside : (bytes : ℕ → List ℕ) (k : ℕ) → kind_of (covered_disk bytes) (in_aside (decimal k ∷ [])) ≡ Absent
unfolding spot_eq
nothing_aside bytes k = refl

one_aside : (bytes : ℕ → List ℕ) (n : ℕ) → IsNextAside (covered_disk bytes) n → n ≡ 1
one_aside bytes n next = elim next.least [ inl is ↦ is | inr greatest ↦ absurd (greatest.1.1 (nothing_aside bytes greatest.0)) ]

module _ (bytes : ℕ → List ℕ) (is_text : manifest_value (bytes 3) ≡ Some (the_manifest bytes)) where
  abbrev old : Disk
  old = covered_disk bytes

  abbrev new : Disk
  new = purged_disk bytes

  told_purged : manifest_of new ≡ nothing
  unfolding spot_eq
  told_purged = refl

  plain_purged : (p : Names) → (desk new).plain p ≡ (desk (before bytes)).plain p
  unfolding plain row_at row_behind without_manifest spot_eq
  plain_purged p = refl

  nothing_found : (p : Names) → (desk new).found p ≡ none
  unfolding found row_at spot_eq
  nothing_found p = refl

  staged_new : (desk new).staged ≡ (desk (before bytes)).staged
  unfolding without_manifest spot_eq
  staged_new = refl

  staged_same : (desk new).staged ≡ (desk old).staged
  unfolding without_manifest spot_eq
  staged_same = refl

  found_same : (p : Names) → (desk new).found p ≡ (desk (before bytes)).found p
  unfolding found row_at spot_eq
  found_same p = refl

  none_there : (p : Names) → (desk old).aside p ≡ none
  unfolding without_manifest spot_eq
  none_there [] = refl
  none_there (n ∷ ns) = refl

  aside_is : (p : Names) → (desk new).aside p ≡ (if names_eq p found_aside then file 4 else none)
  unfolding without_manifest spot_eq
  aside_is [] = refl
  aside_is (n ∷ ns) = refl

  profile_same : (desk new).profile ≡ (desk old).profile
  unfolding spot_eq
  profile_same = refl

  lying : SameLying (desk new) (desk (before bytes))
  unfolding spot_eq
  lying = record { plain = λ i p. plain_purged p i; rows = refl; found = λ i p. found_same p i; staged = staged_new }

  above_purged : (x s : Spot) (n : ℕ) → lies (desk new) x ≡ file n → IsBelow s x → folders_there s ≡ true
  above_purged x s n there below = above_before bytes is_text x s n (sym (lies_same (desk new) (desk (before bytes)) lying x) ∙ there) below

  stands : stands_over old (row bytes) ≡ true
  unfolding spot_eq
  stands = refl

  kept_game : (q : Names) → saved_of old none Game q ≡ (if names_eq q x_name then file 4 else none)
  unfolding row_at spot_eq
  kept_game q = ap (λ m. set_aside old (stands_over old) (in_game q) none (row_at (rows_of m) q)) (told_over bytes is_text (file 4)) ∙ elim (names_tell x_name q) [
    | inl is ↦ subst (λ p. set_aside old (stands_over old) (in_game p) none (row_at (row bytes ∷ []) p) ≡ (if names_eq p x_name then file 4 else none)) is (ap (λ b. if b then file 4 else none) stands)
    | inr ne ↦
        let off = names_off x_name q ne in
        let turned = names_off q x_name (λ h. ne (sym h)) in
        (λ i. set_aside old (stands_over old) (in_game q) none (if off i then Some (row bytes) else None)) ∙ sym (λ i. if turned i then file 4 else none)
  ]

  kept_stage : (q : Names) → saved_of old none Stage q ≡ (if names_eq q x_staged then none else none)
  kept_stage q = by_test (names_eq q x_staged)
    where
      by_test : (t : Bool) → none ≡ (if t then none else none)
      by_test true = refl
      by_test false = refl

  aside_right : (p : Names) → purged_aside old none (origin_of 1 (in_aside p)) ≡ (if names_eq p found_aside then file 4 else none)
  aside_right p =
      asides-right x_staged x_name none (file 4) (purged_aside old none) refl kept_stage kept_game (λ q. refl) p
      ∙ by_test (names_eq p (codes "1" ∷ codes "stage" ∷ x_staged)) refl
    where
      by_test : (t : Bool) → names_eq p (codes "1" ∷ codes "stage" ∷ x_staged) ≡ t → (if t then none else if names_eq p found_aside then file 4 else none) ≡ (if names_eq p found_aside then file 4 else none)
      by_test false e = refl
      by_test true e = subst (λ q. none ≡ (if names_eq q found_aside then file 4 else none)) (sym ((names_eq-Decides p (codes "1" ∷ codes "stage" ∷ x_staged)).0 e)) refl

  aside_made : (n : ℕ) → IsNextAside old n → (p : Names) → (desk new).aside p ≡ purged_aside old ((desk old).aside p) (origin_of n (in_aside p))
  aside_made n next p =
      aside_is p ∙ sym (aside_right p)
      ∙ sym (ap (λ there. purged_aside old there (origin_of n (in_aside p))) (none_there p) ∙ ap (λ number. purged_aside old none (origin_of number (in_aside p))) (one_aside bytes n next))

  folders_same : (q : Spot) → IsUsers q.root → and_aside q ≡ folders_there q
  unfolding spot_eq
  folders_same q users = at_root q.root q.names users
    where
      at_root : (r : Root) (ns : Names) → IsUsers r → and_aside (record { root = r; names = ns }) ≡ folders_there (record { root = r; names = ns })
      at_root Stage ns u = refl
      at_root Game ns u = refl
      at_root Keep ns u = absurd u

  -- the purge: the new file stands aside, the game's own is at its path, and there is no manifest
  pub covered-purged : Purged old (desk new)
  covered-purged = record {
    plain = λ i p. (plain_purged p ∙ sym (plain_over bytes is_text (file 4) p)) i;
    manifest = told_purged;
    found = nothing_found;
    staged = staged_same;
    aside = aside_made;
    profile = profile_same;
    folders = folders-stay old (desk new) (ap own_of (told_over bytes is_text (file 4))) above_purged
        (λ q. (λ h. (h.0, sym (folders_same q h.0) ∙ h.1), λ h. (h.0, folders_same q h.0 ∙ h.1)));
    bytes = λ n named. refl;
  }
