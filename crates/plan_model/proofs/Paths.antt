-- Paths of rows and winners, their backups, and which of these places are apart.
use Rattle.tree_fs.proofs.Spots.{not_nameless}
use Rattle.desk_model.proofs.Cases.{empty, tail_is, head_is}
use Rattle.rel_paths.specs.declared.control.Control.TheVariants as control
use Rattle.std.proofs.Common.{◌≡◌, ◌≢◌, ℕ, nat_eq, ◌-◌, Bool, true, false, ◌||◌, List, [], ◌∷◌, ◌++◌, length, drop, refl, sym, ap, ◌∙◌, subst}
use Rattle.std.specs.List.{ends_with}
use Rattle.std.specs.Str.{bytes_eq}
use Rattle.std.proofs.lemmas.List.Prefix.{end_rest}
use Rattle.std.proofs.lemmas.Slice.Eq.{bytes_eq-Decides}
use Rattle.rel_paths.specs.Names.{names_of, backup_ending, backup_names, has_backup, begins_with_manifest, is_reserved, manifest_name, IsFreePath}
use Rattle.rel_paths.specs.declared.control.Control.{Control}
use Rattle.rel_paths.specs.Controls.{control_path}
use Rattle.rel_paths.proofs.Backups.{is_reserved-backup, is_reserved-below}
use Rattle.tree_fs.specs.declared.place.Root.TheVariants.{Stage, Game, Keep}
use Rattle.tree_fs.specs.Spot.{Spot, IsBelow}
use Rattle.tree_fs.specs.Places.{game_spot}
use Rattle.tree_fs.specs.Texts.{control_spot, control_root}
use Rattle.backup_keep.specs.Places.{backup_spot}
use Rattle.move_plan.specs.Rules.{IsFree}
use Rattle.desk_model.specs.Places.{Names, in_game, in_stage, manifest_spot}
use Rattle.desk_model.proofs.Spots.{control-names}

second_false : (a b : Bool) → (a || b) ≡ false → b ≡ false
second_false false b e = e
second_false true b e = absurd (cc)

pub not_manifest_first : (ns : Names) → is_reserved ns ≡ false → begins_with_manifest ns ≡ false
unfolding is_reserved
not_manifest_first ns e = second_false (has_backup ns) (begins_with_manifest ns) e

-- a good path is no backup, and lies below none
pub good-not_backup : (p q : List ℕ) → IsFreePath p → backup_names (names_of q) ≢ names_of p
good-not_backup p q good e = let t : true ≡ false = sym (is_reserved-backup q) ∙ ap is_reserved e ∙ good.1 in cc

pub good-not_below : (p q : List ℕ) → IsFreePath p → ¬ IsBelow (backup_spot q) (game_spot p)
good-not_below p q good b =
    let t : true ≡ false = sym (is_reserved-below (backup_names (names_of q)) (b.name ∷ b.rest) (is_reserved-backup q)) ∙ ap is_reserved (sym b.names) ∙ good.1 in cc

-- what lies above a backup lies above the path
shorter : (ns q : Names) (name : List ℕ) (rest : Names) → backup_names ns ≡ q ++ name ∷ rest → (m : List ℕ) × (ms : Names) × (ns ≡ q ++ m ∷ ms)
shorter [] q name rest e = absurd (empty q name rest e)
shorter (n ∷ []) [] name rest e = (n, [], refl)
shorter (n ∷ []) (y ∷ ys) name rest e = absurd (empty ys name rest (tail_is (n ++ backup_ending) y [] (ys ++ name ∷ rest) e))
shorter (n ∷ m ∷ ms) [] name rest e = (n, m ∷ ms, refl)
shorter (n ∷ m ∷ ms) (y ∷ ys) name rest e =
    let h = shorter (m ∷ ms) ys name rest (tail_is n y (backup_names (m ∷ ms)) (ys ++ name ∷ rest) e) in
    let first : n ≡ y = head_is n y (backup_names (m ∷ ms)) (ys ++ name ∷ rest) e in
    (h.0, h.1, λ i. first i ∷ h.2 i)

pub above_backup : (s : Spot) (p : List ℕ) → IsBelow s (backup_spot p) → IsBelow s (game_spot p)
above_backup s p b = let h = shorter (names_of p) s.names b.name b.rest b.names in record { root = b.root; name = h.0; rest = h.1; names = h.2 }

-- and what lies above the path, lies above the backup
longer : (ns q : Names) (name : List ℕ) (rest : Names) → ns ≡ q ++ name ∷ rest → (m : List ℕ) × (ms : Names) × (backup_names ns ≡ q ++ m ∷ ms)
longer [] q name rest e = absurd (empty q name rest e)
longer (n ∷ []) [] name rest e = (n ++ backup_ending, [], refl)
longer (n ∷ []) (y ∷ ys) name rest e = absurd (empty ys name rest (tail_is n y [] (ys ++ name ∷ rest) e))
longer (n ∷ m ∷ ms) [] name rest e = (n, backup_names (m ∷ ms), refl)
longer (n ∷ m ∷ ms) (y ∷ ys) name rest e =
    let h = longer (m ∷ ms) ys name rest (tail_is n y (m ∷ ms) (ys ++ name ∷ rest) e) in
    let first : n ≡ y = head_is n y (m ∷ ms) (ys ++ name ∷ rest) e in
    (h.0, h.1, λ i. first i ∷ h.2 i)

pub above_path : (s : Spot) (p : List ℕ) → IsBelow s (game_spot p) → IsBelow s (backup_spot p)
above_path s p b = let h = longer (names_of p) s.names b.name b.rest b.names in record { root = b.root; name = h.0; rest = h.1; names = h.2 }

pub backup-not_below : (p q : List ℕ) → IsFreePath p → ¬ IsBelow (backup_spot q) (backup_spot p)
backup-not_below p q good b = good-not_below p q good (above_backup (backup_spot q) p b)

-- places that are free
begins_same : (ns : Names) (name : List ℕ) (rest : Names) → ns ≢ [] → begins_with_manifest (ns ++ name ∷ rest) ≡ begins_with_manifest ns
begins_same [] name rest ne = absurd (ne refl)
begins_same (n ∷ ns) name rest ne = refl

manifest_begins : (ns more : Names) → ns ≡ control_path control.Manifest ∷ more → begins_with_manifest ns ≡ true
manifest_begins ns more e = ap begins_with_manifest e

pub not_manifest : (ns : Names) → begins_with_manifest ns ≡ false → in_game ns ≢ manifest_spot
not_manifest ns off e = let t : false ≡ true = sym off ∙ manifest_begins ns [] (ap (λ (s : Spot). s.names) e ∙ control-names control.Manifest) in cc

pub free_game : (ns : Names) → ns ≢ [] → begins_with_manifest ns ≡ false → IsFree (in_game ns)
free_game ns some off = record {
  not_root = some;
  not_control = not_control;
  not_below = not_below;
}
  where
    other_root : (which : Control) → control_root which ≡ Keep → Game ≡ control_root which → ⊥
    other_root which is e = let t : Game ≡ Keep = e ∙ is in cc

    not_control : (which : Control) → in_game ns ≡ control_spot which → ⊥
    not_control control.Intent e = other_root control.Intent refl (ap (λ (s : Spot). s.root) e)
    not_control control.IntentTemp e = other_root control.IntentTemp refl (ap (λ (s : Spot). s.root) e)
    not_control control.ManifestTemp e = other_root control.ManifestTemp refl (ap (λ (s : Spot). s.root) e)
    not_control control.ProfileTemp e = other_root control.ProfileTemp refl (ap (λ (s : Spot). s.root) e)
    not_control control.Profile e = other_root control.Profile refl (ap (λ (s : Spot). s.root) e)
    not_control control.Manifest e = not_manifest ns off e

    not_below : (which : Control) → IsBelow (control_spot which) (in_game ns) → ⊥
    not_below control.Intent b = other_root control.Intent refl b.root
    not_below control.IntentTemp b = other_root control.IntentTemp refl b.root
    not_below control.ManifestTemp b = other_root control.ManifestTemp refl b.root
    not_below control.ProfileTemp b = other_root control.ProfileTemp refl b.root
    not_below control.Profile b = other_root control.Profile refl b.root
    not_below control.Manifest b =
        let t : false ≡ true = sym off ∙ manifest_begins ns (b.name ∷ b.rest) (b.names ∙ ap (λ l. l ++ b.name ∷ b.rest) (control-names control.Manifest)) in cc

pub free_stage : (n : List ℕ) (ns : Names) → IsFree (in_stage (n ∷ ns))
free_stage n ns = record {
  not_root = λ e. cc;
  not_control = λ which e. other_root which (ap (λ (s : Spot). s.root) e);
  not_below = λ which b. other_root which b.root;
}
  where
    other_root : (which : Control) → Stage ≡ control_root which → ⊥
    other_root control.Intent e = cc
    other_root control.IntentTemp e = cc
    other_root control.ManifestTemp e = cc
    other_root control.ProfileTemp e = cc
    other_root control.Profile e = cc
    other_root control.Manifest e = cc

-- the backup of a good path isn't the manifest's
ends_itself : (name : List ℕ) → ends_with nat_eq (name ++ backup_ending) backup_ending ≡ true
ends_itself name = (bytes_eq-Decides backup_ending (drop (length (name ++ backup_ending) - length backup_ending) (name ++ backup_ending))).1 (sym (end_rest (name ++ backup_ending) backup_ending name refl))

manifest_ends : ends_with nat_eq manifest_name backup_ending ≡ false
manifest_ends = refl

backup_begins : (ns : Names) → begins_with_manifest ns ≡ false → begins_with_manifest (backup_names ns) ≡ false
backup_begins [] off = refl
backup_begins (n ∷ []) off = by_test (bytes_eq (n ++ backup_ending) manifest_name) refl
  where
    by_test : (b : Bool) → bytes_eq (n ++ backup_ending) manifest_name ≡ b → b ≡ false
    by_test false e = refl
    by_test true e =
        let t : true ≡ false = sym (ends_itself n) ∙ ap (λ l. ends_with nat_eq l backup_ending) ((bytes_eq-Decides (n ++ backup_ending) manifest_name).0 e) ∙ manifest_ends in absurd (cc)
backup_begins (n ∷ m ∷ ms) off = off

backup_some : (ns : Names) → ns ≢ [] → backup_names ns ≢ []
backup_some [] ne e = ne refl
backup_some (n ∷ []) ne e = cc
backup_some (n ∷ m ∷ ms) ne e = cc

pub good-off : (p : List ℕ) → IsFreePath p → begins_with_manifest (names_of p) ≡ false
good-off p good = not_manifest_first (names_of p) good.1

pub backup-off : (p : List ℕ) → IsFreePath p → begins_with_manifest (backup_names (names_of p)) ≡ false
backup-off p good = backup_begins (names_of p) (good-off p good)

pub good-free : (p : List ℕ) → IsFreePath p → IsFree (game_spot p)
good-free p good = free_game (names_of p) (not_nameless p) (good-off p good)

pub backup-free : (p : List ℕ) → IsFreePath p → IsFree (backup_spot p)
backup-free p good = free_game (backup_names (names_of p)) (backup_some (names_of p) (not_nameless p)) (backup-off p good)

-- a folder other than the root above such a place
pub above-free : (s : Spot) (ns : Names) → s.names ≢ [] → begins_with_manifest ns ≡ false → IsBelow s (in_game ns) → IsFree s
above-free s ns some off b =
    let root : Game ≡ s.root = b.root in
    subst IsFree (λ i. record { root = root i; names = s.names }) (free_game s.names some (sym (begins_same s.names b.name b.rest some) ∙ ap begins_with_manifest (sym b.names) ∙ off))
