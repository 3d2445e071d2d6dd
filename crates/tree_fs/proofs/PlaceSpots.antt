-- Where the places of the program lie, and which are apart.
use Rattle.std.proofs.Common.{◌≡◌, ◌≢◌, ℕ, List, [], ◌∷◌, refl, sym, ap, ◌∙◌, true}
use Rattle.rel_paths.specs.declared.control.Control.{Control}
use Rattle.rel_paths.specs.declared.control.Control.TheVariants.{Intent, IntentTemp, ManifestTemp, ProfileTemp, Profile, Manifest}
use Rattle.rel_paths.specs.Names.{names_of}
use Rattle.rel_paths.specs.Controls.{control_path}
use Rattle.rel_paths.proofs.NamesOf.{same_text}
use Rattle.tree_fs.specs.declared.place.Root.{Root}
use Rattle.tree_fs.specs.declared.place.Root.TheVariants.{Stage, Game, Keep}
use Rattle.tree_fs.specs.Spot.{Spot, root_spot, is_entry, below}
use Rattle.tree_fs.specs.Places.{game_spot, mod_spot, staged_spot}
use Rattle.tree_fs.specs.Texts.{control_root, control_spot}
use Rattle.tree_fs.proofs.Spots.{is_entry-below, not_nameless}

-- spots below different roots are apart
pub other_root : (p q : Spot) → p.root ≢ q.root → p ≢ q
other_root p q ne e = ne (ap (λ s. s.root) e)

pub game_spot-same : (p q : List ℕ) → game_spot p ≡ game_spot q → p ≡ q
game_spot-same p q e = same_text p q (ap (λ s. s.names) e)

pub staged_spot-id : (i j p q : List ℕ) → staged_spot i p ≡ staged_spot j q → i ≡ j
staged_spot-id i j p q e = let names : i ∷ names_of p ≡ j ∷ names_of q = ap (λ s. s.names) e in cc

pub staged_spot-path : (i j p q : List ℕ) → staged_spot i p ≡ staged_spot j q → p ≡ q
staged_spot-path i j p q e =
    let names : i ∷ names_of p ≡ j ∷ names_of q = ap (λ s. s.names) e in
    same_text p q (let rest : names_of p ≡ names_of q = cc in rest)

pub game-not_staged : (p i q : List ℕ) → game_spot p ≢ staged_spot i q
game-not_staged p i q e = let h : Game ≡ Stage = ap (λ s. s.root) e in cc

pub game-not_root : (p : List ℕ) (r : Root) → game_spot p ≢ root_spot r
game-not_root p r e = not_nameless p (ap (λ s. s.names) e)

-- all control places but the manifest lie in `keep`
pub control-not_staged : (which : Control) (i q : List ℕ) → control_spot which ≢ staged_spot i q
control-not_staged Intent i q e = let h : Keep ≡ Stage = ap (λ s. s.root) e in cc
control-not_staged IntentTemp i q e = let h : Keep ≡ Stage = ap (λ s. s.root) e in cc
control-not_staged ManifestTemp i q e = let h : Keep ≡ Stage = ap (λ s. s.root) e in cc
control-not_staged ProfileTemp i q e = let h : Keep ≡ Stage = ap (λ s. s.root) e in cc
control-not_staged Profile i q e = let h : Keep ≡ Stage = ap (λ s. s.root) e in cc
control-not_staged Manifest i q e = let h : Game ≡ Stage = ap (λ s. s.root) e in cc

pub control-not_game : (which : Control) (p : List ℕ) → control_root which ≡ Keep → control_spot which ≢ game_spot p
control-not_game which p keep e = let h : Keep ≡ Game = sym keep ∙ ap (λ s. s.root) e in cc

-- the manifest's place is that of a game path only where the path is its own
pub manifest-game : (p : List ℕ) → control_spot Manifest ≡ game_spot p → p ≡ control_path Manifest
manifest-game p e = sym (game_spot-same (control_path Manifest) p e)

-- a mod's folder is an entry of `stage`
pub mod_spot-below : (id : List ℕ) → mod_spot id ≡ below (root_spot Stage) id
mod_spot-below id = refl

pub mod_spot-entry : (id : List ℕ) → is_entry (root_spot Stage) (mod_spot id) ≡ true
mod_spot-entry id = is_entry-below (root_spot Stage) id

pub mod_spot-same : (i j : List ℕ) → mod_spot i ≡ mod_spot j → i ≡ j
mod_spot-same i j e = let names : i ∷ [] ≡ j ∷ [] = ap (λ s. s.names) e in cc

pub staged-not_mod : (i j p : List ℕ) → staged_spot i p ≢ mod_spot j
staged-not_mod i j p e =
    let names : i ∷ names_of p ≡ j ∷ [] = ap (λ s. s.names) e in
    not_nameless p (let rest : names_of p ≡ [] = cc in rest)
