-- Whether a place lies in a folder, told by texts.
use Rattle.std.proofs.Common.{◌≡◌, ℕ, nat_eq, Bool, true, false, ◌&&◌, List, [], ◌∷◌, ◌++◌, refl, sym, ap, ◌∙◌}
use Rattle.std.specs.Cmp.Lexicographic.{pointwise}
use Rattle.std.specs.Str.{bytes_eq}
use Rattle.std.proofs.lemmas.Bool.Decides.{same_from_decides, Decides-like}
use Rattle.std.proofs.lemmas.Map.Text.{is_eq-slice_cmp}
use Rattle.std.proofs.lemmas.Slice.Eq.{bytes_eq-Decides}
use Rattle.tree_fs.specs.declared.place.Place.{Place}
use Rattle.tree_fs.specs.Texts.{place_text}
use Rattle.tree_fs.proofs.Spots.{spot_eq-Decides, same_place}
use Rattle.tree_fs.proofs.Texts.{place_text-same}
use Rattle.tree_fs.specs.declared.place.Root.{Root}
use Rattle.tree_fs.specs.declared.place.Root.TheVariants.{Stage, Game, Keep}
use Rattle.tree_fs.specs.contracts.place.Root.{the_type}
use Rattle.tree_fs.specs.Spot.{Spot, spot_of, root_eq, front_names, has_some, spot_eq, parent, is_entry}
use Rattle.tree_mem.specs.Keys.{folder_names}
use Rattle.tree_mem.proofs.Paths.{front-snoc, test_same}
use denote.Enum.Bare.{sameb}

pub same_root : (r s : Root) → sameb the_type r s ≡ root_eq r s
same_root Stage Stage = refl
same_root Stage Game = refl
same_root Stage Keep = refl
same_root Game Stage = refl
same_root Game Game = refl
same_root Game Keep = refl
same_root Keep Stage = refl
same_root Keep Game = refl
same_root Keep Keep = refl

has_some-snoc : (xs : List (List ℕ)) (n : List ℕ) → has_some (xs ++ n ∷ []) ≡ true
has_some-snoc [] n = refl
has_some-snoc (x ∷ xs) n = refl

-- the place's names are cut before the last one, and the folder's are those of a text
pub is_entry-cut : (folder : Spot) (r : Root) (ns : List (List ℕ)) (front last f : List ℕ) → ns ≡ folder_names front ++ last ∷ [] → folder_names f ≡ folder.names
    → is_entry folder (record { root = r; names = ns }) ≡ (root_eq r folder.root && bytes_eq front f)
unfolding is_entry parent spot_eq
is_entry-cut folder r ns front last f cut there =
    ap (λ l. has_some l && (root_eq r folder.root && pointwise bytes_eq (front_names l) folder.names)) cut
    ∙ ap (λ b. b && (root_eq r folder.root && pointwise bytes_eq (front_names (folder_names front ++ last ∷ [])) folder.names)) (has_some-snoc (folder_names front) last)
    ∙ ap (λ l. root_eq r folder.root && pointwise bytes_eq l folder.names) (front-snoc (folder_names front) last)
    ∙ ap (λ l. root_eq r folder.root && pointwise bytes_eq (folder_names front) l) (sym there)
    ∙ ap (λ b. root_eq r folder.root && b) (test_same front f ∙ is_eq-slice_cmp front f)

pub not_entry-root : (folder : Spot) (r : Root) → is_entry folder (record { root = r; names = [] }) ≡ false
unfolding is_entry
not_entry-root folder r = refl

-- the answer where the roots are one
pub lies_there : (a b t : Bool) → a ≡ true → t ≡ (a && b) → t ≡ b
lies_there a b t e h = h ∙ ap (λ c. c && b) e

pub not_entry-elsewhere : (folder : Spot) (r : Root) (ns : List (List ℕ)) → root_eq r folder.root ≡ false → is_entry folder (record { root = r; names = ns }) ≡ false
unfolding is_entry parent spot_eq
not_entry-elsewhere folder r ns e = both_false (has_some ns) (root_eq r folder.root) (pointwise bytes_eq (front_names ns) folder.names) e
  where
    both_false : (b a c : Bool) → a ≡ false → (b && (a && c)) ≡ false
    both_false true a c e = rw e
    both_false false a c e = refl

-- places with one text are one place
pub one_place : (p q : Place) → pointwise nat_eq (place_text p) (place_text q) ≡ spot_eq (spot_of q) (spot_of p)
one_place p q =
    same_from_decides {P = spot_of q ≡ spot_of p} (pointwise nat_eq (place_text p) (place_text q)) (spot_eq (spot_of q) (spot_of p))
    (Decides-like _ (λ e. ap spot_of (sym (place_text-same p q e))) (λ e. ap place_text (same_place p q (sym e))) (bytes_eq-Decides (place_text p) (place_text q))) (spot_eq-Decides (spot_of q) (spot_of p))
