-- The places of rows and of what is set aside: which are free, and which lie apart.
use Rattle.std.proofs.Common.{◌≡◌, ◌≢◌, ℕ, List, [], ◌∷◌, ◌++◌, codes, refl, sym, ap, ◌∙◌, inl, inr, subst}
use Rattle.std.specs.List.{Contains}
use Rattle.std.specs.Str.{bytes_eq}
use Rattle.std.specs.Fmt.{decimal}
use Rattle.std.proofs.Common.{true, false}
use Rattle.std.specs.declared.option.Option.TheVariants.{Some}
use Rattle.list_laws.proofs.Texts.{bytes_eq-itself}
use Rattle.list_laws.proofs.Alls.{all_item}
use Rattle.list_laws.proofs.Containing.{contains_cases, contains_none}
use Rattle.rel_paths.specs.Names.{names_of}
use Rattle.rel_paths.specs.declared.control.Control.{Control}
use Rattle.rel_paths.specs.declared.control.Control.TheVariants as control
use Rattle.rel_paths.specs.Controls.{control_path}
use Rattle.tree_fs.specs.declared.place.Root.{Root}
use Rattle.tree_fs.specs.declared.place.Root.TheVariants.{Stage, Game, Keep}
use Rattle.tree_fs.specs.Spot.{Spot, root_spot, IsBelow}
use Rattle.tree_fs.specs.Places.{game_spot}
use Rattle.tree_fs.specs.Texts.{root_word, root_named}
use Rattle.backup_keep.specs.Places.{aside_spot}
use Rattle.manifest_json.specs.declared.manifest.Row.{Row}
use Rattle.manifest_json.specs.Apart.{HaveApartSources, HasApartSources}
use Rattle.manifest_json.specs.Sound.{AreRows}
use Rattle.change_detect.specs.Classes.{staged_of}
use Rattle.move_plan.specs.Rules.{IsFree}
use Rattle.desk_model.specs.Places.{Names, in_aside, IsUsers}
use Rattle.desk_model.proofs.Cases.{head_is, tail_is}
use Rattle.desk_model.proofs.Spots.{control-names}
use Rattle.desk_model.proofs.Sourced.{staged-apart}
use Rattle.plan_model.proofs.Paths.{free_stage, above-free, good-free, good-off}
use Rattle.plan_model.proofs.Rows.{row_free, rows_apart}

-- Places that lie apart

not_itself : (ns : Names) (name : List ℕ) (rest : Names) → ns ≡ ns ++ name ∷ rest → ⊥
not_itself [] name rest e = cc
not_itself (m ∷ ms) name rest e = not_itself ms name rest (let t : ms ≡ ms ++ name ∷ rest = cc in t)

-- the staged places of listed rows
stages_apart : (rows : List Row) → HasApartSources rows → (r s : Row) → Contains rows r → Contains rows s → ¬ IsBelow (staged_of r) (staged_of s)
stages_apart [] apart r s c d b = contains_none r c
stages_apart (q ∷ rows) apart r s c d b = elim (contains_cases q r rows c) [
  | inl is ↦ elim (contains_cases q s rows d) [
    | inl too ↦ not_itself (staged_of q).names b.name b.rest (ap (λ (x : Row). (staged_of x).names) (sym too) ∙ b.names ∙ ap (λ (x : Row). (staged_of x).names ++ b.name ∷ b.rest) is)
    | inr later ↦ (staged-apart q s (all_item (HaveApartSources q) rows s apart.0 later)).1 (subst (λ (x : Row). IsBelow (staged_of x) (staged_of s)) is b)
  ]
  | inr there ↦ elim (contains_cases q s rows d) [
    | inl is ↦ (staged-apart q r (all_item (HaveApartSources q) rows r apart.0 there)).2 (subst (λ (x : Row). IsBelow (staged_of r) (staged_of x)) is b)
    | inr later ↦ stages_apart rows apart.1 r s there later b
  ]
]

-- the game path or the staged place of a listed row
pub data RowPlace (rows : List Row) (x : Spot) : Type 0 where
  in_game : (r : Row) → Contains rows r → game_spot r.path ≡ x → RowPlace rows x
  in_mod : (r : Row) → Contains rows r → staged_of r ≡ x → RowPlace rows x

pub row_users : (rows : List Row) (x : Spot) → RowPlace rows x → IsUsers x.root
row_users rows x (in_game r c e) = subst (λ (y : Spot). IsUsers y.root) e tt
row_users rows x (in_mod r c e) = subst (λ (y : Spot). IsUsers y.root) e tt

pub places_apart : (rows : List Row) → AreRows rows → (x y : Spot) → RowPlace rows x → RowPlace rows y → ¬ IsBelow x y
places_apart rows kept x y (in_game r c e) (in_game s d f) b = rows_apart rows kept r s c d (subst (λ z. IsBelow z (game_spot s.path)) (sym e) (subst (IsBelow x) (sym f) b))
places_apart rows kept x y (in_game r c e) (in_mod s d f) b = let t : Stage ≡ Game = ap (λ (z : Spot). z.root) f ∙ b.root ∙ ap (λ (z : Spot). z.root) (sym e) in cc
places_apart rows kept x y (in_mod r c e) (in_game s d f) b = let t : Game ≡ Stage = ap (λ (z : Spot). z.root) f ∙ b.root ∙ ap (λ (z : Spot). z.root) (sym e) in cc
places_apart rows kept x y (in_mod r c e) (in_mod s d f) b = stages_apart rows kept.apart r s c d (subst (λ z. IsBelow z (staged_of s)) (sym e) (subst (IsBelow x) (sym f) b))

word_named : (r : Root) → root_named (root_word r) ≡ Some r
word_named Stage = refl
word_named Game = refl
word_named Keep = refl

word_same : (r s : Root) → root_word r ≡ root_word s → r ≡ s
word_same r s e = let t : Some r ≡ Some s = sym (word_named r) ∙ ap root_named e ∙ word_named s in cc

-- of two places that are set aside under one number one lies below the other only where it does so
-- where they come from
pub aside_below : (n : ℕ) (x y : Spot) → IsBelow (aside_spot n x) (aside_spot n y) → IsBelow x y
aside_below n x y b =
    let tail = λ (m : Names). m ++ b.name ∷ b.rest in
    let under = tail_is (codes "aside") (codes "aside") (decimal n ∷ root_word y.root ∷ y.names) (tail (decimal n ∷ root_word x.root ∷ x.names)) b.names in
    let cut = tail_is (decimal n) (decimal n) (root_word y.root ∷ y.names) (tail (root_word x.root ∷ x.names)) under in
    record {
      root = word_same y.root x.root (head_is (root_word y.root) (root_word x.root) y.names (tail x.names) cut);
      name = b.name;
      rest = b.rest;
      names = tail_is (root_word y.root) (root_word x.root) y.names (tail x.names) cut;
    }

-- Free places

-- `keep/aside` and what lies below it
control_apart : (which : Control) → bytes_eq (codes "aside") (control_path which) ≡ false
control_apart control.Intent = refl
control_apart control.IntentTemp = refl
control_apart control.ManifestTemp = refl
control_apart control.ProfileTemp = refl
control_apart control.Profile = refl
control_apart control.Manifest = refl

not_aside : (which : Control) → codes "aside" ≢ control_path which
not_aside which e = let t : false ≡ true = sym (control_apart which) ∙ ap (λ l. bytes_eq l (control_path which)) e ∙ bytes_eq-itself (control_path which) in cc

pub free_aside : (ns : Names) → IsFree (in_aside ns)
free_aside ns = record {
  not_root = λ e. cc;
  not_control = λ which e. not_aside which (head_is (codes "aside") (control_path which) ns [] (ap (λ (s : Spot). s.names) e ∙ control-names which));
  not_below = λ which b. not_aside which (head_is (codes "aside") (control_path which) ns (b.name ∷ b.rest) (b.names ∙ ap (λ l. l ++ b.name ∷ b.rest) (control-names which)));
}

-- what lies above an aside place
pub data AboveAside (s : Spot) (ns : Names) : Type 0 where
  the_root : s ≡ root_spot Keep → AboveAside s ns
  inside : (ms : Names) (name : List ℕ) (rest : Names) → s ≡ in_aside ms → ns ≡ ms ++ name ∷ rest → AboveAside s ns

pub above_aside : (s : Spot) (ns : Names) → IsBelow s (in_aside ns) → AboveAside s ns
above_aside s ns b = by_names s.names b.names refl
  where
    by_names : (ms : Names) → codes "aside" ∷ ns ≡ ms ++ b.name ∷ b.rest → s.names ≡ ms → AboveAside s ns
    by_names [] e is = the_root (λ i. record { root = sym b.root i; names = is i })
    by_names (y ∷ ys) e is =
        let first = head_is (codes "aside") y ns (ys ++ b.name ∷ b.rest) e in
        inside ys b.name b.rest (λ i. record { root = sym b.root i; names = (is ∙ ap (λ l. l ∷ ys) (sym first)) i }) (tail_is (codes "aside") y ns (ys ++ b.name ∷ b.rest) e)

pub row_free_place : (rows : List Row) → AreRows rows → (x : Spot) → RowPlace rows x → IsFree x
row_free_place rows kept x (in_game r c e) = subst IsFree e (good-free r.path (row_free rows kept r c))
row_free_place rows kept x (in_mod r c e) = subst IsFree e (free_stage r.mod_id (names_of r.source))

-- what lies above the place of a row, but for the root
pub row_free_above : (rows : List Row) → AreRows rows → (s x : Spot) → RowPlace rows x → IsBelow s x → s.names ≢ [] → IsFree s
row_free_above rows kept s x (in_game r c e) b some = above-free s (names_of r.path) some (good-off r.path (row_free rows kept r c)) (subst (IsBelow s) (sym e) b)
row_free_above rows kept s x (in_mod r c e) b some = by_names s.names refl
  where
    root : Stage ≡ s.root
    root = (subst (IsBelow s) (sym e) b).root

    by_names : (ms : Names) → s.names ≡ ms → IsFree s
    by_names [] is = absurd (some is)
    by_names (m ∷ ms) is = subst IsFree (λ i. record { root = root i; names = sym is i }) (free_stage m ms)
