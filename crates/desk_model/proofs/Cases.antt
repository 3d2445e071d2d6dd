-- What the worked cases share: tests that fail, and folders that stay.
use Rattle.std.proofs.Common.{◌≡◌, ◌≢◌, ◌⊎◌, ◌↔◌, ℕ, Bool, true, false, if◌then◌else◌, List, [], ◌∷◌, ◌++◌, refl, sym, ap, ◌∙◌, inl, inr, subst, codes, arith}
use Rattle.std.specs.List.{Contains}
use Rattle.std.specs.List.Sorted.{IsStrictlySortedBy}
use Rattle.std.specs.Ordering.{nat_cmp}
use Rattle.std.specs.Cmp.Lexicographic.{slice_cmp}
use Rattle.tree_fs.specs.declared.place.Root.{Root}
use Rattle.tree_fs.specs.Spot.{Spot, spot_eq, IsBelow}
use Rattle.tree_fs.specs.Disk.{Disk, none, file, Value}
use Rattle.tree_fs.proofs.Spots.{spot_eq_tells}
use Rattle.tree_fs.proofs.Lists.{contains_none}
use Rattle.desk_model.specs.Places.{Names, names_eq, manifest_spot, IsUsers, in_aside}
use Rattle.desk_model.specs.Desk.{without_manifest, Desk}
use Rattle.desk_model.specs.Records.{own_of, manifest_of}
use Rattle.desk_model.specs.Folders.{lies, IsNeeded, IsOwnOrNeeded, FolderRule, OwnRule}
use Rattle.std.specs.Fmt.{decimal}
use Rattle.std.specs.declared.option.Option.{Option}
use Rattle.std.specs.declared.option.Option.TheVariants.{None, Some}
use Rattle.std.proofs.lemmas.Fmt.{decimal-digits_of}
use Rattle.tree_fs.specs.declared.place.Root.TheVariants.{Stage, Game, Keep}
use Rattle.tree_fs.specs.Texts.{root_word}
use Rattle.backup_keep.specs.Origins.{origin_of}
use Rattle.backup_keep.proofs.Kept.{origin_of-aside, aside-origin_of}
use Rattle.list_laws.proofs.Texts.{names_eq_tells}

pub names_off : (a b : Names) → a ≢ b → names_eq a b ≡ false
names_off a b ne = elim (names_eq_tells a b) [ inl t ↦ absurd (ne t.1) | inr t ↦ t.0 ]

pub names_tell : (a b : Names) → (a ≡ b) ⊎ (a ≢ b)
names_tell a b = elim (names_eq_tells a b) [ inl t ↦ inl t.1 | inr t ↦ inr t.1 ]

pub spot_off : (r : Root) (a b : Names) → a ≢ b → spot_eq (record { root = r; names = a }) (record { root = r; names = b }) ≡ false
spot_off r a b ne = elim (spot_eq_tells (record { root = r; names = a }) (record { root = r; names = b })) [ inl s ↦ absurd (ne (ap (λ (s : Spot). s.names) s.1)) | inr s ↦ s.0 ]

pub nothing_there : (s : Spot) → without_manifest (λ x. none) s ≡ none
unfolding without_manifest
nothing_there s = by_test (spot_eq s manifest_spot)
  where
    by_test : (b : Bool) → (if b then none else none) ≡ none
    by_test true = refl
    by_test false = refl

pub empty : (ys : Names) (name : List ℕ) (rest : Names) → [] ≡ ys ++ name ∷ rest → ⊥
empty [] name rest e = cc
empty (y ∷ ys) name rest e = cc

pub tail_is : (x y : List ℕ) (xs ys : Names) → x ∷ xs ≡ y ∷ ys → xs ≡ ys
tail_is x y xs ys e = cc

pub head_is : (x y : List ℕ) (xs ys : Names) → x ∷ xs ≡ y ∷ ys → x ≡ y
head_is x y xs ys e = cc

-- where the folders above each file are there already, and nothing is an own folder, the folders stay
module _ (old : Disk) (new : Desk) (own : own_of (manifest_of old) ≡ []) (above : (x s : Spot) (n : ℕ) → lies new x ≡ file n → IsBelow s x → old.folders s ≡ true) where
  no_need : (s : Spot) → IsNeeded old new s → ⊥
  no_need s h = let t : true ≡ false = sym (above h.place s h.number h.there h.below) ∙ h.missing in cc

  no_own : (s : Spot) → IsOwnOrNeeded old new s → ⊥
  no_own s (inl o) = contains_none o.path (subst (λ ps. Contains ps o.path) own o.listed)
  no_own s (inr h) = no_need s h.1

  pub folders-stay : ((s : Spot) → (new.folders s ↔ IsUsers s.root × (old.folders s ≡ true))) → FolderRule old new
  folders-stay same s = let f = same s in (
    λ h. let k = f.0 h in (k.0, inl k.1, λ goes. no_own s goes.own),
    λ h. f.1 (h.0, elim h.1 [ inl there ↦ there | inr needed ↦ absurd (no_need s needed) ]),
  )

  pub own-stays : own_of new.manifest ≡ [] → OwnRule old new
  unfolding IsStrictlySortedBy
  own-stays none_own = record {
    folders = λ path. (λ c. absurd (contains_none path (subst (λ ps. Contains ps path) none_own c)), λ h. absurd (no_own _ h.0));
    order = subst (IsStrictlySortedBy (slice_cmp nat_cmp)) (sym none_own) tt;
  }

-- What stands aside

never_both : (o : Option Spot) (x : Spot) → o ≡ None → o ≡ Some x → ⊥
never_both o x a b = let t : None ≡ Some x = sym a ∙ b in cc

one_is : decimal 1 ≡ codes "1"
one_is = decimal-digits_of 1 (omega arith) (omega arith)

-- below the first number a file of `stage` and a file of `game` stand aside, or none
module _ (staged found : Names) (v w : Value) (kept : Option Spot → Value)
    (nowhere : kept None ≡ none)
    (of_stage : (q : Names) → kept (Some (record { root = Stage; names = q })) ≡ (if names_eq q staged then v else none))
    (of_game : (q : Names) → kept (Some (record { root = Game; names = q })) ≡ (if names_eq q found then w else none))
    (of_keep : (q : Names) → kept (Some (record { root = Keep; names = q })) ≡ none) where
  abbrev at : Names → Value
  at p = if names_eq p (codes "1" ∷ codes "stage" ∷ staged) then v else if names_eq p (codes "1" ∷ codes "game" ∷ found) then w else none

  by_root : (p : Names) (r : Root) (q : Names) → p ≡ codes "1" ∷ root_word r ∷ q → kept (Some (record { root = r; names = q })) ≡ at p
  by_root p Game q e = of_game q ∙ ap at (sym e)
  by_root p Stage q e = of_stage q ∙ ap at (sym e)
  by_root p Keep q e = of_keep q ∙ ap at (sym e)

  pub asides-right : (p : Names) → kept (origin_of 1 (in_aside p)) ≡ at p
  asides-right p = by_origin (origin_of 1 (in_aside p)) refl
    where
      named : (r : Root) (q : Names) → origin_of 1 (in_aside (codes "1" ∷ root_word r ∷ q)) ≡ Some (record { root = r; names = q })
      named r q = ap (λ n. origin_of 1 (in_aside (n ∷ root_word r ∷ q))) (sym one_is) ∙ origin_of-aside 1 (record { root = r; names = q })

      other : (r : Root) (q : Names) → origin_of 1 (in_aside p) ≡ None → p ≢ codes "1" ∷ root_word r ∷ q
      other r q e is = never_both (origin_of 1 (in_aside p)) (record { root = r; names = q }) e (ap (λ n. origin_of 1 (in_aside n)) is ∙ named r q)

      by_origin : (o : Option Spot) → origin_of 1 (in_aside p) ≡ o → kept o ≡ at p
      by_origin None e =
          let one = names_off p (codes "1" ∷ codes "stage" ∷ staged) (other Stage staged e) in
          let two = names_off p (codes "1" ∷ codes "game" ∷ found) (other Game found e) in
          nowhere ∙ sym (λ i. if one i then v else if two i then w else none)
      by_origin (Some x) e =
          let names = ap (λ (y : Spot). y.names) (aside-origin_of 1 (in_aside p) x e) in
          by_root p x.root x.names (tail_is (codes "aside") (codes "aside") p _ names ∙ ap (λ n. n ∷ root_word x.root ∷ x.names) one_is)
