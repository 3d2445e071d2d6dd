-- The places of files that are kept: each is that of one origin, and none is that of a row.
use Rattle.std.proofs.Common.{◌≡◌, ◌≢◌, ◌⊎◌, ℕ, ◌+◌, ◌<◌, ◌≤◌, ◌^◌, Bool, true, false, ◌&&◌, if◌then◌else◌, List, [], ◌∷◌, ◌++◌, length, refl, sym, ap, ◌∙◌, subst, inl, inr, codes, lit<, arith}
use Rattle.std.specs.Fmt.{decimal}
use Rattle.std.specs.Option.{option_map}
use Rattle.std.specs.Str.{bytes_eq}
use Rattle.std.specs.declared.option.Option.{Option}
use Rattle.std.specs.declared.option.Option.TheVariants.{None, Some}
use Rattle.std.proofs.lemmas.Slice.Eq.{bytes_eq-Decides}
use Rattle.std.proofs.lemmas.Fmt.{decimal_injective}
use Rattle.rel_paths.specs.Names.{names_of, backup_names, IsFreePath, is_reserved}
use Rattle.rel_paths.proofs.Backups.{same_backup, is_reserved-backup, is_reserved-below}
use Rattle.tree_fs.specs.declared.place.Root.{Root}
use Rattle.tree_fs.specs.declared.place.Root.TheVariants.{Stage, Game, Keep}
use Rattle.tree_fs.specs.Spot.{Spot, root_eq, IsBelow}
use Rattle.tree_fs.specs.Places.{game_spot}
use Rattle.tree_fs.specs.Texts.{root_word, root_named}
use Rattle.tree_fs.proofs.Spots.{root_eq-Decides}
use Rattle.backup_keep.specs.Places.{backup_spot, aside_spot}
use Rattle.backup_keep.specs.Origins.{named_origin, origin_of}

-- a backup is that of one path
pub backup_spot-same : (p q : List ℕ) → backup_spot p ≡ backup_spot q → p ≡ q
backup_spot-same p q e = same_backup p q (ap (λ s. s.names) e)

free_not_reserved : (t : Bool) → t ≡ true → t ≡ false → ⊥
free_not_reserved t yes_so not_so = let wrong : true ≡ false = sym yes_so ∙ not_so in cc

-- no backup is where a row's file is deployed: the paths of rows aren't reserved
pub backup-not_row : (p q : List ℕ) → IsFreePath q → backup_spot p ≢ game_spot q
backup-not_row p q free e =
    free_not_reserved (is_reserved (names_of q)) (ap is_reserved (sym (ap (λ s. s.names) e)) ∙ is_reserved-backup p) free.1

-- and no row's file lies below a backup
pub row-not_below_backup : (p q : List ℕ) → IsFreePath q → ¬ IsBelow (backup_spot p) (game_spot q)
row-not_below_backup p q free b =
    free_not_reserved (is_reserved (names_of q)) (ap is_reserved b.names ∙ is_reserved-below (backup_names (names_of p)) (b.name ∷ b.rest) (is_reserved-backup p)) free.1

word-named : (r : Root) → root_named (root_word r) ≡ Some r
word-named Stage = refl
word-named Game = refl
word-named Keep = refl

-- what is set aside is named after the place that it is set aside from
pub origin_of-aside : (n : ℕ) (x : Spot) → origin_of n (aside_spot n x) ≡ Some x
origin_of-aside n x =
    let number : bytes_eq (decimal n) (decimal n) ≡ true = (bytes_eq-Decides (decimal n) (decimal n)).1 refl in
    (λ i. if number i then option_map (λ root. record { root = root; names = x.names }) (root_named (root_word x.root)) else None)
    ∙ ap (option_map (λ root. record { root = root; names = x.names })) (word-named x.root)

named-word : (word : List ℕ) (r : Root) → root_named word ≡ Some r → word ≡ root_word r
named-word word r e = by (bytes_eq word (root_word Stage)) refl (bytes_eq word (root_word Game)) refl (bytes_eq word (root_word Keep)) refl e
  where
    text : (s : Root) → bytes_eq word (root_word s) ≡ true → word ≡ root_word s
    text s t = (bytes_eq-Decides word (root_word s)).0 t

    by : (a : Bool) → bytes_eq word (root_word Stage) ≡ a → (b : Bool) → bytes_eq word (root_word Game) ≡ b → (c : Bool) → bytes_eq word (root_word Keep) ≡ c → (if a then Some Stage else (if b then Some Game else (if c then Some Keep else None))) ≡ Some r → word ≡ root_word r
    by true a b f c g h = let same : Stage ≡ r = cc in text Stage a ∙ ap root_word same
    by false a true f c g h = let same : Game ≡ r = cc in text Game f ∙ ap root_word same
    by false a false f true g h = let same : Keep ≡ r = cc in text Keep g ∙ ap root_word same
    by false a false f false g h = let wrong : None ≡ Some r = h in absurd (cc)

-- and a place that is named after another is where that one is set aside
pub aside-origin_of : (n : ℕ) (y x : Spot) → origin_of n y ≡ Some x → y ≡ aside_spot n x
aside-origin_of n y x e = by_root y.root y.names refl e
  where
    by_names : (names : List (List ℕ)) → named_origin n names ≡ Some x → names ≡ codes "aside" ∷ decimal n ∷ root_word x.root ∷ x.names
    by_names [] h = let wrong : None ≡ Some x = h in absurd (cc)
    by_names (a ∷ []) h = let wrong : None ≡ Some x = h in absurd (cc)
    by_names (a ∷ b ∷ []) h = let wrong : None ≡ Some x = h in absurd (cc)
    by_names (a ∷ b ∷ word ∷ names) h = by_tests (bytes_eq a (codes "aside")) refl (bytes_eq b (decimal n)) refl h
      where
        by_word : (o : Option Root) → root_named word ≡ o → option_map (λ root. record { root = root; names = names }) o ≡ Some x → word ∷ names ≡ root_word x.root ∷ x.names
        by_word None is g = let wrong : None ≡ Some x = g in absurd (cc)
        by_word (Some r) is g =
            let same : record { root = r; names = names } ≡ x = cc in
            λ i. (named-word word r is ∙ ap (λ s. root_word s.root) same) i ∷ ap (λ s. s.names) same i

        by_tests : (s : Bool) → bytes_eq a (codes "aside") ≡ s → (t : Bool) → bytes_eq b (decimal n) ≡ t → (if s && t then option_map (λ root. record { root = root; names = names }) (root_named word) else None) ≡ Some x → a ∷ b ∷ word ∷ names ≡ codes "aside" ∷ decimal n ∷ root_word x.root ∷ x.names
        by_tests true s true t g = λ i. (bytes_eq-Decides a (codes "aside")).0 s i ∷ (bytes_eq-Decides b (decimal n)).0 t i ∷ by_word (root_named word) refl g i
        by_tests true s false t g = let wrong : None ≡ Some x = g in absurd (cc)
        by_tests false s t f g = let wrong : None ≡ Some x = g in absurd (cc)

    by_root : (r : Root) (names : List (List ℕ)) → r ≡ y.root → (if root_eq r Keep then named_origin n names else None) ≡ Some x → record { root = r; names = names } ≡ aside_spot n x
    by_root Keep names is h = λ i. record { root = Keep; names = by_names names h i }
    by_root Stage names is h = let wrong : None ≡ Some x = h in absurd (cc)
    by_root Game names is h = let wrong : None ≡ Some x = h in absurd (cc)

-- two files are set aside at one place only where they come from one and under one number
pub aside_spot-same : (m n : ℕ) (x y : Spot) → m < 2 ^ 64 → n < 2 ^ 64 → aside_spot m x ≡ aside_spot n y → (m ≡ n) × (x ≡ y)
aside_spot-same m n x y h k e =
    let number : m ≡ n = decimal_injective m n h k (second (ap (λ s. s.names) e)) in
    (number, value (sym (origin_of-aside m x) ∙ ap (origin_of m) e ∙ (λ i. origin_of (number i) (aside_spot n y)) ∙ origin_of-aside n y))
  where
    second : codes "aside" ∷ decimal m ∷ root_word x.root ∷ x.names ≡ codes "aside" ∷ decimal n ∷ root_word y.root ∷ y.names → decimal m ≡ decimal n
    second f = cc

    value : Some x ≡ Some y → x ≡ y
    value f = cc
