-- Spots: when two are one, what lies in a folder.
use Rattle.std.proofs.Common.{◌≡◌, ◌≢◌, ◌⊎◌, ℕ, Bool, true, false, List, [], ◌∷◌, ◌++◌, refl, sym, ap, ◌∙◌, inl, inr, append-nil}
use Rattle.std.specs.Bool.{Decides}
use Rattle.std.specs.declared.option.Option.{Option}
use Rattle.std.specs.declared.option.Option.TheVariants.{None, Some}
use Rattle.std.proofs.lemmas.Bool.Decides.{Decides-and, Decides-like}
use Rattle.std.proofs.lemmas.List.{append_cancel_left}
use Rattle.std.proofs.lemmas.Slice.Eq.{slice_eq-Decides, bytes_eq-Decides}
use Rattle.std.proofs.lemmas.Bool.{and_parts}
use Rattle.list_laws.proofs.Truths.{tells}
use Rattle.rel_paths.specs.Names.{names_of}
use Rattle.rel_paths.proofs.NamesOf.{has_names, same_text}
use Rattle.tree_fs.specs.declared.place.Place.{Place}
use Rattle.tree_fs.specs.declared.place.Root.{Root}
use Rattle.tree_fs.specs.declared.place.Root.TheVariants.{Stage, Game, Keep}
use Rattle.tree_fs.specs.Spot.{Spot, names_below, spot_of, root_spot, root_eq, spot_eq, front_names, has_some, parent, is_entry, below}

root_eq-true : (r s : Root) → root_eq r s ≡ true → r ≡ s
root_eq-true Stage Stage e = refl
root_eq-true Game Game e = refl
root_eq-true Keep Keep e = refl
root_eq-true Stage Game e = cc
root_eq-true Stage Keep e = cc
root_eq-true Game Stage e = cc
root_eq-true Game Keep e = cc
root_eq-true Keep Stage e = cc
root_eq-true Keep Game e = cc

pub root_eq-same : (r : Root) → root_eq r r ≡ true
root_eq-same Stage = refl
root_eq-same Game = refl
root_eq-same Keep = refl

pub root_eq-Decides : (r s : Root) → Decides (root_eq r s) (r ≡ s)
root_eq-Decides r s = (root_eq-true r s, λ e. ap (root_eq r) (sym e) ∙ root_eq-same r)

-- each test with what it tells, for `grind`
pub root_eq_tells : (r s : Root) → ((root_eq r s ≡ true) × (r ≡ s)) ⊎ ((root_eq r s ≡ false) × (r ≢ s))
root_eq_tells r s = tells _ (root_eq-Decides r s)

pub spot_eq-Decides : (p q : Spot) → Decides (spot_eq p q) (p ≡ q)
unfolding spot_eq
spot_eq-Decides p q =
    Decides-like _ (λ both i. record { root = both.0 i; names = both.1 i }) (λ e. (ap (λ s. s.root) e, ap (λ s. s.names) e))
    (Decides-and _ _ (root_eq-Decides p.root q.root) (slice_eq-Decides bytes_eq-Decides p.names q.names _ refl))

pub spot_eq-same : (p : Spot) → spot_eq p p ≡ true
spot_eq-same p = (spot_eq-Decides p p).1 refl

pub spot_eq-true : (p q : Spot) → spot_eq p q ≡ true → p ≡ q
spot_eq-true p q e = (spot_eq-Decides p q).0 e

pub spot_eq_tells : (p q : Spot) → ((spot_eq p q ≡ true) × (p ≡ q)) ⊎ ((spot_eq p q ≡ false) × (p ≢ q))
spot_eq_tells p q = tells _ (spot_eq-Decides p q)

pub same_or_other : (p q : Spot) → (p ≡ q) ⊎ (p ≢ q)
same_or_other p q = elim (spot_eq_tells p q) [ inl s ↦ inl s.1 | inr s ↦ inr s.1 ]

pub same_spot : (p q : Spot) → p.root ≡ q.root → p.names ≡ q.names → p ≡ q
same_spot p q r n = λ i. record { root = r i; names = n i }

-- all names but the last, and the last
front-snoc : (xs : List (List ℕ)) (n : List ℕ) → front_names (xs ++ n ∷ []) ≡ xs
front-snoc [] n = refl
front-snoc (x ∷ []) n = refl
front-snoc (x ∷ y ∷ ys) n = ap (λ l. x ∷ l) (front-snoc (y ∷ ys) n)

has_some-snoc : (xs : List (List ℕ)) (n : List ℕ) → has_some (xs ++ n ∷ []) ≡ true
has_some-snoc [] n = refl
has_some-snoc (x ∷ xs) n = refl

last_of : (xs : List (List ℕ)) → has_some xs ≡ true → (n : List ℕ) × (xs ≡ front_names xs ++ n ∷ [])
last_of [] e = absurd (cc)
last_of (x ∷ []) e = (x, refl)
last_of (x ∷ y ∷ ys) e = let rest = last_of (y ∷ ys) refl in (rest.0, ap (λ l. x ∷ l) rest.1)

pub parent-below : (folder : Spot) (name : List ℕ) → parent (below folder name) ≡ folder
unfolding parent
parent-below folder name = λ i. record { root = folder.root; names = front-snoc folder.names name i }

pub parent-root : (r : Root) → parent (root_spot r) ≡ root_spot r
unfolding parent
parent-root r = refl

pub is_entry-below : (folder : Spot) (name : List ℕ) → is_entry folder (below folder name) ≡ true
unfolding is_entry
is_entry-below folder name = rw (has_some-snoc, parent-below) (spot_eq-same folder)

-- a place in a folder is the folder's entry of some name
pub is_entry-name : (folder q : Spot) → is_entry folder q ≡ true → (n : List ℕ) × (q ≡ below folder n)
unfolding is_entry parent
is_entry-name folder q e =
    let both = and_parts (has_some q.names) _ e in
    let last = last_of q.names both.0 in
    let up : parent q ≡ folder = spot_eq-true _ _ both.1 in
    (last.0, same_spot q (below folder last.0) (ap (λ s. s.root) up) (last.1 ∙ ap (λ s. s.names ++ last.0 ∷ []) up))

pub is_entry-parent : (folder q : Spot) → is_entry folder q ≡ true → parent q ≡ folder
is_entry-parent folder q e = let named = is_entry-name folder q e in ap parent named.1 ∙ parent-below folder named.0

pub is_entry-true : (folder q : Spot) → has_some q.names ≡ true → parent q ≡ folder → is_entry folder q ≡ true
unfolding is_entry
is_entry-true folder q some up = rw (some, up) (spot_eq-same folder)

pub is_entry-root : (folder : Spot) (r : Root) → is_entry folder (root_spot r) ≡ false
unfolding is_entry
is_entry-root folder r = refl

-- the entry of some name, or of no name
pub is_entry_tells : (folder q : Spot) → ((is_entry folder q ≡ true) × (parent q ≡ folder) × (has_some q.names ≡ true)) ⊎ ((is_entry folder q ≡ false) × ((n : List ℕ) → q ≢ below folder n))
is_entry_tells folder q = by_test (is_entry folder q) refl
  where
    by_test : (b : Bool) → is_entry folder q ≡ b → ((is_entry folder q ≡ true) × (parent q ≡ folder) × (has_some q.names ≡ true)) ⊎ ((is_entry folder q ≡ false) × ((n : List ℕ) → q ≢ below folder n))
    by_test true e = inl (e, is_entry-parent folder q e, let named = is_entry-name folder q e in ap (λ s. has_some s.names) named.1 ∙ has_some-snoc folder.names named.0)
    by_test false e = inr (e, λ n is. let h : is_entry folder q ≡ true = ap (is_entry folder) is ∙ is_entry-below folder n in cc)

pub below-folder : (f g : Spot) (m n : List ℕ) → below f m ≡ below g n → f ≡ g
below-folder f g m n e = sym (parent-below f m) ∙ ap parent e ∙ parent-below g n

pub below-name : (f g : Spot) (m n : List ℕ) → below f m ≡ below g n → m ≡ n
below-name f g m n e =
    let names : f.names ++ m ∷ [] ≡ g.names ++ n ∷ [] = ap (λ s. s.names) e in
    let same : g.names ++ m ∷ [] ≡ g.names ++ n ∷ [] = ap (λ l. l ++ m ∷ []) (sym (ap (λ s. s.names) (below-folder f g m n e))) ∙ names in
    let one : m ∷ [] ≡ n ∷ [] = append_cancel_left g.names (m ∷ []) (n ∷ []) same in
    cc

-- an entry is not its folder
pub below-apart : (folder : Spot) (name : List ℕ) → below folder name ≢ folder
below-apart folder name e =
    let same : folder.names ++ name ∷ [] ≡ folder.names = ap (λ s. s.names) e in
    let none_left : name ∷ [] ≡ [] = append_cancel_left folder.names (name ∷ []) [] (same ∙ sym (append-nil folder.names)) in
    cc

pub below-not_root : (folder : Spot) (name : List ℕ) (r : Root) → below folder name ≢ root_spot r
below-not_root folder name r e =
    let h : true ≡ false = sym (has_some-snoc folder.names name) ∙ ap (λ s. has_some s.names) e in cc

-- a place is a root, or the entry of some name of its parent
pub root_or_below : (q : Spot) → ((q ≡ root_spot q.root) × (parent q ≡ q)) ⊎ ((n : List ℕ) × (q ≡ below (parent q) n))
root_or_below q = by_names (has_some q.names) refl
  where
    none_there : (ns : List (List ℕ)) → has_some ns ≡ false → ns ≡ []
    none_there [] e = refl
    none_there (x ∷ xs) e = absurd (cc)

    by_names : (b : Bool) → has_some q.names ≡ b → ((q ≡ root_spot q.root) × (parent q ≡ q)) ⊎ ((n : List ℕ) × (q ≡ below (parent q) n))
    by_names true e = inr (is_entry-name (parent q) q (is_entry-true (parent q) q e refl))
    by_names false e =
        let is : q ≡ root_spot q.root = same_spot q (root_spot q.root) refl (none_there q.names e) in
        inl (is, ap parent is ∙ parent-root q.root ∙ sym is)

-- a text has a name, so a path has one
pub not_nameless : (t : List ℕ) → names_of t ≢ []
not_nameless t e = let first = has_names t in cc

same_below : (a b : Option (List ℕ)) → names_below a ≡ names_below b → a ≡ b
same_below None None e = refl
same_below None (Some t) e = absurd (not_nameless t (sym e))
same_below (Some t) None e = absurd (not_nameless t e)
same_below (Some t) (Some u) e = ap Some (same_text t u e)

-- two places that lie at one spot are one
pub same_place : (p q : Place) → spot_of p ≡ spot_of q → p ≡ q
same_place p q e =
    let rel = same_below p.rel q.rel (ap (λ s. s.names) e) in
    let root : p.root ≡ q.root = ap (λ s. s.root) e in
    λ i. record { root = root i; rel = rel i }
