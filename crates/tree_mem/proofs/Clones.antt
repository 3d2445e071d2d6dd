-- Clones of maps hold the same.
use Rattle.std.proofs.Common.{◌≡◌, ℕ, List, [], ◌∷◌, refl, ap, ◌∙◌, IfOk}
use Rattle.std.specs.List.{AllZip, list_all}
use Rattle.std.specs.BTreeMap.{BTreeMap, is_at}
use Rattle.std.specs.Cmp.Lexicographic.{slice_cmp, pointwise}
use Rattle.std.specs.Ordering.{nat_cmp, is_eq}
use Rattle.std.specs.Option.{MatchOption, IsSomeAnd}
use Rattle.std.specs.Result.{MatchResult}
use Rattle.std.specs.Str.{bytes_eq}
use Rattle.std.specs.String.{string_bytes}
use Rattle.std.specs.declared.alloc.Global.{Global}
use Rattle.std.specs.declared.option.Option.{Option}
use Rattle.std.specs.declared.option.Option.TheVariants.{None, Some}
use Rattle.std.specs.declared.result.Result.{Result}
use Rattle.std.specs.declared.result.Result.TheVariants.{Ok, Err}
use Rattle.std.specs.declared.string.String.{String}
use Rattle.std.proofs.lemmas.Map.Entries.{lookup_clone}
use Rattle.tree_fs.specs.EntryName.{is_entry_name}
use Rattle.tree_fs.specs.Spot.{front_names}
use Rattle.tree_mem.specs.declared.entries.Entries.{Entries}
use Rattle.tree_mem.specs.Keys.{AreNames, SameTexts, folder_names, last_name}
use Rattle.tree_mem.specs.Items.{Folders, entry_in, entries_at, SameItems}
use Rattle.tree_mem.proofs.Names.{both, joint}

-- the keys have the same bytes, and D ties the values
abbrev pub SameKeys : {X : Type 0} → (X → X → Type 0) → List (String Global × X) → List (String Global × X) → Type 0
SameKeys D = AllZip (λ p q. (string_bytes q.0 ≡ string_bytes p.0) × D p.1 q.1)

pub AreNames-clone : {X : Type 0} (D : X → X → Type 0) (es fs : List (String Global × X)) → SameKeys D es fs → AreNames es → AreNames fs
AreNames-clone D [] [] h names = refl
AreNames-clone D [] (f ∷ fs) h names = absurd h
AreNames-clone D (e ∷ es) [] h names = absurd h
AreNames-clone D (e ∷ es) (f ∷ fs) h names =
    let parts = both (is_entry_name (string_bytes e.0)) (list_all (λ x. is_entry_name (string_bytes x.0)) es) names in
    joint (is_entry_name (string_bytes f.0)) (list_all (λ x. is_entry_name (string_bytes x.0)) fs) (ap is_entry_name h.0.0 ∙ parts.0) (AreNames-clone D es fs h.1 parts.1)

same_value : {X : Type 0} (D : X → X → Type 0) → ((v w : X) → D v w → w ≡ v) → (o p : Option X) → MatchOption o (p ≡ None) (λ v. IsSomeAnd p (D v)) → p ≡ o
same_value D same None p h = h
same_value D same (Some v) None h = absurd h
same_value D same (Some v) (Some w) h = ap Some (same v w h)

pub SameTexts-clone : {X : Type 0} (D : X → X → Type 0) → ((v w : X) → D v w → w ≡ v) → (m n : BTreeMap (String Global) X) → SameKeys D m.entries n.entries → SameTexts m n
SameTexts-clone D same m n h = λ name.
    same_value D same _ _ (lookup_clone (λ x y. string_bytes y ≡ string_bytes x) D (is_at (λ k. slice_cmp nat_cmp name (string_bytes k))) (λ x y e. ap (λ b. is_eq (slice_cmp nat_cmp name b)) e) m.entries n.entries h)

same_entry : (o p : Option Entries) (name : List ℕ) → MatchOption o (p ≡ None) (λ v. IsSomeAnd p (λ w. SameTexts v.items w.items)) → entry_in p name ≡ entry_in o name
same_entry None p name h = ap (λ q. entry_in q name) h
same_entry (Some v) None name h = absurd h
same_entry (Some v) (Some w) name h = h name

SameItems-clone : (m n : Folders) → SameKeys (λ (v w : Entries). SameTexts v.items w.items) m.entries n.entries → SameItems m n
SameItems-clone m n h [] = refl
SameItems-clone m n h (y ∷ ys) =
    let front = front_names (y ∷ ys) in
    same_entry (entries_at m front) (entries_at n front) (last_name (y ∷ ys))
    (lookup_clone (λ x z. string_bytes z ≡ string_bytes x) (λ (v w : Entries). SameTexts v.items w.items) (λ k. pointwise bytes_eq front (folder_names (string_bytes k))) (λ x z e. ap (λ b. pointwise bytes_eq front (folder_names b)) e) m.entries
    n.entries
    h)

pub cloned : {E : Type 0} (P : E → Type 0) (m : Folders) (r : Result Folders E) → MatchResult r (λ n. SameKeys (λ (v w : Entries). SameTexts v.items w.items) m.entries n.entries) P → IfOk r (SameItems m)
cloned P m (Ok n) h = SameItems-clone m n h
cloned P m (Err e) h = tt
