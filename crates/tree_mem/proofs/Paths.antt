-- What lies at a path, after one folder's entries were written.
use Rattle.std.proofs.Common.{◌≡◌, ◌≢◌, ◌⊎◌, inl, inr, ℕ, Bool, true, false, List, [], ◌∷◌, ◌++◌, refl, sym, ap, subst, ◌∙◌, OnOk, OnErr}
use Rattle.std.specs.Bool.{Decides}
use Rattle.std.specs.BTreeMap.{UpdatesBy, Updates, get_by_text, is_at}
use Rattle.std.specs.Map.{lookup, KeepsOthers}
use Rattle.std.specs.Cmp.Lexicographic.{slice_cmp, pointwise}
use Rattle.std.specs.Ordering.{nat_cmp, is_eq}
use Rattle.std.specs.Str.{bytes_eq}
use Rattle.std.specs.String.{string_bytes, string_cmp}
use Rattle.std.specs.declared.alloc.Global.{Global}
use Rattle.std.specs.declared.option.Option.{Option}
use Rattle.std.specs.declared.option.Option.TheVariants.{None, Some}
use Rattle.std.specs.declared.result.Result.{Result}
use Rattle.std.specs.declared.result.Result.TheVariants.{Ok, Err}
use Rattle.std.specs.declared.string.String.{String}
use Rattle.std.proofs.lemmas.Bool.{false_from_ne_true}
use Rattle.std.proofs.lemmas.Bool.Decides.{same_from_decides, Decides-like}
use Rattle.std.proofs.lemmas.Map.Text.{is_eq-slice_cmp}
use Rattle.std.proofs.lemmas.Slice.Eq.{bytes_eq-Decides, slice_eq-Decides}
use Rattle.rel_paths.specs.Names.{names_of}
use Rattle.rel_paths.proofs.NamesOf.{has_names, same_text}
use Rattle.tree_fs.specs.Spot.{front_names}
use Rattle.tree_mem.specs.declared.entries.Item.{Item}
use Rattle.tree_mem.specs.declared.entries.Entries.{Entries}
use Rattle.tree_mem.specs.Keys.{folder_names, last_name, Changes}
use Rattle.tree_mem.specs.Items.{Folders, entry_in, entries_at, item_in, Sets, SameItems}

-- texts with the same names as folders are the same
same_folder : (f g : List ℕ) → folder_names f ≡ folder_names g → f ≡ g
unfolding folder_names
same_folder [] [] e = refl
same_folder [] (c ∷ cs) e = let r = has_names (c ∷ cs) in let h : [] ≡ r.0 ∷ r.1 = e ∙ r.2 in let none : ⊥ = cc in absurd none
same_folder (b ∷ bs) [] e = let r = has_names (b ∷ bs) in let h : [] ≡ r.0 ∷ r.1 = sym e ∙ r.2 in let none : ⊥ = cc in absurd none
same_folder (b ∷ bs) (c ∷ cs) e = same_text (b ∷ bs) (c ∷ cs) e

names_eq-Decides : (xs ys : List (List ℕ)) → Decides (pointwise bytes_eq xs ys) (xs ≡ ys)
names_eq-Decides xs ys = slice_eq-Decides bytes_eq-Decides xs ys (pointwise bytes_eq xs ys) refl

-- the test by names is the test by text
pub test_same : (f g : List ℕ) → pointwise bytes_eq (folder_names f) (folder_names g) ≡ is_eq (slice_cmp nat_cmp f g)
test_same f g =
    same_from_decides {P = f ≡ g} _ _ (Decides-like _ (same_folder f g) (ap folder_names) (names_eq-Decides (folder_names f) (folder_names g))) (bytes_eq-Decides f g)
    ∙ sym (is_eq-slice_cmp f g)

pub entries_at-text : (fs : Folders) (f : List ℕ) → entries_at fs (folder_names f) ≡ get_by_text fs f
entries_at-text fs f = ap (λ (t : String Global → Bool). lookup t fs.entries) (λ i k. test_same f (string_bytes k) i)

pub front-snoc : (xs : List (List ℕ)) (n : List ℕ) → front_names (xs ++ n ∷ []) ≡ xs
front-snoc [] n = refl
front-snoc (x ∷ []) n = refl
front-snoc (x ∷ y ∷ ys) n = ap (λ l. x ∷ l) (front-snoc (y ∷ ys) n)

pub last-snoc : (xs : List (List ℕ)) (n : List ℕ) → last_name (xs ++ n ∷ []) ≡ n
last-snoc [] n = refl
last-snoc (x ∷ []) n = refl
last-snoc (x ∷ y ∷ ys) n = last-snoc (y ∷ ys) n

pub snoc_of : (x : List ℕ) (xs : List (List ℕ)) → x ∷ xs ≡ front_names (x ∷ xs) ++ last_name (x ∷ xs) ∷ []
snoc_of x [] = refl
snoc_of x (y ∷ ys) = ap (λ l. x ∷ l) (snoc_of y ys)

pub item_in-snoc : (fs : Folders) (xs : List (List ℕ)) (n : List ℕ) → item_in fs (xs ++ n ∷ []) ≡ entry_in (entries_at fs xs) n
item_in-snoc fs [] n = refl
item_in-snoc fs (x ∷ xs) n = λ i. entry_in (entries_at fs (front-snoc (x ∷ xs) n i)) (last-snoc (x ∷ xs) n i)

-- an item in the folder with this text
pub item_in-folder : (fs : Folders) (f n : List ℕ) → item_in fs (folder_names f ++ n ∷ []) ≡ entry_in (get_by_text fs f) n
item_in-folder fs f n = item_in-snoc fs (folder_names f) n ∙ ap (λ o. entry_in o n) (entries_at-text fs f)

-- n is m with these entries at the folder with this text
abbrev pub IsUpdate : Folders → Folders → List ℕ → Option Entries → Type 0
IsUpdate m n f w = UpdatesBy string_cmp (λ k. slice_cmp nat_cmp f (string_bytes k)) m n w

-- a folder that the update leaves alone
entries_at-other : (m n : Folders) (f : List ℕ) (w : Option Entries) → IsUpdate m n f w → (xs : List (List ℕ)) → xs ≢ folder_names f → entries_at n xs ≡ entries_at m xs
unfolding KeepsOthers
entries_at-other m n f w u xs ne =
    u.3 (λ k. pointwise bytes_eq xs (folder_names (string_bytes k)))
    (λ x y t. let at : xs ≡ folder_names (string_bytes x) = (names_eq-Decides xs (folder_names (string_bytes x))).0 t in ap (λ l. pointwise bytes_eq l (folder_names (string_bytes y))) at ∙ test_same (string_bytes x) (string_bytes y))
    (λ k t. let at : f ≡ string_bytes k = (bytes_eq-Decides f (string_bytes k)).0 (sym (is_eq-slice_cmp f (string_bytes k)) ∙ t) in
    false_from_ne_true _ (λ s. ne ((names_eq-Decides xs (folder_names (string_bytes k))).0 s ∙ ap folder_names (sym at))))

-- where the names are cut at the folder, or not
cut_there : (xs : List (List ℕ)) (f : List ℕ) → (xs ≡ folder_names f) ⊎ (xs ≢ folder_names f)
cut_there xs f = by_test (pointwise bytes_eq xs (folder_names f)) refl
  where
    by_test : (b : Bool) → pointwise bytes_eq xs (folder_names f) ≡ b → (xs ≡ folder_names f) ⊎ (xs ≢ folder_names f)
    by_test true t = inl ((names_eq-Decides xs (folder_names f)).0 t)
    by_test false t = inr (λ e. let s : pointwise bytes_eq xs (folder_names f) ≡ true = (names_eq-Decides xs (folder_names f)).1 e in let none : ⊥ = cc in none)

-- what an update of one folder's entries leaves at each path
after_update : (m n : Folders) (f : List ℕ) (w : Option Entries) → IsUpdate m n f w → (P : List (List ℕ) → Option Item → Type 0)
    → ((x : List ℕ) → P (folder_names f ++ x ∷ []) (entry_in w x)) → ((ns : List (List ℕ)) → P ns (item_in m ns)) → (ns : List (List ℕ)) → P ns (item_in n ns)
after_update m n f w u P here out [] = out []
after_update m n f w u P here out (y ∷ ys) =
    let xs = front_names (y ∷ ys) in
    let x = last_name (y ∷ ys) in
    elim (cut_there xs f) [
      | inl e ↦ subst (λ o. P (y ∷ ys) o) (sym (ap (λ l. entry_in (entries_at n l) x) e ∙ ap (λ o. entry_in o x) (entries_at-text n f ∙ u.1)))
          (subst (λ l. P l (entry_in w x)) (ap (λ l. l ++ x ∷ []) (sym e) ∙ sym (snoc_of y ys)) (here x))
      | inr ne ↦ subst (λ o. P (y ∷ ys) o) (sym (ap (λ o. entry_in o x) (entries_at-other m n f w u xs ne))) (out (y ∷ ys))
    ]

-- one item set in a folder's entries
pub Sets-from_update : (m n : Folders) (f name : List ℕ) (w : Option Entries) (item : Option Item) → IsUpdate m n f w
    → entry_in w name ≡ item → ((x : List ℕ) → x ≢ name → entry_in w x ≡ entry_in (get_by_text m f) x) → Sets m n (folder_names f ++ name ∷ []) item
Sets-from_update m n f name w item u here others = record {
  here = item_in-folder n f name ∙ ap (λ o. entry_in o name) u.1 ∙ here;
  others = after_update m n f w u (λ ns o. ns ≢ folder_names f ++ name ∷ [] → o ≡ item_in m ns)
      (λ x ne. others x (λ e. ne (ap (λ y. folder_names f ++ y ∷ []) e)) ∙ sym (item_in-folder m f x)) (λ ns ne. refl);
}

-- entries that were written as they were
pub SameItems-from_update : (m n : Folders) (f : List ℕ) (w : Option Entries) → IsUpdate m n f w → ((x : List ℕ) → entry_in w x ≡ entry_in (get_by_text m f) x) → SameItems m n
SameItems-from_update m n f w u same = after_update m n f w u (λ ns o. o ≡ item_in m ns) (λ x. same x ∙ sym (item_in-folder m f x)) (λ ns. refl)

-- a look-up by the parts of a text
pub found : (fs : Folders) (text f n : List ℕ) (o : Option Entries) → names_of text ≡ folder_names f ++ n ∷ [] → o ≡ get_by_text fs f → item_in fs (names_of text) ≡ entry_in o n
found fs text f n o names e = ap (item_in fs) names ∙ item_in-folder fs f n ∙ ap (λ x. entry_in x n) (sym e)

-- an item put into a folder that had entries, or not
pub put_some : {A E : Type 0} (r : Result A E) (m n : Folders) (text f name : List ℕ) (old new : Entries) (item : Option Item) → names_of text ≡ folder_names f ++ name ∷ []
    → Some old ≡ get_by_text m f → IsUpdate m n f (Some new) → OnOk r (Changes old.items new.items name item) → OnOk r (Sets m n (names_of text) item)
put_some (Ok a) m n text f name old new item names had u h =
    subst (λ ns. Sets m n ns item) (sym names) (Sets-from_update m n f name (Some new) item u h.here (λ x ne. h.others x ne ∙ ap (λ o. entry_in o x) had))
put_some (Err e) m n text f name old new item names had u h = tt

pub put_back : {A E : Type 0} (r : Result A E) (m n : Folders) (f : List ℕ) (old new : Entries) → Some old ≡ get_by_text m f → IsUpdate m n f (Some new) → OnErr r (new.items.entries ≡ old.items.entries) → OnErr r (SameItems m n)
put_back (Ok a) m n f old new had u h = tt
put_back (Err e) m n f old new had u h =
    SameItems-from_update m n f (Some new) u (λ x. ap (λ es. lookup (is_at (λ k. slice_cmp nat_cmp x (string_bytes k))) es) h ∙ ap (λ o. entry_in o x) had)

pub put_first : (m n : Folders) (text f name : List ℕ) (empty new : Entries) (item : Option Item) → names_of text ≡ folder_names f ++ name ∷ []
    → None ≡ get_by_text m f → IsUpdate m n f (Some new) → empty.items.entries ≡ [] → Changes empty.items new.items name item → Sets m n (names_of text) item
put_first m n text f name empty new item names had u none h =
    subst (λ ns. Sets m n ns item) (sym names) (Sets-from_update m n f name (Some new) item u h.here
    (λ x ne. h.others x ne ∙ ap (λ es. lookup (is_at (λ k. slice_cmp nat_cmp x (string_bytes k))) es) none ∙ ap (λ o. entry_in o x) had))

pub update_at : (m old n : Folders) (key : String Global) (f : List ℕ) (w : Option Entries) → old ≡ m → string_bytes key ≡ f → Updates string_cmp old n key w → IsUpdate m n f w
update_at m old n key f w same text u = subst (λ d. IsUpdate d n f w) same (subst (λ t. IsUpdate old n t w) text u)

-- nothing lies where the folder has no entries
pub set_nothing : (m n : Folders) (text f name : List ℕ) → names_of text ≡ folder_names f ++ name ∷ [] → None ≡ get_by_text m f → n ≡ m → Sets m n (names_of text) None
set_nothing m n text f name names none same =
    subst (λ x. Sets m x (names_of text) None) (sym same) record { here = found m text f name None names none; others = λ ns ne. refl }
