-- The names of a text: they give the text back, and a slash ends one name and begins the next.
use Rattle.std.proofs.Common.{◌≡◌, ℕ, nat_eq, Bool, true, false, cond, List, [], ◌∷◌, ◌++◌, All, refl, sym, ap, ◌∙◌, append_assoc}
use Rattle.std.specs.List.{slice_split, onto_first}
use Rattle.std.proofs.lemmas.List.Elements.{All-head, All-tail}
use Rattle.std.proofs.lemmas.List.Splits.{slice_split-cons_yes, slice_split_none, join_with_byte-slice_split}
use Rattle.rel_paths.specs.Names.{names_of, text_of, joined}

-- a list is never cut into no part
pub has_parts : {X : Type 0} (p : X → Bool) (xs : List X) → (y : List X) × (ys : List (List X)) × (slice_split p xs ≡ y ∷ ys)
has_parts p [] = ([], [], refl)
has_parts p (x ∷ xs) = elim (p x) as (λ b. (y : List _) × (ys : List (List _)) × (cond b ([] ∷ slice_split p xs) (onto_first x (slice_split p xs)) ≡ y ∷ ys)) [
  | true ↦ ([], slice_split p xs, refl)
  | false ↦ let r = has_parts p xs in (x ∷ r.0, r.1, ap (onto_first x) r.2)
]

onto_first-append : {X : Type 0} (x : X) (fs bs : List (List X)) (y : List X) (ys : List (List X)) → fs ≡ y ∷ ys → onto_first x (fs ++ bs) ≡ onto_first x fs ++ bs
onto_first-append x fs bs y ys e = rw e

-- the parts on both sides of a cut
pub slice_split-between : {X : Type 0} (p : X → Bool) (xs : List X) (c : X) (ys : List X) → p c ≡ true → slice_split p (xs ++ c ∷ ys) ≡ slice_split p xs ++ slice_split p ys
slice_split-between p [] c ys h = slice_split-cons_yes p c ys h
slice_split-between p (x ∷ xs) c ys h =
    let ih : slice_split p (xs ++ c ∷ ys) ≡ slice_split p xs ++ slice_split p ys = slice_split-between p xs c ys h in
    let r = has_parts p xs in
    elim (p x) as (λ b. cond b ([] ∷ slice_split p (xs ++ c ∷ ys)) (onto_first x (slice_split p (xs ++ c ∷ ys))) ≡ cond b ([] ∷ slice_split p xs) (onto_first x (slice_split p xs)) ++ slice_split p ys) [
      | true ↦ ap (λ l. [] ∷ l) ih
      | false ↦ ap (onto_first x) ih ∙ onto_first-append x (slice_split p xs) (slice_split p ys) r.0 r.1 r.2
    ]

-- each text has a first name
pub has_names : (text : List ℕ) → (n : List ℕ) × (ns : List (List ℕ)) × (names_of text ≡ n ∷ ns)
has_names text = has_parts (λ b. nat_eq b 47) text

-- the names of two texts with a slash between them
pub names_of-between : (above below : List ℕ) → names_of (above ++ 47 ∷ below) ≡ names_of above ++ names_of below
names_of-between above below = slice_split-between (λ b. nat_eq b 47) above 47 below refl

-- the names give the text back
pub text_of-names_of : (text : List ℕ) → text_of (names_of text) ≡ text
text_of-names_of text = join_with_byte-slice_split 47 text

-- texts with the same names are the same text
pub same_text : (a b : List ℕ) → names_of a ≡ names_of b → a ≡ b
same_text a b e = sym (text_of-names_of a) ∙ ap text_of e ∙ text_of-names_of b

-- the text of names that follow others stands behind a slash
pub text_of-append : (n : List ℕ) (ns : List (List ℕ)) (m : List ℕ) (ms : List (List ℕ)) → text_of ((n ∷ ns) ++ m ∷ ms) ≡ text_of (n ∷ ns) ++ 47 ∷ text_of (m ∷ ms)
text_of-append n [] m ms = refl
text_of-append n (k ∷ ks) m ms = ap (λ t. n ++ 47 ∷ t) (text_of-append k ks m ms) ∙ sym (append_assoc n (47 ∷ text_of (k ∷ ks)) (47 ∷ text_of (m ∷ ms)))

-- the text with the names of both has a slash between the texts
pub joined-text : (above below : List ℕ) → joined above below ≡ above ++ 47 ∷ below
joined-text above below =
    let a = has_names above in
    let b = has_names below in
    ap (λ l. text_of (l ++ names_of below)) a.2
    ∙ ap (λ l. text_of ((a.0 ∷ a.1) ++ l)) b.2
    ∙ text_of-append a.0 a.1 b.0 b.1
    ∙ ap (λ t. t ++ 47 ∷ text_of (b.0 ∷ b.1)) (ap text_of (sym a.2) ∙ text_of-names_of above)
    ∙ ap (λ t. above ++ 47 ∷ t) (ap text_of (sym b.2) ∙ text_of-names_of below)

pub names_of-joined : (above below : List ℕ) → names_of (joined above below) ≡ names_of above ++ names_of below
names_of-joined above below = ap names_of (joined-text above below) ∙ names_of-between above below

-- no byte of the text is a slash
abbrev pub HasNoSlash : List ℕ → Type 0
HasNoSlash text = All (λ b. nat_eq b 47 ≡ false) text

-- a text without a slash is its one name
pub names_of-one : (text : List ℕ) → HasNoSlash text → names_of text ≡ text ∷ []
names_of-one text h = slice_split_none (λ b. nat_eq b 47) text h

-- a text's last name stands behind its last slash
pub names_of-last : (above last : List ℕ) → HasNoSlash last → names_of (above ++ 47 ∷ last) ≡ names_of above ++ last ∷ []
names_of-last above last h = names_of-between above last ∙ ap (λ l. names_of above ++ l) (names_of-one last h)

-- names without slashes are the names of their text
pub names_of-text_of : (n : List ℕ) (ns : List (List ℕ)) → HasNoSlash n → All HasNoSlash ns → names_of (text_of (n ∷ ns)) ≡ n ∷ ns
names_of-text_of n [] h hs = names_of-one n h
names_of-text_of n (m ∷ ms) h hs =
    names_of-between n (text_of (m ∷ ms))
    ∙ ap (λ l. l ++ names_of (text_of (m ∷ ms))) (names_of-one n h)
    ∙ ap (λ l. n ∷ l) (names_of-text_of m ms (All-head HasNoSlash m ms hs) (All-tail HasNoSlash m ms hs))
