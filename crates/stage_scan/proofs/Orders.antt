-- The order of the walk.
use Rattle.std.proofs.Common.{◌≡◌, ℕ, List, [], ◌∷◌, ◌++◌, refl, sym, ap, ◌∙◌, inl, inr, subst, append-nil}
use Rattle.std.specs.Ordering.{nat_cmp, ordering_then, ordering_reverse}
use Rattle.std.specs.Cmp.{IsTotalOrder}
use Rattle.std.specs.Cmp.Lexicographic.{slice_cmp, nat_list_cmp_total}
use Rattle.std.specs.declared.cmp.Ordering.TheVariants.{Less, Equal, Greater}
use Rattle.std.proofs.lemmas.Cmp.{lists_total, tied_itself}
use Rattle.stage_scan.specs.Walks.{walk_cmp, IsEarlier}
use Rattle.stage_scan.specs.Stack.{IsApart}

pub walk_total : IsTotalOrder walk_cmp
walk_total = lists_total nat_list_cmp_total

tie : (x y : List ℕ) → x ≡ y → slice_cmp nat_cmp x y ≡ Equal
tie x y e = ap (slice_cmp nat_cmp x) (sym e) ∙ tied_itself nat_list_cmp_total x

pub apart_earlier : (xs ys : List (List ℕ)) → IsApart xs ys → IsEarlier xs ys
apart_earlier [] ys a = absurd a
apart_earlier (x ∷ xs) [] a = absurd a
apart_earlier (x ∷ xs) (y ∷ ys) (inl e) = ap (λ o. ordering_then o (walk_cmp xs ys)) e
apart_earlier (x ∷ xs) (y ∷ ys) (inr h) = ap (λ o. ordering_then o (walk_cmp xs ys)) (tie x y h.0) ∙ apart_earlier xs ys h.1

-- what lies below them is apart too
pub apart_left : (xs ys more : List (List ℕ)) → IsApart xs ys → IsApart (xs ++ more) ys
apart_left [] ys more a = absurd a
apart_left (x ∷ xs) [] more a = absurd a
apart_left (x ∷ xs) (y ∷ ys) more (inl e) = inl e
apart_left (x ∷ xs) (y ∷ ys) more (inr h) = inr (h.0, apart_left xs ys more h.1)

pub apart_right : (xs ys more : List (List ℕ)) → IsApart xs ys → IsApart xs (ys ++ more)
apart_right [] ys more a = absurd a
apart_right (x ∷ xs) [] more a = absurd a
apart_right (x ∷ xs) (y ∷ ys) more (inl e) = inl e
apart_right (x ∷ xs) (y ∷ ys) more (inr h) = inr (h.0, apart_right xs ys more h.1)

-- two entries of a folder
pub apart_entries : (xs : List (List ℕ)) (a b : List ℕ) → slice_cmp nat_cmp a b ≡ Less → IsApart (xs ++ a ∷ []) (xs ++ b ∷ [])
apart_entries [] a b e = inl e
apart_entries (x ∷ xs) a b e = inr (refl, apart_entries xs a b e)

-- a folder's content comes after it
pub content_later : (xs : List (List ℕ)) (n : List ℕ) (rest : List (List ℕ)) → IsEarlier xs (xs ++ n ∷ rest)
content_later [] n rest = refl
content_later (x ∷ xs) n rest = ap (λ o. ordering_then o (walk_cmp xs (xs ++ n ∷ rest))) (tie x x refl) ∙ content_later xs n rest

pub not_both : (a b : List (List ℕ)) → IsEarlier a b → IsEarlier b a → ⊥
not_both a b l m = let h : Less ≡ Greater = sym l ∙ walk_total.antisymm a b ∙ ap ordering_reverse m in cc

pub not_itself : (a : List (List ℕ)) → IsEarlier a a → ⊥
not_itself a l = not_both a a l l

pub under_not_earlier : (p rest : List (List ℕ)) → IsEarlier (p ++ rest) p → ⊥
under_not_earlier p [] h = not_itself p (subst (λ l. IsEarlier l p) (append-nil p) h)
under_not_earlier p (n ∷ rest) h = not_both p (p ++ n ∷ rest) (content_later p n rest) h
