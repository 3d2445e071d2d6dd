-- How many enabled mods stand before each, and the node of the one that a rule matches.
use Rattle.std.proofs.Common.{◌≡◌, ◌≤◌, ◌<◌, ℕ, ◌+◌, zero, suc, List, [], ◌∷◌, ◌++◌, Bool, true, false, cond, ◌&&◌, None, Some, length, get_or, slice_get, position, add-zero, refl, sym, ap, subst, ◌∙◌, nat_eq, arith}
use Rattle.std.proofs.lemmas.List.Quantifiers.{position-Some}
use Rattle.std.proofs.lemmas.Map.Keys.{IsDistinct-head, IsDistinct-tail}
use Rattle.std.specs.List.{IsDistinct, AllByRecursion}
use Rattle.std.specs.Map.{lookup, keys_of}
use Rattle.std.specs.Str.{bytes_eq}
use Rattle.std.specs.Cmp.Lexicographic.{pointwise, nat_list_eq_equiv, bytes_decides}
use Rattle.profile_toml.specs.Records.{ModData, RuleData}
use Rattle.profile_toml.specs.Releases.{admits}
use Rattle.mod_rules.specs.Nodes.{enabled_of, is_met_by}
use Rattle.mod_rules.specs.Pairs.{counts_before, node_of}

counted : (b : Bool) (n : ℕ) (y : List ℕ × ModData) (rest : List (List ℕ × ModData)) → cond b (n + 1) n + length rest ≡ n + length (cond b (y ∷ rest) rest)
counted true n y rest = omega arith
counted false n y rest = refl

-- one more mod
counts_before-push : (n : ℕ) (ys : List (List ℕ × ModData)) (m : List ℕ × ModData) → counts_before n (ys ++ m ∷ []) ≡ counts_before n ys ++ (n + length (enabled_of ys)) ∷ []
counts_before-push n [] m = ap (λ k. k ∷ []) (sym (add-zero n))
counts_before-push n (y ∷ ys) m =
    ap (λ l. n ∷ l) (counts_before-push (cond y.1.enabled (n + 1) n) ys m ∙ ap (λ k. counts_before (cond y.1.enabled (n + 1) n) ys ++ k ∷ []) (counted y.1.enabled n y (enabled_of ys)))

pub listed_more : (ys : List (List ℕ × ModData)) (m : List ℕ × ModData) (all : List (List ℕ × ModData)) (counts new : List ℕ) (n : ℕ) → all ≡ ys ++ m ∷ [] → new ≡ counts ++ n ∷ []
    → counts ≡ counts_before 0 ys → n ≡ length (enabled_of ys) → new ≡ counts_before 0 all
listed_more ys m all counts new n is pushed listed count_is = rw (is, counts_before-push 0 ys m, pushed, listed, count_is) (ap (λ k. counts_before 0 ys ++ k ∷ []) (omega arith))

pub length-counts_before : (n : ℕ) (ms : List (List ℕ × ModData)) → length (counts_before n ms) ≡ length ms
length-counts_before n [] = refl
length-counts_before n (m ∷ ms) = ap suc (length-counts_before (cond m.1.enabled (n + 1) n) ms)

pub node_of-None : (n : ℕ) (r : RuleData) (ms : List (List ℕ × ModData)) → lookup (bytes_eq r.refers) ms ≡ None → node_of n r ms ≡ None
node_of-None n r [] none = refl
node_of-None n r (m ∷ ms) none = by (bytes_eq r.refers m.0) refl (node_of-None (cond m.1.enabled (n + 1) n) r ms)
  where
    by : (b : Bool) → bytes_eq r.refers m.0 ≡ b → (lookup (bytes_eq r.refers) ms ≡ None → node_of (cond m.1.enabled (n + 1) n) r ms ≡ None) → node_of n r (m ∷ ms) ≡ None
    by true e rest = let bad = rw e at none in cc
    by false e rest = rw e (rest (rw e at none))

at_first : (n : ℕ) (r : RuleData) (ms : List (List ℕ × ModData)) (i : ℕ) (m : List ℕ × ModData) → slice_get ms i ≡ Some m → bytes_eq r.refers m.0 ≡ true
    → ((j : ℕ) → j < i → bytes_eq r.refers (get_or (keys_of ms) j []) ≡ false)
    → node_of n r ms ≡ cond (is_met_by r m.1) (Some (get_or (counts_before n ms) i 0)) None
at_first n r [] i m at same first = cc
at_first n r (x ∷ xs) zero m at same first =
    let e : m ≡ x = cc in
    subst (λ y. node_of n r (y ∷ xs) ≡ cond (is_met_by r m.1) (Some n) None) e (rw same refl)
at_first n r (x ∷ xs) (suc i) m at same first =
    let no : bytes_eq r.refers x.0 ≡ false = first 0 (omega arith) in
    rw no (at_first (cond x.1.enabled (n + 1) n) r xs i m at same (λ j l. first (suc j) (omega arith)))

key_at : (ms : List (List ℕ × ModData)) (i : ℕ) (m : List ℕ × ModData) → slice_get ms i ≡ Some m → m.0 ≡ get_or (keys_of ms) i []
key_at [] i m at = cc
key_at (x ∷ xs) zero m at = cc
key_at (x ∷ xs) (suc i) m at = key_at xs i m at

-- the node of the mod at a place, which is the first with the id that the rule refers to
pub node_of-place : (n : ℕ) (r : RuleData) (ms : List (List ℕ × ModData)) (i : ℕ) (m : List ℕ × ModData) → slice_get ms i ≡ Some m → position (bytes_eq r.refers) (keys_of ms) ≡ Some i
    → node_of n r ms ≡ cond (is_met_by r m.1) (Some (get_or (counts_before n ms) i 0)) None
node_of-place n r ms i m at is =
    let first = position-Some (bytes_eq r.refers) (keys_of ms) i [] is in
    at_first n r ms i m at (ap (bytes_eq r.refers) (key_at ms i m at) ∙ first.1) first.2

head_on : (m : List ℕ × ModData) (ms : List (List ℕ × ModData)) → m.1.enabled ≡ true → enabled_of (m ∷ ms) ≡ m ∷ enabled_of ms
head_on m ms on = ap (λ b. cond b (m ∷ enabled_of ms) (enabled_of ms)) on

head_off : (m : List ℕ × ModData) (ms : List (List ℕ × ModData)) → m.1.enabled ≡ false → enabled_of (m ∷ ms) ≡ enabled_of ms
head_off m ms off = ap (λ b. cond b (m ∷ enabled_of ms) (enabled_of ms)) off

-- what the node of a rule is: the place, among the enabled mods, of the one that it matches
pub record IsAt (n : ℕ) (r : RuleData) (nodes : List (List ℕ × ModData)) (j : ℕ) : Type 0 where
  pub place : ℕ
  pub entry : List ℕ × ModData
  pub is : j ≡ n + place
  pub at : slice_get nodes place ≡ Some entry
  pub own : entry.0 ≡ r.refers
  pub admitted : admits r.range entry.1.release ≡ true

one_further : (n j : ℕ) (r : RuleData) (m : List ℕ × ModData) (nodes : List (List ℕ × ModData)) → IsAt (n + 1) r nodes j → IsAt n r (m ∷ nodes) j
one_further n j r m nodes h = record { place = suc h.place; entry = h.entry; is = omega (arith, h.is); at = h.at; own = h.own; admitted = h.admitted }

both : (a b : Bool) → (a && b) ≡ true → (a ≡ true) × (b ≡ true)
both true true h = (refl, refl)
both true false h = cc
both false b h = cc

pub node_of-Some : (n : ℕ) (r : RuleData) (ms : List (List ℕ × ModData)) (j : ℕ) → node_of n r ms ≡ Some j → IsAt n r (enabled_of ms) j
node_of-Some n r [] j h = cc
node_of-Some n r (m ∷ ms) j h = by (bytes_eq r.refers m.0) (is_met_by r m.1) m.1.enabled refl refl refl (λ k. node_of-Some k r ms j)
  where
    by : (same met on : Bool) → bytes_eq r.refers m.0 ≡ same → is_met_by r m.1 ≡ met → m.1.enabled ≡ on → ((k : ℕ) → node_of k r ms ≡ Some j → IsAt k r (enabled_of ms) j) → IsAt n r (enabled_of (m ∷ ms)) j
    by true true on e f g rest =
        let here : Some n ≡ Some j = rw (e, f) at h in
        let is : n ≡ j = cc in
        let parts = both m.1.enabled (admits r.range m.1.release) f in
        let found : IsAt n r (m ∷ enabled_of ms) j = record { place = 0; entry = m; is = omega arith; at = refl; own = sym ((bytes_decides r.refers m.0).0 e); admitted = parts.1 } in
        subst (λ l. IsAt n r l j) (sym (head_on m ms parts.0)) found
    by true false on e f g rest = let bad = rw (e, f) at h in cc
    by false met true e f g rest = subst (λ l. IsAt n r l j) (sym (head_on m ms g)) (one_further n j r m (enabled_of ms) (rest (n + 1) (rw (e, g) at h)))
    by false met false e f g rest = subst (λ l. IsAt n r l j) (sym (head_off m ms g)) (rest n (rw (e, g) at h))

-- what holds of each id holds of that of an enabled mod
enabled_key : (P : List ℕ → Type 0) (ms : List (List ℕ × ModData)) (k : ℕ) (m : List ℕ × ModData) → AllByRecursion P (keys_of ms) → slice_get (enabled_of ms) k ≡ Some m → P m.0
enabled_key P [] k m all at = cc
enabled_key P (x ∷ xs) k m all at = by x.1.enabled k refl at (λ i. enabled_key P xs i m all.1)
  where
    by : (on : Bool) (i : ℕ) → x.1.enabled ≡ on → slice_get (enabled_of (x ∷ xs)) i ≡ Some m → ((i : ℕ) → slice_get (enabled_of xs) i ≡ Some m → P m.0) → P m.0
    by true zero f here rest =
        let first = subst (λ l. slice_get l 0 ≡ Some m) (head_on x xs f) here in
        let e : x ≡ m = cc in
        subst (λ y. P y.0) e all.0
    by true (suc i) f here rest = rest i (subst (λ l. slice_get l (suc i) ≡ Some m) (head_on x xs f) here)
    by false i f here rest = rest i (subst (λ l. slice_get l i ≡ Some m) (head_off x xs f) here)

-- the node of a rule that matches an enabled mod
pub node_of-at : (n : ℕ) (r : RuleData) (ms : List (List ℕ × ModData)) (k : ℕ) (m : List ℕ × ModData) → IsDistinct (pointwise nat_eq) (keys_of ms) → slice_get (enabled_of ms) k ≡ Some m → r.refers ≡ m.0
    → admits r.range m.1.release ≡ true → node_of n r ms ≡ Some (n + k)
node_of-at n r [] k m apart at own admitted = cc
node_of-at n r (x ∷ xs) k m apart at own admitted = by x.1.enabled k refl at (λ j i later. node_of-at j r xs i m (IsDistinct-tail (pointwise nat_eq) x.0 (keys_of xs) apart) later own admitted)
  where
    other : (i : ℕ) → slice_get (enabled_of xs) i ≡ Some m → bytes_eq r.refers x.0 ≡ false
    other i later = ap (λ id. bytes_eq id x.0) own ∙ nat_list_eq_equiv.symm m.0 x.0 ∙ enabled_key (λ y. pointwise nat_eq x.0 y ≡ false) xs i m (IsDistinct-head (pointwise nat_eq) x.0 (keys_of xs) apart) later

    by : (on : Bool) (i : ℕ) → x.1.enabled ≡ on → slice_get (enabled_of (x ∷ xs)) i ≡ Some m → ((j i : ℕ) → slice_get (enabled_of xs) i ≡ Some m → node_of j r xs ≡ Some (j + i)) → node_of n r (x ∷ xs) ≡ Some (n + i)
    by true zero f here rest =
        let first = subst (λ l. slice_get l 0 ≡ Some m) (head_on x xs f) here in
        let e : x ≡ m = cc in
        let same : bytes_eq r.refers x.0 ≡ true = (bytes_decides r.refers x.0).1 (own ∙ ap (λ y. y.0) (sym e)) in
        let met : is_met_by r x.1 ≡ true = ap (λ b. b && admits r.range x.1.release) f ∙ ap (λ y. admits r.range y.1.release) e ∙ admitted in
        rw (same, met) (ap (λ j. Some j) (sym (add-zero n)))
    by true (suc i) f here rest =
        let later = subst (λ l. slice_get l (suc i) ≡ Some m) (head_on x xs f) here in
        rw (other i later, f) (rest (n + 1) i later ∙ ap (λ j. Some j) (omega arith))
    by false i f here rest =
        let later = subst (λ l. slice_get l i ≡ Some m) (head_off x xs f) here in
        rw (other i later, f) (rest n i later)

-- no more mods are enabled than there are
pub length-enabled_of : (ms : List (List ℕ × ModData)) → length (enabled_of ms) ≤ length ms
length-enabled_of [] = omega arith
length-enabled_of (m ∷ ms) = by m.1.enabled (length-enabled_of ms)
  where
    by : (b : Bool) → length (enabled_of ms) ≤ length ms → length (cond b (m ∷ enabled_of ms) (enabled_of ms)) ≤ suc (length ms)
    by true h = omega arith
    by false h = omega arith
