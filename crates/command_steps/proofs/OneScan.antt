-- A mod has one scan, or one first fault.
use Rattle.std.proofs.Common.{◌≡◌, ◌≢◌, ℕ, ◌<◌, ◌≤◌, true, false, List, [], ◌∷◌, ◌++◌, map, length, refl, sym, ap, ◌∙◌, subst, inl, inr, arith}
use Rattle.std.specs.List.{AllByRecursion, Contains}
use Rattle.std.specs.List.Sorted.{IsStrictlySortedBy}
use Rattle.std.specs.declared.cmp.Ordering.{Ordering}
use Rattle.std.specs.declared.cmp.Ordering.TheVariants.{Less, Equal, Greater}
use Rattle.std.specs.Ordering.{nat_cmp, ordering_then}
use Rattle.std.specs.Cmp.Lexicographic.{slice_cmp, nat_list_cmp_total}
use Rattle.std.proofs.lemmas.List.{length-append}
use Rattle.rel_paths.specs.Names.{text_of, is_reserved, IsUserPath}
use Rattle.tree_fs.specs.declared.name.Kind.{Kind}
use Rattle.tree_fs.specs.declared.name.Kind.TheVariants as kind
use Rattle.tree_fs.specs.declared.place.Place.{Place}
use Rattle.tree_fs.specs.Spot.{spot_of, below}
use Rattle.tree_fs.specs.Places.{mod_spot, staged_spot}
use Rattle.tree_fs.specs.Disk.{Disk, kind_of}
use Rattle.tree_fs.proofs.Spots.{below-folder, below-name, same_place}
use Rattle.list_laws.proofs.Alls.{all_item}
use Rattle.list_laws.proofs.Containing.{last_cases}
use Rattle.list_laws.proofs.Orders.{turned, text_tied}
use Rattle.list_laws.proofs.Sorted.{sorted_same, sorted_more}
use Rattle.list_laws.proofs.Sums.{length_within}
use Rattle.stage_scan.specs.declared.error.ScanError.{ScanError}
use Rattle.stage_scan.specs.declared.error.ScanError.TheVariants as error
use Rattle.stage_scan.specs.declared.scan.Scan.{Scan}
use Rattle.stage_scan.specs.Walks.{inside, walk_cmp, kind_inside, IsInside, IsEarlier, IsSound, IsSoundInside, IsFaultAfter, IsFirstFault, IsRefused, IsScan, AreFiles, CountsInside}
use Rattle.stage_scan.proofs.Orders.{walk_total}
use Rattle.command_steps.specs.Stops.{IsTold, scan_stop}
use Rattle.command_steps.specs.Scans.{IsCounted, AreScans}

-- Scans

one_files : (d : Disk) (id : List ℕ) (xs ys : List (List ℕ)) → AreFiles d id xs → AreFiles d id ys → xs ≡ ys
one_files d id xs ys a b = sorted_same nat_list_cmp_total xs ys a.order b.order
    (λ p there. b.whole p (all_item (λ path. kind_of d (staged_spot id path) ≡ kind.File) xs p a.each there))
    (λ p there. a.whole p (all_item (λ path. kind_of d (staged_spot id path) ≡ kind.File) ys p b.each there))

pub one_inside : (d : Disk) (id : List ℕ) (m n : ℕ) → CountsInside d id m → CountsInside d id n → m ≡ n
one_inside d id m n a b =
    let up = length_within walk_total a.walk b.walk a.lists.order b.lists.order (λ x c. b.lists.whole x (all_item (IsInside d id) a.walk x a.lists.each c)) in
    let down = length_within walk_total b.walk a.walk b.lists.order a.lists.order (λ x c. a.lists.whole x (all_item (IsInside d id) b.walk x b.lists.each c)) in
    let m_is = a.counts in
    let n_is = b.counts in
    omega (arith, up, down, m_is, n_is)

pub one_count : (d : Disk) (id : List ℕ) (m n : ℕ) → IsCounted d id m → IsCounted d id n → m ≡ n
one_count d id m n a b = one_inside d id m n a.inside b.inside

pub one_scan : (d : Disk) (id : List ℕ) (s t : Scan) → IsScan d id s → IsScan d id t → s ≡ t
one_scan d id s t a b =
    let mod_id : s.mod_id ≡ t.mod_id = a.same ∙ sym b.same in
    let files : s.files ≡ t.files = one_files d id s.files t.files a.files b.files in
    let entries : s.entries ≡ t.entries = one_inside d id s.entries t.entries a.entries b.entries in
    λ i. record { mod_id = mod_id i; files = files i; entries = entries i }

first_of : (x y : List ℕ) (xs ys : List (List ℕ)) → x ∷ xs ≡ y ∷ ys → x ≡ y
first_of x y xs ys e = cc

rest_of : (x y : List ℕ) (xs ys : List (List ℕ)) → x ∷ xs ≡ y ∷ ys → xs ≡ ys
rest_of x y xs ys e = cc

same_scans : (d : Disk) (xs ys : List Scan) → map (λ (s : Scan). s.mod_id) xs ≡ map (λ (s : Scan). s.mod_id) ys → AllByRecursion (λ s. IsScan d s.mod_id s) xs → AllByRecursion (λ s. IsScan d s.mod_id s) ys → xs ≡ ys
same_scans d [] [] e a b = refl
same_scans d [] (y ∷ ys) e a b = cc
same_scans d (x ∷ xs) [] e a b = cc
same_scans d (x ∷ xs) (y ∷ ys) e a b =
    let id : x.mod_id ≡ y.mod_id = first_of x.mod_id y.mod_id (map (λ (s : Scan). s.mod_id) xs) (map (λ (s : Scan). s.mod_id) ys) e in
    let first : x ≡ y = one_scan d x.mod_id x y a.0 (subst (λ n. IsScan d n y) (sym id) b.0) in
    let rest : xs ≡ ys = same_scans d xs ys (rest_of x.mod_id y.mod_id (map (λ (s : Scan). s.mod_id) xs) (map (λ (s : Scan). s.mod_id) ys) e) a.1 b.1 in
    λ i. first i ∷ rest i

pub one_scans : (d : Disk) (ids : List (List ℕ)) (xs ys : List Scan) → AreScans d ids xs → AreScans d ids ys → xs ≡ ys
one_scans d ids xs ys a b = same_scans d xs ys (a.same ∙ sym b.same) a.each b.each

-- The fault of an entry that so many come before, case by case

data Fault (most count : ℕ) (id : List ℕ) (k : Kind) (names : List (List ℕ)) (e : ScanError) : Type 0 where
  too_many : count ≡ most → e ≡ error.TooMany → Fault most count id k names e
  bad : (folder : Place) (name : List ℕ) → count < most → inside id names ≡ below (spot_of folder) name → (IsUserPath (text_of names) → ⊥) → e ≡ error.BadEntry folder name → Fault most count id k names e
  odd : (folder : Place) (name : List ℕ) → count < most → inside id names ≡ below (spot_of folder) name → IsUserPath (text_of names) → k ≡ kind.Other → e ≡ error.OddEntry folder name → Fault most count id k names e
  reserved : (place : Place) → count < most → inside id names ≡ spot_of place → IsUserPath (text_of names) → k ≢ kind.Other → is_reserved names ≡ true → e ≡ error.Reserved place → Fault most count id k names e

case_of : (most count n : ℕ) (id its : List ℕ) (k : Kind) (names : List (List ℕ)) (e : ScanError) → IsFaultAfter most count id k names e → IsTold (scan_stop its n e) → Fault most count id k names e
case_of most count n id its k names error.NoFolder f told = absurd f
case_of most count n id its k names error.TooMany f told = too_many f refl
case_of most count n id its k names (error.BadEntry folder name) f told = bad folder name f.0 f.1.0 f.1.1 refl
case_of most count n id its k names (error.OddEntry folder name) f told = odd folder name f.0 f.1.0 f.1.1 f.1.2 refl
case_of most count n id its k names (error.Reserved place) f told = reserved place f.0 f.1.0 f.1.1 f.1.2 f.1.3 refl
case_of most count n id its k names error.Failed f told = absurd told
case_of most count n id its k names error.Memory f told = absurd told

-- a sound entry has no fault but that of the limit
sound_case : (most count : ℕ) (id : List ℕ) (k : Kind) (names : List (List ℕ)) (e : ScanError) → IsSound k names → Fault most count id k names e → count ≡ most
sound_case most count id k names e sound (too_many is _) = is
sound_case most count id k names e sound (bad folder name low at no_user _) = absurd (no_user sound.user)
sound_case most count id k names e sound (odd folder name low at user is_odd _) = absurd (sound.not_odd is_odd)
sound_case most count id k names e sound (reserved place low at user not_odd is _) = let no_way : true ≡ false = sym is ∙ sound.free in cc

within_case : (most count : ℕ) (id : List ℕ) (k : Kind) (names : List (List ℕ)) (e : ScanError) → Fault most count id k names e → count ≤ most
within_case most count id k names e (too_many is _) = omega (arith, is)
within_case most count id k names e (bad folder name low at no_user _) = omega (arith, low)
within_case most count id k names e (odd folder name low at user is_odd _) = omega (arith, low)
within_case most count id k names e (reserved place low at user not_odd is _) = omega (arith, low)

above : (most count : ℕ) → count ≡ most → count < most → ⊥
above most count is low = omega (arith, is, low)

-- one entry has one fault
one_case : (most count : ℕ) (id : List ℕ) (k : Kind) (names : List (List ℕ)) (e f : ScanError) → Fault most count id k names e → Fault most count id k names f → e ≡ f
one_case most count id k names e f (too_many a is) (too_many b it) = is ∙ sym it
one_case most count id k names e f (too_many a is) (bad folder name low at no_user it) = absurd (above most count a low)
one_case most count id k names e f (too_many a is) (odd folder name low at user is_odd it) = absurd (above most count a low)
one_case most count id k names e f (too_many a is) (reserved place low at user not_odd held it) = absurd (above most count a low)
one_case most count id k names e f (bad folder name low at no_user is) (too_many b it) = absurd (above most count b low)
one_case most count id k names e f (bad folder name low at no_user is) (bad other called _ here _ it) =
    let place : folder ≡ other = same_place folder other (below-folder (spot_of folder) (spot_of other) name called (sym at ∙ here)) in
    let text : name ≡ called = below-name (spot_of folder) (spot_of other) name called (sym at ∙ here) in
    is ∙ (λ i. error.BadEntry (place i) (text i)) ∙ sym it
one_case most count id k names e f (bad folder name low at no_user is) (odd other called _ here user _ it) = absurd (no_user user)
one_case most count id k names e f (bad folder name low at no_user is) (reserved other _ here user _ _ it) = absurd (no_user user)
one_case most count id k names e f (odd folder name low at user is_odd is) (too_many b it) = absurd (above most count b low)
one_case most count id k names e f (odd folder name low at user is_odd is) (bad other called _ here no_user it) = absurd (no_user user)
one_case most count id k names e f (odd folder name low at user is_odd is) (odd other called _ here _ _ it) =
    let place : folder ≡ other = same_place folder other (below-folder (spot_of folder) (spot_of other) name called (sym at ∙ here)) in
    let text : name ≡ called = below-name (spot_of folder) (spot_of other) name called (sym at ∙ here) in
    is ∙ (λ i. error.OddEntry (place i) (text i)) ∙ sym it
one_case most count id k names e f (odd folder name low at user is_odd is) (reserved other _ here _ not_odd _ it) = absurd (not_odd is_odd)
one_case most count id k names e f (reserved place low at user not_odd held is) (too_many b it) = absurd (above most count b low)
one_case most count id k names e f (reserved place low at user not_odd held is) (bad other called _ here no_user it) = absurd (no_user user)
one_case most count id k names e f (reserved place low at user not_odd held is) (odd other called _ here _ is_odd it) = absurd (not_odd is_odd)
one_case most count id k names e f (reserved place low at user not_odd held is) (reserved other _ here _ _ _ it) = is ∙ ap error.Reserved (same_place place other (sym at ∙ here)) ∙ sym it

-- The first entry with a fault

both_equal : (o p : Ordering) → ordering_then o p ≡ Equal → (o ≡ Equal) × (p ≡ Equal)
both_equal Equal p e = (refl, e)
both_equal Less p e = cc
both_equal Greater p e = cc

walk_tied : (xs ys : List (List ℕ)) → walk_cmp xs ys ≡ Equal → xs ≡ ys
walk_tied [] [] e = refl
walk_tied [] (y ∷ ys) e = let no_way : Less ≡ Equal = e in cc
walk_tied (x ∷ xs) [] e = let no_way : Greater ≡ Equal = e in cc
walk_tied (x ∷ xs) (y ∷ ys) e =
    let both = both_equal (slice_cmp nat_cmp x y) (walk_cmp xs ys) e in
    let first : x ≡ y = text_tied x y both.0 in
    let rest : xs ≡ ys = walk_tied xs ys both.1 in
    λ i. first i ∷ rest i

-- an entry in the walk, with those before it
longer : (d : Disk) (id : List ℕ) (earlier walk : List (List (List ℕ))) (at : List (List ℕ)) → IsStrictlySortedBy walk_cmp earlier → AllByRecursion (λ names. IsEarlier names at) earlier → IsStrictlySortedBy walk_cmp walk
    → ((x : List (List ℕ)) → Contains earlier x → Contains walk x) → Contains walk at → length earlier < length walk
longer d id earlier walk at order before whole among there =
    let all = length_within walk_total (earlier ++ at ∷ []) walk (sorted_more walk_cmp earlier at order before) whole
    (λ x c. elim (last_cases earlier at x c) [ inl front ↦ among x front | inr is ↦ subst (λ v. Contains walk v) (sym is) there ]) in
    let size = length-append earlier (at ∷ []) in
    omega (arith, all, size)

-- where a mod is counted within the limit, it has no fault
pub no_fault_counted : (d : Disk) (id its : List ℕ) (n count left : ℕ) (e : ScanError) → IsCounted d id count → count ≤ left → IsRefused d id left e → IsTold (scan_stop its n e) → ⊥
no_fault_counted d id its n count left e counted within refused told = by e refused told
  where
    first_no : (f : ScanError) → IsFirstFault d id left f → IsTold (scan_stop its n f) → ⊥
    first_no f first said =
        let walk = counted.inside.walk in
        let lists = counted.inside.lists in
        let in_walk = lists.whole first.at first.there in
        let fault = case_of left (length first.earlier) n id its (kind_inside d id first.at) first.at f first.fault said in
        let full = sound_case left (length first.earlier) id (kind_inside d id first.at) first.at f (all_item (IsSoundInside d id) walk first.at counted.inside.sound in_walk) fault in
        let more = longer d id first.earlier walk first.at first.walk.order first.walk.earlier lists.order (λ x c. lists.whole x (all_item (IsInside d id) first.earlier x first.walk.each c)) in_walk in
        let size = counted.inside.counts in
        omega (arith, full, more, size, within)

    by : (f : ScanError) → IsRefused d id left f → IsTold (scan_stop its n f) → ⊥
    by error.NoFolder r said = r counted.folder
    by error.TooMany r said = first_no error.TooMany r said
    by (error.BadEntry folder name) r said = first_no (error.BadEntry folder name) r said
    by (error.OddEntry folder name) r said = first_no (error.OddEntry folder name) r said
    by (error.Reserved place) r said = first_no (error.Reserved place) r said
    by error.Failed r said = said
    by error.Memory r said = said

module _ (d : Disk) (id its : List ℕ) (n left : ℕ) where
  -- no first fault comes before another
  not_before : (e f : ScanError) (a : IsFirstFault d id left e) (b : IsFirstFault d id left f) → IsTold (scan_stop its n e) → IsTold (scan_stop its n f) → IsEarlier a.at b.at → ⊥
  not_before e f a b told said less =
      let there = b.walk.whole a.at a.there less in
      let full = sound_case left (length a.earlier) id (kind_inside d id a.at) a.at e (all_item (IsSoundInside d id) b.earlier a.at b.sound there)
      (case_of left (length a.earlier) n id its (kind_inside d id a.at) a.at e a.fault told) in
      let within = within_case left (length b.earlier) id (kind_inside d id b.at) b.at f (case_of left (length b.earlier) n id its (kind_inside d id b.at) b.at f b.fault said) in
      let more = longer d id a.earlier b.earlier a.at a.walk.order a.walk.earlier b.walk.order
      (λ x c. b.walk.whole x (all_item (IsInside d id) a.earlier x a.walk.each c) (walk_total.trans x a.at b.at (all_item (λ names. IsEarlier names a.at) a.earlier x a.walk.earlier c) less)) there in
      omega (arith, full, within, more)

  same_at : (e f : ScanError) (a : IsFirstFault d id left e) (b : IsFirstFault d id left f) → IsTold (scan_stop its n e) → IsTold (scan_stop its n f) → a.at ≡ b.at
  same_at e f a b told said = by (walk_cmp a.at b.at) refl
    where
      by : (o : Ordering) → walk_cmp a.at b.at ≡ o → a.at ≡ b.at
      by Less is = absurd (not_before e f a b told said is)
      by Equal is = walk_tied a.at b.at is
      by Greater is = absurd (not_before f e b a said told (turned walk_total a.at b.at is))

  same_fault : (e f : ScanError) → IsFirstFault d id left e → IsFirstFault d id left f → IsTold (scan_stop its n e) → IsTold (scan_stop its n f) → e ≡ f
  same_fault e f a b told said =
      let at : a.at ≡ b.at = same_at e f a b told said in
      let up = length_within walk_total a.earlier b.earlier a.walk.order b.walk.order (λ x c. b.walk.whole x (all_item (IsInside d id) a.earlier x a.walk.each c) (subst (λ v. IsEarlier x v) at (all_item (λ names. IsEarlier names a.at) a.earlier x a.walk.earlier c))) in
      let down = length_within walk_total b.earlier a.earlier b.walk.order a.walk.order (λ x c. a.walk.whole x (all_item (IsInside d id) b.earlier x b.walk.each c) (subst (λ v. IsEarlier x v) (sym at) (all_item (λ names. IsEarlier names b.at) b.earlier x b.walk.earlier c))) in
      let count : length b.earlier ≡ length a.earlier = omega (arith, up, down) in
      let first = case_of left (length a.earlier) n id its (kind_inside d id a.at) a.at e a.fault told in
      let second = case_of left (length b.earlier) n id its (kind_inside d id b.at) b.at f b.fault said in
      let moved : Fault left (length a.earlier) id (kind_inside d id a.at) a.at f = subst (λ m. Fault left m id (kind_inside d id a.at) a.at f) count (subst (λ v. Fault left (length b.earlier) id (kind_inside d id v) v f) (sym at) second) in
      one_case left (length a.earlier) id (kind_inside d id a.at) a.at e f first moved

  data Turned (e : ScanError) : Type 0 where
    no_folder : kind_of d (mod_spot id) ≢ kind.Folder → e ≡ error.NoFolder → Turned e
    faulty : IsFirstFault d id left e → Turned e

  turned_by : (e : ScanError) → IsRefused d id left e → IsTold (scan_stop its n e) → Turned e
  turned_by error.NoFolder r told = no_folder r refl
  turned_by error.TooMany r told = faulty r
  turned_by (error.BadEntry folder name) r told = faulty r
  turned_by (error.OddEntry folder name) r told = faulty r
  turned_by (error.Reserved place) r told = faulty r
  turned_by error.Failed r told = absurd told
  turned_by error.Memory r told = absurd told

  one_turn : (e f : ScanError) → IsTold (scan_stop its n e) → IsTold (scan_stop its n f) → Turned e → Turned f → e ≡ f
  one_turn e f told said (no_folder gone is) (no_folder _ it) = is ∙ sym it
  one_turn e f told said (no_folder gone is) (faulty b) = absurd (gone b.folder)
  one_turn e f told said (faulty a) (no_folder gone it) = absurd (gone a.folder)
  one_turn e f told said (faulty a) (faulty b) = same_fault e f a b told said

  -- a mod is refused for one reason
  pub one_refused : (e f : ScanError) → IsRefused d id left e → IsRefused d id left f → IsTold (scan_stop its n e) → IsTold (scan_stop its n f) → e ≡ f
  one_refused e f a b told said = one_turn e f told said (turned_by e a told) (turned_by f b said)
