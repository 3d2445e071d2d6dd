-- The first fault of several mods is one, and there is none where they are counted within the limit.
use Rattle.std.proofs.Common.{◌≡◌, ℕ, ◌-◌, ◌<◌, ◌≤◌, ◌⊎◌, List, [], ◌∷◌, ◌++◌, sym, ap, ◌∙◌, subst, inl, inr, arith}
use Rattle.std.specs.List.{AllByRecursion}
use Rattle.std.specs.declared.option.Option.{Option}
use Rattle.std.specs.declared.option.Option.TheVariants.{Some}
use Rattle.std.specs.Prelude.{slice_get}
use Rattle.std.proofs.lemmas.Bool.{cases_lt}
use Rattle.tree_fs.specs.Disk.{Disk}
use Rattle.list_laws.proofs.Alls.{all_middle}
use Rattle.stage_scan.specs.declared.scan.Scan.{Scan}
use Rattle.stage_scan.specs.Placed.{HasUserTarget, IsFirstLong}
use Rattle.answer_lines.specs.declared.refusal.Refusal.TheVariants as group
use Rattle.answer_lines.specs.declared.refusal.ScanRefusal.TheVariants.{TargetLong}
use Rattle.command_steps.specs.declared.stop.Stop.{Stop}
use Rattle.command_steps.specs.declared.stop.Stop.TheVariants.{Refused}
use Rattle.command_steps.specs.Stops.{scan_stop}
use Rattle.command_steps.specs.Scans.{IsCounted, CountTogether, HaveNoFault, IsScanFault, IsFirstScanFault, HaveTargets, IsFirstTargetLong}
use Rattle.command_steps.proofs.OneScan.{one_count, one_refused, no_fault_counted}

head : (x y : List ℕ) (xs ys : List (List ℕ)) → x ∷ xs ≡ y ∷ ys → x ≡ y
head x y xs ys e = cc

tail : (x y : List ℕ) (xs ys : List (List ℕ)) → x ∷ xs ≡ y ∷ ys → xs ≡ ys
tail x y xs ys e = cc

module _ (d : Disk) (most : ℕ) where
  no_fault_of : (id : List ℕ) (count left : ℕ) (stop : Stop) → IsCounted d id count → count ≤ left → IsScanFault d id most left stop → ⊥
  no_fault_of id count left stop counted within fault = no_fault_counted d id id most count left fault.error counted within fault.fault fault.told

  one_fault_of : (id : List ℕ) (left : ℕ) (one other : Stop) → IsScanFault d id most left one → IsScanFault d id most left other → one ≡ other
  one_fault_of id left one other a b = a.is ∙ ap (scan_stop id most) (one_refused d id id most left a.error b.error a.fault b.fault a.told b.told) ∙ sym b.is

  same_first : (xs ys : List (List ℕ)) (x y : List ℕ) (bs cs : List (List ℕ)) (left s t : ℕ) (one other : Stop) → xs ++ x ∷ bs ≡ ys ++ y ∷ cs → CountTogether d xs s → CountTogether d ys t → s ≤ left → t ≤ left
      → IsScanFault d x most (left - s) one → IsScanFault d y most (left - t) other → one ≡ other
  same_first [] [] x y bs cs left s t one other e cx cy sl tl a b =
      let id : y ≡ x = sym (head x y bs cs e) in
      let rest : left - t ≡ left - s = omega (arith, cx, cy) in
      one_fault_of x (left - s) one other a (subst (λ m. IsScanFault d x most m other) rest (subst (λ n. IsScanFault d n most (left - t) other) id b))
  same_first [] (z ∷ ys) x y bs cs left s t one other e cx cy sl tl a b =
      let id : z ≡ x = sym (head x z bs (ys ++ y ∷ cs) e) in
      let sum = cy.4 in
      let low : cy.0 ≤ left - s = omega (arith, cx, sum, tl) in
      absurd (no_fault_of x cy.0 (left - s) one (subst (λ n. IsCounted d n cy.0) id cy.2) low a)
  same_first (z ∷ xs) [] x y bs cs left s t one other e cx cy sl tl a b =
      let id : z ≡ y = head z y (xs ++ x ∷ bs) cs e in
      let sum = cx.4 in
      let low : cx.0 ≤ left - t = omega (arith, cy, sum, sl) in
      absurd (no_fault_of y cx.0 (left - t) other (subst (λ n. IsCounted d n cx.0) id cx.2) low b)
  same_first (z ∷ xs) (w ∷ ys) x y bs cs left s t one other e cx cy sl tl a b =
      let id : w ≡ z = sym (head z w (xs ++ x ∷ bs) (ys ++ y ∷ cs) e) in
      let count : cy.0 ≡ cx.0 = one_count d z cy.0 cx.0 (subst (λ n. IsCounted d n cy.0) id cy.2) cx.2 in
      let s_is = cx.4 in
      let t_is = cy.4 in
      let a_left : left - s ≡ (left - cx.0) - cx.1 = omega (arith, s_is, sl) in
      let b_left : left - t ≡ (left - cx.0) - cy.1 = omega (arith, t_is, tl, count) in
      same_first xs ys x y bs cs (left - cx.0) cx.1 cy.1 one other (tail z w (xs ++ x ∷ bs) (ys ++ y ∷ cs) e) cx.3 cy.3 (omega (arith, s_is, sl)) (omega (arith, t_is, tl, count))
      (subst (λ m. IsScanFault d x most m one) a_left a) (subst (λ m. IsScanFault d y most m other) b_left b)

  pub one_scan_fault : (ids : List (List ℕ)) (one other : Stop) → IsFirstScanFault d ids most one → IsFirstScanFault d ids most other → one ≡ other
  one_scan_fault ids one other a b = same_first a.front b.front a.id b.id a.back b.back most a.total b.total one other (sym a.here ∙ b.here) a.counts b.counts a.within b.within a.fault b.fault

  no_first : (xs : List (List ℕ)) (x : List ℕ) (bs : List (List ℕ)) (left s total : ℕ) (stop : Stop) → CountTogether d (xs ++ x ∷ bs) total → total ≤ left → CountTogether d xs s → IsScanFault d x most (left - s) stop → ⊥
  no_first [] x bs left s total stop all within front fault =
      let sum = all.4 in
      no_fault_of x all.0 (left - s) stop all.2 (omega (arith, sum, within, front)) fault
  no_first (z ∷ xs) x bs left s total stop all within front fault =
      let count : front.0 ≡ all.0 = one_count d z front.0 all.0 front.2 all.2 in
      let sum = all.4 in
      let s_is = front.4 in
      let is : left - s ≡ (left - all.0) - front.1 = omega (arith, s_is, count) in
      no_first xs x bs (left - all.0) front.1 all.1 stop all.3 (omega (arith, sum, within)) front.3 (subst (λ m. IsScanFault d x most m stop) is fault)

  pub no_scan_fault : (ids : List (List ℕ)) (stop : Stop) → HaveNoFault d ids most → IsFirstScanFault d ids most stop → ⊥
  no_scan_fault ids stop none first = no_first first.front first.id first.back most first.total none.total stop (subst (λ l. CountTogether d l none.total) first.here none.counts) none.within first.counts first.fault

-- Targets

same_long : (P : List ℕ → Type 0) (xs ys : List (List ℕ)) (x y : List ℕ) (bs cs : List (List ℕ)) → xs ++ x ∷ bs ≡ ys ++ y ∷ cs → AllByRecursion P xs → AllByRecursion P ys → (P x → ⊥) → (P y → ⊥) → x ≡ y
same_long P [] [] x y bs cs e px py nx ny = head x y bs cs e
same_long P [] (z ∷ ys) x y bs cs e px py nx ny = absurd (nx (subst P (sym (head x z bs (ys ++ y ∷ cs) e)) py.0))
same_long P (z ∷ xs) [] x y bs cs e px py nx ny = absurd (ny (subst P (head z y (xs ++ x ∷ bs) cs e) px.0))
same_long P (z ∷ xs) (w ∷ ys) x y bs cs e px py nx ny = same_long P xs ys x y bs cs (tail z w (xs ++ x ∷ bs) (ys ++ y ∷ cs) e) px.1 py.1 nx ny

one_long : (base : Option (List ℕ)) (files : List (List ℕ)) (p q : List ℕ) → IsFirstLong base files p → IsFirstLong base files q → p ≡ q
one_long base files p q a b = same_long (HasUserTarget base) a.front b.front p q a.back b.back (sym a.here ∙ b.here) a.before b.before a.long b.long

not_long : (base : Option (List ℕ)) (files : List (List ℕ)) (p : List ℕ) → AllByRecursion (HasUserTarget base) files → IsFirstLong base files p → ⊥
not_long base files p all first = first.long (all_middle (HasUserTarget base) first.front p first.back (subst (AllByRecursion (HasUserTarget base)) first.here all))

same_base : (a b : Option (List ℕ)) → Some a ≡ Some b → a ≡ b
same_base a b e = cc

same_scan : (a b : Scan) → Some a ≡ Some b → a ≡ b
same_scan a b e = cc

module _ (bases : List (Option (List ℕ))) (scans : List Scan) where
  pub no_target_long : (stop : Stop) → HaveTargets bases scans → IsFirstTargetLong bases scans stop → ⊥
  no_target_long stop all first = not_long first.base first.scan.files first.source (all first.node first.base first.scan first.base_at first.scan_at) first.long

  pub one_target_long : (one other : Stop) → IsFirstTargetLong bases scans one → IsFirstTargetLong bases scans other → one ≡ other
  one_target_long one other a b = by (cases_lt a.node b.node)
    where
      same : a.node ≡ b.node → one ≡ other
      same node =
          let base : a.base ≡ b.base = same_base a.base b.base (sym a.base_at ∙ ap (slice_get bases) node ∙ b.base_at) in
          let scan : a.scan ≡ b.scan = same_scan a.scan b.scan (sym a.scan_at ∙ ap (slice_get scans) node ∙ b.scan_at) in
          let source : a.source ≡ b.source = one_long b.base b.scan.files a.source b.source (subst (λ s. IsFirstLong b.base s.files a.source) scan (subst (λ x. IsFirstLong x a.scan.files a.source) base a.long)) b.long in
          a.is ∙ (λ i. Refused (group.Scan (TargetLong (scan i).mod_id (source i)))) ∙ sym b.is

      by : (a.node < b.node) ⊎ (b.node ≤ a.node) → one ≡ other
      by (inl low) = absurd (not_long a.base a.scan.files a.source (b.before a.node a.base a.scan low a.base_at a.scan_at) a.long)
      by (inr up) = over (cases_lt b.node a.node)
        where
          over : (b.node < a.node) ⊎ (a.node ≤ b.node) → one ≡ other
          over (inl low) = absurd (not_long b.base b.scan.files b.source (a.before b.node b.base b.scan low b.base_at b.scan_at) b.long)
          over (inr down) = same (omega (arith, up, down))
