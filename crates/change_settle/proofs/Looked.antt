-- Folders that were looked at, and one more.
use Rattle.std.proofs.Common.{◌≡◌, ◌↔◌, List, [], ◌∷◌, ◌++◌, map, sym, ◌∙◌, subst, inl, inr}
use Rattle.std.specs.List.{Contains}
use Rattle.std.proofs.lemmas.List.{map-append}
use Rattle.std.proofs.lemmas.List.Elements.{Contains-append_left, Contains-append_right}
use Rattle.list_laws.proofs.Containing.{contains_here, last_cases}
use Rattle.tree_fs.specs.declared.name.Kind.{Kind}
use Rattle.tree_fs.specs.declared.name.Kind.TheVariants.{Absent, File, Folder, Other}
use Rattle.tree_fs.specs.declared.place.Place.{Place}
use Rattle.tree_fs.specs.Spot.{Spot, spot_of}
use Rattle.tree_fs.specs.Disk.{Disk, kind_of}
use Rattle.change_settle.specs.Above.{IsTaken, AreLooked}
use Rattle.change_settle.specs.Looks.{missing_with, blocked_with}

-- just those of a list that have something, of one more
module _ (P : Spot → Type 0) (folders found : List Spot) (was : (x : Spot) → (Contains found x ↔ Contains folders x × P x)) (p : Spot) where
  with_it : P p → (x : Spot) → (Contains (found ++ p ∷ []) x ↔ Contains (folders ++ p ∷ []) x × P x)
  with_it has x = (
    λ c. elim (last_cases found p x c) [
      | inl front ↦ let h = (was x).0 front in (Contains-append_left folders (p ∷ []) x h.0, h.1)
      | inr is ↦ (subst (Contains (folders ++ p ∷ [])) (sym is) (Contains-append_right folders (p ∷ []) p (contains_here p [])), subst P (sym is) has)
    ],
    λ h. elim (last_cases folders p x h.0) [
      | inl front ↦ Contains-append_left found (p ∷ []) x ((was x).1 (front, h.1))
      | inr is ↦ subst (Contains (found ++ p ∷ [])) (sym is) (Contains-append_right found (p ∷ []) p (contains_here p []))
    ],
  )

  without_it : ¬ P p → (x : Spot) → (Contains found x ↔ Contains (folders ++ p ∷ []) x × P x)
  without_it hasnt x = (
    λ c. let h = (was x).0 c in (Contains-append_left folders (p ∷ []) x h.0, h.1),
    λ h. elim (last_cases folders p x h.0) [
      | inl front ↦ (was x).1 (front, h.1)
      | inr is ↦ absurd (hasnt (subst P is h.1))
    ],
  )

pushed : (places : List Place) (p : Place) → map spot_of (places ++ p ∷ []) ≡ map spot_of places ++ spot_of p ∷ []
pushed places p = map-append spot_of places (p ∷ [])

module _ (a : Disk) (folders : List Spot) (p : Place) (missing blocked : List Place) (was : AreLooked a folders (map spot_of missing) (map spot_of blocked)) where
  abbrev IsAbsent : Spot → Type 0
  IsAbsent x = kind_of a x ≡ Absent

  by_kind : (k : Kind) → kind_of a (spot_of p) ≡ k → AreLooked a (folders ++ spot_of p ∷ []) (map spot_of (missing_with k p missing)) (map spot_of (blocked_with k p blocked))
  by_kind Absent e = record {
    missing = λ x. subst (λ l. Contains l x ↔ Contains (folders ++ spot_of p ∷ []) x × IsAbsent x) (sym (pushed missing p)) (with_it IsAbsent folders (map spot_of missing) was.missing (spot_of p) e x);
    blocked = without_it (IsTaken a) folders (map spot_of blocked) was.blocked (spot_of p) (λ t. elim t [ inl f ↦ (let n : Absent ≡ File = sym e ∙ f in cc) | inr o ↦ (let n : Absent ≡ Other = sym e ∙ o in cc) ]);
  }
  by_kind Folder e = record {
    missing = without_it IsAbsent folders (map spot_of missing) was.missing (spot_of p) (λ f. let n : Folder ≡ Absent = sym e ∙ f in cc);
    blocked = without_it (IsTaken a) folders (map spot_of blocked) was.blocked (spot_of p) (λ t. elim t [ inl f ↦ (let n : Folder ≡ File = sym e ∙ f in cc) | inr o ↦ (let n : Folder ≡ Other = sym e ∙ o in cc) ]);
  }
  by_kind File e = record {
    missing = without_it IsAbsent folders (map spot_of missing) was.missing (spot_of p) (λ f. let n : File ≡ Absent = sym e ∙ f in cc);
    blocked = λ x. subst (λ l. Contains l x ↔ Contains (folders ++ spot_of p ∷ []) x × IsTaken a x) (sym (pushed blocked p)) (with_it (IsTaken a) folders (map spot_of blocked) was.blocked (spot_of p) (inl e) x);
  }
  by_kind Other e = record {
    missing = without_it IsAbsent folders (map spot_of missing) was.missing (spot_of p) (λ f. let n : Other ≡ Absent = sym e ∙ f in cc);
    blocked = λ x. subst (λ l. Contains l x ↔ Contains (folders ++ spot_of p ∷ []) x × IsTaken a x) (sym (pushed blocked p)) (with_it (IsTaken a) folders (map spot_of blocked) was.blocked (spot_of p) (inr e) x);
  }

  pub looked_more : (k : Kind) (missed blocks : List Place) (all : List Spot) → k ≡ kind_of a (spot_of p) → missed ≡ missing_with k p missing → blocks ≡ blocked_with k p blocked → all ≡ folders ++ spot_of p ∷ []
      → AreLooked a all (map spot_of missed) (map spot_of blocks)
  looked_more k missed blocks all e f g h = subst (λ l. AreLooked a l (map spot_of missed) (map spot_of blocks)) (sym h) (subst (λ l. AreLooked a (folders ++ spot_of p ∷ []) (map spot_of l) (map spot_of blocks)) (sym f) (subst (λ l. AreLooked a (folders ++ spot_of p ∷ []) (map spot_of (missing_with k p missing)) (map spot_of l)) (sym g) (by_kind k (sym e))))

-- a missing folder is among those that were looked at
pub among_more : (k : Kind) (folders : List Spot) (p : Place) (missing missed : List Place) (all : List Spot) → missed ≡ missing_with k p missing → all ≡ folders ++ spot_of p ∷ [] → ((x : Spot) → Contains (map spot_of missing) x → Contains folders x)
    → (x : Spot) → Contains (map spot_of missed) x → Contains all x
among_more k folders p missing missed all e h was x c = subst (λ l. Contains l x) (sym h) (by k (subst (λ l. Contains (map spot_of l) x) e c))
  where
    front : Contains (map spot_of missing) x → Contains (folders ++ spot_of p ∷ []) x
    front f = Contains-append_left folders (spot_of p ∷ []) x (was x f)

    by : (k : Kind) → Contains (map spot_of (missing_with k p missing)) x → Contains (folders ++ spot_of p ∷ []) x
    by Absent d = elim (last_cases (map spot_of missing) (spot_of p) x (subst (λ l. Contains l x) (pushed missing p) d)) [
      | inl f ↦ front f
      | inr is ↦ subst (Contains (folders ++ spot_of p ∷ [])) (sym is) (Contains-append_right folders (spot_of p ∷ []) (spot_of p) (contains_here (spot_of p) []))
    ]
    by File d = front d
    by Folder d = front d
    by Other d = front d
