-- Each disk has a next number for what is set aside.
use Rattle.std.proofs.Common.{◌≡◌, ◌≢◌, ◌⊎◌, ℕ, zero, suc, ◌+◌, ◌<◌, ◌≤◌, refl, inl, inr, subst, arith}
use Rattle.std.specs.Fmt.{decimal}
use Rattle.tree_fs.specs.declared.name.Kind.{Kind}
use Rattle.tree_fs.specs.declared.name.Kind.TheVariants.{Absent, File, Folder, Other}
use Rattle.tree_fs.specs.Spot.{below}
use Rattle.tree_fs.specs.Disk.{Disk, kind_of}
use Rattle.backup_keep.specs.Places.{aside_folder}
use Rattle.backup_keep.specs.Asides.{HasAside, IsNextAside}

absent_or_not : (k : Kind) → (k ≡ Absent) ⊎ (k ≢ Absent)
absent_or_not Absent = inl refl
absent_or_not File = inr (λ e. let t : File ≡ Absent = e in cc)
absent_or_not Folder = inr (λ e. let t : Folder ≡ Absent = e in cc)
absent_or_not Other = inr (λ e. let t : Other ≡ Absent = e in cc)

number_or_not : (k : ℕ) → ((1 ≤ k) × (k ≤ 4294967295)) ⊎ ((k < 1) ⊎ (4294967295 < k))
number_or_not k = grind arith

has_or_not : (d : Disk) (k : ℕ) → HasAside d k ⊎ (¬ HasAside d k)
has_or_not d k = by (number_or_not k) (absent_or_not (kind_of d (below aside_folder (decimal k))))
  where
    by : ((1 ≤ k) × (k ≤ 4294967295)) ⊎ ((k < 1) ⊎ (4294967295 < k))
        → (kind_of d (below aside_folder (decimal k)) ≡ Absent) ⊎ (kind_of d (below aside_folder (decimal k)) ≢ Absent)
        → HasAside d k ⊎ (¬ HasAside d k)
    by (inl within) (inr there) = inl (within, there)
    by (inl within) (inl gone) = inr (λ h. h.1 gone)
    by (inr (inl low)) there = inr (λ h. let least = h.0.0 in let wrong : ⊥ = omega arith in wrong)
    by (inr (inr high)) there = inr (λ h. let most = h.0.1 in let wrong : ⊥ = omega arith in wrong)

-- the greatest number below a bound under which something stands
record Greatest (d : Disk) (m n : ℕ) : Type 0 where
  has : HasAside d n
  top : (k : ℕ) → k < m → HasAside d k → k ≤ n

abbrev NoneBelow : Disk → ℕ → Type 0
NoneBelow d m = (k : ℕ) → k < m → ¬ HasAside d k

greatest : (d : Disk) (m : ℕ) → NoneBelow d m ⊎ ((n : ℕ) × Greatest d m n)
greatest d zero = inl (λ k low has. let wrong : ⊥ = omega arith in wrong)
greatest d (suc m) = by (has_or_not d m) (greatest d m)
  where
    split : (k : ℕ) → k < suc m → (k < m) ⊎ (k ≡ m)
    split k low = grind arith

    by : HasAside d m ⊎ (¬ HasAside d m) → NoneBelow d m ⊎ ((n : ℕ) × Greatest d m n) → NoneBelow d (suc m) ⊎ ((n : ℕ) × Greatest d (suc m) n)
    by (inl has) rest = inr (m, record { has = has; top = λ k low h. omega arith })
    by (inr not_here) (inl none) = inl (λ k low h. elim (split k low) [ inl lower ↦ none k lower h | inr here ↦ not_here (subst (HasAside d) here h) ])
    by (inr not_here) (inr found) = inr (
      found.0,
      record {
        has = found.1.has;
        top = λ k low h. elim (split k low) [ inl lower ↦ found.1.top k lower h | inr here ↦ absurd (not_here (subst (HasAside d) here h)) ];
      },
    )

next_below : (d : Disk) (m : ℕ) → ((k : ℕ) → HasAside d k → k < m) → (n : ℕ) × IsNextAside d n
next_below d m within = by (greatest d m)
  where
    by : NoneBelow d m ⊎ ((n : ℕ) × Greatest d m n) → (n : ℕ) × IsNextAside d n
    by (inl none) = (1, record { above = λ k has. absurd (none k (within k has) has); least = inl refl })
    by (inr found) = (
      found.0 + 1,
      record {
        above = λ k has. let at_most = found.1.top k (within k has) has in omega arith;
        least = inr (found.0, found.1.has, refl);
      },
    )

pub next_number : (d : Disk) → (n : ℕ) × IsNextAside d n
next_number d = next_below d 4294967296 (λ k has. let most = has.0.1 in omega arith)
