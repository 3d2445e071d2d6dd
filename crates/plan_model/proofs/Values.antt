-- Files and none.
use Rattle.std.specs.declared.option.Option.TheVariants.{None, Some}
use Rattle.std.specs.declared.option.Option.{Option}
use Rattle.std.proofs.Common.{◌≡◌, ◌≢◌, ℕ, ◌==◌, Bool, true, false, if◌then◌else◌, refl, sym, ap, ◌∙◌, inl, inr, arith}
use Rattle.std.proofs.lemmas.Bool.Decides.{nat_tests}
use Rattle.tree_fs.specs.declared.name.Kind.TheVariants.{File}
use Rattle.tree_fs.specs.Spot.{Spot}
use Rattle.tree_fs.specs.Disk.{Disk, Value, none, file, odd, IsFile, IsValid, kind_of, is_one_file}
use Rattle.tree_fs.proofs.KindOf.{kind-file, kind-absent, file-kind}
use Rattle.desk_model.specs.Desk.{file_or_none, without_manifest, is_file}
use Rattle.desk_model.specs.Places.{manifest_spot}
use Rattle.tree_fs.proofs.Spots.{spot_eq_tells}
use Rattle.plan_model.specs.Rows.{IsFileOrAbsent}

-- a value that is a file
pub data HasFile (v : Value) : Type 0 where
  the_file : (n : ℕ) → v ≡ file n → HasFile v

pub file_true : (v : Value) → is_file v ≡ true → HasFile v
file_true none e = absurd (cc)
file_true (file n) e = the_file n refl
file_true odd e = absurd (cc)

pub has_file : (a : Disk) (x : Spot) → IsFile a x → HasFile (a.now x)
has_file a x h = the_file h.0 h.1

pub is_file-at : (a : Disk) (x : Spot) → HasFile (a.now x) → IsFile a x
is_file-at a x (the_file n e) = (n, e)

pub its_file : (v : Value) → HasFile v → file_or_none v ≡ v
its_file v (the_file n e) = ap file_or_none e ∙ sym e

pub file_some : (v : Value) → HasFile v → v ≢ none
file_some v (the_file n e) is = let t : file n ≡ none = sym e ∙ is in cc

pub no_file : (v : Value) → is_file v ≡ false → file_or_none v ≡ none
no_file none e = refl
no_file (file n) e = absurd (cc)
no_file odd e = refl

pub is_none : (v : Value) → is_file v ≡ false → v ≢ odd → v ≡ none
is_none none e ne = refl
is_none (file n) e ne = absurd (cc)
is_none odd e ne = absurd (ne refl)

pub one_file-tells : (v w : Value) → is_one_file v w ≡ true → HasFile v × (v ≡ w)
one_file-tells none w e = absurd (cc)
one_file-tells odd w e = absurd (cc)
one_file-tells (file m) none e = absurd (cc)
one_file-tells (file m) odd e = absurd (cc)
one_file-tells (file m) (file n) e = (the_file m refl, ap file (same m n e))
  where
    same : (m n : ℕ) → (m == n) ≡ true → m ≡ n
    same m n t = grind (arith, nat_tests)

-- what a kind tells
pub file_or_absent-not_odd : (a : Disk) (x : Spot) → IsFileOrAbsent a x → a.now x ≢ odd
file_or_absent-not_odd a x (inl absent) e = let t : none ≡ odd = sym (kind-absent a x absent).1 ∙ e in cc
file_or_absent-not_odd a x (inr is) e = let f = (kind-file a x is).1 in let t : file f.0 ≡ odd = sym f.1 ∙ e in cc

-- a file's place is no folder
pub file-no_folder : (a : Disk) (x : Spot) → IsValid a → HasFile (a.now x) → a.folders x ≡ false
file-no_folder a x valid h = by_test (a.folders x) refl
  where
    by_test : (b : Bool) → a.folders x ≡ b → b ≡ false
    by_test false e = refl
    by_test true e = absurd (file_some (a.now x) h (valid.bare x e))

pub has_file-kind : (a : Disk) (x : Spot) → IsValid a → HasFile (a.now x) → kind_of a x ≡ File
has_file-kind a x valid h = file-kind a x (file-no_folder a x valid h) (is_file-at a x h)

-- the manifest's own place counts as empty, and no other
pub off_manifest : (f : Spot → Value) (x : Spot) → x ≢ manifest_spot → without_manifest f x ≡ f x
unfolding without_manifest
off_manifest f x ne = elim (spot_eq_tells x manifest_spot) [ inl s ↦ absurd (ne s.1) | inr s ↦ λ i. if s.0 i then none else f x ]

-- nothing is some
pub not_some : {A : Type 0} (o : Option A) (x : A) → o ≡ None → o ≡ Some x → ⊥
not_some o x e f = let t : None ≡ Some x = sym e ∙ f in cc
