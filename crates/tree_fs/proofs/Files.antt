-- The bytes of files, and whether they are firm.
use Rattle.std.proofs.Common.{◌≡◌, ◌≢◌, ℕ, ◌<◌, Bool, true, false, List, refl, sym, ap, ◌∙◌, inl, inr, subst}
use Rattle.tree_fs.specs.declared.op.Op.TheVariants.{Fill, SyncFile}
use Rattle.tree_fs.specs.declared.place.Place.{Place}
use Rattle.tree_fs.specs.Spot.{Spot, spot_of, root_spot, parent}
use Rattle.tree_fs.specs.Disk.{Disk, Value, none, file, odd, IsIn, MayHold, IsValid, filled, made_firm, after}
use Rattle.tree_fs.proofs.Functions.{set_number_tells, set_number-same, set_number-other}

-- the places stay as they are
pub record SamePlaces (d e : Disk) : Type 0 where
  pub folders : e.folders ≡ d.folders
  pub now : e.now ≡ d.now
  pub before : e.before ≡ d.before
  pub fresh : e.fresh ≡ d.fresh

pub filled-places : (d : Disk) (v : Value) (bytes : List ℕ) → SamePlaces d (filled d v bytes)
filled-places d none bytes = record { folders = refl; now = refl; before = refl; fresh = refl }
filled-places d odd bytes = record { folders = refl; now = refl; before = refl; fresh = refl }
filled-places d (file n) bytes = record { folders = refl; now = refl; before = refl; fresh = refl }

pub made_firm-places : (d : Disk) (v : Value) → SamePlaces d (made_firm d v)
made_firm-places d none = record { folders = refl; now = refl; before = refl; fresh = refl }
made_firm-places d odd = record { folders = refl; now = refl; before = refl; fresh = refl }
made_firm-places d (file n) = record { folders = refl; now = refl; before = refl; fresh = refl }

pub filled-file : (d : Disk) (at : Place) (bytes : List ℕ) (n : ℕ) → d.now (spot_of at) ≡ file n → after d (Fill at bytes true) ≡ filled d (file n) bytes
filled-file d at bytes n e = ap (λ v. filled d v bytes) e

pub made_firm-file : (d : Disk) (at : Place) (n : ℕ) → d.now (spot_of at) ≡ file n → after d (SyncFile at true) ≡ made_firm d (file n)
made_firm-file d at n e = ap (made_firm d) e

pub bytes-filled : (d : Disk) (n : ℕ) (bytes : List ℕ) → (filled d (file n) bytes).bytes n ≡ bytes
bytes-filled d n bytes = set_number-same d.bytes n bytes

pub bytes-filled_other : (d : Disk) (n k : ℕ) (bytes : List ℕ) → k ≢ n → (filled d (file n) bytes).bytes k ≡ d.bytes k
bytes-filled_other d n k bytes ne = set_number-other d.bytes n bytes k ne

pub firm-filled : (d : Disk) (n : ℕ) (bytes : List ℕ) → (filled d (file n) bytes).firm n ≡ false
firm-filled d n bytes = set_number-same d.firm n false

pub firm-filled_other : (d : Disk) (n k : ℕ) (bytes : List ℕ) → k ≢ n → (filled d (file n) bytes).firm k ≡ d.firm k
firm-filled_other d n k bytes ne = set_number-other d.firm n false k ne

pub bytes-made_firm : (d : Disk) (v : Value) → (made_firm d v).bytes ≡ d.bytes
bytes-made_firm d none = refl
bytes-made_firm d odd = refl
bytes-made_firm d (file n) = refl

pub firm-made : (d : Disk) (n : ℕ) → (made_firm d (file n)).firm n ≡ true
firm-made d n = set_number-same d.firm n true

pub firm-made_other : (d : Disk) (n k : ℕ) → k ≢ n → (made_firm d (file n)).firm k ≡ d.firm k
firm-made_other d n k ne = set_number-other d.firm n true k ne

-- what was firm stays firm
pub firm-made_keeps : (d : Disk) (v : Value) (k : ℕ) → d.firm k ≡ true → (made_firm d v).firm k ≡ true
firm-made_keeps d none k e = e
firm-made_keeps d odd k e = e
firm-made_keeps d (file n) k e = elim (set_number_tells d.firm n true k) [ inl s ↦ s.0 | inr s ↦ s.0 ∙ e ]

pub same_places-hold : (d e : Disk) (q : Spot) (v : Value) → SamePlaces d e → MayHold e q v → MayHold d q v
same_places-hold d e q v same (inl is) = inl (is ∙ ap (λ f. f q) same.now)
same_places-hold d e q v same (inr h) = inr (subst (λ f. IsIn v (f q)) same.before h)

pub valid-same_places : (d e : Disk) → SamePlaces d e → IsValid d → IsValid e
valid-same_places d e same valid = record {
  roots = λ r. ap (λ f. f (root_spot r)) same.folders ∙ valid.roots r;
  nested = λ q is. ap (λ f. f (parent q)) same.folders ∙ valid.nested q (ap (λ f. f q) (sym same.folders) ∙ is);
  parents = λ q v h ne. ap (λ f. f (parent q)) same.folders ∙ valid.parents q v (same_places-hold d e q v same h) ne;
  bare = λ q is. ap (λ f. f q) same.now ∙ valid.bare q (ap (λ f. f q) (sym same.folders) ∙ is);
  numbers = λ q n h. subst (λ k. n < k) (sym same.fresh) (valid.numbers q n (same_places-hold d e q (file n) same h));
}

pub valid-filled : (d : Disk) (at : Place) (bytes : List ℕ) (done : Bool) → IsValid d → IsValid (after d (Fill at bytes done))
valid-filled d at bytes false valid = valid
valid-filled d at bytes true valid = valid-same_places d _ (filled-places d (d.now (spot_of at)) bytes) valid

pub valid-file_synced : (d : Disk) (at : Place) (done : Bool) → IsValid d → IsValid (after d (SyncFile at done))
valid-file_synced d at false valid = valid
valid-file_synced d at true valid = valid-same_places d _ (made_firm-places d (d.now (spot_of at))) valid
