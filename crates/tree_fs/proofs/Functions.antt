-- Functions that differ at one place.
use Rattle.std.proofs.Common.{◌≡◌, ◌≢◌, ◌⊎◌, ℕ, refl, sym, ap, ◌∙◌, arith, inl, inr}
use Rattle.std.proofs.lemmas.Bool.Decides.{eqb_tells}
pub use Rattle.list_laws.proofs.Truths.{same_function}
use Rattle.tree_fs.specs.Spot.{Spot}
use Rattle.tree_fs.specs.Disk.{Disk, set_at, set_number}
use Rattle.tree_fs.proofs.Spots.{spot_eq-same, spot_eq_tells}

pub set_at_tells : {X : Type 0} (f : Spot → X) (p : Spot) (x : X) (q : Spot) → ((set_at f p x q ≡ x) × (q ≡ p)) ⊎ ((set_at f p x q ≡ f q) × (q ≢ p))
unfolding set_at
set_at_tells f p x q = grind (arith, spot_eq_tells)

pub set_at-same : {X : Type 0} (f : Spot → X) (p : Spot) (x : X) → set_at f p x p ≡ x
unfolding set_at
set_at-same f p x = rw spot_eq-same

pub set_at-other : {X : Type 0} (f : Spot → X) (p : Spot) (x : X) (q : Spot) → q ≢ p → set_at f p x q ≡ f q
set_at-other f p x q ne = grind (arith, set_at_tells)

-- where the value stays
pub set_at-value : {X : Type 0} (f : Spot → X) (p : Spot) (x : X) (q : Spot) → f p ≡ x → set_at f p x q ≡ f q
set_at-value f p x q is = elim (set_at_tells f p x q) [ inl s ↦ s.0 ∙ sym is ∙ ap f (sym s.1) | inr s ↦ s.0 ]

pub set_number_tells : {X : Type 0} (f : ℕ → X) (n : ℕ) (x : X) (k : ℕ) → ((set_number f n x k ≡ x) × (k ≡ n)) ⊎ ((set_number f n x k ≡ f k) × (k ≢ n))
unfolding set_number
set_number_tells f n x k = grind (arith, eqb_tells)

pub set_number-same : {X : Type 0} (f : ℕ → X) (n : ℕ) (x : X) → set_number f n x n ≡ x
set_number-same f n x = elim (set_number_tells f n x n) [ inl s ↦ s.0 | inr s ↦ absurd (s.1 refl) ]

pub set_number-other : {X : Type 0} (f : ℕ → X) (n : ℕ) (x : X) (k : ℕ) → k ≢ n → set_number f n x k ≡ f k
set_number-other f n x k ne = elim (set_number_tells f n x k) [ inl s ↦ absurd (ne s.1) | inr s ↦ s.0 ]

-- two disks that agree in every part are one
pub record SameDisk (d e : Disk) : Type 0 where
  pub folders : (q : Spot) → d.folders q ≡ e.folders q
  pub now : (q : Spot) → d.now q ≡ e.now q
  pub before : (q : Spot) → d.before q ≡ e.before q
  pub bytes : (n : ℕ) → d.bytes n ≡ e.bytes n
  pub firm : (n : ℕ) → d.firm n ≡ e.firm n
  pub fresh : d.fresh ≡ e.fresh

pub same_disk : (d e : Disk) → SameDisk d e → d ≡ e
same_disk d e s = λ i. record {
  folders = λ q. s.folders q i;
  now = λ q. s.now q i;
  before = λ q. s.before q i;
  bytes = λ n. s.bytes n i;
  firm = λ n. s.firm n i;
  fresh = s.fresh i;
}
