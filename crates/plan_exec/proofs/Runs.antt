-- Runs with few syncs.
use Rattle.std.proofs.Common.{◌≡◌, ℕ, ◌+◌, ◌≤◌, sym, subst, arith}
use Rattle.tree_fs.specs.Disk.{Disk}
use Rattle.tree_fs.specs.Story.{Story, disk_of}
use Rattle.tree_fs.proofs.Moments.{along_here, along_trans, along_weaken, along_last}
use Rattle.intent_journal.proofs.Counting.{syncs_none, syncs_more, syncs_trans}
use Rattle.plan_exec.specs.Counts.{Runs}

pub runs_here : (P : Disk → Type 0) (s : Story) → P (disk_of s) → Runs 0 P s s
runs_here P s h = record { along = along_here P s h; syncs = syncs_none s }

pub runs_unchanged : (P : Disk → Type 0) (s t : Story) → t ≡ s → P (disk_of s) → Runs 0 P s t
runs_unchanged P s t is h = subst (λ u. Runs 0 P s u) (sym is) (runs_here P s h)

pub runs_weaken : (n : ℕ) (P Q : Disk → Type 0) (s t : Story) → ((e : Disk) → P e → Q e) → Runs n P s t → Runs n Q s t
runs_weaken n P Q s t to r = record { along = along_weaken P Q s t to r.along; syncs = r.syncs }

pub runs_trans : (m n : ℕ) (P : Disk → Type 0) (s t u : Story) → Runs m P s t → Runs n P t u → Runs (m + n) P s u
runs_trans m n P s t u a b = record { along = along_trans P s t u a.along b.along; syncs = syncs_trans m n s t u a.syncs b.syncs }

pub runs_last : (n : ℕ) (P : Disk → Type 0) (s t : Story) → Runs n P s t → P (disk_of t)
runs_last n P s t r = along_last P s t r.along

pub runs_more : (m n : ℕ) (P : Disk → Type 0) (s t : Story) → m ≤ n → Runs m P s t → Runs n P s t
runs_more m n P s t le r = record { along = r.along; syncs = syncs_more m n s t le r.syncs }

pub runs_then : (n : ℕ) (P : Disk → Type 0) (s t u : Story) → Runs 0 P s t → Runs n P t u → Runs n P s u
runs_then n P s t u a b = runs_more (0 + n) n P s u (omega arith) (runs_trans 0 n P s t u a b)
