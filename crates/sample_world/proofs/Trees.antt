-- Calls that put files and folders, on a disk of files.
use Rattle.std.proofs.Common.{◌≡◌, ◌≢◌, ℕ, zero, suc, not, false, List, [], ◌∷◌, ◌++◌, true, cond, position, Some, None, refl, sym, ap, subst, ◌∙◌}
use Rattle.list_laws.proofs.Truths.{or_false}
use Rattle.tree_fs.specs.Calls.{CanPut}
use Rattle.tree_fs.specs.Disk.{Disk}
use Rattle.tree_fs.specs.Places.{folder_above}
use Rattle.tree_fs.specs.Spot.{Spot, has_some, parent}
use Rattle.tree_fs.specs.Story.{disk_of}
use Rattle.tree_fs.proofs.Functions.{same_disk}
use Rattle.tree_mem.specs.declared.mem_tree.MemTree.{MemTree}
use Rattle.tree_mem.specs.Changed.{empty_disk, with_file, with_folder, settled_at}
use Rattle.tree_mem.specs.MemStory.{mem_story, Begins, faults_of, failures_of, calls_of, KeepsPlan}
use Rattle.sample_world.specs.Files.{WorldFile}
use Rattle.sample_world.specs.Worlds.{disk_with, disk_of_files, HasFiles}
use Rattle.sample_world.proofs.Standing.{stands_at, folder_added, file_added}

pub disk_is : (files : List WorldFile) (tree : MemTree) → HasFiles files tree → disk_of (mem_story tree) ≡ disk_of_files files
disk_is files tree h = ap disk_of h.begins

pub can_put_at : (d e : Disk) (p q : Spot) → d ≡ e → p ≡ q → CanPut e q → CanPut d p
can_put_at d e p q disk place h = subst (λ x. CanPut x p) (sym disk) (subst (λ y. CanPut e y) (sym place) h)

-- What the calls leave

pub folder_put : (folders : List Spot) (files : List WorldFile) (a : Spot) (d : Disk) (p : Spot) → d ≡ disk_with folders files → p ≡ a → settled_at (with_folder d p) p ≡ disk_with (folders ++ a ∷ []) files
folder_put folders files a d p disk place = (λ i. settled_at (with_folder (disk i) (place i)) (place i)) ∙ folder_added folders files a

pub file_put : (folders : List Spot) (files : List WorldFile) (f : WorldFile) (d : Disk) (p : Spot) (bytes : List ℕ) → position (stands_at f.at) files ≡ None → d ≡ disk_with folders files → p ≡ f.at → bytes ≡ f.bytes
    → settled_at (with_file d p bytes) p ≡ disk_with folders (files ++ f ∷ [])
file_put folders files f d p bytes free disk place is = (λ i. settled_at (with_file (disk i) (place i) (is i)) (place i)) ∙ file_added folders files f free

-- The tree after a call that begins a story

pub tree_has : (before after : List WorldFile) (d : Disk) (old new : MemTree) → HasFiles before old → d ≡ disk_of_files after → Begins d new → faults_of new ≡ faults_of old → KeepsPlan old new → HasFiles after new
tree_has before after d old new h disk begins faults plan = record {
  begins = begins ∙ (λ i. record { start = disk i; ops = [] });
  faults = faults ∙ h.faults;
  failures = plan.failures ∙ h.failures;
  calls = plan.calls ∙ h.calls;
}

empty_is : disk_of_files [] ≡ empty_disk
unfolding disk_with
empty_is = same_disk (disk_of_files []) empty_disk record {
  folders = λ q. or_false (not (has_some q.names)) false refl;
  now = λ q. refl;
  before = λ q. refl;
  bytes = no_bytes;
  firm = λ n. refl;
  fresh = refl;
}
  where
    no_bytes : (n : ℕ) → (disk_of_files []).bytes n ≡ []
    no_bytes zero = refl
    no_bytes (suc n) = refl

pub tree_new : (tree : MemTree) → Begins empty_disk tree → faults_of tree ≡ 0 → (failures_of tree ≡ []) × (calls_of tree ≡ 0) → HasFiles [] tree
tree_new tree begins faults plan = record {
  begins = begins ∙ (λ i. record { start = sym empty_is i; ops = [] });
  faults = faults;
  failures = plan.0;
  calls = plan.1;
}

-- one call after another
pub tree_kept : (a b c : MemTree) → KeepsPlan a b → KeepsPlan b c → KeepsPlan a c
tree_kept a b c h g = record { failures = g.failures ∙ h.failures; calls = g.calls ∙ h.calls }

-- The folder that a place lies in

some_names : (ns : List (List ℕ)) → ns ≢ [] → has_some ns ≡ true
some_names [] ne = absurd (ne refl)
some_names (n ∷ ns) ne = refl

above_is : (at : Spot) → at.names ≢ [] → folder_above at ≡ Some (parent at)
above_is at ne = ap (λ b. cond b (Some (parent at)) None) (some_names at.names ne)

pub parent_is : (at folder : Spot) → at.names ≢ [] → Some folder ≡ folder_above at → folder ≡ parent at
parent_is at folder ne h = let e : Some folder ≡ Some (parent at) = h ∙ above_is at ne in cc

pub has_parent : (at : Spot) → at.names ≢ [] → None ≡ folder_above at → ⊥
has_parent at ne h = let e : None ≡ Some (parent at) = h ∙ above_is at ne in cc
