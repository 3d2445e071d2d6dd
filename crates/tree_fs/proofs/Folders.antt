-- Folders that are made and removed.
use Rattle.std.proofs.Common.{◌≡◌, ◌≢◌, ℕ, Bool, true, false, List, [], sym, ap, ◌∙◌, inl, inr, subst}
use Rattle.tree_fs.specs.declared.name.Kind.TheVariants.{Absent}
use Rattle.tree_fs.specs.declared.op.Op.TheVariants.{MakeFolder, RemoveFolder}
use Rattle.tree_fs.specs.declared.place.Place.{Place}
use Rattle.tree_fs.specs.Spot.{Spot, spot_of, root_spot, parent, below}
use Rattle.tree_fs.specs.Disk.{Disk, Value, none, MayHold, IsValid, kind_of, after}
use Rattle.tree_fs.specs.Calls.{CanMakeFolder, CanRemoveFolder}
use Rattle.tree_fs.proofs.Spots.{root_or_below}
use Rattle.tree_fs.proofs.Disks.{MayHold-settled}
use Rattle.tree_fs.proofs.KindOf.{kind-absent}
use Rattle.tree_fs.proofs.Functions.{set_at_tells, set_at-same, set_at-other}

pub folders-made : (d : Disk) (at : Place) → (after d (MakeFolder at true)).folders (spot_of at) ≡ true
folders-made d at = set_at-same d.folders (spot_of at) true

pub folders-made_other : (d : Disk) (at : Place) (q : Spot) → q ≢ spot_of at → (after d (MakeFolder at true)).folders q ≡ d.folders q
folders-made_other d at q ne = set_at-other d.folders (spot_of at) true q ne

-- a folder stays one
pub folders-made_keeps : (d : Disk) (at : Place) (q : Spot) → d.folders q ≡ true → (after d (MakeFolder at true)).folders q ≡ true
folders-made_keeps d at q e = elim (set_at_tells d.folders (spot_of at) true q) [ inl s ↦ s.0 | inr s ↦ s.0 ∙ e ]

pub folders-removed : (d : Disk) (at : Place) → (after d (RemoveFolder at true)).folders (spot_of at) ≡ false
folders-removed d at = set_at-same d.folders (spot_of at) false

pub folders-removed_other : (d : Disk) (at : Place) (q : Spot) → q ≢ spot_of at → (after d (RemoveFolder at true)).folders q ≡ d.folders q
folders-removed_other d at q ne = set_at-other d.folders (spot_of at) false q ne

pub valid-folder_made : (d : Disk) (at : Place) (done : Bool) → IsValid d → CanMakeFolder d (spot_of at) → IsValid (after d (MakeFolder at done))
valid-folder_made d at false valid can = valid
valid-folder_made d at true valid can = record {
  roots = λ r. folders-made_keeps d at (root_spot r) (valid.roots r);
  nested = λ q is. folders-made_keeps d at (parent q) (elim (set_at_tells d.folders (spot_of at) true q) [
    | inl s ↦ subst (λ x. d.folders (parent x) ≡ true) (sym s.1) can.in_folder
    | inr s ↦ valid.nested q (sym s.0 ∙ is)
  ]);
  parents = λ q v h ne. folders-made_keeps d at (parent q) (valid.parents q v h ne);
  bare = λ q is. elim (set_at_tells d.folders (spot_of at) true q) [
    | inl s ↦ ap d.now s.1 ∙ can.absent
    | inr s ↦ valid.bare q (sym s.0 ∙ is)
  ];
  numbers = valid.numbers;
}

-- the parent of what is no entry of the folder is another folder
parent-not : (d : Disk) (at q : Spot) → at.names ≢ [] → ((n : List ℕ) → q ≢ below at n) → parent q ≢ at
parent-not d at q some apart e = elim (root_or_below q) [
  | inl root ↦ some (ap (λ s. s.names) (sym (sym root.0 ∙ sym root.1 ∙ e)))
  | inr named ↦ apart named.0 (named.1 ∙ ap (λ f. below f named.0) e)
]

-- where nothing is and nothing is pending, nothing is held
none-left : (d : Disk) (q : Spot) (v : Value) → kind_of d q ≡ Absent → d.before q ≡ [] → MayHold d q v → v ≡ none
none-left d q v absent settled h = MayHold-settled d q v settled h ∙ (kind-absent d q absent).1

pub valid-folder_removed : (d : Disk) (at : Place) (done : Bool) → IsValid d → CanRemoveFolder d (spot_of at) → IsValid (after d (RemoveFolder at done))
valid-folder_removed d at false valid can = valid
valid-folder_removed d at true valid can = record {
  roots = λ r. folders-removed_other d at (root_spot r) (λ e. can.not_root (ap (λ s. s.names) (sym e))) ∙ valid.roots r;
  nested = λ q is. elim (set_at_tells d.folders (spot_of at) false q) [
    | inl s ↦ let h : true ≡ false = sym is ∙ s.0 in absurd (cc)
    | inr s ↦
        let there : d.folders q ≡ true = sym s.0 ∙ is in
        folders-removed_other d at (parent q) (parent-not d (spot_of at) q can.not_root (λ n e. let h : true ≡ false = sym there ∙ ap d.folders e ∙ (kind-absent d (below (spot_of at) n) (can.empty n)).0 in cc)) ∙ valid.nested q there
  ];
  parents = λ q v h ne.
      folders-removed_other d at (parent q) (parent-not d (spot_of at) q can.not_root (λ n e. ne (none-left d (below (spot_of at) n) v (can.empty n) (can.settled n) (subst (λ x. MayHold d x v) e h)))) ∙ valid.parents q v h ne;
  bare = λ q is. elim (set_at_tells d.folders (spot_of at) false q) [
    | inl s ↦ let h : true ≡ false = sym is ∙ s.0 in absurd (cc)
    | inr s ↦ valid.bare q (sym s.0 ∙ is)
  ];
  numbers = valid.numbers;
}
