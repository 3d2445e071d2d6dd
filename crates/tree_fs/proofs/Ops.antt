-- What each step does, in the words of a place.
use Rattle.std.proofs.Common.{◌≡◌, ◌≢◌, ◌⊎◌, ℕ, ◌+◌, ◌<◌, ◌==◌, Bool, true, false, [], refl, sym, ap, ◌∙◌, inl, inr, subst, arith}
use Rattle.std.proofs.lemmas.Bool.Decides.{Decides-eqb}
use Rattle.tree_fs.specs.declared.op.Op.{Op}
use Rattle.tree_fs.specs.declared.op.Op.TheVariants.{Link, Unlink, Rename, Create, Fill, MakeFolder, RemoveFolder, SyncFolder, SyncFile}
use Rattle.tree_fs.specs.declared.place.Place.{Place}
use Rattle.tree_fs.specs.Spot.{Spot, spot_of, is_entry}
use Rattle.tree_fs.specs.Disk.{Disk, Value, none, file, odd, MayHold, IsFile, IsValid, set_number, put, synced, is_one_file, renamed, after}
use Rattle.tree_fs.specs.Calls.{CanLink, CanUnlink, CanRename, CanPut}
use Rattle.tree_fs.specs.Frames.{HoldsWithin, SameFiles}
use Rattle.tree_fs.proofs.Functions.{set_at-same, set_at-other, set_number-same, set_number-other}
use Rattle.tree_fs.proofs.Disks.{now-put_at, now-put_other, MayHold-put, MayHold-put_keeps, MayHold-synced, before-synced_in, file-no_folder, valid-put, valid-synced, file-number}

abbrev pub is_done : Op → Bool
is_done (Link from to done) = done
is_done (Unlink at done) = done
is_done (Rename from to done) = done
is_done (Create at done) = done
is_done (Fill at bytes done) = done
is_done (MakeFolder at done) = done
is_done (RemoveFolder at done) = done
is_done (SyncFolder at done) = done
is_done (SyncFile at done) = done

-- a step that is not done changes nothing
pub after-not_done : (d : Disk) (op : Op) → is_done op ≡ false → after d op ≡ d
after-not_done d (Link from to false) e = refl
after-not_done d (Unlink at false) e = refl
after-not_done d (Rename from to false) e = refl
after-not_done d (Create at false) e = refl
after-not_done d (Fill at bytes false) e = refl
after-not_done d (MakeFolder at false) e = refl
after-not_done d (RemoveFolder at false) e = refl
after-not_done d (SyncFolder at false) e = refl
after-not_done d (SyncFile at false) e = refl
after-not_done d (Link from to true) e = absurd (cc)
after-not_done d (Unlink at true) e = absurd (cc)
after-not_done d (Rename from to true) e = absurd (cc)
after-not_done d (Create at true) e = absurd (cc)
after-not_done d (Fill at bytes true) e = absurd (cc)
after-not_done d (MakeFolder at true) e = absurd (cc)
after-not_done d (RemoveFolder at true) e = absurd (cc)
after-not_done d (SyncFolder at true) e = absurd (cc)
after-not_done d (SyncFile at true) e = absurd (cc)

-- Link

pub now-linked : (d : Disk) (from to : Place) → (after d (Link from to true)).now (spot_of to) ≡ d.now (spot_of from)
now-linked d from to = now-put_at d (spot_of to) _

pub now-linked_other : (d : Disk) (from to : Place) (q : Spot) → q ≢ spot_of to → (after d (Link from to true)).now q ≡ d.now q
now-linked_other d from to q ne = now-put_other d (spot_of to) _ q ne

pub MayHold-linked : (d : Disk) (from to : Place) (q : Spot) (v : Value) → MayHold (after d (Link from to true)) q v → ((q ≡ spot_of to) × (v ≡ d.now (spot_of from))) ⊎ MayHold d q v
MayHold-linked d from to q v h = MayHold-put d (spot_of to) q _ v h

pub valid-linked : (d : Disk) (from to : Place) (done : Bool) → IsValid d → CanLink d (spot_of from) (spot_of to) → IsValid (after d (Link from to done))
valid-linked d from to false valid can = valid
valid-linked d from to true valid can = valid-put d (spot_of to) _ valid (record {
  no_folder = can.no_folder;
  in_folder = λ ne. can.in_folder;
  number = λ n e. file-number d (spot_of from) n valid e;
})

-- Unlink

pub now-unlinked : (d : Disk) (at : Place) → (after d (Unlink at true)).now (spot_of at) ≡ none
now-unlinked d at = now-put_at d (spot_of at) none

pub now-unlinked_other : (d : Disk) (at : Place) (q : Spot) → q ≢ spot_of at → (after d (Unlink at true)).now q ≡ d.now q
now-unlinked_other d at q ne = now-put_other d (spot_of at) none q ne

pub MayHold-unlinked : (d : Disk) (at : Place) (q : Spot) (v : Value) → MayHold (after d (Unlink at true)) q v → ((q ≡ spot_of at) × (v ≡ none)) ⊎ MayHold d q v
MayHold-unlinked d at q v h = MayHold-put d (spot_of at) q none v h

pub valid-unlinked : (d : Disk) (at : Place) (done : Bool) → IsValid d → CanUnlink d (spot_of at) → IsValid (after d (Unlink at done))
valid-unlinked d at false valid can = valid
valid-unlinked d at true valid can = valid-put d (spot_of at) none valid (record {
  no_folder = file-no_folder d (spot_of at) valid can;
  in_folder = λ ne. absurd (ne refl);
  number = λ n e. absurd (cc);
})

-- Rename

pub is_one_file_tells : (v w : Value) → ((is_one_file v w ≡ true) × ((n : ℕ) × (v ≡ file n)) × (v ≡ w)) ⊎ ((is_one_file v w ≡ false) × ((n : ℕ) → v ≡ file n → w ≢ file n))
is_one_file_tells none w = inr (refl, λ n e. absurd (cc))
is_one_file_tells odd w = inr (refl, λ n e. absurd (cc))
is_one_file_tells (file m) none = inr (refl, λ n e f. absurd (cc))
is_one_file_tells (file m) odd = inr (refl, λ n e f. absurd (cc))
is_one_file_tells (file m) (file n) = by_test (m == n) refl
  where
    by_test : (b : Bool) → (m == n) ≡ b → (((m == n) ≡ true) × ((k : ℕ) × (file m ≡ file k)) × (file m ≡ file n)) ⊎ (((m == n) ≡ false) × ((k : ℕ) → file m ≡ file k → file n ≢ file k))
    by_test true e = inl (e, (m, refl), ap file ((Decides-eqb m n).0 e))
    by_test false e = inr (e, λ k f g. let is : m ≡ n = cc in let h : (m == n) ≡ true = (Decides-eqb m n).1 is in cc)

-- where both name one file nothing changes
pub renamed-one : (d : Disk) (from to : Spot) → is_one_file (d.now from) (d.now to) ≡ true → renamed d from to ≡ d
renamed-one d from to e = rw e refl

pub renamed-apart : (d : Disk) (from to : Spot) → is_one_file (d.now from) (d.now to) ≡ false → renamed d from to ≡ put (put d to (d.now from)) from none
renamed-apart d from to e = rw e refl

-- a file's two places are apart where it is not one file
renamed-places : (d : Disk) (from to : Spot) → IsFile d from → is_one_file (d.now from) (d.now to) ≡ false → to ≢ from
renamed-places d from to is apart e = elim (is_one_file_tells (d.now from) (d.now to)) [
  | inl s ↦ let h : true ≡ false = sym s.0 ∙ apart in cc
  | inr s ↦ s.1 is.0 is.1 (ap d.now e ∙ is.1)
]

pub now-renamed_to : (d : Disk) (from to : Spot) → IsFile d from → (renamed d from to).now to ≡ d.now from
now-renamed_to d from to is = elim (is_one_file_tells (d.now from) (d.now to)) [
  | inl s ↦ ap (λ (e : Disk). e.now to) (renamed-one d from to s.0) ∙ sym s.2
  | inr s ↦ ap (λ (e : Disk). e.now to) (renamed-apart d from to s.0) ∙ now-put_other (put d to (d.now from)) from none to (renamed-places d from to is s.0) ∙ now-put_at d to (d.now from)
]

pub now-renamed_from : (d : Disk) (from to : Spot) → is_one_file (d.now from) (d.now to) ≡ false → (renamed d from to).now from ≡ none
now-renamed_from d from to apart = ap (λ (e : Disk). e.now from) (renamed-apart d from to apart) ∙ now-put_at (put d to (d.now from)) from none

pub now-renamed_other : (d : Disk) (from to q : Spot) → q ≢ from → q ≢ to → (renamed d from to).now q ≡ d.now q
now-renamed_other d from to q not_from not_to = elim (is_one_file_tells (d.now from) (d.now to)) [
  | inl s ↦ ap (λ (e : Disk). e.now q) (renamed-one d from to s.0)
  | inr s ↦ ap (λ (e : Disk). e.now q) (renamed-apart d from to s.0) ∙ now-put_other (put d to (d.now from)) from none q not_from ∙ now-put_other d to (d.now from) q not_to
]

pub MayHold-renamed : (d : Disk) (from to q : Spot) (v : Value) → MayHold (renamed d from to) q v → ((q ≡ to) × (v ≡ d.now from)) ⊎ ((q ≡ from) × (v ≡ none)) ⊎ MayHold d q v
MayHold-renamed d from to q v h = elim (is_one_file_tells (d.now from) (d.now to)) [
  | inl s ↦ inr (inr (subst (λ (e : Disk). MayHold e q v) (renamed-one d from to s.0) h))
  | inr s ↦ elim (MayHold-put (put d to (d.now from)) from q none v (subst (λ (e : Disk). MayHold e q v) (renamed-apart d from to s.0) h)) [
    | inl gone ↦ inr (inl gone)
    | inr held ↦ elim (MayHold-put d to q (d.now from) v held) [ inl new ↦ inl new | inr old ↦ inr (inr old) ]
  ]
]

-- all but the values of places stays
pub same_files : (d : Disk) → SameFiles d d
same_files d = record { folders = refl; bytes = refl; firm = refl; fresh = refl }

pub renamed-files : (d : Disk) (from to : Spot) → SameFiles d (renamed d from to)
renamed-files d from to = elim (is_one_file_tells (d.now from) (d.now to)) [
  | inl s ↦ subst (SameFiles d) (sym (renamed-one d from to s.0)) (same_files d)
  | inr s ↦ subst (SameFiles d) (sym (renamed-apart d from to s.0)) (record { folders = refl; bytes = refl; firm = refl; fresh = refl })
]

pub valid-renamed : (d : Disk) (from to : Place) (done : Bool) → IsValid d → CanRename d (spot_of from) (spot_of to) → IsValid (after d (Rename from to done))
valid-renamed d from to false valid can = valid
valid-renamed d from to true valid can = elim (is_one_file_tells (d.now (spot_of from)) (d.now (spot_of to))) [
  | inl s ↦ subst (λ (e : Disk). IsValid e) (sym (renamed-one d (spot_of from) (spot_of to) s.0)) valid
  | inr s ↦ subst (λ (e : Disk). IsValid e) (sym (renamed-apart d (spot_of from) (spot_of to) s.0)) (
      let put_there = valid-put d (spot_of to) (d.now (spot_of from)) valid (record {
        no_folder = can.no_folder;
        in_folder = λ ne. can.in_folder;
        number = λ n e. file-number d (spot_of from) n valid e;
      }) in
      valid-put (put d (spot_of to) (d.now (spot_of from))) (spot_of from) none put_there (record {
        no_folder = file-no_folder d (spot_of from) valid can.source;
        in_folder = λ ne. absurd (ne refl);
        number = λ n e. absurd (cc);
      }))
]

-- Create

pub now-created : (d : Disk) (at : Place) → (after d (Create at true)).now (spot_of at) ≡ file d.fresh
now-created d at = set_at-same d.now (spot_of at) _

pub now-created_other : (d : Disk) (at : Place) (q : Spot) → q ≢ spot_of at → (after d (Create at true)).now q ≡ d.now q
now-created_other d at q ne = set_at-other d.now (spot_of at) _ q ne

pub MayHold-created : (d : Disk) (at : Place) (q : Spot) (v : Value) → MayHold (after d (Create at true)) q v → ((q ≡ spot_of at) × (v ≡ file d.fresh)) ⊎ MayHold d q v
MayHold-created d at q v h = MayHold-put (record d { bytes = set_number d.bytes d.fresh []; firm = set_number d.firm d.fresh false; fresh = d.fresh + 1 }) (spot_of at) q (file d.fresh) v h

pub bytes-created : (d : Disk) (at : Place) → (after d (Create at true)).bytes d.fresh ≡ []
bytes-created d at = set_number-same d.bytes d.fresh []

pub bytes-created_other : (d : Disk) (at : Place) (n : ℕ) → n < d.fresh → (after d (Create at true)).bytes n ≡ d.bytes n
bytes-created_other d at n lt = set_number-other d.bytes d.fresh [] n (λ e. omega arith)

pub firm-created : (d : Disk) (at : Place) → (after d (Create at true)).firm d.fresh ≡ false
firm-created d at = set_number-same d.firm d.fresh false

pub firm-created_other : (d : Disk) (at : Place) (n : ℕ) → n < d.fresh → (after d (Create at true)).firm n ≡ d.firm n
firm-created_other d at n lt = set_number-other d.firm d.fresh false n (λ e. omega arith)

-- the disk with one number more taken
numbered : Disk → Disk
numbered d = record d { bytes = set_number d.bytes d.fresh []; firm = set_number d.firm d.fresh false; fresh = d.fresh + 1 }

valid-numbered : (d : Disk) → IsValid d → IsValid (numbered d)
unfolding numbered
valid-numbered d valid = record {
  roots = valid.roots;
  nested = valid.nested;
  parents = valid.parents;
  bare = valid.bare;
  numbers = λ q n h. let lt : n < d.fresh = valid.numbers q n h in omega arith;
}

pub valid-created : (d : Disk) (at : Place) (done : Bool) → IsValid d → CanPut d (spot_of at) → IsValid (after d (Create at done))
unfolding numbered
valid-created d at false valid can = valid
valid-created d at true valid can = valid-put (numbered d) (spot_of at) (file d.fresh) (valid-numbered d valid) (record {
  no_folder = can.no_folder;
  in_folder = λ ne. can.in_folder;
  number = λ n e. let is : d.fresh ≡ n = cc in omega arith;
})

-- SyncFolder

pub before-synced : (d : Disk) (at : Place) (q : Spot) → is_entry (spot_of at) q ≡ true → (after d (SyncFolder at true)).before q ≡ []
before-synced d at q e = before-synced_in d (spot_of at) q e

pub valid-folder_synced : (d : Disk) (at : Place) (done : Bool) → IsValid d → IsValid (after d (SyncFolder at done))
valid-folder_synced d at true valid = valid-synced d (spot_of at) valid
valid-folder_synced d at false valid = valid

-- What places may hold, over all steps.

pub within-same : (d : Disk) → HoldsWithin d d
within-same d q v h = h

pub within-trans : (a b c : Disk) → HoldsWithin a b → HoldsWithin b c → HoldsWithin a c
within-trans a b c h k q v held = k q v (h q v held)

pub within-put : (d : Disk) (p : Spot) (v : Value) → HoldsWithin d (put d p v)
within-put d p v q w h = MayHold-put_keeps d p q v w h

pub within-synced : (d : Disk) (folder : Spot) → HoldsWithin (synced d folder) d
within-synced d folder q v h = MayHold-synced d folder q v h
