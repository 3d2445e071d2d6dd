-- Disks whose places hold fewer values than those of another.
use Rattle.std.proofs.Common.{◌≡◌, ◌≢◌, ◌⊎◌, ℕ, ◌+◌, Bool, true, false, List, [], refl, sym, ap, ◌∙◌, inl, inr, subst}
use Rattle.tree_fs.specs.declared.op.Op.{Op}
use Rattle.tree_fs.specs.declared.op.Op.TheVariants.{Link, Unlink, Rename, Create, Fill, MakeFolder, RemoveFolder, SyncFolder, SyncFile}
use Rattle.tree_fs.specs.Spot.{Spot, spot_of}
use Rattle.tree_fs.specs.Disk.{Disk, Value, none, file, odd, IsSettled, HoldsOnly, MayHold, IsValid, Image, set_number, put, synced, created, filled, made_firm, after}
use Rattle.tree_fs.specs.Frames.{HoldsWithin, SameFiles, Fewer, IsGentle}
use Rattle.tree_fs.proofs.Functions.{same_function, set_number_tells}
use Rattle.tree_fs.proofs.Disks.{MayHold-settled, MayHold-put_keeps, MayHold-synced}
use Rattle.tree_fs.proofs.Files.{made_firm-places, bytes-made_firm, firm-made_keeps, bytes-filled_other, firm-filled_other}
use Rattle.tree_fs.proofs.Ops.{within-same, renamed-files}
use Rattle.tree_fs.proofs.Growth.{within-same_places, grows_or_shrinks}

pub fewer-same : (d : Disk) → Fewer d d
fewer-same d = record { folders = refl; within = within-same d; files = λ n firm. (firm, refl) }

pub fewer-trans : (a d e : Disk) → Fewer a d → Fewer d e → Fewer a e
fewer-trans a d e h k = record {
  folders = h.folders ∙ k.folders;
  within = λ q v held. k.within q v (h.within q v held);
  files = λ n firm. let b = k.files n firm in let c = h.files n b.0 in (c.0, c.1 ∙ b.1);
}

-- a stop leaves fewer values
pub image-fewer : (d left : Disk) → IsValid d → Image d left → Fewer left d
image-fewer d left valid image = record {
  folders = same_function left.folders d.folders image.folders;
  within = λ q v h. subst (MayHold d q) (sym (MayHold-settled left q v (image.settled q) h)) (by_test q (d.folders q) refl);
  files = λ n firm. (image.firm n, image.bytes n firm);
}
  where
    by_test : (q : Spot) (b : Bool) → d.folders q ≡ b → MayHold d q (left.now q)
    by_test q false e = image.value q e
    by_test q true e = inl (image.bare q e ∙ sym (valid.bare q e))

-- what is settled is so with fewer values
module _ (e d : Disk) (less : Fewer e d) where
  pub settled-now : (x : Spot) → IsSettled d x → e.now x ≡ d.now x
  settled-now x one = one (e.now x) (less.within x (e.now x) (inl refl))

  pub settled-fewer : (x : Spot) → IsSettled d x → IsSettled e x
  settled-fewer x one v h = one v (less.within x v h) ∙ sym (settled-now x one)

  pub only-fewer : (x : Spot) (v : Value) → HoldsOnly d x v → HoldsOnly e x v
  only-fewer x v only w h = only w (less.within x w h)

  pub only-now : (x : Spot) (v : Value) → HoldsOnly d x v → (e.now x ≡ v) × (d.now x ≡ v)
  only-now x v only = (only (e.now x) (less.within x (e.now x) (inl refl)), only (d.now x) (inl refl))

-- before a new value there are fewer, and after a sync
pub put-fewer : (d : Disk) (x : Spot) (v : Value) → Fewer d (put d x v)
put-fewer d x v = record { folders = refl; within = λ q w h. MayHold-put_keeps d x q v w h; files = λ n firm. (firm, refl) }

pub synced-fewer : (d : Disk) (folder : Spot) → Fewer (synced d folder) d
synced-fewer d folder = record { folders = refl; within = λ q w h. MayHold-synced d folder q w h; files = λ n firm. (firm, refl) }

pub created-fewer : (d : Disk) (at : Spot) → Fewer d (created d at)
created-fewer d at = record {
  folders = refl;
  within = λ q v h. MayHold-put_keeps (record d { bytes = set_number d.bytes d.fresh []; firm = set_number d.firm d.fresh false; fresh = d.fresh + 1 }) at q (file d.fresh) v h;
  files = λ n firm. elim (set_number_tells d.firm d.fresh false n) [
    | inl s ↦ let t : true ≡ false = sym firm ∙ s.0 in absurd (cc)
    | inr s ↦ (sym s.0 ∙ firm, elim (set_number_tells d.bytes d.fresh [] n) [ inl t ↦ absurd (s.1 t.1) | inr t ↦ sym t.0 ])
  ];
}

pub filled-fewer : (d : Disk) (v : Value) (bytes : List ℕ) → ((n : ℕ) → v ≡ file n → d.firm n ≡ false) → Fewer (filled d v bytes) d
filled-fewer d none bytes soft = fewer-same d
filled-fewer d odd bytes soft = fewer-same d
filled-fewer d (file m) bytes soft = record {
  folders = refl;
  within = λ q v h. h;
  files = λ n firm.
      let ne : n ≢ m = λ is. let t : true ≡ false = sym firm ∙ ap d.firm is ∙ soft m refl in cc in
      (firm-filled_other d m n bytes ne ∙ firm, bytes-filled_other d m n bytes ne);
}

pub made_firm-fewer : (d : Disk) (v : Value) → Fewer (made_firm d v) d
made_firm-fewer d v = record {
  folders = (made_firm-places d v).folders;
  within = within-same_places d (made_firm d v) (made_firm-places d v);
  files = λ n firm. (firm-made_keeps d v n firm, ap (λ b. b n) (bytes-made_firm d v));
}

-- with the same files, more values or fewer
pub same_files-fewer : (d e : Disk) → SameFiles d e → HoldsWithin d e ⊎ HoldsWithin e d → Fewer d e ⊎ Fewer e d
same_files-fewer d e same (inl grows) = inl (record {
  folders = sym same.folders;
  within = grows;
  files = λ n firm. (sym (ap (λ f. f n) same.firm) ∙ firm, sym (ap (λ f. f n) same.bytes));
})
same_files-fewer d e same (inr shrinks) = inr (record {
  folders = same.folders;
  within = shrinks;
  files = λ n firm. (ap (λ f. f n) same.firm ∙ firm, ap (λ f. f n) same.bytes);
})

plain_files : (d e : Disk) → e.folders ≡ d.folders → e.bytes ≡ d.bytes → e.firm ≡ d.firm → e.fresh ≡ d.fresh → SameFiles d e
plain_files d e folders bytes firm fresh = record { folders = folders; bytes = bytes; firm = firm; fresh = fresh }

-- a gentle step leaves a disk that holds more values, or fewer
pub step-fewer : (d : Disk) (op : Op) → IsGentle d op → Fewer d (after d op) ⊎ Fewer (after d op) d
step-fewer d (Link from to true) gentle = same_files-fewer d _ (plain_files d _ refl refl refl refl) (grows_or_shrinks d (Link from to true))
step-fewer d (Unlink at true) gentle = same_files-fewer d _ (plain_files d _ refl refl refl refl) (grows_or_shrinks d (Unlink at true))
step-fewer d (Rename from to true) gentle = same_files-fewer d _ (renamed-files d (spot_of from) (spot_of to)) (grows_or_shrinks d (Rename from to true))
step-fewer d (Create at true) gentle = inl (created-fewer d (spot_of at))
step-fewer d (Fill at bytes true) gentle = inr (filled-fewer d (d.now (spot_of at)) bytes gentle)
step-fewer d (MakeFolder at true) gentle = absurd gentle
step-fewer d (RemoveFolder at true) gentle = absurd gentle
step-fewer d (SyncFolder at true) gentle = same_files-fewer d _ (plain_files d _ refl refl refl refl) (grows_or_shrinks d (SyncFolder at true))
step-fewer d (SyncFile at true) gentle = inr (made_firm-fewer d (d.now (spot_of at)))
step-fewer d (Link from to false) gentle = inl (fewer-same d)
step-fewer d (Unlink at false) gentle = inl (fewer-same d)
step-fewer d (Rename from to false) gentle = inl (fewer-same d)
step-fewer d (Create at false) gentle = inl (fewer-same d)
step-fewer d (Fill at bytes false) gentle = inl (fewer-same d)
step-fewer d (MakeFolder at false) gentle = inl (fewer-same d)
step-fewer d (RemoveFolder at false) gentle = inl (fewer-same d)
step-fewer d (SyncFolder at false) gentle = inl (fewer-same d)
step-fewer d (SyncFile at false) gentle = inl (fewer-same d)
