-- What a stop leaves after an op, in the words of before it.
use Rattle.std.proofs.Common.{◌≡◌, ◌≢◌, ◌⊎◌, ℕ, ◌<◌, Bool, true, false, List, [], refl, sym, ap, ◌∙◌, inl, inr, subst}
use Rattle.tree_fs.specs.declared.op.Op.TheVariants.{Create}
use Rattle.tree_fs.specs.declared.place.Place.{Place}
use Rattle.tree_fs.specs.Spot.{Spot, spot_of}
use Rattle.tree_fs.specs.Disk.{Disk, Value, none, file, MayHold, NothingPending, IsValid, Image, put, synced, filled, made_firm, renamed, after}
use Rattle.tree_fs.proofs.Ops.{MayHold-created, firm-created_other, bytes-created_other, MayHold-renamed, renamed-files}
use Rattle.tree_fs.proofs.Files.{made_firm-places, same_places-hold, firm-made_keeps, bytes-made_firm, firm-filled_other, bytes-filled_other}
use Rattle.tree_fs.proofs.Spots.{same_or_other}
use Rattle.tree_fs.proofs.Disks.{MayHold-put_other, MayHold-put_at, MayHold-synced, MayHold-settled}

-- what a place has after a stop it held before, or it is a folder's and has nothing
pub Image-held : (d left : Disk) (q : Spot) → Image d left → MayHold d q (left.now q) ⊎ (left.now q ≡ none)
Image-held d left q image = by_test (d.folders q) refl
  where
    by_test : (b : Bool) → d.folders q ≡ b → MayHold d q (left.now q) ⊎ (left.now q ≡ none)
    by_test false e = inl (image.value q e)
    by_test true e = inr (image.bare q e)

-- what a place may hold after a stop it held
pub Image-may_hold : (d left : Disk) (q : Spot) (v : Value) → Image d left → MayHold left q v → MayHold d q v ⊎ (v ≡ none)
Image-may_hold d left q v image h =
    let is : v ≡ left.now q = MayHold-settled left q v (image.settled q) h in
    elim (Image-held d left q image) [ inl held ↦ inl (subst (MayHold d q) (sym is) held) | inr gone ↦ inr (is ∙ gone) ]

-- a settled place stays as it is
pub Image-settled : (d left : Disk) (q : Spot) → Image d left → d.folders q ≡ false → d.before q ≡ [] → left.now q ≡ d.now q
Image-settled d left q image no_folder settled = MayHold-settled d q (left.now q) settled (image.value q no_folder)

pub Image-valid : (d left : Disk) → IsValid d → Image d left → IsValid left
Image-valid d left valid image = record {
  roots = λ r. image.folders _ ∙ valid.roots r;
  nested = λ q e. image.folders _ ∙ valid.nested q (sym (image.folders q) ∙ e);
  parents = λ q v h ne. elim (Image-may_hold d left q v image h) [
    | inl held ↦ image.folders _ ∙ valid.parents q v held ne
    | inr gone ↦ absurd (ne gone)
  ];
  bare = λ q e. image.bare q (sym (image.folders q) ∙ e);
  numbers = λ q n h. elim (Image-may_hold d left q (file n) image h) [
    | inl held ↦ subst (λ m. n < m) (sym image.fresh) (valid.numbers q n held)
    | inr gone ↦ absurd (cc)
  ];
}

-- where nothing is pending and every file is firm, a stop leaves the disk itself, but for what lies at folders
pub Image-same : (d : Disk) → NothingPending d → ((n : ℕ) → d.firm n ≡ true) → ((q : Spot) → d.folders q ≡ true → d.now q ≡ none) → Image d d
Image-same d settled firm bare = record {
  folders = λ q. refl;
  value = λ q e. inl refl;
  bare = bare;
  settled = settled;
  bytes = λ n e. refl;
  firm = firm;
  fresh = refl;
}

-- a disk whose places hold no more, with the same folders, files and firm bytes, has no other images
pub Image-less : (d e left : Disk) → e.folders ≡ d.folders → ((q : Spot) (v : Value) → MayHold e q v → MayHold d q v) → ((n : ℕ) → d.firm n ≡ true → (e.firm n ≡ true) × (e.bytes n ≡ d.bytes n)) → e.fresh ≡ d.fresh
    → Image e left → Image d left
Image-less d e left folders less files fresh image = record {
  folders = λ q. image.folders q ∙ ap (λ f. f q) folders;
  value = λ q no_folder. less q (left.now q) (image.value q (ap (λ f. f q) folders ∙ no_folder));
  bare = λ q is. image.bare q (ap (λ f. f q) folders ∙ is);
  settled = image.settled;
  bytes = λ n firm. let both = files n firm in image.bytes n both.0 ∙ both.1;
  firm = image.firm;
  fresh = image.fresh ∙ fresh;
}

-- an image after a sync is one from before it
pub Image-synced : (d left : Disk) (folder : Spot) → Image (synced d folder) left → Image d left
Image-synced d left folder image = Image-less d (synced d folder) left refl (λ q v h. MayHold-synced d folder q v h) (λ n e. (e, refl)) refl image

-- an image after a new value has it at its place, or is one from before it
pub Image-put : (d left : Disk) (p : Spot) (v : Value) → d.folders p ≡ false → Image (put d p v) left → (left.now p ≡ v) ⊎ Image d left
Image-put d left p v plain image = elim (MayHold-put_at d p v (left.now p) (image.value p plain)) [
  | inl new ↦ inl new
  | inr old ↦ inr (record {
    folders = image.folders;
    value = λ q no_folder. elim (same_or_other q p) [
      | inl same ↦ subst (λ s. MayHold d s (left.now s)) (sym same) old
      | inr ne ↦ MayHold-put_other d p q v (left.now q) ne (image.value q no_folder)
    ];
    bare = image.bare;
    settled = image.settled;
    bytes = image.bytes;
    firm = image.firm;
    fresh = image.fresh;
  })
]

-- away from the new value, what a stop leaves is what it left before
pub Image-put_other : (d left : Disk) (p q : Spot) (v : Value) → q ≢ p → d.folders q ≡ false → Image (put d p v) left → MayHold d q (left.now q)
Image-put_other d left p q v ne no_folder image = MayHold-put_other d p q v (left.now q) ne (image.value q no_folder)

-- an image once a file is firm is one from before it
pub Image-made_firm : (d left : Disk) (v : Value) → Image (made_firm d v) left → Image d left
Image-made_firm d left v image =
    let same = made_firm-places d v in
    Image-less d (made_firm d v) left same.folders (λ q w h. same_places-hold d (made_firm d v) q w same h) (λ n e. (firm-made_keeps d v n e, ap (λ f. f n) (bytes-made_firm d v))) same.fresh image

-- a file that isn't firm may have any bytes, so new bytes leave no new image
pub Image-filled : (d left : Disk) (n : ℕ) (bytes : List ℕ) → d.firm n ≡ false → Image (filled d (file n) bytes) left → Image d left
Image-filled d left n bytes soft image =
    Image-less d (filled d (file n) bytes) left refl (λ q v h. h) (λ k e.
    let ne : k ≢ n = λ is. let h : true ≡ false = sym e ∙ ap d.firm is ∙ soft in cc in
    (firm-filled_other d n k bytes ne ∙ e, bytes-filled_other d n k bytes ne)) refl image

-- a place with a new file has it after a stop, or what it had before
pub Image-created : (d left : Disk) (at : Place) (q : Spot) → Image (after d (Create at true)) left → d.folders q ≡ false → ((q ≡ spot_of at) × (left.now q ≡ file d.fresh)) ⊎ MayHold d q (left.now q)
Image-created d left at q image no_folder = MayHold-created d at q (left.now q) (image.value q no_folder)

-- the files of before keep their bytes where they were firm
pub Image-created_bytes : (d left : Disk) (at : Place) (n : ℕ) → Image (after d (Create at true)) left → n < d.fresh → d.firm n ≡ true → left.bytes n ≡ d.bytes n
Image-created_bytes d left at n image lt firm = image.bytes n (firm-created_other d at n lt ∙ firm) ∙ bytes-created_other d at n lt

-- after a rename a place has what it had, or the file at its new place, or none at its old
pub Image-renamed : (d left : Disk) (from to q : Spot) → Image (renamed d from to) left → d.folders q ≡ false → ((q ≡ to) × (left.now q ≡ d.now from)) ⊎ ((q ≡ from) × (left.now q ≡ none)) ⊎ MayHold d q (left.now q)
Image-renamed d left from to q image no_folder = MayHold-renamed d from to q (left.now q) (image.value q (ap (λ f. f q) (renamed-files d from to).folders ∙ no_folder))
