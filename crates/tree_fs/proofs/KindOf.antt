-- What an answer of a tree's `kind` tells.
use Rattle.std.proofs.Common.{◌≡◌, ℕ, Bool, true, false, cond, refl}
use Rattle.tree_fs.specs.declared.name.Kind.TheVariants.{Absent, File, Folder, Other}
use Rattle.tree_fs.specs.Spot.{Spot}
use Rattle.tree_fs.specs.Disk.{Disk, Value, none, file, odd, IsFile, kind_at, kind_of}

is_folder : (b : Bool) (v : Value) → cond b Folder (kind_at v) ≡ Folder → b ≡ true
is_folder true v e = refl
is_folder false none e = absurd (cc)
is_folder false (file n) e = absurd (cc)
is_folder false odd e = absurd (cc)

is_file : (b : Bool) (v : Value) → cond b Folder (kind_at v) ≡ File → (b ≡ false) × (n : ℕ) × (v ≡ file n)
is_file true v e = absurd (cc)
is_file false none e = absurd (cc)
is_file false (file n) e = (refl, n, refl)
is_file false odd e = absurd (cc)

is_absent : (b : Bool) (v : Value) → cond b Folder (kind_at v) ≡ Absent → (b ≡ false) × (v ≡ none)
is_absent true v e = absurd (cc)
is_absent false none e = (refl, refl)
is_absent false (file n) e = absurd (cc)
is_absent false odd e = absurd (cc)

is_other : (b : Bool) (v : Value) → cond b Folder (kind_at v) ≡ Other → (b ≡ false) × (v ≡ odd)
is_other true v e = absurd (cc)
is_other false none e = absurd (cc)
is_other false (file n) e = absurd (cc)
is_other false odd e = (refl, refl)

pub kind-folder : (d : Disk) (q : Spot) → kind_of d q ≡ Folder → d.folders q ≡ true
kind-folder d q e = is_folder (d.folders q) (d.now q) e

pub kind-file : (d : Disk) (q : Spot) → kind_of d q ≡ File → (d.folders q ≡ false) × IsFile d q
kind-file d q e = let h = is_file (d.folders q) (d.now q) e in (h.0, (h.1, h.2))

pub kind-absent : (d : Disk) (q : Spot) → kind_of d q ≡ Absent → (d.folders q ≡ false) × (d.now q ≡ none)
kind-absent d q e = is_absent (d.folders q) (d.now q) e

pub kind-other : (d : Disk) (q : Spot) → kind_of d q ≡ Other → (d.folders q ≡ false) × (d.now q ≡ odd)
kind-other d q e = is_other (d.folders q) (d.now q) e

-- and the other way round
pub folder-kind : (d : Disk) (q : Spot) → d.folders q ≡ true → kind_of d q ≡ Folder
folder-kind d q e = rw e refl

pub value-kind : (d : Disk) (q : Spot) (v : Value) → d.folders q ≡ false → d.now q ≡ v → kind_of d q ≡ kind_at v
value-kind d q v e is = rw (e, is) refl

pub file-kind : (d : Disk) (q : Spot) → d.folders q ≡ false → IsFile d q → kind_of d q ≡ File
file-kind d q e is = value-kind d q (file is.0) e is.1

pub absent-kind : (d : Disk) (q : Spot) → d.folders q ≡ false → d.now q ≡ none → kind_of d q ≡ Absent
absent-kind d q e is = value-kind d q none e is

pub other-kind : (d : Disk) (q : Spot) → d.folders q ≡ false → d.now q ≡ odd → kind_of d q ≡ Other
other-kind d q e is = value-kind d q odd e is

-- the kind rests on the folder and on the value now alone
pub same_kind : (d e : Disk) (q : Spot) → d.folders q ≡ e.folders q → d.now q ≡ e.now q → kind_of d q ≡ kind_of e q
same_kind d e q f n = λ i. cond (f i) Folder (kind_at (n i))
