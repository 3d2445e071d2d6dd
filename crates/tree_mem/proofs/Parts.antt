-- What a change of the parts is to the disk that they are.
use Rattle.std.proofs.Common.{◌≡◌, ◌≢◌, inl, inr, ℕ, ◌+◌, ◌<◌, Bool, true, false, not, cond, List, [], ◌∷◌, ◌++◌, length, take, suc, ◌-◌, refl, sym, ap, ◌∙◌, arith, get_or, IfOk, OnOk, OnErr, is_err}
use Rattle.std.specs.List.{fold, filter}
use Rattle.std.specs.declared.option.Option.{Option}
use Rattle.std.specs.declared.option.Option.TheVariants.{None, Some}
use Rattle.std.specs.declared.result.Result.{Result}
use Rattle.std.specs.declared.result.Result.TheVariants.{Ok, Err}
use Rattle.std.proofs.lemmas.Grind.{fold-append}
use Prim.Native.Nat.{zero}
use Rattle.std.proofs.Math.Seq.{get_or-append_seam, take-append_seam}
use Rattle.std.proofs.Math.ListN.{set}
use Rattle.std.proofs.lemmas.List.{length-append, length-set, get_or-set_same, get_or-set_other}
use Rattle.std.proofs.lemmas.Bool.{false_from_ne_true}
use Rattle.tree_fs.specs.Spot.{Spot, spot_of, spot_eq, is_entry}
use Rattle.tree_fs.specs.Disk.{Value, none, file, set_at, set_number, put, before_synced, synced, filled, made_firm, created}
use Rattle.tree_fs.proofs.Spots.{spot_eq-same, spot_eq-true}
use Rattle.tree_fs.proofs.Disks.{before_synced_tells}
use Rattle.tree_fs.proofs.Functions.{set_at_tells, set_number_tells, same_disk}
use Rattle.tree_mem.specs.declared.entries.Item.{Item}
use Rattle.tree_mem.specs.declared.entries.Item.TheVariants.{Folder, File}
use Rattle.tree_mem.specs.declared.disk.MemDisk.{MemDisk}
use Rattle.tree_mem.specs.declared.disk.Past.{Past}
use Rattle.tree_mem.specs.FileData.{FileData}
use Rattle.tree_mem.specs.Items.{item_in}
use Rattle.tree_mem.specs.Disks.{folders_of, item_of, is_folder, value_in, held_before, file_at, disk_in, ItemSet, SameParts}
use Rattle.tree_mem.specs.Changed.{with_file, with_link, with_folder, without_folder, without_file, settled_at, edited}

-- the same parts are the same disk
pub disk_same : (d e : MemDisk) → SameParts d e → disk_in e ≡ disk_in d
disk_same d e s = same_disk (disk_in e) (disk_in d) record {
  folders = λ q. ap is_folder (s.items q);
  now = λ q. ap value_in (s.items q);
  before = λ q. ap (λ past. held_before past q) s.pending;
  bytes = λ n. ap (λ files. (file_at files n).bytes) s.files;
  firm = λ n. ap (λ files. (file_at files n).firm) s.files;
  fresh = ap length s.files;
}

-- what the items were and are, where one is set
record OneSet (old new : Spot → Option Item) (at : Spot) (item : Option Item) : Type 0 where
  here : new at ≡ item
  others : (q : Spot) → q ≢ at → new q ≡ old q

-- what that is to a function of the item
set_item : {X : Type 0} (f : Option Item → X) (old new : Spot → Option Item) (at : Spot) (item : Option Item) → OneSet old new at item → (q : Spot) → f (new q) ≡ set_at (λ p. f (old p)) at (f item) q
set_item f old new at item h q = elim (set_at_tells (λ p. f (old p)) at (f item) q) [
  | inl here ↦ ap (λ p. f (new p)) here.1 ∙ ap f h.here ∙ sym here.0
  | inr other ↦ ap f (h.others q other.1) ∙ sym other.0
]

-- the same where the function's value stays
kept_item : {X : Type 0} (f : Option Item → X) (old new : Spot → Option Item) (at : Spot) (item : Option Item) → OneSet old new at item → f (old at) ≡ f item → (q : Spot) → f (new q) ≡ f (old q)
kept_item f old new at item h is q = elim (set_at_tells (λ p. f (old p)) at (f item) q) [
  | inl here ↦ ap (λ p. f (new p)) here.1 ∙ ap f h.here ∙ sym is ∙ ap (λ p. f (old p)) (sym here.1)
  | inr other ↦ ap f (h.others q other.1)
]

one_set : (d e : MemDisk) (at : Spot) (item : Option Item) → ItemSet d e at item → OneSet (item_of d) (item_of e) at item
one_set d e at item h = record { here = h.here; others = h.others }

pub disk_folder : (d e : MemDisk) (at : Spot) → ItemSet d e at (Some Folder) → (disk_in d).now at ≡ none → disk_in e ≡ with_folder (disk_in d) at
disk_folder d e at h absent = same_disk (disk_in e) (with_folder (disk_in d) at) record {
  folders = set_item is_folder (item_of d) (item_of e) at (Some Folder) (one_set d e at (Some Folder) h);
  now = kept_item value_in (item_of d) (item_of e) at (Some Folder) (one_set d e at (Some Folder) h) absent;
  before = λ q. ap (λ past. held_before past q) h.pending;
  bytes = λ n. ap (λ files. (file_at files n).bytes) h.files;
  firm = λ n. ap (λ files. (file_at files n).firm) h.files;
  fresh = ap length h.files;
}

pub disk_link : (d e : MemDisk) (from at : Spot) (n : ℕ) → ItemSet d e at (Some (File n)) → (disk_in d).folders at ≡ false → (disk_in d).now from ≡ file n → disk_in e ≡ with_link (disk_in d) from at
disk_link d e from at n h no_folder source = same_disk (disk_in e) (with_link (disk_in d) from at) record {
  folders = kept_item is_folder (item_of d) (item_of e) at (Some (File n)) (one_set d e at (Some (File n)) h) no_folder;
  now = λ q. set_item value_in (item_of d) (item_of e) at (Some (File n)) (one_set d e at (Some (File n)) h) q ∙ ap (λ v. set_at (λ p. value_in (item_of d p)) at v q) (sym source);
  before = λ q. ap (λ past. held_before past q) h.pending;
  bytes = λ k. ap (λ files. (file_at files k).bytes) h.files;
  firm = λ k. ap (λ files. (file_at files k).firm) h.files;
  fresh = ap length h.files;
}

-- one more file
at_end : (files : List FileData) (new : FileData) → file_at (files ++ new ∷ []) (length files) ≡ new
at_end files new = get_or-append_seam files new [] _

not_at_end : (files : List FileData) (new : FileData) (n : ℕ) → n ≢ length files → file_at (files ++ new ∷ []) n ≡ file_at files n
not_at_end [] new zero ne = absurd (ne refl)
not_at_end [] new (suc n) ne = refl
not_at_end (x ∷ xs) new zero ne = refl
not_at_end (x ∷ xs) new (suc n) ne = not_at_end xs new n (λ e. ne (omega arith))

one_more : {X : Type 0} (f : FileData → X) (files : List FileData) (new : FileData) (n : ℕ) → f (file_at (files ++ new ∷ []) n) ≡ set_number (λ k. f (file_at files k)) (length files) (f new) n
one_more f files new n = elim (set_number_tells (λ k. f (file_at files k)) (length files) (f new) n) [
  | inl here ↦ ap (λ k. f (file_at (files ++ new ∷ []) k)) here.1 ∙ ap f (at_end files new) ∙ sym here.0
  | inr other ↦ ap f (not_at_end files new n other.1) ∙ sym other.0
]

pub disk_file : (d e : MemDisk) (at : Spot) (bytes : List ℕ) → item_of e at ≡ Some (File (length d.files.items)) → ((q : Spot) → q ≢ at → item_of e q ≡ item_of d q)
    → e.files.items ≡ d.files.items ++ (record { bytes = bytes; firm = true }) ∷ [] → e.pending.items ≡ d.pending.items → (disk_in d).folders at ≡ false → disk_in e ≡ with_file (disk_in d) at bytes
disk_file d e at bytes here others files pending no_folder =
    let item = Some (File (length d.files.items)) in
    let set : OneSet (item_of d) (item_of e) at item = record { here = here; others = others } in
    let new : FileData = record { bytes = bytes; firm = true } in
    same_disk (disk_in e) (with_file (disk_in d) at bytes) record {
      folders = kept_item is_folder (item_of d) (item_of e) at item set no_folder;
      now = set_item value_in (item_of d) (item_of e) at item set;
      before = λ q. ap (λ past. held_before past q) pending;
      bytes = λ n. ap (λ fs. (file_at fs n).bytes) files ∙ one_more (λ (x : FileData). x.bytes) d.files.items new n;
      firm = λ n. ap (λ fs. (file_at fs n).firm) files ∙ one_more (λ (x : FileData). x.firm) d.files.items new n;
      fresh = ap length files ∙ length-append d.files.items (new ∷ []);
    }

-- one more value in the past
held_more : (past : List Past) (p : Past) (q : Spot) → held_before (past ++ p ∷ []) q ≡ cond (spot_eq q (spot_of p.at)) (value_in p.item ∷ held_before past q) (held_before past q)
held_more past p q = fold-append (λ held x. cond (spot_eq q (spot_of x.at)) (value_in x.item ∷ held) held) [] past (p ∷ [])

pub held_put : (past : List Past) (p : Past) (at q : Spot) → spot_of p.at ≡ at → held_before (past ++ p ∷ []) q ≡ set_at (held_before past) at (value_in p.item ∷ held_before past at) q
held_put past p at q there = elim (set_at_tells (held_before past) at (value_in p.item ∷ held_before past at) q) [
  | inl here ↦
      ap (held_before (past ++ p ∷ [])) here.1 ∙ held_more past p at
      ∙ ap (λ b. cond b (value_in p.item ∷ held_before past at) (held_before past at)) (ap (spot_eq at) there ∙ spot_eq-same at) ∙ sym here.0
  | inr other ↦
      held_more past p q ∙ ap (λ b. cond b (value_in p.item ∷ held_before past q) (held_before past q)) (false_from_ne_true _ (λ t. other.1 (spot_eq-true q (spot_of p.at) t ∙ there))) ∙ sym other.0
]

-- a new value, while what was there is pending
pub disk_put : (d e : MemDisk) (at : Spot) (past : Past) (item : Option Item) → item_of e at ≡ item → ((q : Spot) → q ≢ at → item_of e q ≡ item_of d q) → e.files.items ≡ d.files.items
    → e.pending.items ≡ d.pending.items ++ past ∷ [] → spot_of past.at ≡ at → past.item ≡ item_of d at → (disk_in d).folders at ≡ false → is_folder item ≡ false → disk_in e ≡ put (disk_in d) at (value_in item)
disk_put d e at past item here others files pending there held no_folder no_item =
    let set : OneSet (item_of d) (item_of e) at item = record { here = here; others = others } in
    same_disk (disk_in e) (put (disk_in d) at (value_in item)) record {
      folders = kept_item is_folder (item_of d) (item_of e) at item set (no_folder ∙ sym no_item);
      now = set_item value_in (item_of d) (item_of e) at item set;
      before = λ q. ap (λ l. held_before l q) pending ∙ held_put d.pending.items past at q there ∙ ap (λ i. set_at (held_before d.pending.items) at (value_in i ∷ held_before d.pending.items at) q) held;
      bytes = λ k. ap (λ fs. (file_at fs k).bytes) files;
      firm = λ k. ap (λ fs. (file_at fs k).firm) files;
      fresh = ap length files;
    }

-- one more file, without a name
pub disk_more : (d e : MemDisk) (new : FileData) → ((q : Spot) → item_of e q ≡ item_of d q) → e.files.items ≡ d.files.items ++ new ∷ [] → e.pending.items ≡ d.pending.items
    → disk_in e ≡ record (disk_in d) { bytes = set_number (disk_in d).bytes (disk_in d).fresh new.bytes; firm = set_number (disk_in d).firm (disk_in d).fresh new.firm; fresh = (disk_in d).fresh + 1 }
disk_more d e new items files pending = same_disk (disk_in e) _ record {
  folders = λ q. ap is_folder (items q);
  now = λ q. ap value_in (items q);
  before = λ q. ap (λ past. held_before past q) pending;
  bytes = λ n. ap (λ fs. (file_at fs n).bytes) files ∙ one_more (λ (x : FileData). x.bytes) d.files.items new n;
  firm = λ n. ap (λ fs. (file_at fs n).firm) files ∙ one_more (λ (x : FileData). x.firm) d.files.items new n;
  fresh = ap length files ∙ length-append d.files.items (new ∷ []);
}

pub disk_created : (d pushed e : MemDisk) (at : Spot) (new : FileData) (n : ℕ) → ((q : Spot) → item_of pushed q ≡ item_of d q) → pushed.files.items ≡ d.files.items ++ new ∷ [] → pushed.pending.items ≡ d.pending.items
    → new ≡ record { bytes = []; firm = false } → n ≡ length d.files.items → disk_in e ≡ put (disk_in pushed) at (file n) → disk_in e ≡ created (disk_in d) at
disk_created d pushed e at new n items files pending empty number is =
    is ∙ (λ i. put (disk_more d pushed new items files pending i) at (file (number i)))
    ∙ ap (λ (x : FileData). put (record (disk_in d) { bytes = set_number (disk_in d).bytes (disk_in d).fresh x.bytes; firm = set_number (disk_in d).firm (disk_in d).fresh x.firm; fresh = (disk_in d).fresh + 1 }) at (file (disk_in d).fresh)) empty

-- the file with a number that there is, whatever is told beyond the last one
pub file_there : (files : List FileData) (n : ℕ) (other : FileData) → n < length files → get_or files n other ≡ file_at files n
file_there [] n other l = absurd (omega arith)
file_there (x ∷ xs) zero other l = refl
file_there (x ∷ xs) (suc n) other l = file_there xs n other (omega arith)

-- a file that changed
set_file : {X : Type 0} (f : FileData → X) (files : List FileData) (n : ℕ) (new : FileData) (k : ℕ) → n < length files → f (file_at (set files n new) k) ≡ set_number (λ j. f (file_at files j)) n (f new) k
set_file f files n new k l = elim (set_number_tells (λ j. f (file_at files j)) n (f new) k) [
  | inl here ↦ ap (λ j. f (file_at (set files n new) j)) here.1 ∙ ap f (get_or-set_same files n new _ l) ∙ sym here.0
  | inr other ↦ ap f (get_or-set_other files n k new _ other.1) ∙ sym other.0
]

pub disk_filled : (d e : MemDisk) (n : ℕ) (bytes : List ℕ) → ((q : Spot) → item_of e q ≡ item_of d q) → e.files.items ≡ set d.files.items n (record { bytes = bytes; firm = false }) → e.pending.items ≡ d.pending.items → n < length d.files.items
    → disk_in e ≡ filled (disk_in d) (file n) bytes
disk_filled d e n bytes items files pending l =
    let new : FileData = record { bytes = bytes; firm = false } in
    same_disk (disk_in e) (filled (disk_in d) (file n) bytes) record {
      folders = λ q. ap is_folder (items q);
      now = λ q. ap value_in (items q);
      before = λ q. ap (λ past. held_before past q) pending;
      bytes = λ k. ap (λ fs. (file_at fs k).bytes) files ∙ set_file (λ (x : FileData). x.bytes) d.files.items n new k l;
      firm = λ k. ap (λ fs. (file_at fs k).firm) files ∙ set_file (λ (x : FileData). x.firm) d.files.items n new k l;
      fresh = ap length files ∙ length-set d.files.items n new;
    }

pub disk_made_firm : (d e : MemDisk) (n : ℕ) → ((q : Spot) → item_of e q ≡ item_of d q) → e.files.items ≡ set d.files.items n (record { bytes = (file_at d.files.items n).bytes; firm = true }) → e.pending.items ≡ d.pending.items
    → n < length d.files.items → disk_in e ≡ made_firm (disk_in d) (file n)
disk_made_firm d e n items files pending l =
    let new : FileData = record { bytes = (file_at d.files.items n).bytes; firm = true } in
    same_disk (disk_in e) (made_firm (disk_in d) (file n)) record {
      folders = λ q. ap is_folder (items q);
      now = λ q. ap value_in (items q);
      before = λ q. ap (λ past. held_before past q) pending;
      bytes = λ k. ap (λ fs. (file_at fs k).bytes) files ∙ set_file (λ (x : FileData). x.bytes) d.files.items n new k l ∙ same_number (λ j. (file_at d.files.items j).bytes) n k;
      firm = λ k. ap (λ fs. (file_at fs k).firm) files ∙ set_file (λ (x : FileData). x.firm) d.files.items n new k l;
      fresh = ap length files ∙ length-set d.files.items n new;
    }
  where
    same_number : (f : ℕ → List ℕ) (n k : ℕ) → set_number f n (f n) k ≡ f k
    same_number f n k = elim (set_number_tells f n (f n) k) [ inl here ↦ here.0 ∙ ap f (sym here.1) | inr other ↦ other.0 ]

pub disk_no_folder : (d e : MemDisk) (at : Spot) → ItemSet d e at None → (disk_in d).now at ≡ none → disk_in e ≡ without_folder (disk_in d) at
disk_no_folder d e at h absent = same_disk (disk_in e) (without_folder (disk_in d) at) record {
  folders = set_item is_folder (item_of d) (item_of e) at None (one_set d e at None h);
  now = kept_item value_in (item_of d) (item_of e) at None (one_set d e at None h) absent;
  before = λ q. ap (λ past. held_before past q) h.pending;
  bytes = λ n. ap (λ files. (file_at files n).bytes) h.files;
  firm = λ n. ap (λ files. (file_at files n).firm) h.files;
  fresh = ap length h.files;
}

-- a place's value taken away, settled
pub disk_removed : (d e : MemDisk) (at : Spot) → ItemSet d e at None → (disk_in d).folders at ≡ false → disk_in e ≡ without_file (disk_in d) at
disk_removed d e at h no_folder = same_disk (disk_in e) (without_file (disk_in d) at) record {
  folders = kept_item is_folder (item_of d) (item_of e) at None (one_set d e at None h) no_folder;
  now = set_item value_in (item_of d) (item_of e) at None (one_set d e at None h);
  before = λ q. ap (λ past. held_before past q) h.pending;
  bytes = λ n. ap (λ files. (file_at files n).bytes) h.files;
  firm = λ n. ap (λ files. (file_at files n).firm) h.files;
  fresh = ap length h.files;
}

-- a folder's place holds no file
pub folder-now : (d : MemDisk) (q : Spot) → (disk_in d).folders q ≡ true → (disk_in d).now q ≡ none
folder-now d q e = by_item (item_of d q) e
  where
    by_item : (o : Option Item) → is_folder o ≡ true → value_in o ≡ none
    by_item None e = refl
    by_item (Some Folder) e = refl
    by_item (Some (File k)) e = let never : ⊥ = cc in absurd never

-- a file's place has a name
pub file-named : (d : MemDisk) (q : Spot) (n : ℕ) → (disk_in d).now q ≡ file n → q.names ≢ []
file-named d q n e nothing = let there : none ≡ file n = sym (ap (λ ns. value_in (item_in (folders_of d q.root) ns)) nothing) ∙ e in cc

-- and is no folder
pub file-no_folder : (d : MemDisk) (q : Spot) (n : ℕ) → (disk_in d).now q ≡ file n → (disk_in d).folders q ≡ false
file-no_folder d q n e = by_item (item_of d q) e
  where
    by_item : (o : Option Item) → value_in o ≡ file n → is_folder o ≡ false
    by_item None e = refl
    by_item (Some Folder) e = let never : ⊥ = cc in absurd never
    by_item (Some (File k)) e = refl

-- A part of the past is taken away: that of the places that a test names.

abbrev held_step : Spot → List Value → Past → List Value
held_step q held p = cond (spot_eq q (spot_of p.at)) (value_in p.item ∷ held) held

abbrev pub stays : (Spot → Bool) → Past → Bool
stays goes p = not (goes (spot_of p.at))

not_there : (goes : Spot → Bool) (q : Spot) (held : List Value) (p : Past) (b : Bool) → goes q ≡ b → goes (spot_of p.at) ≡ not b → held_step q held p ≡ held
not_there goes q held p b e f =
    ap (λ t. cond t (value_in p.item ∷ held) held) (false_from_ne_true (spot_eq q (spot_of p.at)) (λ t. both b (sym e ∙ ap goes (spot_eq-true q (spot_of p.at) t) ∙ f)))
  where
    both : (b : Bool) → b ≡ not b → ⊥
    both true e = cc
    both false e = cc

past_gone : (goes : Spot → Bool) (q : Spot) → goes q ≡ true → (held : List Value) (past : List Past) → fold (held_step q) held (filter (stays goes) past) ≡ held
past_gone goes q e held [] = refl
past_gone goes q e held (p ∷ past) =
    elim (goes (spot_of p.at)) as (λ b. goes (spot_of p.at) ≡ b → fold (held_step q) held (cond (not b) (p ∷ filter (stays goes) past) (filter (stays goes) past)) ≡ held) [
      | true ↦ λ f. past_gone goes q e held past
      | false ↦ λ f. ap (λ h. fold (held_step q) h (filter (stays goes) past)) (not_there goes q held p true e f) ∙ past_gone goes q e held past
    ] refl

past_stays : (goes : Spot → Bool) (q : Spot) → goes q ≡ false → (held : List Value) (past : List Past) → fold (held_step q) held (filter (stays goes) past) ≡ fold (held_step q) held past
past_stays goes q e held [] = refl
past_stays goes q e held (p ∷ past) =
    elim (goes (spot_of p.at)) as (λ b. goes (spot_of p.at) ≡ b → fold (held_step q) held (cond (not b) (p ∷ filter (stays goes) past) (filter (stays goes) past)) ≡ fold (held_step q) (held_step q held p) past) [
      | true ↦ λ f. past_stays goes q e held past ∙ ap (λ h. fold (held_step q) h past) (sym (not_there goes q held p false e f))
      | false ↦ λ f. past_stays goes q e (held_step q held p) past
    ] refl

held_before-synced : (folder : Spot) (past : List Past) (q : Spot) → held_before (filter (stays (is_entry folder)) past) q ≡ before_synced (held_before past) folder q
held_before-synced folder past q = elim (before_synced_tells (held_before past) folder q) [
  | inl s ↦ past_gone (is_entry folder) q s.1 [] past ∙ sym s.0
  | inr s ↦ past_stays (is_entry folder) q s.1 [] past ∙ sym s.0
]

held_before-settled : (at : Spot) (past : List Past) (q : Spot) → held_before (filter (stays (spot_eq at)) past) q ≡ set_at (held_before past) at [] q
held_before-settled at past q = elim (set_at_tells (held_before past) at [] q) [
  | inl s ↦ past_gone (spot_eq at) q (ap (spot_eq at) s.1 ∙ spot_eq-same at) [] past ∙ sym s.0
  | inr s ↦ past_stays (spot_eq at) q (false_from_ne_true (spot_eq at q) (λ t. s.1 (sym (spot_eq-true at q t)))) [] past ∙ sym s.0
]

pub disk_settled : (d e : MemDisk) (at : Spot) → ((q : Spot) → item_of e q ≡ item_of d q) → e.files.items ≡ d.files.items → e.pending.items ≡ filter (λ p. not (spot_eq at (spot_of p.at))) d.pending.items
    → disk_in e ≡ settled_at (disk_in d) at
disk_settled d e at items files pending = same_disk (disk_in e) (settled_at (disk_in d) at) record {
  folders = λ q. ap is_folder (items q);
  now = λ q. ap value_in (items q);
  before = λ q. ap (λ past. held_before past q) pending ∙ held_before-settled at d.pending.items q;
  bytes = λ n. ap (λ fs. (file_at fs n).bytes) files;
  firm = λ n. ap (λ fs. (file_at fs n).firm) files;
  fresh = ap length files;
}

pub disk_edited : (d e : MemDisk) (n : ℕ) (bytes : List ℕ) → ((q : Spot) → item_of e q ≡ item_of d q) → e.files.items ≡ set d.files.items n (record { bytes = bytes; firm = true }) → e.pending.items ≡ d.pending.items → n < length d.files.items
    → disk_in e ≡ edited (disk_in d) (file n) bytes
disk_edited d e n bytes items files pending l =
    let new : FileData = record { bytes = bytes; firm = true } in
    same_disk (disk_in e) (edited (disk_in d) (file n) bytes) record {
      folders = λ q. ap is_folder (items q);
      now = λ q. ap value_in (items q);
      before = λ q. ap (λ past. held_before past q) pending;
      bytes = λ k. ap (λ fs. (file_at fs k).bytes) files ∙ set_file (λ (x : FileData). x.bytes) d.files.items n new k l;
      firm = λ k. ap (λ fs. (file_at fs k).firm) files ∙ set_file (λ (x : FileData). x.firm) d.files.items n new k l;
      fresh = ap length files ∙ length-set d.files.items n new;
    }

pub disk_synced : (d e : MemDisk) (folder : Spot) → ((q : Spot) → item_of e q ≡ item_of d q) → e.files.items ≡ d.files.items → e.pending.items ≡ filter (λ p. not (is_entry folder (spot_of p.at))) d.pending.items
    → disk_in e ≡ synced (disk_in d) folder
disk_synced d e folder items files pending = same_disk (disk_in e) (synced (disk_in d) folder) record {
  folders = λ q. ap is_folder (items q);
  now = λ q. ap value_in (items q);
  before = λ q. ap (λ past. held_before past q) pending ∙ held_before-synced folder d.pending.items q;
  bytes = λ n. ap (λ fs. (file_at fs n).bytes) files;
  firm = λ n. ap (λ fs. (file_at fs n).firm) files;
  fresh = ap length files;
}

-- what follows of what stands on Ok
pub on_ok : {A E : Type 0} {P Q : Type 0} (r : Result A E) → (P → Q) → OnOk r P → OnOk r Q
on_ok (Ok a) f h = f h
on_ok (Err e) f h = tt

pub on_err : {A E : Type 0} {P Q : Type 0} (r : Result A E) → (P → Q) → OnErr r P → OnErr r Q
on_err (Ok a) f h = tt
on_err (Err x) f h = f h

pub from_ok : {A E : Type 0} {P : Type 0} (r : Result A E) → is_err r ≡ false → OnOk r P → P
from_ok (Ok a) e h = h
from_ok (Err x) e h = let none : ⊥ = cc in absurd none

pub from_err : {A E : Type 0} {P : Type 0} (r : Result A E) → is_err r ≡ true → OnErr r P → P
from_err (Ok a) e h = let none : ⊥ = cc in absurd none
from_err (Err x) e h = h

-- what was pushed is popped
pub pushed_popped : {X : Type 0} (old pushed popped : List X) (x : X) (n : ℕ) → pushed ≡ old ++ x ∷ [] → n ≡ length pushed → popped ≡ take (n - 1) pushed → popped ≡ old
pushed_popped old pushed popped x n up is down =
    down ∙ ap (take (n - 1)) up ∙ ap (λ k. take k (old ++ x ∷ [])) (omega (arith, is, ap length up, length-append old (x ∷ []))) ∙ take-append_seam old (x ∷ [])

pub if_ok : {A E : Type 0} {P Q : A → Type 0} {S : Type 0} (r : Result A E) → ((a : A) → P a → S → Q a) → IfOk r P → OnOk r S → IfOk r Q
if_ok (Ok a) f h s = f a h s
if_ok (Err x) f h s = tt
