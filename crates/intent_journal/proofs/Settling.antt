-- The folders of a temp and of its place are synced.
use Rattle.std.proofs.Common.{◌≡◌, true, subst, Result, OnOk}
use Rattle.std.specs.declared.result.Result.TheVariants.{Ok, Err}
use Rattle.tree_fs.specs.declared.place.Root.{Root}
use Rattle.tree_fs.specs.declared.place.Root.TheVariants.{Keep}
use Rattle.tree_fs.specs.Spot.{Spot, root_spot, is_entry}
use Rattle.tree_fs.specs.Disk.{Disk, IsSettled}
use Rattle.tree_fs.specs.Frames.{Syncs, EntriesSettled}
use Rattle.tree_fs.proofs.Frames.{settled-syncs}
use Rattle.intent_journal.specs.declared.temp.Temp.{Temp}
use Rattle.intent_journal.specs.Temps.{temp_spot, place_spot}
use Rattle.intent_journal.proofs.TempPlaces.{place_root, place-entry, temp-entry}

-- what was settled stays so
pub first_settled : {T E : Type 0} (folder : Spot) (d e : Disk) (r : Result T E) → Syncs d e → EntriesSettled d folder → OnOk r (EntriesSettled e folder)
first_settled folder d e (Ok a) syncs one = λ x entry. settled-syncs d e x syncs (one x entry)
first_settled folder d e (Err x) syncs one = tt

entry_settled : {T E : Type 0} (r : Result T E) (d : Disk) (root : Root) (x : Spot) → is_entry (root_spot root) x ≡ true → OnOk r (EntriesSettled d (root_spot root)) → OnOk r (IsSettled d x)
entry_settled (Ok a) d root x entry h = h x entry
entry_settled (Err e) d root x entry h = tt

pub temp_settled : {T E : Type 0} (r : Result T E) (d : Disk) (which : Temp) → OnOk r (EntriesSettled d (root_spot Keep)) → OnOk r (IsSettled d (temp_spot which))
temp_settled r d which h = entry_settled r d Keep (temp_spot which) (temp-entry which) h

pub place_settled : {T E : Type 0} (r : Result T E) (d : Disk) (which : Temp) (root : Root) → place_root which ≡ root → OnOk r (EntriesSettled d (root_spot root)) → OnOk r (IsSettled d (place_spot which))
place_settled r d which root is h = entry_settled r d root (place_spot which) (subst (λ (x : Root). is_entry (root_spot x) (place_spot which) ≡ true) is (place-entry which)) h
