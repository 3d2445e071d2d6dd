-- Where the temps and their places lie.
use Rattle.std.proofs.Common.{◌≡◌, ◌≢◌, true, refl, sym, inl, inr, subst}
use Rattle.rel_paths.specs.declared.control.Control.TheVariants as control
use Rattle.tree_fs.specs.declared.place.Root.{Root}
use Rattle.tree_fs.specs.declared.place.Root.TheVariants.{Game, Keep}
use Rattle.tree_fs.specs.Spot.{Spot, root_spot, parent, is_entry, spot_eq}
use Rattle.tree_fs.specs.Disk.{Disk, IsValid}
use Rattle.tree_fs.proofs.Spots.{is_entry-parent}
use Rattle.desk_model.specs.Places.{manifest_spot, IsTemp, IsKeepEntry}
use Rattle.desk_model.proofs.Spots.{control-names, keep_control, path-apart, manifest-not_keep}
use Rattle.intent_journal.specs.declared.temp.Temp.{Temp}
use Rattle.intent_journal.specs.declared.temp.Temp.TheVariants.{Intent, Manifest, Profile}
use Rattle.intent_journal.specs.Temps.{temp_spot, place_spot}

pub is_temp : (which : Temp) → IsTemp (temp_spot which)
is_temp Intent = inl refl
is_temp Manifest = inr (inl refl)
is_temp Profile = inr (inr refl)

pub temp-entry : (which : Temp) → IsKeepEntry (temp_spot which)
temp-entry Intent = keep_control control.IntentTemp refl
temp-entry Manifest = keep_control control.ManifestTemp refl
temp-entry Profile = keep_control control.ProfileTemp refl

pub place-not_temp : (which : Temp) → place_spot which ≢ temp_spot which
place-not_temp Intent e = path-apart control.Intent control.IntentTemp refl refl e
place-not_temp Manifest e = manifest-not_keep (subst IsKeepEntry (sym e) (keep_control control.ManifestTemp refl))
place-not_temp Profile e = path-apart control.Profile control.ProfileTemp refl refl e

-- the root that the place lies in
abbrev pub place_root : Temp → Root
place_root Intent = Keep
place_root Manifest = Game
place_root Profile = Keep

manifest-entry : is_entry (root_spot Game) manifest_spot ≡ true
unfolding parent is_entry spot_eq
manifest-entry = subst (λ (x : Spot). is_entry (root_spot Game) x ≡ true) (λ i. record { root = Game; names = sym (control-names control.Manifest) i }) refl

pub place-entry : (which : Temp) → is_entry (root_spot (place_root which)) (place_spot which) ≡ true
place-entry Intent = keep_control control.Intent refl
place-entry Manifest = manifest-entry
place-entry Profile = keep_control control.Profile refl

pub in_root : (d : Disk) (root : Root) (x : Spot) → IsValid d → is_entry (root_spot root) x ≡ true → d.folders (parent x) ≡ true
in_root d root x valid entry = subst (λ f. d.folders f ≡ true) (sym (is_entry-parent (root_spot root) x entry)) (valid.roots root)
