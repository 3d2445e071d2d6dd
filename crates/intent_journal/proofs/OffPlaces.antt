-- The places that the journal changes.
use Rattle.std.proofs.Common.{◌≡◌, ◌⊎◌, refl, sym, inl, inr, subst}
use Rattle.rel_paths.specs.declared.control.Control.TheVariants as control
use Rattle.tree_fs.specs.Spot.{Spot}
use Rattle.tree_fs.specs.Disk.{Disk}
use Rattle.desk_model.specs.Places.{intent_spot, IsTemp, IsKeepEntry}
use Rattle.desk_model.proofs.Spots.{keep_control, temp-keep, path-apart, profile-not_temp}
use Rattle.intent_journal.specs.declared.temp.Temp.TheVariants as temp
use Rattle.intent_journal.specs.Temps.{temp_spot, Beside}
use Rattle.intent_journal.proofs.Besides.{Harmless, Off}

-- the intent place or its temp
abbrev pub IsIntentOrTemp : Spot → Type 0
IsIntentOrTemp x = (x ≡ intent_spot) ⊎ (x ≡ temp_spot temp.Intent)

pub intent-harmless : Harmless IsIntentOrTemp
intent-harmless = record {
  entry = λ x is. elim is [ inl e ↦ subst IsKeepEntry (sym e) (keep_control control.Intent refl) | inr e ↦ subst IsKeepEntry (sym e) (keep_control control.IntentTemp refl) ];
  control = λ x is. elim is [ inl e ↦ (control.Intent, e) | inr e ↦ (control.IntentTemp, e) ];
  no_profile = λ is. elim is [ inl e ↦ path-apart control.Profile control.Intent refl refl e | inr e ↦ path-apart control.Profile control.IntentTemp refl refl e ];
}

pub off-beside : (a e : Disk) → Beside temp.Intent a e → Off IsIntentOrTemp a e
off-beside a e b = record {
  folders = b.folders;
  held = λ x v out h. b.held x v (λ is. out (inl is)) (λ is. out (inr is)) h;
  now = λ x out. b.now x (λ is. out (inl is)) (λ is. out (inr is));
  files = b.files;
}

pub temps-harmless : Harmless IsTemp
temps-harmless = record {
  entry = temp-keep;
  control = λ x is. elim is [
    | inl e ↦ (control.IntentTemp, e)
    | inr rest ↦ elim rest [ inl e ↦ (control.ManifestTemp, e) | inr e ↦ (control.ProfileTemp, e) ]
  ];
  no_profile = profile-not_temp;
}
