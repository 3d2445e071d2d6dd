-- What stands with fewer values.
use Rattle.std.proofs.Common.{◌≡◌, ◌⊎◌, ℕ, Bool, true, false, refl, sym, ap, ◌∙◌, inl, inr}
use Rattle.tree_fs.specs.Spot.{Spot, spot_of}
use Rattle.tree_fs.specs.Disk.{Disk, none, file, odd, MayHold}
use Rattle.tree_fs.proofs.Fewer.{settled-fewer, only-fewer}
use Rattle.move_plan.specs.declared.plan.Plan.{Plan}
use Rattle.intent_json.specs.declared.intent.Intent.{Intent}
use Rattle.tree_fs.specs.Frames.{Fewer}
use Rattle.desk_model.specs.Places.{IsTemp}
use Rattle.desk_model.specs.Standing.{IsSettledFile, IsBegun, IsOpen, SavesRun, SavesDone, SetStands, ClearStands, NoneStands, IntentStands}

module _ (e d : Disk) (less : Fewer e d) where
  pub file-fewer : (x : Spot) → IsSettledFile d x → IsSettledFile e x
  file-fewer x f = record { number = f.number; only = only-fewer e d less x (file f.number) f.only }

  begun-fewer : (from to : Spot) → IsBegun d from to → IsBegun e from to
  begun-fewer from to b = record { number = b.number; source = only-fewer e d less from (file b.number) b.source; either = λ v h. b.either v (less.within to v h) }

  open-fewer : (x : Spot) → IsOpen d x → IsOpen e x
  open-fewer x o = record { not_odd = λ h. o.not_odd (less.within x odd h); no_folder = ap (λ f. f x) less.folders ∙ o.no_folder }

  folder-fewer : (x : Spot) → d.folders x ≡ true → e.folders x ≡ true
  folder-fewer x is = ap (λ f. f x) less.folders ∙ is

  steps-fewer : (plan : Plan) → SavesRun d plan ⊎ SavesDone d plan → SavesRun e plan ⊎ SavesDone e plan
  steps-fewer plan (inl run) = inl (record {
    sets = λ x is. settled-fewer e d less x (run.sets x is);
    saves = λ s c. elim (run.saves s c) [ inl done ↦ inl (file-fewer (spot_of s.1) done) | inr begun ↦ inr (begun-fewer (spot_of s.0) (spot_of s.1) begun) ];
  })
  steps-fewer plan (inr done) = inr (λ x is. file-fewer x (done x is))

  pub set-fewer : (plan : Plan) → SetStands d plan → SetStands e plan
  set-fewer plan h = record {
    sources = λ x is. file-fewer x (h.sources x is);
    open_places = λ x is. open-fewer x (h.open_places x is);
    made = λ x is. elim (h.made x is) [ inl folder ↦ inl (folder-fewer x folder) | inr only ↦ inr (only-fewer e d less x none only) ];
    parents = λ x s is below. elim (h.parents x s is below) [ inl made ↦ inl made | inr folder ↦ inr (folder-fewer s folder) ];
    steps = steps-fewer plan h.steps;
    rest = λ x out no_entry. settled-fewer e d less x (h.rest x out no_entry);
  }

  pub clear-fewer : (plan : Plan) → ClearStands d plan → ClearStands e plan
  clear-fewer plan h = record {
    open_places = λ x is. open-fewer x (h.open_places x is);
    rest = λ x out no_manifest no_entry. settled-fewer e d less x (h.rest x out no_manifest no_entry);
  }

  pub none-fewer : NoneStands d → NoneStands e
  none-fewer h x no_entry = settled-fewer e d less x (h x no_entry)

  pub intent-fewer : (intent : Intent) → IntentStands d intent → IntentStands e intent
  intent-fewer intent h = record {
    accepted = h.accepted;
    set_form = λ is. set-fewer intent.plan (h.set_form is);
    clear_form = λ is. clear-fewer intent.plan (h.clear_form is);
  }

-- every file but those of temps is firm
abbrev pub FirmBut : Disk → Type 0
FirmBut d = (x : Spot) (n : ℕ) → MayHold d x (file n) → d.firm n ≡ false → IsTemp x

pub firm_file : (d : Disk) (x : Spot) (n : ℕ) → FirmBut d → ¬ IsTemp x → MayHold d x (file n) → d.firm n ≡ true
firm_file d x n firm no_temp h = by_test (d.firm n) refl
  where
    by_test : (b : Bool) → d.firm n ≡ b → d.firm n ≡ true
    by_test true e = e
    by_test false e = absurd (no_temp (firm x n h e))

pub firm-fewer : (e d : Disk) → Fewer e d → FirmBut d → FirmBut e
firm-fewer e d less firm x n h soft = by_test (d.firm n) refl
  where
    by_test : (b : Bool) → d.firm n ≡ b → IsTemp x
    by_test true is = let t : true ≡ false = sym (less.files n is).0 ∙ soft in absurd (cc)
    by_test false is = firm x n (less.within x (file n) h) is
