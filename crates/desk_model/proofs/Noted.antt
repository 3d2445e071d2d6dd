-- A new value of the intent place.
use Rattle.std.proofs.Common.{◌≡◌, ◌≢◌, refl, sym, ◌∙◌, subst}
use Rattle.tree_fs.specs.declared.place.Root.TheVariants.{Keep}
use Rattle.tree_fs.specs.Spot.{Spot, root_spot}
use Rattle.tree_fs.specs.Disk.{Disk, Value, IsValid, put, synced, IsSettled}
use Rattle.tree_fs.proofs.Disks.{MayHold-put_keeps, MayHold-put_other, MayHold-synced, now-put_at, now-put_other, valid-synced, MayHold-put_new}
use Rattle.desk_model.specs.Desk.{SameDesk, Desk}
use Rattle.desk_model.specs.Places.{profile_spot, intent_spot}
use Rattle.desk_model.specs.Outcome.{outcome}
use Rattle.tree_fs.specs.Frames.{Fewer}
use Rattle.tree_fs.proofs.Fewer.{put-fewer, synced-fewer}
use Rattle.desk_model.specs.Stops.{Leads}
use Rattle.desk_model.proofs.Spots.{path-apart}
use Rattle.desk_model.proofs.Kept.{standing-fewer}
use Rattle.desk_model.proofs.Named.{outcome-fewer}
use Rattle.rel_paths.specs.declared.control.Control.TheVariants as control
use Rattle.desk_model.specs.Laws.{IntentsChange}

profile_apart : profile_spot ≢ intent_spot
profile_apart e = path-apart control.Profile control.Intent refl refl e

pub profile-put : (d : Disk) (v : Value) → IsSettled d profile_spot → IsSettled (put d intent_spot v) profile_spot
profile-put d v one w h = one w (MayHold-put_other d intent_spot profile_spot v w profile_apart h) ∙ sym (now-put_other d intent_spot v profile_spot profile_apart)

pub profile-synced : (d : Disk) (folder : Spot) → IsSettled d profile_spot → IsSettled (synced d folder) profile_spot
profile-synced d folder one w h = one w (MayHold-synced d folder profile_spot w h)

module _ (To : Desk → Type 0) (closed : (k l : Desk) → SameDesk k l → To l → To k) (d : Disk) (v : Value) where
  -- where the disk with the new value at the end of the list stands, the disk before it leads where that leads
  pub noted_before : Leads To (put d intent_spot v) → IsSettled d profile_spot → IsValid d → Leads To d
  noted_before leads one valid = record {
    standing = standing-fewer d (put d intent_spot v) (put-fewer d intent_spot v) valid leads.standing;
    profile = one;
    each = λ w h.
        let there = MayHold-put_keeps d intent_spot intent_spot v w h in
        closed _ _ (outcome-fewer d (put d intent_spot v) (put-fewer d intent_spot v) leads.standing leads.profile w there) (leads.each w there);
  }

-- fewer values lead where more do
pub leads-fewer : (To : Desk → Type 0) → ((k l : Desk) → SameDesk k l → To l → To k) → (e d : Disk) → Fewer e d → IsValid e → IsSettled e profile_spot → Leads To d → Leads To e
leads-fewer To closed e d less valid one leads = record {
  standing = standing-fewer e d less valid leads.standing;
  profile = one;
  each = λ w h. let there = less.within intent_spot w h in closed _ _ (outcome-fewer e d less leads.standing leads.profile w there) (leads.each w there);
}

-- so does the disk after the sync of `keep`, where the new value stands alone
pub noted_after : (To : Desk → Type 0) → ((k l : Desk) → SameDesk k l → To l → To k) → (d : Disk) (v : Value) → Leads To (put d intent_spot v) → Leads To (synced (put d intent_spot v) (root_spot Keep))
noted_after To closed d v leads =
    let e = put d intent_spot v in
    leads-fewer To closed (synced e (root_spot Keep)) e (synced-fewer e (root_spot Keep)) (valid-synced e (root_spot Keep) leads.standing.valid) (profile-synced e (root_spot Keep) leads.profile) leads

-- so both keep what they lead to
pub intents-change : IntentsChange
intents-change d v valid one standing =
    let e = put d intent_spot v in
    let f = synced e (root_spot Keep) in
    let less = synced-fewer e (root_spot Keep) in
    let settled = profile-put d v one in
    let now : f.now intent_spot ≡ v = now-put_at d intent_spot v in
    record {
      before = standing-fewer d e (put-fewer d intent_spot v) valid standing;
      agree = λ w h. outcome-fewer d e (put-fewer d intent_spot v) standing settled w (MayHold-put_keeps d intent_spot intent_spot v w h);
      alone = standing-fewer f e less (valid-synced e (root_spot Keep) standing.valid) standing;
      agrees = subst (λ w. SameDesk (outcome f w) (outcome e v)) (sym now) (outcome-fewer f e less standing settled v (MayHold-put_new d intent_spot v));
    }
