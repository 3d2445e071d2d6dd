-- A stop while old temps are taken away leads where some earlier stop leads.
use Rattle.std.proofs.Common.{◌≡◌, ◌≢◌, ◌⊎◌, refl, sym, ap, ◌∙◌, inl, inr, subst}
use Rattle.tree_fs.specs.Spot.{Spot}
use Rattle.tree_fs.specs.Disk.{Disk, Value, file, MayHold, Image, set_at}
use Rattle.tree_fs.specs.Story.{Story, disk_of, Along}
use Rattle.tree_fs.proofs.Functions.{set_at_tells, set_at-other}
use Rattle.tree_fs.proofs.Moments.{along_weaken}
use Rattle.tree_fs.proofs.Spots.{same_or_other}
use Rattle.desk_model.specs.Places.{intent_spot, IsTemp}
use Rattle.desk_model.specs.Desk.{SameDesk}
use Rattle.desk_model.specs.Outcome.{outcome, outcome_now}
use Rattle.desk_model.specs.Standing.{Standing}
use Rattle.desk_model.proofs.Kept.{image-standing}
use Rattle.desk_model.proofs.Spots.{intent-not_temp}
use Rattle.intent_journal.specs.declared.temp.Temp.TheVariants.{Intent, Manifest, Profile}
use Rattle.intent_journal.specs.Temps.{temp_spot, IsFirmBut}
use Rattle.intent_journal.specs.Sweeps.{Sweeps, LeadsLikeAStop}
use Rattle.intent_journal.proofs.Besides.{Off}
use Rattle.intent_journal.proofs.OffPlaces.{temps-harmless}
use Rattle.intent_journal.proofs.StandOff.{outcome_off, standing_off}

-- a place is a temp, or not
pub temp_or_not : (x : Spot) → IsTemp x ⊎ (¬ IsTemp x)
temp_or_not x = elim (same_or_other x (temp_spot Intent)) [
  | inl e ↦ inl (inl e)
  | inr a ↦ elim (same_or_other x (temp_spot Manifest)) [
    | inl e ↦ inl (inr (inl e))
    | inr b ↦ elim (same_or_other x (temp_spot Profile)) [
      | inl e ↦ inl (inr (inr e))
      | inr c ↦ inr (λ is. elim is [ inl e ↦ a e | inr rest ↦ elim rest [ inl e ↦ b e | inr e ↦ c e ] ])
    ]
  ]
]

sweeps_firm : (a e : Disk) → Sweeps a e → IsFirmBut a → IsFirmBut e
sweeps_firm a e s firm x n h soft = elim (temp_or_not x) [
  | inl is ↦ is
  | inr out ↦ firm x n (s.held x (file n) out h) (sym (ap (λ g. g n) s.files.firm) ∙ soft)
]

off_sweeps : (a e : Disk) → Sweeps a e → Off IsTemp a e
off_sweeps a e s = record {
  folders = s.files.folders;
  held = s.held;
  now = s.now;
  files = λ n lt f. (ap (λ g. g n) s.files.firm ∙ f, ap (λ g. g n) s.files.bytes);
}

-- the disk stands all along
sweeps-standing : (a e : Disk) → Standing a → Sweeps a e → Standing e
sweeps-standing a e standing s = standing_off IsTemp temps-harmless intent-not_temp a e standing (off_sweeps a e s) s.valid (sweeps_firm a e s standing.firm)

pub along_stands : (s t : Story) → Standing (disk_of s) → Along (Sweeps (disk_of s)) s t → Along Standing s t
along_stands s t standing a = along_weaken (Sweeps (disk_of s)) Standing s t (λ e h. sweeps-standing (disk_of s) e standing h) a

-- the temps hold what another function says
abbrev restored : (Spot → Value) → (Spot → Value) → Spot → Value
restored f h = set_at (set_at (set_at f (temp_spot Intent) (h (temp_spot Intent))) (temp_spot Manifest) (h (temp_spot Manifest))) (temp_spot Profile) (h (temp_spot Profile))

one_back : (f h : Spot → Value) (p x : Spot) → (set_at f p (h p) x ≡ h x) ⊎ ((set_at f p (h p) x ≡ f x) × (x ≢ p))
one_back f h p x = elim (set_at_tells f p (h p) x) [ inl s ↦ inl (s.0 ∙ ap h (sym s.1)) | inr s ↦ inr (s.0, s.1) ]

restored-temp : (f h : Spot → Value) (x : Spot) → IsTemp x → restored f h x ≡ h x
restored-temp f h x is =
    let first = set_at f (temp_spot Intent) (h (temp_spot Intent)) in
    let then = set_at first (temp_spot Manifest) (h (temp_spot Manifest)) in
    elim (one_back then h (temp_spot Profile) x) [
      | inl s ↦ s
      | inr s ↦ s.0 ∙ elim (one_back first h (temp_spot Manifest) x) [
        | inl r ↦ r
        | inr r ↦ r.0 ∙ elim (one_back f h (temp_spot Intent) x) [
          | inl q ↦ q
          | inr q ↦ absurd (elim is [ inl e ↦ q.1 e | inr rest ↦ elim rest [ inl e ↦ r.1 e | inr e ↦ s.1 e ] ])
        ]
      ]
    ]

restored-other : (f h : Spot → Value) (x : Spot) → ¬ IsTemp x → restored f h x ≡ f x
restored-other f h x out =
    let first = set_at f (temp_spot Intent) (h (temp_spot Intent)) in
    let then = set_at first (temp_spot Manifest) (h (temp_spot Manifest)) in
    set_at-other then (temp_spot Profile) (h (temp_spot Profile)) x (λ e. out (inr (inr e)))
    ∙ set_at-other first (temp_spot Manifest) (h (temp_spot Manifest)) x (λ e. out (inr (inl e)))
    ∙ set_at-other f (temp_spot Intent) (h (temp_spot Intent)) x (λ e. out (inl e))

-- what a stop left, with the temps as they stood
module _ (a e left : Disk) (standing : Standing a) (s : Sweeps a e) (image : Image e left) where
  back : Disk
  back = record left { now = restored left.now a.now }

  back_image : Image a (record left { now = restored left.now a.now })
  back_image = record {
    folders = λ q. image.folders q ∙ ap (λ g. g q) s.files.folders;
    value = λ q no_folder. elim (temp_or_not q) [
      | inl is ↦ inl (restored-temp left.now a.now q is)
      | inr out ↦ subst (λ v. MayHold a q v) (sym (restored-other left.now a.now q out)) (s.held q (left.now q) out (image.value q (ap (λ g. g q) s.files.folders ∙ no_folder)))
    ];
    bare = λ q folder. elim (temp_or_not q) [
      | inl is ↦ restored-temp left.now a.now q is ∙ standing.valid.bare q folder
      | inr out ↦ restored-other left.now a.now q out ∙ image.bare q (ap (λ g. g q) s.files.folders ∙ folder)
    ];
    settled = image.settled;
    bytes = λ n f. image.bytes n (ap (λ g. g n) s.files.firm ∙ f) ∙ ap (λ g. g n) s.files.bytes;
    firm = image.firm;
    fresh = image.fresh ∙ s.files.fresh;
  }

  off_left : Off IsTemp (record left { now = restored left.now a.now }) left
  off_left = record {
    folders = refl;
    held = λ x v out h. elim h [ inl now ↦ inl (now ∙ sym (restored-other left.now a.now x out)) | inr old ↦ inr old ];
    now = λ x out. sym (restored-other left.now a.now x out);
    files = λ n lt f. (f, refl);
  }

  like_stop : (before : Disk) × Image a before × SameDesk (outcome_now left) (outcome_now before)
  like_stop =
      let stands = image-standing a (record left { now = restored left.now a.now }) standing back_image in
      let same = outcome_off IsTemp temps-harmless intent-not_temp (record left { now = restored left.now a.now }) left stands off_left (restored left.now a.now intent_spot) (inl refl) in
      (record left { now = restored left.now a.now }, back_image, subst (λ v. SameDesk (outcome left v) (outcome (record left { now = restored left.now a.now }) (restored left.now a.now intent_spot))) (restored-other left.now a.now intent_spot intent-not_temp) same)

pub along_like_stops : (s t : Story) → Standing (disk_of s) → Along (Sweeps (disk_of s)) s t → Along (LeadsLikeAStop (disk_of s)) s t
along_like_stops s t standing a = along_weaken (Sweeps (disk_of s)) (LeadsLikeAStop (disk_of s)) s t (λ e h left image. like_stop (disk_of s) e left standing h image) a
