-- While the sets run, the set form stands.
use Rattle.std.proofs.Common.{◌≡◌, List, false, refl, sym, ap, ◌∙◌, inl, inr, subst}
use Rattle.std.specs.List.{Contains}
use Rattle.std.specs.declared.option.Option.{Option}
use Rattle.std.specs.declared.option.Option.TheVariants.{None, Some}
use Rattle.rel_paths.specs.declared.control.Control.TheVariants as control
use Rattle.tree_fs.specs.declared.place.Place.{Place}
use Rattle.tree_fs.specs.Spot.{Spot, spot_of, parent}
use Rattle.tree_fs.specs.Disk.{kind_of, HoldsOnly, Disk, Value, none, file, odd, MayHold, IsSettled}
use Rattle.tree_fs.specs.Story.{Story, disk_of, Along}
use Rattle.tree_fs.specs.Calls.{IsFolder}
use Rattle.move_plan.specs.declared.plan.SetRow.{SetRow}
use Rattle.move_plan.specs.declared.plan.Plan.{Plan}
use Rattle.move_plan.specs.Places.{IsAt, IsSetTo}
use Rattle.move_plan.specs.Rules.{PassesRules}
use Rattle.intent_json.specs.declared.intent.Phase.TheVariants as phase
use Rattle.desk_model.specs.Places.{profile_spot, intent_spot}
use Rattle.desk_model.specs.Outcome.{file_at}
use Rattle.desk_model.specs.Standing.{IsSettledFile, SetStands, IntentStands}
use Rattle.desk_model.specs.Stops.{Leads}
use Rattle.desk_model.proofs.Fewer.{FirmBut}
use Rattle.plan_exec.specs.Frames.{Puts}
use Rattle.tree_fs.specs.Frames.{Syncs, EntriesSettled}
use Rattle.tree_fs.proofs.Moments.{along_last}
use Rattle.intent_journal.specs.Ready.{AreFolders, set_places}
use Rattle.list_laws.proofs.Containing.{map_contains}
use Rattle.plan_exec.specs.Steps.{SetsReady, SetsDone, ToOutcomeOf}
use Rattle.plan_exec.proofs.Forms.{Carries, alone_may, alone_standing, alone_kept, carries_leads}
use Rattle.plan_exec.specs.Causes.{NoneHas, place_by, set_obstacle_from, set_obstacle}
use Rattle.plan_exec.proofs.Obstacles.{link_free}
use Rattle.plan_exec.proofs.Values.{no_odd, file_from}
use Rattle.plan_exec.proofs.Syncing.{only_synced, listed_settled}
use Rattle.plan_exec.proofs.Open.{open_place, settled_file-kind}
use Rattle.tree_fs.proofs.KindOf.{folder-kind}
use Rattle.tree_fs.specs.declared.name.Kind.TheVariants.{Folder}
use Rattle.plan_exec.proofs.Rules.{free-not_temp, set_free, from_free, from-not_set, save-not_set, control-not_set, parent_below}

module _ (plan : Plan) (a : Disk) (ready : SetsReady plan a) where
  before : IntentStands a (record { phase = phase.Set; plan = plan })
  before = ready.standing.intents (record { phase = phase.Set; plan = plan }) (alone_may plan phase.Set a ready.form)

  pub sets_rules : PassesRules plan
  sets_rules = before.accepted.rules

  stands : SetStands a plan
  stands = before.set_form refl

  module _ (e : Disk) (puts : Puts plan a e) where
    within : (x : Spot) → ¬ IsSetTo plan x → (v : Value) → MayHold e x v → MayHold a x v
    within x unset v h = elim (puts.held x v h) [ inl old ↦ old | inr put ↦ absurd (unset (record { row = put.row; listed = put.listed; here = put.here })) ]

    settled_kept : (x : Spot) → ¬ IsSetTo plan x → IsSettled a x → IsSettled e x
    settled_kept x unset one v h = one v (within x unset v h) ∙ sym (puts.now x unset)

    pub file_kept : (x : Spot) → ¬ IsSetTo plan x → IsSettledFile a x → IsSettledFile e x
    file_kept x unset f = record { number = f.number; only = λ w h. f.only w (within x unset w h) }

    folder_kept : (x : Spot) → IsFolder a x → IsFolder e x
    folder_kept x is = ap (λ f. f x) puts.files.folders ∙ is

    set_stands : SetStands e plan
    set_stands = record {
      sources = λ x is. file_kept x (from-not_set plan sets_rules x is) (stands.sources x is);
      open_places = λ x is. record {
        not_odd = λ h. elim (puts.held x odd h) [
          | inl old ↦ (stands.open_places x is).not_odd old
          | inr put ↦ elim put.value [ inl gone ↦ let t : odd ≡ none = gone in cc | inr got ↦ no_odd a.now put.row.from got ]
        ];
        no_folder = ap (λ f. f x) puts.files.folders ∙ (stands.open_places x is).no_folder;
      };
      made = λ x is. inl (folder_kept x (ready.made x is));
      parents = λ x s is below. elim (stands.parents x s is below) [ inl made ↦ inl made | inr folder ↦ inr (folder_kept s folder) ];
      steps = inr (λ x is. file_kept x (save-not_set plan sets_rules x is) (ready.saved x is));
      rest = λ x out no_entry. settled_kept x (λ is. out (inl is)) (stands.rest x out no_entry);
    }

    firm_kept : FirmBut e
    firm_kept x n h soft =
        let soft_then : a.firm n ≡ false = sym (ap (λ f. f n) puts.files.firm) ∙ soft in
        elim (puts.held x (file n) h) [
          | inl old ↦ ready.standing.firm x n old soft_then
          | inr put ↦ elim put.value [
            | inl gone ↦ let t : file n ≡ none = gone in absurd (cc)
            | inr got ↦
                let from = file_from a.now put.row.from n got in
                absurd (free-not_temp from.0 (from_free plan sets_rules from.0 (record { row = put.row; listed = put.listed; here = from.1 })) (ready.standing.firm from.0 n (inl (sym from.2)) soft_then))
          ]
        ]

    pub sets_carry : Carries plan phase.Set a e
    sets_carry =
        let alone = alone_kept plan phase.Set a e puts.files (within intent_spot (control-not_set plan sets_rules control.Intent)) ready.form in
        record {
          standing = alone_standing plan phase.Set e alone puts.valid firm_kept (record { accepted = before.accepted; set_form = λ is. set_stands; clear_form = λ is. absurd (cc) });
          profile = settled_kept profile_spot (control-not_set plan sets_rules control.Profile) ready.profile;
          alone = alone;
          files = puts.files;
          intent = puts.now intent_spot (control-not_set plan sets_rules control.Intent);
        }

-- every disk along the sets leads where the start leads
pub sets_lead : (plan : Plan) (s t : Story) → SetsReady plan (disk_of s) → Along (Puts plan (disk_of s)) s t → Along (Leads (ToOutcomeOf (disk_of s))) s t
sets_lead plan s t ready a = carries_leads plan phase.Set (Puts plan (disk_of s)) s t (λ e h. sets_carry plan (disk_of s) ready e h) a

-- at the end each destination has its file alone
pub sets_done : (plan : Plan) (s t u : Story) → PassesRules plan → (folders : List Place) → AreFolders (set_places plan) folders → Along (Puts plan (disk_of s)) s t → Along (Syncs (disk_of t)) t u
    → ((row : SetRow) → Contains plan.sets row → (disk_of t).now (spot_of row.to) ≡ file_at (disk_of s).now row.from)
    → ((p : Place) → Contains folders p → IsFolder (disk_of t) (spot_of p) → EntriesSettled (disk_of u) (spot_of p))
    → SetsDone plan (disk_of s) (disk_of u)
sets_done plan s t u passes folders are a b done settled row listed =
    subst (HoldsOnly (disk_of u) (spot_of row.to)) (done row listed)
    (only_synced (disk_of t) (disk_of u) (spot_of row.to) (along_last (Puts plan (disk_of s)) s t a).valid (along_last (Syncs (disk_of t)) t u b)
    (set_free plan passes (spot_of row.to) (record { row = row; listed = listed; here = refl })).not_root
    (λ folder. listed_settled (disk_of t) (disk_of u) folders settled (parent (spot_of row.to)) (are.all (parent (spot_of row.to)) (record { place = row.to; listed = map_contains (λ (r : SetRow). r.to) plan.sets row listed; here = refl })) folder))

-- the sets may run, so each can be done
pub sets_free : (plan : Plan) (a : Disk) → SetsReady plan a → NoneHas (set_obstacle a) plan.sets
sets_free plan a ready row listed = by_from row.from (λ x at. stands.sources x (record { row = row; listed = listed; here = at }))
  where
    stands : SetStands a plan
    stands = (ready.standing.intents (record { phase = phase.Set; plan = plan }) (alone_may plan phase.Set a ready.form)).set_form refl

    x : Spot
    x = spot_of row.to

    to : IsSetTo plan (spot_of row.to)
    to = record { row = row; listed = listed; here = refl }

    place : place_by (kind_of a (spot_of row.to)) (spot_of row.to) ≡ None
    place = open_place a (spot_of row.to) (stands.open_places (spot_of row.to) (inl (inl to)))

    folder : kind_of a (parent (spot_of row.to)) ≡ Folder
    folder = folder-kind a (parent (spot_of row.to)) (elim (stands.parents (spot_of row.to) (parent (spot_of row.to)) (inl (inl to)) (parent_below (spot_of row.to) (set_free plan (sets_rules plan a ready) (spot_of row.to) to).not_root)) [ inl made ↦ ready.made (parent (spot_of row.to)) made | inr there ↦ there ])

    by_from : (o : Option Place) → ((x : Spot) → IsAt o x → IsSettledFile a x) → set_obstacle_from a o row.to ≡ None
    by_from None sources = place
    by_from (Some p) sources = link_free a (spot_of p) (spot_of row.to) (settled_file-kind a (spot_of p) ready.standing.valid (sources (spot_of p) refl)) place folder
