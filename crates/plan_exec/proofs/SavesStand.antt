-- While the saves run, the set form stands.
use Rattle.std.proofs.Common.{◌≡◌, ◌⊎◌, List, false, refl, sym, ap, ◌∙◌, inl, inr, subst}
use Rattle.std.specs.List.{Contains}
use Rattle.rel_paths.specs.declared.control.Control.TheVariants as control
use Rattle.tree_fs.specs.declared.place.Place.{Place}
use Rattle.tree_fs.specs.Spot.{Spot, spot_of, parent}
use Rattle.tree_fs.specs.Disk.{kind_of, Disk, Value, none, file, odd, MayHold, IsFile, IsSettled, HoldsOnly}
use Rattle.tree_fs.specs.Story.{Story, disk_of, Along}
use Rattle.tree_fs.specs.Calls.{IsFolder}
use Rattle.tree_fs.proofs.Moments.{along_last}
use Rattle.move_plan.specs.declared.plan.Plan.{Plan}
use Rattle.move_plan.specs.Places.{Has, IsSaveTo, IsDestination}
use Rattle.move_plan.specs.Rules.{apart, Apart, PassesRules}
use Rattle.move_plan.proofs.Entries.{of_each, rule_2}
use Rattle.move_plan.proofs.Ordered.{one_save}
use Rattle.intent_json.specs.declared.intent.Phase.TheVariants as phase
use Rattle.desk_model.specs.Desk.{file_or_none}
use Rattle.desk_model.specs.Places.{profile_spot, intent_spot}
use Rattle.desk_model.specs.Standing.{IsSettledFile, IsBegun, SavesRun, SavesDone, SetStands, IntentStands}
use Rattle.desk_model.specs.Stops.{Leads}
use Rattle.desk_model.proofs.Fewer.{FirmBut}
use Rattle.intent_journal.specs.Ready.{AreFolders, saved_places}
use Rattle.list_laws.proofs.Containing.{map_contains}
use Rattle.plan_exec.specs.Frames.{Saves}
use Rattle.tree_fs.specs.Frames.{Syncs, EntriesSettled}
use Rattle.plan_exec.specs.Steps.{SavesReady, ToOutcomeOf}
use Rattle.plan_exec.proofs.Forms.{Carries, alone_may, alone_standing, alone_kept, carries_leads}
use Rattle.plan_exec.specs.Causes.{NoneHas, place_by, link_obstacle, save_obstacle_by, save_obstacle}
use Rattle.plan_exec.proofs.Obstacles.{link_free, save_none}
use Rattle.plan_exec.proofs.Values.{odd_save, file_save}
use Rattle.plan_exec.proofs.Syncing.{only_synced, listed_settled}
use Rattle.plan_exec.proofs.Open.{open_place, settled_file-kind}
use Rattle.tree_fs.proofs.KindOf.{folder-kind}
use Rattle.tree_fs.specs.declared.name.Kind.TheVariants.{Folder}
use Rattle.plan_exec.specs.Steps.{FoldersMade}
use Rattle.std.specs.declared.option.Option.TheVariants.{None}
use Rattle.plan_exec.proofs.Rules.{parent_below, free-not_temp, save_free, save-not_set, control-not_save}
use Rattle.plan_exec.proofs.Saving.{source-not_save}

module _ (plan : Plan) (a : Disk) (ready : SavesReady plan a) where
  before : IntentStands a (record { phase = phase.Set; plan = plan })
  before = ready.standing.intents (record { phase = phase.Set; plan = plan }) (alone_may plan phase.Set a ready.form)

  pub saves_rules : PassesRules plan
  saves_rules = before.accepted.rules

  stands : SetStands a plan
  stands = before.set_form refl

  module _ (e : Disk) (saves : Saves plan a e) where
    within : (x : Spot) → ¬ IsSaveTo plan x → (v : Value) → MayHold e x v → MayHold a x v
    within x unset v h = elim (saves.held x v h) [ inl old ↦ old | inr put ↦ absurd (unset (record { save = put.save; listed = put.listed; here = put.here })) ]

    settled_kept : (x : Spot) → ¬ IsSaveTo plan x → IsSettled a x → IsSettled e x
    settled_kept x unset one v h = one v (within x unset v h) ∙ sym (saves.now x unset)

    only_kept : (x : Spot) (v : Value) → ¬ IsSaveTo plan x → HoldsOnly a x v → HoldsOnly e x v
    only_kept x v unset only w h = only w (within x unset w h)

    -- a settled file stays so, wherever it is
    file_kept : (x : Spot) → IsSettledFile a x → IsSettledFile e x
    file_kept x f = record { number = f.number; only = λ w h. f.only w (saves.had x w (f.number, f.only (a.now x) (inl refl)) h) }

    folder_kept : (x : Spot) → IsFolder a x → IsFolder e x
    folder_kept x is = ap (λ f. f x) saves.files.folders ∙ is

    begun_kept : (s : Place × Place) → Contains plan.saves s → IsBegun a (spot_of s.0) (spot_of s.1) → IsBegun e (spot_of s.0) (spot_of s.1)
    begun_kept s listed b = record {
      number = b.number;
      source = only_kept (spot_of s.0) (file b.number) (source-not_save plan saves_rules s listed) b.source;
      either = λ v h. elim (saves.held (spot_of s.1) v h) [
        | inl old ↦ b.either v old
        | inr put ↦ elim put.value [
          | inl gone ↦ inl gone
          | inr got ↦
              let same : put.save ≡ s = one_save plan saves_rules put.save s put.listed listed put.here in
              let now : a.now (spot_of s.0) ≡ file b.number = b.source (a.now (spot_of s.0)) (inl refl) in
              inr (got ∙ ap (λ (r : Place × Place). file_or_none (a.now (spot_of r.0))) same ∙ ap file_or_none now)
        ]
      ];
    }

    steps_kept : SavesRun a plan ⊎ SavesDone a plan → SavesRun e plan ⊎ SavesDone e plan
    steps_kept (inr done) = inr (λ x is. file_kept x (done x is))
    steps_kept (inl run) = inl (record {
      sets = λ x is. settled_kept x (λ to. save-not_set plan saves_rules x to is) (run.sets x is);
      saves = λ s listed. elim (run.saves s listed) [ inl done ↦ inl (file_kept (spot_of s.1) done) | inr begun ↦ inr (begun_kept s listed begun) ];
    })

    made_kept : (x : Spot) → Has plan.folders x → IsFolder a x ⊎ HoldsOnly a x none → IsFolder e x ⊎ HoldsOnly e x none
    made_kept x is (inl folder) = inl (folder_kept x folder)
    made_kept x is (inr only) = inr (only_kept x none (λ to. subst (λ y. ¬ IsDestination plan y) is.here ((of_each (Apart plan) plan (saves_rules apart)).folders is.place is.listed).0 (inr to)) only)

    set_stands : SetStands e plan
    set_stands = record {
      sources = λ x is. file_kept x (stands.sources x is);
      open_places = λ x is. record {
        not_odd = λ h. elim (saves.held x odd h) [
          | inl old ↦ (stands.open_places x is).not_odd old
          | inr put ↦ elim put.value [ inl gone ↦ let t : odd ≡ none = gone in cc | inr got ↦ odd_save (a.now (spot_of put.save.0)) got ]
        ];
        no_folder = ap (λ f. f x) saves.files.folders ∙ (stands.open_places x is).no_folder;
      };
      made = λ x is. made_kept x is (stands.made x is);
      parents = λ x s is below. elim (stands.parents x s is below) [ inl made ↦ inl made | inr folder ↦ inr (folder_kept s folder) ];
      steps = steps_kept stands.steps;
      rest = λ x out no_entry. settled_kept x (λ is. out (inr is)) (stands.rest x out no_entry);
    }

    firm_kept : FirmBut e
    firm_kept x n h soft =
        let soft_then : a.firm n ≡ false = sym (ap (λ f. f n) saves.files.firm) ∙ soft in
        elim (saves.held x (file n) h) [
          | inl old ↦ ready.standing.firm x n old soft_then
          | inr put ↦ elim put.value [
            | inl gone ↦ let t : file n ≡ none = gone in absurd (cc)
            | inr got ↦
                let from = spot_of put.save.0 in
                let is : a.now (spot_of put.save.0) ≡ file n = file_save (a.now (spot_of put.save.0)) n got in
                absurd (free-not_temp from ((rule_2 plan saves_rules).saves put.save put.listed).0 (ready.standing.firm from n (inl (sym is)) soft_then))
          ]
        ]

    pub saves_carry : Carries plan phase.Set a e
    saves_carry =
        let alone = alone_kept plan phase.Set a e saves.files (within intent_spot (control-not_save plan saves_rules control.Intent)) ready.form in
        record {
          standing = alone_standing plan phase.Set e alone saves.valid firm_kept (record { accepted = before.accepted; set_form = λ is. set_stands; clear_form = λ is. absurd (cc) });
          profile = settled_kept profile_spot (control-not_save plan saves_rules control.Profile) ready.profile;
          alone = alone;
          files = saves.files;
          intent = saves.now intent_spot (control-not_save plan saves_rules control.Intent);
        }

-- every disk along the saves leads where the start leads
pub saves_lead : (plan : Plan) (s t : Story) → SavesReady plan (disk_of s) → Along (Saves plan (disk_of s)) s t → Along (Leads (ToOutcomeOf (disk_of s))) s t
saves_lead plan s t ready a = carries_leads plan phase.Set (Saves plan (disk_of s)) s t (λ e h. saves_carry plan (disk_of s) ready e h) a

-- at the end each destination is a settled file
pub saves_done : (plan : Plan) (s t u : Story) → PassesRules plan → (folders : List Place) → AreFolders (saved_places plan) folders → Along (Saves plan (disk_of s)) s t → Along (Syncs (disk_of t)) t u
    → ((save : Place × Place) → Contains plan.saves save → IsFile (disk_of t) (spot_of save.1))
    → ((p : Place) → Contains folders p → IsFolder (disk_of t) (spot_of p) → EntriesSettled (disk_of u) (spot_of p))
    → SavesDone (disk_of u) plan
saves_done plan s t u passes folders are a b done settled x to =
    let f : IsFile (disk_of t) x = subst (IsFile (disk_of t)) to.here (done to.save to.listed) in
    let above : parent (spot_of to.save.1) ≡ parent x = ap parent to.here in
    let only = only_synced (disk_of t) (disk_of u) x (along_last (Saves plan (disk_of s)) s t a).valid (along_last (Syncs (disk_of t)) t u b) (save_free plan passes x to).not_root
    (λ folder. listed_settled (disk_of t) (disk_of u) folders settled (parent x) (are.all (parent x) (record { place = to.save.1; listed = map_contains (λ (r : Place × Place). r.1) plan.saves to.save to.listed; here = above })) folder) in
    record { number = f.0; only = subst (HoldsOnly (disk_of u) x) f.1 only }

-- the saves may run and the folders are made, so each can be done
pub saves_free : (plan : Plan) (a : Disk) → SavesReady plan a → FoldersMade plan a → NoneHas (save_obstacle a) plan.saves
saves_free plan a ready made save listed = elim stands.steps [
  | inl run ↦ elim (run.saves save listed) [ inl done ↦ by_file done | inr begun ↦ by_source begun ]
  | inr done ↦ by_file (done (spot_of save.1) to)
]
  where
    stands : SetStands a plan
    stands = (ready.standing.intents (record { phase = phase.Set; plan = plan }) (alone_may plan phase.Set a ready.form)).set_form refl

    to : IsSaveTo plan (spot_of save.1)
    to = record { save = save; listed = listed; here = refl }

    by_file : IsSettledFile a (spot_of save.1) → save_obstacle a save ≡ None
    by_file done = ap (λ k. save_obstacle_by k (link_obstacle a (spot_of save.0) (spot_of save.1))) (settled_file-kind a (spot_of save.1) ready.standing.valid done)

    place : place_by (kind_of a (spot_of save.1)) (spot_of save.1) ≡ None
    place = open_place a (spot_of save.1) (stands.open_places (spot_of save.1) (inl (inr to)))

    folder : kind_of a (parent (spot_of save.1)) ≡ Folder
    folder = folder-kind a (parent (spot_of save.1)) (elim (stands.parents (spot_of save.1) (parent (spot_of save.1)) (inl (inr to)) (parent_below (spot_of save.1) (save_free plan (saves_rules plan a ready) (spot_of save.1) to).not_root)) [ inl is ↦ made (parent (spot_of save.1)) is | inr there ↦ there ])

    by_source : IsBegun a (spot_of save.0) (spot_of save.1) → save_obstacle a save ≡ None
    by_source begun = save_none (kind_of a (spot_of save.1)) (link_free a (spot_of save.0) (spot_of save.1) (settled_file-kind a (spot_of save.0) ready.standing.valid (record { number = begun.number; only = begun.source })) place folder)
