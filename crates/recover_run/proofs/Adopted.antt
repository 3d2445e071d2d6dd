-- The intent that is found is settled, and what its form leaves to do may begin.
use Rattle.std.proofs.Common.{◌≡◌, refl, sym, ap, ◌∙◌, inl, inr, subst}
use Rattle.std.specs.declared.option.Option.TheVariants.{None, Some}
use Rattle.rel_paths.specs.declared.control.Control.TheVariants as control
use Rattle.tree_fs.specs.declared.place.Root.TheVariants.{Keep}
use Rattle.tree_fs.specs.Spot.{Spot, root_spot}
use Rattle.tree_fs.specs.Disk.{Disk, Value, none, file, odd, IsSettled, kind_of}
use Rattle.tree_fs.specs.Frames.{EntriesSettled, Fewer, Syncs}
use Rattle.tree_fs.specs.Story.{Story, disk_of, Along}
use Rattle.tree_fs.proofs.Frames.{settled-syncs}
use Rattle.tree_fs.proofs.KindOf.{same_kind}
use Rattle.tree_fs.proofs.Moments.{along_both, along_last, along_weaken}
use Rattle.move_plan.specs.declared.plan.Plan.{Plan}
use Rattle.intent_json.specs.declared.intent.Intent.{Intent}
use Rattle.intent_json.specs.declared.intent.Phase.{Phase}
use Rattle.intent_json.specs.declared.intent.Phase.TheVariants.{Set, Clear}
use Rattle.intent_json.specs.Accepted.{IsAccepted}
use Rattle.intent_json.specs.Forms.{bare_of, form_of}
use Rattle.desk_model.specs.Mid.{Mid}
use Rattle.desk_model.specs.Outcome.{intent_by}
use Rattle.desk_model.specs.Places.{intent_spot, profile_spot}
use Rattle.desk_model.specs.Standing.{Standing}
use Rattle.desk_model.specs.Stops.{Leads}
use Rattle.desk_model.proofs.MidKept.{mid-fewer}
use Rattle.desk_model.proofs.Spots.{keep_control}
use Rattle.intent_journal.specs.declared.temp.Temp.TheVariants as temp
use Rattle.intent_journal.specs.Forms.{CanChange}
use Rattle.intent_journal.specs.Found.{IsThere}
use Rattle.intent_journal.specs.Temps.{temp_spot, IsFileOrAbsent}
use Rattle.intent_journal.proofs.Finding.{guard_is, syncs_stand}
use Rattle.plan_exec.specs.Ending.{HasForms, NoTemps}
use Rattle.plan_exec.specs.Steps.{StandsAlone, ToOutcomeOf}
use Rattle.plan_exec.proofs.Forms.{carries_leads}
use Rattle.plan_exec.proofs.OneList.{set_alone, clear_alone}
use Rattle.recover_run.specs.Recovery.{IsFormReady, IsSwept}

-- where `keep` is settled the intent stands alone
alone : (i : Intent) (d : Disk) → EntriesSettled d (root_spot Keep) → IsThere i d → StandsAlone i.plan i.phase d
alone i d settled there = by_value (d.now intent_spot) refl
  where
    by_value : (v : Value) → d.now intent_spot ≡ v → StandsAlone i.plan i.phase d
    by_value none is = let t : None ≡ Some i = ap (intent_by d.bytes) (sym is) ∙ there in absurd (cc)
    by_value odd is = let t : None ≡ Some i = ap (intent_by d.bytes) (sym is) ∙ there in absurd (cc)
    by_value (file n) is = record {
      number = n;
      only = λ w h. settled intent_spot (keep_control control.Intent refl) w h ∙ is;
      text = ap (intent_by d.bytes) (sym is) ∙ there;
    }

module _ (i : Intent) (good : IsAccepted i) (d : Disk) (stands : StandsAlone i.plan i.phase d) where
  -- the plan of a clear form is bare
  bare : i.phase ≡ Clear → bare_of i.plan ≡ i.plan
  bare is = ap (λ (j : Intent). j.plan) (subst (λ p. form_of p i.plan ≡ i) is (guard_is i good))

  set_form_alone : i.phase ≡ Set → StandsAlone i.plan Set d
  set_form_alone is = subst (λ p. StandsAlone i.plan p d) is stands

  clear_form_alone : i.phase ≡ Clear → StandsAlone (bare_of i.plan) Clear d
  clear_form_alone is = subst (λ q. StandsAlone q Clear d) (sym (bare is)) (subst (λ p. StandsAlone i.plan p d) is stands)

  form_ready : Standing d → IsSettled d profile_spot → IsFormReady i.phase i.plan d
  form_ready standing profile = by_phase i.phase refl
    where
      by_phase : (p : Phase) → i.phase ≡ p → IsFormReady i.phase i.plan d
      by_phase Set is = subst (λ q. IsFormReady q i.plan d) (sym is) (record { standing = standing; profile = profile; form = set_form_alone is })
      by_phase Clear is = subst (λ q. IsFormReady q i.plan d) (sym is) (record { standing = standing; profile = profile; form = clear_form_alone is })

  has_forms : HasForms i.plan d
  has_forms = by_phase i.phase refl
    where
      by_phase : (p : Phase) → i.phase ≡ p → HasForms i.plan d
      by_phase Set is = set_alone i.plan d (set_form_alone is)
      by_phase Clear is = clear_alone i.plan d (clear_form_alone is)

-- syncs leave what is there
syncs_kind : (d e : Disk) (x : Spot) → Syncs d e → kind_of e x ≡ kind_of d x
syncs_kind d e x s = same_kind e d x (ap (λ f. f x) s.files.folders) (s.now x)

way_by : (d e : Disk) (x : Spot) → Syncs d e → IsFileOrAbsent d x → IsFileOrAbsent e x
way_by d e x s way = elim way [ inl there ↦ inl (syncs_kind d e x s ∙ there) | inr gone ↦ inr (syncs_kind d e x s ∙ gone) ]

syncs_fewer : (d e : Disk) → Syncs d e → Fewer e d
syncs_fewer d e s = record { folders = s.files.folders; within = s.held; files = λ n f. (ap (λ g. g n) s.files.firm ∙ f, ap (λ g. g n) s.files.bytes) }

module _ (s t : Story) (a : Along (Syncs (disk_of s)) s t) where
  last : Syncs (disk_of s) (disk_of t)
  last = along_last (Syncs (disk_of s)) s t a

  pub adopted_way : (x : Spot) → IsFileOrAbsent (disk_of s) x → IsFileOrAbsent (disk_of t) x
  adopted_way x way = way_by (disk_of s) (disk_of t) x last way

  pub adopted_change : CanChange (disk_of s) → CanChange (disk_of t)
  adopted_change can = record { temp = adopted_way (temp_spot temp.Intent) can.temp; place = adopted_way intent_spot can.place }

  pub adopted_temps : NoTemps (disk_of s) → NoTemps (disk_of t)
  adopted_temps temps which = syncs_kind (disk_of s) (disk_of t) (temp_spot which) last ∙ temps which

  pub adopted_fresh : (disk_of t).fresh ≡ (disk_of s).fresh
  adopted_fresh = last.files.fresh

  pub adopted_mids : (plan : Plan) (b : Disk) → Mid b plan (disk_of s) → Along (Mid b plan) s t
  adopted_mids plan b mid = along_weaken (Syncs (disk_of s)) (Mid b plan) s t (λ e h. mid-fewer b plan e (disk_of s) (syncs_fewer (disk_of s) e h) mid) a

module _ (i : Intent) (good : IsAccepted i) (s t : Story) (there : IsThere i (disk_of s)) (swept : IsSwept (disk_of s)) (a : Along (Syncs (disk_of s)) s t) where
  both : Along (λ e. Syncs (disk_of s) e × Standing e) s t
  both = along_both (Syncs (disk_of s)) Standing s t a (syncs_stand s t swept.standing a)

  keep_still : (e : Disk) → Syncs (disk_of s) e → EntriesSettled e (root_spot Keep)
  keep_still e h x entry = settled-syncs (disk_of s) e x h (swept.keep x entry)

  profile_still : (e : Disk) → Syncs (disk_of s) e → IsSettled e profile_spot
  profile_still e h = keep_still e h profile_spot (keep_control control.Profile refl)

  alone_still : (e : Disk) → Syncs (disk_of s) e → StandsAlone i.plan i.phase e
  alone_still e h = alone i e (keep_still e h) (ap (intent_by e.bytes) (h.now intent_spot) ∙ ap (λ b. intent_by b ((disk_of s).now intent_spot)) h.files.bytes ∙ there)

  pub adopted_leads : Along (Leads (ToOutcomeOf (disk_of s))) s t
  adopted_leads = carries_leads i.plan i.phase (λ e. Syncs (disk_of s) e × Standing e) s t
      (λ e h. record { standing = h.1; profile = profile_still e h.0; alone = alone_still e h.0; files = h.0.files; intent = h.0.now intent_spot }) both

  pub adopted_forms : Along (HasForms i.plan) s t
  adopted_forms = along_weaken (Syncs (disk_of s)) (HasForms i.plan) s t (λ e h. has_forms i good e (alone_still e h)) a

  pub adopted_ready : IsFormReady i.phase i.plan (disk_of t)
  adopted_ready =
      let h = along_last (λ e. Syncs (disk_of s) e × Standing e) s t both in
      form_ready i good (disk_of t) (alone_still (disk_of t) h.0) h.1 (profile_still (disk_of t) h.0)
