-- Each step: it passes or refuses, and refuses in one way.
use Rattle.std.proofs.Common.{◌≡◌, ◌⊎◌, ℕ, ◌<◌, ◌≤◌, List, length, map, sym, ap, ◌∙◌, subst, inl, inr, arith}
use Rattle.std.specs.Prelude.{Err}
use Rattle.std.specs.declared.option.Option.{Option}
use Rattle.std.specs.declared.option.Option.TheVariants.{None, Some}
use Rattle.std.specs.declared.result.Result.{Result}
use Rattle.std.specs.Result.{result_ok}
use Rattle.tree_fs.specs.declared.name.Kind.TheVariants.{File, Absent}
use Rattle.tree_fs.specs.Spot.{spot_of}
use Rattle.tree_fs.specs.Disk.{Disk, Value, none, file, odd}
use Rattle.tree_fs.specs.Parts.{bytes_of}
use Rattle.tree_fs.proofs.Spots.{same_place}
use Rattle.profile_toml.specs.Records.{ProfileData}
use Rattle.mod_rules.specs.Checks.{first_failing_rule, error_of}
use Rattle.load_order.specs.Cycles.{IsFound as IsCycle}
use Rattle.load_order.proofs.OneCycle.{found_alone}
use Rattle.stage_scan.specs.declared.scan.Scan.{Scan}
use Rattle.winner_table.specs.declared.error.WinError.TheVariants as win
use Rattle.winner_table.specs.Folders.{IsLeastFolder}
use Rattle.manifest_json.specs.declared.error.ManifestError.{ManifestError}
use Rattle.manifest_json.specs.declared.manifest.Manifest.{Manifest}
use Rattle.manifest_json.specs.Manifests as json
use Rattle.intent_json.specs.declared.intent.Intent.{Intent}
use Rattle.intent_journal.specs.declared.error.ReadyError.{ReadyError}
use Rattle.intent_journal.specs.Found.{IsFound, IsNoIntent}
use Rattle.intent_journal.specs.Lengths.{length_fault}
use Rattle.move_plan.specs.declared.plan.Plan.{Plan}
use Rattle.desk_model.specs.Places.{manifest_spot}
use Rattle.desk_model.specs.Records.{recorded_by, read_as, rows_on}
use Rattle.desk_model.specs.Outcome.{recorded_or_none}
use Rattle.deploy_plan.specs.Refusals.{IsPlanRefusal}
use Rattle.deploy_plan.proofs.OneFirst.{none_is_first, first_is_one}
use Rattle.plan_model.specs.Rows.{old_of}
use Rattle.purge_run.proofs.OneFirst.{none_is_first as none_purged, first_is_one as one_purged}
use Rattle.purge_run.proofs.OnePlan.{purge_is_one}
use Rattle.change_choices.specs.Choice.{choice}
use Rattle.change_settle.proofs.OneFirst.{none_is_first as none_settled, first_is_one as one_settled}
use Rattle.profile_edit.specs.Edits.{edit_fault}
use Rattle.answer_lines.specs.Lists.{id_of}
use Rattle.choice_lines.proofs.Once.{read_or_refused, one_refusal}
use Rattle.answer_lines.specs.declared.refusal.InputRefusal.{InputRefusal}
use Rattle.answer_lines.specs.declared.refusal.Refusal.TheVariants as group
use Rattle.answer_lines.specs.declared.refusal.PlanRefusal.TheVariants.{Blocked}
use Rattle.answer_lines.specs.declared.refusal.ProfileRefusal.TheVariants.{TooManyMods, TooLong}
use Rattle.answer_lines.specs.declared.refusal.RuleRefusal.TheVariants.{Cycle}
use Rattle.command_steps.specs.declared.limits.Limits.{Limits}
use Rattle.command_steps.specs.declared.stop.Stop.{Stop}
use Rattle.command_steps.specs.declared.stop.Stop.TheVariants.{Refused}
use Rattle.command_steps.specs.Stops.{profile_stop, rule_stop, win_stop, manifest_stop, plan_stop, ready_stop, purge_stop, settle_stop, edit_stop}
use Rattle.command_steps.specs.Profiles.{HasProfile, enabled_ids, bases_of, IsGraphOf, IsOrderOf}
use Rattle.command_steps.specs.Scans.{IsFirstScanFault, AreScans, IsFirstTargetLong}
use Rattle.command_steps.specs.Looks.{placed}
use Rattle.command_steps.specs.Manifests.{HasManifest, HasManifestFault, manifest_size}
use Rattle.command_steps.specs.Plans.{IsIdleOn}
use Rattle.command_steps.specs.Inputs.{changes_on, answers_in, IsAnswered, input_refusal, IsInputRefusal}
use Rattle.command_steps.specs.Steps.{Step, fine, no_intent, barrier, profile, rules, order, scans, targets, winners, manifest, changes, intent, planned, fits, purged, purge_fits, answers, settled, settle_fits, edit, Passes, Refuses}
use Rattle.command_steps.proofs.OneProfile.{one_profile, one_read, no_fault, of_err, one_graph}
use Rattle.command_steps.proofs.OneScan.{one_scans}
use Rattle.command_steps.proofs.ScanFaults.{one_scan_fault, no_scan_fault, one_target_long, no_target_long}
use Rattle.command_steps.proofs.OneLook.{one_look, one_folder, no_folder}
use Rattle.command_steps.proofs.OneWins.{one_wins}
use Rattle.command_steps.proofs.OnePlan.{one_plan}
use Rattle.command_steps.proofs.OneSettle.{settle_is_one}
use Rattle.command_steps.proofs.RowsRead.{rows_read}

-- Options and counts

not_both : {X : Type 0} (o : Option X) (x : X) → o ≡ None → o ≡ Some x → ⊥
not_both None x a b = cc
not_both (Some y) x a b = cc

of_some : {X : Type 0} (x y : X) → Some x ≡ Some y → x ≡ y
of_some x y e = cc

apart : (m n : ℕ) → m ≤ n → n < m → ⊥
apart m n a b = omega (arith, a, b)

-- The profile

exclusive_profile : (limits : Limits) (d : Disk) (stop : Stop) → Passes profile limits d → Refuses profile limits d stop → ⊥
exclusive_profile limits d stop pass (inl fault) = no_fault d pass.0 fault.error pass.1 fault.read
exclusive_profile limits d stop pass (inr many) = apart (length pass.0.mods) limits.mods pass.2 (subst (λ (p : ProfileData). limits.mods < length p.mods) (one_profile d many.0 pass.0 many.1 pass.1) many.2)

unique_profile : (limits : Limits) (d : Disk) (one other : Stop) → Refuses profile limits d one → Refuses profile limits d other → one ≡ other
unique_profile limits d one other (inl a) (inl b) = a.is ∙ ap profile_stop (of_err a.error b.error (one_read d (Err a.error) (Err b.error) a.read b.read)) ∙ sym b.is
unique_profile limits d one other (inl a) (inr b) = absurd (no_fault d b.0 a.error b.1 a.read)
unique_profile limits d one other (inr a) (inl b) = absurd (no_fault d a.0 b.error a.1 b.read)
unique_profile limits d one other (inr a) (inr b) = a.3 ∙ ap (λ (p : ProfileData). Refused (group.Profile (TooManyMods (length p.mods)))) (one_profile d a.0 b.0 a.1 b.1) ∙ sym b.3

-- The rules and the order

exclusive_rules : (limits : Limits) (d : Disk) (stop : Stop) → Passes rules limits d → Refuses rules limits d stop → ⊥
exclusive_rules limits d stop pass turned = not_both (first_failing_rule pass.0) turned.2 pass.2 (ap first_failing_rule (one_profile d pass.0 turned.0 pass.1 turned.1) ∙ turned.3)

unique_rules : (limits : Limits) (d : Disk) (one other : Stop) → Refuses rules limits d one → Refuses rules limits d other → one ≡ other
unique_rules limits d one other a b =
    let failing : a.2 ≡ b.2 = of_some a.2 b.2 (sym a.3 ∙ ap first_failing_rule (one_profile d a.0 b.0 a.1 b.1) ∙ b.3) in
    a.4 ∙ ap (λ q. rule_stop (error_of q)) failing ∙ sym b.4

exclusive_order : (limits : Limits) (d : Disk) (stop : Stop) → Passes order limits d → Refuses order limits d stop → ⊥
exclusive_order limits d stop pass turned =
    let p : turned.0 ≡ pass.0 = one_profile d turned.0 pass.0 turned.1 pass.1 in
    let g : pass.2 ≡ turned.2 = one_graph pass.0 pass.2 turned.2 pass.3 (subst (λ q. IsGraphOf q turned.2) p turned.3) in
    turned.4 pass.4 (subst (λ h. IsOrderOf h pass.4) g pass.5).lawful

unique_order : (limits : Limits) (d : Disk) (one other : Stop) → Refuses order limits d one → Refuses order limits d other → one ≡ other
unique_order limits d one other a b =
    let p : b.0 ≡ a.0 = one_profile d b.0 a.0 b.1 a.1 in
    let g : b.2 ≡ a.2 = one_graph a.0 b.2 a.2 (subst (λ q. IsGraphOf q b.2) p b.3) a.3 in
    let cycle : b.5 ≡ a.5 = found_alone a.2 a.5 b.5 a.6 (subst (λ h. IsCycle h b.5) g b.6) in
    a.7 ∙ (λ i. Refused (group.Rules (Cycle (map (id_of (enabled_ids (sym p i))) (sym cycle i))))) ∙ sym b.7

-- The scans, where their files are deployed, and the winners

exclusive_scans : (limits : Limits) (d : Disk) (stop : Stop) → Passes scans limits d → Refuses scans limits d stop → ⊥
exclusive_scans limits d stop pass turned = no_scan_fault d limits.entries (enabled_ids pass.0) stop pass.2 (subst (λ p. IsFirstScanFault d (enabled_ids p) limits.entries stop) (one_profile d turned.0 pass.0 turned.1 pass.1) turned.2)

unique_scans : (limits : Limits) (d : Disk) (one other : Stop) → Refuses scans limits d one → Refuses scans limits d other → one ≡ other
unique_scans limits d one other a b = one_scan_fault d limits.entries (enabled_ids a.0) one other a.2 (subst (λ p. IsFirstScanFault d (enabled_ids p) limits.entries other) (one_profile d b.0 a.0 b.1 a.1) b.2)

-- what another says of the scans, said of these
moved_long : (d : Disk) (p q : ProfileData) (xs ys : List Scan) (stop : Stop) → HasProfile d p → HasProfile d q → AreScans d (enabled_ids p) xs → AreScans d (enabled_ids q) ys → IsFirstTargetLong (bases_of q) ys stop → IsFirstTargetLong (bases_of p) xs stop
moved_long d p q xs ys stop has_p has_q are_xs are_ys first =
    let same : q ≡ p = one_profile d q p has_q has_p in
    let found : ys ≡ xs = one_scans d (enabled_ids p) ys xs (subst (λ r. AreScans d (enabled_ids r) ys) same are_ys) are_xs in
    subst (λ zs. IsFirstTargetLong (bases_of p) zs stop) found (subst (λ r. IsFirstTargetLong (bases_of r) ys stop) same first)

exclusive_targets : (limits : Limits) (d : Disk) (stop : Stop) → Passes targets limits d → Refuses targets limits d stop → ⊥
exclusive_targets limits d stop pass turned = no_target_long (bases_of pass.0) pass.2 stop pass.4 (moved_long d pass.0 turned.0 pass.2 turned.2 stop pass.1 turned.1 pass.3 turned.3 turned.4)

unique_targets : (limits : Limits) (d : Disk) (one other : Stop) → Refuses targets limits d one → Refuses targets limits d other → one ≡ other
unique_targets limits d one other a b = one_target_long (bases_of a.0) a.2 one other a.4 (moved_long d a.0 b.0 a.2 b.2 other a.1 b.1 a.3 b.3 b.4)

exclusive_winners : (limits : Limits) (d : Disk) (stop : Stop) → Passes winners limits d → Refuses winners limits d stop → ⊥
exclusive_winners limits d stop pass turned = no_folder pass.0 pass.2 turned.2 pass.3 (subst (λ l. IsLeastFolder (placed l) l.order turned.2) (one_look d turned.0 pass.0 turned.1 pass.1) turned.3)

unique_winners : (limits : Limits) (d : Disk) (one other : Stop) → Refuses winners limits d one → Refuses winners limits d other → one ≡ other
unique_winners limits d one other a b =
    let path : a.2 ≡ b.2 = one_folder (placed a.0) a.0.order a.2 b.2 a.3 (subst (λ l. IsLeastFolder (placed l) l.order b.2) (one_look d b.0 a.0 b.1 a.1) b.3) in
    a.4 ∙ ap (λ p. win_stop (win.FileAndFolder p)) path ∙ sym b.4

-- The manifest

refused_or : (bytes : List ℕ) (o : Option Manifest) (m : Option Manifest) → o ≡ None → read_as bytes o ≡ recorded_or_none m → ⊥
refused_or bytes None None e is = cc
refused_or bytes None (Some m) e is = cc
refused_or bytes (Some x) m e is = cc

none_value : (bytes : List ℕ) (e : ManifestError) → json.manifest_of bytes ≡ Err e → json.manifest_value bytes ≡ None
unfolding json.manifest_value
none_value bytes e fault = ap result_ok fault

no_fault_by : (d : Disk) (v : Value) (m : Option Manifest) (e : ManifestError) (n : ℕ) → v ≡ file n → json.manifest_of (bytes_of d v) ≡ Err e → recorded_by d.bytes v ≡ recorded_or_none m → ⊥
no_fault_by d none m e n is fault has = cc
no_fault_by d odd m e n is fault has = cc
no_fault_by d (file k) m e n is fault has = refused_or (d.bytes k) (json.manifest_value (d.bytes k)) m (none_value (d.bytes k) e fault) has

no_manifest_fault : (d : Disk) (m : Option Manifest) (e : ManifestError) → HasManifest d m → HasManifestFault d e → ⊥
no_manifest_fault d m e has fault = no_fault_by d (d.now manifest_spot) m e fault.file.0 fault.file.1 fault.fault has

of_fault : (e f : ManifestError) → ◌≡◌ {A = Result Manifest ManifestError} (Err e) (Err f) → e ≡ f
of_fault e f same = cc

exclusive_manifest : (limits : Limits) (d : Disk) (stop : Stop) → Passes manifest limits d → Refuses manifest limits d stop → ⊥
exclusive_manifest limits d stop pass (inl long) = apart (manifest_size d) limits.text pass.0 long.0
exclusive_manifest limits d stop pass (inr turned) = no_manifest_fault d pass.1 turned.1 pass.2 turned.2

unique_manifest : (limits : Limits) (d : Disk) (one other : Stop) → Refuses manifest limits d one → Refuses manifest limits d other → one ≡ other
unique_manifest limits d one other (inl a) (inl b) = a.3 ∙ ap (λ p. Refused (group.Profile (TooLong p))) (same_place a.1 b.1 (a.2 ∙ sym b.2)) ∙ sym b.3
unique_manifest limits d one other (inl a) (inr b) = absurd (apart (manifest_size d) limits.text b.0 a.0)
unique_manifest limits d one other (inr a) (inl b) = absurd (apart (manifest_size d) limits.text a.0 b.0)
unique_manifest limits d one other (inr a) (inr b) = a.4 ∙ ap manifest_stop (of_fault a.1 b.1 (sym a.2.fault ∙ b.2.fault)) ∙ sym b.4

-- The intent

exclusive_intent : (d : Disk) (found : Option Intent) → IsFound d found → IsNoIntent d → ⊥
exclusive_intent d None is turned = let no_way : Absent ≡ File = sym is ∙ turned.file in cc
exclusive_intent d (Some i) is turned = not_both _ i turned.value is.value

-- The length of a plan's text

fits_apart : (limits : Limits) (d : Disk) (p q : Plan) (error : ReadyError) → q ≡ p → IsIdleOn d p ⊎ (length_fault p limits.text ≡ None) → ¬ IsIdleOn d q → length_fault q limits.text ≡ Some error → ⊥
fits_apart limits d p q error same (inl idle) moves long = moves (subst (IsIdleOn d) (sym same) idle)
fits_apart limits d p q error same (inr short) moves long = not_both (length_fault p limits.text) error short (ap (λ r. length_fault r limits.text) (sym same) ∙ long)

one_length : (limits : Limits) (p q : Plan) (e f : ReadyError) → p ≡ q → length_fault p limits.text ≡ Some e → length_fault q limits.text ≡ Some f → e ≡ f
one_length limits p q e f same long also = of_some e f (sym long ∙ ap (λ r. length_fault r limits.text) same ∙ also)

-- The input

exclusive_answers : (d : Disk) (bytes : List ℕ) (refusal : InputRefusal) → IsAnswered d bytes → IsInputRefusal d bytes refusal → ⊥
exclusive_answers d bytes refusal pass turned = read_or_refused (changes_on d) bytes (answers_in bytes) turned.error pass.read pass.answers turned.first

unique_answers : (d : Disk) (bytes : List ℕ) (one other : InputRefusal) → IsInputRefusal d bytes one → IsInputRefusal d bytes other → one ≡ other
unique_answers d bytes one other a b = of_some one other (sym a.is ∙ ap input_refusal (one_refusal (changes_on d) bytes a.error b.error a.first b.first) ∙ b.is)

-- All steps

pub exclusive : (step : Step) (limits : Limits) (d : Disk) (stop : Stop) → Passes step limits d → Refuses step limits d stop → ⊥
exclusive (fine which) limits d stop pass turned = turned.3 pass
exclusive no_intent limits d stop pass turned = pass turned.1
exclusive barrier limits d stop pass turned = turned
exclusive profile limits d stop pass turned = exclusive_profile limits d stop pass turned
exclusive rules limits d stop pass turned = exclusive_rules limits d stop pass turned
exclusive order limits d stop pass turned = exclusive_order limits d stop pass turned
exclusive scans limits d stop pass turned = exclusive_scans limits d stop pass turned
exclusive targets limits d stop pass turned = exclusive_targets limits d stop pass turned
exclusive winners limits d stop pass turned = exclusive_winners limits d stop pass turned
exclusive manifest limits d stop pass turned = exclusive_manifest limits d stop pass turned
exclusive changes limits d stop pass turned = not_both _ (spot_of turned.0) pass turned.1
exclusive intent limits d stop pass turned = exclusive_intent d pass.0 pass.1 turned.1
exclusive planned limits d stop pass turned =
    none_is_first d (rows_on d) pass.0 turned.2 pass.2 turned.3 (subst (λ w. IsPlanRefusal d (rows_on d) w turned.2) (one_wins d turned.0 pass.0 turned.1 pass.1) turned.4)
exclusive fits limits d stop pass turned = fits_apart limits d pass.0 turned.0 turned.3 (one_plan d turned.0 pass.0 turned.1 pass.1) pass.2 turned.2 turned.4
exclusive purged limits d stop pass turned = none_purged d (rows_on d) turned.0 pass turned.1 turned.2
exclusive purge_fits limits d stop pass turned = fits_apart limits d pass.0 turned.0 turned.3 (purge_is_one d (old_of d) turned.0 pass.0 turned.1 pass.1) pass.2 turned.2 turned.4
exclusive (answers input) limits d stop pass turned = exclusive_answers d input turned.0 pass turned.1
exclusive (settled choices) limits d stop pass turned = none_settled (choice choices) d (rows_on d) turned.0 pass turned.1 turned.2
exclusive (settle_fits choices) limits d stop pass turned = fits_apart limits d pass.0 turned.0 turned.3 (settle_is_one (choice choices) d (old_of d) turned.0 pass.0 turned.1 pass.1) pass.2 turned.2 turned.4
exclusive (edit e) limits d stop pass turned = not_both (edit_fault limits.mods pass.0 e) turned.2 pass.2 (ap (λ p. edit_fault limits.mods p e) (one_profile d pass.0 turned.0 pass.1 turned.1) ∙ turned.3)

pub unique : (step : Step) (limits : Limits) (d : Disk) (one other : Stop) → Refuses step limits d one → Refuses step limits d other → one ≡ other
unique (fine which) limits d one other a b = a.1 ∙ ap (λ p. Refused (group.Plan (Blocked p))) (same_place a.0 b.0 (a.2 ∙ sym b.2)) ∙ sym b.1
unique no_intent limits d one other a b = a.0 ∙ sym b.0
unique barrier limits d one other a b = absurd a
unique profile limits d one other a b = unique_profile limits d one other a b
unique rules limits d one other a b = unique_rules limits d one other a b
unique order limits d one other a b = unique_order limits d one other a b
unique scans limits d one other a b = unique_scans limits d one other a b
unique targets limits d one other a b = unique_targets limits d one other a b
unique winners limits d one other a b = unique_winners limits d one other a b
unique manifest limits d one other a b = unique_manifest limits d one other a b
unique changes limits d one other a b = a.2 ∙ ap (λ p. Refused (group.Plan (Blocked p))) (same_place a.0 b.0 (of_some (spot_of a.0) (spot_of b.0) (sym a.1 ∙ b.1))) ∙ sym b.2
unique intent limits d one other a b = a.0 ∙ sym b.0
unique planned limits d one other a b =
    let same : b.0 ≡ a.0 = one_wins d b.0 a.0 b.1 a.1 in
    let error : a.2 ≡ b.2 = first_is_one d (rows_on d) a.0 a.2 b.2 a.3 b.3 a.4 (subst (λ w. IsPlanRefusal d (rows_on d) w b.2) same b.4) in
    a.5 ∙ ap plan_stop error ∙ sym b.5
unique fits limits d one other a b = a.5 ∙ ap ready_stop (one_length limits a.0 b.0 a.3 b.3 (one_plan d a.0 b.0 a.1 b.1) a.4 b.4) ∙ sym b.5
unique purged limits d one other a b = a.3 ∙ ap purge_stop (one_purged d (rows_on d) a.0 b.0 a.1 b.1 a.2 b.2) ∙ sym b.3
unique purge_fits limits d one other a b = a.5 ∙ ap ready_stop (one_length limits a.0 b.0 a.3 b.3 (purge_is_one d (old_of d) a.0 b.0 a.1 b.1) a.4 b.4) ∙ sym b.5
unique (answers input) limits d one other a b = a.2 ∙ ap (λ r. Refused (group.Input r)) (unique_answers d input a.0 b.0 a.1 b.1) ∙ sym b.2
unique (settled choices) limits d one other a b = a.3 ∙ ap settle_stop (one_settled (choice choices) d (rows_on d) a.0 b.0 (rows_read d) a.1 b.1 a.2 b.2) ∙ sym b.3
unique (settle_fits choices) limits d one other a b = a.5 ∙ ap ready_stop (one_length limits a.0 b.0 a.3 b.3 (settle_is_one (choice choices) d (old_of d) a.0 b.0 a.1 b.1) a.4 b.4) ∙ sym b.5
unique (edit e) limits d one other a b =
    let error : a.2 ≡ b.2 = of_some a.2 b.2 (sym a.3 ∙ ap (λ p. edit_fault limits.mods p e) (one_profile d a.0 b.0 a.1 b.1) ∙ b.3) in
    a.4 ∙ ap edit_stop error ∙ sym b.4
