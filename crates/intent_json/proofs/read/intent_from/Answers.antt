use Rattle.std.proofs.Common.{None, Some, codes, option_and_then, refl, sym, ap, ◌∙◌}
use Rattle.serde_json.specs.Find.{get}
use Rattle.serde_json.specs.View.{view}
use Rattle.intent_json.specs.Places.{place_of, pair_of, set_of}
use Rattle.intent_json.specs.Reads.{list_at, manifest_from, phase_at}
use Rattle.intent_json.proofs.Chains.{items_some, items_none, intent_by}
use Rattle.intent_json.proofs.read.intent_from.Goals as goal

pub returns-in_default : goal.returns-in_default
returns-in_default c =
    let d = view c.args.value.now in
    sym (intent_by d None (list_at pair_of (codes "saves") d) (list_at set_of (codes "sets") d) (option_and_then manifest_from (get (codes "manifest") d)) (list_at place_of (codes "clears") d) (list_at place_of (codes "folders_off") d) (phase_at d)
    (items_none c.in_ok-folders.field-0 (list_at place_of (codes "folders") d) c.in_ok-folders.ensures c.in_default.is) refl refl refl refl refl refl)

pub returns-in_default-2 : goal.returns-in_default-2
returns-in_default-2 c =
    let d = view c.args.value.now in
    sym (intent_by d (Some c.in-Some.folders.items) None (list_at set_of (codes "sets") d) (option_and_then manifest_from (get (codes "manifest") d)) (list_at place_of (codes "clears") d) (list_at place_of (codes "folders_off") d) (phase_at d)
    (items_some c.in_ok-folders.field-0 c.in-Some.folders (list_at place_of (codes "folders") d) c.in_ok-folders.ensures c.in-Some.is)
    (items_none c.in_ok-saves.field-0 (list_at pair_of (codes "saves") d) c.in_ok-saves.ensures c.in_default-2.is) refl refl refl refl refl)

pub returns-in_default-3 : goal.returns-in_default-3
returns-in_default-3 c =
    let d = view c.args.value.now in
    sym (intent_by d (Some c.in-Some.folders.items) (Some c.in-Some-2.saves.items) None (option_and_then manifest_from (get (codes "manifest") d)) (list_at place_of (codes "clears") d) (list_at place_of (codes "folders_off") d) (phase_at d)
    (items_some c.in_ok-folders.field-0 c.in-Some.folders (list_at place_of (codes "folders") d) c.in_ok-folders.ensures c.in-Some.is)
    (items_some c.in_ok-saves.field-0 c.in-Some-2.saves (list_at pair_of (codes "saves") d) c.in_ok-saves.ensures c.in-Some-2.is)
    (items_none c.in_ok-sets.field-0 (list_at set_of (codes "sets") d) c.in_ok-sets.ensures c.in_default-3.is) refl refl refl refl)

pub returns-in_default-get : goal.returns-in_default-get
returns-in_default-get c =
    let d = view c.args.value.now in
    sym (intent_by d (Some c.in-Some.folders.items) (Some c.in-Some-2.saves.items) (Some c.in-Some-3.sets.items) None (list_at place_of (codes "clears") d) (list_at place_of (codes "folders_off") d) (phase_at d)
    (items_some c.in_ok-folders.field-0 c.in-Some.folders (list_at place_of (codes "folders") d) c.in_ok-folders.ensures c.in-Some.is)
    (items_some c.in_ok-saves.field-0 c.in-Some-2.saves (list_at pair_of (codes "saves") d) c.in_ok-saves.ensures c.in-Some-2.is)
    (items_some c.in_ok-sets.field-0 c.in-Some-3.sets (list_at set_of (codes "sets") d) c.in_ok-sets.ensures c.in-Some-3.is)
    (ap (option_and_then manifest_from) (sym c.in_default-get.ensures)) refl refl refl)

pub returns-in_default-4 : goal.returns-in_default-4
returns-in_default-4 c =
    let d = view c.args.value.now in
    sym (intent_by d (Some c.in-Some.folders.items) (Some c.in-Some-2.saves.items) (Some c.in-Some-3.sets.items) None (list_at place_of (codes "clears") d) (list_at place_of (codes "folders_off") d) (phase_at d)
    (items_some c.in_ok-folders.field-0 c.in-Some.folders (list_at place_of (codes "folders") d) c.in_ok-folders.ensures c.in-Some.is)
    (items_some c.in_ok-saves.field-0 c.in-Some-2.saves (list_at pair_of (codes "saves") d) c.in_ok-saves.ensures c.in-Some-2.is)
    (items_some c.in_ok-sets.field-0 c.in-Some-3.sets (list_at set_of (codes "sets") d) c.in_ok-sets.ensures c.in-Some-3.is)
    (ap (option_and_then manifest_from) (sym c.in-Some-get.ensures) ∙ sym c.in_ok-manifest.ensures ∙ c.in_default-4.is) refl refl refl)

pub returns-in_default-5 : goal.returns-in_default-5
returns-in_default-5 c =
    let d = view c.args.value.now in
    sym (intent_by d (Some c.in-Some.folders.items) (Some c.in-Some-2.saves.items) (Some c.in-Some-3.sets.items) (Some c.in-Some-4.manifest) None (list_at place_of (codes "folders_off") d) (phase_at d)
    (items_some c.in_ok-folders.field-0 c.in-Some.folders (list_at place_of (codes "folders") d) c.in_ok-folders.ensures c.in-Some.is)
    (items_some c.in_ok-saves.field-0 c.in-Some-2.saves (list_at pair_of (codes "saves") d) c.in_ok-saves.ensures c.in-Some-2.is)
    (items_some c.in_ok-sets.field-0 c.in-Some-3.sets (list_at set_of (codes "sets") d) c.in_ok-sets.ensures c.in-Some-3.is)
    (ap (option_and_then manifest_from) (sym c.in-Some-get.ensures) ∙ sym c.in_ok-manifest.ensures ∙ c.in-Some-4.is)
    (items_none c.in_ok-clears.field-0 (list_at place_of (codes "clears") d) c.in_ok-clears.ensures c.in_default-5.is) refl refl)

pub returns-in_default-6 : goal.returns-in_default-6
returns-in_default-6 c =
    let d = view c.args.value.now in
    sym (intent_by d (Some c.in-Some.folders.items) (Some c.in-Some-2.saves.items) (Some c.in-Some-3.sets.items) (Some c.in-Some-4.manifest) (Some c.in-Some-5.clears.items) None (phase_at d)
    (items_some c.in_ok-folders.field-0 c.in-Some.folders (list_at place_of (codes "folders") d) c.in_ok-folders.ensures c.in-Some.is)
    (items_some c.in_ok-saves.field-0 c.in-Some-2.saves (list_at pair_of (codes "saves") d) c.in_ok-saves.ensures c.in-Some-2.is)
    (items_some c.in_ok-sets.field-0 c.in-Some-3.sets (list_at set_of (codes "sets") d) c.in_ok-sets.ensures c.in-Some-3.is)
    (ap (option_and_then manifest_from) (sym c.in-Some-get.ensures) ∙ sym c.in_ok-manifest.ensures ∙ c.in-Some-4.is)
    (items_some c.in_ok-clears.field-0 c.in-Some-5.clears (list_at place_of (codes "clears") d) c.in_ok-clears.ensures c.in-Some-5.is)
    (items_none c.in_ok-folders_off.field-0 (list_at place_of (codes "folders_off") d) c.in_ok-folders_off.ensures c.in_default-6.is) refl)

pub returns-in_default-phase_at : goal.returns-in_default-phase_at
returns-in_default-phase_at c =
    let d = view c.args.value.now in
    sym (intent_by d (Some c.in-Some.folders.items) (Some c.in-Some-2.saves.items) (Some c.in-Some-3.sets.items) (Some c.in-Some-4.manifest) (Some c.in-Some-5.clears.items) (Some c.in-Some-6.folders_off.items) None
    (items_some c.in_ok-folders.field-0 c.in-Some.folders (list_at place_of (codes "folders") d) c.in_ok-folders.ensures c.in-Some.is)
    (items_some c.in_ok-saves.field-0 c.in-Some-2.saves (list_at pair_of (codes "saves") d) c.in_ok-saves.ensures c.in-Some-2.is)
    (items_some c.in_ok-sets.field-0 c.in-Some-3.sets (list_at set_of (codes "sets") d) c.in_ok-sets.ensures c.in-Some-3.is)
    (ap (option_and_then manifest_from) (sym c.in-Some-get.ensures) ∙ sym c.in_ok-manifest.ensures ∙ c.in-Some-4.is)
    (items_some c.in_ok-clears.field-0 c.in-Some-5.clears (list_at place_of (codes "clears") d) c.in_ok-clears.ensures c.in-Some-5.is)
    (items_some c.in_ok-folders_off.field-0 c.in-Some-6.folders_off (list_at place_of (codes "folders_off") d) c.in_ok-folders_off.ensures c.in-Some-6.is)
    (sym c.in_default-phase_at.ensures))

pub returns : goal.returns
returns c =
    let d = view c.args.value.now in
    let phase = c.in-Some-phase_at.phase in
    let manifest = c.in-Some-4.manifest in
    (λ i. Some (record {
      phase = phase;
      plan = record {
        folders = c.new.ensures i;
        saves = c.new-2.ensures i;
        sets = c.new-3.ensures i;
        manifest = manifest;
        clears = c.new-4.ensures i;
        folders_off = c.new-5.ensures i;
      };
    }))
    ∙ sym (intent_by d (Some c.in-Some.folders.items) (Some c.in-Some-2.saves.items) (Some c.in-Some-3.sets.items) (Some c.in-Some-4.manifest) (Some c.in-Some-5.clears.items) (Some c.in-Some-6.folders_off.items) (Some c.in-Some-phase_at.phase)
    (items_some c.in_ok-folders.field-0 c.in-Some.folders (list_at place_of (codes "folders") d) c.in_ok-folders.ensures c.in-Some.is)
    (items_some c.in_ok-saves.field-0 c.in-Some-2.saves (list_at pair_of (codes "saves") d) c.in_ok-saves.ensures c.in-Some-2.is)
    (items_some c.in_ok-sets.field-0 c.in-Some-3.sets (list_at set_of (codes "sets") d) c.in_ok-sets.ensures c.in-Some-3.is)
    (ap (option_and_then manifest_from) (sym c.in-Some-get.ensures) ∙ sym c.in_ok-manifest.ensures ∙ c.in-Some-4.is)
    (items_some c.in_ok-clears.field-0 c.in-Some-5.clears (list_at place_of (codes "clears") d) c.in_ok-clears.ensures c.in-Some-5.is)
    (items_some c.in_ok-folders_off.field-0 c.in-Some-6.folders_off (list_at place_of (codes "folders_off") d) c.in_ok-folders_off.ensures c.in-Some-6.is)
    (sym c.in-Some-phase_at.ensures))
