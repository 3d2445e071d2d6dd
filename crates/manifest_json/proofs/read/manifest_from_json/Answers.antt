use Rattle.std.proofs.Common.{[], Ok, map, sym, ap, ◌∙◌}
use Rattle.serde_json.specs.View.{view, items_view}
use Rattle.manifest_json.specs.Rows.{rows_from}
use Rattle.manifest_json.specs.Folders.{folders_from}
use Rattle.manifest_json.proofs.Steps.{Reads-err}
use Rattle.manifest_json.proofs.Values.{list_of-view, no_object, bad_version, no_files, no_folders, bad_rows, bad_folders, good_parts}
use Rattle.manifest_json.proofs.read.manifest_from_json.Goals as goal

pub returns-then-not-is_object : goal.returns-then-not-is_object
returns-then-not-is_object c = λ n. no_object (view c.args.value.now) (sym c.is_object.ensures ∙ c.if-not-is_object.true)

pub returns-in_default : goal.returns-in_default
returns-in_default c = λ n. bad_version (view c.args.value.now) (sym c.is_object.ensures ∙ c.if-not-is_object.false) (sym c.in_default.ensures)

pub returns-in_default-array_at : goal.returns-in_default-array_at
returns-in_default-array_at c = λ n. no_files (view c.args.value.now) (sym c.is_object.ensures ∙ c.if-not-is_object.false) c.in-Some.version (sym c.in-Some.ensures) (sym c.in_default-array_at.ensures)

pub returns-in_default-array_at-2 : goal.returns-in_default-array_at-2
returns-in_default-array_at-2 c =
    λ n. no_folders (view c.args.value.now) (sym c.is_object.ensures ∙ c.if-not-is_object.false) c.in-Some.version (sym c.in-Some.ensures) (items_view c.in-Some-array_at.files.now.items) (sym c.in-Some-array_at.ensures) (sym c.in_default-array_at-2.ensures)

pub returns-in_err-rows : goal.returns-in_err-rows
returns-in_err-rows c =
    let files = c.in-Some-array_at.files.now.items in
    let same = list_of-view files ∙ ap (map view) (sym c.deref.ensures.value) in
    Reads-err _ _ c.from_residual.result c.in_err-rows.field-0.0 c.from_residual.ensures.1
    (λ n. bad_rows (view c.args.value.now) (sym c.is_object.ensures ∙ c.if-not-is_object.false) c.in-Some.version (sym c.in-Some.ensures) (items_view files) (sym c.in-Some-array_at.ensures) (items_view c.in-Some-array_at-2.folders.now.items) (sym c.in-Some-array_at-2.ensures)
    c.in_err-rows.field-0.0 (ap (rows_from c.in-Some.version [] 0) same ∙ c.in_err-rows.ensures.reads n))

pub returns-in_err-folders : goal.returns-in_err-folders
returns-in_err-folders c =
    let files = c.in-Some-array_at.files.now.items in
    let folders = c.in-Some-array_at-2.folders.now.items in
    let same = list_of-view files ∙ ap (map view) (sym c.deref.ensures.value) in
    let same_folders = list_of-view folders ∙ ap (map view) (sym c.deref-2.ensures.value) in
    Reads-err _ _ c.from_residual-in_err-folders.result c.in_err-folders.field-0.0 c.from_residual-in_err-folders.ensures.1
    (λ n. bad_folders (view c.args.value.now) (sym c.is_object.ensures ∙ c.if-not-is_object.false) c.in-Some.version (sym c.in-Some.ensures) (items_view files) (sym c.in-Some-array_at.ensures) (items_view folders) (sym c.in-Some-array_at-2.ensures)
    c.in_ok-rows.rows.items (ap (rows_from c.in-Some.version [] 0) same ∙ c.in_ok-rows.ensures.reads) c.in_err-folders.field-0.0 (ap (folders_from [] 0) same_folders ∙ c.in_err-folders.ensures.reads n))

pub returns : goal.returns
returns c =
    let files = c.in-Some-array_at.files.now.items in
    let folders = c.in-Some-array_at-2.folders.now.items in
    let same = list_of-view files ∙ ap (map view) (sym c.deref.ensures.value) in
    let same_folders = list_of-view folders ∙ ap (map view) (sym c.deref-2.ensures.value) in
    good_parts (view c.args.value.now) (sym c.is_object.ensures ∙ c.if-not-is_object.false) c.in-Some.version (sym c.in-Some.ensures) (items_view files) (sym c.in-Some-array_at.ensures) (items_view folders) (sym c.in-Some-array_at-2.ensures)
    c.in_ok-rows.rows.items (ap (rows_from c.in-Some.version [] 0) same ∙ c.in_ok-rows.ensures.reads) c.in_ok-folders.folders.items (ap (folders_from [] 0) same_folders ∙ c.in_ok-folders.ensures.reads)
    ∙ (λ i. Ok (record { rows = sym c.new.ensures i; folders = sym c.new-2.ensures i }))
