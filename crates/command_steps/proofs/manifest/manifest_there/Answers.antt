use Rattle.std.proofs.Common.{◌≡◌, ◌≤◌, ◌∙◌, Some, length, ap, subst, sym, rules}
use Rattle.tree_fs.specs.Disk.{IsFile}
use Rattle.tree_fs.specs.Parts.{bytes_at}
use Rattle.tree_fs.specs.Story.{disk_of}
use Rattle.tree_fs.proofs.KindOf.{kind-file}
use Rattle.desk_model.specs.Places.{manifest_spot}
use Rattle.command_steps.specs.Manifests.{manifest_size}
use Rattle.command_steps.proofs.Orders.{takes_err}
use Rattle.command_steps.proofs.Stopping.{manifest_there, manifest_why}
use Rattle.command_steps.proofs.manifest.manifest_there.Goals as goal

pub size-requires : goal.size-requires
size-requires g c = λ told.
    let d = disk_of (g.T.Tree.story c.args.tree.now) in
    subst (λ q. IsFile d q) (sym c.requires.place) (kind-file d manifest_spot (c.requires.file told)).1

pub control_bytes-requires : goal.control_bytes-requires
control_bytes-requires g c = λ told.
    let d = disk_of (g.T.Tree.story c.args.tree.now) in
    subst (λ s. IsFile (disk_of s) manifest_spot) (sym (c.in_ok-size.ensures.same told)) (kind-file d manifest_spot (c.requires.file told)).1

pub returns-in_err-read_manifest-clause-takes : goal.returns-in_err-read_manifest-clause-takes
returns-in_err-read_manifest-clause-takes g c = λ told.
    let d = disk_of (g.T.Tree.story c.args.tree.now) in
    let stays = c.in_ok-bytes.ensures.same told ∙ c.in_ok-size.ensures.same told in
    let bytes = c.deref.ensures.value ∙ c.in_ok-bytes.ensures.answer told ∙ ap (λ s. bytes_at (disk_of s) manifest_spot) (c.in_ok-size.ensures.same told) in
    let size : c.in_ok-size.field-0 ≡ manifest_size d = c.in_ok-size.ensures.answer told ∙ ap (λ q. length (bytes_at d q)) c.requires.place in
    let test : c.in_ok-size.field-0 ≤ c.args.limits.now.text = search rules in
    takes_err _ _ c.from_residual-in_err-read_manifest.ensures
    (manifest_why c.args.limits.now _ _ c.deref.result.now c.in_err-read_manifest.field-0.0 stays (c.requires.file told) bytes (subst (λ n. n ≤ c.args.limits.now.text) size test) c.in_err-read_manifest.ensures.err)

pub returns-clause-takes : goal.returns-clause-takes
returns-clause-takes g c = λ told.
    let d = disk_of (g.T.Tree.story c.args.tree.now) in
    let stays = c.in_ok-bytes.ensures.same told ∙ c.in_ok-size.ensures.same told in
    let bytes = c.deref.ensures.value ∙ c.in_ok-bytes.ensures.answer told ∙ ap (λ s. bytes_at (disk_of s) manifest_spot) (c.in_ok-size.ensures.same told) in
    let size : c.in_ok-size.field-0 ≡ manifest_size d = c.in_ok-size.ensures.answer told ∙ ap (λ q. length (bytes_at d q)) c.requires.place in
    let test : c.in_ok-size.field-0 ≤ c.args.limits.now.text = search rules in
    let has = manifest_there d c.deref.result.now c.in_ok-read_manifest.field-0 (c.requires.file told) bytes c.in_ok-read_manifest.ensures.ok in
    record {
      passed = record { all = ((subst (λ n. n ≤ c.args.limits.now.text) size test, Some c.in_ok-read_manifest.field-0, has), tt); story = stays; gives = has };
      stopped = tt;
    }
