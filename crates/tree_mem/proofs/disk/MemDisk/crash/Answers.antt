use Rattle.std.proofs.Common.{◌≡◌, ℕ, suc, List, false, length, slice_get, refl, sym, ap, subst, ◌∙◌, arith, Bor}
use Rattle.std.specs.declared.option.Option.{Option}
use Rattle.std.specs.declared.option.Option.TheVariants.{None, Some}
use Rattle.std.specs.Option.{option_copied}
use Rattle.std.specs.Slice.{IsItemAt}
use Rattle.std.proofs.lemmas.Option.{slice_get_past, slice_get_read}
use Rattle.std.specs.List.{AllByRecursion}
use Rattle.tree_fs.specs.Spot.{spot_of}
use Rattle.tree_fs.proofs.Functions.{same_function}
use Rattle.tree_mem.specs.Crash.{picked}
use Rattle.tree_mem.specs.Disks.{item_of, is_folder, ItemSet}
use Rattle.tree_mem.specs.Groups.{number_in, item_with}
use Rattle.tree_mem.proofs.Crashes.{plain_groups, is_crash}
use Rattle.tree_mem.proofs.Played.{Group, given, played, played_one, folders_stay}
use Rattle.tree_mem.proofs.disk.MemDisk.crash.Goals as goal

copied_item : (xs : List ℕ) (i : ℕ) (r : Option (Bor ℕ)) → IsItemAt xs i r → option_copied r ≡ slice_get xs i
copied_item xs i None h = sym (slice_get_past xs i h.3)
copied_item xs i (Some x) h = sym (slice_get_read xs (length xs) i x.now refl h.3.0 h.1)

pub loop-number-init : goal.loop-number-init
loop-number-init c =
    let d = c.args.self.now in
    let m = c.in_ok-groups.groups in
    record {
      items = ap (played d c.args.choices.now 0 c.iter-at-items.result) (same_function (item_of c.in_ok-left.left) (item_of d) c.in_ok-left.ensures.items);
      plain = subst (AllByRecursion (λ (e : Group). is_folder (item_of d (spot_of e.0)) ≡ false)) (sym c.iter-at-items.ensures.rest) (plain_groups d m c.in_ok-groups.ensures c.iter-at-items.ensures.ordered);
      count = rw c.iter-at-items.ensures.rest (omega (arith, c.iter-at-items.ensures.fits));
      folders = λ q. ap is_folder (c.in_ok-left.ensures.items q);
      files = c.in_ok-left.ensures.files;
      pending = c.in_ok-left.ensures.pending;
    }

pub set_file-requires : goal.set_file-requires
set_file-requires c =
    c.loop-number.invariant.folders (spot_of c.in-Some.at.now) ∙ (subst (AllByRecursion (λ (e : Group). is_folder (item_of c.args.self.now (spot_of e.0)) ≡ false)) c.in-Some.ensures.steps c.loop-number.invariant.plain).0

pub overflow_step-number : goal.overflow_step-number
overflow_step-number c = omega (arith, c.loop-number.invariant.count)

pub loop-number-preserved : goal.loop-number-preserved
loop-number-preserved c =
    let d = c.args.self.now in
    let choices = c.args.choices.now in
    let n = c.loop-number.number in
    let e : Group = (c.in-Some.at.now, c.in-Some.before.now) in
    let old = c.loop-number.left in
    let new = c.set_file.new.self in
    let plain = subst (AllByRecursion (λ (x : Group). is_folder (item_of d (spot_of x.0)) ≡ false)) c.in-Some.ensures.steps c.loop-number.invariant.plain in
    let choice : c.copied-choice.result ≡ slice_get choices n = c.copied-choice.ensures ∙ copied_item choices n c.get.result c.get.ensures.lookup in
    let now : c.number_in.result ≡ number_in (item_of d (spot_of e.0)) = c.number_in.ensures ∙ ap number_in c.item.ensures in
    let file : item_with c.picked-file.result ≡ given d choices n e = ap item_with (c.picked-file.ensures ∙ (λ i. picked (choice i) (c.deref.ensures.value i) (now i))) in
    let left : length c.loop-number.at-iterator ≡ suc (length c.next.new.self) = ap length c.in-Some.ensures.steps in
    record {
      items =
          played_one d old new choices n e c.next.new.self (subst (ItemSet old new (spot_of e.0)) file c.in_ok-set_file.ensures.ok) ∙ ap (λ (l : _). played d choices n l (item_of old)) (sym c.in-Some.ensures.steps)
          ∙ c.loop-number.invariant.items;
      plain = plain.1;
      count = omega (arith, c.loop-number.invariant.count, left);
      folders = folders_stay d old new (spot_of e.0) c.picked-file.result c.in_ok-set_file.ensures.ok plain.0 c.loop-number.invariant.folders;
      files = c.in_ok-set_file.ensures.ok.files ∙ c.loop-number.invariant.files;
      pending = c.in_ok-set_file.ensures.ok.pending ∙ c.loop-number.invariant.pending;
    }

pub returns : goal.returns
returns c =
    let d = c.args.self.now in
    let left = c.loop-number.left in
    let choices = c.args.choices.now in
    is_crash d c.in_ok-groups.groups c.in_ok-groups.ensures c.iter-at-items.ensures.ordered left choices
    (ap (λ l. played d choices c.loop-number.number l (item_of left)) (sym c.in-None.ensures.steps.0) ∙ c.loop-number.invariant.items ∙ ap (λ l. played d choices 0 l (item_of d)) c.iter-at-items.ensures.rest)
    c.loop-number.invariant.folders c.loop-number.invariant.files c.loop-number.invariant.pending
