-- What the story of a tree in memory is after a step.
use Rattle.std.proofs.Common.{◌≡◌, ℕ, true, inr, append-nil, List, [], ◌∷◌, ◌++◌, refl, sym, ap, ◌∙◌, IsSome}
use Rattle.std.specs.declared.option.Option.{Option}
use Rattle.std.specs.declared.option.Option.TheVariants.{None, Some}
use Rattle.std.specs.declared.result.Result.{Result}
use Rattle.std.specs.declared.result.Result.TheVariants.{Ok, Err}
use Rattle.tree_fs.specs.declared.op.Op.{Op}
use Rattle.tree_fs.specs.declared.op.Op.TheVariants.{Create, Fill}
use Rattle.tree_fs.specs.declared.place.Place.{Place}
use Rattle.tree_fs.specs.declared.tree.TreeError.{TreeError}
use Rattle.tree_fs.specs.Calls.{AddsNew}
use Rattle.tree_fs.specs.Disk.{after, after_all}
use Rattle.tree_fs.specs.Story.{Story, with_ops}
use Rattle.tree_fs.proofs.Stories.{after_all-append}
use Rattle.tree_mem.specs.declared.disk.MemDisk.{MemDisk}
use Rattle.tree_mem.specs.Disks.{disk_in}
use Rattle.tree_mem.specs.Starts.{start_in}

same_start : (start : Option MemDisk) (d e : MemDisk) → IsSome start → start_in start d ≡ start_in start e
same_start None d e h = let none : ⊥ = cc in absurd none
same_start (Some s) d e h = refl

-- a step that was done is told
pub step_told : (start : Option MemDisk) (d e : MemDisk) (ops more : List Op) (op : Op) → IsSome start → disk_in d ≡ after_all (start_in start d) ops → more ≡ ops ++ op ∷ [] → disk_in e ≡ after (disk_in d) op
    → disk_in e ≡ after_all (start_in start e) more
step_told start d e ops more op some tells is step = step ∙ ap (λ x. after x op) tells ∙ sym (after_all-append (start_in start d) ops (op ∷ [])) ∙ (λ i. after_all (same_start start d e some i) (sym is i))

pub story_more : (start : Option MemDisk) (d e : MemDisk) (ops more : List Op) (op : Op) (old : Story) → IsSome start → record { start = start_in start d; ops = ops } ≡ old → more ≡ ops ++ op ∷ []
    → record { start = start_in start e; ops = more } ≡ with_ops old (op ∷ [])
story_more start d e ops more op old some same is = (λ i. record { start = sym (same_start start d e some) i; ops = is i }) ∙ ap (λ s. with_ops s (op ∷ [])) same

-- a file that was made with all its bytes, whatever the call then answers
pub file_told : {T : Type 0} (at : Place) (bytes : List ℕ) (old new : Story) (r : Result T TreeError) → new ≡ with_ops old (Create at true ∷ Fill at bytes true ∷ []) → AddsNew at bytes old new r
file_told at bytes old new (Ok a) told = record { ok = told; err = tt }
file_told at bytes old new (Err e) told = record { ok = tt; err = inr (record { front = bytes; rest = []; parts = sym (append-nil bytes); done = true; adds = told }) }
