-- What a walk comes to.
use Rattle.std.proofs.Common.{◌≡◌, ◌⊎◌, ℕ, ◌<◌, ◌≤◌, ◌==◌, Bool, true, false, cond, nat_eq, List, [], ◌∷◌, ◌++◌, map, length, refl, sym, ap, ◌∙◌, inl, inr, subst, arith}
use Rattle.std.specs.List.{AllByRecursion, Contains}
use Rattle.std.specs.Result.{IsErrAnd, IfErr}
use Rattle.std.specs.declared.result.Result.{Result}
use Rattle.std.specs.declared.result.Result.TheVariants.{Ok, Err}
use Rattle.rel_paths.specs.Names.{names_of}
use Rattle.tree_fs.specs.declared.name.Kind.TheVariants as kind
use Rattle.tree_fs.specs.Places.{mod_spot, staged_spot}
use Rattle.tree_fs.specs.Disk.{Disk, IsValid, kind_of}
use Rattle.tree_fs.proofs.Spots.{not_nameless}
use Rattle.list_laws.proofs.Alls.{all_item}
use Rattle.list_laws.proofs.Containing.{contains_none}
use Rattle.list_laws.proofs.Lists.{last_of}
use Rattle.stage_scan.specs.declared.error.ScanError.{ScanError}
use Rattle.stage_scan.specs.declared.error.ScanError.TheVariants as error
use Rattle.stage_scan.specs.Files.{AreInPathOrder, HasSamePaths}
use Rattle.stage_scan.specs.Walks.{kind_inside, IsInside, IsEntryFault, IsFaultAfter, IsFirstFault, IsRefused, AreFiles, CountsInside}
use Rattle.stage_scan.specs.declared.pending.Pending.{Pending}
use Rattle.stage_scan.specs.Stack.{names_at, IsFound, IsWalkedTo, IsWalkAt}
use Rattle.stage_scan.proofs.Visits.{at_last, next_kind}
use Rattle.list_laws.proofs.Alls.{all_from_contains}
use Rattle.stage_scan.proofs.Steps.{x_there, walk_before}

-- Files in path order

module _ (d : Disk) (id : List ℕ) (count : ℕ) (files : List (List ℕ)) (w : IsWalkedTo d id [] count files) where
  all_seen : (names : List (List ℕ)) → IsInside d id names → Contains w.seen names
  all_seen names is = elim (w.cover names is) [ inl c ↦ c | inr u ↦ absurd (contains_none u.over u.is_one) ]

  pub are_files : (sorted : List (List ℕ)) → AreInPathOrder sorted → HasSamePaths files sorted → AreFiles d id sorted
  are_files sorted in_order same = record {
    order = in_order;
    each = all_from_contains (λ path. kind_of d (staged_spot id path) ≡ kind.File) sorted
        (λ path c. (all_item (IsFound d id w.seen) files path w.found ((same path).0 c)).file);
    whole = λ path is. (same path).1 (w.all_found path (record {
      is_seen = all_seen (names_of path) (record { some = not_nameless path; there = λ gone. let h : kind.File ≡ kind.Absent = sym is ∙ gone in cc });
      file = is;
    }));
  }

  pub counts_inside : CountsInside d id count
  counts_inside = record {
    walk = w.seen;
    lists = record { order = w.order; each = w.each; whole = all_seen };
    sound = w.sound;
    counts = w.counts;
  }

-- Faults

module _ (d : Disk) (id : List ℕ) (ns : List (List (List ℕ))) (x : List (List ℕ)) (count most : ℕ) (fs : List (List ℕ)) (folder : kind_of d (mod_spot id) ≡ kind.Folder) (w : IsWalkedTo d id (ns ++ x ∷ []) count fs) where
  first_fault : (e : ScanError) → IsFaultAfter most count id (kind_inside d id x) x e → IsFirstFault d id most e
  first_fault e fault = record {
    folder = folder;
    at = x;
    there = x_there d id ns x count fs w;
    earlier = w.seen;
    walk = walk_before d id ns x count fs w;
    sound = w.sound;
    fault = subst (λ n. IsFaultAfter most n id (kind_inside d id x) x e) w.counts fault;
  }

  pub refused_entry : (e : ScanError) → count < most → (e ≡ error.Failed) ⊎ IsEntryFault id (kind_inside d id x) x e → IsRefused d id most e
  refused_entry error.NoFolder lt (inl h) = absurd (cc)
  refused_entry error.NoFolder lt (inr h) = absurd h
  refused_entry error.TooMany lt (inl h) = absurd (cc)
  refused_entry error.TooMany lt (inr h) = absurd h
  refused_entry error.Failed lt h = tt
  refused_entry error.Memory lt h = tt
  refused_entry (error.BadEntry folder name) lt (inl h) = absurd (cc)
  refused_entry (error.BadEntry folder name) lt (inr h) = first_fault (error.BadEntry folder name) (lt, h)
  refused_entry (error.OddEntry folder name) lt (inl h) = absurd (cc)
  refused_entry (error.OddEntry folder name) lt (inr h) = first_fault (error.OddEntry folder name) (lt, h)
  refused_entry (error.Reserved place) lt (inl h) = absurd (cc)
  refused_entry (error.Reserved place) lt (inr h) = first_fault (error.Reserved place) (lt, h)

  pub refused_many : count ≡ most → IsRefused d id most error.TooMany
  refused_many e = first_fault error.TooMany e

-- On the stack

module _ (d : Disk) (id : List ℕ) (count most : ℕ) (fs : List (List ℕ)) (valid : IsValid d) (folder : kind_of d (mod_spot id) ≡ kind.Folder) where
  pub too_many : (stack : List Pending) → IsWalkAt d id stack count fs → (length stack ≡ 0 → ⊥) → count ≡ most → IsFirstFault d id most error.TooMany
  too_many stack w some e =
      let last = last_of stack some in
      refused_many d id (map names_at last.0) (names_at last.1) count most fs folder (at_last d id last.0 last.1 count fs valid (subst (λ s. IsWalkAt d id s count fs) last.2 w)) e

  pub entry_refused : (old : List Pending) (next : Pending) (e : ScanError) → IsWalkAt d id (old ++ next ∷ []) count fs → count < most → (e ≡ error.Failed) ⊎ IsEntryFault id next.entry.kind (names_at next) e → IsRefused d id most e
  entry_refused old next e w lt fault =
      refused_entry d id (map names_at old) (names_at next) count most fs folder (at_last d id old next count fs valid w) e lt
      (subst (λ k. (e ≡ error.Failed) ⊎ IsEntryFault id k (names_at next) e) (next_kind d id old next count fs valid w) fault)

-- Answers of calls

pub is_zero : (b : Bool) (n : ℕ) → b ≡ (n == 0) → b ≡ true → n ≡ 0
is_zero b n is t = let e : (n == 0) ≡ true = sym is ∙ t in grind arith

pub not_zero : (b : Bool) (n : ℕ) → b ≡ (n == 0) → b ≡ false → n ≡ 0 → ⊥
not_zero b n is f z = let e : (n == 0) ≡ false = sym is ∙ f in grind arith

pub same_count : (m n : ℕ) → m ≤ n → n ≤ m → m ≡ n
same_count m n a b = omega arith
