-- From one entry of the stack to the next.
use Rattle.std.proofs.Common.{◌≡◌, ◌≢◌, ◌⊎◌, ℕ, ◌+◌, List, [], ◌∷◌, ◌++◌, map, reverse, refl, sym, ap, ◌∙◌, inr, subst, append-nil}
use Rattle.std.specs.List.{AllByRecursion, Contains, IsDistinct}
use Rattle.std.specs.List.Sorted.{IsStrictlySortedBy}
use Rattle.std.specs.declared.option.Option.TheVariants.{None, Some}
use Rattle.std.proofs.lemmas.List.{map-append}
use Rattle.std.proofs.lemmas.Simd.{map-map}
use Rattle.rel_paths.specs.Names.{names_of}
use Rattle.tree_fs.specs.declared.name.Kind.TheVariants as kind
use Rattle.tree_fs.specs.declared.name.Entry.{Entry}
use Rattle.tree_fs.specs.Spot.{names_below}
use Rattle.tree_fs.specs.Disk.{Disk, IsValid}
use Rattle.tree_fs.specs.Listing.{IsListing, IsEntry}
use Rattle.list_laws.proofs.Alls.{all_append, all_left, all_map, all_weaken, all_every}
use Rattle.list_laws.proofs.Containing.{contains_none}
use Rattle.std.specs.declared.option.Option.{Option}
use Rattle.stage_scan.specs.declared.pending.Pending.{Pending}
use Rattle.stage_scan.specs.Walks.{inside, kind_inside, IsInside, IsEarlier, IsSound, IsSoundInside}
use Rattle.stage_scan.specs.Stack.{names_at, entry_below, Entered, IsUnderSome, IsPending, IsWalkedTo, IsWalkAt, HasUserFolder}
use Rattle.stage_scan.proofs.Stacks.{content}
use Rattle.list_laws.proofs.Alls.{all_last, all_reverse}
use Rattle.stage_scan.proofs.Contents.{IsContent, no_content, folder_content}
use Rattle.stage_scan.proofs.Steps.{no_file, one_file, one_step}

abbrev pub stack_names : List Pending → List (List (List ℕ))
stack_names = map names_at

-- the names of a folder's entries
put_names : (above : Option (List ℕ)) (es : List Entry) → stack_names (map (entry_below above) (reverse es)) ≡ content (names_below above) es
put_names above es = map-map names_at (entry_below above) (reverse es)

put_kinds : (d : Disk) (id : List ℕ) (above : Option (List ℕ)) (es : List Entry) → IsListing d (inside id (names_below above)) es → AllByRecursion (IsPending d id) (map (entry_below above) (reverse es))
put_kinds d id above es listing = all_map (IsPending d id) (entry_below above) (reverse es)
    (all_reverse (λ e. IsPending d id (entry_below above e)) es (all_weaken (IsEntry d (inside id (names_below above))) (λ e. IsPending d id (entry_below above e)) es (λ e is. is.1) listing.each))

-- the walk before its first entry
pub walk_start : (d : Disk) (id : List ℕ) (es : List Entry) → IsValid d → IsListing d (inside id []) es → IsWalkAt d id (map (entry_below None) (reverse es)) 0 []
unfolding IsStrictlySortedBy
walk_start d id es valid listing = record {
  kinds = put_kinds d id None es listing;
  walked = subst (λ ns. IsWalkedTo d id ns 0 []) (sym (put_names None es)) (record {
    seen = [];
    counts = refl;
    order = tt;
    each = tt;
    sound = tt;
    stacked = inner.stacked;
    ahead = all_every (λ p. AllByRecursion (λ s. IsEarlier s p) []) (content [] es) (λ p. tt);
    inside_all = inner.there;
    cover = covers;
    found = tt;
    all_found = λ path is. absurd (contains_none (names_of path) is.is_seen);
  });
}
  where
    inner : IsContent d id [] (content [] es)
    inner = folder_content d id [] es valid listing

    covers : (names : List (List ℕ)) → IsInside d id names → Contains [] names ⊎ IsUnderSome (content [] es) names
    covers [] is = absurd (is.some refl)
    covers (n ∷ rest) is = inr (inner.cover n rest is)

module _ (d : Disk) (id : List ℕ) (old : List Pending) (next : Pending) (k : ℕ) (fs : List (List ℕ)) (valid : IsValid d) (w : IsWalkAt d id (old ++ next ∷ []) k fs) where
  pub at_last : IsWalkedTo d id (stack_names old ++ names_at next ∷ []) k fs
  at_last = subst (λ ns. IsWalkedTo d id ns k fs) (map-append names_at old (next ∷ [])) w.walked

  pub next_kind : next.entry.kind ≡ kind_inside d id (names_at next)
  next_kind = all_last (IsPending d id) old next w.kinds

  old_kinds : AllByRecursion (IsPending d id) old
  old_kinds = all_left (IsPending d id) old (next ∷ []) w.kinds

  here : IsSound next.entry.kind (names_at next) → IsSoundInside d id (names_at next)
  here sound = subst (λ kd. IsSound kd (names_at next)) next_kind sound

  without : {gs : List (List ℕ)} → IsWalkedTo d id (stack_names old ++ []) (k + 1) gs → IsWalkAt d id old (k + 1) gs
  without {gs} is = record { kinds = old_kinds; walked = subst (λ ns. IsWalkedTo d id ns (k + 1) gs) (append-nil (stack_names old)) is }

  pub visit_other : IsSound next.entry.kind (names_at next) → next.entry.kind ≢ kind.Folder → next.entry.kind ≢ kind.File → IsWalkAt d id old (k + 1) fs
  visit_other sound no_folder ne = without (one_step d id (stack_names old) (names_at next) k fs at_last [] fs (here sound)
      (no_content d id (names_at next) valid (λ e. no_folder (next_kind ∙ e)))
      (no_file d id (stack_names old) (names_at next) k fs at_last (λ e. ne (next_kind ∙ e))))

  pub visit_file : (path : List ℕ) → IsSound next.entry.kind (names_at next) → names_of path ≡ names_at next → next.entry.kind ≡ kind.File → IsWalkAt d id old (k + 1) (fs ++ path ∷ [])
  visit_file path sound is file = without (one_step d id (stack_names old) (names_at next) k fs at_last [] (fs ++ path ∷ []) (here sound)
      (no_content d id (names_at next) valid (λ e. let h : kind.File ≡ kind.Folder = sym file ∙ next_kind ∙ e in cc))
      (one_file d id (stack_names old) (names_at next) k fs at_last path is (sym next_kind ∙ file)))

  pub visit_folder : (path : List ℕ) (new : List Pending) → IsSound next.entry.kind (names_at next) → names_of path ≡ names_at next → next.entry.kind ≡ kind.Folder
      → Entered (Some path) old new (λ es. IsListing d (inside id (names_of path)) es) → IsWalkAt d id new (k + 1) fs
  visit_folder path new sound is folder entered = subst (λ s. IsWalkAt d id s (k + 1) fs) (sym entered.put) (record {
    kinds = all_append (IsPending d id) old (map (entry_below (Some path)) (reverse es)) old_kinds (put_kinds d id (Some path) es entered.told);
    walked = subst (λ ns. IsWalkedTo d id ns (k + 1) fs)
        (ap (λ l. stack_names old ++ l) (sym (put_names (Some path) es)) ∙ sym (map-append names_at old (map (entry_below (Some path)) (reverse es))))
        (one_step d id (stack_names old) (names_at next) k fs at_last (content (names_of path) es) fs (here sound)
        (subst (λ x. IsContent d id x (content (names_of path) es)) is (folder_content d id (names_of path) es valid entered.told))
        (no_file d id (stack_names old) (names_at next) k fs at_last (λ e. let h : kind.Folder ≡ kind.File = sym folder ∙ next_kind ∙ e in cc)));
  })
    where
      es : List Entry
      es = entered.entries

-- the entries of a folder with a user path have one
pub users_put : {P : List Entry → Type 0} (above : Option (List ℕ)) (old new : List Pending) → ((e : Entry) → HasUserFolder (entry_below above e)) → AllByRecursion HasUserFolder old → Entered above old new P → AllByRecursion HasUserFolder new
users_put above old new user users entered = subst (AllByRecursion HasUserFolder) (sym entered.put)
    (all_append HasUserFolder old (map (entry_below above) (reverse entered.entries)) users
    (all_map HasUserFolder (entry_below above) (reverse entered.entries) (all_every (λ e. HasUserFolder (entry_below above e)) (reverse entered.entries) user)))
