-- Whether nothing is left of the entries of an own folder.
use Rattle.std.proofs.Common.{◌≡◌, ◌≢◌, ℕ, ◌==◌, Bool, true, false, not, ◌&&◌, nat_eq, nat_le, length, List, [], ◌∷◌, map, refl, sym, ap, ◌∙◌, subst}
use Rattle.std.specs.List.{AllByRecursion, Contains, list_all}
use Rattle.std.specs.Str.{bytes_eq}
use Rattle.std.proofs.lemmas.List.Elements.{All-from_recursion}
use Rattle.list_laws.proofs.Alls.{all_weaken, all_item, all_from_contains, all-from_test}
use Rattle.list_laws.proofs.Containing.{contains_map, map_contains}
use Rattle.rel_paths.proofs.NamesOf.{HasNoSlash, names_of-last, same_text}
use Rattle.tree_fs.specs.declared.name.Kind.{Kind}
use Rattle.tree_fs.specs.declared.name.Kind.TheVariants.{Absent, File, Folder, Other}
use Rattle.tree_fs.specs.declared.name.Entry.{Entry}
use Rattle.tree_fs.specs.EntryName.{IsName}
use Rattle.tree_fs.specs.Spot.{Spot, below}
use Rattle.tree_fs.specs.Places.{game_spot}
use Rattle.tree_fs.specs.Disk.{Disk, none, file, IsFile, IsValid, kind_of}
use Rattle.tree_fs.specs.Calls.{IsFolder}
use Rattle.tree_fs.specs.Listing.{IsEntry, IsListing}
use Rattle.tree_fs.proofs.Spots.{same_spot}
use Rattle.tree_fs.proofs.Below.{below-entry, above_value}
use Rattle.move_plan.specs.declared.plan.Plan.{Plan}
use Rattle.plan_model.specs.Folders.{GoesOff}
use Rattle.winner_table.specs.Folders.{IsFolderOf}
use Rattle.plan_lists.specs.Off.{text_in, LeavesNothing, AllLeave, EntryGoes, absent, given_up, folder, GoesByOwn, AreOffBelow}
use Rattle.plan_lists.proofs.Lies.{extends-lies}

last_true : (a b c d e : Bool) → (a && b && c && d && e) ≡ true → e ≡ true
last_true true true true true e h = h
last_true true true true false e h = absurd (cc)
last_true true true false d e h = absurd (cc)
last_true true false c d e h = absurd (cc)
last_true false b c d e h = absurd (cc)

byte_no_slash : (x y : Bool) → (not x && not y) ≡ true → x ≡ false
byte_no_slash false y h = refl
byte_no_slash true y h = absurd (cc)

-- the name of an entry has no slash
pub no_slash : (name : List ℕ) → IsName name → HasNoSlash name
no_slash name h =
    All-from_recursion (λ b. nat_eq b 47 ≡ false) name
    (all_weaken (λ b. (not (b == 47) && not (b == 0)) ≡ true) (λ b. nat_eq b 47 ≡ false) name (λ b e. byte_no_slash (b == 47) (b == 0) e)
    (all-from_test (λ b. not (b == 47) && not (b == 0)) name (last_true (not (length name == 0)) (nat_le (length name) 255) (not (bytes_eq name (46 ∷ []))) (not (bytes_eq name (46 ∷ 46 ∷ []))) (list_all (λ b. not (b == 47) && not (b == 0)) name) h)))

-- a path among others, by its place
pub placed : (paths : List (List ℕ)) (path : List ℕ) → Contains (map game_spot paths) (game_spot path) → Contains paths path
placed paths path c =
    let m = contains_map game_spot paths (game_spot path) c in
    subst (Contains paths) (same_text m.0 path (ap (λ s. s.names) m.2)) m.1

module _ (a : Disk) (own files emptied off : List (List ℕ)) (plan : Plan) (path : List ℕ) (off_below : AreOffBelow a own off plan (game_spot path)) where
  abbrev at : List ℕ → Spot
  at name = below (game_spot path) name

  spot_in : (name : List ℕ) → IsName name → game_spot (text_in path name) ≡ at name
  spot_in name h = same_spot (game_spot (text_in path name)) (at name) refl (names_of-last path name (no_slash name h))

  there : (paths : List (List ℕ)) (name : List ℕ) → IsName name → Contains paths (text_in path name) → Contains (map game_spot paths) (at name)
  there paths name h c = subst (Contains (map game_spot paths)) (spot_in name h) (map_contains game_spot paths (text_in path name) c)

  back : (paths : List (List ℕ)) (name : List ℕ) → IsName name → Contains (map game_spot paths) (at name) → Contains paths (text_in path name)
  back paths name h c = placed paths (text_in path name) (subst (Contains (map game_spot paths)) (sym (spot_in name h)) c)

  entry_goes : (name : List ℕ) (k : Kind) → IsName name → k ≡ kind_of a (at name) → k ≢ Absent → LeavesNothing emptied off k (text_in path name) → EntryGoes a own emptied plan (at name)
  entry_goes name Folder named is some c = folder (sym is) ((off_below (at name) (below-entry (game_spot path) name)).0 (there off name named c))
  entry_goes name Absent named is some c = absurd (some refl)
  entry_goes name File named is some c = given_up (λ e. some (is ∙ e)) (λ e. let no : File ≡ Folder = is ∙ e in absurd (cc)) (there emptied name named c)
  entry_goes name Other named is some c = given_up (λ e. some (is ∙ e)) (λ e. let no : Other ≡ Folder = is ∙ e in absurd (cc)) (there emptied name named c)

  not_there : (name : List ℕ) (k : Kind) → k ≡ kind_of a (at name) → k ≢ Absent → kind_of a (at name) ≡ Absent → ⊥
  not_there name k is some e = some (is ∙ e)

  entry_leaves : (name : List ℕ) (k : Kind) → IsName name → k ≡ kind_of a (at name) → k ≢ Absent → EntryGoes a own emptied plan (at name) → LeavesNothing emptied off k (text_in path name)
  entry_leaves name k named is some (absent e) = absurd (not_there name k is some e)
  entry_leaves name Absent named is some (given_up e f c) = absurd (some refl)
  entry_leaves name File named is some (given_up e f c) = back emptied name named c
  entry_leaves name Folder named is some (given_up e f c) = absurd (f (sym is))
  entry_leaves name Other named is some (given_up e f c) = back emptied name named c
  entry_leaves name Folder named is some (folder e goes) = back off name named ((off_below (at name) (below-entry (game_spot path) name)).1 goes)
  entry_leaves name Absent named is some (folder e goes) = absurd (some refl)
  entry_leaves name File named is some (folder e goes) = let no : File ≡ Folder = is ∙ e in absurd (cc)
  entry_leaves name Other named is some (folder e goes) = let no : Other ≡ Folder = is ∙ e in absurd (cc)

  module _ (by : GoesByOwn a own files emptied plan) (among : Contains own path) (alone : ¬ IsFolderOf files path) (is_there : IsFolder a (game_spot path)) (entries : List Entry) (listing : IsListing a (game_spot path) entries) where
    pub all_leave-goes : AllLeave path emptied off entries → GoesOff a own plan (game_spot path)
    all_leave-goes h = (by.goes path among alone is_there).0 (λ name. by_kind name (kind_of a (at name)) refl)
      where
        by_entry : (name : List ℕ) → kind_of a (at name) ≢ Absent → EntryGoes a own emptied plan (at name)
        by_entry name some =
            let m = contains_map (λ (e : Entry). e.name) entries name (listing.whole name some) in
            let is = all_item (IsEntry a (game_spot path)) entries m.0 listing.each m.1 in
            subst (λ n. EntryGoes a own emptied plan (at n)) m.2
            (entry_goes m.0.name m.0.kind is.0 is.1 is.2 (all_item (λ (e : Entry). LeavesNothing emptied off e.kind (text_in path e.name)) entries m.0 h m.1))

        by_kind : (name : List ℕ) (k : Kind) → kind_of a (at name) ≡ k → EntryGoes a own emptied plan (at name)
        by_kind name Absent e = absent e
        by_kind name File e = by_entry name (λ f. let no : File ≡ Absent = sym e ∙ f in absurd (cc))
        by_kind name Folder e = by_entry name (λ f. let no : Folder ≡ Absent = sym e ∙ f in absurd (cc))
        by_kind name Other e = by_entry name (λ f. let no : Other ≡ Absent = sym e ∙ f in absurd (cc))

    pub goes-all_leave : GoesOff a own plan (game_spot path) → AllLeave path emptied off entries
    goes-all_leave goes =
        all_from_contains (λ (e : Entry). LeavesNothing emptied off e.kind (text_in path e.name)) entries
        (λ e c. let is = all_item (IsEntry a (game_spot path)) entries e listing.each c in
        entry_leaves e.name e.kind is.0 is.1 is.2 ((by.goes path among alone is_there).1 goes e.name))

-- a folder is there where one of these files lies below it
pub folder_above_file : (a : Disk) → IsValid a → (paths : List (List ℕ)) → AllByRecursion (λ p. IsFile a (game_spot p)) paths → (path : List ℕ) → IsFolderOf paths path → a.folders (game_spot path) ≡ true
folder_above_file a valid paths stood path h =
    let f = all_item (λ p. IsFile a (game_spot p)) paths h.below stood h.among in
    above_value a valid (game_spot path) (game_spot h.below) (extends-lies path h.below h.extending) (λ e. let no : file f.0 ≡ none = sym f.1 ∙ e in cc)
