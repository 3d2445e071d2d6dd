-- A worked case: no mod wins any more the one path that lay in a folder of its own. The folder goes, or
-- stays where others put a file there.
use Rattle.std.proofs.Common.{◌≡◌, ◌≢◌, ◌⊎◌, ℕ, Bool, true, false, ◌||◌, if◌then◌else◌, List, [], ◌∷◌, ◌++◌, codes, refl, sym, ap, ◌∙◌, inl, inr, subst}
use Rattle.std.specs.List.{Contains}
use Rattle.std.specs.List.Sorted.{IsStrictlySortedBy}
use Rattle.std.specs.Ordering.{nat_cmp}
use Rattle.std.specs.Cmp.Lexicographic.{slice_cmp}
use Rattle.std.specs.declared.option.Option.TheVariants.{None, Some}
use Rattle.sha2.specs.Sha256.{sha256}
use Rattle.rel_paths.specs.Names.{backup_names}
use Rattle.rel_paths.proofs.NamesOf.{same_text}
use Rattle.rel_paths.proofs.Truths.{either_second}
use Rattle.tree_fs.specs.declared.place.Root.{Root}
use Rattle.tree_fs.specs.declared.place.Root.TheVariants.{Stage, Game, Keep}
use Rattle.tree_fs.specs.Spot.{Spot, spot_eq, root_spot, IsBelow}
use Rattle.tree_fs.specs.Places.{game_spot}
use Rattle.tree_fs.specs.Disk.{Disk, Value, none, file}
use Rattle.tree_fs.specs.Calls.{IsFolder}
use Rattle.tree_fs.proofs.Spots.{spot_eq_tells}
use Rattle.list_laws.proofs.Containing.{contains_here, contains_only, contains_none}
use Rattle.manifest_json.specs.declared.manifest.Row.{Row}
use Rattle.manifest_json.specs.declared.manifest.Manifest.{Manifest}
use Rattle.manifest_json.specs.Manifests.{manifest_value}
use Rattle.desk_model.specs.Places.{Names, names_eq, in_game, in_stage, manifest_spot}
use Rattle.desk_model.specs.Records.{recorded, rows_of, own_of, read_as, manifest_of, row_at, row_behind}
use Rattle.desk_model.specs.Desk.{without_manifest, plain, plain_by, found, desk}
use Rattle.desk_model.specs.Folders.{lies_in_game, lies_by, lies, IsNeeded, IsOwnOrNeeded, Goes, FolderRule, OwnRule}
use Rattle.desk_model.specs.Deployed.{Deployed}
use Rattle.desk_model.proofs.Agreeing.{without-agree}
use Rattle.desk_model.proofs.Cases.{names_off, names_tell, spot_off, nothing_there, empty, tail_is, head_is}

abbrev path : List ℕ
path = codes "d/x.txt"

abbrev d_x : Names
d_x = codes "d" ∷ codes "x.txt" ∷ []

abbrev d_y : Names
d_y = codes "d" ∷ codes "y" ∷ []

abbrev a_d_x : Names
a_d_x = codes "a" ∷ d_x

abbrev own : Spot
own = in_game (codes "d" ∷ [])

-- the deployed file at both places, what others put into the folder, and the manifest
abbrev now_old : Value → Spot → Value
now_old y s = if spot_eq s (in_game d_x) then file 1 else if spot_eq s (in_stage a_d_x) then file 1 else if spot_eq s (in_game d_y) then y else if spot_eq s manifest_spot then file 2 else none

abbrev now_new : Value → Spot → Value
now_new y s = if spot_eq s (in_stage a_d_x) then file 1 else if spot_eq s (in_game d_y) then y else if spot_eq s manifest_spot then file 3 else none

abbrev the_mod : Spot → Bool
the_mod s = spot_eq s (root_spot Stage) || spot_eq s (root_spot Game) || spot_eq s (root_spot Keep) || spot_eq s (in_stage (codes "a" ∷ [])) || spot_eq s (in_stage (codes "a" ∷ codes "d" ∷ []))

abbrev and_own : Spot → Bool
and_own s = spot_eq s own || the_mod s

abbrev pub old_disk : Value → (ℕ → List ℕ) → Disk
old_disk y bytes = record { folders = and_own; now = now_old y; before = λ s. []; bytes = bytes; firm = λ n. true; fresh = 5 }

abbrev pub new_disk : (Spot → Bool) → Value → (ℕ → List ℕ) → Disk
new_disk folders y bytes = record { folders = folders; now = now_new y; before = λ s. []; bytes = bytes; firm = λ n. true; fresh = 5 }

abbrev row : (ℕ → List ℕ) → Row
row bytes = record { path = path; mod_id = codes "a"; source = path; digest = record { bytes = sha256 (bytes 1) }; shadowed = false }

abbrev old_manifest : (ℕ → List ℕ) → Manifest
old_manifest bytes = record { rows = row bytes ∷ []; folders = codes "d" ∷ [] }

abbrev new_manifest : List (List ℕ) → Manifest
new_manifest folders = record { rows = []; folders = folders }

-- Which folders lie above the files

above_stage : (name : List ℕ) (rest : Names) (r : Root) (ns : Names) → r ≡ Stage → a_d_x ≡ ns ++ name ∷ rest → the_mod (record { root = r; names = ns }) ≡ true
unfolding spot_eq
above_stage name rest Stage [] e h = refl
above_stage name rest Stage (y ∷ []) e h = subst (λ z. the_mod (in_stage (z ∷ [])) ≡ true) (head_is (codes "a") y _ (name ∷ rest) h) refl
above_stage name rest Stage (y ∷ z ∷ []) e h =
    let first = head_is (codes "a") y _ (z ∷ name ∷ rest) h in
    let second = head_is (codes "d") z _ (name ∷ rest) (tail_is (codes "a") y d_x (z ∷ name ∷ rest) h) in
    subst (λ u. the_mod (in_stage (u ∷ z ∷ [])) ≡ true) first (subst (λ u. the_mod (in_stage (codes "a" ∷ u ∷ [])) ≡ true) second refl)
above_stage name rest Stage (y ∷ z ∷ u ∷ us) e h =
    absurd (empty us name rest (tail_is (codes "x.txt") u [] (us ++ name ∷ rest) (tail_is (codes "d") z (codes "x.txt" ∷ []) (u ∷ (us ++ name ∷ rest)) (tail_is (codes "a") y d_x (z ∷ u ∷ (us ++ name ∷ rest)) h))))
above_stage name rest Game ns e h = absurd (cc)
above_stage name rest Keep ns e h = absurd (cc)

own_there : and_own own ≡ true
unfolding spot_eq
own_there = refl

own_no_mod : the_mod own ≡ false
unfolding spot_eq
own_no_mod = refl

root_there : and_own (in_game []) ≡ true
unfolding spot_eq
root_there = refl

above_game : (last name : List ℕ) (rest : Names) (r : Root) (ns : Names) → r ≡ Game → codes "d" ∷ last ∷ [] ≡ ns ++ name ∷ rest → and_own (record { root = r; names = ns }) ≡ true
above_game last name rest Game [] e h = root_there
above_game last name rest Game (y ∷ []) e h = subst (λ z. and_own (in_game (z ∷ [])) ≡ true) (head_is (codes "d") y _ (name ∷ rest) h) own_there
above_game last name rest Game (y ∷ z ∷ zs) e h =
    absurd (empty zs name rest (tail_is last z [] (zs ++ name ∷ rest) (tail_is (codes "d") y (last ∷ []) (z ∷ (zs ++ name ∷ rest)) h)))
above_game last name rest Stage ns e h = absurd (cc)
above_game last name rest Keep ns e h = absurd (cc)

and_mod : (s : Spot) → the_mod s ≡ true → and_own s ≡ true
and_mod s e = either_second (spot_eq s own) (the_mod s) e

own_or_mod : (s : Spot) → and_own s ≡ true → (s ≡ own) ⊎ (the_mod s ≡ true)
own_or_mod s e = elim (spot_eq_tells s own) [ inl t ↦ inl t.1 | inr t ↦ inr (sym (ap (λ b. b || the_mod s) t.0) ∙ e) ]

only_own : (p : List ℕ) → Contains (codes "d" ∷ []) p → p ≡ codes "d"
only_own p c = contains_only (codes "d") p c

not_deep : (name : List ℕ) (rest : Names) → the_mod (in_game (codes "d" ∷ name ∷ rest)) ≡ false
unfolding spot_eq
not_deep name rest = refl

no_folder_below : (x : Spot) → IsBelow own x → and_own x ≡ true → ⊥
no_folder_below x b there = elim (own_or_mod x there) [
  | inl is ↦ empty [] b.name b.rest (tail_is (codes "d") (codes "d") [] (b.name ∷ b.rest) (sym (ap (λ (s : Spot). s.names) is) ∙ b.names))
  | inr in_mod ↦ let t : true ≡ false = sym in_mod ∙ (λ i. the_mod (record { root = b.root i; names = b.names i })) ∙ not_deep b.name b.rest in cc
]

-- What the disks show

module _ (y : Value) (folders : Spot → Bool) (listed : List (List ℕ)) (bytes : ℕ → List ℕ)
    (first : manifest_value (bytes 2) ≡ Some (old_manifest bytes)) (second : manifest_value (bytes 3) ≡ Some (new_manifest listed)) where
  abbrev old : Disk
  old = old_disk y bytes

  abbrev new : Disk
  new = new_disk folders y bytes

  told_old : manifest_of old ≡ recorded (old_manifest bytes)
  unfolding spot_eq
  told_old = ap (read_as (bytes 2)) first

  told_new : manifest_of new ≡ recorded (new_manifest listed)
  unfolding spot_eq
  told_new = ap (read_as (bytes 3)) second

  -- away from the deployed path both hold the same
  same_off : (p : Names) → d_x ≢ p → without_manifest (now_old y) (in_game p) ≡ without_manifest (now_new y) (in_game p)
  unfolding spot_eq
  same_off p ne = without-agree (now_old y) (now_new y) (in_game p) (λ apart.
      let off : spot_eq (in_game p) (in_game d_x) ≡ false = spot_off Game p d_x (λ e. ne (sym e)) in
      let m_off : spot_eq (in_game p) manifest_spot ≡ false = elim (spot_eq_tells (in_game p) manifest_spot) [ inl t ↦ absurd (apart t.1) | inr t ↦ t.0 ] in
      (λ i. if off i then file 1 else if spot_eq (in_game p) (in_game d_y) then y else if m_off i then file 2 else none)
      ∙ sym (λ i. if spot_eq (in_game p) (in_game d_y) then y else if m_off i then file 3 else none))

  plain_case : (p : Names) → plain (row bytes ∷ []) (without_manifest (now_old y)) p ≡ plain [] (without_manifest (now_new y)) p
  unfolding plain row_at row_behind without_manifest spot_eq
  plain_case p = elim (names_tell d_x p) [
    | inl is ↦ subst (λ q. plain (row bytes ∷ []) (without_manifest (now_old y)) q ≡ plain [] (without_manifest (now_new y)) q) is refl
    | inr ne ↦ (λ i. plain_by (if names_off d_x p ne i then Some (row bytes) else None) None (same_off p ne i) (without_manifest (now_old y) (in_game (backup_names p))))
  ]

  plain_same : (p : Names) → (desk new).plain p ≡ (desk old).plain p
  plain_same p =
      ap (λ m. plain (rows_of m) (without_manifest (now_new y)) p) told_new ∙ sym (plain_case p)
      ∙ sym (ap (λ m. plain (rows_of m) (without_manifest (now_old y)) p) told_old)

  none_found : (p : Names) → found [] (without_manifest (now_new y)) p ≡ none
  unfolding found row_at
  none_found p = refl

  staged_is : (p : Names) → (desk new).staged p ≡ (if names_eq p a_d_x then file 1 else none)
  unfolding without_manifest spot_eq
  staged_is p = refl

  staged_same : (p : Names) → (desk new).staged p ≡ (desk old).staged p
  unfolding without_manifest spot_eq
  staged_same p = refl

  aside_same : (p : Names) → (desk new).aside p ≡ (desk old).aside p
  unfolding without_manifest spot_eq
  aside_same [] = refl
  aside_same (n ∷ ns) = refl

  profile_same : (desk new).profile ≡ (desk old).profile
  unfolding spot_eq
  profile_same = refl

  -- where files lie
  game_is : (p : Names) → lies_by (desk new) Game p ≡ without_manifest (now_new y) (in_game p)
  unfolding row_at row_behind plain
  game_is p =
      ap (λ m. lies_in_game (desk new) p (row_at (rows_of m) p) (row_behind (rows_of m) p)) told_new
      ∙ ap (λ m. plain (rows_of m) (without_manifest (now_new y)) p) told_new

  data IsFileOf (x : Spot) : Type 0 where
    of_mod : in_stage a_d_x ≡ x → IsFileOf x
    of_others : (n : ℕ) → y ≡ file n → in_game d_y ≡ x → IsFileOf x

  at_y : without_manifest (now_new y) (in_game d_y) ≡ y
  unfolding without_manifest spot_eq
  at_y = refl

  y_or_none : (p : Names) (n : ℕ) → without_manifest (now_new y) (in_game p) ≡ file n → IsFileOf (in_game p)
  unfolding spot_eq
  y_or_none p n e = elim (names_tell d_y p) [
    | inl is ↦ of_others n (sym at_y ∙ ap (λ q. without_manifest (now_new y) (in_game q)) is ∙ e) (ap in_game is)
    | inr ne ↦
        let off : spot_eq (in_game p) (in_game d_y) ≡ false = spot_off Game p d_y (λ h. ne (sym h)) in
        let gone : without_manifest (now_new y) (in_game p) ≡ none =
        without-agree (now_new y) (λ x. none) (in_game p) (λ apart.
        let m_off : spot_eq (in_game p) manifest_spot ≡ false = elim (spot_eq_tells (in_game p) manifest_spot) [ inl t ↦ absurd (apart t.1) | inr t ↦ t.0 ] in
        λ i. if off i then y else if m_off i then file 3 else none) ∙ nothing_there (in_game p) in
        let t : none ≡ file n = sym gone ∙ e in absurd (cc)
  ]

  lies_at : (x : Spot) (n : ℕ) → lies (desk new) x ≡ file n → IsFileOf x
  lies_at x n e = by_root x.root x.names e
    where
      by_root : (r : Root) (p : Names) → lies_by (desk new) r p ≡ file n → IsFileOf (record { root = r; names = p })
      by_root Keep p is = absurd (cc)
      by_root Game p is = y_or_none p n (sym (game_is p) ∙ is)
      by_root Stage p is = elim (names_tell a_d_x p) [
        | inl same ↦ of_mod (ap in_stage same)
        | inr ne ↦ let off = names_off p a_d_x (λ h. ne (sym h)) in let t : none ≡ file n = sym (λ i. if off i then file 1 else none) ∙ sym (staged_is p) ∙ is in absurd (cc)
      ]

  above : (x s : Spot) → IsFileOf x → IsBelow s x → and_own s ≡ true
  above x s (of_mod is) b = let c = subst (IsBelow s) (sym is) b in and_mod s (above_stage c.name c.rest s.root s.names (sym c.root) c.names)
  above x s (of_others n v is) b = let c = subst (IsBelow s) (sym is) b in above_game (codes "y") c.name c.rest s.root s.names (sym c.root) c.names

  no_need : (s : Spot) → ¬ IsNeeded old (desk new) s
  no_need s h = let t : true ≡ false = sym (above h.place s (lies_at h.place h.number h.there) h.below) ∙ h.missing in cc

  own_is : (s : Spot) → IsOwnOrNeeded old (desk new) s → s ≡ own
  own_is s (inl o) = o.here ∙ ap game_spot (only_own o.path (subst (λ m. Contains (own_of m) o.path) told_old o.listed))
  own_is s (inr h) = absurd (no_need s h.1)

  is_own : IsOwnOrNeeded old (desk new) own
  is_own = inl (record { path = codes "d"; listed = subst (λ m. Contains (own_of m) (codes "d")) (sym told_old) (contains_here (codes "d") []); here = refl; is_there = own_there })

  deployed_with : FolderRule old (desk new) → OwnRule old (desk new) → Deployed old [] (desk new)
  deployed_with folder_rule own_rule = record {
    plain = λ i p. plain_same p i;
    manifest = new_manifest listed;
    is_manifest = told_new;
    rows = refl;
    found = λ p. ap (λ m. found (rows_of m) (without_manifest (now_new y)) p) told_new ∙ none_found p;
    staged = λ i p. staged_same p i;
    aside = λ i p. aside_same p i;
    profile = profile_same;
    folders = folder_rule;
    own = own_rule;
    bytes = λ n named. refl;
  }

no_y : (p : Names) → without_manifest (now_new none) (in_game p) ≡ none
unfolding spot_eq
no_y p =
    without-agree (now_new none) (λ x. none) (in_game p) (λ apart.
    let m_off : spot_eq (in_game p) manifest_spot ≡ false = elim (spot_eq_tells (in_game p) manifest_spot) [ inl t ↦ absurd (apart t.1) | inr t ↦ t.0 ] in
    (λ i. if spot_eq (in_game p) (in_game d_y) then none else if m_off i then file 3 else none) ∙ by_test (spot_eq (in_game p) (in_game d_y)))
    ∙ nothing_there (in_game p)
  where
    by_test : (t : Bool) → (if t then none else none) ≡ none
    by_test true = refl
    by_test false = refl

-- where nothing else lies in the folder, it goes
module _ (bytes : ℕ → List ℕ) (first : manifest_value (bytes 2) ≡ Some (old_manifest bytes)) (second : manifest_value (bytes 3) ≡ Some (new_manifest [])) where
  abbrev was : Disk
  was = old_disk none bytes

  abbrev gone : Disk
  gone = new_disk the_mod none bytes

  nothing_below : (r : Root) (p : Names) → r ≡ Game → lies_by (desk gone) r p ≡ none
  nothing_below Game p e = game_is none the_mod [] bytes first second p ∙ no_y p
  nothing_below Stage p e = absurd (cc)
  nothing_below Keep p e = refl

  own_goes : Goes was (desk gone) own
  own_goes = record {
    own = is_own none the_mod [] bytes first second;
    no_value = λ x b. nothing_below x.root x.names b.root;
    no_folder = λ x b. elim_there x b;
  }
    where
      elim_there : (x : Spot) → IsBelow own x → IsFolder was x ⊎ IsNeeded was (desk gone) x → IsOwnOrNeeded was (desk gone) x
      elim_there x b (inr needed) = absurd (no_need none the_mod [] bytes first second x needed)
      elim_there x b (inl there) = absurd (no_folder_below x b there)

  gone_folders : FolderRule was (desk gone)
  gone_folders s = (
    λ h. (h.0, inl (and_mod s h.1), λ goes. let t : true ≡ false = sym h.1 ∙ ap the_mod (own_is none the_mod [] bytes first second s goes.own) ∙ own_no_mod in absurd (cc)),
    λ h. (
      h.0,
      elim h.1 [
        | inl there ↦ elim (own_or_mod s there) [ inl is ↦ absurd (h.2 (subst (Goes was (desk gone)) (sym is) own_goes)) | inr in_mod ↦ in_mod ]
        | inr needed ↦ absurd (no_need none the_mod [] bytes first second s needed)
      ],
    ),
  )

  gone_own : OwnRule was (desk gone)
  unfolding IsStrictlySortedBy
  gone_own = record {
    folders = λ p. (
      λ c. absurd (contains_none p (subst (λ m. Contains (own_of m) p) (told_new none the_mod [] bytes first second) c)),
      λ h. absurd (h.1 (subst (Goes was (desk gone)) (sym (own_is none the_mod [] bytes first second (game_spot p) h.0)) own_goes)),
    );
    order = subst (λ m. IsStrictlySortedBy (slice_cmp nat_cmp) (own_of m)) (sym (told_new none the_mod [] bytes first second)) tt;
  }

  pub folder-gone : Deployed was [] (desk gone)
  folder-gone = deployed_with none the_mod [] bytes first second gone_folders gone_own

-- where others put a file into the folder, it stays and is listed
module _ (k : ℕ) (bytes : ℕ → List ℕ) (first : manifest_value (bytes 2) ≡ Some (old_manifest bytes)) (second : manifest_value (bytes 3) ≡ Some (new_manifest (codes "d" ∷ []))) where
  abbrev before : Disk
  before = old_disk (file k) bytes

  abbrev after : Disk
  after = new_disk and_own (file k) bytes

  own_stays : ¬ Goes before (desk after) own
  own_stays goes =
      let below : IsBelow own (in_game d_y) = record { root = refl; name = codes "y"; rest = []; names = refl } in
      let t : none ≡ file k = sym (goes.no_value (in_game d_y) below) ∙ game_is (file k) and_own (codes "d" ∷ []) bytes first second d_y ∙ at_y (file k) and_own (codes "d" ∷ []) bytes first second in cc

  none_goes : (s : Spot) → ¬ Goes before (desk after) s
  none_goes s goes = own_stays (subst (Goes before (desk after)) (own_is (file k) and_own (codes "d" ∷ []) bytes first second s goes.own) goes)

  kept_folders : FolderRule before (desk after)
  kept_folders s = (
    λ h. (h.0, inl h.1, none_goes s),
    λ h. (h.0, elim h.1 [ inl there ↦ there | inr needed ↦ absurd (no_need (file k) and_own (codes "d" ∷ []) bytes first second s needed) ]),
  )

  kept_own : OwnRule before (desk after)
  unfolding IsStrictlySortedBy
  kept_own = record {
    folders = λ p. (
      λ c.
          let is = only_own p (subst (λ m. Contains (own_of m) p) (told_new (file k) and_own (codes "d" ∷ []) bytes first second) c) in
          (subst (λ q. IsOwnOrNeeded before (desk after) (game_spot q)) (sym is) (is_own (file k) and_own (codes "d" ∷ []) bytes first second), none_goes (game_spot p)),
      λ h.
          let is : p ≡ codes "d" = same_text p (codes "d") (ap (λ (q : Spot). q.names) (own_is (file k) and_own (codes "d" ∷ []) bytes first second (game_spot p) h.0)) in
          subst (λ m. Contains (own_of m) p) (sym (told_new (file k) and_own (codes "d" ∷ []) bytes first second)) (subst (Contains (codes "d" ∷ [])) (sym is) (contains_here (codes "d") [])),
    );
    order = subst (λ m. IsStrictlySortedBy (slice_cmp nat_cmp) (own_of m)) (sym (told_new (file k) and_own (codes "d" ∷ []) bytes first second)) (tt, tt);
  }

  pub folder-kept : Deployed before [] (desk after)
  folder-kept = deployed_with (file k) and_own (codes "d" ∷ []) bytes first second kept_folders kept_own
