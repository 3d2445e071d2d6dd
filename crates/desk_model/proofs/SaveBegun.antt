-- The same worked case, stopped where the intent's new entry is pending: the disk stands, and its intent leads to the deployment.
use Rattle.std.proofs.Common.{◌≡◌, ◌≢◌, ◌⊎◌, ℕ, ◌<◌, Bool, true, false, ◌||◌, if◌then◌else◌, List, [], ◌∷◌, ◌++◌, codes, refl, sym, ap, ◌∙◌, inl, inr, subst, arith}
use Rattle.std.specs.List.{Contains}
use Rattle.std.specs.Str.{bytes_eq}
use Rattle.std.specs.declared.option.Option.TheVariants.{None, Some}
use Rattle.rel_paths.specs.Names.{path_fault, IsUserPath}
use Rattle.rel_paths.specs.declared.control.Control.{Control}
use Rattle.rel_paths.specs.Controls.{control_path}
use Rattle.tree_fs.specs.declared.name.Kind.TheVariants.{Absent, File}
use Rattle.tree_fs.specs.declared.place.Root.{Root}
use Rattle.tree_fs.specs.declared.place.Root.TheVariants.{Stage, Game, Keep}
use Rattle.tree_fs.specs.declared.place.Place.{Place}
use Rattle.tree_fs.specs.Spot.{Spot, spot_of, spot_eq, root_spot, parent, IsBelow}
use Rattle.tree_fs.specs.Places.{mod_spot}
use Rattle.tree_fs.specs.Texts.{control_spot, control_root}
use Rattle.tree_fs.specs.Disk.{Disk, Value, none, file, odd, MayHold, IsIn, IsValid, IsFile, kind_of, IsSettled, HoldsOnly}
use Rattle.tree_fs.proofs.Spots.{spot_eq_tells, same_or_other}
use Rattle.tree_fs.proofs.Lists.{contains_here, contains_cases, contains_none}
use Rattle.manifest_json.specs.Manifests.{manifest_value}
use Rattle.move_plan.specs.declared.plan.SetRow.{SetRow}
use Rattle.move_plan.specs.declared.plan.Plan.{Plan}
use Rattle.move_plan.specs.Places.{Has, IsAt, IsSetTo, IsSetFrom, IsSaveTo, IsDestination, IsClear}
use Rattle.move_plan.specs.Rules.{IsFree, LiesApart, PassesRules, in_order, avoids_controls, source_stays, save_stays, keeping, clear_is_used, save_is_back, back_stays, apart}
use Rattle.move_plan.specs.Sound.{SoundPlan}
use Rattle.intent_json.specs.declared.intent.Intent.{Intent}
use Rattle.intent_json.specs.Reads.{intent_value}
use Rattle.desk_model.specs.Places.{Names, names_eq, in_game, in_stage, manifest_spot, intent_spot, IsKeepEntry}
use Rattle.desk_model.specs.Records.{profile_text, manifest_of, rows_of}
use Rattle.desk_model.specs.Desk.{without_manifest, plain, view, desk, desk_of, SameDesk}
use Rattle.desk_model.specs.Deployed.{Deployed}
use Rattle.desk_model.specs.Outcome.{intent_by, set_to, save_to, is_one_of, updated, updated_by, planned, outcome, outcome_by, IsThere}
use Rattle.desk_model.specs.Standing.{IsSettledFile, IsBegun, IsOpen, SetStands, IntentStands, Standing}
use Rattle.desk_model.proofs.Spots.{control-names, keep_control}
use Rattle.desk_model.proofs.Agreeing.{Agree, without-agree, Alike, No, desk_of-alike, plain-agree}
use Rattle.desk_model.proofs.SameDesks.{deployed-same}
use Rattle.desk_model.proofs.Cases.{empty, tail_is, head_is}
use Rattle.desk_model.proofs.SavedAndPurged.{OneOfThree, above, wins, saved-deployed, x_path, x_name, x_behind, x_staged, now_before, folders_there, before, deployed, now_deployed, the_manifest, told_deployed, plain_same}
use Rattle.rel_paths.specs.declared.control.Control.TheVariants as control
use Rattle.intent_json.specs.declared.intent.Phase.TheVariants as phase

abbrev pub game_place : Place
game_place = record { root = Game; rel = Some x_path }

abbrev pub backup_place : Place
backup_place = record { root = Game; rel = Some (codes "x.txt.vortex_backup") }

abbrev pub staged_place : Place
staged_place = record { root = Stage; rel = Some (codes "b/x.txt") }

abbrev pub the_set : SetRow
the_set = record { to = game_place; from = Some staged_place; back = Some backup_place }

-- save the game's file to its backup, set its place to the staged file
abbrev pub the_plan : (ℕ → List ℕ) → Plan
the_plan bytes = record { folders = []; saves = (game_place, backup_place) ∷ []; sets = the_set ∷ []; manifest = Some (the_manifest bytes); clears = []; folders_off = [] }

apart_names : x_name ≢ x_behind
apart_names e = let t : true ≡ false = ap (names_eq x_name) e in absurd (cc)

pub only_one : {A : Type 0} (x y : A) → Contains (x ∷ []) y → y ≡ x
only_one x y c = elim (contains_cases x y [] c) [ inl is ↦ is | inr there ↦ absurd (contains_none y there) ]

-- the one set and the one save
pub set_to_is : (bytes : ℕ → List ℕ) (x : Spot) → IsSetTo (the_plan bytes) x → in_game x_name ≡ x
set_to_is bytes x h = ap (λ (r : SetRow). spot_of r.to) (sym (only_one the_set h.row h.listed)) ∙ h.here

pub set_from_is : (bytes : ℕ → List ℕ) (x : Spot) → IsSetFrom (the_plan bytes) x → in_stage x_staged ≡ x
set_from_is bytes x h = subst (λ (r : SetRow). IsAt r.from x) (only_one the_set h.row h.listed) h.here

pub save_to_is : (bytes : ℕ → List ℕ) (x : Spot) → IsSaveTo (the_plan bytes) x → in_game x_behind ≡ x
save_to_is bytes x h = ap (λ (s : Place × Place). spot_of s.1) (sym (only_one (game_place, backup_place) h.save h.listed)) ∙ h.here

free_game : (one : List ℕ) → bytes_eq one (control_path control.Manifest) ≡ false → IsFree (in_game (one ∷ []))
free_game one test = record {
  not_root = λ e. cc;
  not_control = not_control;
  not_below = not_below;
}
  where
    other_root : (which : Control) → control_root which ≡ Keep → Game ≡ control_root which → ⊥
    other_root which is e = let t : Game ≡ Keep = e ∙ is in cc

    not_control : (which : Control) → in_game (one ∷ []) ≡ control_spot which → ⊥
    not_control control.Intent e = other_root control.Intent refl (ap (λ (s : Spot). s.root) e)
    not_control control.IntentTemp e = other_root control.IntentTemp refl (ap (λ (s : Spot). s.root) e)
    not_control control.ManifestTemp e = other_root control.ManifestTemp refl (ap (λ (s : Spot). s.root) e)
    not_control control.ProfileTemp e = other_root control.ProfileTemp refl (ap (λ (s : Spot). s.root) e)
    not_control control.Profile e = other_root control.Profile refl (ap (λ (s : Spot). s.root) e)
    not_control control.Manifest e =
        let h : one ∷ [] ≡ control_path control.Manifest ∷ [] = ap (λ (s : Spot). s.names) e ∙ control-names control.Manifest in
        let t : false ≡ true = sym test ∙ ap (λ n. bytes_eq n (control_path control.Manifest)) (head_is one (control_path control.Manifest) [] [] h) in
        cc

    not_below : (which : Control) → IsBelow (control_spot which) (in_game (one ∷ [])) → ⊥
    not_below control.Intent b = other_root control.Intent refl b.root
    not_below control.IntentTemp b = other_root control.IntentTemp refl b.root
    not_below control.ManifestTemp b = other_root control.ManifestTemp refl b.root
    not_below control.ProfileTemp b = other_root control.ProfileTemp refl b.root
    not_below control.Profile b = other_root control.Profile refl b.root
    not_below control.Manifest b =
        let h : one ∷ [] ≡ (control_path control.Manifest ∷ []) ++ b.name ∷ b.rest = b.names ∙ ap (λ ns. ns ++ b.name ∷ b.rest) (control-names control.Manifest) in
        empty [] b.name b.rest (tail_is one (control_path control.Manifest) [] (b.name ∷ b.rest) h)

free_stage : (n : List ℕ) (ns : Names) → IsFree (in_stage (n ∷ ns))
free_stage n ns = record {
  not_root = λ e. cc;
  not_control = λ which e. other_root which (ap (λ (s : Spot). s.root) e);
  not_below = λ which b. other_root which b.root;
}
  where
    other_root : (which : Control) → Stage ≡ control_root which → ⊥
    other_root control.Intent e = cc
    other_root control.IntentTemp e = cc
    other_root control.ManifestTemp e = cc
    other_root control.ProfileTemp e = cc
    other_root control.Profile e = cc
    other_root control.Manifest e = cc

-- no place with one name lies below another such place
flat : (one two : List ℕ) → ¬ IsBelow (in_game (one ∷ [])) (in_game (two ∷ []))
flat one two b = empty [] b.name b.rest (tail_is two one [] (b.name ∷ b.rest) b.names)

all_flat : (bytes : ℕ → List ℕ) (two : List ℕ) → LiesApart (the_plan bytes) (in_game (two ∷ []))
all_flat bytes two y (inl is) below = flat (codes "x.txt") two (subst (λ z. IsBelow z (in_game (two ∷ []))) (sym (set_to_is bytes y is)) below)
all_flat bytes two y (inr is) below = flat (codes "x.txt.vortex_backup") two (subst (λ z. IsBelow z (in_game (two ∷ []))) (sym (save_to_is bytes y is)) below)

user : IsUserPath x_path
unfolding path_fault
user = refl

other_roots : in_game x_name ≢ in_stage x_staged
other_roots e = let t : Game ≡ Stage = ap (λ (s : Spot). s.root) e in cc

behind_not_staged : in_stage x_staged ≢ in_game x_behind
behind_not_staged e = let t : Stage ≡ Game = ap (λ (s : Spot). s.root) e in cc

-- the plan passes the nine rules
pub save_plan-passes : (bytes : ℕ → List ℕ) → PassesRules (the_plan bytes)
save_plan-passes bytes in_order = (tt, (tt, tt))
save_plan-passes bytes avoids_controls =
    let here = free_game (codes "x.txt") refl in
    let behind = free_game (codes "x.txt.vortex_backup") refl in
    ((here, behind), ((here, free_stage (codes "b") (codes "x.txt" ∷ []), behind), tt))
save_plan-passes bytes source_stays = (tt, ((λ h. other_roots (set_to_is bytes (in_stage x_staged) h)), tt))
save_plan-passes bytes save_stays =
    (((λ h. apart_names (ap (λ (s : Spot). s.names) (set_to_is bytes (in_game x_behind) h))), (λ h. behind_not_staged (set_from_is bytes (in_game x_behind) h))), (tt, tt))
save_plan-passes bytes keeping = (inl (x_path, user, refl), (tt, tt))
save_plan-passes bytes clear_is_used = (tt, (tt, tt))
save_plan-passes bytes save_is_back = (record { row = the_set; listed = contains_here the_set []; here = refl; place = backup_place; is_back = refl; there = refl }, (tt, tt))
save_plan-passes bytes back_stays = (tt, (inl (record { save = (game_place, backup_place); listed = contains_here (game_place, backup_place) []; source = refl; here = refl }), tt))
save_plan-passes bytes apart = (all_flat bytes (codes "x.txt.vortex_backup"), (all_flat bytes (codes "x.txt"), tt))

-- The disk: the intent's new entry, file 4, is pending

abbrev pub now_begun : Spot → Value
now_begun s = if spot_eq s intent_spot then file 4 else now_before s

abbrev pub begun : (ℕ → List ℕ) → Disk
begun bytes = record { folders = folders_there; now = now_begun; before = λ s. if spot_eq s intent_spot then none ∷ [] else []; bytes = bytes; firm = λ n. true; fresh = 5 }

abbrev pub the_intent : (ℕ → List ℕ) → Intent
the_intent bytes = record { phase = phase.Set; plan = the_plan bytes }

-- which of the places it is
pub data Place4 (x : Spot) : Type 0 where
  at_game : in_game x_name ≡ x → Place4 x
  at_stage : in_stage x_staged ≡ x → Place4 x
  at_backup : in_game x_behind ≡ x → Place4 x
  elsewhere : x ≢ in_game x_name → x ≢ in_stage x_staged → x ≢ in_game x_behind → Place4 x

pub place4 : (x : Spot) → Place4 x
place4 x = elim (same_or_other x (in_game x_name)) [
  | inl is ↦ at_game (sym is)
  | inr one ↦ elim (same_or_other x (in_stage x_staged)) [
    | inl is ↦ at_stage (sym is)
    | inr two ↦ elim (same_or_other x (in_game x_behind)) [ inl is ↦ at_backup (sym is) | inr three ↦ elsewhere one two three ]
  ]
]

pub test_off : (x y : Spot) → x ≢ y → spot_eq x y ≡ false
test_off x y ne = elim (spot_eq_tells x y) [ inl s ↦ absurd (ne s.1) | inr s ↦ s.0 ]

pub test_on : (x y : Spot) → x ≡ y → spot_eq x y ≡ true
test_on x y is = elim (spot_eq_tells x y) [ inl s ↦ s.0 | inr s ↦ absurd (s.1 is) ]

pub intent_entry : IsKeepEntry intent_spot
intent_entry = keep_control control.Intent refl

pub not_intent : (x : Spot) → ¬ IsKeepEntry x → spot_eq x intent_spot ≡ false
not_intent x no_entry = test_off x intent_spot (λ is. no_entry (subst IsKeepEntry (sym is) intent_entry))

-- what a place other than the intent's may hold, it holds
held_is : (bytes : ℕ → List ℕ) (x : Spot) (v : Value) → spot_eq x intent_spot ≡ false → MayHold (begun bytes) x v → v ≡ now_before x
held_is bytes x v off (inl is) = is ∙ (λ i. if off i then file 4 else now_before x)
held_is bytes x v off (inr h) = absurd (by_test (spot_eq x intent_spot) off h)
  where
    by_test : (b : Bool) → b ≡ false → IsIn v (if b then none ∷ [] else []) → ⊥
    by_test false e h = h
    by_test true e h = absurd (cc)

-- the intent's place may hold none, or the intent
intent_held : (bytes : ℕ → List ℕ) (v : Value) → MayHold (begun bytes) intent_spot v → (v ≡ file 4) ⊎ (v ≡ none)
intent_held bytes v (inl is) = inl (is ∙ (λ i. if test_on intent_spot intent_spot refl i then file 4 else now_before intent_spot))
intent_held bytes v (inr h) = by_test (spot_eq intent_spot intent_spot) (test_on intent_spot intent_spot refl) h
  where
    by_test : (b : Bool) → b ≡ true → IsIn v (if b then none ∷ [] else []) → (v ≡ file 4) ⊎ (v ≡ none)
    by_test true e (inl is) = inr is
    by_test true e (inr never) = absurd never
    by_test false e h = absurd (cc)

module _ (bytes : ℕ → List ℕ) (x : Spot) (one : x ≢ in_game x_name) (two : x ≢ in_stage x_staged) (three : x ≢ in_game x_behind) where
  before_off : now_before x ≡ none
  before_off = λ i. if test_off x (in_game x_name) one i then file 1 else if test_off x (in_stage x_staged) two i then file 2 else none

  deployed_off : x ≢ manifest_spot → now_deployed x ≡ none
  deployed_off four = λ i. if test_off x (in_game x_name) one i then file 2 else if test_off x (in_stage x_staged) two i then file 2 else if test_off x (in_game x_behind) three i then file 1 else if test_off x manifest_spot four i then file 3 else none

  updated_off : updated (the_plan bytes) now_begun x ≡ now_begun x
  unfolding updated set_to save_to is_one_of
  updated_off = λ i. updated_by now_begun (now_begun x) false (if test_off (in_game x_name) x (λ e. one (sym e)) i then Some the_set else None) (if test_off (in_game x_behind) x (λ e. three (sym e)) i then Some (game_place, backup_place) else None)

-- the update makes what the deployment leaves
updated_at : (bytes : ℕ → List ℕ) (x : Spot) → ¬ IsKeepEntry x → x ≢ manifest_spot → Place4 x → updated (the_plan bytes) now_begun x ≡ now_deployed x
unfolding updated set_to save_to is_one_of spot_eq
updated_at bytes x no_entry four (at_game is) = subst (λ y. updated (the_plan bytes) now_begun y ≡ now_deployed y) is refl
updated_at bytes x no_entry four (at_stage is) = subst (λ y. updated (the_plan bytes) now_begun y ≡ now_deployed y) is refl
updated_at bytes x no_entry four (at_backup is) = subst (λ y. updated (the_plan bytes) now_begun y ≡ now_deployed y) is refl
updated_at bytes x no_entry four (elsewhere one two three) =
    updated_off bytes x one two three ∙ (λ i. if not_intent x no_entry i then file 4 else now_before x) ∙ before_off bytes x one two three ∙ sym (deployed_off bytes x one two three four)

begun_before : Agree (without_manifest now_begun) (without_manifest now_before)
begun_before x no_entry = without-agree now_begun now_before x (λ ne. λ i. if not_intent x no_entry i then file 4 else now_before x)

module _ (bytes : ℕ → List ℕ) (is_text : manifest_value (bytes 3) ≡ Some (the_manifest bytes)) where
  there_is : (s : Spot) → IsThere (begun bytes) (the_plan bytes) s → folders_there s ≡ true
  there_is s (inl f) = f
  there_is s (inr made) = absurd (contains_none made.place made.listed)

  planned_alike : Alike No (desk_of (planned (begun bytes) (the_plan bytes))) (desk (deployed bytes))
  planned_alike = desk_of-alike (planned (begun bytes) (the_plan bytes)) (view (deployed bytes)) (sym (told_deployed bytes is_text))
      (λ x no_entry. without-agree _ _ x (λ ne. updated_at bytes x no_entry ne (place4 x)))
      (λ s users. (λ h. there_is s h.0, λ h. (inl h, λ off. contains_none off.listed.place off.listed.listed)))

  no_profile : profile_text (begun bytes) ≡ profile_text (deployed bytes)
  unfolding spot_eq
  no_profile = refl

  planned_same : SameDesk (desk_of (planned (begun bytes) (the_plan bytes))) (desk (deployed bytes))
  planned_same = record {
    plain = planned_alike.plain;
    manifest = planned_alike.manifest;
    found = planned_alike.found;
    staged = planned_alike.staged;
    aside = planned_alike.aside;
    profile = no_profile;
    folders = planned_alike.folders;
    bytes = λ n named. refl;
  }

  module _ (is_intent : intent_value (bytes 4) ≡ Some (the_intent bytes)) where
    outcome_same : SameDesk (outcome (begun bytes) (file 4)) (desk (deployed bytes))
    outcome_same = subst (λ o. SameDesk (outcome_by (begun bytes) o) (desk (deployed bytes))) (sym is_intent) planned_same

    -- the intent leads to the deployment
    pub save_begun-outcome : Deployed (before bytes) wins (outcome (begun bytes) (file 4))
    save_begun-outcome = deployed-same (before bytes) (outcome (begun bytes) (file 4)) (desk (deployed bytes)) wins outcome_same (saved-deployed bytes is_text)

-- The disk is one

pub data Folder4 (q : Spot) : Type 0 where
  stage_root : root_spot Stage ≡ q → Folder4 q
  game_root : root_spot Game ≡ q → Folder4 q
  keep_root : root_spot Keep ≡ q → Folder4 q
  mod_b : mod_spot (codes "b") ≡ q → Folder4 q

pub folder4 : (q : Spot) → folders_there q ≡ true → Folder4 q
folder4 q is = elim (same_or_other q (root_spot Stage)) [
  | inl e ↦ stage_root (sym e)
  | inr one ↦ elim (same_or_other q (root_spot Game)) [
    | inl e ↦ game_root (sym e)
    | inr two ↦ elim (same_or_other q (root_spot Keep)) [
      | inl e ↦ keep_root (sym e)
      | inr three ↦ elim (same_or_other q (mod_spot (codes "b"))) [
        | inl e ↦ mod_b (sym e)
        | inr four ↦
            let off : folders_there q ≡ false = λ i. test_off q (root_spot Stage) one i || test_off q (root_spot Game) two i || test_off q (root_spot Keep) three i || test_off q (mod_spot (codes "b")) four i in
            let t : true ≡ false = sym is ∙ off in absurd (cc)
      ]
    ]
  ]
]

pub nested : (q : Spot) → Folder4 q → folders_there (parent q) ≡ true
unfolding parent spot_eq
nested q (stage_root e) = subst (λ s. folders_there (parent s) ≡ true) e refl
nested q (game_root e) = subst (λ s. folders_there (parent s) ≡ true) e refl
nested q (keep_root e) = subst (λ s. folders_there (parent s) ≡ true) e refl
nested q (mod_b e) = subst (λ s. folders_there (parent s) ≡ true) e refl

bare : (q : Spot) → Folder4 q → now_begun q ≡ none
unfolding spot_eq
bare q (stage_root e) = subst (λ s. now_begun s ≡ none) e refl
bare q (game_root e) = subst (λ s. now_begun s ≡ none) e refl
bare q (keep_root e) = subst (λ s. now_begun s ≡ none) e refl
bare q (mod_b e) = subst (λ s. now_begun s ≡ none) e refl

pub above_intent : folders_there (parent intent_spot) ≡ true
unfolding parent spot_eq
above_intent = refl

above_place : (q : Spot) → Place4 q → (v : Value) → v ≡ now_before q → v ≢ none → folders_there (parent q) ≡ true
unfolding parent spot_eq
above_place q (at_game e) v is ne = subst (λ s. folders_there (parent s) ≡ true) e refl
above_place q (at_stage e) v is ne = subst (λ s. folders_there (parent s) ≡ true) e refl
above_place q (at_backup e) v is ne = subst (λ s. folders_there (parent s) ≡ true) e refl
above_place q (elsewhere one two three) v is ne = absurd (ne (is ∙ before_off (λ n. []) q one two three))

below_five : (n k : ℕ) → file n ≡ file k → k < 5 → n < 5
below_five n k e lt = let is : n ≡ k = cc in subst (λ m. m < 5) (sym is) lt

number_at : (q : Spot) → Place4 q → (n : ℕ) → file n ≡ now_before q → n < 5
unfolding spot_eq
number_at q (at_game e) n is = below_five n 1 (is ∙ sym (ap now_before e)) (omega arith)
number_at q (at_stage e) n is = below_five n 2 (is ∙ sym (ap now_before e)) (omega arith)
number_at q (at_backup e) n is = let t : file n ≡ none = is ∙ sym (ap now_before e) in absurd (cc)
number_at q (elsewhere one two three) n is = let t : file n ≡ none = is ∙ before_off (λ m. []) q one two three in absurd (cc)

pub root_there : (r : Root) → folders_there (root_spot r) ≡ true
unfolding spot_eq
root_there Stage = refl
root_there Game = refl
root_there Keep = refl

module _ (bytes : ℕ → List ℕ) where
  begun_valid : IsValid (begun bytes)
  begun_valid = record {
    roots = root_there;
    nested = λ q is. nested q (folder4 q is);
    parents = λ q v h ne. elim (same_or_other q intent_spot) [
      | inl is ↦ subst (λ s. folders_there (parent s) ≡ true) (sym is) above_intent
      | inr other ↦ above_place q (place4 q) v (held_is bytes q v (test_off q intent_spot other) h) ne
    ];
    bare = λ q is. bare q (folder4 q is);
    numbers = λ q n h. elim (same_or_other q intent_spot) [
      | inl is ↦ intent_number n (intent_held bytes (file n) (subst (λ s. MayHold (begun bytes) s (file n)) is h))
      | inr other ↦ number_at q (place4 q) n (held_is bytes q (file n) (test_off q intent_spot other) h)
    ];
  }
    where
      intent_number : (n : ℕ) → (file n ≡ file 4) ⊎ (file n ≡ none) → n < 5
      intent_number n (inl e) = below_five n 4 e (omega arith)
      intent_number n (inr e) = absurd (cc)

  settled_but : (x : Spot) → spot_eq x intent_spot ≡ false → IsSettled (begun bytes) x
  settled_but x off v h = held_is bytes x v off h ∙ sym (λ i. if off i then file 4 else now_before x)

  game_only : HoldsOnly (begun bytes) (in_game x_name) (file 1)
  unfolding spot_eq
  game_only w h = held_is bytes (in_game x_name) w refl h

  stage_only : HoldsOnly (begun bytes) (in_stage x_staged) (file 2)
  unfolding spot_eq
  stage_only w h = held_is bytes (in_stage x_staged) w refl h

  backup_only : HoldsOnly (begun bytes) (in_game x_behind) none
  unfolding spot_eq
  backup_only w h = held_is bytes (in_game x_behind) w refl h

  game_open : IsOpen (begun bytes) (in_game x_name)
  unfolding spot_eq
  game_open = record { not_odd = λ h. let t : odd ≡ file 1 = game_only odd h in cc; no_folder = refl }

  backup_open : IsOpen (begun bytes) (in_game x_behind)
  unfolding spot_eq
  backup_open = record { not_odd = λ h. let t : odd ≡ none = backup_only odd h in cc; no_folder = refl }

  off_game : spot_eq (in_game x_name) intent_spot ≡ false
  unfolding spot_eq
  off_game = refl

  open_at : (x : Spot) → IsDestination (the_plan bytes) x ⊎ IsClear (the_plan bytes) x → IsOpen (begun bytes) x
  open_at x (inl (inl is)) = subst (IsOpen (begun bytes)) (set_to_is bytes x is) game_open
  open_at x (inl (inr is)) = subst (IsOpen (begun bytes)) (save_to_is bytes x is) backup_open
  open_at x (inr clear) = absurd (contains_none clear.place clear.listed)

  one_of_three : (x : Spot) → IsDestination (the_plan bytes) x ⊎ Has [] x → OneOfThree x
  one_of_three x (inl (inl is)) = inl (sym (set_to_is bytes x is))
  one_of_three x (inl (inr is)) = inr (inl (sym (save_to_is bytes x is)))
  one_of_three x (inr made) = absurd (contains_none made.place made.listed)

  set_stands : SetStands (begun bytes) (the_plan bytes)
  set_stands = record {
    sources = λ x is. subst (IsSettledFile (begun bytes)) (set_from_is bytes x is) (record { number = 2; only = stage_only });
    open_places = open_at;
    made = λ x made. absurd (contains_none made.place made.listed);
    parents = λ x s is below. inr (above x s (one_of_three x is) below);
    steps = inl (record {
      sets = λ x is. subst (IsSettled (begun bytes)) (set_to_is bytes x is) (settled_but (in_game x_name) off_game);
      saves = λ s c. inr (subst (λ (t : Place × Place). IsBegun (begun bytes) (spot_of t.0) (spot_of t.1)) (sym (only_one (game_place, backup_place) s c)) (record { number = 1; source = game_only; either = λ w h. inl (backup_only w h) }));
    });
    rest = λ x out no_entry. settled_but x (not_intent x no_entry);
  }

module _ (bytes : ℕ → List ℕ) (is_text : manifest_value (bytes 3) ≡ Some (the_manifest bytes)) (is_intent : intent_value (bytes 4) ≡ Some (the_intent bytes)) where
  told_begun : manifest_of (begun bytes) ≡ manifest_of (before bytes)
  unfolding spot_eq
  told_begun = refl

  -- the one plain game folder
  plain_of : (v : Value) → (v ≡ file 4) ⊎ (v ≡ none) → (outcome (begun bytes) v).plain ≡ (desk (before bytes)).plain
  plain_of v (inl is) = ap (λ u. (outcome (begun bytes) u).plain) is ∙ (outcome_same bytes is_text is_intent).plain ∙ (λ i p. plain_same bytes is_text p i)
  plain_of v (inr is) = ap (λ u. (outcome (begun bytes) u).plain) is ∙ ap (λ m. plain (rows_of m) (without_manifest now_begun)) told_begun ∙ plain-agree (rows_of (manifest_of (before bytes))) (without_manifest now_begun) (without_manifest now_before) begun_before

  intent_is : (v : Value) (intent : Intent) → (v ≡ file 4) ⊎ (v ≡ none) → intent_by bytes v ≡ Some intent → the_intent bytes ≡ intent
  intent_is v intent (inl is) told = let h : Some (the_intent bytes) ≡ Some intent = sym is_intent ∙ ap (intent_by bytes) (sym is) ∙ told in cc
  intent_is v intent (inr is) told = let h : None ≡ Some intent = ap (intent_by bytes) (sym is) ∙ told in absurd (cc)

  the_intent_stands : IntentStands (begun bytes) (the_intent bytes)
  the_intent_stands = record {
    accepted = record { rules = save_plan-passes bytes; bare = λ e. absurd (cc) };
    set_form = λ e. set_stands bytes;
    clear_form = λ e. absurd (cc);
  }

  -- the disk stands, with none and the intent as values of the intent place
  pub save_begun-stands : Standing (begun bytes)
  save_begun-stands = record {
    valid = begun_valid bytes;
    firm = λ x n h soft. absurd (cc);
    known = λ v h. elim (intent_held bytes v h) [ inl is ↦ inr (the_intent bytes, ap (intent_by bytes) is ∙ is_intent) | inr is ↦ inl is ];
    absent = λ h x no_entry. settled_but bytes x (not_intent x no_entry);
    intents = λ intent may. subst (IntentStands (begun bytes)) (intent_is may.0 intent (intent_held bytes may.0 may.1) may.2) the_intent_stands;
    one_plain = λ v w hv hw. plain_of v (intent_held bytes v hv) ∙ sym (plain_of w (intent_held bytes w hw));
    one_outcome = λ v w intent hv hw is clear. let e : phase.Set ≡ phase.Clear = ap (λ (j : Intent). j.phase) (intent_is v intent (intent_held bytes v hv) is) ∙ clear in absurd (cc);
  }

-- the plan is sound on the disk before
module _ (bytes : ℕ → List ℕ) where
  absent_behind : kind_of (before bytes) (in_game x_behind) ≡ Absent
  unfolding spot_eq
  absent_behind = refl

  file_here : kind_of (before bytes) (in_game x_name) ≡ File
  unfolding spot_eq
  file_here = refl

  is_game_file : IsFile (before bytes) (in_game x_name)
  unfolding spot_eq
  is_game_file = (1, refl)

  is_staged_file : IsFile (before bytes) (in_stage x_staged)
  unfolding spot_eq
  is_staged_file = (2, refl)

  back_is : (row : SetRow) (back : Place) → row ≡ the_set → row.back ≡ Some back → IsSaveTo (the_plan bytes) (spot_of back)
  back_is row back same is =
      let h : Some backup_place ≡ Some back = ap (λ (r : SetRow). r.back) (sym same) ∙ is in
      let e : backup_place ≡ back = cc in
      record { save = (game_place, backup_place); listed = contains_here (game_place, backup_place) []; here = ap spot_of e }

  pub save_plan-sound : SoundPlan (before bytes) (the_plan bytes)
  save_plan-sound = record {
    rules = save_plan-passes bytes;
    save_absent = λ s c. subst (λ (t : Place × Place). kind_of (before bytes) (spot_of t.1) ≡ Absent) (sym (only_one (game_place, backup_place) s c)) absent_behind;
    save_source = λ s c. subst (λ (t : Place × Place). IsFile (before bytes) (spot_of t.0)) (sym (only_one (game_place, backup_place) s c)) is_game_file;
    set_source = λ x is. subst (IsFile (before bytes)) (set_from_is bytes x is) is_staged_file;
    back_same = λ row back c is unsaved. absurd (unsaved (back_is row back (only_one the_set row c) is));
    back_none = λ row c.
        let same = only_one the_set row c in (
          λ e. let t : Some backup_place ≡ None = ap (λ (r : SetRow). r.back) (sym same) ∙ e in absurd (cc),
          λ e. let t : File ≡ Absent = sym file_here ∙ ap (λ (r : SetRow). kind_of (before bytes) (spot_of r.to)) (sym same) ∙ e in absurd (cc),
        );
    clear_used = λ x is. absurd (contains_none is.place is.listed);
    parents = λ x s is below. inl (above x s (one_of_three bytes x is) below);
    made = λ x is. absurd (contains_none is.place is.listed);
  }
