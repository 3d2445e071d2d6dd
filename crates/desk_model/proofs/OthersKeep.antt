-- A change by others keeps what Standing says, but for the outcome of a clear form.
use Rattle.std.proofs.Common.{◌≡◌, ◌⊎◌, ℕ, Bool, true, false, List, [], ◌∷◌, codes, refl, sym, ap, ◌∙◌, inl, inr, subst}
use Rattle.std.specs.List.{Contains}
use Rattle.std.specs.Str.{bytes_eq}
use Rattle.std.specs.declared.option.Option.{Option}
use Rattle.std.specs.declared.option.Option.TheVariants.{None, Some}
use Rattle.rel_paths.specs.Names.{backup_names}
use Rattle.rel_paths.specs.Controls.{control_path}
use Rattle.tree_fs.specs.declared.place.Root.TheVariants.{Game, Keep}
use Rattle.tree_fs.specs.declared.place.Place.{Place}
use Rattle.tree_fs.specs.Spot.{Spot, spot_of, IsBelow}
use Rattle.tree_fs.specs.Disk.{Disk, Value, none, file, odd, IsIn, MayHold, IsSettled, HoldsOnly}
use Rattle.manifest_json.specs.declared.manifest.Row.{Row}
use Rattle.manifest_json.specs.Manifests.{manifest_value}
use Rattle.move_plan.specs.declared.plan.SetRow.{SetRow}
use Rattle.move_plan.specs.Places.{Has, IsAt, IsDestination, IsClear}
use Rattle.intent_json.specs.declared.intent.Intent.{Intent}
use Rattle.intent_json.specs.Reads.{intent_value}
use Rattle.desk_model.specs.Places.{Names, in_game, manifest_spot, intent_spot, IsTemp}
use Rattle.desk_model.specs.Desk.{without_manifest, plain, plain_by, file_or_none}
use Rattle.desk_model.specs.Records.{recorded_by, read_as, manifest_of, rows_of, row_at, row_behind}
use Rattle.desk_model.specs.Outcome.{intent_by, set_to, save_to, is_one_of, file_at, own_or, updated, updated_by, recorded_or_none, outcome, outcome_by}
use Rattle.desk_model.specs.Standing.{IsSettledFile, IsBegun, IsOpen, SavesRun, SavesDone, SetStands, ClearStands, NoneStands, MayBe, IntentStands, Standing}
use Rattle.desk_model.specs.Mid.{IsNamedBy, IsOfRow, IsConcerned, IsIntentPlace}
use Rattle.desk_model.specs.Others.{Stays, IsLeftToOthers, Others}
use Rattle.desk_model.proofs.Spots.{control-names, path-apart}
use Rattle.desk_model.proofs.Lookups.{set_to-some, save_to-some, one_of-true, row_at-some, row_behind-some}
use Rattle.desk_model.proofs.Agreeing.{without-agree}
use Rattle.rel_paths.specs.declared.control.Control.TheVariants as control
use Rattle.desk_model.specs.Mid as named

-- Places that stay

module _ (a b : Disk) where
  stays-held : (x : Spot) (v : Value) → Stays a b x → MayHold b x v → MayHold a x v
  stays-held x v s (inl is) = inl (is ∙ s.now)
  stays-held x v s (inr h) = inr (subst (IsIn v) s.before h)

  stays-settled : (x : Spot) → Stays a b x → IsSettled a x → IsSettled b x
  stays-settled x s one v h = one v (stays-held x v s h) ∙ sym s.now

  stays-only : (x : Spot) (v : Value) → Stays a b x → HoldsOnly a x v → HoldsOnly b x v
  stays-only x v s only w h = only w (stays-held x w s h)

  stays-file : (x : Spot) → Stays a b x → IsSettledFile a x → IsSettledFile b x
  stays-file x s f = record { number = f.number; only = stays-only x (file f.number) s f.only }

  stays-begun : (from to : Spot) → Stays a b from → Stays a b to → IsBegun a from to → IsBegun b from to
  stays-begun from to s t g = record { number = g.number; source = stays-only from (file g.number) s g.source; either = λ v h. g.either v (stays-held to v t h) }

  stays-open : (x : Spot) → Stays a b x → IsOpen a x → IsOpen b x
  stays-open x s o = record { not_odd = λ h. o.not_odd (stays-held x odd s h); no_folder = s.folder ∙ o.no_folder }

intent-not_left : ¬ IsLeftToOthers intent_spot
intent-not_left (inl e) = path-apart control.Intent control.Profile refl refl e
intent-not_left (inr (inl e)) =
    let h : control_path control.Intent ∷ [] ≡ codes "aside" ∷ [] = sym (control-names control.Intent) ∙ ap (λ (s : Spot). s.names) e in
    let t : false ≡ true = ap (λ ns. bytes_eq (head_or ns) (codes "aside")) h in
    absurd (cc)
  where
    head_or : List (List ℕ) → List ℕ
    head_or [] = []
    head_or (n ∷ ns) = n
intent-not_left (inr (inr below)) =
    let h : control_path control.Intent ∷ [] ≡ codes "aside" ∷ (below.name ∷ below.rest) = sym (control-names control.Intent) ∙ below.names in
    tail_none (control_path control.Intent) (codes "aside") below.name below.rest h
  where
    tail_none : (x y n : List ℕ) (ns : List (List ℕ)) → x ∷ [] ≡ y ∷ n ∷ ns → ⊥
    tail_none x y n ns e = cc

manifest-not_left : ¬ IsLeftToOthers manifest_spot
manifest-not_left (inl e) = path-apart control.Manifest control.Profile refl refl e
manifest-not_left (inr (inl e)) = let t : Game ≡ Keep = ap (λ (s : Spot). s.root) e in cc
manifest-not_left (inr (inr below)) = let t : Game ≡ Keep = below.root in cc

module _ (a b : Disk) (standing : Standing a) (change : Others a b) where
  pub intent_stays : Stays a b intent_spot
  intent_stays = change.keep_stays intent_spot (inl (control.Intent, refl)) (inr intent-not_left)

  pub manifest_stays : Stays a b manifest_spot
  manifest_stays = change.keep_stays manifest_spot (inl (control.Manifest, refl)) (inr manifest-not_left)

  pub held_before : (v : Value) → MayHold b intent_spot v → MayHold a intent_spot v
  held_before v h = stays-held a b intent_spot v intent_stays h

  pub intent_same : (v : Value) → MayHold a intent_spot v → intent_by b.bytes v ≡ intent_by a.bytes v
  intent_same none h = refl
  intent_same odd h = refl
  intent_same (file n) h = ap intent_value (change.control_bytes intent_spot (control.Intent, refl) (inr intent-not_left) n h)

  recorded_same : (v : Value) → MayHold a manifest_spot v → recorded_by b.bytes v ≡ recorded_by a.bytes v
  recorded_same none h = refl
  recorded_same odd h = refl
  recorded_same (file n) h = ap (λ text. read_as text (manifest_value text)) (change.control_bytes manifest_spot (control.Manifest, refl) (inr manifest-not_left) n h)

  pub manifest_same : manifest_of b ≡ manifest_of a
  manifest_same = ap (recorded_by b.bytes) manifest_stays.now ∙ recorded_same (a.now manifest_spot) (inl refl)

  pub was : (intent : Intent) → MayBe b intent → MayBe a intent
  was intent may = let h = held_before may.0 may.1 in (may.0, h, sym (intent_same may.0 h) ∙ may.2)

  pub settled_still : (x : Spot) → IsSettled a x → IsSettled b x
  settled_still x one = elim (change.at_rest x) [ inl s ↦ stays-settled a b x s one | inr rest ↦ rest.settled ]

  -- the forms of a live intent
  module _ (intent : Intent) (may : MayBe a intent) where
    pub place_stays : (x : Spot) → IsNamedBy intent.plan x → Stays a b x
    place_stays x is = change.live_stays intent may x (inl (inl is))

    above_stays : (s x : Spot) → IsBelow s x → IsNamedBy intent.plan x → Stays a b s
    above_stays s x below is = change.live_stays intent may s (inr (x, below, inl is))

    destination : (x : Spot) → IsDestination intent.plan x → IsNamedBy intent.plan x
    destination x (inl is) = named.set_to is
    destination x (inr is) = named.save_to is

    saved : (s : Place × Place) → Contains intent.plan.saves s → IsNamedBy intent.plan (spot_of s.1)
    saved s c = named.save_to (record { save = s; listed = c; here = refl })

    steps_stay : SavesRun a intent.plan ⊎ SavesDone a intent.plan → SavesRun b intent.plan ⊎ SavesDone b intent.plan
    steps_stay (inl run) = inl (record {
      sets = λ x is. stays-settled a b x (place_stays x (named.set_to is)) (run.sets x is);
      saves = λ s c. elim (run.saves s c) [
        | inl done ↦ inl (stays-file a b (spot_of s.1) (place_stays (spot_of s.1) (saved s c)) done)
        | inr begun ↦ inr (stays-begun a b (spot_of s.0) (spot_of s.1) (place_stays (spot_of s.0) (named.save_from s c refl)) (place_stays (spot_of s.1) (saved s c)) begun)
      ];
    })
    steps_stay (inr done) = inr (λ x is. stays-file a b x (place_stays x (named.save_to is)) (done x is))

    named_of : (x : Spot) → IsDestination intent.plan x ⊎ IsClear intent.plan x → IsNamedBy intent.plan x
    named_of x (inl is) = destination x is
    named_of x (inr is) = named.clear is

    made_of : (x : Spot) → IsDestination intent.plan x ⊎ Has intent.plan.folders x → IsNamedBy intent.plan x
    made_of x (inl is) = destination x is
    made_of x (inr is) = named.folder is

    set_stays : SetStands a intent.plan → SetStands b intent.plan
    set_stays h = record {
      sources = λ x is. stays-file a b x (place_stays x (named.set_from is)) (h.sources x is);
      open_places = λ x is. stays-open a b x (place_stays x (named_of x is)) (h.open_places x is);
      made = λ x is. let s = place_stays x (named.folder is) in elim (h.made x is) [ inl folder ↦ inl (s.folder ∙ folder) | inr only ↦ inr (stays-only a b x none s only) ];
      parents = λ x s is below. elim (h.parents x s is below) [ inl made ↦ inl made | inr folder ↦ inr ((above_stays s x below (made_of x is)).folder ∙ folder) ];
      steps = steps_stay h.steps;
      rest = λ x out no_entry. settled_still x (h.rest x out no_entry);
    }

    clear_stays : ClearStands a intent.plan → ClearStands b intent.plan
    clear_stays h = record {
      open_places = λ x is. stays-open a b x (place_stays x (named.clear is)) (h.open_places x is);
      rest = λ x out no_manifest no_entry. settled_still x (h.rest x out no_manifest no_entry);
    }

    pub intent_still : IntentStands a intent → IntentStands b intent
    intent_still h = record { accepted = h.accepted; set_form = λ is. set_stays (h.set_form is); clear_form = λ is. clear_stays (h.clear_form is) }

    -- an update, where a place stays, and where the plan doesn't name it
    source_still : (row : SetRow) → Contains intent.plan.sets row → (from : Option Place) → row.from ≡ from → file_at b.now from ≡ file_at a.now from
    source_still row c None is = refl
    source_still row c (Some p) is = ap file_or_none (place_stays (spot_of p) (named.set_from (record { row = row; listed = c; here = subst (λ o. IsAt o (spot_of p)) (sym is) refl }))).now

    update_case : (x : Spot) → Stays a b x → (c : Bool) (s : Option SetRow) (f : Option (Place × Place)) → set_to intent.plan.sets x ≡ s → save_to intent.plan.saves x ≡ f → updated_by b.now (b.now x) c s f ≡ updated_by a.now (a.now x) c s f
    update_case x s true row save es ef = refl
    update_case x s false (Some row) save es ef = source_still row (set_to-some intent.plan.sets x row es).0 row.from refl
    update_case x s false None (Some save) es ef =
        let from = place_stays (spot_of save.0) (named.save_from save (save_to-some intent.plan.saves x save ef).0 refl) in
        λ i. own_or (s.now i) (file_or_none (from.now i))
    update_case x s false None None es ef = s.now

    pub update_stays : (x : Spot) → Stays a b x → updated intent.plan b.now x ≡ updated intent.plan a.now x
    unfolding updated
    update_stays x s = update_case x s (is_one_of intent.plan.clears x) (set_to intent.plan.sets x) (save_to intent.plan.saves x) refl refl

    quiet_case : (x : Spot) (c : Bool) (s : Option SetRow) (f : Option (Place × Place)) → is_one_of intent.plan.clears x ≡ c → set_to intent.plan.sets x ≡ s → save_to intent.plan.saves x ≡ f
        → Stays a b x ⊎ (updated_by b.now (b.now x) c s f ≡ b.now x) × (updated_by a.now (a.now x) c s f ≡ a.now x)
    quiet_case x true s f ec es ef = inl (place_stays x (named.clear (one_of-true intent.plan.clears x ec)))
    quiet_case x false (Some row) f ec es ef = let h = set_to-some intent.plan.sets x row es in inl (place_stays x (named.set_to (record { row = row; listed = h.0; here = h.1 })))
    quiet_case x false None (Some save) ec es ef = let h = save_to-some intent.plan.saves x save ef in inl (place_stays x (named.save_to (record { save = save; listed = h.0; here = h.1 })))
    quiet_case x false None None ec es ef = inr (refl, refl)

    pub update_quiet : (x : Spot) → Stays a b x ⊎ (updated intent.plan b.now x ≡ b.now x) × (updated intent.plan a.now x ≡ a.now x)
    unfolding updated
    update_quiet x = quiet_case x (is_one_of intent.plan.clears x) (set_to intent.plan.sets x) (save_to intent.plan.saves x) refl refl refl

  -- The plain game folder, by rows whose places stay

  module _ (rows : List Row) (stay : (x : Spot) → IsOfRow rows x → Stays a b x) (f g : Spot → Value) (same : (x : Spot) → Stays a b x → f x ≡ g x) where
    pub row_here : (p : Names) (r : Row) → row_at rows p ≡ Some r → Stays a b (in_game p)
    row_here p r e = let h = row_at-some rows p r e in stay (in_game p) (record { row = r; listed = h.0; here = inl (ap in_game (sym h.1)) })

    pub row_back : (p : Names) (r : Row) → row_at rows p ≡ Some r → Stays a b (in_game (backup_names p))
    row_back p r e = let h = row_at-some rows p r e in stay (in_game (backup_names p)) (record { row = r; listed = h.0; here = inr (inl (ap (λ n. in_game (backup_names n)) (sym h.1))) })

    behind_here : (p : Names) (r : Row) → row_behind rows p ≡ Some r → Stays a b (in_game p)
    behind_here p r e = let h = row_behind-some rows p r e in stay (in_game p) (record { row = r; listed = h.0; here = inr (inl (ap in_game (sym h.1))) })

    plain_case : (p : Names) → Stays a b (in_game p) → (r s : Option Row) → row_at rows p ≡ r → plain_by r s (f (in_game p)) (f (in_game (backup_names p))) ≡ plain_by r s (g (in_game p)) (g (in_game (backup_names p)))
    plain_case p here (Some r) s e = λ i. plain_by (Some r) s (same (in_game p) here i) (same (in_game (backup_names p)) (row_back p r e) i)
    plain_case p here None (Some s) e = refl
    plain_case p here None None e = same (in_game p) here

    pub plain_stays : (p : Names) → Stays a b (in_game p) → plain rows f p ≡ plain rows g p
    unfolding plain
    plain_stays p here = plain_case p here (row_at rows p) (row_behind rows p) refl

    plain_quiet_case : (p : Names) (r s : Option Row) → row_at rows p ≡ r → row_behind rows p ≡ s → Stays a b (in_game p) ⊎ (plain_by r s (f (in_game p)) (f (in_game (backup_names p))) ≡ f (in_game p))
    plain_quiet_case p (Some r) s er es = inl (row_here p r er)
    plain_quiet_case p None (Some s) er es = inl (behind_here p s es)
    plain_quiet_case p None None er es = inr refl

    pub plain_quiet : (p : Names) → Stays a b (in_game p) ⊎ (plain rows f p ≡ f (in_game p))
    unfolding plain
    plain_quiet p = plain_quiet_case p (row_at rows p) (row_behind rows p) refl refl

  -- of a value of the intent place, while some intent is live
  record PlainKept (o : Option Intent) : Type 0 where
    stays : (p : Names) → Stays a b (in_game p) → (outcome_by b o).plain p ≡ (outcome_by a o).plain p
    quiet : (p : Names) → Stays a b (in_game p) ⊎ ((outcome_by b o).plain p ≡ without_manifest b.now (in_game p))

  none_kept : (live : Intent) → MayBe a live → PlainKept None
  none_kept live may =
      let rows = rows_of (manifest_of a) in
      let of_rows = λ (x : Spot) (is : IsOfRow rows x). change.live_stays live may x (inl (inr (inr is))) in
      let same = λ (x : Spot) (s : Stays a b x). without-agree b.now a.now x (λ ne. s.now) in
      let told = λ (p : Names). ap (λ m. plain (rows_of m) (without_manifest b.now) p) manifest_same in
      record {
        stays = λ p s. told p ∙ plain_stays rows of_rows (without_manifest b.now) (without_manifest a.now) same p s;
        quiet = λ p. elim (plain_quiet rows of_rows (without_manifest b.now) (without_manifest a.now) same p) [ inl s ↦ inl s | inr is ↦ inr (told p ∙ is) ];
      }

  some_kept : (intent : Intent) → MayBe a intent → PlainKept (Some intent)
  some_kept intent may =
      let rows = rows_of (recorded_or_none intent.plan.manifest) in
      let of_rows = λ (x : Spot) (is : IsOfRow rows x). change.live_stays intent may x (inl (inr (inl is))) in
      let f = without_manifest (updated intent.plan b.now) in
      let g = without_manifest (updated intent.plan a.now) in
      let same = λ (x : Spot) (s : Stays a b x). without-agree (updated intent.plan b.now) (updated intent.plan a.now) x (λ ne. update_stays intent may x s) in
      record {
        stays = λ p s. plain_stays rows of_rows f g same p s;
        quiet = λ p. elim (plain_quiet rows of_rows f g same p) [
          | inl s ↦ inl s
          | inr is ↦ elim (update_quiet intent may (in_game p)) [ inl s ↦ inl s | inr q ↦ inr (is ∙ without-agree (updated intent.plan b.now) b.now (in_game p) (λ ne. q.0)) ]
        ];
      }

  kept_of : (live : Intent) → MayBe a live → (v : Value) → MayHold a intent_spot v → (o : Option Intent) → intent_by a.bytes v ≡ o → PlainKept o
  kept_of live may v h None is = none_kept live may
  kept_of live may v h (Some intent) is = some_kept intent (v, h, is)

  both_plain : (o p : Option Intent) → PlainKept o → PlainKept p → (outcome_by a o).plain ≡ (outcome_by a p).plain → (n : Names) → (outcome_by b o).plain n ≡ (outcome_by b p).plain n
  both_plain o p ko kp same n =
      let by_a = λ (s : Stays a b (in_game n)). ko.stays n s ∙ ap (λ f. f n) same ∙ sym (kp.stays n s) in
      elim (ko.quiet n) [
        | inl s ↦ by_a s
        | inr is ↦ elim (kp.quiet n) [ inl s ↦ by_a s | inr too ↦ is ∙ sym too ]
      ]

  one_plain_case : (v w : Value) → MayHold a intent_spot v → MayHold a intent_spot w → (o p : Option Intent) → intent_by a.bytes v ≡ o → intent_by a.bytes w ≡ p
      → (outcome_by a o).plain ≡ (outcome_by a p).plain → (outcome_by b o).plain ≡ (outcome_by b p).plain
  one_plain_case v w hv hw None None eo ep same = refl
  one_plain_case v w hv hw (Some i) p eo ep same = λ j n. both_plain (Some i) p (some_kept i (v, hv, eo)) (kept_of i (v, hv, eo) w hw p ep) same n j
  one_plain_case v w hv hw None (Some i) eo ep same = λ j n. both_plain None (Some i) (none_kept i (w, hw, ep)) (some_kept i (w, hw, ep)) same n j

  pub others-one_plain : (v w : Value) → MayHold b intent_spot v → MayHold b intent_spot w → (outcome b v).plain ≡ (outcome b w).plain
  others-one_plain v w hv hw =
      let av = held_before v hv in
      let aw = held_before w hw in
      ap (λ o. (outcome_by b o).plain) (intent_same v av)
      ∙ one_plain_case v w av aw (intent_by a.bytes v) (intent_by a.bytes w) refl refl (standing.one_plain v w av aw)
      ∙ sym (ap (λ o. (outcome_by b o).plain) (intent_same w aw))

  firm_still : (x : Spot) (n : ℕ) → MayHold b x (file n) → b.firm n ≡ false → IsTemp x
  firm_still x n h soft = elim (change.at_rest x) [
    | inl s ↦ let k = stays-held a b x (file n) s h in standing.firm x n k (elim (change.firm n) [ inl same ↦ sym same.1 ∙ soft | inr is ↦ let t : true ≡ false = sym is ∙ soft in absurd (cc) ])
    | inr rest ↦ let t : true ≡ false = sym (rest.firm n (sym (rest.settled (file n) h))) ∙ soft in absurd (cc)
  ]

  -- all but the last clause of Standing
  pub record StandsButClears : Type 0 where
    pub firm : (x : Spot) (n : ℕ) → MayHold b x (file n) → b.firm n ≡ false → IsTemp x
    pub known : (v : Value) → MayHold b intent_spot v → (v ≡ none) ⊎ ((intent : Intent) × (intent_by b.bytes v ≡ Some intent))
    pub absent : MayHold b intent_spot none → NoneStands b
    pub intents : (intent : Intent) → MayBe b intent → IntentStands b intent
    pub one_plain : (v w : Value) → MayHold b intent_spot v → MayHold b intent_spot w → (outcome b v).plain ≡ (outcome b w).plain

  pub others-keep : StandsButClears
  others-keep = record {
    firm = firm_still;
    known = λ v h. let k = held_before v h in elim (standing.known v k) [ inl gone ↦ inl gone | inr some ↦ inr (some.0, intent_same v k ∙ some.1) ];
    absent = λ h x no_entry. settled_still x (standing.absent (held_before none h) x no_entry);
    intents = λ intent may. let m = was intent may in intent_still intent m (standing.intents intent m);
    one_plain = others-one_plain;
  }
