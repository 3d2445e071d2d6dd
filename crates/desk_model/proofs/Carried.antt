-- Along a history the plain game folder is what the user left: stops don't change it, and others change it as `carry` says.
use Rattle.std.proofs.Common.{◌≡◌, ◌≢◌, Bool, true, false, if◌then◌else◌, [], refl, sym, ap, ◌∙◌, inl, inr, subst, append-nil}
use Rattle.std.proofs.lemmas.Bool.Decides.{Decides-eqb}
use Rattle.std.specs.declared.option.Option.{Option}
use Rattle.std.specs.declared.option.Option.TheVariants.{None, Some}
use Rattle.rel_paths.specs.Names.{backup_names}
use Rattle.tree_fs.specs.Spot.{Spot}
use Rattle.tree_fs.specs.Disk.{Disk, Value, none, file, odd, Image, after_all}
use Rattle.tree_fs.proofs.Spots.{spot_eq_tells}
use Rattle.manifest_json.specs.declared.manifest.Row.{Row}
use Rattle.intent_json.specs.declared.intent.Intent.{Intent}
use Rattle.desk_model.specs.Places.{Names, in_game, manifest_spot, intent_spot}
use Rattle.desk_model.specs.Desk.{without_manifest, plain, plain_by, file_or_none}
use Rattle.desk_model.specs.Records.{manifest_of, rows_of, row_at, row_behind}
use Rattle.desk_model.specs.Outcome.{intent_by, updated, recorded_or_none, outcome, outcome_by, outcome_now}
use Rattle.desk_model.specs.Standing.{MayBe, Standing, AtRest, OffAgrees, Invariant}
use Rattle.desk_model.specs.Others.{Stays, Others, is_same, carried, carry_by, carry}
use Rattle.desk_model.specs.History.{begins, called, stopped_in_call, stopped_between, changed, HistoriesFollow}
use Rattle.desk_model.proofs.Agreeing.{without-agree}
use Rattle.tree_fs.proofs.Fewer.{image-fewer}
use Rattle.desk_model.proofs.Outcomes.{outcome-alike, intent_same as fewer_intent}
use Rattle.desk_model.proofs.OthersStand.{others-standing}
use Rattle.tree_fs.proofs.Disks.{MayHold-settled}
use Rattle.desk_model.proofs.Kept.{image-standing, at_rest-standing}
use Rattle.desk_model.proofs.OthersKeep.{was, intent_stays, manifest_stays, manifest_same, intent_same, row_back, update_stays, update_quiet}

-- a stop keeps the plain game folder
pub image-plain : (d i : Disk) → Standing d → Image d i → (outcome_now i).plain ≡ (outcome_now d).plain
image-plain d i standing image =
    let less = image-fewer d i standing.valid image in
    let held = less.within intent_spot (i.now intent_spot) (inl refl) in
    (outcome-alike i d less standing (i.now intent_spot) held).plain ∙ standing.one_plain (i.now intent_spot) (d.now intent_spot) held (inl refl)

same_itself : (v : Value) → is_same v v ≡ true
same_itself none = refl
same_itself odd = refl
same_itself (file n) = (Decides-eqb n n).1 refl

same_true : (v w : Value) → is_same v w ≡ true → v ≡ w
same_true none none e = refl
same_true odd odd e = refl
same_true (file m) (file n) e = ap file ((Decides-eqb m n).0 e)
same_true none odd e = absurd (cc)
same_true none (file n) e = absurd (cc)
same_true odd none e = absurd (cc)
same_true odd (file n) e = absurd (cc)
same_true (file m) none e = absurd (cc)
same_true (file m) odd e = absurd (cc)

-- what is carried is x where that is so in both cases
carried_is : (was now so_far there x : Value) → (was ≡ now → so_far ≡ x) → (was ≢ now → there ≡ x) → carried was now so_far there ≡ x
carried_is was now so_far there x keeps other = by_test (is_same was now) refl
  where
    by_test : (b : Bool) → is_same was now ≡ b → (if b then so_far else there) ≡ x
    by_test true e = keeps (same_true was now e)
    by_test false e = other (λ is. let t : true ≡ false = sym (same_itself was) ∙ ap (is_same was) is ∙ e in cc)

module _ (a b : Disk) (standing : Standing a) (change : Others a b) where
  same_without : (x : Spot) → a.now x ≡ b.now x → without_manifest a.now x ≡ without_manifest b.now x
  same_without x is = without-agree a.now b.now x (λ ne. is)

  -- where a place changed it isn't the manifest's
  changed_without : (x : Spot) → a.now x ≢ b.now x → b.now x ≡ without_manifest b.now x
  unfolding without_manifest
  changed_without x ne = elim (spot_eq_tells x manifest_spot) [
    | inl s ↦ absurd (ne (ap a.now s.1 ∙ sym (manifest_stays a b standing change).now ∙ ap b.now (sym s.1)))
    | inr s ↦ sym (λ i. if s.0 i then none else b.now x)
  ]

  -- where no intent is the present value
  none_case : (p : Names) (r s : Option Row) →
      carry_by a b (λ q. plain_by r s (without_manifest a.now (in_game q)) (without_manifest a.now (in_game (backup_names q)))) p r s ≡ plain_by r s (without_manifest b.now (in_game p)) (without_manifest b.now (in_game (backup_names p)))
  none_case p (Some r) s = by_shadow r.shadowed
    where
      by_shadow : (t : Bool) → (if t then carried (a.now (in_game (backup_names p))) (b.now (in_game (backup_names p))) (if t then file_or_none (without_manifest a.now (in_game (backup_names p))) else none) (file_or_none (b.now (in_game (backup_names p)))) else (if t then file_or_none (without_manifest a.now (in_game (backup_names p))) else none)) ≡ (if t then file_or_none (without_manifest b.now (in_game (backup_names p))) else none)
      by_shadow false = refl
      by_shadow true = carried_is _ _ _ _ _
          (λ is. ap file_or_none (same_without (in_game (backup_names p)) is))
          (λ ne. ap file_or_none (changed_without (in_game (backup_names p)) ne))
  none_case p None (Some s) = refl
  none_case p None None = carried_is _ _ _ _ _ (λ is. same_without (in_game p) is) (λ ne. changed_without (in_game p) ne)

  -- where an intent is the present value, and live
  some_case : (intent : Intent) → MayBe a intent → (p : Names) (r s : Option Row) → row_at (rows_of (recorded_or_none intent.plan.manifest)) p ≡ r → row_behind (rows_of (recorded_or_none intent.plan.manifest)) p ≡ s →
      carry_by a b (λ q. plain_by r s (without_manifest (updated intent.plan a.now) (in_game q)) (without_manifest (updated intent.plan a.now) (in_game (backup_names q)))) p r s
      ≡ plain_by r s (without_manifest (updated intent.plan b.now) (in_game p)) (without_manifest (updated intent.plan b.now) (in_game (backup_names p)))
  some_case intent may p (Some r) s er es = by_shadow r.shadowed
    where
      back : Stays a b (in_game (backup_names p))
      back = row_back a b standing change (rows_of (recorded_or_none intent.plan.manifest)) (λ x is. change.live_stays intent may x (inl (inr (inl is)))) b.now a.now (λ x s. s.now) p r er

      by_shadow : (t : Bool) → (if t then carried (a.now (in_game (backup_names p))) (b.now (in_game (backup_names p))) (if t then file_or_none (without_manifest (updated intent.plan a.now) (in_game (backup_names p))) else none) (file_or_none (b.now (in_game (backup_names p)))) else (if t then file_or_none (without_manifest (updated intent.plan a.now) (in_game (backup_names p))) else none)) ≡ (if t then file_or_none (without_manifest (updated intent.plan b.now) (in_game (backup_names p))) else none)
      by_shadow false = refl
      by_shadow true = carried_is _ _ _ _ _
          (λ is. ap file_or_none (without-agree (updated intent.plan a.now) (updated intent.plan b.now) (in_game (backup_names p)) (λ ne. sym (update_stays a b standing change intent may (in_game (backup_names p)) back))))
          (λ ne. absurd (ne (sym back.now)))
  some_case intent may p None (Some s) er es = refl
  some_case intent may p None None er es = elim (update_quiet a b standing change intent may (in_game p)) [
    | inl stays ↦ carried_is _ _ _ _ _
        (λ is. without-agree (updated intent.plan a.now) (updated intent.plan b.now) (in_game p) (λ ne. sym (update_stays a b standing change intent may (in_game p) stays)))
        (λ ne. absurd (ne (sym stays.now)))
    | inr quiet ↦ carried_is _ _ _ _ _
        (λ is. without-agree (updated intent.plan a.now) (updated intent.plan b.now) (in_game p) (λ ne. quiet.1 ∙ is ∙ sym quiet.0))
        (λ ne. changed_without (in_game p) ne ∙ without-agree b.now (updated intent.plan b.now) (in_game p) (λ m. sym quiet.0))
  ]

  carry_case : (o : Option Intent) → ((intent : Intent) → o ≡ Some intent → MayBe a intent) → (p : Names) →
      carry_by a b (outcome_by a o).plain p (row_at (rows_of (outcome_by a o).manifest) p) (row_behind (rows_of (outcome_by a o).manifest) p) ≡ (outcome_by b o).plain p
  unfolding plain
  carry_case None live p =
      none_case p (row_at (rows_of (manifest_of a)) p) (row_behind (rows_of (manifest_of a)) p)
      ∙ sym (ap (λ m. plain_by (row_at (rows_of m) p) (row_behind (rows_of m) p) (without_manifest b.now (in_game p)) (without_manifest b.now (in_game (backup_names p)))) (manifest_same a b standing change))
  carry_case (Some intent) live p = some_case intent (live intent refl) p _ _ refl refl

  -- after a change by others the plain game folder is what was carried
  pub others-carry : (p : Names) → carry a b (outcome_now a).plain p ≡ (outcome_now b).plain p
  others-carry p =
      carry_case (intent_by a.bytes (a.now intent_spot)) (λ intent is. (a.now intent_spot, inl refl, is)) p
      ∙ ap (λ o. (outcome_by b o).plain p) (sym (intent_same a b standing change (a.now intent_spot) (inl refl)) ∙ ap (intent_by b.bytes) (sym (intent_stays a b standing change).now))

-- Histories

pub image-agrees : (d i : Disk) → Standing d → Image d i → OffAgrees d → OffAgrees i
image-agrees d i standing image agrees clear other mc mo is = agrees clear other (was_held clear mc) (was_held other mo) is
  where
    was_held : (intent : Intent) → MayBe i intent → MayBe d intent
    was_held intent may =
        let less = image-fewer d i standing.valid image in
        let held = less.within intent_spot may.0 may.1 in
        (may.0, held, sym (fewer_intent i d less standing.firm may.0 held) ∙ may.2)

pub others-agree : (a b : Disk) → Standing a → Others a b → OffAgrees a → OffAgrees b
others-agree a b standing change agrees clear other mc mo is = agrees clear other (was a b standing change clear mc) (was a b standing change other mo) is

rest-agrees : (d : Disk) → AtRest d → OffAgrees d
rest-agrees d rest clear other mc mo is = absurd (none_told (intent_by d.bytes) mc.0 clear (MayHold-settled d intent_spot mc.0 (rest.settled intent_spot) mc.1 ∙ rest.no_intent) refl mc.2)
  where
    none_told : (told : Value → Option Intent) (v : Value) (intent : Intent) → v ≡ none → told none ≡ None → told v ≡ Some intent → ⊥
    none_told told v intent gone is_none some = let t : None ≡ Some intent = sym is_none ∙ ap told (sym gone) ∙ some in absurd (cc)

pub image-invariant : (d left : Disk) → Invariant d → Image d left → Invariant left
image-invariant d i at image = record {
  standing = image-standing d i at.standing image;
  off = image-agrees d i at.standing image at.off;
}

pub others-invariant : (a b : Disk) → Invariant a → Others a b → Invariant b
others-invariant a b at change = record {
  standing = others-standing a b at.standing change at.off;
  off = others-agree a b at.standing change at.off;
}

pub rest-invariant : (d : Disk) → AtRest d → Invariant d
rest-invariant d rest = record { standing = at_rest-standing d rest; off = rest-agrees d rest }

-- where each call keeps it, this holds along every history
pub history-follows : HistoriesFollow
history-follows Runs calls _ (begins d rest) = record {
  invariant = rest-invariant d rest;
  plain = ap (λ v. (outcome d v).plain) rest.no_intent;
}
history-follows Runs calls _ (called a h ops runs) =
    let so_far = history-follows Runs calls a h in
    let kept = calls a ops [] so_far.invariant (subst (Runs a) (sym (append-nil ops)) runs) in
    record { invariant = kept.invariant; plain = kept.plain ∙ so_far.plain }
history-follows Runs calls _ (stopped_in_call a h ops more runs i image) =
    let so_far = history-follows Runs calls a h in
    let kept = calls a ops more so_far.invariant runs in
    record {
      invariant = image-invariant (after_all a ops) i kept.invariant image;
      plain = image-plain (after_all a ops) i kept.invariant.standing image ∙ kept.plain ∙ so_far.plain;
    }
history-follows Runs calls _ (stopped_between a h i image) =
    let so_far = history-follows Runs calls a h in
    record {
      invariant = image-invariant a i so_far.invariant image;
      plain = image-plain a i so_far.invariant.standing image ∙ so_far.plain;
    }
history-follows Runs calls _ (changed a h b change) =
    let so_far = history-follows Runs calls a h in
    record {
      invariant = others-invariant a b so_far.invariant change;
      plain = (λ i p. sym (others-carry a b so_far.invariant.standing change p) i) ∙ ap (carry a b) so_far.plain;
    }
