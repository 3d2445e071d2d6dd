-- Look-ups by mod and source, and what they make of a deployment and a settlement.
use Rattle.std.proofs.Common.{◌≡◌, ◌≢◌, ◌⊎◌, ℕ, Bool, true, false, if◌then◌else◌, List, [], ◌∷◌, refl, sym, ap, ◌∙◌, inl, inr, subst, append-nil}
use Rattle.std.specs.List.{Contains}
use Rattle.std.specs.Str.{bytes_eq}
use Rattle.std.specs.declared.option.Option.{Option}
use Rattle.std.specs.declared.option.Option.TheVariants.{None, Some}
use Rattle.std.proofs.lemmas.Slice.Eq.{bytes_eq-Decides}
use Rattle.rel_paths.specs.Names.{names_of}
use Rattle.rel_paths.proofs.Truths.{both, joint}
use Rattle.tree_fs.specs.Spot.{Spot, spot_eq, IsBelow}
use Rattle.tree_fs.specs.Places.{game_spot, staged_spot}
use Rattle.tree_fs.specs.Disk.{Disk}
use Rattle.tree_fs.proofs.Lists.{all_item, contains_here, contains_there, contains_cases, contains_none}
use Rattle.manifest_json.specs.declared.manifest.Row.{Row}
use Rattle.manifest_json.specs.Apart.{HasApartPaths, HaveApartSources, HasApartSources, AreApart}
use Rattle.move_plan.specs.declared.plan.Plan.{Plan}
use Rattle.intent_json.specs.declared.intent.Intent.{Intent}
use Rattle.desk_model.specs.Places.{Names, names_eq, in_stage, in_aside}
use Rattle.desk_model.specs.Desk.{without_manifest, desk}
use Rattle.desk_model.specs.Records.{rows_of, row_at, rows_on, staged_names, row_staged}
use Rattle.desk_model.specs.Deployed.{Win, still_wins, made_row, row_by, won_row}
use Rattle.desk_model.specs.Settled.{deed_of, restages, settled_staged, set_aside, settled_aside, sets_staged_aside}
use Rattle.backup_keep.specs.Origins.{origin_of}
use Rattle.desk_model.specs.Outcome.{recorded_or_none}
use Rattle.desk_model.specs.Standing.{MayBe}
use Rattle.desk_model.specs.Mid.{IsIntentPlace}
use Rattle.desk_model.specs.Others.{Stays, Others}
use Rattle.desk_model.specs.Laws.{SettledRestages}
use Rattle.backup_keep.specs.Places.{aside_spot}
use Rattle.backup_keep.proofs.Kept.{origin_of-aside}
use Rattle.list_laws.proofs.Texts.{names_eq_tells}
use Rattle.change_detect.specs.Classes.{staged_of}

-- the row of a staged place is one of the rows, and that is its place
pub row_staged-some : (rows : List Row) (p : Names) (r : Row) → row_staged rows p ≡ Some r → Contains rows r × (staged_names r ≡ p)
unfolding row_staged
row_staged-some [] p r e = absurd (cc)
row_staged-some (s ∷ ss) p r e = elim (names_eq_tells (staged_names s) p) [
  | inl t ↦ let h : s ≡ r = here (names_eq (staged_names s) p) t.0 e in (subst (λ c. Contains (s ∷ ss) c) h (contains_here s ss), ap staged_names (sym h) ∙ t.1)
  | inr t ↦ let rest = row_staged-some ss p r (later (names_eq (staged_names s) p) t.0 e) in (contains_there s r ss rest.0, rest.1)
]
  where
    here : (b : Bool) → b ≡ true → (if b then Some s else row_staged ss p) ≡ Some r → s ≡ r
    here true is h = cc
    here false is h = absurd (cc)

    later : (b : Bool) → b ≡ false → (if b then Some s else row_staged ss p) ≡ Some r → row_staged ss p ≡ Some r
    later false is h = h
    later true is h = absurd (cc)

-- two rows with sources apart don't have one staged place
same_staged : (r s : Row) → HaveApartSources r s → staged_names r ≢ staged_names s
same_staged r s apart e =
    let id : r.mod_id ≡ s.mod_id = cc in
    let names : names_of r.source ≡ names_of s.source = cc in
    (apart id).0 (record { rest = []; names = names ∙ sym (append-nil (names_of s.source)) })

-- nor does the one lie below the other
pub staged-apart : (r s : Row) → HaveApartSources r s → (staged_of r ≢ staged_of s) × (¬ IsBelow (staged_of r) (staged_of s)) × (¬ IsBelow (staged_of s) (staged_of r))
staged-apart r s apart = (
  λ e. same_staged r s apart (ap (λ (x : Spot). x.names) e),
  λ b. let id : r.mod_id ≡ s.mod_id = sym (first _ _ _ _ b.names) in (apart id).1 (record { rest = b.name ∷ b.rest; names = rest_of _ _ _ _ b.names }),
  λ b. (apart (first _ _ _ _ b.names)).0 (record { rest = b.name ∷ b.rest; names = rest_of _ _ _ _ b.names }),
)
  where
    first : (x y : List ℕ) (xs ys : Names) → x ∷ xs ≡ y ∷ ys → x ≡ y
    first x y xs ys e = cc

    rest_of : (x y : List ℕ) (xs ys : Names) → x ∷ xs ≡ y ∷ ys → xs ≡ ys
    rest_of x y xs ys e = cc

-- so each row is found by its mod and source
pub row_staged-right : (rows : List Row) (r : Row) → HasApartSources rows → Contains rows r → row_staged rows (staged_names r) ≡ Some r
unfolding row_staged
row_staged-right [] r apart c = absurd (contains_none r c)
row_staged-right (s ∷ ss) r apart c = elim (names_eq_tells (staged_names s) (staged_names r)) [
  | inl t ↦ (λ i. if t.0 i then Some s else row_staged ss (staged_names r)) ∙ elim (contains_cases s r ss c) [
    | inl is ↦ ap Some (sym is)
    | inr there ↦ absurd (same_staged s r (all_item (HaveApartSources s) ss r apart.0 there) t.1)
  ]
  | inr t ↦ (λ i. if t.0 i then Some s else row_staged ss (staged_names r)) ∙ elim (contains_cases s r ss c) [
    | inl is ↦ absurd (t.1 (ap staged_names (sym is)))
    | inr there ↦ row_staged-right ss r apart.1 there
  ]
]

-- and by its path
pub row_at-right : (rows : List Row) (r : Row) → HasApartPaths rows → Contains rows r → row_at rows (names_of r.path) ≡ Some r
unfolding row_at
row_at-right [] r apart c = absurd (contains_none r c)
row_at-right (s ∷ ss) r apart c = elim (names_eq_tells (names_of s.path) (names_of r.path)) [
  | inl t ↦ (λ i. if t.0 i then Some s else row_at ss (names_of r.path)) ∙ elim (contains_cases s r ss c) [
    | inl is ↦ ap Some (sym is)
    | inr there ↦ absurd ((all_item (λ (o : Row). AreApart s.path o.path) ss r apart.0 there).0 (record { rest = []; names = t.1 ∙ sym (append-nil (names_of r.path)) }))
  ]
  | inr t ↦ (λ i. if t.0 i then Some s else row_at ss (names_of r.path)) ∙ elim (contains_cases s r ss c) [
    | inl is ↦ absurd (t.1 (ap (λ (o : Row). names_of o.path) (sym is)))
    | inr there ↦ row_at-right ss r apart.1 there
  ]
]

-- Deployed: a row is kept whole just where its mod still wins from the same source

pub row_by-kept : (a : Disk) (w : Win) (r : Row) → r.mod_id ≡ w.mod_id → r.source ≡ w.source → row_by a w (Some r) ≡ r
row_by-kept a w r id source =
    let t : still_wins r w ≡ true = joint _ _ ((bytes_eq-Decides r.mod_id w.mod_id).1 id) ((bytes_eq-Decides r.source w.source).1 source) in
    λ i. if t i then r else made_row a w r.shadowed

pub row_by-moved : (a : Disk) (w : Win) (r : Row) → r.source ≢ w.source → row_by a w (Some r) ≡ made_row a w r.shadowed
row_by-moved a w r ne = by_test (still_wins r w) refl
  where
    by_test : (t : Bool) → still_wins r w ≡ t → (if t then r else made_row a w r.shadowed) ≡ made_row a w r.shadowed
    by_test false e = refl
    by_test true e = absurd (ne ((bytes_eq-Decides r.source w.source).0 (both (bytes_eq r.mod_id w.mod_id) _ e).1))

-- and the file found at a row is the row's own staged file
pub won_row-staged : (a : Disk) (w : Win) → staged_of (won_row a w) ≡ staged_spot w.mod_id w.source
won_row-staged a w = by_row (row_at (rows_on a) (names_of w.path))
  where
    by_test : (r : Row) (t : Bool) → still_wins r w ≡ t → staged_of (if t then r else made_row a w r.shadowed) ≡ staged_spot w.mod_id w.source
    by_test r false e = refl
    by_test r true e =
        let h = both (bytes_eq r.mod_id w.mod_id) _ e in
        let id = (bytes_eq-Decides r.mod_id w.mod_id).0 h.0 in
        let source = (bytes_eq-Decides r.source w.source).0 h.1 in
        λ i. staged_spot (id i) (source i)

    by_row : (o : Option Row) → staged_of (row_by a w o) ≡ staged_spot w.mod_id w.source
    by_row None = refl
    by_row (Some r) = by_test r (still_wins r w) refl

-- Settled

pub in_desk : (a : Disk) (p : Names) → (desk a).staged p ≡ a.now (in_stage p)
unfolding without_manifest spot_eq
in_desk a p = refl

-- the place below the aside folder that keeps a row's staged file
pub kept_staged : (n : ℕ) (r : Row) (p : Names) → in_aside p ≡ aside_spot n (staged_of r) → origin_of n (in_aside p) ≡ Some (staged_of r)
kept_staged n r p e = ap (origin_of n) e ∙ origin_of-aside n (staged_of r)

pub settled-restages : SettledRestages
settled-restages a b choice apart h r c = record {
  staged = h.staged (staged_names r) ∙ ap (settled_staged choice a ((desk a).staged (staged_names r))) found ∙ ap (λ v. if restages (deed_of choice a r) then a.now (game_spot r.path) else v) (in_desk a (staged_names r));
  aside = λ n next goes p e.
      let there = (desk a).aside p in
      h.aside n next p ∙ ap (settled_aside choice a there) (kept_staged n r p e)
      ∙ ap (set_aside a (λ s. sets_staged_aside (deed_of choice a s)) (in_stage (staged_names r)) there) found
      ∙ (λ i. if goes i then a.now (staged_of r) else there);
}
  where
    found : row_staged (rows_on a) (staged_names r) ≡ Some r
    found = row_staged-right (rows_on a) r apart c

-- Live intents

-- the staged place of a row is a place of each intent, and others leave it alone while one is live
pub staged-intent_place : (a : Disk) (plan : Plan) (r : Row) → Contains (rows_on a) r ⊎ Contains (rows_of (recorded_or_none plan.manifest)) r → IsIntentPlace a plan (staged_spot r.mod_id r.source)
staged-intent_place a plan r (inl c) = inl (inr (inr (record { row = r; listed = c; here = inr (inr refl) })))
staged-intent_place a plan r (inr c) = inl (inr (inl (record { row = r; listed = c; here = inr (inr refl) })))

pub others-leave_staged : (a b : Disk) (intent : Intent) → Others a b → MayBe a intent → (r : Row) → Contains (rows_on a) r ⊎ Contains (rows_of (recorded_or_none intent.plan.manifest)) r → Stays a b (staged_spot r.mod_id r.source)
others-leave_staged a b intent o may r c = o.live_stays intent may (staged_spot r.mod_id r.source) (staged-intent_place a intent.plan r c)
