-- Which folders go, told entry by entry: so the deepest are looked at first, and each once.
use Rattle.std.proofs.Common.{◌≡◌, ◌≢◌, ◌⊎◌, ℕ, Bool, true, false, List, [], ◌∷◌, ◌++◌, refl, sym, ap, ◌∙◌, inl, inr, subst, append_assoc}
use Rattle.std.specs.List.{Contains}
use Rattle.std.specs.Str.{bytes_eq}
use Rattle.std.proofs.lemmas.Slice.Eq.{bytes_eq-Decides}
use Rattle.tree_fs.specs.declared.place.Place.{Place}
use Rattle.tree_fs.specs.Spot.{Spot, spot_of, root_eq, below, IsBelow}
use Rattle.tree_fs.proofs.Spots.{root_eq-Decides}
use Rattle.list_laws.proofs.Containing.{contains_here, contains_there, contains_cases, contains_none}
use Rattle.move_plan.specs.declared.plan.SetRow.{SetRow}
use Rattle.tree_fs.specs.Disk.{Disk, none, IsValid}
use Rattle.tree_fs.specs.Calls.{IsFolder}
use Rattle.move_plan.specs.declared.plan.Plan.{Plan}
use Rattle.move_plan.specs.Places.{IsDestination}
use Rattle.desk_model.specs.Places.{Names, IsUsers}
use Rattle.desk_model.specs.Outcome.{updated}
use Rattle.plan_model.specs.Folders.{IsMade, IsOwnFolder, IsListed, GoesOff, EntriesGo}
use Rattle.plan_model.proofs.Values.{HasFile, file_some}
use Rattle.tree_fs.proofs.Below.{none_or_some, below-entry, below-trans, above_folder, none_below}
use Rattle.plan_model.proofs.FolderRules.{gets-destination}

-- what lies below a folder is an entry of it, or lies below one
data Under (s x : Spot) : Type 0 where
  entry : (n : List ℕ) → below s n ≡ x → Under s x
  deeper : (n : List ℕ) → IsBelow (below s n) x → Under s x

under : (s x : Spot) → IsBelow s x → Under s x
under s x b = by_rest b.rest b.names
  where
    by_rest : (rest : Names) → x.names ≡ s.names ++ b.name ∷ rest → Under s x
    by_rest [] e = entry b.name (λ i. record { root = sym b.root i; names = sym e i })
    by_rest (m ∷ ms) e = deeper b.name (record { root = b.root; name = m; rest = ms; names = e ∙ sym (append_assoc s.names (b.name ∷ []) (m ∷ ms)) })

-- whether a place lies below another
split_names : (ms ns : Names) → ((name : List ℕ) × (rest : Names) × (ns ≡ ms ++ name ∷ rest)) ⊎ ((name : List ℕ) (rest : Names) → ns ≢ ms ++ name ∷ rest)
split_names [] [] = inr (λ name rest e. cc)
split_names [] (n ∷ ns) = inl (n, ns, refl)
split_names (m ∷ ms) [] = inr (λ name rest e. cc)
split_names (m ∷ ms) (n ∷ ns) = by_both (bytes_eq n m) refl (split_names ms ns)
  where
    by_both : (b : Bool) → bytes_eq n m ≡ b → ((name : List ℕ) × (rest : Names) × (ns ≡ ms ++ name ∷ rest)) ⊎ ((name : List ℕ) (rest : Names) → ns ≢ ms ++ name ∷ rest)
        → ((name : List ℕ) × (rest : Names) × (n ∷ ns ≡ (m ∷ ms) ++ name ∷ rest)) ⊎ ((name : List ℕ) (rest : Names) → n ∷ ns ≢ (m ∷ ms) ++ name ∷ rest)
    by_both true t (inl h) = inl (h.0, h.1, λ i. (bytes_eq-Decides n m).0 t i ∷ h.2 i)
    by_both true t (inr never) = inr (λ name rest e. never name rest (let u : ns ≡ ms ++ name ∷ rest = cc in u))
    by_both false t h = inr (λ name rest e. let u : n ≡ m = cc in let f : true ≡ false = sym ((bytes_eq-Decides n m).1 u) ∙ t in cc)

below_or : (e x : Spot) → IsBelow e x ⊎ (IsBelow e x → ⊥)
below_or e x = by_both (root_eq x.root e.root) refl (split_names e.names x.names)
  where
    by_both : (b : Bool) → root_eq x.root e.root ≡ b → ((name : List ℕ) × (rest : Names) × (x.names ≡ e.names ++ name ∷ rest)) ⊎ ((name : List ℕ) (rest : Names) → x.names ≢ e.names ++ name ∷ rest) → IsBelow e x ⊎ (IsBelow e x → ⊥)
    by_both true t (inl h) = inl (record { root = (root_eq-Decides x.root e.root).0 t; name = h.0; rest = h.1; names = h.2 })
    by_both true t (inr never) = inr (λ b. never b.name b.rest b.names)
    by_both false t h = inr (λ b. let f : true ≡ false = sym ((root_eq-Decides x.root e.root).1 b.root) ∙ t in cc)

any_below : {X : Type 0} (to : X → Spot) (e : Spot) (xs : List X) → ((x : X) × Contains xs x × IsBelow e (to x)) ⊎ ((x : X) → Contains xs x → ¬ IsBelow e (to x))
any_below to e [] = inr (λ x c b. contains_none x c)
any_below to e (y ∷ ys) = elim (below_or e (to y)) [
  | inl b ↦ inl (y, contains_here y ys, b)
  | inr off ↦ elim (any_below to e ys) [
    | inl h ↦ inl (h.0, contains_there y h.0 ys h.1, h.2)
    | inr none_of ↦ inr (λ x c b. elim (contains_cases y x ys c) [ inl is ↦ off (subst (λ z. IsBelow e (to z)) is b) | inr there ↦ none_of x there b ])
  ]
]

module _ (a : Disk) (own : List (List ℕ)) (valid : IsValid a) (plan : Plan) where
  -- an entry is a folder, or made, or neither
  pub data Becomes (e : Spot) : Type 0 where
    there : IsFolder a e → Becomes e
    made : IsMade a plan e → Becomes e
    nothing : a.folders e ≡ false → ¬ IsMade a plan e → Becomes e

  pub value_below : (e x : Spot) → a.folders e ≡ false → ¬ IsMade a plan e → IsBelow e x → updated plan a.now x ≡ none
  value_below e x missing unmade b = elim (none_or_some (updated plan a.now x)) [
    | inl is ↦ is
    | inr ne ↦ absurd (unmade (record { missing = missing; place = x; to = gets-destination plan a.now x (none_below a valid e x b missing) ne; below = b }))
  ]

  pub folder_below : (e x : Spot) → a.folders e ≡ false → ¬ IsMade a plan e → IsBelow e x → IsFolder a x ⊎ IsMade a plan x → ⊥
  folder_below e x missing unmade b (inl is) = let t : true ≡ false = sym (above_folder a valid e x b is) ∙ missing in cc
  folder_below e x missing unmade b (inr h) = unmade (record { missing = missing; place = h.place; to = h.to; below = below-trans e x h.place b h.below })

  -- a folder that goes has only entries that go or hold nothing
  pub goes_entries : (s : Spot) → GoesOff a own plan s → EntriesGo a own plan s
  goes_entries s g = record {
    listed = g.listed;
    no_value = λ n. g.no_value (below s n) (below-entry s n);
    goes = λ n is. record {
      listed = g.no_folder (below s n) (below-entry s n) is;
      no_value = λ x b. g.no_value x (below-trans s (below s n) x (below-entry s n) b);
      no_folder = λ x b there. g.no_folder x (below-trans s (below s n) x (below-entry s n) b) there;
    };
  }

  -- a set or save below a place
  made_by : (e : Spot) → a.folders e ≡ false → Becomes e
  made_by e missing = elim (any_below (λ (r : SetRow). spot_of r.to) e plan.sets) [
    | inl h ↦ made (record { missing = missing; place = spot_of h.0.to; to = inl (record { row = h.0; listed = h.1; here = refl }); below = h.2 })
    | inr unset ↦ elim (any_below (λ (s : Place × Place). spot_of s.1) e plan.saves) [
      | inl h ↦ made (record { missing = missing; place = spot_of h.0.1; to = inr (record { save = h.0; listed = h.1; here = refl }); below = h.2 })
      | inr unsaved ↦ nothing missing (neither unset unsaved)
    ]
  ]
    where
      neither : ((r : SetRow) → Contains plan.sets r → ¬ IsBelow e (spot_of r.to)) → ((s : Place × Place) → Contains plan.saves s → ¬ IsBelow e (spot_of s.1)) → IsMade a plan e → ⊥
      neither unset unsaved h = by_to h.to h.below
        where
          by_to : IsDestination plan h.place → IsBelow e h.place → ⊥
          by_to (inl t) b = unset t.row t.listed (subst (IsBelow e) (sym t.here) b)
          by_to (inr t) b = unsaved t.save t.listed (subst (IsBelow e) (sym t.here) b)

  decides : (e : Spot) → Becomes e
  decides e = by_test (a.folders e) refl
    where
      by_test : (b : Bool) → a.folders e ≡ b → Becomes e
      by_test true is = there is
      by_test false is = made_by e is

  -- and a folder whose entries do goes
  values : (s : Spot) → EntriesGo a own plan s → (x : Spot) → Under s x → updated plan a.now x ≡ none
  values s h x (entry n is) = ap (updated plan a.now) (sym is) ∙ h.no_value n
  values s h x (deeper n b) = elim (decides (below s n)) [
    | there is ↦ (h.goes n (inl is)).no_value x b
    | made is ↦ (h.goes n (inr is)).no_value x b
    | nothing missing unmade ↦ value_below (below s n) x missing unmade b
  ]

  folders : (s : Spot) → EntriesGo a own plan s → (x : Spot) → Under s x → IsFolder a x ⊎ IsMade a plan x → IsListed a own plan x
  folders s h x (entry n is) f = subst (IsListed a own plan) is (h.goes n (subst (λ y. IsFolder a y ⊎ IsMade a plan y) (sym is) f)).listed
  folders s h x (deeper n b) f = elim (decides (below s n)) [
    | there is ↦ (h.goes n (inl is)).no_folder x b f
    | made is ↦ (h.goes n (inr is)).no_folder x b f
    | nothing missing unmade ↦ absurd (folder_below (below s n) x missing unmade b f)
  ]

  pub entries_goes : (s : Spot) → EntriesGo a own plan s → GoesOff a own plan s
  entries_goes s h = record {
    listed = h.listed;
    no_value = λ x b. values s h x (under s x b);
    no_folder = λ x b f. folders s h x (under s x b) f;
  }

  -- where each destination of an empty place gets a file, a made folder stays: only old own folders go
  pub made_stays : ((x : Spot) → IsUsers x.root → IsDestination plan x → a.now x ≡ none → HasFile (updated plan a.now x)) → (s : Spot) → IsUsers s.root → IsMade a plan s → ¬ GoesOff a own plan s
  made_stays gets s users h g =
      file_some (updated plan a.now h.place) (gets h.place (subst IsUsers (sym h.below.root) users) h.to (none_below a valid s h.place h.below h.missing)) (g.no_value h.place h.below)

  pub only_own : ((x : Spot) → IsUsers x.root → IsDestination plan x → a.now x ≡ none → HasFile (updated plan a.now x)) → (s : Spot) → GoesOff a own plan s → IsOwnFolder a own s
  only_own gets s g = by_case g.listed
    where
      by_case : IsListed a own plan s → IsOwnFolder a own s
      by_case (inl is) = is
      by_case (inr h) = absurd (made_stays gets s (subst IsUsers (sym h.0) tt) h.1 g)
