-- The files of the enabled mods, each where it is deployed.
use Rattle.std.proofs.Common.{◌≡◌, ℕ, zero, suc, ◌+◌, ◌<◌, true, false, List, [], ◌∷◌, ◌++◌, map, length, take, get_or, refl, sym, ap, ◌∙◌, subst, inl, inr, arith, append-nil, take_all}
use Rattle.std.specs.Prelude.{slice_get}
use Rattle.std.specs.List.{AllByRecursion}
use Rattle.std.specs.declared.option.Option.{Option}
use Rattle.std.specs.declared.option.Option.TheVariants.{Some}
use Rattle.std.specs.declared.result.Result.TheVariants.{Ok}
use Rattle.std.proofs.lemmas.Bool.{cases_lt}
use Rattle.std.proofs.lemmas.List.{map-append, length-append, length-map}
use Rattle.rel_paths.specs.Names.{IsFreePath}
use Rattle.tree_fs.specs.Story.{Story, disk_of}
use Rattle.list_laws.proofs.Lists.{one_more}
use Rattle.profile_toml.specs.Records.{ProfileData, ModData}
use Rattle.mod_rules.specs.Nodes.{enabled_of, nodes_of}
use Rattle.stage_scan.specs.declared.scan.Scan.{Scan}
use Rattle.stage_scan.specs.declared.placed.Placed.{Placed}
use Rattle.stage_scan.specs.declared.placed.Sources.{Sources}
use Rattle.stage_scan.specs.Placed.{target, HasUserTarget, IsPlaced}
use Rattle.deploy_plan.specs.Sources.{AreItsSources, AreSources}
use Rattle.command_steps.specs.declared.limits.Limits.{Limits}
use Rattle.command_steps.specs.declared.stop.Stop.{Stop}
use Rattle.command_steps.specs.Stops.{IsFault}
use Rattle.command_steps.specs.Profiles.{HasProfile, enabled_ids, base_of, bases_of}
use Rattle.command_steps.specs.Scans.{AreScans, HaveTargets, IsLongStop, placed_scan, placed_scans}
use Rattle.command_steps.specs.Looks.{AreSourcesOf}
use Rattle.command_steps.specs.Steps.{targets}
use Rattle.command_steps.specs.Orders.{IsWhy, Takes}
use Rattle.command_steps.proofs.Nodes.{enabled_on, enabled_off, told_at, node_within}

abbrev Entry : Type 0
Entry = List ℕ × ModData

-- the bases of these mods
abbrev bases : ProfileData → List Entry → List (Option (List ℕ))
bases p nodes = map (λ m. base_of p m.1) nodes

-- up to this node each file has a user path where it is deployed
abbrev pub HaveTargetsTo : ProfileData → List Scan → ℕ → Type 0
HaveTargetsTo p scans node =
    (other : ℕ) (base : Option (List ℕ)) (scan : Scan) → other < node → slice_get (bases_of p) other ≡ Some base → slice_get scans other ≡ Some scan → AllByRecursion (HasUserTarget base) scan.files

-- the mods seen so far are placed
pub record ArePlacedTo (p : ProfileData) (mods : List Entry) (node : ℕ) (scans placed : List Scan) (sources : List Sources) : Type 0 where
  pub count : node ≡ length (enabled_of mods)
  pub scans_are : placed ≡ placed_scans (bases p (enabled_of mods)) (take node scans)
  pub sources_are : AreSourcesOf (take node scans) sources
  pub users : HaveTargetsTo p scans node
  pub belong : AreSources placed sources

pub none_placed : (p : ProfileData) (scans : List Scan) → ArePlacedTo p [] 0 scans [] []
none_placed p scans = record { count = refl; scans_are = refl; sources_are = refl; users = λ other base scan low _ _. absurd (omega (arith, low)); belong = tt }

pub begin_placed : (p : ProfileData) (scans placed : List Scan) (sources : List Sources) → placed ≡ [] → sources ≡ [] → ArePlacedTo p [] 0 scans placed sources
begin_placed p scans placed sources is own = subst (λ l. ArePlacedTo p [] 0 scans l sources) (sym is) (subst (ArePlacedTo p [] 0 scans []) (sym own) (none_placed p scans))

pub placed_off : (p : ProfileData) (mods all : List Entry) (m : Entry) (node : ℕ) (scans placed : List Scan) (sources : List Sources) → all ≡ mods ++ m ∷ [] → m.1.enabled ≡ false → ArePlacedTo p mods node scans placed sources
    → ArePlacedTo p all node scans placed sources
placed_off p mods all m node scans placed sources is off so_far =
    let same : enabled_of all ≡ enabled_of mods = ap enabled_of is ∙ enabled_off mods m [] off ∙ append-nil (enabled_of mods) in
    record {
      count = so_far.count ∙ ap length (sym same);
      scans_are = so_far.scans_are ∙ ap (λ l. placed_scans (bases p l) (take node scans)) (sym same);
      sources_are = so_far.sources_are;
      users = so_far.users;
      belong = so_far.belong;
    }

placed-push : (bs : List (Option (List ℕ))) (b : Option (List ℕ)) (ss : List Scan) (s : Scan) → length bs ≡ length ss → placed_scans (bs ++ b ∷ []) (ss ++ s ∷ []) ≡ placed_scans bs ss ++ placed_scan b s ∷ []
placed-push [] b [] s e = refl
placed-push [] b (x ∷ ss) s e = absurd (omega (arith, e))
placed-push (c ∷ bs) b [] s e = absurd (omega (arith, e))
placed-push (c ∷ bs) b (x ∷ ss) s e = ap (λ l. placed_scan c x ∷ l) (placed-push bs b ss s (omega (arith, e)))

belong-push : (placed : List Scan) (sources : List Sources) (scan : Scan) (own : Sources) → AreSources placed sources → AreItsSources scan own → AreSources (placed ++ scan ∷ []) (sources ++ own ∷ [])
belong-push [] [] scan own h is = (is, tt)
belong-push [] (y ∷ ys) scan own h is = absurd h
belong-push (x ∷ xs) [] scan own h is = absurd h
belong-push (x ∷ xs) (y ∷ ys) scan own h is = (h.0, belong-push xs ys scan own h.1 is)

length_taken : (scans : List Scan) (node : ℕ) → node < length scans → length (take node scans) ≡ node
length_taken [] node low = absurd (omega (arith, low))
length_taken (x ∷ xs) zero low = refl
length_taken (x ∷ xs) (suc node) low = ap suc (length_taken xs node (omega (arith, low)))

-- the scan at an index that is within the list
scan_at : (scans : List Scan) (node : ℕ) (scan : Scan) → node < length scans → scan ≡ get_or scans node scan → slice_get scans node ≡ Some scan
scan_at [] node scan low at = absurd (omega (arith, low))
scan_at (x ∷ xs) zero scan low at = ap Some (sym at)
scan_at (x ∷ xs) (suc node) scan low at = scan_at xs node scan (omega (arith, low)) at

same_base : (a b : Option (List ℕ)) → Some a ≡ Some b → a ≡ b
same_base a b e = cc

same_scan : (a b : Scan) → Some a ≡ Some b → a ≡ b
same_scan a b e = cc

module _ (p : ProfileData) (mods all rest : List Entry) (m : Entry) (node : ℕ) (scans : List Scan) (scan : Scan)
    (whole : p.mods ≡ mods ++ m ∷ rest) (is : all ≡ mods ++ m ∷ []) (on : m.1.enabled ≡ true) (low : node < length scans) (at : scan ≡ get_or scans node scan) where
  base_here : node ≡ length (enabled_of mods) → slice_get (bases_of p) node ≡ Some (base_of p m.1)
  base_here count = ap (slice_get (bases_of p)) count ∙ told_at (λ n. base_of p n.1) p.mods mods m rest whole on

  pub placed_on : (placed : List Scan) (sources : List Sources) (one : Placed) → ArePlacedTo p mods node scans placed sources → IsPlaced scan (base_of p m.1) one → AllByRecursion (HasUserTarget (base_of p m.1)) scan.files
      → AllByRecursion IsFreePath scan.files → ArePlacedTo p all (node + 1) scans (placed ++ one.scan ∷ []) (sources ++ one.sources ∷ [])
  placed_on placed sources one so_far is_placed users free =
      let more : enabled_of all ≡ enabled_of mods ++ m ∷ [] = ap enabled_of is ∙ enabled_on mods m [] on in
      let taken : take (node + 1) scans ≡ take node scans ++ scan ∷ [] = one_more scans node scan low at in
      let here : one.scan ≡ placed_scan (base_of p m.1) scan = λ i. record { mod_id = is_placed.same i; files = is_placed.targets i; entries = is_placed.entries i } in
      let lengths : length (bases p (enabled_of mods)) ≡ length (take node scans) = length-map (enabled_of mods) (λ (n : Entry). base_of p n.1) ∙ sym so_far.count ∙ sym (length_taken scans node low) in
      record {
        count = (let counted = so_far.count in let size = ap length more ∙ length-append (enabled_of mods) (m ∷ []) in omega (arith, counted, size));
        scans_are =
            (λ i. so_far.scans_are i ++ here i ∷ [])
            ∙ sym (placed-push (bases p (enabled_of mods)) (base_of p m.1) (take node scans) scan lengths)
            ∙ (λ i. placed_scans (sym (ap (bases p) more ∙ map-append (λ (n : Entry). base_of p n.1) (enabled_of mods) (m ∷ [])) i) (sym taken i));
        sources_are =
            map-append (λ (s : Sources). s.paths.items) sources (one.sources ∷ [])
            ∙ (λ i. so_far.sources_are i ++ is_placed.sources i ∷ [])
            ∙ sym (ap (map (λ (s : Scan). s.files)) taken ∙ map-append (λ (s : Scan). s.files) (take node scans) (scan ∷ []));
        users = λ other base its before base_at its_at. elim (cases_lt other node) [
          | inl earlier ↦ so_far.users other base its earlier base_at its_at
          | inr later ↦
              let same : other ≡ node = omega (arith, before, later) in
              let b : base_of p m.1 ≡ base = same_base (base_of p m.1) base (sym (base_here so_far.count) ∙ ap (slice_get (bases_of p)) (sym same) ∙ base_at) in
              let s : scan ≡ its = same_scan scan its (sym (scan_at scans node scan low at) ∙ ap (slice_get scans) (sym same) ∙ its_at) in
              subst (λ (t : Scan). AllByRecursion (HasUserTarget base) t.files) s (subst (λ c. AllByRecursion (HasUserTarget c) scan.files) b users)
        ];
        belong = belong-push placed sources one.scan one.sources so_far.belong (record {
          base = base_of p m.1;
          targets = is_placed.targets ∙ ap (map (target (base_of p m.1))) (sym is_placed.sources);
          free = subst (AllByRecursion IsFreePath) (sym is_placed.sources) free;
        });
      }

  -- a path is too long where it is deployed
  pub long_at : (limits : Limits) (s : Story) (stop : Stop) → HasProfile (disk_of s) p → AreScans (disk_of s) (enabled_ids p) scans → node ≡ length (enabled_of mods) → HaveTargetsTo p scans node → IsLongStop (base_of p m.1) scan stop
      → IsWhy (targets ∷ []) limits s stop s
  long_at limits s stop has are count before (inl memory) = record { why = inl (subst IsFault (sym memory) tt) }
  long_at limits s stop has are count before (inr long) = record {
    why = inr (inl (
      (
        p,
        has,
        scans,
        are,
        record {
          node = node;
          base = base_of p m.1;
          scan = scan;
          base_at = base_here count;
          scan_at = scan_at scans node scan low at;
          before = before;
          source = long.0;
          long = long.1;
          is = long.2;
        },
      ),
      refl,
    ));
  }

-- all are placed
have_all : (p : ProfileData) (scans : List Scan) → HaveTargetsTo p scans (length scans) → HaveTargets (bases_of p) scans
have_all p scans users node base scan base_at at = users node base scan (within scans node scan at) base_at at
  where
    within : (ss : List Scan) (k : ℕ) (s : Scan) → slice_get ss k ≡ Some s → k < length ss
    within [] k s e = cc
    within (x ∷ ss) zero s e = omega arith
    within (x ∷ ss) (suc k) s e = let rest = within ss k s e in omega (arith, rest)

pub all_placed : {V : Type 0} (p : ProfileData) (limits : Limits) (s : Story) (scans : List Scan) (G : V → Type 0) (v : V) → HasProfile (disk_of s) p → AreScans (disk_of s) (enabled_ids p) scans → HaveTargetsTo p scans (length scans) → G v
    → Takes (targets ∷ []) limits s s G (Ok v)
all_placed p limits s scans G v has are users gives = record { passed = record { all = ((p, has, scans, are, have_all p scans users), tt); story = refl; gives = gives }; stopped = tt }

-- The loop over the mods, where these are seen, then this one, then the rest

-- the node is one of the scans'
pub node_in : (p : ProfileData) (mods rest : List Entry) (m : Entry) (node : ℕ) (scans placed : List Scan) (sources : List Sources) → p.mods ≡ mods ++ m ∷ rest → m.1.enabled ≡ true → length scans ≡ length (nodes_of p) → ArePlacedTo p mods node scans placed sources → node < length scans
node_in p mods rest m node scans placed sources whole on lengths so_far =
    let low = node_within p.mods mods m rest whole on in
    let count = so_far.count in
    omega (arith, low, count, lengths)

module _ (p : ProfileData) (node : ℕ) (scans placed : List Scan) (sources : List Sources) (lengths : length scans ≡ length (nodes_of p)) (so_far : ArePlacedTo p p.mods node scans placed sources) where
  counted : node ≡ length scans
  counted = let count = so_far.count in omega (arith, count, lengths)

  pub all_users : HaveTargetsTo p scans (length scans)
  all_users = subst (HaveTargetsTo p scans) counted so_far.users

  pub all_scans : placed ≡ placed_scans (bases_of p) scans
  all_scans = so_far.scans_are ∙ ap (λ n. placed_scans (bases_of p) (take n scans)) counted ∙ ap (placed_scans (bases_of p)) (take_all (length scans) scans (omega arith))

  pub all_sources : AreSourcesOf scans sources
  all_sources = subst (λ l. AreSourcesOf l sources) (ap (λ n. take n scans) counted ∙ take_all (length scans) scans (omega arith)) so_far.sources_are
