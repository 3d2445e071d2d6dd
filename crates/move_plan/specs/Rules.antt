-- The nine rules of a plan that is sound by its data alone, and the first one that fails.
use Rattle.std.specs.Prelude.{◌≡◌, ◌≢◌, ◌⊎◌, ℕ, ◌<◌, List, [], ◌∷◌, ◌++◌, IfSome}
use Rattle.std.specs.List.{AllByRecursion}
use Rattle.std.specs.Ordering.{nat_cmp}
use Rattle.std.specs.Cmp.Lexicographic.{slice_cmp}
use Rattle.std.specs.declared.cmp.Ordering.TheVariants.{Less}
use Rattle.std.specs.declared.option.Option.{Option}
use Rattle.rel_paths.specs.declared.control.Control.{Control}
use Rattle.tree_fs.specs.declared.place.Root.TheVariants.{Stage, Game}
use Rattle.tree_fs.specs.declared.place.Place.{Place}
use Rattle.tree_fs.specs.Spot.{Spot, spot_of, IsBelow}
use Rattle.tree_fs.specs.Texts.{place_text, control_spot}
use Rattle.move_plan.specs.declared.plan.Plan.{Plan}
use Rattle.move_plan.specs.Places.{IsKeeping, IsSetTo, IsSetFrom, IsSaveTo, IsSaved, IsBacked, IsDestination, IsClear}
use Rattle.move_plan.specs.Entries.{Entry, folder, save, set, clear, off, key_of, Listed, entries}

abbrev pub ComesBefore : Place → Place → Type 0
ComesBefore p q = slice_cmp nat_cmp (place_text p) (place_text q) ≡ Less

-- 1. Each list rises strictly by the texts of its places; that of the folders to take off falls.
abbrev pub InOrder : Entry → Option Place → Type 0
InOrder (off p) front = IfSome front (λ q. ComesBefore p q)
InOrder entry front = IfSome front (λ q. ComesBefore q (key_of entry))

-- a place that is no root and no control place, and lies below no control place
pub record IsFree (x : Spot) : Type 0 where
  pub not_root : x.names ≢ []
  pub not_control : (which : Control) → x ≢ control_spot which
  pub not_below : (which : Control) → ¬ IsBelow (control_spot which) x

-- 2. Each place is free.
abbrev pub AvoidsControls : Entry → Type 0
AvoidsControls (save s) = IsFree (spot_of s.0) × IsFree (spot_of s.1)
AvoidsControls (set row) =
    IsFree (spot_of row.to) × IfSome row.from (λ p. IsFree (spot_of p)) × IfSome row.back (λ p. IsFree (spot_of p))
AvoidsControls entry = IsFree (spot_of (key_of entry))

-- 3. No set's source is a set's destination.
abbrev pub SourceStays : Plan → Entry → Type 0
SourceStays plan (set row) = IfSome row.from (λ p. ¬ IsSetTo plan (spot_of p))
SourceStays plan _ = Unit {0}

-- 4. No save's destination is a set's destination or a set's source.
abbrev pub SaveStays : Plan → Entry → Type 0
SaveStays plan (save s) = (¬ IsSetTo plan (spot_of s.1)) × (¬ IsSetFrom plan (spot_of s.1))
SaveStays plan _ = Unit {0}

-- 5. No clear is a set's destination, and each save's destination and each clear keeps a file.
abbrev pub Keeping : Plan → Entry → Type 0
Keeping plan (save s) = IsKeeping (spot_of s.1)
Keeping plan (clear p) = (¬ IsSetTo plan (spot_of p)) × IsKeeping (spot_of p)
Keeping plan _ = Unit {0}

abbrev pub MovesSome : Plan → Type 0
MovesSome plan = (plan.saves ≢ []) ⊎ (plan.sets ≢ [])

-- 6. Where there is a save or a set, each clear is a set's source or a save's destination.
abbrev pub ClearIsUsed : Plan → Entry → Type 0
ClearIsUsed plan (clear p) = MovesSome plan → IsSetFrom plan (spot_of p) ⊎ IsSaveTo plan (spot_of p)
ClearIsUsed plan _ = Unit {0}

-- 7. Each save's source is the destination of a set whose `back` is the save's destination.
abbrev pub SaveIsBack : Plan → Entry → Type 0
SaveIsBack plan (save s) = IsBacked plan (spot_of s.0) (spot_of s.1)
SaveIsBack plan _ = Unit {0}

-- 8. Each `back` is the destination of a save from its set's destination, or a place in `stage`
-- that is no set's destination.
abbrev pub BackStays : Plan → Entry → Type 0
BackStays plan (set row) =
    IfSome row.back
    (λ p. IsSaved plan (spot_of row.to) (spot_of p) ⊎ (p.root ≡ Stage) × (¬ IsSetTo plan (spot_of p)))
BackStays plan _ = Unit {0}

-- the place lies below no destination of a save or set
abbrev pub LiesApart : Plan → Spot → Type 0
LiesApart plan x = (y : Spot) → IsDestination plan y → ¬ IsBelow y x

-- 9. No folder to make is a destination or a clear, no destination lies below another, and each
-- folder to take off is in `game`.
abbrev pub Apart : Plan → Entry → Type 0
Apart plan (folder p) = (¬ IsDestination plan (spot_of p)) × (¬ IsClear plan (spot_of p))
Apart plan (save s) = LiesApart plan (spot_of s.1)
Apart plan (set row) = LiesApart plan (spot_of row.to)
Apart plan (clear p) = Unit {0}
Apart plan (off p) = p.root ≡ Game

pub data Rule : Type 0 where
  in_order : Rule
  avoids_controls : Rule
  source_stays : Rule
  save_stays : Rule
  keeping : Rule
  clear_is_used : Rule
  save_is_back : Rule
  back_stays : Rule
  apart : Rule

-- the number of a rule
abbrev pub number_of : Rule → ℕ
number_of in_order = 1
number_of avoids_controls = 2
number_of source_stays = 3
number_of save_stays = 4
number_of keeping = 5
number_of clear_is_used = 6
number_of save_is_back = 7
number_of back_stays = 8
number_of apart = 9

-- an entry keeps a rule
abbrev pub Keeps : Rule → Plan → Listed → Type 0
Keeps in_order plan l = InOrder l.entry l.front
Keeps avoids_controls plan l = AvoidsControls l.entry
Keeps source_stays plan l = SourceStays plan l.entry
Keeps save_stays plan l = SaveStays plan l.entry
Keeps keeping plan l = Keeping plan l.entry
Keeps clear_is_used plan l = ClearIsUsed plan l.entry
Keeps save_is_back plan l = SaveIsBack plan l.entry
Keeps back_stays plan l = BackStays plan l.entry
Keeps apart plan l = Apart plan l.entry

-- each entry keeps the rule
abbrev pub KeepsRule : Rule → Plan → Type 0
KeepsRule rule plan = AllByRecursion (Keeps rule plan) (entries plan)

-- a plan that is sound by its data
abbrev pub PassesRules : Plan → Type 0
PassesRules plan = (rule : Rule) → KeepsRule rule plan

-- the number of the first rule that fails, and the index of its first failing entry in its list
pub record IsFirstFault (plan : Plan) (number index : ℕ) : Type 0 where
  pub rule : Rule
  pub its_number : number ≡ number_of rule
  pub earlier_rules : (r : Rule) → number_of r < number → KeepsRule r plan
  pub earlier : List Listed
  pub at : Listed
  pub later : List Listed
  pub split : entries plan ≡ earlier ++ at ∷ later
  pub kept : AllByRecursion (Keeps rule plan) earlier
  pub fails : ¬ Keeps rule plan at
  pub its_index : index ≡ at.index
