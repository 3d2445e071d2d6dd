-- The folders in which the steps of a plan change something.
use Rattle.std.specs.Prelude.{◌⊎◌, List}
use Rattle.std.specs.List.Sorted.{IsStrictlySortedBy}
use Rattle.std.specs.Ordering.{on, nat_cmp}
use Rattle.std.specs.Cmp.Lexicographic.{slice_cmp}
use Rattle.tree_fs.specs.declared.place.Place.{Place}
use Rattle.tree_fs.specs.Spot.{Spot}
use Rattle.tree_fs.specs.Texts.{place_text}
use Rattle.move_plan.specs.declared.plan.Plan.{Plan}
use Rattle.move_plan.specs.Places.{Has}
use Rattle.intent_journal.specs.Ready.{IsParent, saved_places, set_places}

-- a save's or set's destination or a clear lies in it, or it is to be taken off
abbrev pub IsConcerned : Plan → Spot → Type 0
IsConcerned plan x =
    IsParent (saved_places plan) x ⊎ IsParent (set_places plan) x ⊎ IsParent plan.clears x
    ⊎ Has plan.folders_off x

-- these folders, each once, in the order of their texts
pub record AreConcerned (plan : Plan) (folders : List Place) : Type 0 where
  pub all : (x : Spot) → IsConcerned plan x → Has folders x
  pub only : (x : Spot) → Has folders x → IsConcerned plan x
  pub rise : IsStrictlySortedBy (on place_text (slice_cmp nat_cmp)) folders
