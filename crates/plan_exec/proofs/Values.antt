-- Values that a source gives.
use Rattle.std.proofs.Common.{◌≡◌, ◌≢◌, ℕ, refl, sym}
use Rattle.std.specs.declared.option.Option.{Option}
use Rattle.std.specs.declared.option.Option.TheVariants.{None, Some}
use Rattle.tree_fs.specs.declared.place.Place.{Place}
use Rattle.tree_fs.specs.Spot.{Spot, spot_of}
use Rattle.tree_fs.specs.Disk.{Value, none, file, odd}
use Rattle.move_plan.specs.Places.{IsAt}
use Rattle.desk_model.specs.Desk.{file_or_none}
use Rattle.desk_model.specs.Outcome.{file_at}

pub odd_save : (v : Value) → odd ≢ file_or_none v
odd_save none is = cc
odd_save odd is = cc
odd_save (file n) is = cc

pub file_save : (v : Value) (n : ℕ) → file n ≡ file_or_none v → v ≡ file n
file_save none n is = absurd (cc)
file_save odd n is = absurd (cc)
file_save (file m) n is = sym is

-- a source's value is never odd, and its file is at the source
pub no_odd : (f : Spot → Value) (o : Option Place) → odd ≢ file_at f o
no_odd f None e = cc
no_odd f (Some p) e = odd_save (f (spot_of p)) e

pub file_from : (f : Spot → Value) (o : Option Place) (n : ℕ) → file n ≡ file_at f o → (x : Spot) × IsAt o x × (f x ≡ file n)
file_from f None n e = absurd (cc)
file_from f (Some p) n e = (spot_of p, refl, file_save (f (spot_of p)) n e)
