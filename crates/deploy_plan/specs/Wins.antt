-- The winners that a plan is made for.
use Rattle.std.specs.Prelude.{◌≡◌, ℕ, List, [], ◌∷◌, map}
use Rattle.std.specs.List.{AllByRecursion}
use Rattle.rel_paths.specs.Names.{IsFreePath, IsModId}
use Rattle.manifest_json.specs.Paths.{AreRising}
use Rattle.manifest_json.specs.Apart.{AreApart as AreApartSources}
use Rattle.tree_fs.specs.Disk.{Disk, IsFile}
use Rattle.winner_table.specs.Folders.{AreApart}
use Rattle.desk_model.specs.Deployed.{Win, won_spot}

abbrev pub won_paths : List Win → List (List ℕ)
won_paths wins = map (λ w. w.path) wins

-- winners in path order, no path below another, each with a staged file
pub record AreSoundWins (a : Disk) (wins : List Win) : Type 0 where
  pub good : AllByRecursion IsFreePath (won_paths wins)
  pub rise : AreRising (won_paths wins)
  pub apart : AreApart (won_paths wins)
  pub staged : AllByRecursion (λ w. IsFile a (won_spot w)) wins

-- winners of one mod have sources that are apart
abbrev pub HasApartWins : List Win → Type 0
HasApartWins [] = Unit {0}
HasApartWins (w ∷ ws) =
    AllByRecursion (λ v. w.mod_id ≡ v.mod_id → AreApartSources w.source v.source) ws
    × HasApartWins ws

-- winners that can be the rows of a manifest
pub record CanBeRows (wins : List Win) : Type 0 where
  pub good : AllByRecursion (λ w. IsModId w.mod_id × IsFreePath w.source) wins
  pub apart : HasApartWins wins
