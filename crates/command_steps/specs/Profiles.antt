-- The profile of a disk, its enabled mods, and the graph of their rules.
use Rattle.std.specs.Prelude.{◌≡◌, ◌⊎◌, ◌↔◌, ℕ, List, Contains, Ok, Err, find, length, map, option_map, option_and_then}
use Rattle.std.specs.Str.{bytes_eq}
use Rattle.std.specs.declared.option.Option.{Option}
use Rattle.std.specs.declared.option.Option.TheVariants.{None, Some}
use Rattle.std.specs.declared.result.Result.{Result}
use Rattle.tree_fs.specs.Disk.{Disk}
use Rattle.profile_toml.specs.declared.error.ProfileError.{ProfileError}
use Rattle.profile_toml.specs.Records.{ProfileData, ModData, TypeData}
use Rattle.profile_toml.specs.Plain.{default_value}
use Rattle.profile_toml.specs.Profiles.{profile_of}
use Rattle.mod_rules.specs.Nodes.{nodes_of}
use Rattle.mod_rules.specs.Edges.{GraphData, IsEdge, AreAscending}
use Rattle.load_order.specs.Orders.{IsLawful, IsTaken}
use Rattle.desk_model.specs.Records.{profile_text}
use Rattle.command_steps.specs.declared.order.Ordered.{Ordered}
use Rattle.command_steps.specs.declared.stop.Stop.{Stop}
use Rattle.command_steps.specs.Stops.{IsFault, IsTold, profile_stop}
use Rattle.command_steps.specs.Mods.{ListsMods}

-- what a profile's bytes are read as; where there are none, it has the mods below `stage`
abbrev pub ReadsAs : Disk → Option (List ℕ) → Result ProfileData ProfileError → Type 0
ReadsAs d (Some bytes) read = read ≡ profile_of bytes
ReadsAs d None read = (ids : List (List ℕ)) × ListsMods d ids × (read ≡ Ok (default_value ids))

abbrev pub ReadsProfile : Disk → Result ProfileData ProfileError → Type 0
ReadsProfile d read = ReadsAs d (profile_text d) read

-- the profile of a disk
abbrev pub HasProfile : Disk → ProfileData → Type 0
HasProfile d p = ReadsProfile d (Ok p)

-- the profile's first fault stops a command so
pub record IsReadFault (d : Disk) (stop : Stop) : Type 0 where
  pub error : ProfileError
  pub read : ReadsProfile d (Err error)
  pub told : IsTold (profile_stop error)
  pub is : stop ≡ profile_stop error

-- why the profile of a disk isn't read: by a fault of the tree, want of memory, or its first fault
abbrev pub IsReadStop : Disk → Stop → Type 0
IsReadStop d stop = IsFault stop ⊎ IsReadFault d stop

-- the ids of the enabled mods, in the profile's order: id k is that of node k
abbrev pub enabled_ids : ProfileData → List (List ℕ)
enabled_ids p = map (λ m. m.0) (nodes_of p)

-- the base of the type with this id
abbrev pub base_named : List TypeData → List ℕ → Option (List ℕ)
base_named types id = option_map (λ t. t.base) (find (λ t. bytes_eq t.id id) types)

-- the base below which a mod's files are deployed, if its type has one
abbrev pub base_of : ProfileData → ModData → Option (List ℕ)
base_of p m = option_and_then (base_named p.types) m.mod_type

-- the bases of the enabled mods: base k is that of node k
abbrev pub bases_of : ProfileData → List (Option (List ℕ))
bases_of p = map (λ m. base_of p m.1) (nodes_of p)

-- the graph of the rules of the enabled mods
pub record IsGraphOf (p : ProfileData) (g : GraphData) : Type 0 where
  pub count : g.count ≡ length (nodes_of p)
  pub ascending : AreAscending g.edges
  pub edges : (a b : ℕ) → (Contains g.edges (a, b) ↔ IsEdge (nodes_of p) a b)

-- the load order: of the nodes that may come next the earliest, again and again
pub record IsOrderOf (g : GraphData) (order : List ℕ) : Type 0 where
  pub lawful : IsLawful g order
  pub taken : IsTaken g order

-- the graph and the load order of a profile's enabled mods
pub record IsOrdered (p : ProfileData) (found : Ordered) : Type 0 where
  pub graph : IsGraphOf p found.graph
  pub order : IsOrderOf found.graph found.order.items
