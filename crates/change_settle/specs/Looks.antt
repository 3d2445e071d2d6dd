-- The lists of places that were looked at, with one place more.
use Rattle.std.specs.Prelude.{List, [], ◌∷◌, ◌++◌}
use Rattle.tree_fs.specs.declared.name.Kind.{Kind}
use Rattle.tree_fs.specs.declared.name.Kind.TheVariants.{Absent, File, Folder, Other}
use Rattle.tree_fs.specs.declared.place.Place.{Place}

abbrev pub missing_with : Kind → Place → List Place → List Place
missing_with Absent p places = places ++ p ∷ []
missing_with File p places = places
missing_with Folder p places = places
missing_with Other p places = places

abbrev pub blocked_with : Kind → Place → List Place → List Place
blocked_with Absent p places = places
blocked_with File p places = places ++ p ∷ []
blocked_with Folder p places = places
blocked_with Other p places = places ++ p ∷ []
