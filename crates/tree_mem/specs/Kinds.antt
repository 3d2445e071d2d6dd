-- Entries of a listing.
use Rattle.std.specs.String.{string_bytes}
use Rattle.std.specs.declared.alloc.Global.{Global}
use Rattle.std.specs.declared.string.String.{String}
use Rattle.tree_fs.specs.declared.name.Entry.{Entry}
use Rattle.tree_fs.specs.declared.name.Kind.{Kind}
use Rattle.tree_fs.specs.declared.name.Kind.TheVariants as kind
use Rattle.tree_mem.specs.declared.entries.Item.{Item}
use Rattle.tree_mem.specs.declared.entries.Item.TheVariants.{Folder, File}

abbrev pub item_kind : Item → Kind
item_kind Folder = kind.Folder
item_kind (File n) = kind.File

-- what a listing says of an item under a name
abbrev pub entry_of : String Global × Item → Entry
entry_of e = record { name = string_bytes e.0; kind = item_kind e.1 }
