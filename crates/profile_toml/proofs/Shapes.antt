-- What a value is, by what it is taken as.
use Rattle.std.proofs.Common.{◌≡◌, ℕ, List, Some}
use Rattle.toml.specs.Data.{Data, string, integer, float, boolean, datetime, array, table, Items, Members, as_table, as_array}

pub table_is : (d : Data) (ms : Members) → as_table d ≡ Some ms → d ≡ table ms
table_is (table ns) ms h = cc
table_is (string s) ms h = cc
table_is (integer z) ms h = cc
table_is (float x) ms h = cc
table_is (boolean b) ms h = cc
table_is (datetime dt) ms h = cc
table_is (array ds) ms h = cc

pub array_is : (d : Data) (ds : Items) → as_array d ≡ Some ds → d ≡ array ds
array_is (array es) ds h = cc
array_is (string s) ds h = cc
array_is (integer z) ds h = cc
array_is (float x) ds h = cc
array_is (boolean b) ds h = cc
array_is (datetime dt) ds h = cc
array_is (table ms) ds h = cc
