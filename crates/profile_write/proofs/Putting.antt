-- A profile that is written whole.
use Rattle.std.proofs.Common.{Result, OnOk}
use Rattle.std.specs.declared.result.Result.TheVariants.{Ok, Err}
use Rattle.tree_fs.specs.Story.{Story, disk_of}
use Rattle.profile_toml.specs.Records.{ProfileData}
use Rattle.plan_run.specs.Quiet.{IsQuiet}
use Rattle.profile_write.specs.Written.{Written, Puts, PutsWhole}

pub put_whole : {V E : Type 0} (p : ProfileData) (s t : Story) (puts : Puts p s t) (r : Result V E) → (IsQuiet (disk_of s) → OnOk r (Written puts.text (disk_of s) (disk_of t))) → OnOk r (PutsWhole p s t)
put_whole p s t puts (Ok v) done = record { puts = puts; written = done }
put_whole p s t puts (Err e) done = tt
