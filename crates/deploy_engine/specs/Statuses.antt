use Rattle.std.specs.Prelude.{ℕ}
use Rattle.deploy_engine.specs.declared.answer.Answer.{Answer}
use Rattle.deploy_engine.specs.declared.answer.Answer.TheVariants.{Ok, Changes, Usage, Refused, RecoverFirst, TreeFault, SourceFault, SinkFault, Memory}

-- the exit status of an answer
abbrev pub status_of : Answer → ℕ
status_of Ok = 0
status_of Changes = 1
status_of Usage = 2
status_of (Refused r) = 3
status_of RecoverFirst = 4
status_of TreeFault = 5
status_of SourceFault = 6
status_of SinkFault = 7
status_of Memory = 8
