use Rattle.command_steps.proofs.Refusing as refusing
use Rattle.command_steps.proofs.laws.steps_tell.Goals as goal

pub returns-clause-exclusive : goal.returns-clause-exclusive
returns-clause-exclusive c = λ step limits d stop pass turned. refusing.exclusive step limits d stop pass turned

pub returns-clause-unique : goal.returns-clause-unique
returns-clause-unique c = λ step limits d one other a b. refusing.unique step limits d one other a b
