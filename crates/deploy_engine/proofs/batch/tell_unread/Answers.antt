use Rattle.deploy_engine.proofs.batch.tell_unread.Goals as goal

pub returns-in-TooMany-clause-ends : goal.returns-in-TooMany-clause-ends
returns-in-TooMany-clause-ends g c = rw c.in-TooMany.is c.refuse_input.ensures.ends

pub returns-in-TooLong-clause-ends : goal.returns-in-TooLong-clause-ends
returns-in-TooLong-clause-ends g c = rw c.in-TooLong.is c.refuse_input-in-TooLong.ensures.ends

pub returns-in-NotText-clause-ends : goal.returns-in-NotText-clause-ends
returns-in-NotText-clause-ends g c = rw c.in-NotText.is c.refuse_input-in-NotText.ensures.ends
