use Rattle.java_flow.proofs.checking.judged.Goals as goal

pub returns-in-Some : goal.returns-in-Some
returns-in-Some c = c.error_of.ensures c.args.all.now c.in-Some.ensures
