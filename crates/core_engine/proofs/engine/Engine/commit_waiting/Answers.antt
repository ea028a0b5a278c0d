use Rattle.core_engine.proofs.engine.Engine.commit_waiting.Goals as goal

pub commit_activation-requires : goal.commit_activation-requires
commit_activation-requires c = record { waits = λ start log is. c.in-Some.ensures start log is }
