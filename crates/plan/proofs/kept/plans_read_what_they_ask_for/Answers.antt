use Rattle.plan.proofs.kept.plans_read_what_they_ask_for.Goals as goal

pub returns : goal.returns
returns c = λ plan.
    record {
      distinct = plan.sound.once;
      codes = λ k p there. (plan.sound.codes k p there).reads;
    }
