use Rattle.std.proofs.Common.{sym, subst, List, ℕ, refl}
use Rattle.trace.specs.Rests.{Grows, IsRest}
use Rattle.trace.proofs.FirstLemmas.{no_entry}
use Rattle.trace.proofs.entries.replay_entry.Goals as goal

pub returns-in-Err-clause-refused : goal.returns-in-Err-clause-refused
returns-in-Err-clause-refused c = λ other more left. c.in-Err.ensures.refused other more
    (subst (λ (t : List ℕ). IsRest c.args.core.now c.args.rows.now t more) c.in-Some.ensures.0 left)

pub returns-in-Ok-replay_done-clause-goes : goal.returns-in-Ok-replay_done-clause-goes
returns-in-Ok-replay_done-clause-goes c =
    let (left, rows_are) = c.requires.rows in
    subst (λ (t : List ℕ). Grows c.args.core.now c.args.rows.now t c.in-Ok-replay_done.rest.now c.replay_done.new.core)
    (sym c.in-Some-after_words.ensures.0) (c.in-Ok-replay_done.ensures.grows c.args.rows.now left rows_are)

pub returns-in-Err-replay_done-clause-refused : goal.returns-in-Err-replay_done-clause-refused
returns-in-Err-replay_done-clause-refused c = λ other more left.
    c.in-Err-replay_done.ensures.refused other c.args.rows.now more
    (subst (λ (t : List ℕ). IsRest c.args.core.now c.args.rows.now t more) c.in-Some-after_words.ensures.0 left)

pub returns-in-None-after_words-clause-goes : goal.returns-in-None-after_words-clause-goes
returns-in-None-after_words-clause-goes c =
    (refl, no_entry c.args.core.now c.args.rows.now c.args.text.now c.in-None.ensures c.in-None-after_words.ensures)
