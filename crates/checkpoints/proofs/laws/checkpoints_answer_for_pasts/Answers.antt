use Rattle.checkpoints.proofs.RowLemmas.{due_next}
use Rattle.checkpoints.proofs.DoneLemmas.{row_of_it}
use Rattle.checkpoints.proofs.ContinuationLemmas.{waits_iff, best_iff, none_iff, overruns_are, moment_is, follows_iff}
use Rattle.checkpoints.proofs.laws.checkpoints_answer_for_pasts.Goals as goal

pub returns-clause-variables : goal.returns-clause-variables
returns-clause-variables _ = λ plan past c is. is.store

pub returns-clause-waits : goal.returns-clause-waits
returns-clause-waits _ = λ plan past c a is. waits_iff plan past c is a

pub returns-clause-row : goal.returns-clause-row
returns-clause-row _ = λ plan past c a is w. row_of_it plan past c is a w

pub returns-clause-best : goal.returns-clause-best
returns-clause-best _ = λ plan past c resource a is. best_iff plan past c is resource a

pub returns-clause-none : goal.returns-clause-none
returns-clause-none _ = λ plan past c resource is. none_iff plan past c is resource

pub returns-clause-overruns : goal.returns-clause-overruns
returns-clause-overruns _ = λ plan past c p is l. overruns_are plan past c is p l

pub returns-clause-moment : goal.returns-clause-moment
returns-clause-moment _ = λ plan past c before is. moment_is plan past c is before

pub returns-clause-due : goal.returns-clause-due
returns-clause-due _ = λ plan past c row p is l. due_next plan past c is row p l

pub returns-clause-follows : goal.returns-clause-follows
returns-clause-follows _ = λ plan before past c e is. follows_iff plan past c is before e
