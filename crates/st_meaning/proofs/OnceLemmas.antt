-- An activation is done at most once.
use Rattle.std.proofs.Common.{ℕ, ◌<◌, ◌≤◌, [], ◌∷◌, ◌++◌, length, Option}
use Rattle.st_types.specs.declared.entry.Entry.{Entry}
use Rattle.st_types.specs.declared.entry.Entry.TheVariants.{Row, Done}
use Rattle.st_types.specs.declared.entry.Activation.{Activation}
use Rattle.st_meaning.specs.Plans.{Plan, schedules_of, samples_of}
use Rattle.st_meaning.specs.Stores.{Store}
use Rattle.st_meaning.specs.Due.{served, Waits}
use Rattle.st_meaning.specs.Logs.{Past, Log, with_entry, beginning, MayFollow, done_follows, IsLegal}
use Rattle.st_meaning.specs.Logs.{IsLegalFrom}
use Rattle.st_meaning.proofs.DueLemmas.{served_by_done, served_stays, served_waits_no_more, served_within_done}
use Rattle.st_meaning.proofs.DueLemmas.{served_within_row, served_within_first}

-- no more rows are before a program's last Done than there are
abbrev IsWithin : Past → ℕ → Type 0
IsWithin past p = served p past.history.runs ≤ length past.history.sampled

within_stays : (plan : Plan) (past : Past) (e : Entry) (p : ℕ) → IsWithin past p → IsWithin (with_entry plan past e) p
within_stays plan past (Row row) p h =
    served_within_row past.history row.moment (samples_of plan past.store row.image) p h
within_stays plan past (Done a) p h = served_within_done past.history p a.program h

served_on : (plan : Plan) (past : Past) (e : Entry) (a : Activation) → IsWithin past a.program
    → a.row < served a.program past.history.runs → a.row < served a.program (with_entry plan past e).history.runs
served_on plan past (Row row) a h l = l
served_on plan past (Done b) a h l = served_stays past.history a.program b.program a.row l h

waited : (plan : Plan) (before : Option ℕ) (past : Past) (a : Activation) → MayFollow plan before past (Done a)
    → Waits (schedules_of plan) past.history a
waited plan before past a (done_follows _ w) = w

none_again : (plan : Plan) (before : Option ℕ) (past : Past) (a : Activation) (log : Log) → IsWithin past a.program
    → a.row < served a.program past.history.runs → IsLegalFrom plan before past (log ++ Done a ∷ []) → ⊥
none_again plan before past a [] h l legal =
    served_waits_no_more (schedules_of plan) past.history a.program a.row l (waited plan before past a legal.0)
none_again plan before past a (e ∷ log) h l legal = none_again plan before (with_entry plan past e) a log
    (within_stays plan past e a.program h) (served_on plan past e a h l) legal.1

once_from : (plan : Plan) (before : Option ℕ) (past : Past) (a : Activation) (log rest : Log) → IsWithin past a.program
    → IsLegalFrom plan before past (log ++ (Done a ∷ (rest ++ Done a ∷ []))) → ⊥
once_from plan before past a [] rest h legal =
    none_again plan before (with_entry plan past (Done a)) a rest (within_stays plan past (Done a) a.program h)
    (served_by_done (schedules_of plan) past.history a.program a.row (waited plan before past a legal.0)) legal.1
once_from plan before past a (e ∷ log) rest h legal =
    once_from plan before (with_entry plan past e) a log rest (within_stays plan past e a.program h) legal.1

pub done_once : (plan : Plan) (start : Store) (before : Option ℕ) (a : Activation) (log rest : Log)
    → IsLegal plan start before (log ++ (Done a ∷ (rest ++ Done a ∷ []))) → ⊥
done_once plan start before a log rest legal =
    once_from plan before (beginning start) a log rest (served_within_first a.program) legal
