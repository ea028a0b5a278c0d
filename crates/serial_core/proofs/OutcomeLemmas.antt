-- The outcomes of a log.
use Rattle.std.proofs.Common.{◌≡◌, suc, List, [], ◌∷◌, ◌++◌, length, Option, refl, ap}
use Rattle.std.specs.List.{fold}
use Rattle.st_types.specs.declared.entry.Entry.{Entry}
use Rattle.st_meaning.specs.declared.outcome.Outcome.{Outcome}
use Rattle.st_meaning.specs.Stores.{Store}
use Rattle.st_meaning.specs.Plans as plans
use Rattle.st_meaning.specs.Logs.{Past, past_of, with_entry, outcome_at, outcomes_from, beginning, outcomes_of}

outcomes_from-add : (plan : plans.Plan) (past : Past) (log : List Entry) (e : Entry)
    → outcomes_from plan past (log ++ e ∷ []) ≡ outcomes_from plan past log
    ++ outcome_at plan (fold (with_entry plan) past log) e ∷ []
outcomes_from-add plan past [] e = refl
outcomes_from-add plan past (x ∷ log) e = ap (λ (os : List (Option Outcome)). outcome_at plan past x ∷ os)
    (outcomes_from-add plan (with_entry plan past x) log e)

-- a log with one entry more
pub outcomes_of-add : (plan : plans.Plan) (start : Store) (log : List Entry) (e : Entry)
    → outcomes_of plan start (log ++ e ∷ []) ≡ outcomes_of plan start log
    ++ outcome_at plan (past_of plan start log) e ∷ []
outcomes_of-add plan start log e = outcomes_from-add plan (beginning start) log e

outcomes_counted : (plan : plans.Plan) (past : Past) (log : List Entry)
    → length (outcomes_from plan past log) ≡ length log
outcomes_counted plan past [] = refl
outcomes_counted plan past (x ∷ log) = ap suc (outcomes_counted plan (with_entry plan past x) log)

-- as many as there are entries
pub outcomes_long : (plan : plans.Plan) (start : Store) (log : List Entry)
    → length (outcomes_of plan start log) ≡ length log
outcomes_long plan start log = outcomes_counted plan (beginning start) log
