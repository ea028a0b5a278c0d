-- How many rows and executions a log has.
use Rattle.std.proofs.Common.{◌≡◌, refl, arith, suc, ◌+◌, ◌++◌, Bool, [], ◌∷◌, length}
use Rattle.std.proofs.Common.{count_by, cond, length-append}
use Rattle.std.specs.Prelude.{fold}
use Rattle.std.proofs.lemmas.List.Sums.{sum_by-append, sum_by-cons}
use Rattle.st_meaning.specs.Stores.{Store}
use Rattle.st_types.specs.declared.entry.Entry.{Entry}
use Rattle.st_types.specs.declared.entry.Entry.TheVariants.{Row, Done}
use Rattle.st_meaning.specs.Plans.{Plan}
use Rattle.st_meaning.specs.Logs.{Log, Past, with_entry, beginning, past_of, is_row, is_done, row_count, done_count}

-- one entry before the others
counted : (test : Entry → Bool) (e : Entry) (log : Log)
    → count_by test (e ∷ log) ≡ cond (test e) 1 0 + count_by test log
counted test e log = sum_by-cons (λ x. cond (test x) 1 0) e log

-- one entry after the others
pub counted_behind : (test : Entry → Bool) (log : Log) (e : Entry)
    → count_by test (log ++ e ∷ []) ≡ count_by test log + (0 + cond (test e) 1 0)
counted_behind test log e = sum_by-append (λ x. cond (test x) 1 0) log (e ∷ [])

pub each_counted : (log : Log) → row_count log + done_count log ≡ length log
each_counted [] = refl
each_counted (Row row ∷ log) =
    let rest = each_counted log in
    let rows : count_by is_row (Row row ∷ log) ≡ 1 + count_by is_row log = counted is_row (Row row) log in
    let dones : count_by is_done (Row row ∷ log) ≡ 0 + count_by is_done log = counted is_done (Row row) log in
    let all : length (Row row ∷ log) ≡ suc (length log) = refl in
    rw (rows, dones, all) (omega arith)
each_counted (Done a ∷ log) =
    let rest = each_counted log in
    let rows : count_by is_row (Done a ∷ log) ≡ 0 + count_by is_row log = counted is_row (Done a) log in
    let dones : count_by is_done (Done a ∷ log) ≡ 1 + count_by is_done log = counted is_done (Done a) log in
    let all : length (Done a ∷ log) ≡ suc (length log) = refl in
    rw (rows, dones, all) (omega arith)

rows_from : (plan : Plan) (past : Past) (log : Log)
    → length (fold (with_entry plan) past log).rows ≡ length past.rows + row_count log
rows_from plan past [] = omega arith
rows_from plan past (Row row ∷ log) =
    let rest = rows_from plan (with_entry plan past (Row row)) log in
    let rows : count_by is_row (Row row ∷ log) ≡ 1 + count_by is_row log = counted is_row (Row row) log in
    rw rows (omega (arith, rest, length-append past.rows (row ∷ [])))
rows_from plan past (Done a ∷ log) =
    let rest = rows_from plan (with_entry plan past (Done a)) log in
    let rows : count_by is_row (Done a ∷ log) ≡ 0 + count_by is_row log = counted is_row (Done a) log in
    rw rows (omega (arith, rest))

dones_from : (plan : Plan) (past : Past) (log : Log)
    → length (fold (with_entry plan) past log).history.runs ≡ length past.history.runs + done_count log
dones_from plan past [] = omega arith
dones_from plan past (Row row ∷ log) =
    let rest = dones_from plan (with_entry plan past (Row row)) log in
    let dones : count_by is_done (Row row ∷ log) ≡ 0 + count_by is_done log = counted is_done (Row row) log in
    rw dones (omega (arith, rest))
dones_from plan past (Done a ∷ log) =
    let rest = dones_from plan (with_entry plan past (Done a)) log in
    let dones : count_by is_done (Done a ∷ log) ≡ 1 + count_by is_done log = counted is_done (Done a) log in
    let more = length-append past.history.runs
    (record { program = a.program; rows = length past.history.sampled } ∷ []) in
    rw dones (omega (arith, rest, more))

pub rows_counted : (plan : Plan) (start : Store) (log : Log) → length (past_of plan start log).rows ≡ row_count log
rows_counted plan start log =
    let from : length (past_of plan start log).rows ≡ 0 + row_count log = rows_from plan (beginning start) log in
    omega (arith, from)

pub dones_counted : (plan : Plan) (start : Store) (log : Log)
    → length (past_of plan start log).history.runs ≡ done_count log
dones_counted plan start log =
    let from : length (past_of plan start log).history.runs ≡ 0 + done_count log =
    dones_from plan (beginning start) log in
    omega (arith, from)
