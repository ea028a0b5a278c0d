use Rattle.std.proofs.Common.{◌∙◌, arith}
use Rattle.st_types.specs.declared.entry.Entry.TheVariants.{Row, Done}
use Rattle.st_meaning.specs.Logs.{is_row, is_done}
use Rattle.st_meaning.proofs.CountLemmas.{counted_behind, each_counted, rows_counted, dones_counted}
use Rattle.st_meaning.proofs.plan_laws.entries_are_counted.Goals as goal

pub returns-clause-each : goal.returns-clause-each
returns-clause-each c = each_counted

pub returns-clause-rows : goal.returns-clause-rows
returns-clause-rows c = rows_counted

pub returns-clause-dones : goal.returns-clause-dones
returns-clause-dones c = dones_counted

pub returns-clause-row_more : goal.returns-clause-row_more
returns-clause-row_more c = λ log row. counted_behind is_row log (Row row)

pub returns-clause-row_is_no_done : goal.returns-clause-row_is_no_done
returns-clause-row_is_no_done c = λ log row. counted_behind is_done log (Row row) ∙ omega arith

pub returns-clause-done_more : goal.returns-clause-done_more
returns-clause-done_more c = λ log a. counted_behind is_done log (Done a)

pub returns-clause-done_is_no_row : goal.returns-clause-done_is_no_row
returns-clause-done_is_no_row c = λ log a. counted_behind is_row log (Done a) ∙ omega arith
