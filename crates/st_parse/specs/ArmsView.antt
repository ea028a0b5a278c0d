-- The arms of a CASE in the definitions, for those that the code reads.
use Rattle.st_types.specs.StatementViews.{case_arm_view, stmt_view}
use Rattle.st_parse.specs.declared.arms.Arms as code
use Rattle.st_parse.specs.Parsers.{each}
use Rattle.st_parse.specs.StatementReading.{Arms}

abbrev pub arms_view : code.Arms → Arms
arms_view a =
    record { before = each case_arm_view a.before; labels = a.labels.items; body = each stmt_view a.body }
