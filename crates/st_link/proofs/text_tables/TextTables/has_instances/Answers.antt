use Rattle.std.proofs.Common.{ap, sym, ◌∙◌, map}
use Rattle.std.proofs.lemmas.List.{take_all}
use Rattle.st_link.specs.LinkVariables.{variable_view}
use Rattle.st_link.specs.Tables.{has_some, instances_in}
use Rattle.st_link.proofs.HasInstances.{some_there, none_more}
use Rattle.st_link.proofs.text_tables.TextTables.has_instances.Goals as goal

pub returns-then-is_some : goal.returns-then-is_some
returns-then-is_some c text globals serves =
    some_there text c.args.variables.now c.loop-variable.variable-index c.variable-item.result c.block_of_type.result
    c.is_some.result c.loop-variable-test.true c.variable-item.is (c.block_of_type.ensures text globals serves)
    c.is_some.ensures c.if-is_some.true

pub loop-variable-preserved : goal.loop-variable-preserved
loop-variable-preserved c text globals serves =
    none_more text c.args.variables.now c.loop-variable.variable-index c.variable-item.result c.block_of_type.result
    c.is_some.result c.loop-variable-test.true c.variable-item.is (c.block_of_type.ensures text globals serves)
    c.is_some.ensures c.if-is_some.false (c.loop-variable.invariant text globals serves)

pub returns : goal.returns
returns c text globals serves =
    sym (c.loop-variable.invariant text globals serves)
    ∙ ap (λ ys. has_some (instances_in text (map variable_view ys)))
    (take_all c.loop-variable.variable-index c.args.variables.now c.loop-variable-test.false)
