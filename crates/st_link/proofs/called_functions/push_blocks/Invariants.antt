use Rattle.std.proofs.Common.{◌≡◌, ◌++◌, List, map, drop}
use Rattle.std.specs.List.{flat_map}
use Rattle.st_types.specs.StatementViews.{stmt_view}
use Rattle.st_link.specs.CalledFunctions.{block_called}
use Rattle.st_link.specs.LinkVariables.{LinkVariable}
use Rattle.st_link.specs.Reaching.{HasTypes}
use Rattle.st_link.proofs.called_functions.push_blocks.Given as goal

-- the elements so far and those still to come
abbrev pub invariant-loop-statement : goal.invariant-loop-statement
invariant-loop-statement l = (vs : List LinkVariable) → HasTypes l.types vs → map (λ x. x.now) l.names.items
    ++ flat_map (block_called vs) (map (λ s. stmt_view s.now) (drop l.statement-index l.statements))
    ≡ map (λ x. x.now) l.initial.names.items
    ++ flat_map (block_called vs) (map (λ s. stmt_view s.now) l.statements)
