-- Units, by the resolutions of their parts.
use Rattle.std.proofs.Common.{◌≡◌, ◌∙◌, ap, List, map}
use Rattle.st_types.specs.declared.identifier.Identifier.{Identifier}
use Rattle.st_types.specs.declared.unit.UnitSort.{UnitSort}
use Rattle.st_types.specs.Declarations.{VariableBlock}
use Rattle.st_types.specs.Statements.{Stmt}
use Rattle.st_types.specs.Units.{OrganisationUnit}
use Rattle.st_meaning.specs.NameTypes.{Declared}
use Rattle.st_meaning.specs.ResolvedUnits.{resolved, resolved_block, resolved_stmt}

abbrev unit : UnitSort → Identifier → List VariableBlock → List Stmt → OrganisationUnit
unit sort name blocks body = record { sort = sort; name = name; blocks = blocks; body = body }

pub unit_resolved : (text : Declared) (u : OrganisationUnit) (sort : UnitSort) (name : Identifier)
    (blocks : List VariableBlock) (body : List Stmt) → sort ≡ u.sort → name ≡ u.name
    → blocks ≡ map (resolved_block text) u.blocks → body ≡ map (resolved_stmt text u) u.body
    → unit sort name blocks body ≡ resolved text u
unit_resolved text u sort name blocks body same_sort same_name each_block each =
    ap (λ s. unit s name blocks body) same_sort ∙ ap (λ x. unit u.sort x blocks body) same_name
    ∙ ap (λ bs. unit u.sort u.name bs body) each_block ∙ ap (unit u.sort u.name (map (resolved_block text) u.blocks)) each
