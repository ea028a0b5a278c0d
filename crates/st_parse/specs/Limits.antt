-- How deep a tree of a text may be, and what may follow an expression and statements.
use Rattle.std.specs.Prelude.{◌≡◌, ◌≤◌, false, List}
use Rattle.st_types.specs.declared.limits.TheConstants.{MAX_DEPTH}
use Rattle.st_types.specs.declared.literal.Number.{Number}
use Rattle.st_types.specs.Expressions.{Expr}
use Rattle.st_types.specs.Initials.{Initial}
use Rattle.st_types.specs.Statements.{Stmt, stmts_of}
use Rattle.st_types.specs.Depths.{depth_of, depth_of_initial, deepest_stmt}
use Rattle.st_parse.specs.Tokens.{Tokens, next}
use Rattle.st_parse.specs.ExpressionReading.{continues}
use Rattle.st_parse.specs.StatementReading.{starts_stmt}

abbrev pub IsShallow : Expr → Type 0
IsShallow x = depth_of x ≤ MAX_DEPTH

abbrev pub IsShallowInitial : Initial → Type 0
IsShallowInitial x = depth_of_initial x ≤ MAX_DEPTH

abbrev pub AreShallow : List Stmt → Type 0
AreShallow xs = deepest_stmt (stmts_of xs) ≤ MAX_DEPTH

abbrev pub HasDepthOne : Number → Type 0
HasDepthOne n = Unit {0}

-- before a token that can't go on an expression: an operator, `(`, `[` or `.`
abbrev pub EndsExpression : Tokens → Type 0
EndsExpression us = next continues us ≡ false

-- before a token that doesn't begin a statement
abbrev pub EndsStatements : Tokens → Type 0
EndsStatements us = next starts_stmt us ≡ false
