-- Literals as the grammar gives them, and bodies of such literals, each of whose calls of functions has a property.
use Rattle.std.specs.Prelude.{◌≡◌, ◌≤◌, pos, List, [], ◌∷◌, length, true, Option, Some, None}
use Rattle.st_types.specs.declared.kind.Kind.{Kind}
use Rattle.st_types.specs.declared.kind.Kind.TheVariants.{Time, Enumerated}
use Rattle.st_types.specs.declared.literal.Literal.{Literal}
use Rattle.st_types.specs.declared.literal.Literal.TheVariants as literals
use Rattle.st_types.specs.Kinds.{holds}
use Rattle.st_types.specs.declared.statement.Label.{Label}
use Rattle.st_types.specs.declared.statement.Label.TheVariants as labels
use Rattle.st_types.specs.Expressions as named
use Rattle.st_types.specs.Expressions.{Expr, literal, read, parenthesis, Exprs, Variable, variable, member, subscript}
use Rattle.st_types.specs.Expressions.{Selectors, no_selectors, selector_then}
use Rattle.st_types.specs.Statements as text
use Rattle.st_types.specs.Statements.{Argument, Stmt, Stmts, stmts_of, Arms, CaseArms}
use Rattle.st_types.specs.declared.data_type.ArrayType.{ArrayType}
use Rattle.st_types.specs.Sources.{Source}
use Rattle.st_types.specs.Units.{OrganisationUnit}
use Rattle.st_meaning.specs.NameTypes.{units_in}
use Rattle.st_meaning.specs.Enumerations.{Enumeration}
use Rattle.st_meaning.specs.Scopes.{Name}
use Rattle.st_rules.specs.DeclaredTypes.{arrays_in}
use Rattle.st_rules.specs.declared.limits.TheConstants.{MAX_NAMES}

-- no enumerated type has more names than the language allows
abbrev pub HaveFewNames : List Enumeration → Type 0
HaveFewNames [] = Unit {0}
HaveFewNames (e ∷ es) = (length e.names ≤ MAX_NAMES) × HaveFewNames es

-- no enumerated type is before a `#`
abbrev pub IsKeyword : Option Kind → Type 0
IsKeyword (Some (Enumerated names number)) = ⊥
IsKeyword _ = Unit {0}

-- a duration is one that a TIME holds
abbrev pub IsSpelledLiteral : Literal → Type 0
IsSpelledLiteral (literals.Number n) = Unit {0}
IsSpelledLiteral (literals.Truth at b) = Unit {0}
IsSpelledLiteral (literals.Duration at n) = holds Time (pos n) ≡ true
IsSpelledLiteral (literals.Enumerated v) = Unit {0}

abbrev pub IsSpelledLabel : Label → Type 0
IsSpelledLabel (labels.Single n) = IsKeyword n.written
IsSpelledLabel (labels.Range a b) = IsKeyword a.written × IsKeyword b.written
IsSpelledLabel (labels.Enumerated v) = Unit {0}

abbrev pub AreSpelledLabels : List Label → Type 0
AreSpelledLabels [] = Unit {0}
AreSpelledLabels (l ∷ ls) = IsSpelledLabel l × AreSpelledLabels ls

-- any function
abbrev pub IsAny : Name → Type 0
IsAny f = Unit {0}

module _ (Called : Name → Type 0) where
  abbrev mutual
    pub ExprOf : Expr → Type 0
    ExprOf (literal l) = IsSpelledLiteral l
    ExprOf (read v) = VariableOf v
    ExprOf (named.call f es) = Called f.name × ExprsOf es
    ExprOf (parenthesis at e) = ExprOf e
    ExprOf (named.unary op at e) = ExprOf e
    ExprOf (named.binary op l r) = ExprOf l × ExprOf r

    pub ExprsOf : Exprs → Type 0
    ExprsOf named.no_exprs = Unit {0}
    ExprsOf (named.expr_then e es) = ExprOf e × ExprsOf es

    pub VariableOf : Variable → Type 0
    VariableOf (variable x xs) = SelectorsOf xs

    pub SelectorsOf : Selectors → Type 0
    SelectorsOf no_selectors = Unit {0}
    SelectorsOf (selector_then (member x) xs) = SelectorsOf xs
    SelectorsOf (selector_then (subscript e) xs) = ExprOf e × SelectorsOf xs

  abbrev pub StepOf : Option Expr → Type 0
  StepOf None = Unit {0}
  StepOf (Some e) = ExprOf e

  abbrev pub ArgumentsOf : List Argument → Type 0
  ArgumentsOf [] = Unit {0}
  ArgumentsOf (text.given x e ∷ rest) = ExprOf e × ArgumentsOf rest
  ArgumentsOf (text.copied x v ∷ rest) = VariableOf v × ArgumentsOf rest

  abbrev mutual
    pub StmtOf : Stmt → Type 0
    StmtOf text.empty = Unit {0}
    StmtOf (text.assign v e) = VariableOf v × ExprOf e
    StmtOf (text.invoke x arguments) = ArgumentsOf arguments
    StmtOf (text.IF arms otherwise) = ArmsOf arms × StmtsOf otherwise
    StmtOf (text.CASE e arms otherwise) = ExprOf e × CaseArmsOf arms × StmtsOf otherwise
    StmtOf (text.FOR x start limit step body) = ExprOf start × ExprOf limit × StepOf step × StmtsOf body
    StmtOf (text.WHILE e body) = ExprOf e × StmtsOf body
    StmtOf (text.REPEAT body e) = StmtsOf body × ExprOf e
    StmtOf (text.EXIT at) = Unit {0}
    StmtOf text.RETURN = Unit {0}

    pub StmtsOf : Stmts → Type 0
    StmtsOf text.no_stmts = Unit {0}
    StmtsOf (text.stmt_then x xs) = StmtOf x × StmtsOf xs

    pub ArmsOf : Arms → Type 0
    ArmsOf text.no_arms = Unit {0}
    ArmsOf (text.arm_then e body arms) = ExprOf e × StmtsOf body × ArmsOf arms

    pub CaseArmsOf : CaseArms → Type 0
    CaseArmsOf text.no_case_arms = Unit {0}
    CaseArmsOf (text.case_arm_then labels body arms) = AreSpelledLabels labels × StmtsOf body × CaseArmsOf arms

-- units whose literals are as the grammar gives them
abbrev pub AreSpelled : List OrganisationUnit → Type 0
AreSpelled [] = Unit {0}
AreSpelled (u ∷ us) = StmtsOf IsAny (stmts_of u.body) × AreSpelled us

-- so are those of bounds
abbrev pub AreSpelledArrays : List ArrayType → Type 0
AreSpelledArrays [] = Unit {0}
AreSpelledArrays (a ∷ rest) = IsKeyword a.lower.written × AreSpelledArrays rest

pub record IsSpelled (source : Source) : Type 0 where
  pub units : AreSpelled (units_in source)
  pub arrays : AreSpelledArrays (arrays_in source)
