-- The clauses of expressions, initial values, statements and numbers.
use Rattle.std.proofs.Common.{◌+◌, List, Result, arith}
use Rattle.std.specs.Prelude.{IfOk, IfErr}
use Rattle.st_types.specs.declared.limits.TheConstants.{MAX_DEPTH}
use Rattle.st_types.specs.declared.literal.Number.{Number as NumberLeaf}
use Rattle.st_types.specs.Expressions.{Expr}
use Rattle.st_types.specs.Initials.{Initial}
use Rattle.st_types.specs.Statements.{Stmt, stmts_of}
use Rattle.st_types.specs.Depths.{depth_of, depth_of_initial, deepest_stmt}
use Rattle.st_parse.specs.declared.fault.ReadError.{ReadError}
use Rattle.st_parse.specs.Tokens.{Tokens, IsNumber}
use Rattle.st_parse.specs.Parsers.{Gives, number_at}
use Rattle.st_parse.specs.ExpressionReading.{expr_at}
use Rattle.st_parse.specs.InitialReading.{initial_at}
use Rattle.st_parse.specs.StatementReading.{stmts_at}
use Rattle.st_parse.specs.Laws.{IsRead, Applies, GivesTree, Anywhere}
use Rattle.st_parse.specs.Expressions.{IsExpr}
use Rattle.st_parse.specs.Initials.{IsInitial}
use Rattle.st_parse.specs.Statements.{IsStmts}
use Rattle.st_parse.specs.Limits.{IsShallow, IsShallowInitial, AreShallow, HasDepthOne, EndsExpression}
use Rattle.st_parse.specs.Limits.{EndsStatements}
use Rattle.st_parse.proofs.Sound.{Told, Any, told_as}
use Rattle.st_parse.proofs.SoundReadings.{told_by, sound_number}
use Rattle.st_parse.proofs.SoundExpressions.{LowExpr, Low, told_expr}
use Rattle.st_parse.proofs.SoundInitials.{LowInitial, told_initial}
use Rattle.st_parse.proofs.SoundSimple.{LowStmts}
use Rattle.st_parse.proofs.SoundStatements.{told_stmts}
use Rattle.st_parse.proofs.Complete.{number_complete}
use Rattle.st_parse.proofs.CompleteExpressions.{expr_complete}
use Rattle.st_parse.proofs.CompleteInitials.{initial_complete}
use Rattle.st_parse.proofs.CompleteStatements.{all_complete}
use Rattle.st_parse.proofs.Prefix.{found_is, refused_is, only_is}

module _ {X : Type 0} where
  module _ (view : X → Expr × Tokens) (ts : Tokens) (result : Result X ReadError)
      (given : Gives view result (expr_at MAX_DEPTH 1 ts)) where
    expression_told : Told (λ n. expr_at (MAX_DEPTH + n) 1) (IsExpr 1) (Low MAX_DEPTH) ts (expr_at (MAX_DEPTH + 0) 1 ts)
    expression_told =
        told_as (λ n. expr_at (MAX_DEPTH + n) 1) (IsExpr 1) (IsExpr 1) (LowExpr MAX_DEPTH 1) (Low MAX_DEPTH)
        (λ ts x us i. i) (λ x us d. d.0) ts (expr_at (MAX_DEPTH + 0) 1 ts) (told_expr MAX_DEPTH 1 (omega arith) ts)

    pub expression_found :
        IfOk result (λ x. IsRead (IsExpr 1) EndsExpression ts (view x).0 (view x).1 × IsShallow (view x).0)
    expression_found =
        found_is (λ n. expr_at (MAX_DEPTH + n) 1) (IsExpr 1) EndsExpression (Low MAX_DEPTH) IsShallow depth_of
        (λ n ts x us i ends low. expr_complete (MAX_DEPTH + n) i low ends) (λ x l. l) view
        ts result expression_told given

    pub expression_refused : IfErr result (λ e. Applies (IsExpr 1) EndsExpression IsShallow ts e)
    expression_refused =
        refused_is (λ n. expr_at (MAX_DEPTH + n) 1) (IsExpr 1) EndsExpression (Low MAX_DEPTH) IsShallow depth_of
        (λ n ts x us i ends low. expr_complete (MAX_DEPTH + n) i low ends) (λ x l. l) view
        ts result expression_told given

    pub expression_only : (x : Expr) (us : Tokens) → IsExpr 1 ts x us → EndsExpression us → IsShallow x
        → GivesTree view result x us
    expression_only = only_is (λ n. expr_at (MAX_DEPTH + n) 1) (IsExpr 1) EndsExpression (Low MAX_DEPTH) IsShallow
        depth_of (λ n ts x us i ends low. expr_complete (MAX_DEPTH + n) i low ends) (λ x l. l) view ts result given

  module _ (view : X → Initial × Tokens) (ts : Tokens) (result : Result X ReadError)
      (given : Gives view result (initial_at MAX_DEPTH ts)) where
    pub initial_found :
        IfOk result (λ x. IsRead IsInitial Anywhere ts (view x).0 (view x).1 × IsShallowInitial (view x).0)
    initial_found = found_is (λ n. initial_at (MAX_DEPTH + n)) IsInitial Anywhere (LowInitial MAX_DEPTH)
        IsShallowInitial depth_of_initial (λ n ts x us i ends low. initial_complete i (MAX_DEPTH + n) low) (λ x l. l)
        view ts result (told_initial MAX_DEPTH ts) given

    pub initial_refused : IfErr result (λ e. Applies IsInitial Anywhere IsShallowInitial ts e)
    initial_refused = refused_is (λ n. initial_at (MAX_DEPTH + n)) IsInitial Anywhere (LowInitial MAX_DEPTH)
        IsShallowInitial depth_of_initial (λ n ts x us i ends low. initial_complete i (MAX_DEPTH + n) low) (λ x l. l)
        view ts result (told_initial MAX_DEPTH ts) given

    pub initial_only : (x : Initial) (us : Tokens) → IsInitial ts x us → IsShallowInitial x → GivesTree view result x us
    initial_only x us i low = only_is (λ n. initial_at (MAX_DEPTH + n)) IsInitial Anywhere (LowInitial MAX_DEPTH)
        IsShallowInitial depth_of_initial (λ n ts x us i ends low. initial_complete i (MAX_DEPTH + n) low) (λ x l. l)
        view ts result given x us i tt low

  module _ (view : X → List Stmt × Tokens) (ts : Tokens) (result : Result X ReadError)
      (given : Gives view result (stmts_at MAX_DEPTH ts)) where
    statements_told : Told (λ n. stmts_at (MAX_DEPTH + n)) IsStmts (LowStmts MAX_DEPTH) ts (stmts_at (MAX_DEPTH + 0) ts)
    statements_told = told_as (λ n. stmts_at (MAX_DEPTH + n)) IsStmts IsStmts _ (LowStmts MAX_DEPTH) (λ ts x us i. i)
        (λ x us d. d.0) ts (stmts_at (MAX_DEPTH + 0) ts) (told_stmts MAX_DEPTH ts)

    pub statements_found :
        IfOk result (λ x. IsRead IsStmts EndsStatements ts (view x).0 (view x).1 × AreShallow (view x).0)
    statements_found = found_is (λ n. stmts_at (MAX_DEPTH + n)) IsStmts EndsStatements (LowStmts MAX_DEPTH) AreShallow
        (λ xs. deepest_stmt (stmts_of xs)) (λ n ts x us i ends low. all_complete (MAX_DEPTH + n) i low ends) (λ x l. l)
        view ts result statements_told given

    pub statements_refused : IfErr result (λ e. Applies IsStmts EndsStatements AreShallow ts e)
    statements_refused = refused_is (λ n. stmts_at (MAX_DEPTH + n)) IsStmts EndsStatements (LowStmts MAX_DEPTH)
        AreShallow (λ xs. deepest_stmt (stmts_of xs)) (λ n ts x us i ends low. all_complete (MAX_DEPTH + n) i low ends)
        (λ x l. l) view ts result statements_told given

    pub statements_only : (xs : List Stmt) (us : Tokens) → IsStmts ts xs us → EndsStatements us → AreShallow xs
        → GivesTree view result xs us
    statements_only = only_is (λ n. stmts_at (MAX_DEPTH + n)) IsStmts EndsStatements (LowStmts MAX_DEPTH) AreShallow
        (λ xs. deepest_stmt (stmts_of xs)) (λ n ts x us i ends low. all_complete (MAX_DEPTH + n) i low ends) (λ x l. l)
        view ts result given

  module _ (view : X → NumberLeaf × Tokens) (ts : Tokens) (result : Result X ReadError)
      (given : Gives view result (number_at ts)) where
    pub number_found : IfOk result (λ x. IsRead IsNumber Anywhere ts (view x).0 (view x).1 × Unit {0})
    number_found = found_is (λ n. number_at) IsNumber Anywhere Any HasDepthOne (λ x. 0)
        (λ n ts x us i ends low. number_complete i) (λ x l. omega arith) view ts result (told_by sound_number ts) given

    pub number_refused : IfErr result (λ e. Applies IsNumber Anywhere HasDepthOne ts e)
    number_refused = refused_is (λ n. number_at) IsNumber Anywhere Any HasDepthOne (λ x. 0)
        (λ n ts x us i ends low. number_complete i) (λ x l. omega arith) view ts result (told_by sound_number ts) given

    pub number_only : (x : NumberLeaf) (us : Tokens) → IsNumber ts x us → GivesTree view result x us
    number_only x us i = only_is (λ n. number_at) IsNumber Anywhere Any HasDepthOne (λ x. 0)
        (λ n ts x us i ends low. number_complete i) (λ x l. omega arith) view ts result given x us i tt tt
