-- The control variables of the FORs in statements.
use Rattle.st_meaning.specs.Scopes.{Name}
use Rattle.st_types.specs.Statements as text
use Rattle.st_types.specs.Statements.{Stmt, Stmts, Arms, CaseArms}

module _ (Own : Name → Type 0) where
  abbrev mutual
    pub StmtCounts : Stmt → Type 0
    StmtCounts text.empty = Unit {0}
    StmtCounts (text.assign v e) = Unit {0}
    StmtCounts (text.invoke x arguments) = Unit {0}
    StmtCounts (text.IF arms otherwise) = ArmsCount arms × StmtsCount otherwise
    StmtCounts (text.CASE e arms otherwise) = CaseArmsCount arms × StmtsCount otherwise
    StmtCounts (text.FOR x start limit step body) = Own x.name × StmtsCount body
    StmtCounts (text.WHILE e body) = StmtsCount body
    StmtCounts (text.REPEAT body e) = StmtsCount body
    StmtCounts (text.EXIT at) = Unit {0}
    StmtCounts text.RETURN = Unit {0}

    pub StmtsCount : Stmts → Type 0
    StmtsCount text.no_stmts = Unit {0}
    StmtsCount (text.stmt_then x xs) = StmtCounts x × StmtsCount xs

    pub ArmsCount : Arms → Type 0
    ArmsCount text.no_arms = Unit {0}
    ArmsCount (text.arm_then e body arms) = StmtsCount body × ArmsCount arms

    pub CaseArmsCount : CaseArms → Type 0
    CaseArmsCount text.no_case_arms = Unit {0}
    CaseArmsCount (text.case_arm_then labels body arms) = StmtsCount body × CaseArmsCount arms
