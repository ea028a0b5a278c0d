-- Reserved words.
use Rattle.std.specs.Prelude.{ℕ, List, [], ◌∷◌, map, Bool, true, false, Option, codes}
use Rattle.std.specs.Option.{option_map, option_or}
use Rattle.st_types.specs.declared.kind.Kind.{Kind}
use Rattle.st_types.specs.declared.kind.Kind.TheVariants.{Sint, Int, Dint, Lint, Usint, Uint, Udint, Ulint, Byte, Word}
use Rattle.st_types.specs.declared.kind.Kind.TheVariants.{Dword, Lword, Time, Bool as Boolean}
use Rattle.st_types.specs.Kinds.{row_of}
use Rattle.st_lex.specs.declared.keyword.Keyword.{Keyword}
use Rattle.st_lex.specs.declared.keyword.Keyword.TheVariants as k
use Rattle.st_lex.specs.declared.token.TokenKind.{TokenKind}
use Rattle.st_lex.specs.declared.token.TokenKind.TheVariants as kinds
use Rattle.st_lex.specs.Tables.{lookup}

abbrev pub keywords : List (List ℕ × Keyword)
keywords =
    (codes "AND", k.And) ∷ (codes "OR", k.Or) ∷ (codes "XOR", k.Xor) ∷ (codes "NOT", k.Not) ∷ (codes "MOD", k.Mod) ∷
    (codes "IF", k.If) ∷ (codes "THEN", k.Then) ∷ (codes "ELSIF", k.Elsif) ∷ (codes "ELSE", k.Else)
    ∷ (codes "END_IF", k.EndIf) ∷
    (codes "CASE", k.Case) ∷ (codes "OF", k.Of) ∷ (codes "END_CASE", k.EndCase) ∷ (codes "FOR", k.For)
    ∷ (codes "TO", k.To) ∷
    (codes "BY", k.By) ∷ (codes "DO", k.Do) ∷ (codes "END_FOR", k.EndFor) ∷ (codes "WHILE", k.While)
    ∷ (codes "END_WHILE", k.EndWhile) ∷
    (codes "REPEAT", k.Repeat) ∷ (codes "UNTIL", k.Until) ∷ (codes "END_REPEAT", k.EndRepeat) ∷ (codes "EXIT", k.Exit)
    ∷ (codes "RETURN", k.Return) ∷
    (codes "TYPE", k.Type) ∷ (codes "END_TYPE", k.EndType) ∷ (codes "STRUCT", k.Struct)
    ∷ (codes "END_STRUCT", k.EndStruct) ∷ (codes "ARRAY", k.Array) ∷
    (codes "FUNCTION", k.Function) ∷ (codes "END_FUNCTION", k.EndFunction) ∷ (codes "FUNCTION_BLOCK", k.FunctionBlock)
    ∷ (codes "END_FUNCTION_BLOCK", k.EndFunctionBlock) ∷ (codes "PROGRAM", k.Program) ∷
    (codes "END_PROGRAM", k.EndProgram) ∷ (codes "VAR", k.Var) ∷ (codes "VAR_INPUT", k.VarInput)
    ∷ (codes "VAR_OUTPUT", k.VarOutput) ∷ (codes "VAR_EXTERNAL", k.VarExternal) ∷
    (codes "VAR_GLOBAL", k.VarGlobal) ∷ (codes "END_VAR", k.EndVar) ∷ (codes "CONSTANT", k.Constant)
    ∷ (codes "RETAIN", k.Retain) ∷ (codes "NON_RETAIN", k.NonRetain) ∷
    (codes "AT", k.At) ∷ (codes "CONFIGURATION", k.Configuration) ∷ (codes "END_CONFIGURATION", k.EndConfiguration)
    ∷ (codes "RESOURCE", k.Resource) ∷ (codes "ON", k.On) ∷
    (codes "END_RESOURCE", k.EndResource) ∷ (codes "TASK", k.Task) ∷ (codes "WITH", k.With) ∷ (codes "SINGLE", k.Single)
    ∷ (codes "INTERVAL", k.Interval) ∷
    (codes "PRIORITY", k.Priority) ∷ (codes "REAL", k.Real) ∷ (codes "LREAL", k.Lreal) ∷ (codes "STRING", k.String)
    ∷ (codes "WSTRING", k.Wstring) ∷
    (codes "DATE", k.Date) ∷ (codes "VAR_IN_OUT", k.VarInOut) ∷ (codes "VAR_TEMP", k.VarTemp)
    ∷ (codes "VAR_ACCESS", k.VarAccess) ∷ (codes "VAR_CONFIG", k.VarConfig) ∷
    (codes "EN", k.En) ∷ (codes "ENO", k.Eno) ∷
    []

-- the elementary types, each with its name
abbrev pub types : List (List ℕ × Kind)
types = map (λ kind. ((row_of kind).keyword, kind))
    (Sint ∷ Int ∷ Dint ∷ Lint ∷ Usint ∷ Uint ∷ Udint ∷ Ulint ∷ Byte ∷ Word ∷ Dword ∷ Lword ∷ Time ∷ Boolean ∷ [])

abbrev pub bool_words : List (List ℕ × Bool)
bool_words = (codes "TRUE", true) ∷ (codes "FALSE", false) ∷ []

unfoldable pub keyword_of : List ℕ → Option Keyword
keyword_of word = lookup keywords word

unfoldable pub elementary : List ℕ → Option Kind
elementary word = lookup types word

unfoldable pub bool_word : List ℕ → Option Bool
bool_word word = lookup bool_words word

-- the token that a reserved word is
abbrev pub reserved : List ℕ → Option TokenKind
reserved word = option_or (option_map kinds.Keyword (keyword_of word))
    (option_or (option_map kinds.Elementary (elementary word)) (option_map kinds.Truth (bool_word word)))
