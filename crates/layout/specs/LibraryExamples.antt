-- Words for worked examples of a text in the terms of the meaning: texts with functions, blocks in blocks and externals.
use Rattle.std.specs.Prelude.{ℕ, pos, List, [], ◌∷◌, map, Some, None, codes}
use Rattle.st_types.specs.declared.kind.Kind.TheVariants.{Int, Dint, Bool as Boolean}
use Rattle.st_types.specs.declared.operator.BinaryOperator.TheVariants.{Add}
use Rattle.st_types.specs.Values.{Datum}
use Rattle.st_types.specs.declared.data_type.SimpleType.TheVariants.{Elementary}
use Rattle.st_types.specs.declared.declaration.Section.TheVariants as sections
use Rattle.st_types.specs.declared.unit.UnitSort.TheVariants as sorts
use Rattle.st_types.specs.Expressions.{read, call, binary, exprs_of}
use Rattle.st_types.specs.Initials.{single}
use Rattle.st_types.specs.Statements.{Stmt}
use Rattle.st_types.specs.Units.{OrganisationUnit}
use Rattle.st_types.specs.Sources.{Source}
use Rattle.st_meaning.specs.CallExamples.{dotted, giving, copying, invoked}
use Rattle.st_meaning.specs.ProgramExamples.{identifier, declared, name, set, untyped}
use Rattle.st_meaning.specs.ResolutionExamples.{of_type}
use Rattle.st_meaning.specs.Runs.{Program, store_after}
use Rattle.st_meaning.specs.Stores.{Store}
use Rattle.layout.specs.TextLayouts.{plan_variables_of_text, initial_values}
use Rattle.layout.specs.Libraries.{programs_of_text}
use Rattle.layout.specs.LayoutExamples.{plain, array_of, without_initial, with_initial, amount, listing}
use Rattle.layout.specs.LayoutExamples.{variables_in}
use Rattle.layout.specs.LayoutExamples.{unit_with, text_of, global, globals_of, configured, resource, instance}
use Rattle.layout.specs.LayoutExamples.{path_shown}

-- FUNCTION Sum : DINT VAR_INPUT a, b : INT; END_VAR VAR c : ARRAY [0..1] OF INT := [1]; END_VAR
-- VAR CONSTANT k : INT := 3; END_VAR VAR_INPUT d : BOOL; END_VAR Sum := 4; END_FUNCTION
abbrev pub sum : OrganisationUnit
sum = unit_with (sorts.Function (Elementary Dint 0)) (codes "SUM") (
    variables_in (sections.Input None) (record {
      names = identifier (codes "A") ∷ identifier (codes "B") ∷ [];
      declared = plain Int;
      initial = None;
    } ∷ [])
    ∷ variables_in (sections.Local None)
    (with_initial (codes "C") (array_of 0 1 (Elementary Int 0)) (listing (single (amount 1) ∷ [])) ∷ [])
    ∷ variables_in sections.Constant (with_initial (codes "K") (plain Int) (amount 3) ∷ [])
    ∷ variables_in (sections.Input None) (declared (codes "D") Boolean ∷ [])
    ∷ []) (set (codes "SUM") (untyped (pos 4)) ∷ [])

-- FUNCTION Twice : INT VAR_INPUT v : INT; END_VAR Twice := v + v; END_FUNCTION
abbrev pub twice : OrganisationUnit
twice = unit_with (sorts.Function (Elementary Int 0)) (codes "TWICE")
    (variables_in (sections.Input None) (declared (codes "V") Int ∷ []) ∷ [])
    (set (codes "TWICE") (binary Add (name (codes "V")) (name (codes "V"))) ∷ [])

-- FUNCTION_BLOCK Acc VAR_INPUT step : INT := 2; END_VAR VAR_OUTPUT total : INT := 10; END_VAR
-- total := total + step; END_FUNCTION_BLOCK
abbrev pub acc : OrganisationUnit
acc = unit_with sorts.FunctionBlock (codes "ACC") (
    variables_in (sections.Input None) (with_initial (codes "STEP") (plain Int) (amount 2) ∷ [])
    ∷ variables_in (sections.Output None) (with_initial (codes "TOTAL") (plain Int) (amount 10) ∷ [])
    ∷ []) (set (codes "TOTAL") (binary Add (name (codes "TOTAL")) (name (codes "STEP"))) ∷ [])

-- g := g + 1;
abbrev pub one_more : Stmt
one_more = set (codes "G") (binary Add (name (codes "G")) (untyped (pos 1)))

-- FUNCTION_BLOCK Outer VAR a : Acc; t : TON; END_VAR VAR_OUTPUT p : INT; END_VAR VAR_EXTERNAL g : INT; END_VAR
-- a(step := 3); p := Twice(a.total); g := g + 1; END_FUNCTION_BLOCK
abbrev pub outer : OrganisationUnit
outer = unit_with sorts.FunctionBlock (codes "OUTER") (
    variables_in (sections.Local None) (without_initial (codes "A") (of_type (codes "ACC"))
    ∷ without_initial (codes "T") (of_type (codes "TON")) ∷ [])
    ∷ variables_in (sections.Output None) (declared (codes "P") Int ∷ [])
    ∷ variables_in sections.External (declared (codes "G") Int ∷ [])
    ∷ []) (
    invoked (codes "A") (giving (codes "STEP") (untyped (pos 3)) ∷ [])
    ∷ set (codes "P") (call (identifier (codes "TWICE")) (exprs_of (read (dotted (codes "A") (codes "TOTAL")) ∷ [])))
    ∷ one_more
    ∷ [])

-- PROGRAM Pr VAR o : Outer; x : INT; END_VAR VAR_EXTERNAL g : INT; END_VAR VAR_EXTERNAL CONSTANT h : INT; END_VAR
-- o(p => x); g := g + 1; END_PROGRAM
abbrev pub main : OrganisationUnit
main = unit_with sorts.Program (codes "PR") (
    variables_in (sections.Local None) (without_initial (codes "O") (of_type (codes "OUTER"))
    ∷ declared (codes "X") Int ∷ [])
    ∷ variables_in sections.External (declared (codes "G") Int ∷ [])
    ∷ variables_in sections.ConstantExternal (declared (codes "H") Int ∷ [])
    ∷ []) (invoked (codes "O") (copying (codes "P") (codes "X") ∷ []) ∷ one_more ∷ [])

-- with VAR_GLOBAL g : INT := 5; h : INT; END_VAR and the instances P and Q of Pr on R
abbrev pub text_of_calls : Source
text_of_calls = text_of [] (main ∷ outer ∷ sum ∷ acc ∷ twice ∷ []) (configured (
    globals_of None (global (codes "G") (plain Int) (Some (amount 5)) ∷ global (codes "H") (plain Int) None ∷ []) ∷ [])
    (resource (codes "R") (instance (codes "P") (codes "PR") ∷ instance (codes "Q") (codes "PR") ∷ []) ∷ []))

-- a store with its paths as they are written
abbrev pub shown : Store → List (List ℕ × Datum)
shown s = map (λ e. (path_shown e.0, e.1)) s

-- the resource and the instance of each program
abbrev pub owner_names : Program → List ℕ × List ℕ
owner_names p = (p.owner.resource, p.owner.instance)

abbrev pub owners_in : Source → List (List ℕ × List ℕ)
owners_in source = map owner_names (programs_of_text source)

-- the variables of a text after one run of each of its programs, each from the initial values
abbrev pub stores_after_one_run : Source → List (List (List ℕ × Datum))
stores_after_one_run source =
    map (λ p. shown (store_after p 100 (initial_values (plan_variables_of_text source)) [] 0)) (programs_of_text source)
