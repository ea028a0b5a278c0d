-- Words for a worked run over all sorts of parts: elements and fields of an enumerated type, instances and an input.
use Rattle.std.specs.Prelude.{ℕ, pos, List, [], ◌∷◌, map, Some, None, codes}
use Rattle.st_types.specs.declared.kind.Kind.TheVariants.{Int, Bool as Boolean}
use Rattle.st_types.specs.declared.literal.Literal.TheVariants as literals
use Rattle.st_types.specs.Values.{Datum}
use Rattle.st_types.specs.declared.configuration.Direction.TheVariants.{Input}
use Rattle.st_types.specs.declared.configuration.GlobalQualifier.TheVariants as qualifiers
use Rattle.st_types.specs.declared.declaration.Section.TheVariants as sections
use Rattle.st_types.specs.declared.unit.UnitSort.TheVariants as sorts
use Rattle.st_types.specs.Configurations.{Configuration}
use Rattle.st_types.specs.Expressions.{literal, read, call, exprs_of, Variable, variable, member, subscript}
use Rattle.st_types.specs.Expressions.{selectors_of}
use Rattle.st_types.specs.Initials.{single}
use Rattle.st_types.specs.Sources.{Source}
use Rattle.st_types.specs.Statements.{Stmt, empty, assign, CASE, FOR, stmts_of, case_arms_of}
use Rattle.st_types.specs.Units.{OrganisationUnit}
use Rattle.st_meaning.specs.CallExamples.{dotted, giving, copying, invoked}
use Rattle.st_meaning.specs.EnumerationExamples.{name_label, typed, MODE, RUNNING, FAULT}
use Rattle.st_meaning.specs.ProgramExamples.{identifier, declared, name, set, untyped, A, I, K}
use Rattle.st_meaning.specs.ResolutionExamples.{of_type}
use Rattle.st_meaning.specs.Runs.{store_after}
use Rattle.st_meaning.specs.Scopes.{Name, unowned}
use Rattle.layout.specs.TextLayouts.{plan_variables_of_text, initial_values}
use Rattle.layout.specs.Libraries.{programs_of_text}
use Rattle.layout.specs.InitialExamples.{modes}
use Rattle.layout.specs.LayoutExamples.{plain, array_of, named, without_initial, with_initial, amount, named_value}
use Rattle.layout.specs.LayoutExamples.{listing, with_fields, variables_in, unit_with, global, global_at, bit_at}
use Rattle.layout.specs.LayoutExamples.{globals_of, configured, resource, instance, text_of, datum}
use Rattle.layout.specs.LibraryExamples.{acc, twice, shown}

-- a[i].x
abbrev pub field_of_element : Name → Variable
field_of_element x = variable (identifier A) (selectors_of (subscript (name I) ∷ member (identifier x) ∷ []))

-- FOR i := 1 TO 2 DO CASE a[i].n OF Running : a[i].m := Mode#Fault; k := i; ELSE ; END_CASE; END_FOR;
abbrev pub counting_over_elements : Stmt
counting_over_elements = FOR (identifier I) (untyped (pos 1)) (untyped (pos 2)) None (stmts_of (
    CASE (read (field_of_element (codes "N"))) (case_arms_of (
    (name_label RUNNING ∷ [], stmts_of (assign (field_of_element (codes "M")) (typed MODE FAULT) ∷ set K (name I) ∷ []))
    ∷ [])) (stmts_of (empty ∷ []))
    ∷ []))

-- PROGRAM Pr VAR a : ARRAY [1..2] OF Rec := [(n := Fault)]; i : INT; k : INT; c : Acc; t : TON; END_VAR
-- VAR_EXTERNAL CONSTANT s : BOOL; END_VAR VAR_EXTERNAL g : INT; END_VAR
-- FOR .. END_FOR; c(step := k, total => k); g := Twice(c.total); t(in := s, pt := T#10ms); END_PROGRAM
abbrev pub over_parts : OrganisationUnit
over_parts = unit_with sorts.Program (codes "PR") (
    variables_in (sections.Local None) (
    with_initial A (array_of 1 2 (named (codes "REC")))
    (listing (single (with_fields ((codes "N", named_value FAULT) ∷ [])) ∷ []))
    ∷ declared I Int
    ∷ declared K Int
    ∷ without_initial (codes "C") (of_type (codes "ACC"))
    ∷ without_initial (codes "T") (of_type (codes "TON"))
    ∷ [])
    ∷ variables_in sections.ConstantExternal (declared (codes "S") Boolean ∷ [])
    ∷ variables_in sections.External (declared (codes "G") Int ∷ [])
    ∷ []) (
    counting_over_elements
    ∷ invoked (codes "C") (giving (codes "STEP") (name K) ∷ copying (codes "TOTAL") K ∷ [])
    ∷ set (codes "G") (call (identifier (codes "TWICE")) (exprs_of (read (dotted (codes "C") (codes "TOTAL")) ∷ [])))
    ∷ invoked (codes "T") (giving (codes "IN") (name (codes "S"))
    ∷ giving (codes "PT") (literal (literals.Duration 0 10)) ∷ [])
    ∷ [])

-- VAR_GLOBAL s AT %IX0 : BOOL; END_VAR VAR_GLOBAL RETAIN g : INT := 5; END_VAR, and the instance P of Pr on R
abbrev pub input_and_global : Configuration
input_and_global = configured (
    globals_of None (global_at (codes "S") (bit_at Input 0) (plain Boolean) ∷ [])
    ∷ globals_of (Some qualifiers.Retain) (global (codes "G") (plain Int) (Some (amount 5)) ∷ [])
    ∷ []) (resource (codes "R") (instance (codes "P") (codes "PR") ∷ []) ∷ [])

abbrev pub text_of_parts : Source
text_of_parts = text_of modes (over_parts ∷ acc ∷ twice ∷ []) input_and_global

-- its variables after a run of its program from the initial values, with s TRUE, at a moment of 5 ms
abbrev pub stores_after_a_row : ℕ → List (List (List ℕ × Datum))
stores_after_a_row budget = map
    (λ p. shown (store_after p budget (initial_values (plan_variables_of_text text_of_parts))
    ((unowned (codes "S"), datum Boolean 1) ∷ []) 5))
    (programs_of_text text_of_parts)
