-- A worked example: a program of elements, a loop, a timer and a global, with the slots that it is linked to.
use Rattle.std.specs.Prelude.{ℕ, pos, List, [], ◌∷◌, map, false, None, Some, codes}
use Rattle.st_types.specs.declared.kind.Kind.TheVariants.{Int, Time, Bool as Boolean}
use Rattle.st_types.specs.declared.literal.Literal.TheVariants as literals
use Rattle.st_types.specs.declared.operator.BinaryOperator.TheVariants.{Add}
use Rattle.st_types.specs.Values.{Datum}
use Rattle.st_types.specs.declared.data_type.SimpleType.TheVariants.{Elementary}
use Rattle.st_types.specs.declared.declaration.Section.TheVariants as sections
use Rattle.st_types.specs.declared.unit.UnitSort.TheVariants as sorts
use Rattle.st_types.specs.Expressions as named
use Rattle.st_types.specs.Expressions.{literal}
use Rattle.st_types.specs.Statements as text
use Rattle.st_types.specs.Statements.{stmts_of}
use Rattle.st_types.specs.Units.{OrganisationUnit}
use Rattle.st_meaning.specs.CallExamples.{indexed, giving, invoked, T}
use Rattle.st_meaning.specs.ProgramExamples.{identifier, declared, name, number, set, owner, A, I}
use Rattle.st_meaning.specs.NameTypes.{Declared}
use Rattle.st_meaning.specs.ResolutionExamples.{of_type}
use Rattle.st_meaning.specs.Runs.{Program}
use Rattle.st_meaning.specs.Scopes.{Name}
use Rattle.st_meaning.specs.Slots.{Slot}
use Rattle.st_meaning.specs.StandardBlocks.{TON, members_of}
use Rattle.layout.specs.LayoutExamples.{array_of, plain, without_initial, variables_in, unit_with, datum, int}
use Rattle.layout.specs.LayoutVariables.{Owned, owned_variable}
use Rattle.layout.specs.Libraries.{program_of_unit}
use Rattle.layout.specs.Shapes as shapes
use Rattle.layout.specs.Shapes.{array, parts, of_instance, Parts}
use Rattle.layout.specs.TextLayouts.{slots_of}
use Rattle.layout.specs.Types.{sites_of_blocks}
use Rattle.slot_trees.specs.SlotTrees.{absolute, SlotExpr, constant, load, binary, place, Place, no_subscripts}
use Rattle.slot_trees.specs.SlotTrees.{subscript_then, standard_block, given, assign, invoke, FOR, SlotStmts}
use Rattle.slot_trees.specs.SlotTrees.{no_stmts, stmt_then, SlotLibrary}
use Rattle.slot_trees.specs.Tables.{Symbol}
use Rattle.slot_trees.specs.LinkedTexts.{Numbers, parts_of_members}

abbrev pub G : Name
G = codes "G"

-- PROGRAM Pr VAR i : INT; a : ARRAY [1..2] OF INT; t : TON; END_VAR VAR_EXTERNAL g : INT; END_VAR
-- a[i] := g + 1; t(pt := T#10ms); FOR i := 1 TO 2 DO g := g + a[i]; END_FOR; END_PROGRAM
abbrev pub main : OrganisationUnit
main = unit_with sorts.Program (codes "PR") (
    variables_in (sections.Local None) (declared I Int ∷ without_initial A (array_of 1 2 (Elementary Int 0))
    ∷ without_initial T (of_type (codes "TON")) ∷ [])
    ∷ variables_in sections.External (declared G Int ∷ [])
    ∷ []) (
    text.assign (indexed A (name I)) (named.binary Add (name G) (number Int (pos 1)))
    ∷ invoked T (giving (codes "PT") (literal (literals.Duration 0 10)) ∷ [])
    ∷ text.FOR (identifier I) (number Int (pos 1)) (number Int (pos 2)) None
    (stmts_of (set G (named.binary Add (name G) (named.read (indexed A (name I)))) ∷ []))
    ∷ [])

-- its text, the variables of its layout, and its program at the instance R/P
abbrev pub its_text : Declared
its_text = record { types = []; units = main ∷ [] }

abbrev pub its_global : Owned
its_global = record {
  owner = None;
  name = G;
  site = record { declared = plain Int; initial = None; retentions = [] };
  is_input = false;
}

abbrev pub its_variables : List Owned
its_variables = its_global ∷ map (owned_variable (Some owner)) (sites_of_blocks main.blocks)

abbrev pub its_layout : List Slot
its_layout = slots_of its_text its_variables

abbrev pub its_program : Program
its_program = program_of_unit its_text owner main

-- the meanings of its names
abbrev pub its_names : List Name
its_names = G ∷ I ∷ A ∷ T ∷ []

abbrev pub timer_members : Parts
timer_members = parts_of_members (members_of TON)

abbrev pub symbol_with : Name → ℕ → shapes.Shape → Symbol
symbol_with x k sh = record { name = x; anchor = absolute k; is_input = false; shape = sh }

abbrev pub its_symbols : List Symbol
its_symbols =
    symbol_with G 0 (shapes.plain Int)
    ∷ symbol_with I 1 (shapes.plain Int)
    ∷ symbol_with A 2 (array (pos 1) 2 (shapes.plain Int))
    ∷ symbol_with T 4 (parts of_instance timer_members)
    ∷ []

abbrev pub its_numbers : Numbers
its_numbers = record {
  functions = [];
  blocks = (codes "TON", standard_block TON) ∷ [];
  members = (codes "TON", timer_members) ∷ [];
}

-- no function and no block of its own
abbrev pub no_units : SlotLibrary
no_units = record { functions = []; blocks = [] }

-- its linked form: G in slot 0, I in 1, A from 2 on, T from 4 on
abbrev pub in_slot : ℕ → Place
in_slot k = place (absolute k) no_subscripts

abbrev pub element_of_a : Place
element_of_a = place (absolute 2) (subscript_then (load (in_slot 1)) (pos 1) 2 1 no_subscripts)

abbrev pub constant_of : named.Expr → SlotExpr
constant_of (literal l) = constant l
constant_of _ = load (in_slot 0)

abbrev pub amount : ℕ → SlotExpr
amount n = constant_of (number Int (pos n))

abbrev pub its_code : SlotStmts
its_code =
    stmt_then (assign element_of_a (binary Add (load (in_slot 0)) (amount 1)))
    (stmt_then (invoke (absolute 4) (standard_block TON) (given 1 (constant (literals.Duration 0 10)) ∷ []))
    (stmt_then
    (FOR (absolute 1) (amount 1) (amount 2) None
    (stmt_then (assign (in_slot 0) (binary Add (load (in_slot 0)) (load element_of_a))) no_stmts))
    no_stmts))

-- values of its slots: G, I, A[1] and A[2], and the timer's six members, of which only PT changes
abbrev pub values_of : ℕ → ℕ → ℕ → ℕ → ℕ → List Datum
values_of g i first second pt =
    int g ∷ int i ∷ int first ∷ int second ∷ datum Boolean 0 ∷ datum Time pt ∷ datum Boolean 0 ∷ datum Time 0
    ∷ datum Boolean 0 ∷ datum Time 0 ∷ []
