-- A worked example: the text of calls, with functions, blocks in a block and externals, and its linked form.
use Rattle.std.specs.Prelude.{ℕ, pos, List, [], ◌∷◌, ◌++◌, map, Option, option_map, option_and_then, slice_get}
use Rattle.st_types.specs.declared.kind.Kind.TheVariants.{Dint, Time, Bool as Boolean}
use Rattle.st_types.specs.declared.operator.BinaryOperator.TheVariants.{Add}
use Rattle.st_types.specs.Values.{Datum}
use Rattle.st_types.specs.Sources.{Source}
use Rattle.st_meaning.specs.ProgramExamples.{number}
use Rattle.st_meaning.specs.Failures.{in_runs}
use Rattle.layout.specs.InitialExamples.{mode}
use Rattle.layout.specs.LayoutExamples.{datum, int}
use Rattle.slot_trees.specs.SlotTrees.{Anchor, own, absolute, SlotExpr, load, call, binary, no_exprs, expr_then, Place}
use Rattle.slot_trees.specs.SlotTrees.{place}
use Rattle.slot_trees.specs.SlotTrees.{no_subscripts, own_block, given, copied, SlotStmt, assign, invoke, SlotStmts}
use Rattle.slot_trees.specs.SlotTrees.{no_stmts, stmt_then, SlotFunction, SlotLibrary}
use Rattle.slot_trees.specs.ProgramExample.{constant_of, amount}
use Rattle.slot_trees.specs.SlotRuns.{slots_ran, slots_in}
use Rattle.slot_trees.specs.TextLinks.{LinkedText, linked_source}
use Rattle.slot_trees.specs.Chains.{stmts_of}

abbrev pub slot_place : Anchor → Place
slot_place a = place a no_subscripts

abbrev pub slot_value_of : Anchor → SlotExpr
slot_value_of a = load (slot_place a)

-- g := g + 1, where g is the first slot of the layout
abbrev pub one_more : SlotStmt
one_more = assign (slot_place (absolute 0)) (binary Add (slot_value_of (absolute 0)) (amount 1))

-- Sum has its result in the slot 0, its inputs in 1, 2 and 6, c from 3 on, and k in 5
abbrev pub sum_code : SlotFunction
sum_code = record {
  fresh = datum Dint 0 ∷ int 0 ∷ int 0 ∷ int 1 ∷ int 0 ∷ int 3 ∷ datum Boolean 0 ∷ [];
  inputs = 1 ∷ 2 ∷ 6 ∷ [];
  result = 0;
  body = stmts_of (assign (slot_place (own 0)) (constant_of (number Dint (pos 4))) ∷ []);
}

abbrev pub twice_code : SlotFunction
twice_code = record {
  fresh = int 0 ∷ int 0 ∷ [];
  inputs = 1 ∷ [];
  result = 0;
  body = stmts_of (assign (slot_place (own 0)) (binary Add (slot_value_of (own 1)) (slot_value_of (own 1))) ∷ []);
}

-- Outer has a from 0 on, a timer from 2 on, and p in 8; Acc is the block 1, and Twice the function 1
abbrev pub outer_code : SlotStmts
outer_code = stmts_of (
    invoke (own 0) (own_block 1) (given 0 (amount 3) ∷ [])
    ∷ assign (slot_place (own 8)) (call 1 (expr_then (slot_value_of (own 1)) no_exprs))
    ∷ one_more
    ∷ [])

abbrev pub acc_code : SlotStmts
acc_code =
    stmts_of (assign (slot_place (own 1)) (binary Add (slot_value_of (own 1)) (slot_value_of (own 0))) ∷ [])

-- a program has o from a slot on, and x nine slots further
abbrev pub main_code : ℕ → ℕ → SlotStmts
main_code o x = stmts_of (
    invoke (absolute o) (own_block 0) (copied 8 (slot_place (absolute x)) ∷ [])
    ∷ one_more
    ∷ [])

abbrev pub its_library : SlotLibrary
its_library = record { functions = sum_code ∷ twice_code ∷ []; blocks = outer_code ∷ acc_code ∷ [] }

-- g and h, then the instances P and Q
abbrev pub its_link : LinkedText
its_link = record { library = its_library; programs = main_code 2 11 ∷ main_code 12 21 ∷ [] }

-- values of an instance's slots: the step and the total of a, the timer's six members, p, and x
abbrev pub instance_values : ℕ → ℕ → ℕ → ℕ → List Datum
instance_values step total p x =
    int step ∷ int total
    ∷ datum Boolean 0 ∷ datum Time 0 ∷ datum Boolean 0 ∷ datum Time 0 ∷ datum Boolean 0 ∷ datum Time 0
    ∷ int p ∷ int x ∷ []

abbrev pub its_values : ℕ → List Datum → List Datum → List Datum
its_values g first second = int g ∷ int 0 ∷ first ++ second

-- the values after a run of a text's first program, over its linked form
abbrev pub first_run : Source → ℕ → ℕ → List Datum → Option (List Datum)
first_run source now budget vs = option_and_then
    (λ l. option_map (λ body. slots_in (slots_ran in_runs l.library 0 body now budget vs budget) vs)
    (slice_get l.programs 0)) (linked_source source)

-- of the text over parts: s is TRUE; g; m and n of a's elements; i and k; the step and the total of c; and the timer
abbrev pub values_of_parts : ℕ → List ℕ → ℕ → ℕ → ℕ → ℕ → List Datum → List Datum
values_of_parts g modes i k step total timer =
    datum Boolean 1 ∷ int g ∷ map (datum mode) modes ++ int i ∷ int k ∷ int step ∷ int total ∷ timer

abbrev pub timer_values : ℕ → ℕ → ℕ → ℕ → List Datum
timer_values input pt run start =
    datum Boolean input ∷ datum Time pt ∷ datum Boolean 0 ∷ datum Time 0 ∷ datum Boolean run ∷ datum Time start ∷ []
