-- The worked program is linked.
use Rattle.std.proofs.Common.{◌≡◌, ℕ, Bool, true, false, if◌then◌else◌, List, [], ◌∷◌, Some, None, refl, sym}
use Rattle.std.proofs.Common.{ap, ◌∙◌, subst, codes}
use Rattle.std.specs.Prelude.{bytes_eq}
use Rattle.st_meaning.specs.CallExamples.{T}
use Rattle.st_meaning.specs.Scopes.{Name, Library, of_program, path_in}
use Rattle.st_meaning.specs.Slots.{Slot}
use Rattle.st_meaning.specs.StandardBlocks.{StandardBlock, TON, block_of, members_of}
use Rattle.layout.specs.Shapes.{of_instance, parts, Parts}
use Rattle.layout.specs.VariableSlots.{LiesAt, are_declared_once}
use Rattle.layout.specs.Types.{shape_within}
use Rattle.layout.proofs.ListLemmas.{same_name}
use Rattle.layout.proofs.VariableLemmas.{variables_layout}
use Rattle.slot_trees.specs.SlotTrees.{own_block, standard_block}
use Rattle.slot_trees.specs.SlotEvaluation.{slot_at}
use Rattle.slot_trees.specs.Tables.{Symbol, symbol_of}
use Rattle.slot_trees.specs.LinkedStatements.{linked_stmts}
use Rattle.slot_trees.specs.LinkedTexts.{table_of, parts_of_members, IsInstance, IsStandard, HasBlock, IsLibraryLink}
use Rattle.slot_trees.specs.LinkedTexts.{IsProgramLink}
use Rattle.slot_trees.specs.ProgramTables.{program_symbols}
use Rattle.slot_trees.specs.ProgramExample.{its_text, its_variables, its_layout, its_program, its_names, timer_members}
use Rattle.slot_trees.specs.ProgramExample.{symbol_with, its_symbols, its_numbers, no_units, its_code}
use Rattle.slot_trees.proofs.ProgramTableLemmas.{program_names}
use Rattle.st_types.proofs.OptionLemmas.{some_is}

its_declarations : are_declared_once its_text its_variables ≡ true
unfolding shape_within block_of
its_declarations = refl

symbols_are : program_symbols its_text its_variables its_program its_names ≡ its_symbols
unfolding shape_within block_of
symbols_are = refl

-- its names are in the layout
names_stand : (x : Name) (y : Symbol) → symbol_of its_symbols x ≡ Some y
    → LiesAt its_layout y.is_input (path_in (of_program its_program.owner) its_program.body x) y.shape
    (slot_at 0 y.anchor)
names_stand x y h =
    program_names its_text its_variables its_declarations its_program its_names 0 x y
    (ap (λ ys. symbol_of ys x) symbols_are ∙ h)

-- its one instance is the timer
timer : IsInstance its_numbers (codes "TON") (symbol_with T 4 (parts of_instance timer_members))
timer = record { whole = of_instance; members = timer_members; known = refl; shape = refl; is_variable = refl }

instance_cases : (x b : Name) (y : Symbol) (c : Bool) → bytes_eq x T ≡ c
    → (if c then Some (codes "TON") else None) ≡ Some b → symbol_of its_symbols x ≡ Some y → IsInstance its_numbers b y
instance_cases x b y false q h g = absurd (cc)
instance_cases x b y true q h g =
    let at : symbol_of its_symbols T ≡ Some y =
    subst (λ n. symbol_of its_symbols n ≡ Some y) (same_name x T q) g in
    let e : symbol_with T 4 (parts of_instance timer_members) ≡ y = some_is at in
    subst (λ n. IsInstance its_numbers n y) (some_is h) (subst (λ u. IsInstance its_numbers (codes "TON") u) e timer)

-- it calls no function and no block of its text
no_block : (layout : List Slot) (library : Library) (b : Name) (i : ℕ) (ps : Parts) (c : Bool)
    → (if c then Some (standard_block TON) else None) ≡ Some (own_block i)
    → HasBlock layout library no_units its_numbers b i ps
no_block layout library b i ps true h = let e : standard_block TON ≡ own_block i = some_is h in absurd (cc)
no_block layout library b i ps false h = absurd (cc)

block_there : block_of (codes "TON") ≡ Some TON
unfolding block_of
block_there = refl

code_is : {k m : StandardBlock} → standard_block k ≡ standard_block m → k ≡ m
code_is h = cc

timer_cases : (b : Name) (k : StandardBlock) (ps : Parts) (c : Bool) → bytes_eq b (codes "TON") ≡ c
    → (if c then Some (standard_block TON) else None) ≡ Some (standard_block k)
    → (if c then Some timer_members else None) ≡ Some ps → IsStandard b k ps
timer_cases b k ps false q h g = absurd (cc)
timer_cases b k ps true q h g =
    let e : TON ≡ k = code_is (some_is h) in
    record {
      there =
          ap block_of (same_name b (codes "TON") q) ∙ block_there ∙ ap Some e;
      members = sym (some_is g) ∙ ap (λ m. parts_of_members (members_of m)) e;
    }

units_link : (layout : List Slot) (library : Library) → IsLibraryLink layout library no_units its_numbers
units_link layout library = record {
  functions = λ f i h. absurd (cc);
  blocks = λ b i ps h g. no_block layout library b i ps (bytes_eq b (codes "TON")) h;
  standards = λ b k ps h g. timer_cases b k ps (bytes_eq b (codes "TON")) refl h g;
}

body_link : linked_stmts (table_of its_numbers its_symbols its_program.body.instances) its_program.body.statements
    ≡ Some its_code
unfolding block_of
body_link = refl

instances_are : its_program.body.instances ≡ (T, codes "TON") ∷ []
unfolding block_of
instances_are = refl

pub program_link : IsProgramLink its_layout its_program 0 no_units its_code
unfolding block_of
program_link = record {
  distinct = variables_layout its_text its_variables its_declarations;
  numbers = its_numbers;
  symbols = its_symbols;
  library = units_link its_layout its_program.library;
  names = names_stand;
  instances = λ x b y h g. instance_cases x b y (bytes_eq x T) refl h g;
  linked = body_link;
}
