-- The interfaces of units, as tables have them.
use Rattle.std.specs.Prelude.{◌≡◌, ℕ, List, Bool, true, false, Option, Some, None}
use Rattle.st_types.specs.declared.declaration.Section.{Section}
use Rattle.st_types.specs.Units.{OrganisationUnit}
use Rattle.st_meaning.specs.NameTypes.{Declared, is_input, is_output, type_in_sections, unit_named}
use Rattle.st_rules.specs.Environments.{Callee, own, callee_of_sort, is_block_sort}
use Rattle.symbols.specs.declared.interfaces.Side.{Side}
use Rattle.symbols.specs.declared.interfaces.Side.TheVariants.{Input, Output}
use Rattle.symbols.specs.declared.interfaces.Signature.{Signature}
use Rattle.symbols.specs.declared.interfaces.Interface as code_interface
use Rattle.symbols.specs.declared.interfaces.Interface.TheVariants.{Function, FunctionBlock, Program}
use Rattle.symbols.specs.declared.interfaces.UnitInterfaces.{UnitInterfaces}
use Rattle.symbols.specs.Found.{found}
use Rattle.symbols.specs.Variables.{type_found}
use Rattle.symbols.specs.Agreeing.{Agree}

-- the sections that are meant
abbrev pub is_of : Side → Section → Bool
is_of Input s = is_input s
is_of Output s = is_output s

abbrev pub signature_view : Signature → Callee
signature_view s = own s.inputs.items s.result

abbrev pub signature_of : code_interface.Interface → Option Callee
signature_of (Function s) = Some (signature_view s)
signature_of (FunctionBlock b) = None
signature_of Program = None

abbrev pub is_block_interface : code_interface.Interface → Bool
is_block_interface (Function s) = false
is_block_interface (FunctionBlock b) = true
is_block_interface Program = false

-- the tables of a function block's variables
abbrev pub HasSides : code_interface.Interface → OrganisationUnit → Type 0
HasSides (FunctionBlock b) u =
    ((q : List ℕ) → type_found b.inputs q ≡ type_in_sections is_input u.blocks q)
    × ((q : List ℕ) → type_found b.outputs q ≡ type_in_sections is_output u.blocks q)
HasSides _ u = Unit {0}

-- the entry of a table for a unit
pub record IsInterface (text : Declared) (t : code_interface.Interface) (u : OrganisationUnit) : Type 0 where
  pub signature : signature_of t ≡ callee_of_sort text u.sort u.blocks
  pub is_block : is_block_interface t ≡ is_block_sort u.sort
  pub sides : HasSides t u

-- The tables are those of these units.
abbrev pub HasUnits : Declared → UnitInterfaces → List OrganisationUnit → Type 0
HasUnits text names us = (x : List ℕ) → Agree (IsInterface text) (found names.units x) (unit_named us x)
