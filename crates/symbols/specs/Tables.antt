-- The tables of a text, and the meanings of the names of a unit in it.
use Rattle.std.specs.Prelude.{List}
use Rattle.st_meaning.specs.StandardBlocks.{StandardBlock, BlockMember, inputs_of, outputs_of}
use Rattle.st_meaning.specs.Enumerations.{enumerations_of}
use Rattle.st_meaning.specs.NameTypes.{Declared}
use Rattle.st_rules.specs.Environments as environments
use Rattle.symbols.specs.declared.interfaces.Side.{Side}
use Rattle.symbols.specs.declared.interfaces.Side.TheVariants.{Input, Output}
use Rattle.symbols.specs.declared.text_tables.Callee as code_callee
use Rattle.symbols.specs.declared.text_tables.Callee.TheVariants.{Standard, Own}
use Rattle.symbols.specs.declared.text_tables.TextTables.{TextTables}
use Rattle.symbols.specs.Texts.{ServesText}
use Rattle.symbols.specs.Fields.{ServesFields}
use Rattle.symbols.specs.Enumerated.{HasEnumerations}
use Rattle.symbols.specs.Interfaces.{HasUnits, signature_view}
use Rattle.symbols.specs.Standard.{standard_view}

abbrev pub callee_view : code_callee.Callee → environments.Callee
callee_view (Standard f) = environments.standard (standard_view f)
callee_view (Own s) = signature_view s.now

-- the members of a standard block that are meant
abbrev pub members_on : Side → StandardBlock → List BlockMember
members_on Input b = inputs_of b
members_on Output b = outputs_of b

-- The tables are those of the text.
pub record ServesTables (tables : TextTables) (text : Declared) : Type 0 where
  pub names : ServesText tables.names text
  pub enumerated : HasEnumerations tables.enumerated (enumerations_of text.types)
  pub fields : ServesFields tables.fields text
  pub units : HasUnits text tables.units text.units
