-- The programs of a text's instances, by their numbers.
use Rattle.std.specs.Prelude.{ℕ, List, [], slice_index_or}
use Rattle.st_types.specs.Sources.{Source}
use Rattle.st_types.specs.Statements.{no_stmts}
use Rattle.st_meaning.specs.NameTypes.{declared_in}
use Rattle.st_meaning.specs.Runs.{Program}
use Rattle.layout.specs.LayoutVariables.{configurations_in, only_configuration}
use Rattle.layout.specs.Libraries.{programs_of_configuration}

-- of the resolved tree of a text, by resources in order
abbrev pub programs_of_tree : Source → List Program
programs_of_tree source =
    programs_of_configuration (declared_in source) (only_configuration (configurations_in source))

-- the stand-in for a program that doesn't exist: it does nothing
abbrev pub no_program : Program
no_program = record {
  library = record { functions = []; blocks = [] };
  owner = record { resource = []; instance = [] };
  body = record { externals = []; instances = []; statements = no_stmts };
}

-- The program of this number. No code above this crate looks into a program.
unfoldable pub program_numbered : Source → ℕ → Program
program_numbered source n = slice_index_or (programs_of_tree source) n no_program
