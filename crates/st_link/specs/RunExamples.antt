-- Words for a worked example of a well-typed run.
use Rattle.std.specs.Prelude.{[], ◌∷◌, Some, None, codes}
use Rattle.st_types.specs.declared.kind.Kind.TheVariants.{Int}
use Rattle.st_types.specs.declared.configuration.GlobalQualifier.TheVariants as qualifiers
use Rattle.st_types.specs.Configurations.{Configuration}
use Rattle.st_types.specs.Sources.{Source}
use Rattle.layout.specs.LayoutExamples.{plain, amount, text_of, global, globals_of, configured, resource, instance}
use Rattle.layout.specs.LibraryExamples.{main, outer, sum, acc, twice}

-- VAR_GLOBAL g : INT := 5; END_VAR VAR_GLOBAL CONSTANT h : INT := 3; END_VAR, and the instances P and Q of Pr on R
abbrev pub two_globals : Configuration
two_globals = configured (
    globals_of None (global (codes "G") (plain Int) (Some (amount 5)) ∷ [])
    ∷ globals_of (Some qualifiers.Constant) (global (codes "H") (plain Int) (Some (amount 3)) ∷ [])
    ∷ []) (resource (codes "R") (instance (codes "P") (codes "PR") ∷ instance (codes "Q") (codes "PR") ∷ []) ∷ [])

-- the units of the text of calls with these globals
abbrev pub calls_and_globals : Source
calls_and_globals = text_of [] (main ∷ outer ∷ sum ∷ acc ∷ twice ∷ []) two_globals
