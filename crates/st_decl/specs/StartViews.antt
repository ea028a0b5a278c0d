-- The mirrors of initial values with their types.
use Rattle.std.specs.Prelude.{option_map}
use Rattle.st_types.specs.InitialViews.{initial_view}
use Rattle.st_rules.specs.InitialRules.{Start}
use Rattle.symbols.specs.PlaceTypes.{place_type_view}
use Rattle.st_decl.specs.declared.starts.Start as code_start

abbrev pub start_view : code_start.Start → Start
start_view s = record {
  declared = option_map place_type_view s.declared;
  initial = initial_view s.initial.now;
}
