use Rattle.std.proofs.Common.{◌≡◌, ◌-◌, ◌^◌, map, take, true}
use Rattle.std.specs.Prelude.{is_some, min}
use Rattle.std.specs.List.{list_all}
use Rattle.st_types.specs.UnitViews.{unit_view}
use Rattle.st_meaning.specs.NameTypes.{Declared}
use Rattle.symbols.specs.Found.{found}
use Rattle.layout.specs.Sizes.{ServesSizes}
use Rattle.st_link.specs.CalledFunctions.{values_of_units}
use Rattle.st_link.specs.LinkVariables.{is_whole_unit}
use Rattle.st_link.proofs.called_functions.values_of_all.Given as goal

abbrev pub invariant-loop-unit : goal.invariant-loop-unit
invariant-loop-unit l = record {
  serves : (text : Declared) → ServesSizes l.initial.sizes text → ServesSizes l.sizes text;
  values : (text : Declared) → ServesSizes l.initial.sizes text
      → list_all (is_whole_unit text) (map (λ u. unit_view u.now) l.units) ≡ true
      → l.values ≡ min (values_of_units (λ x. is_some (found l.called x)) text
      (map (λ u. unit_view u.now) (take l.unit-index l.units))) (2 ^ 64 - 1);
}
