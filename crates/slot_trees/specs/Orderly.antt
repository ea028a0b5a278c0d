-- The conditions on a text's units that make its linked form mean the same: no variable of a unit has the name of one
-- of its externals, and no type of a variable is too deep.
use Rattle.std.specs.Prelude.{List, Bool, not, ◌&&◌}
use Rattle.std.specs.List.{list_all}
use Rattle.st_types.specs.Units.{OrganisationUnit}
use Rattle.st_meaning.specs.Bodies.{externals_in}
use Rattle.st_meaning.specs.NameTypes.{Declared}
use Rattle.st_meaning.specs.Scopes.{Name, contains_name}
use Rattle.st_rules.specs.declared.limits.TheConstants.{MAX_TYPE_DEPTH}
use Rattle.layout.specs.Types.{NamedSite, sites_of_blocks, is_within_depth}

abbrev pub is_orderly : Declared → List Name → NamedSite → Bool
is_orderly text externals d =
    not (contains_name externals d.name) && is_within_depth MAX_TYPE_DEPTH text d.site.declared

abbrev pub has_orderly_variables : Declared → OrganisationUnit → Bool
has_orderly_variables text u = list_all (is_orderly text (externals_in u.blocks)) (sites_of_blocks u.blocks)

abbrev pub are_units_orderly : Declared → Bool
are_units_orderly text = list_all (has_orderly_variables text) text.units
