-- Variables as their declarations have them, as the definitions see them.
use Rattle.std.specs.Prelude.{[], ◌∷◌}
use Rattle.st_types.specs.declared.identifier.Identifier.{Identifier}
use Rattle.symbols.specs.PlaceTypes.{place_type_view}
use Rattle.layout.specs.Types as made
use Rattle.layout.specs.KeptSites.{given_view}
use Rattle.layout.specs.declared.named_sites.NamedSite.{NamedSite}

abbrev pub named_site_view : NamedSite → made.NamedSite
named_site_view d = record {
  name = d.name.now;
  site = record {
    declared = place_type_view d.declared;
    initial = given_view d.initial;
    retentions = d.said ∷ [];
  };
}

-- another variable of the same declaration
abbrev pub named_as : made.NamedSite → Identifier → made.NamedSite
named_as d x = made.with_site d.site x
