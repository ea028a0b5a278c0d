-- Variables of a layout, as the definitions see them.
use Rattle.std.specs.Prelude.{Option, option_map}
use Rattle.layout.specs.Types as made
use Rattle.layout.specs.LayoutVariables.{Owned}
use Rattle.layout.specs.NamedSites.{named_site_view}
use Rattle.layout.specs.Slots.{owner_view}
use Rattle.layout.specs.declared.named_sites.NamedSite.{NamedSite}
use Rattle.layout.specs.declared.slots.OwnerNames.{OwnerNames}
use Rattle.layout.specs.declared.variables.Variable.{Variable}

-- of a program's instance, or of nobody
abbrev pub variable_view : Option OwnerNames → Variable → Owned
variable_view o v = record {
  owner = option_map owner_view o;
  name = (named_site_view v.site).name;
  site = (named_site_view v.site).site;
  is_input = v.is_input;
}

abbrev pub global_site_view : NamedSite → made.Site
global_site_view d = (named_site_view d).site
