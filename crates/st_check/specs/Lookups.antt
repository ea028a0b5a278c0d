-- The names of a text that are looked up to judge it.
use Rattle.std.specs.Prelude.{◌≡◌, map}
use Rattle.st_types.specs.Sources.{Source}
use Rattle.st_types.specs.SourceViews.{source_view}
use Rattle.st_types.specs.UnitViews.{unit_view}
use Rattle.st_meaning.specs.NameTypes.{declared_in, units_in}
use Rattle.st_rules.specs.DeclaredTypes.{declarings_in}
use Rattle.symbols.specs.Fields.{ServesFields}
use Rattle.symbols.specs.Tables.{ServesTables}
use Rattle.symbols.specs.Texts.{ServesText}
use Rattle.st_decl.specs.DeclaringViews.{declaring_view}
use Rattle.st_decl.specs.Entries.{entry_view, entries_in}
use Rattle.st_check.specs.declared.lookups.Lookups.{Lookups}

-- They are those of the text.
pub record ServesSource (lookups : Lookups) (source : Source) : Type 0 where
  pub source_is : source_view lookups.source.now ≡ source
  pub names : ServesText lookups.names (declared_in source)
  pub tables : ServesTables lookups.tables (declared_in source)
  pub fields : ServesFields lookups.fields (declared_in source)
  pub entries : map entry_view lookups.entries.now ≡ entries_in source
  pub declarings : map declaring_view lookups.declarings.items ≡ declarings_in source
  pub units : map (λ u. unit_view u.now) lookups.units.items ≡ units_in source
