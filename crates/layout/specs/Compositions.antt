-- Compositions of declared types, as the definitions see them.
use Rattle.std.specs.Prelude.{ℕ, map}
use Rattle.st_types.specs.declared.data_type.SimpleType.TheVariants.{Named}
use Rattle.st_types.specs.declared.data_type.VariableType.{VariableType}
use Rattle.st_types.specs.declared.data_type.VariableType.TheVariants.{Simple}
use Rattle.st_types.specs.DeclarationViews.{field_view, variable_block_view}
use Rattle.st_meaning.specs.Enumerations.{enumerations_of}
use Rattle.st_meaning.specs.NameTypes.{Declared}
use Rattle.st_meaning.specs.Scopes.{Name}
use Rattle.st_meaning.specs.StandardBlocks.{members_of}
use Rattle.symbols.specs.Enumerated.{HasEnumerations}
use Rattle.symbols.specs.Standard.{block_view}
use Rattle.symbols.specs.Texts.{ServesText}
use Rattle.layout.specs.Shapes.{of_structure, of_instance}
use Rattle.layout.specs.Types as made
use Rattle.layout.specs.Types.{of_kind, of_elements, of_parts, nothing, site_of_field, site_of_member}
use Rattle.layout.specs.Types.{sites_of_blocks}
use Rattle.layout.specs.declared.compositions.Composition.{Composition}
use Rattle.layout.specs.declared.compositions.Composition.TheVariants.{Kind, Elements, Fields, Block, Standard, Nothing}
use Rattle.layout.specs.declared.compositions.Types.{Types}

abbrev pub composition_view : Composition → made.Composition
composition_view (Kind k) = of_kind k
composition_view (Elements a) = of_elements a.now
composition_view (Fields fs) = of_parts of_structure (map site_of_field (map field_view fs.now))
composition_view (Block bs) = of_parts of_instance (sites_of_blocks (map variable_block_view bs.now))
composition_view (Standard b) = of_parts of_instance (map site_of_member (members_of (block_view b)))
composition_view Nothing = nothing

-- a type of this name, at any place
abbrev pub named_type : Name → ℕ → VariableType
named_type x at = Simple (Named (record { name = x; place = at }))

-- They are the types of the text.
pub record ServesTypes (types : Types) (text : Declared) : Type 0 where
  pub names : ServesText types.names text
  pub enumerated : HasEnumerations types.enumerated (enumerations_of text.types)
