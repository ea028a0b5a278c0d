-- The globals of a configuration by their names.
use Rattle.std.specs.Prelude.{◌≡◌, List, [], ◌∷◌, map, Bool, false, not, ◌&&◌, if◌then◌else◌, Option, Some, None}
use Rattle.std.specs.Prelude.{bytes_eq}
use Rattle.std.specs.List.{flat_map}
use Rattle.st_types.specs.declared.kind.Kind.TheVariants.{Bool as Boolean}
use Rattle.st_types.specs.declared.configuration.GlobalQualifier.{GlobalQualifier}
use Rattle.st_types.specs.declared.data_type.VariableType.{VariableType}
use Rattle.st_types.specs.Configurations.{GlobalDeclaration, GlobalBlock}
use Rattle.st_meaning.specs.NameTypes.{Declared, kind_among}
use Rattle.st_meaning.specs.Scopes.{Name}
use Rattle.symbols.specs.Agreeing.{Agree}
use Rattle.symbols.specs.Found.{found}
use Rattle.symbols.specs.PlaceTypes.{place_type_view}
use Rattle.symbols.specs.declared.index.Index.{Index}
use Rattle.st_rules.specs.ConfigurationRules.{is_fixed_global, is_of_kind, same_type}
use Rattle.st_rules.specs.NameScopes.{globals_of_block, listed_names}
use Rattle.st_rules.specs.Places.{repeats}
use Rattle.config.specs.declared.globals.Global as code
use Rattle.config.specs.declared.globals.NamedGlobal.{NamedGlobal}

-- a global: whether no program may assign it, and its type
pub record Global : Type 0 where
  pub is_fixed : Bool
  pub declared : VariableType

abbrev pub global_view : code.Global → Global
global_view g = record { is_fixed = g.is_fixed; declared = place_type_view g.declared }

abbrev pub named_global_view : NamedGlobal → Name × Global
named_global_view g = (g.name.now, global_view g.global)

-- the global that a declaration gives to each of its names
abbrev pub global_of : Option GlobalQualifier → GlobalDeclaration → Global
global_of q d = record { is_fixed = is_fixed_global q d.names; declared = d.declared }

abbrev pub globals_of_declaration : Option GlobalQualifier → GlobalDeclaration → List (Name × Global)
globals_of_declaration q d = map (λ x. (x.name, global_of q d)) (listed_names d.names)

abbrev pub globals_in_block : GlobalBlock → List (Name × Global)
globals_in_block b = flat_map (globals_of_declaration b.qualifier) b.declarations

-- all globals, in order
abbrev pub globals_in : List GlobalBlock → List (Name × Global)
globals_in blocks = flat_map globals_in_block blocks

-- the first one of a name
abbrev pub global_named : List (Name × Global) → Name → Option Global
global_named [] x = None
global_named (g ∷ gs) x = if bytes_eq x g.0 then Some g.1 else global_named gs x

-- An index has the first global of each name, and the index of a configuration in which each name is declared once is
-- that of its globals.
pub record ServesGlobals (index : Index code.Global) (blocks : List GlobalBlock) : Type 0 where
  pub once : repeats (flat_map globals_of_block blocks) ≡ []
  pub named : (x : Name) → Agree (λ g h. global_view g ≡ h) (found index x) (global_named (globals_in blocks) x)

-- a global of this type, which no program may assign exactly if the external is CONSTANT
abbrev pub is_global_for : Declared → Bool → VariableType → Option Global → Bool
is_global_for text constant t None = false
is_global_for text constant t (Some g) =
    same_type text t g.declared && (if constant then g.is_fixed else not g.is_fixed)

-- a global that is a BOOL
abbrev pub is_boolean : Declared → Option Global → Bool
is_boolean text None = false
is_boolean text (Some g) = is_of_kind Boolean (kind_among text.types g.declared)
