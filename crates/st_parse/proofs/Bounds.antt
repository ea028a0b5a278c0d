-- Every text is within some depth.
use Rattle.std.proofs.Common.{ℕ, ◌+◌, ◌≤◌, List, [], ◌∷◌, Option, Some, None, arith}
use Rattle.std.specs.List.{AllByRecursion}
use Rattle.st_types.specs.Initials.{Initial}
use Rattle.st_types.specs.Statements.{stmts_of}
use Rattle.st_types.specs.Declarations.{TypeDefinition, array, structure, enumeration}
use Rattle.st_types.specs.Sources.{LibraryElement, types, unit, configuration}
use Rattle.st_types.specs.Depths.{depth_of_initial, deepest_stmt}
use Rattle.st_parse.specs.Depths.{ValueWithin, FieldWithin, DefinitionWithin, TypeWithin, DeclarationWithin}
use Rattle.st_parse.specs.Depths.{BlockWithin, UnitWithin, GlobalWithin, GlobalBlockWithin, ConfigurationWithin}
use Rattle.st_parse.specs.Depths.{ElementWithin, SourceWithin}

-- a text within a depth is within each greater one, and each text is within some depth
pub record Bounded {A : Type 0} (W : ℕ → A → Type 0) : Type 0 where
  pub deeper : (d d' : ℕ) (x : A) → d ≤ d' → W d x → W d' x
  pub bound : (x : A) → (d : ℕ) × W d x

bounded_all : {A : Type 0} (W : ℕ → A → Type 0) → Bounded W → Bounded (λ d xs. AllByRecursion (W d) xs)
bounded_all W b = record { deeper = deeper; bound = bound }
  where
    deeper : (d d' : ℕ) (xs : List _) → d ≤ d' → AllByRecursion (W d) xs → AllByRecursion (W d') xs
    deeper d d' [] le all = tt
    deeper d d' (x ∷ xs) le all = (b.deeper d d' x le all.0, deeper d d' xs le all.1)

    bound : (xs : List _) → (d : ℕ) × AllByRecursion (W d) xs
    bound [] = (0, tt)
    bound (x ∷ xs) = let one = b.bound x in let others = bound xs in (
      one.0 + others.0,
      (
        b.deeper one.0 (one.0 + others.0) x (omega arith) one.1,
        deeper others.0 (one.0 + others.0) xs (omega arith) others.1,
      ),
    )

bounded_value : Bounded ValueWithin
bounded_value = record { deeper = deeper; bound = bound }
  where
    deeper : (d d' : ℕ) (o : Option Initial) → d ≤ d' → ValueWithin d o → ValueWithin d' o
    deeper d d' None le w = tt
    deeper d d' (Some v) le w = omega arith

    bound : (o : Option Initial) → (d : ℕ) × ValueWithin d o
    bound None = (0, tt)
    bound (Some v) = (depth_of_initial v, omega arith)

bounded_field : Bounded FieldWithin
bounded_field =
    record { deeper = λ d d' f. bounded_value.deeper d d' f.initial; bound = λ f. bounded_value.bound f.initial }

bounded_definition : Bounded DefinitionWithin
bounded_definition = record { deeper = deeper; bound = bound }
  where
    deeper : (d d' : ℕ) (x : TypeDefinition) → d ≤ d' → DefinitionWithin d x → DefinitionWithin d' x
    deeper d d' (array a) le w = tt
    deeper d d' (enumeration names) le w = tt
    deeper d d' (structure fs) le w = (bounded_all FieldWithin bounded_field).deeper d d' fs le w

    bound : (x : TypeDefinition) → (d : ℕ) × DefinitionWithin d x
    bound (array a) = (0, tt)
    bound (enumeration names) = (0, tt)
    bound (structure fs) = (bounded_all FieldWithin bounded_field).bound fs

bounded_type : Bounded TypeWithin
bounded_type = record {
  deeper =
      λ d d' t. bounded_definition.deeper d d' t.definition;
  bound = λ t. bounded_definition.bound t.definition;
}

bounded_declaration : Bounded DeclarationWithin
bounded_declaration =
    record { deeper = λ d d' x. bounded_value.deeper d d' x.initial; bound = λ x. bounded_value.bound x.initial }

bounded_block : Bounded BlockWithin
bounded_block =
    record {
      deeper = λ d d' x. (bounded_all DeclarationWithin bounded_declaration).deeper d d' x.declarations;
      bound =
          λ x. (bounded_all DeclarationWithin bounded_declaration).bound x.declarations;
    }

bounded_unit : Bounded UnitWithin
bounded_unit = record {
  deeper = λ d d' u le w.
      ((bounded_all BlockWithin bounded_block).deeper d d' u.blocks le w.0, (let low = w.1 in omega arith));
  bound = λ u. let blocks = (bounded_all BlockWithin bounded_block).bound u.blocks in (
    blocks.0 + deepest_stmt (stmts_of u.body),
    (
      (bounded_all BlockWithin bounded_block).deeper blocks.0
          (blocks.0 + deepest_stmt (stmts_of u.body)) u.blocks (omega arith) blocks.1,
      omega arith,
    ),
  );
}

bounded_global : Bounded GlobalWithin
bounded_global =
    record { deeper = λ d d' x. bounded_value.deeper d d' x.initial; bound = λ x. bounded_value.bound x.initial }

bounded_global_block : Bounded GlobalBlockWithin
bounded_global_block = record {
  deeper = λ d d' x. (bounded_all GlobalWithin bounded_global).deeper d d' x.declarations;
  bound = λ x. (bounded_all GlobalWithin bounded_global).bound x.declarations;
}

bounded_configuration : Bounded ConfigurationWithin
bounded_configuration =
    record {
      deeper = λ d d' x. (bounded_all GlobalBlockWithin bounded_global_block).deeper d d' x.globals;
      bound =
          λ x. (bounded_all GlobalBlockWithin bounded_global_block).bound x.globals;
    }

bounded_element : Bounded ElementWithin
bounded_element = record { deeper = deeper; bound = bound }
  where
    deeper : (d d' : ℕ) (x : LibraryElement) → d ≤ d' → ElementWithin d x → ElementWithin d' x
    deeper d d' (types ts) le w = (bounded_all TypeWithin bounded_type).deeper d d' ts le w
    deeper d d' (unit u) le w = bounded_unit.deeper d d' u le w
    deeper d d' (configuration c) le w = bounded_configuration.deeper d d' c le w

    bound : (x : LibraryElement) → (d : ℕ) × ElementWithin d x
    bound (types ts) = (bounded_all TypeWithin bounded_type).bound ts
    bound (unit u) = bounded_unit.bound u
    bound (configuration c) = bounded_configuration.bound c

pub bounded_source : Bounded SourceWithin
bounded_source = bounded_all ElementWithin bounded_element
