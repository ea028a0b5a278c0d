-- Names that neither a type nor a unit of the text has: those of standard blocks, and unknown ones.
use Rattle.std.proofs.Common.{◌≡◌, refl, sym, ap, subst, ◌∙◌, ℕ, ◌+◌, List, [], ◌∷◌, map, Bool, true, false}
use Rattle.std.proofs.Common.{if◌then◌else◌, Option, Some, None}
use Rattle.std.specs.Prelude.{bytes_eq, is_none, option_map}
use Rattle.st_types.specs.declared.identifier.Identifier.{Identifier}
use Rattle.st_types.specs.Declarations.{TypeDeclaration}
use Rattle.st_rules.specs.declared.limits.TheConstants.{MAX_TYPE_DEPTH}
use Rattle.st_meaning.specs.Enumerations.{Enumeration, enumerated_names, enumerations_from, enumeration_named}
use Rattle.st_meaning.specs.Enumerations.{kind_of_enumeration}
use Rattle.st_meaning.specs.NameTypes.{Declared, type_named, unit_named}
use Rattle.st_meaning.specs.Scopes.{Name}
use Rattle.st_meaning.specs.StandardBlocks.{StandardBlock, block_of, members_of}
use Rattle.layout.specs.Shapes.{of_instance, of_structure, parts, no_parts}
use Rattle.layout.specs.Types.{BlockType, Composition, of_parts, nothing, composition_of, instance_parts}
use Rattle.layout.specs.Types.{own_block_type, block_type_named, shape_of_type, site_of_member}
use Rattle.layout.specs.Compositions.{named_type}
use Rattle.layout.proofs.CompositionLemmas.{composed_by}
use Rattle.st_link.specs.NamedMembers.{name_and_type}
use Rattle.st_link.specs.Shapes.{HasParts, IsExpanded, IsUndeclared, IsAggregate}
use Rattle.st_link.specs.declared.aggregates.Aggregate.{Aggregate}
use Rattle.st_link.proofs.DepthLemmas.{composed_whole}
use Rattle.st_link.proofs.WholeLemmas.{whole_parts}
use Rattle.layout.proofs.LibraryLemmas.{no_enumeration}

-- the composition of a standard block, or nothing
abbrev standard_made : Option StandardBlock → Composition
standard_made (Some b) = of_parts of_instance (map site_of_member (members_of b))
standard_made None = nothing

undeclared_made : (text : Declared) (x : Name) (at : ℕ) (o : Option StandardBlock) → IsUndeclared text x
    → block_of x ≡ o → composition_of text (named_type x at) ≡ standard_made o
undeclared_made text x at o u is =
    composed_by text (named_type x at) None
    (ap (option_map kind_of_enumeration) (no_enumeration 0 text.types x u.no_type)) u.no_type
    ∙ ap (λ d. instance_parts (if is_none d then block_type_named text x else None)) u.no_type
    ∙ by_block (block_of x) ∙ ap standard_made is
  where
    by_block : (b : Option StandardBlock) → instance_parts (elim b [
      | Some k ↦ Some (record { name = x; members = map site_of_member (members_of k) })
      | None ↦ own_block_type (unit_named text.units x)
    ]) ≡ standard_made b
    by_block (Some k) = refl
    by_block None = ap (λ v. instance_parts (own_block_type v)) u.no_unit

pub undeclared_whole : (text : Declared) (x : Name) (at : ℕ) (b : StandardBlock) (w : Aggregate) → IsUndeclared text x
    → block_of x ≡ Some b → IsExpanded text (named_type x at)
    → HasParts text (map name_and_type (map site_of_member (members_of b))) w → IsAggregate text (named_type x at) w
undeclared_whole text x at b w u is h has =
    whole_parts text (named_type x at) (standard_made (Some b)) w (undeclared_made text x at (Some b) u is) tt h has

pub undeclared_nothing : (text : Declared) (x : Name) (at : ℕ) → IsUndeclared text x → block_of x ≡ None
    → IsExpanded text (named_type x at) → shape_of_type text (named_type x at) ≡ parts of_structure no_parts
undeclared_nothing text x at u is h =
    composed_whole MAX_TYPE_DEPTH text (named_type x at) nothing (undeclared_made text x at None u is) h
