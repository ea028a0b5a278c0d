-- Members of standard blocks are elementary.
use Rattle.std.proofs.Common.{◌≡◌, refl, ap, subst, ◌∙◌, sym, arith, ℕ, suc, List, [], ◌∷◌, map, Bool, true, ◌&&◌}
use Rattle.std.specs.List.{list_all}
use Rattle.st_types.specs.declared.kind.Kind.{Kind}
use Rattle.st_types.specs.declared.data_type.VariableType.{VariableType}
use Rattle.st_rules.specs.declared.limits.TheConstants.{MAX_TYPE_DEPTH}
use Rattle.st_meaning.specs.NameTypes.{Declared, elementary}
use Rattle.st_meaning.specs.StandardBlocks.{BlockMember}
use Rattle.layout.specs.Shapes.{plain, size}
use Rattle.layout.specs.Types.{of_kind, is_within_depth, shape_of_type, site_of_member}
use Rattle.layout.specs.Sizes.{capped_size}
use Rattle.st_link.specs.NamedMembers.{NamedType, name_and_type}
use Rattle.st_link.specs.Shapes.{AreExpanded, IsExpanded}
use Rattle.st_link.proofs.DepthLemmas.{composed_whole}

-- of these types
abbrev pub AreElementary : List NamedType → Type 0
AreElementary [] = Unit {0}
AreElementary (e ∷ es) = ((k : Kind) × (e.1 ≡ elementary k)) × AreElementary es

pub elementary_members : (ms : List BlockMember) → AreElementary (map name_and_type (map site_of_member ms))
elementary_members [] = tt
elementary_members (m ∷ ms) = ((m.1, refl), elementary_members ms)

expanded_within : (n : ℕ) (text : Declared) (k : Kind) → is_within_depth (suc n) text (elementary k) ≡ true
unfolding is_within_depth
expanded_within n text k = refl

expanded_kind : (text : Declared) (k : Kind) → IsExpanded text (elementary k)
expanded_kind text k = expanded_within 63 text k

pub elementary_expanded : (text : Declared) (es : List NamedType) → AreElementary es → AreExpanded text es
elementary_expanded text [] h = refl
elementary_expanded text (e ∷ es) h =
    ap (λ b. b && list_all (λ f. is_within_depth MAX_TYPE_DEPTH text f.1) es)
    (ap (is_within_depth MAX_TYPE_DEPTH text) h.0.1 ∙ expanded_kind text h.0.0) ∙ elementary_expanded text es h.1

pub elementary_size : (text : Declared) (t : VariableType) (k : Kind) → t ≡ elementary k
    → 1 ≡ capped_size (size (shape_of_type text t))
elementary_size text t k is =
    sym (ap (λ u. capped_size (size (shape_of_type text u))) is
    ∙ ap (λ sh. capped_size (size sh)) (composed_whole MAX_TYPE_DEPTH text (elementary k) (of_kind k) refl (expanded_kind
    text k)))
