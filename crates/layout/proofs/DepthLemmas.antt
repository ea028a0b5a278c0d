-- A type that is at most `n` deep is expanded whole.
use Rattle.std.proofs.Common.{◌≡◌, ℕ, zero, suc, ◌≤◌, Bool, true, List, [], ◌∷◌, refl, ap, ap₂, arith}
use Rattle.std.specs.List.{list_all}
use Rattle.st_types.specs.declared.data_type.VariableType.{VariableType}
use Rattle.st_meaning.specs.NameTypes.{Declared}
use Rattle.st_rules.specs.TypeRules.{elements_of_array}
use Rattle.layout.specs.Shapes.{Shape, part_then, array, parts}
use Rattle.layout.specs.Types.{NamedSite, Composition, of_kind, of_elements, of_parts, composition_of, lower_of}
use Rattle.layout.specs.Types.{element_of, parts_of, composed_shape, shape_within, parts_within}
use Rattle.layout.specs.Types.{is_within_depth}
use Rattle.std.proofs.lemmas.Bool.{and_parts}

-- the same composition of the same shapes is the same
module _ (inner other : VariableType → Shape) (within : VariableType → Bool)
    (same : (t : VariableType) → within t ≡ true → inner t ≡ other t) where
  same_parts : (ds : List NamedSite) → list_all (λ d. within d.site.declared) ds ≡ true
      → parts_of inner ds ≡ parts_of other ds
  same_parts [] h = refl
  same_parts (d ∷ ds) h =
      let b = and_parts (within d.site.declared) (list_all (λ d. within d.site.declared) ds) h in
      ap₂ (λ sh ps. part_then d.name sh ps) (same d.site.declared b.0) (same_parts ds b.1)

  same_composition : (c : Composition) → parts_within within c ≡ true
      → composed_shape inner c ≡ composed_shape other c
  same_composition (of_kind k) h = refl
  same_composition (of_elements a) h = ap (array (lower_of a) (elements_of_array a)) (same (element_of a) h)
  same_composition (of_parts w ds) h = ap (parts w) (same_parts ds h)

pub expanded_whole : (text : Declared) (n m : ℕ) (t : VariableType) → is_within_depth n text t ≡ true → n ≤ m
    → shape_within m text t ≡ shape_within n text t
unfolding shape_within is_within_depth
expanded_whole text zero m t h le = absurd (cc)
expanded_whole text (suc n) zero t h le = absurd (omega arith)
expanded_whole text (suc n) (suc m) t h le =
    same_composition (shape_within m text) (shape_within n text) (is_within_depth n text)
    (λ u g. expanded_whole text n m u g (omega arith)) (composition_of text t) h
