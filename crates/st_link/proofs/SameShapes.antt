-- Types that are the same have the same shape.
use Rattle.std.proofs.Common.{◌≡◌, ℕ, zero, suc, Bool, true, ◌&&◌, Option, Some, None, refl, sym, ap, ap₂, ◌∙◌}
use Rattle.std.specs.Prelude.{pos, ◌+ℤ◌, ◌-ℤ◌}
use Rattle.std.specs.Ordering.{int_eq}
use Rattle.st_types.specs.declared.identifier.Identifier.{Identifier}
use Rattle.st_types.specs.declared.kind.Kind.{Kind}
use Rattle.st_types.proofs.KindLemmas.{same_kind_is}
use Rattle.st_types.specs.declared.data_type.ArrayType.{ArrayType}
use Rattle.st_types.specs.declared.data_type.SimpleType.{SimpleType}
use Rattle.st_types.specs.declared.data_type.SimpleType.TheVariants.{Elementary, Named}
use Rattle.st_types.specs.declared.data_type.VariableType.{VariableType}
use Rattle.st_types.specs.declared.data_type.VariableType.TheVariants as types
use Rattle.st_types.specs.Declarations as declarations
use Rattle.st_types.specs.Declarations.{TypeDefinition}
use Rattle.st_meaning.specs.NameTypes.{Declared, type_named, definition_of}
use Rattle.st_meaning.specs.Operators.{natural, number_of}
use Rattle.st_meaning.specs.Scopes.{Name}
use Rattle.st_rules.specs.ConfigurationRules.{same_simple, same_bounds, same_over, same_within}
use Rattle.st_rules.specs.TypeRules.{elements_of_array}
use Rattle.layout.specs.Shapes.{Shape, array}
use Rattle.layout.specs.Types.{Composition, of_kind, of_elements, composition_of, lower_of, composed_shape}
use Rattle.layout.specs.Types.{shape_within}
use Rattle.layout.proofs.ListLemmas.{same_int, same_name}
use Rattle.st_link.specs.Homes.{are_names_different}
use Rattle.st_link.proofs.SoundMembers.{made}
use Rattle.std.proofs.lemmas.Bool.{and_parts}

module _ (text : Declared) (differ : are_names_different text ≡ true) where
  abbrev Same : VariableType → VariableType → Type 0
  Same t u = (m : ℕ) → shape_within m text t ≡ shape_within m text u

  -- with the same composition
  composed : (t u : VariableType) → composition_of text t ≡ composition_of text u → Same t u
  unfolding shape_within
  composed t u h zero = refl
  composed t u h (suc m) = ap (composed_shape (shape_within m text)) h

  -- arrays
  abbrev shape_of_array : ArrayType → Shape → Shape
  shape_of_array a sh = array (lower_of a) (elements_of_array a) sh

  arrays_same : (a b : ArrayType) → same_bounds a b ≡ true → (sh sh' : Shape) → sh ≡ sh'
      → shape_of_array a sh ≡ shape_of_array b sh'
  arrays_same a b h sh sh' e =
      let bounds = and_parts (int_eq (number_of a.lower) (number_of b.lower)) (int_eq (number_of a.upper) (number_of b.upper)) h in
      let lower = same_int (number_of a.lower) (number_of b.lower) bounds.0 in
      let upper = same_int (number_of a.upper) (number_of b.upper) bounds.1 in
      ap₂ (λ l u. array l (natural ((u -ℤ l) +ℤ pos 1)) sh) lower upper
      ∙ ap (shape_of_array b) e

  elements : (t u : VariableType) (a b : ArrayType) → composition_of text t ≡ of_elements a
      → composition_of text u ≡ of_elements b → same_bounds a b ≡ true
      → Same (types.Simple a.element) (types.Simple b.element) → Same t u
  unfolding shape_within
  elements t u a b e f h s zero = refl
  elements t u a b e f h s (suc m) =
      ap (composed_shape (shape_within m text)) e
      ∙ arrays_same a b h (shape_within m text (types.Simple a.element)) (shape_within m text (types.Simple b.element))
      (s m)
      ∙ ap (composed_shape (shape_within m text)) (sym f)

  named_array : (x : Identifier) (a : ArrayType) → type_named text.types x.name ≡ Some (declarations.array a)
      → composition_of text (types.Simple (Named x)) ≡ of_elements a
  named_array x a h = made text differ x (declarations.array a) h refl

  -- with the same name
  abbrev by_name : Name → Composition
  by_name x = composition_of text (types.Simple (Named (record { name = x; place = 0 })))

  names_same : (x y : Identifier) → same_simple (Named x) (Named y) ≡ true
      → Same (types.Simple (Named x)) (types.Simple (Named y))
  names_same x y h =
      composed (types.Simple (Named x)) (types.Simple (Named y)) (ap by_name (same_name x.name y.name h))

  kinds_same : (k l : Kind) (at place : ℕ) → same_simple (Elementary k at) (Elementary l place) ≡ true
      → Same (types.Simple (Elementary k at)) (types.Simple (Elementary l place))
  kinds_same k l at place h =
      composed (types.Simple (Elementary k at)) (types.Simple (Elementary l place)) (ap of_kind (same_kind_is k l h))

  module _ (same : SimpleType → SimpleType → Bool)
      (ih : (a b : SimpleType) → same a b ≡ true → Same (types.Simple a) (types.Simple b)) where
    both_arrays : (t u : VariableType) (a b : ArrayType) → composition_of text t ≡ of_elements a
        → composition_of text u ≡ of_elements b → (same_bounds a b && same a.element b.element) ≡ true → Same t u
    both_arrays t u a b e f h =
        let parts = and_parts (same_bounds a b) (same a.element b.element) h in
        elements t u a b e f parts.0 (ih a.element b.element parts.1)

    array_and_name : (a : ArrayType) (y : Identifier) (p : Option TypeDefinition) → type_named text.types y.name ≡ p
        → same_over same (Some (declarations.array a)) p (types.Array a) (types.Simple (Named y)) ≡ true
        → Same (types.Array a) (types.Simple (Named y))
    array_and_name a y (Some (declarations.array b)) e h =
        both_arrays (types.Array a) (types.Simple (Named y)) a b refl (named_array y b e) h
    array_and_name a y (Some (declarations.structure fields)) e h = absurd (cc)
    array_and_name a y (Some (declarations.enumeration names)) e h = absurd (cc)
    array_and_name a y None e h = absurd (cc)

    name_and_array : (x : Identifier) (b : ArrayType) (o : Option TypeDefinition) → type_named text.types x.name ≡ o
        → same_over same o (Some (declarations.array b)) (types.Simple (Named x)) (types.Array b) ≡ true
        → Same (types.Simple (Named x)) (types.Array b)
    name_and_array x b (Some (declarations.array a)) e h =
        both_arrays (types.Simple (Named x)) (types.Array b) a b (named_array x a e) refl h
    name_and_array x b (Some (declarations.structure fields)) e h = absurd (cc)
    name_and_array x b (Some (declarations.enumeration names)) e h = absurd (cc)
    name_and_array x b None e h = absurd (cc)

    name_and_kind : (x : Identifier) (l : Kind) (at : ℕ) (o : Option TypeDefinition)
        → same_over same o None (types.Simple (Named x)) (types.Simple (Elementary l at)) ≡ true
        → Same (types.Simple (Named x)) (types.Simple (Elementary l at))
    name_and_kind x l at (Some (declarations.array a)) h = absurd (cc)
    name_and_kind x l at (Some (declarations.structure fields)) h = absurd (cc)
    name_and_kind x l at (Some (declarations.enumeration names)) h = absurd (cc)
    name_and_kind x l at None h = absurd (cc)

    two_names : (x y : Identifier) (o p : Option TypeDefinition) → type_named text.types x.name ≡ o
        → type_named text.types y.name ≡ p
        → same_over same o p (types.Simple (Named x)) (types.Simple (Named y)) ≡ true
        → Same (types.Simple (Named x)) (types.Simple (Named y))
    two_names x y (Some (declarations.array a)) (Some (declarations.array b)) e f h =
        both_arrays (types.Simple (Named x)) (types.Simple (Named y)) a b (named_array x a e) (named_array y b f) h
    two_names x y (Some (declarations.array a)) (Some (declarations.structure fields)) e f h = names_same x y h
    two_names x y (Some (declarations.array a)) (Some (declarations.enumeration names)) e f h = names_same x y h
    two_names x y (Some (declarations.array a)) None e f h = names_same x y h
    two_names x y (Some (declarations.structure fields)) p e f h = names_same x y h
    two_names x y (Some (declarations.enumeration names)) p e f h = names_same x y h
    two_names x y None p e f h = names_same x y h

    over_same : (t u : VariableType) → same_over same (definition_of text t) (definition_of text u) t u ≡ true → Same t u
    over_same (types.Array a) (types.Array b) h = both_arrays (types.Array a) (types.Array b) a b refl refl h
    over_same (types.Array a) (types.Simple (Elementary l at)) h = absurd (cc)
    over_same (types.Array a) (types.Simple (Named y)) h = array_and_name a y (type_named text.types y.name) refl h
    over_same (types.Simple (Elementary k at)) (types.Array b) h = absurd (cc)
    over_same (types.Simple (Elementary k at)) (types.Simple (Elementary l place)) h = kinds_same k l at place h
    over_same (types.Simple (Elementary k at)) (types.Simple (Named y)) h = absurd (cc)
    over_same (types.Simple (Named x)) (types.Array b) h = name_and_array x b (type_named text.types x.name) refl h
    over_same (types.Simple (Named x)) (types.Simple (Elementary l at)) h =
        name_and_kind x l at (type_named text.types x.name) h
    over_same (types.Simple (Named x)) (types.Simple (Named y)) h =
        two_names x y (type_named text.types x.name) (type_named text.types y.name) refl refl h

  pub same_shapes : (n : ℕ) (t u : VariableType) → same_within text n t u ≡ true → (m : ℕ)
      → shape_within m text t ≡ shape_within m text u
  unfolding same_within
  same_shapes zero t u h = absurd (cc)
  same_shapes (suc n) t u h =
      over_same (λ a b. same_within text n (types.Simple a) (types.Simple b))
      (λ a b e. same_shapes n (types.Simple a) (types.Simple b) e) t u h
