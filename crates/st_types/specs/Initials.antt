-- Initial values, as the definitions see them.
use Rattle.std.specs.Prelude.{ℕ, List, [], ◌∷◌}
use Rattle.st_types.specs.declared.identifier.Identifier.{Identifier}
use Rattle.st_types.specs.declared.literal.Literal.{Literal}
use Rattle.st_types.specs.declared.literal.Number.{Number}

mutual
  pub data Initial : Type 0 where
    constant : Literal → Initial
    -- the elements of an array
    list : ℕ → Elements → Initial
    -- the fields of a structure
    structure : ℕ → Members → Initial

  pub data Element : Type 0 where
    single : Initial → Element
    -- a number of elements with the same value
    repeated : Number → Initial → Element
    -- a number of elements with their default value
    defaults : Number → Element

  pub data Elements : Type 0 where
    no_elements : Elements
    element_then : Element → Elements → Elements

  pub data Members : Type 0 where
    no_members : Members
    member_then : Identifier → Initial → Members → Members

-- a field with its initial value
abbrev pub Member : Type 0
Member = Identifier × Initial

abbrev pub elements_of : List Element → Elements
elements_of [] = no_elements
elements_of (x ∷ xs) = element_then x (elements_of xs)

abbrev pub members_of : List Member → Members
members_of [] = no_members
members_of (x ∷ xs) = member_then x.0 x.1 (members_of xs)
