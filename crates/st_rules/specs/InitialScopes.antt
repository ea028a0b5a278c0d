-- The scopes inside initial values: each structure is one, with the fields that it names.
use Rattle.std.specs.Prelude.{List, [], ◌∷◌, ◌++◌, Option, Some, None}
use Rattle.st_types.specs.declared.identifier.Identifier.{Identifier}
use Rattle.st_types.specs.Initials.{Initial, constant, list, structure, Element, single, repeated, defaults, Elements}
use Rattle.st_types.specs.Initials.{no_elements, element_then, Members, no_members, member_then}

-- the fields that a structure names, in order
abbrev pub names_of_members : Members → List Identifier
names_of_members no_members = []
names_of_members (member_then x v rest) = x ∷ names_of_members rest

-- A structure comes before those in the values of its fields.
abbrev mutual
  pub scopes_in_initial : Initial → List (List Identifier)
  scopes_in_initial (constant l) = []
  scopes_in_initial (list at xs) = scopes_in_list xs
  scopes_in_initial (structure at xs) = names_of_members xs ∷ scopes_in_members xs

  pub scopes_in_list_element : Element → List (List Identifier)
  scopes_in_list_element (single x) = scopes_in_initial x
  scopes_in_list_element (repeated n x) = scopes_in_initial x
  scopes_in_list_element (defaults n) = []

  pub scopes_in_list : Elements → List (List Identifier)
  scopes_in_list no_elements = []
  scopes_in_list (element_then x xs) = scopes_in_list_element x ++ scopes_in_list xs

  pub scopes_in_members : Members → List (List Identifier)
  scopes_in_members no_members = []
  scopes_in_members (member_then x v rest) = scopes_in_initial v ++ scopes_in_members rest

-- those in an initial value, if there is one
abbrev pub scopes_in_optional : Option Initial → List (List Identifier)
scopes_in_optional None = []
scopes_in_optional (Some x) = scopes_in_initial x
