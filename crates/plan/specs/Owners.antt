-- Instances by the names of their resources and themselves.
use Rattle.std.specs.Prelude.{◌≡◌, ℕ, List, ◌++◌, slice_get, Some, codes}
use Rattle.st_types.specs.declared.path.Owner.{Owner}

-- RES/INST
abbrev pub name_of : Owner → List ℕ
name_of o = o.resource ++ codes "/" ++ o.instance

-- a text that begins with the name of an instance and a blank identifies the instance, whatever follows
abbrev pub AreDistinguished : List Owner → Type 0
AreDistinguished owners = (i j : ℕ) (o p : Owner) (more rest : List ℕ) → slice_get owners i ≡ Some o
    → slice_get owners j ≡ Some p → (name_of o ++ codes " ") ++ more ≡ (name_of p ++ codes " ") ++ rest → i ≡ j
