-- Stores: the variables in the order of the layout, each path once, with its value.
use Rattle.std.specs.Prelude.{◌≡◌, List, [], ◌∷◌, ◌++◌, Bool, true, ◌&&◌, not, if◌then◌else◌, Option, Some, None}
use Rattle.std.specs.Prelude.{Result, Ok, Err, map}
use Rattle.std.specs.List.{list_any}
use Rattle.st_types.specs.declared.kind.Kind.{Kind}
use Rattle.st_types.specs.Kinds.{same_kind, holds}
use Rattle.st_types.specs.Values.{Datum}
use Rattle.st_types.specs.Paths.{Path, same_path, is_within}
use Rattle.st_meaning.specs.Failures.{Failure, ill_typed}

-- a store, or an image: the inputs of the plant with their values
abbrev pub Store : Type 0
Store = List (Path × Datum)

abbrev pub get : Store → Path → Option Datum
get [] p = None
get (e ∷ s) p = if same_path p e.0 then Some e.1 else get s p

-- a value that a variable may take in the place of another: it is of the same type, and one that the type holds
abbrev pub may_replace : Datum → Datum → Bool
may_replace old new = same_kind old.kind new.kind && holds new.kind new.number

-- the first variable with a new value, if it may take it
abbrev pub replaced : Path × Datum → Datum → Store → Result Store Failure
replaced e v s = if may_replace e.1 v then Ok ((e.0, v) ∷ s) else Err ill_typed

abbrev pub with_entry : Path × Datum → Result Store Failure → Result Store Failure
with_entry e (Ok t) = Ok (e ∷ t)
with_entry e (Err f) = Err f

-- the store after an assignment, if there is such a variable
abbrev pub assigned : Store → Path → Datum → Result Store Failure
assigned [] p v = Err ill_typed
assigned (e ∷ s) p v = if same_path p e.0 then replaced e v s else with_entry e (assigned s p v)

-- some variable is this one or a part of it
abbrev pub has_part : Store → Path → Bool
has_part s p = list_any (λ e. is_within p e.0) s

-- the variables with their types
abbrev pub shape_of : Store → List (Path × Kind)
shape_of s = map (λ e. (e.0, e.1.kind)) s

-- each path occurs once
abbrev pub is_distinct : List (Path × Kind) → Bool
is_distinct [] = true
is_distinct (e ∷ es) = not (list_any (λ d. same_path e.0 d.0) es) && is_distinct es

-- each value is one that its type holds
abbrev pub all_held : Store → Bool
all_held [] = true
all_held (e ∷ s) = holds e.1.kind e.1.number && all_held s

-- Each path of a store occurs once, in it and in the image, and each value is one that its type holds.
pub record IsStore (image s : Store) : Type 0 where
  pub once : is_distinct (shape_of image ++ shape_of s) ≡ true
  pub held : all_held s ≡ true
