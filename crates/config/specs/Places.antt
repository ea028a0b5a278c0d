-- Where the instances of a configuration run.
use Rattle.std.specs.Prelude.{ℕ, suc, ◌+◌, List, [], ◌∷◌, ◌++◌, map, length, Option, Some, None, position}
use Rattle.std.specs.Option.{unwrap_or}
use Rattle.st_types.specs.declared.identifier.Identifier.{Identifier}
use Rattle.st_types.specs.declared.configuration.Instance.{Instance}
use Rattle.st_types.specs.declared.configuration.Task.{Task}
use Rattle.st_types.specs.Configurations.{Resource}
use Rattle.st_meaning.specs.NameTypes.{is_named}
use Rattle.layout.specs.LayoutVariables.{owner_in}
use Rattle.config.specs.declared.places.Place.{Place}

-- the number of a task of this name
abbrev pub task_number : List Task → Option Identifier → Option ℕ
task_number tasks None = None
task_number tasks (Some x) = position (λ t. is_named x.name t.name) tasks

-- an instance on a resource of this number, whose first task has this number; its task is known
abbrev pub place_of : ℕ → ℕ → Resource → Instance → Place
place_of number first r i = record {
  owner = owner_in r.name.name i;
  resource = number;
  task = first + unwrap_or (task_number r.tasks i.task) 0;
}

-- the instances of resources in their order; the first resource has this number, and its first task
abbrev pub places_from : ℕ → ℕ → List Resource → List Place
places_from number first [] = []
places_from number first (r ∷ rs) =
    map (place_of number first r) r.instances ++ places_from (suc number) (first + length r.tasks) rs
