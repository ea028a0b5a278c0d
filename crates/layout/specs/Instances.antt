-- The instances of programs as one list.
use Rattle.std.specs.Prelude.{List, [], ◌∷◌, ◌++◌, map, Some}
use Rattle.st_types.specs.declared.path.Owner.{Owner}
use Rattle.st_types.specs.declared.configuration.Instance.{Instance}
use Rattle.st_types.specs.Configurations.{Resource}
use Rattle.st_meaning.specs.NameTypes.{Declared, unit_named}
use Rattle.st_meaning.specs.Scopes.{Name}
use Rattle.layout.specs.LayoutVariables.{Owned, owned_variable, owner_in, program_sites}
use Rattle.layout.specs.Slots.{owner_view}
use Rattle.layout.specs.declared.configurations.ProgramInstance as code

-- its owner, and the name of its program
abbrev pub OwnedProgram : Type 0
OwnedProgram = Owner × Name

abbrev pub instance_view : code.ProgramInstance → OwnedProgram
instance_view i = (owner_view i.owner, i.program.now)

-- the instance of a resource
abbrev pub instance_on : Name → Instance → OwnedProgram
instance_on resource i = (owner_in resource i, i.program.name)

abbrev pub instances_in : List Resource → List OwnedProgram
instances_in [] = []
instances_in (r ∷ rs) = map (instance_on r.name.name) r.instances ++ instances_in rs

-- their variables
abbrev pub variables_of_programs : Declared → List OwnedProgram → List Owned
variables_of_programs text [] = []
variables_of_programs text (i ∷ is) =
    map (owned_variable (Some i.0)) (program_sites (unit_named text.units i.1)) ++ variables_of_programs text is
