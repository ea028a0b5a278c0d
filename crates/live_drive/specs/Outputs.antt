-- The outputs of a plant: its globals AT %Q.
use Rattle.std.specs.Prelude.{ℕ, List, [], ◌∷◌, Option, Some, None}
use Rattle.std.specs.List.{flat_map}
use Rattle.st_types.specs.declared.configuration.Direction.{Direction}
use Rattle.st_types.specs.declared.configuration.Direction.TheVariants.{Input, Output}
use Rattle.st_types.specs.Configurations.{GlobalBlock, GlobalDeclaration, GlobalNames, listed, located}
use Rattle.st_types.specs.Sources.{LibraryElement}
use Rattle.st_types.specs.Sources as sources
use Rattle.st_types.specs.SourceViews.{source_view}
use Rattle.plan.specs.declared.plan.Plan.{Plan}
use Rattle.plan.specs.declared.slots.SlotPlace.{SlotPlace}
use Rattle.plan.specs.declared.slots.SlotPlace.TheVariants as places
use Rattle.plan.specs.SlotPlaces.{place_of}

-- a name, if the address is that of an output
abbrev pub name_at : Direction → List ℕ → List (List ℕ)
name_at Output name = name ∷ []
name_at Input name = []

-- the name that is declared at an address of an output, if there is one
abbrev pub output_name : GlobalNames → List (List ℕ)
output_name (located x a) = name_at a.direction x.name
output_name (listed xs) = []

-- the names of all outputs of globals, in declaration order
abbrev pub output_names : List GlobalBlock → List (List ℕ)
output_names blocks = flat_map (λ b. flat_map (λ d. output_name d.names) b.declarations) blocks

-- the names of the outputs of a text: of its configuration, which is the only one of an accepted text
abbrev pub outputs_in : LibraryElement → List (List ℕ)
outputs_in (sources.types declarations) = []
outputs_in (sources.unit unit) = []
outputs_in (sources.configuration c) = output_names c.globals

-- the place of a variable, if it is one
abbrev pub variable_place : Option SlotPlace → List ℕ
variable_place None = []
variable_place (Some (places.Input n)) = []
variable_place (Some (places.Variable n)) = n ∷ []

-- the place among the variables of the global of this name
abbrev pub place_named : Plan → List ℕ → List ℕ
place_named plan name =
    variable_place (place_of plan.variables.items plan.inputs.items record { owner = None; name = name; steps = [] })

-- the places of the outputs among the variables, in declaration order
abbrev pub output_places : Plan → List ℕ
output_places plan = flat_map (place_named plan) (flat_map outputs_in (source_view plan.text.value))
