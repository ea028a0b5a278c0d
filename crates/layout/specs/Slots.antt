-- The slots of a layout with their initial values, and those of the parts of a variable.
use Rattle.std.specs.Prelude.{ℕ, ◌+◌, List, [], ◌∷◌, ◌++◌, map, Bool, false, if◌then◌else◌, option_map}
use Rattle.st_types.specs.declared.path.Owner.{Owner}
use Rattle.st_types.specs.declared.path.Step.{Step}
use Rattle.st_types.specs.Paths.{Path}
use Rattle.st_meaning.specs.Plans.{initial_value}
use Rattle.st_meaning.specs.NameTypes.{Declared}
use Rattle.layout.specs.Shapes.{Leaf, leaves_of, size, instance_count, instances_of_whole}
use Rattle.layout.specs.Types as made
use Rattle.layout.specs.Types.{of_kind, of_elements, of_parts, shape_within}
use Rattle.layout.specs.Sites.{initial_at, retained_at, constant_of, default_of}
use Rattle.layout.specs.TextLayouts.{further}
use Rattle.layout.specs.KeptSites.{KeptSite, step_view}
use Rattle.layout.specs.declared.sites.PartStep.{PartStep}
use Rattle.layout.specs.declared.slots.LayoutSlot.{LayoutSlot}
use Rattle.layout.specs.declared.slots.OwnerNames.{OwnerNames}
use Rattle.layout.specs.declared.slots.Root.{Root}

abbrev pub owner_view : OwnerNames → Owner
owner_view o = record { resource = o.resource.now; instance = o.instance.now }

-- the path of the part to which steps lead from a variable
abbrev pub path_at : Root → List PartStep → Path
path_at r xs = record { owner = option_map owner_view r.owner; name = r.name.now; steps = map step_view xs }

-- the slot of an elementary part of a whole with this declaration and this path; an input starts with the default of
-- its type and is never retained, whatever is declared
abbrev pub slot_at : Declared → made.Site → Bool → Path → Leaf → LayoutSlot
slot_at text s input p l = record {
  path = further p l.steps;
  initial = if input then default_of l.kind else initial_at text s l.steps l.kind;
  retained = if input then false else retained_at text s l.steps;
  is_input = input;
}

-- the slots of a whole with this declaration, whose type is expanded to this depth
abbrev pub slots_within : ℕ → Declared → made.Site → Bool → Path → List LayoutSlot
slots_within n text s input p = map (slot_at text s input p) (leaves_of (shape_within n text s.declared))

-- those of its parts, each after its step
abbrev pub slots_of_parts : ℕ → Declared → Bool → Path → List (Step × made.Site) → List LayoutSlot
slots_of_parts n text input p [] = []
slots_of_parts n text input p (e ∷ es) =
    slots_within n text e.1 input (further p (e.0 ∷ [])) ++ slots_of_parts n text input p es

abbrev pub size_of_parts : ℕ → Declared → List (Step × made.Site) → ℕ
size_of_parts n text [] = 0
size_of_parts n text (e ∷ es) = size (shape_within n text e.1.declared) + size_of_parts n text es

abbrev pub instances_of_parts : ℕ → Declared → List (Step × made.Site) → ℕ
instances_of_parts n text [] = 0
instances_of_parts n text (e ∷ es) = instance_count (shape_within n text e.1.declared) + instances_of_parts n text es

-- a whole without parts has a slot of its own
abbrev pub own_slots : made.Composition → KeptSite → Bool → Path → List LayoutSlot
own_slots (of_kind k) s input p = record {
  path = p;
  initial = if input then default_of k else initial_value k (constant_of k s.initial);
  retained = if input then false else s.retained;
  is_input = input;
} ∷ []
own_slots (of_elements a) s input p = []
own_slots (of_parts w ds) s input p = []

abbrev pub own_size : made.Composition → ℕ
own_size (of_kind k) = 1
own_size (of_elements a) = 0
own_size (of_parts w ds) = 0

-- a block's instance is one itself
abbrev pub own_instances : made.Composition → ℕ
own_instances (of_kind k) = 0
own_instances (of_elements a) = 0
own_instances (of_parts w ds) = instances_of_whole w
