-- The parts of a variable as an addition to a layout, and when there is no room for them.
use Rattle.std.specs.Prelude.{◌≡◌, ℕ, ◌+◌, nat_lt, List, ◌++◌, Bool, ◌||◌, true}
use Rattle.st_types.specs.declared.limits.TheConstants.{MAX_PATHS}
use Rattle.st_meaning.specs.NameTypes.{Declared}
use Rattle.layout.specs.Shapes.{instance_count}
use Rattle.layout.specs.Types as made
use Rattle.layout.specs.Types.{shape_within}
use Rattle.layout.specs.LayoutVariables.{Owned}
use Rattle.layout.specs.TextLayouts.{instances_of}
use Rattle.layout.specs.Layouts.{layout_size}
use Rattle.layout.specs.Slots.{path_at, slots_within}
use Rattle.layout.specs.declared.growing.Growing.{Growing}
use Rattle.layout.specs.declared.layout_error.LayoutError.{LayoutError}
use Rattle.layout.specs.declared.layout_error.LayoutError.TheVariants as errors
use Rattle.layout.specs.declared.limits.TheConstants.{MAX_INSTANCES}
use Rattle.layout.specs.declared.slots.Root.{Root}

-- its slots after those that were there, and its instances added to them
pub record Grows (n : ℕ) (text : Declared) (s : made.Site) (r : Root) (old new : Growing) : Type 0 where
  pub slots : new.slots.items ≡ old.slots.items ++ slots_within n text s r.is_input (path_at r old.trail.items)
  pub instances : new.instances ≡ old.instances + instance_count (shape_within n text s.declared)

-- variables have more slots or more instances than a layout has room for
abbrev pub is_too_large : Declared → List Owned → Bool
is_too_large text vs = nat_lt MAX_PATHS (layout_size text vs) || nat_lt MAX_INSTANCES (instances_of text vs)

-- this many slots or instances are too many, if the error says so
abbrev pub Exceeds : ℕ → ℕ → LayoutError → Type 0
Exceeds slots instances errors.TooLarge = (nat_lt MAX_PATHS slots || nat_lt MAX_INSTANCES instances) ≡ true
Exceeds slots instances errors.OutOfMemory = Unit {0}
