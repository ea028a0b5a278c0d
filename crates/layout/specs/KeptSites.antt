-- Declared facts about a variable and its parts, as code keeps them.
use Rattle.std.specs.Prelude.{◌≡◌, ℕ, zero, suc, ◌+◌, pos, ◌+ℤ◌, List, [], ◌∷◌, map, Bool, Option, option_map}
use denote.Bor.{Bor}
use Rattle.st_types.specs.declared.path.Step as path
use Rattle.st_types.specs.declared.path.Step.TheVariants as steps
use Rattle.st_types.specs.declared.data_type.ArrayType.{ArrayType}
use Rattle.st_types.specs.declared.data_type.VariableType.{VariableType}
use Rattle.st_types.specs.declared.initial.Initial as code
use Rattle.st_types.specs.Initials.{Initial}
use Rattle.st_types.specs.InitialViews.{initial_view}
use Rattle.st_types.specs.declared.declaration.Retention.{Retention}
use Rattle.st_meaning.specs.Plans.{is_retained_by, retained_so_far}
use Rattle.st_rules.specs.TypeRules.{elements_of_array}
use Rattle.symbols.specs.PlaceTypes.{place_type_view}
use Rattle.layout.specs.Types as made
use Rattle.layout.specs.Types.{NamedSite, of_kind, of_elements, of_parts, lower_of}
use Rattle.layout.specs.Sites.{element_site, member_site}
use Rattle.layout.specs.declared.sites.Part.{Part}
use Rattle.layout.specs.declared.sites.PartStep.{PartStep}
use Rattle.layout.specs.declared.sites.PartStep.TheVariants.{Member, Element}
use Rattle.layout.specs.declared.sites.Site.{Site}

-- its type, the initial value that is written for it, and whether it is retained so far
pub record KeptSite : Type 0 where
  pub declared : VariableType
  pub initial : Option Initial
  pub retained : Bool

-- the initial value that a declaration or a whole gives, or nothing
abbrev pub given_view : Option (Bor code.Initial) → Option Initial
given_view = option_map (λ i. initial_view i.now)

abbrev pub site_view : Site → KeptSite
site_view s = record {
  declared = place_type_view s.declared;
  initial = given_view s.initial;
  retained = s.retained;
}

abbrev pub kept : made.Site → KeptSite
kept s = record { declared = s.declared; initial = s.initial; retained = is_retained_by s.retentions }

-- a part by its step from the whole
abbrev pub KeptPart : Type 0
KeptPart = path.Step × KeptSite

abbrev pub step_view : PartStep → path.Step
step_view (Member x) = steps.Member x.now
step_view (Element z) = steps.Element z

abbrev pub part_view : Part → KeptPart
part_view p = (step_view p.step, site_view p.site)

abbrev pub kept_part : path.Step × made.Site → KeptPart
kept_part p = (p.0, kept p.1)

abbrev pub member_part : made.Site → NamedSite → path.Step × made.Site
member_part s d = (steps.Member d.name, member_site s d.name d.site)

-- The declaration's word on retention, or nothing.
abbrev pub IsSaid : List (Option Retention) → Option Retention → Type 0
IsSaid rs said = (so : Bool) → retained_so_far so rs ≡ retained_so_far so (said ∷ [])

-- the element of this number, from 0
abbrev pub element_part : made.Site → ArrayType → ℕ → path.Step × made.Site
element_part s a i = (steps.Element (lower_of a +ℤ pos i), element_site s a i)

-- `n` elements from this number on
abbrev pub element_parts : made.Site → ArrayType → ℕ → ℕ → List (path.Step × made.Site)
element_parts s a i zero = []
element_parts s a i (suc n) = element_part s a i ∷ element_parts s a (i + 1) n

-- the parts of this composition, one level down, in the order of the layout
abbrev pub parts_below : made.Site → made.Composition → List (path.Step × made.Site)
parts_below s (of_kind k) = []
parts_below s (of_elements a) = element_parts s a 0 (elements_of_array a)
parts_below s (of_parts w ds) = map (member_part s) ds
