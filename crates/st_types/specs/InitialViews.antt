-- The mirrors of the code's initial values.
use Rattle.st_types.specs.declared.initial.Initial as code_initial
use Rattle.st_types.specs.declared.initial.InitialElement as code_element
use Rattle.st_types.specs.declared.initial.InitialMember as code_member
use Rattle.st_types.specs.declared.initial.Initial.TheOpen.{Initial-F, InitialElement-F, InitialMember-F}
use Rattle.st_types.specs.Initials.{Initial, constant, list, structure, Element, single, repeated, defaults, Member}
use Rattle.st_types.specs.Initials.{elements_of, members_of}

-- one level, with each part already seen as its mirror
abbrev pub initial_step : Initial-F Initial Element Member → Initial
initial_step (Initial-F.Constant l) = constant l
initial_step (Initial-F.List at xs) = list at (elements_of xs.items)
initial_step (Initial-F.Structure at xs) = structure at (members_of xs.items)

abbrev pub element_step : InitialElement-F Initial Element Member → Element
element_step (InitialElement-F.Single x) = single x
element_step (InitialElement-F.Repeated n x) = repeated n x
element_step (InitialElement-F.Defaults n) = defaults n

abbrev pub member_step : InitialMember-F Initial Element Member → Member
member_step m = (m.name, m.value)

abbrev pub initial_view : code_initial.Initial → Initial
initial_view = code_initial.fold-Initial Initial Element Member initial_step element_step member_step

abbrev pub element_view : code_element.InitialElement → Element
element_view = code_element.fold-InitialElement Initial Element Member initial_step element_step member_step

-- a field by its parts
abbrev pub member_view : code_member.InitialMember → Member
member_view m = (m.name, initial_view m.value)
