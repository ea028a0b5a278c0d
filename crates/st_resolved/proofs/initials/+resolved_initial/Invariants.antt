use Rattle.std.proofs.Common.{◌≡◌, ◌++◌, map, option_map, drop}
use Rattle.st_types.specs.InitialViews.{element_view, member_view}
use Rattle.st_meaning.specs.NameTypes.{Declared}
use Rattle.st_meaning.specs.ResolvedUnits.{resolved_element}
use Rattle.symbols.specs.Fields.{ServesFields}
use Rattle.symbols.specs.PlaceTypes.{place_type_view}
use Rattle.symbols.specs.Tables.{ServesTables}
use Rattle.st_resolved.specs.Arms.{resolved_member}
use Rattle.st_resolved.proofs.initials.+resolved_initial.Given as goal

abbrev pub invariant-resolved_elements-loop-element : goal.invariant-resolved_elements-loop-element
invariant-resolved_elements-loop-element l = (text : Declared) → ServesTables l.tables text → ServesFields l.fields text
    → map element_view l.resolved.items ++ map (resolved_element text (option_map place_type_view l.declared)) (map element_view (drop l.element-index l.elements))
    ≡ map (resolved_element text (option_map place_type_view l.declared)) (map element_view l.elements)

abbrev pub invariant-resolved_members-loop-member : goal.invariant-resolved_members-loop-member
invariant-resolved_members-loop-member l = (text : Declared) → ServesTables l.tables text → ServesFields l.fields text
    → map member_view l.resolved.items ++ map (resolved_member text (option_map place_type_view l.declared)) (map member_view (drop l.member-index l.members))
    ≡ map (resolved_member text (option_map place_type_view l.declared)) (map member_view l.members)
