use Rattle.std.proofs.Common.{◌≡◌, ◌++◌, map, option_map, drop}
use Rattle.st_types.specs.Initials.{elements_of, members_of}
use Rattle.st_types.specs.InitialViews.{element_view, member_view}
use Rattle.st_meaning.specs.NameTypes.{Declared}
use Rattle.st_rules.specs.InitialRules.{starts_of_elements, starts_of_members}
use Rattle.symbols.specs.Texts.{ServesText}
use Rattle.symbols.specs.Fields.{ServesFields}
use Rattle.symbols.specs.PlaceTypes.{place_type_view}
use Rattle.st_decl.specs.StartViews.{start_view}
use Rattle.st_decl.proofs.starts.+push_start.Given as goal

abbrev pub invariant-push_elements-loop-element : goal.invariant-push_elements-loop-element
invariant-push_elements-loop-element l = (text : Declared) → ServesText l.names text → ServesFields l.fields text
    → map start_view l.starts.items
    ++ starts_of_elements text (option_map place_type_view l.declared)
    (elements_of (map element_view (drop l.element-index l.elements)))
    ≡ map start_view l.initial.starts.items
    ++ starts_of_elements text (option_map place_type_view l.declared) (elements_of (map element_view l.elements))

abbrev pub invariant-push_members-loop-member : goal.invariant-push_members-loop-member
invariant-push_members-loop-member l = (text : Declared) → ServesText l.names text → ServesFields l.fields text
    → map start_view l.starts.items
    ++ starts_of_members text (option_map place_type_view l.declared)
    (members_of (map member_view (drop l.member-index l.members)))
    ≡ map start_view l.initial.starts.items
    ++ starts_of_members text (option_map place_type_view l.declared) (members_of (map member_view l.members))
