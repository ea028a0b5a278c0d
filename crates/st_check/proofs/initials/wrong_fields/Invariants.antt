use Rattle.std.proofs.Common.{map, drop}
use Rattle.st_types.specs.Initials.{members_of}
use Rattle.st_types.specs.InitialViews.{member_view}
use Rattle.st_meaning.specs.NameTypes.{Declared}
use Rattle.st_rules.specs.InitialRules.{wrong_fields}
use Rattle.st_rules.proofs.CollectLemmas.{Searches}
use Rattle.symbols.specs.Fields.{ServesFields}
use Rattle.symbols.specs.PlaceTypes.{place_type_view}
use Rattle.st_check.proofs.initials.wrong_fields.Given as goal

abbrev pub invariant-loop-member : goal.invariant-loop-member
invariant-loop-member l = (text : Declared) → ServesFields l.fields text
    → Searches (wrong_fields text (place_type_view l.declared) (members_of (map member_view l.members)))
    (wrong_fields text (place_type_view l.declared) (members_of (map member_view (drop l.member-index l.members))))
    l.initial.broken l.broken
