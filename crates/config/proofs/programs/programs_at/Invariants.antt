use Rattle.std.proofs.Common.{◌≡◌, ◌++◌, drop, length, map}
use Rattle.slot_code.specs.Codes.{code_view}
use Rattle.config.specs.Programs.{instance_view, instances_from}
use Rattle.config.proofs.programs.programs_at.Given as goal

abbrev pub invariant-loop-code : goal.invariant-loop-code
invariant-loop-code l =
    map instance_view l.programs.items
    ++ instances_from (length l.programs.items) (drop (length l.programs.items) l.places)
    (map code_view l.code-iterator.rest.items)
    ≡ instances_from 0 l.places (map code_view l.initial.code-iterator.rest.items)
