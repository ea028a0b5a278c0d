use Rattle.std.proofs.Common.{◌≡◌, ◌++◌, map, drop}
use Rattle.st_decl.specs.Parts.{part_view, link_of}
use Rattle.symbols.specs.Found.{found}
use Rattle.st_decl.proofs.links.links_of.Given as goal

abbrev pub invariant-loop-part : goal.invariant-loop-part
invariant-loop-part l = l.links.items ++ map (link_of (found l.numbers)) (map part_view (drop l.part-index l.parts))
    ≡ map (link_of (found l.numbers)) (map part_view l.parts)
