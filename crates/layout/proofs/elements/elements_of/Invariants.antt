use Rattle.std.proofs.Common.{◌≡◌, ◌++◌, ◌-◌, map, length}
use Rattle.st_rules.specs.TypeRules.{elements_of_array}
use Rattle.layout.specs.Types as made
use Rattle.layout.specs.KeptSites.{element_parts, kept, kept_part, part_view, site_view}
use Rattle.layout.proofs.elements.elements_of.Given as goal

-- the elements so far and those still to come
abbrev pub invariant-loop : goal.invariant-loop
invariant-loop l = record {
  length : l.counter ≡ length l.parts.items;
  parts : (s : made.Site) → site_view l.whole ≡ kept s → map part_view l.parts.items
      ++ map kept_part (element_parts s l.array l.counter (l.count - l.counter))
      ≡ map kept_part (element_parts s l.array 0 (elements_of_array l.array));
}
