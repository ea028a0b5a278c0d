use Rattle.std.proofs.Common.{◌≡◌, ◌≤◌, ◌-◌, length, drop, true}
use Rattle.st_types.specs.declared.limits.TheConstants.{MAX_PATHS}
use Rattle.st_meaning.specs.NameTypes.{Declared}
use Rattle.layout.specs.Shapes.{is_sound}
use Rattle.layout.specs.Types as made
use Rattle.layout.specs.Types.{shape_within}
use Rattle.layout.specs.Compositions.{ServesTypes}
use Rattle.layout.specs.KeptSites.{kept, site_view}
use Rattle.layout.specs.declared.limits.TheConstants.{MAX_INSTANCES}
use Rattle.layout.proofs.GrowthLemmas.{Remains}
use Rattle.layout.proofs.growing.+push_site.Given as goal

abbrev pub decreases-push_site : goal.decreases-push_site
decreases-push_site l = l.depth

abbrev pub invariant-loop-part : goal.invariant-loop-part
invariant-loop-part l = record {
  trail : l.grown.trail.items ≡ l.fn.grown.trail.items;
  room : length l.fn.grown.slots.items ≤ MAX_PATHS → length l.grown.slots.items ≤ MAX_PATHS;
  few : l.fn.grown.instances ≤ MAX_INSTANCES → l.grown.instances ≤ MAX_INSTANCES;
  grown : (text : Declared) (s : made.Site) → ServesTypes l.types text → site_view l.site ≡ kept s
      → is_sound (shape_within l.depth text s.declared) ≡ true
      → Remains (l.depth - 1) text s l.root l.fn.grown l.grown (drop l.part-index l.part-items);
}
