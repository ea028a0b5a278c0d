use Rattle.std.proofs.Common.{◌≡◌, ◌++◌, take, true}
use Rattle.st_meaning.specs.Plans.{holds_each}
use Rattle.image.specs.Plants.{spelled_values}
use Rattle.live_rows.specs.RowLines.{fields_after}
use Rattle.live_rows.proofs.fields.values_of.Given as goal

-- the fields so far, and those of the rest
abbrev pub invariant-loop-input : goal.invariant-loop-input
invariant-loop-input l = record {
  fields : fields_after l.fields ≡ spelled_values l.image.items ++ fields_after l.rest;
  held : holds_each (take l.input-index l.inputs) l.image.items ≡ true;
}
