-- The entries of an index for names.
use Rattle.std.specs.Prelude.{ℕ, List, Option, Some, None}
use Rattle.std.specs.Ordering.{nat_cmp}
use Rattle.std.specs.Cmp.Lexicographic.{slice_cmp}
use Rattle.std.specs.BTreeMap.{get_by}
use Rattle.symbols.specs.declared.index.Index.{Index}

abbrev pub or_found : {T : Type 0} → Option T → Option T → Option T
or_found (Some x) other = Some x
or_found None other = other

abbrev pub found : {T : Type 0} → Index T → List ℕ → Option T
found index q = get_by (λ k. slice_cmp nat_cmp q k.now) index.map
