-- Types whose numbers are those of another.
use Rattle.std.proofs.Common.{◌≡◌, ℤ, true, false, ◌≤ℤ◌, arith}
use Rattle.std.specs.Prelude.{int_le, ◌&&◌}
use Rattle.std.proofs.lemmas.Grind.{common_steps}
use Rattle.st_types.specs.declared.kind.Kind.{Kind}
use Rattle.st_types.specs.Kinds.{least, greatest}
use Rattle.st_types.specs.Words.{is_wide}
use Rattle.quick_trees.specs.Pieces.{IsWider}

between : (a b c d n : ℤ) → c ≤ℤ a → b ≤ℤ d → (int_le a n && int_le n b) ≡ true → (int_le c n && int_le n d) ≡ true
between a b c d n low high h = grind (arith, common_steps)

pub wider : (from to : Kind) → is_wide from ≡ false → is_wide to ≡ false → least to ≤ℤ least from
    → greatest from ≤ℤ greatest to → IsWider from to
wider from to a b low high = record {
  narrow_from = a;
  narrow_to = b;
  all = λ n h. between (least from) (greatest from) (least to) (greatest to) n low high h;
}
