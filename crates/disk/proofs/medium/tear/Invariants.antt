use Rattle.std.proofs.Common.{◌≡◌, ◌<◌, ℕ, get_or, take, count_by, true, false}
use Rattle.disk.specs.Medium.{torn_byte}
use Rattle.disk.proofs.medium.tear.Given as goal

abbrev pub invariant-loop-i : goal.invariant-loop-i
invariant-loop-i l = record {
  count : l.count ≡ count_by (λ t. t) (take l.i l.touched);
  torn : (i : ℕ) → i < l.i → get_or l.touched i true ≡ true
      → get_or l.bytes i 0 ≡ torn_byte l.torn (count_by (λ t. t) (take i l.touched));
  kept : (i : ℕ) → get_or l.touched i true ≡ false → get_or l.bytes i 0 ≡ get_or l.initial.bytes i 0;
}
