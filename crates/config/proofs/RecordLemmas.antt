-- The widths of values.
use Rattle.std.proofs.Common.{◌≤◌, arith}
use Rattle.st_types.specs.declared.kind.Kind.{Kind}
use Rattle.st_types.specs.declared.kind.Kind.TheVariants.{Sint, Int, Dint, Lint, Usint, Uint, Udint, Ulint, Byte, Word}
use Rattle.st_types.specs.declared.kind.Kind.TheVariants.{Dword, Lword, Time, Bool as Boolean, Enumerated}
use Rattle.st_types.specs.Kinds.{width_of}

pub width_small : (k : Kind) → width_of k ≤ 8
width_small Sint = omega arith
width_small Int = omega arith
width_small Dint = omega arith
width_small Lint = omega arith
width_small Usint = omega arith
width_small Uint = omega arith
width_small Udint = omega arith
width_small Ulint = omega arith
width_small Byte = omega arith
width_small Word = omega arith
width_small Dword = omega arith
width_small Lword = omega arith
width_small Time = omega arith
width_small Boolean = omega arith
width_small (Enumerated names number) = omega arith
