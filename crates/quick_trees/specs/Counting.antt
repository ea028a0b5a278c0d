-- How a FOR counts.
use Rattle.std.specs.Prelude.{◌≡◌, ◌<◌, ◌⊎◌, ℕ, ℤ, suc, pos, negsuc, Option, Some, None, slice_get}
use Rattle.st_types.specs.declared.kind.Kind.{Kind}
use Rattle.st_types.specs.declared.kind.Kind.TheVariants.{Dint, Int, Lint, Ulint}
use Rattle.st_types.specs.declared.operator.BinaryOperator.TheVariants.{Add}
use Rattle.st_types.specs.Values.{IsHeld}
use Rattle.st_types.specs.Words.{datum_at}
use Rattle.quick_code.specs.declared.quick_code.Way.{Way}
use Rattle.quick_code.specs.declared.quick_instr.QuickInstr.TheVariants.{AddLint, AddLintBy, CountDownDint}
use Rattle.quick_code.specs.declared.quick_instr.QuickInstr.TheVariants.{CountDownInt, CountUpDint, CountUpInt, Select}
use Rattle.quick_code.specs.declared.quick_instr.QuickInstr.TheVariants.{JumpIfAtMost, JumpIfLess}
use Rattle.slot_trees.specs.SlotTrees.{SlotExpr, constant}
use Rattle.quick_trees.specs.QuickMemory.{Frame}
use Rattle.quick_trees.specs.declared.pace.Pace.{Pace}
use Rattle.quick_trees.specs.declared.pace.Pace.TheVariants.{Literal, Words}
use Rattle.quick_trees.specs.Instructions.{instr_for}
use Rattle.quick_trees.specs.Pieces.{IsLiteral, IsInstr}
use Rattle.quick_trees.specs.Functions.{IsMovedWithin}

-- the step of a FOR: 1 if none is written, or a literal
abbrev pub IsStep : Option SlotExpr → ℤ → Type 0
IsStep None n = n ≡ pos 1
IsStep (Some (constant l)) n = IsLiteral l n
IsStep (Some _) n = ⊥

-- The step of a FOR is a literal that is not 0, and a number of the type of its control variable.
pub record IsLiteralStep (step : Option SlotExpr) (t : Kind) (n : ℤ) : Type 0 where
  pub is : IsStep step n
  pub moves : n ≡ pos 0 → ⊥
  pub small : IsHeld (datum_at t n)

-- where temporaries are free within a FOR: after those that keep the limit, and the step unless it is a literal
abbrev pub inside : Pace → ℕ → ℕ
inside (Literal n) d = suc (suc d)
inside (Words step below) d = suc (suc (suc (suc d)))

-- The step of a FOR over INT or DINT is added to its control variable, and the limit is tested.
abbrev pub CountsUp : Frame → Kind → ℕ → ℤ → ℕ → Way → ℕ → ℕ → Type 0
CountsUp f t k n limit w past p =
    ((t ≡ Int) × (slice_get f.code p ≡ Some (CountUpInt k n limit w past)))
    ⊎ ((t ≡ Dint) × (slice_get f.code p ≡ Some (CountUpDint k n limit w past)))

-- the same for a step below 0
abbrev pub CountsDown : Frame → Kind → ℕ → ℤ → ℕ → Way → ℕ → ℕ → Type 0
CountsDown f t k n limit w past p =
    ((t ≡ Int) × (slice_get f.code p ≡ Some (CountDownInt k n limit w past)))
    ⊎ ((t ≡ Dint) × (slice_get f.code p ≡ Some (CountDownDint k n limit w past)))

-- the first test of the limit, and a further turn, if the step is above 0 or below
abbrev pub BeginsToCount : Frame → ℤ → ℕ → ℕ → Way → ℕ → ℕ → Type 0
BeginsToCount f (pos n) control limit w past p = slice_get f.code p ≡ Some (JumpIfLess limit control w past)
BeginsToCount f (negsuc n) control limit w past p = slice_get f.code p ≡ Some (JumpIfLess control limit w past)

abbrev pub CountsAtOnce : Frame → Kind → ℕ → ℤ → ℕ → Way → ℕ → ℕ → Type 0
CountsAtOnce f t k (pos n) limit w past p = CountsUp f t k (pos n) limit w past p
CountsAtOnce f t k (negsuc n) limit w past p = CountsDown f t k (negsuc n) limit w past p

-- the test for a further turn alone, if the step is above 0 or below
abbrev pub IsRepeatTest : Frame → ℤ → ℕ → ℕ → Way → ℕ → ℕ → Type 0
IsRepeatTest f (pos n) control limit w past p = slice_get f.code p ≡ Some (JumpIfAtMost control limit w past)
IsRepeatTest f (negsuc n) control limit w past p = slice_get f.code p ≡ Some (JumpIfAtMost limit control w past)

-- a type of 64 bits: a word is a LINT if the number is of the type
abbrev pub Is64Bit : Kind → Type 0
Is64Bit t = (t ≡ Lint) ⊎ (t ≡ Ulint)

-- The step is added to the control variable as to a LINT, which is then a number of its type, and the limit is tested.
pub record CountsAsLint (f : Frame) (t : Kind) (k : ℕ) (n : ℤ) (limit : ℕ) (w : Way) (past p q : ℕ) : Type 0 where
  pub added : slice_get f.code p ≡ Some (AddLintBy k n k)
  pub within : (Is64Bit t × (q ≡ suc p)) ⊎ (IsMovedWithin f t k k (suc p) × (q ≡ suc (suc p)))
  pub tested : IsRepeatTest f n k limit w past q

-- the end of a turn, from a place on: one instruction, or several of which the test is the last one
abbrev pub Counts : Frame → Kind → ℕ → ℤ → ℕ → Way → ℕ → ℕ → ℕ → Type 0
Counts f t k n limit w past p q =
    ((q ≡ p) × CountsAtOnce f t k n limit w past p) ⊎ CountsAsLint f t k n limit w past p q

-- The control variable and the limit are assigned to temporaries, the limit first if the step is below 0. The loop goes on
-- if the first is not above the second.
pub record AreOrdered (f : Frame) (below control limit d p : ℕ) : Type 0 where
  pub there : suc d < f.size
  pub first : slice_get f.code p ≡ Some (Select below limit control d)
  pub second : slice_get f.code (suc p) ≡ Some (Select below control limit (suc d))

-- the first test of the limit, from a place on: one instruction, or several of which the test is the last one
abbrev pub LoopBegins : Frame → Pace → ℕ → ℕ → ℕ → Way → ℕ → ℕ → ℕ → Type 0
LoopBegins f (Literal n) control limit d w past p q = (q ≡ p) × BeginsToCount f n control limit w past p
LoopBegins f (Words step below) control limit d w past p q =
    AreOrdered f below control limit d p
    × ((q ≡ suc (suc p)) × (slice_get f.code q ≡ Some (JumpIfLess (suc d) d w past)))

-- The word of a step is added to the control variable: as a number of its type, or as a LINT that is tested for it.
abbrev pub AddsStep : Frame → Kind → ℕ → ℕ → ℕ → ℕ → Type 0
AddsStep f t k step p q =
    (IsInstr f (instr_for Add t k step k) p × (q ≡ suc p))
    ⊎ ((slice_get f.code p ≡ Some (AddLint k step k)) × (IsMovedWithin f t k k (suc p) × (q ≡ suc (suc p))))

-- The word of a step is added to the control variable, and the limit is tested by way of temporaries.
pub record CountsByWord (f : Frame) (t : Kind) (step below k limit d : ℕ) (w : Way) (past p q : ℕ) : Type 0 where
  pub added : ℕ
  pub adds : AddsStep f t k step p added
  pub ordered : AreOrdered f below k limit d added
  pub behind : q ≡ suc (suc added)
  pub tested : slice_get f.code q ≡ Some (JumpIfAtMost d (suc d) w past)

-- the end of a turn, by a literal or by words
abbrev pub CountsBy : Frame → Kind → Pace → ℕ → ℕ → ℕ → Way → ℕ → ℕ → ℕ → Type 0
CountsBy f t (Literal n) k limit d w past p q = Counts f t k n limit w past p q
CountsBy f t (Words step below) k limit d w past p q = CountsByWord f t step below k limit d w past p q
