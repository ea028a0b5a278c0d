-- Quick code of standard functions, whose arguments are in words, and of operators on types that have no instructions.
use Rattle.std.specs.Prelude.{◌≡◌, ◌<◌, ◌+◌, ◌-◌, ◌^◌, ℕ, ℤ, suc, pos, false, List, [], ◌∷◌, length, Some, slice_get}
use Rattle.st_types.specs.declared.kind.Kind.{Kind}
use Rattle.st_types.specs.declared.kind.Kind.TheVariants.{Bool as Boolean, Lint}
use Rattle.st_types.specs.declared.operator.BinaryOperator.{BinaryOperator}
use Rattle.st_types.specs.Kinds.{greatest, least, row_of}
use Rattle.st_types.specs.Words.{is_wide}
use Rattle.st_meaning.specs.StandardFunctions.{ABS, CONVERT, LIMIT, MAX, MIN, ROL, ROR, SEL, SHL, SHR, Standard}
use Rattle.quick_code.specs.declared.quick_instr.QuickInstr.TheVariants.{AtMost, MoveWithin, Select, ShiftRight}
use Rattle.quick_code.specs.declared.quick_instr.QuickInstr.TheVariants.{AddLint, And, MultiplyLint, SubtractLint}
use Rattle.quick_trees.specs.Points.{CodeRelation, Point, next}
use Rattle.quick_trees.specs.QuickMemory.{Frame}
use Rattle.quick_trees.specs.Instructions.{by_bits, instr_by, instr_for}
use Rattle.quick_trees.specs.Pieces.{InSequence, AreRead, IsNumber, IsNumberAt, Reading, IsInstr}
use Rattle.slot_trees.specs.SlotTrees.{SlotExpr}

-- A word is assigned if it is a number of a type, whose least and greatest numbers are constants.
pub record IsMovedWithin (f : Frame) (t : Kind) (from to p : ℕ) : Type 0 where
  pub narrow : is_wide t ≡ false
  pub low : ℕ
  pub is_low : IsNumberAt f t (least t) low
  pub high : ℕ
  pub is_high : IsNumberAt f t (greatest t) high
  pub stands : slice_get f.code p ≡ Some (MoveWithin from low high to)

-- A comparison of two words is assigned to a temporary, and then one of two words if it holds, else the other.
pub record IsPicked (f : Frame) (left right x y d to : ℕ) (p q : Point) : Type 0 where
  pub there : d < f.size
  pub compared : slice_get f.code p.place ≡ Some (AtMost left right d)
  pub chosen : slice_get f.code (suc p.place) ≡ Some (Select d x y to)
  pub is : q ≡ next (next p)

-- one, two or three arguments, of these types and in these words
abbrev pub IsOne : List Kind → List ℕ → Kind → ℕ → Type 0
IsOne kinds words t x = (kinds ≡ t ∷ []) × (words ≡ x ∷ [])

abbrev pub AreTwo : List Kind → List ℕ → Kind → Kind → ℕ → ℕ → Type 0
AreTwo kinds words t u x y = (kinds ≡ t ∷ u ∷ []) × (words ≡ x ∷ y ∷ [])

abbrev pub AreThree : List Kind → List ℕ → Kind → Kind → Kind → ℕ → ℕ → ℕ → Type 0
AreThree kinds words t u v x y z = (kinds ≡ t ∷ u ∷ v ∷ []) × (words ≡ x ∷ y ∷ z ∷ [])

-- A number is converted to another type. Words of both types are their numbers.
pub record IsConverted (f : Frame) (from into : Kind) (kinds : List Kind) (words : List ℕ) (t : Kind) (to : ℕ)
    (p q : Point) : Type 0 where
  pub word : ℕ
  pub argument : IsOne kinds words from word
  pub narrow : is_wide from ≡ false
  pub result : into ≡ t
  pub moves : IsMovedWithin f t word to p.place
  pub is : q ≡ next p

-- Bits are moved down by a constant number of places.
pub record IsShifted (f : Frame) (kinds : List Kind) (words : List ℕ) (t : Kind) (to : ℕ) (p q : Point) : Type 0 where
  pub word : ℕ
  pub kind : Kind
  pub count : ℕ
  pub arguments : AreTwo kinds words t kind word count
  pub places : ℕ
  pub is_count : IsNumberAt f kind (pos places) count
  pub few : places < (row_of t).bits
  pub stands : IsInstr f (by_bits t (ShiftRight word places to)) p.place
  pub is : q ≡ next p

-- Bits are moved up by a number of places: bits that leave the width are masked out, and the rest is multiplied.
pub record IsMovedUp (f : Frame) (t : Kind) (word places d to : ℕ) (p q : Point) : Type 0 where
  pub there : d < f.size
  pub mask : ℕ
  pub is_mask : IsNumberAt f t (pos (2 ^ ((row_of t).bits - places) - 1)) mask
  pub power : ℕ
  pub is_power : IsNumberAt f t (pos (2 ^ places)) power
  pub masked : IsInstr f (by_bits t (And word mask d)) p.place
  pub moved : slice_get f.code (suc p.place) ≡ Some (MultiplyLint d power to)
  pub is : q ≡ next (next p)

-- Bits are moved up by a constant number of places.
pub record IsShiftedUp (f : Frame) (kinds : List Kind) (words : List ℕ) (t : Kind) (d to : ℕ) (p q : Point) : Type 0
  where
    pub word : ℕ
    pub kind : Kind
    pub count : ℕ
    pub arguments : AreTwo kinds words t kind word count
    pub places : ℕ
    pub is_count : IsNumberAt f kind (pos places) count
    pub few : places < (row_of t).bits
    pub moves : IsMovedUp f t word places d to p q

-- Bits are rotated up by a number of places, or down by a constant one: those that are moved up are assigned to a temporary,
-- those that are moved down to another one, and the sum is assigned.
pub record IsTurnedBy (f : Frame) (kinds : List Kind) (words : List ℕ) (t : Kind) (constant up d to : ℕ)
    (p q : Point) : Type 0 where
  pub word : ℕ
  pub kind : Kind
  pub count : ℕ
  pub arguments : AreTwo kinds words t kind word count
  pub is_count : IsNumberAt f kind (pos constant) count
  pub some : 0 < constant
  pub few : constant < (row_of t).bits
  pub there : suc d < f.size
  pub last : Point
  pub moves : IsMovedUp f t word up d d p last
  pub below : slice_get f.code last.place ≡ Some (ShiftRight word ((row_of t).bits - up) (suc d))
  pub sum : slice_get f.code (suc last.place) ≡ Some (AddLint d (suc d) d)
  pub within : IsMovedWithin f t d to (suc (suc last.place))
  pub is : q ≡ next (next (next last))

-- The lesser of two values is assigned, or the greater.
pub record IsLesser (f : Frame) (kinds : List Kind) (words : List ℕ) (t : Kind) (d to : ℕ) (p q : Point) : Type 0 where
  pub left : ℕ
  pub right : ℕ
  pub arguments : AreTwo kinds words t t left right
  pub chosen : IsPicked f left right left right d to p q

pub record IsGreater (f : Frame) (kinds : List Kind) (words : List ℕ) (t : Kind) (d to : ℕ) (p q : Point) : Type 0
  where
    pub left : ℕ
    pub right : ℕ
    pub arguments : AreTwo kinds words t t left right
    pub chosen : IsPicked f right left left right d to p q

-- The greater of a value and a lower limit is assigned to a temporary, and the lesser of this and an upper limit.
pub record IsLimited (f : Frame) (kinds : List Kind) (words : List ℕ) (t : Kind) (d to : ℕ) (p q : Point) : Type 0
  where
    pub lower : ℕ
    pub word : ℕ
    pub upper : ℕ
    pub arguments : AreThree kinds words t t t lower word upper
    pub chosen : InSequence (IsPicked f lower word word lower d d) (IsPicked f d upper d upper (suc d) to) p q

-- One of two values is assigned if a BOOL is FALSE, and the other if it is TRUE.
pub record IsSelected (f : Frame) (kinds : List Kind) (words : List ℕ) (t : Kind) (to : ℕ) (p q : Point) : Type 0 where
  pub truth : ℕ
  pub left : ℕ
  pub right : ℕ
  pub arguments : AreThree kinds words Boolean t t truth left right
  pub stands : slice_get f.code p.place ≡ Some (Select truth right left to)
  pub is : q ≡ next p

-- A number is subtracted from 0, and the one of both that is not below 0 is assigned if it is a number of the type.
pub record IsWithoutSign (f : Frame) (kinds : List Kind) (words : List ℕ) (t : Kind) (d to : ℕ) (p q : Point) : Type 0
  where
    pub word : ℕ
    pub argument : IsOne kinds words t word
    pub there : d < f.size
    pub nought : ℕ
    pub is_nought : IsNumberAt f t (pos 0) nought
    pub stands : slice_get f.code p.place ≡ Some (SubtractLint nought word d)
    pub last : Point
    pub chosen : IsPicked f nought word word d (suc d) d (next p) last
    pub moves : IsMovedWithin f t d to last.place
    pub is : q ≡ next last

-- a standard function is computed, whose arguments are in words, and temporaries from a depth on are free; the value of
-- this type is then in a word
abbrev pub IsFunctionOf : Frame → Standard → List Kind → List ℕ → Kind → ℕ → ℕ → CodeRelation
IsFunctionOf f (CONVERT from into) kinds words t d to p q = IsConverted f from into kinds words t to p q
IsFunctionOf f SHR kinds words t d to p q = IsShifted f kinds words t to p q
IsFunctionOf f MIN kinds words t d to p q = IsLesser f kinds words t d to p q
IsFunctionOf f MAX kinds words t d to p q = IsGreater f kinds words t d to p q
IsFunctionOf f LIMIT kinds words t d to p q = IsLimited f kinds words t d to p q
IsFunctionOf f SEL kinds words t d to p q = IsSelected f kinds words t to p q
IsFunctionOf f ABS kinds words t d to p q = IsWithoutSign f kinds words t d to p q
IsFunctionOf f SHL kinds words t d to p q = IsShiftedUp f kinds words t d to p q
IsFunctionOf f ROL kinds words t d to p q = (n : ℕ) × IsTurnedBy f kinds words t n n d to p q
IsFunctionOf f ROR kinds words t d to p q = (n : ℕ) × IsTurnedBy f kinds words t n ((row_of t).bits - n) d to p q

-- The arguments of a standard function are read, and it is computed.
pub record IsEvaluated (f : Frame) (Arguments : List Kind → List ℕ → CodeRelation) (g : Standard) (t : Kind) (d to : ℕ)
    (p q : Point) : Type 0 where
  pub kinds : List Kind
  pub words : List ℕ
  pub given : Point
  pub arguments : Arguments kinds words p given
  pub computes : IsFunctionOf f g kinds words t (d + length words) to given q

-- An operator on two numbers of a type whose words they are is computed as one on LINT, and the result is assigned if it
-- is a number of the type.
pub record IsComputedWithin (f : Frame) (Left Right : Reading) (op : BinaryOperator) (t : Kind) (d to : ℕ)
    (p q : Point) : Type 0 where
  pub left : ℕ
  pub right : ℕ
  pub last : Point
  pub reads : AreRead Left Right left right p last
  pub there : d < f.size
  pub stands : IsInstr f (instr_for op Lint left right d) last.place
  pub moves : IsMovedWithin f t d to (suc last.place)
  pub is : q ≡ next (next last)

-- The same for a number and a constant.
pub record IsComputedByWithin (f : Frame) (Left : Reading) (op : BinaryOperator) (t : Kind) (r : SlotExpr) (d to : ℕ)
    (p q : Point) : Type 0 where
  pub left : ℕ
  pub word : ℤ
  pub last : Point
  pub reads : Left left p last
  pub number : IsNumber r t word
  pub there : d < f.size
  pub stands : IsInstr f (instr_by op Lint left word d) last.place
  pub moves : IsMovedWithin f t d to (suc last.place)
  pub is : q ≡ next (next last)
