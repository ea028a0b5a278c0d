-- Sums of an expression and a constant.
use Rattle.std.proofs.Common.{◌≡◌, ℕ, ℤ, pos, true, ◌<◌, ◌≤ℤ◌, ◌+ℤ◌, arith, ap, subst, inl, inr}
use Rattle.std.proofs.lemmas.Grind.{common_steps}
use Rattle.st_types.specs.declared.kind.Kind.{Kind}
use Rattle.st_types.specs.Kinds.{least, greatest, holds}
use Rattle.slot_trees.specs.SlotTrees.{SlotExpr, binary, call, compute, constant, load, unary}
use Rattle.st_compile.proofs.Sizes.{expr_size}
use Rattle.quick_trees.specs.Pieces.{HasNumbers}
use Rattle.quick_trees.specs.Points.{Point}
use Rattle.quick_trees.specs.QuickMemory.{Frame}
use Rattle.quick_trees.specs.UnitValues.{UnitValues}
use Rattle.quick_trees.specs.TreeCode.{IsRead, IsReadWithout, QuickUnits}
use Rattle.quick_checks.specs.Sums.{IsSum}

number_between : (t : Kind) (lower : ℤ) (count j : ℕ) → least t ≤ℤ lower → (lower +ℤ pos count) ≤ℤ greatest t
    → j < count → holds t (lower +ℤ pos j) ≡ true
number_between t lower count j low high less = grind (arith, common_steps)

pub between : (t : Kind) (lower : ℤ) (count : ℕ) → least t ≤ℤ lower → (lower +ℤ pos count) ≤ℤ greatest t
    → HasNumbers t lower count
between t lower count low high = λ j less. number_between t lower count j low high less

-- the other part of a sum is smaller
pub sum_larger : (e rest : SlotExpr) (t : Kind) (n : ℤ) → IsSum e rest t n → expr_size rest < expr_size e
sum_larger (binary op x y) rest t n (inl (adds, is)) = (let e = ap expr_size is in omega (arith, e))
sum_larger (binary op x y) rest t n (inr (add, (number, is))) = (let e = ap expr_size is in omega (arith, e))
sum_larger (constant l) rest t n is = absurd is
sum_larger (load x) rest t n is = absurd is
sum_larger (unary op x) rest t n is = absurd is
sum_larger (compute g es) rest t n is = absurd is
sum_larger (call g es) rest t n is = absurd is

-- reading the other part reads all of a sum but the constant
pub sum_read : (f : Frame) (s : UnitValues) (units : QuickUnits) (e rest : SlotExpr) (t : Kind) (n : ℤ) (d k : ℕ)
    (p q : Point) → IsSum e rest t n → IsRead f s units rest t d k p q → IsReadWithout f s units e t n d k p q
sum_read f s units (binary op x y) rest t n d k p q (inl (adds, is)) read =
    inl (adds, subst (λ e. IsRead f s units e t d k p q) is read)
sum_read f s units (binary op x y) rest t n d k p q (inr (add, (number, is))) read =
    inr (add, (number, subst (λ e. IsRead f s units e t d k p q) is read))
sum_read f s units (constant l) rest t n d k p q is read = absurd is
sum_read f s units (load x) rest t n d k p q is read = absurd is
sum_read f s units (unary op x) rest t n d k p q is read = absurd is
sum_read f s units (compute g es) rest t n d k p q is read = absurd is
sum_read f s units (call g es) rest t n d k p q is read = absurd is
