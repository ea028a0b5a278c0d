-- Units one call deeper.
use Rattle.std.proofs.Common.{◌≡◌, ℕ, zero, suc, ◌+◌, ◌*◌, ◌<◌, ◌≤◌, List, [], ◌∷◌, Some}
use Rattle.std.proofs.Common.{refl, sym, subst, ap, arith}
use Rattle.std.specs.Prelude.{slice_get}
use Rattle.slot_trees.specs.LibraryViews.{KeptLibrary}
use Rattle.slot_trees.specs.SlotTrees.{BlockCode, SlotFunction, SlotStmts, SlotLibrary}
use Rattle.machine_code.specs.Calls.{units_code, called_code, instance_code}
use Rattle.machine_code.specs.Fitting.{CallFitsWithin, IfFunctionFits, InstanceFits, of_function, of_block, UnitCall}
use Rattle.machine_code.specs.Growing.{Code}
use Rattle.machine_code.specs.UnitFrames.{UnitFrame}
use Rattle.st_compile.specs.Linked.{CallLinkedWithin, IfFunctionLinked, InstanceLinked}
use Rattle.st_compile.proofs.Sizes.{weight, body_bound, stmts_size, functions_size, blocks_size}

pub functions_below : (library : SlotLibrary) (n d f start : ℕ) (c : Code) → suc d ≡ n
    → (units_code library n).functions f start c ≡ called_code (units_code library d) (slice_get library.functions f)
    start c
unfolding units_code
functions_below library n d f start c e = subst (λ m. (units_code library m).functions f start c
    ≡ called_code (units_code library d) (slice_get library.functions f) start c) e refl

pub blocks_below : (library : SlotLibrary) (n d : ℕ) (b : BlockCode) (s : UnitFrame) (c : Code) → suc d ≡ n
    → (units_code library n).blocks b s c ≡ instance_code library (units_code library d) b s c
unfolding units_code
blocks_below library n d b s c e = subst (λ m. (units_code library m).blocks b s c
    ≡ instance_code library (units_code library d) b s c) e refl

pub function_fits : (memory : ℕ) (library : SlotLibrary) (n d f start count : ℕ) → suc d ≡ n
    → IfFunctionFits (CallFitsWithin memory library d) memory (slice_get library.functions f) start count
    → CallFitsWithin memory library n (of_function f start count)
unfolding CallFitsWithin
function_fits memory library n d f start count e h =
    subst (λ m. CallFitsWithin memory library m (of_function f start count)) e h

pub block_fits : (memory : ℕ) (library : SlotLibrary) (n d : ℕ) (b : BlockCode) (s : UnitFrame) → suc d ≡ n
    → InstanceFits (CallFitsWithin memory library d) library b s → CallFitsWithin memory library n (of_block b s)
unfolding CallFitsWithin
block_fits memory library n d b s e h = subst (λ m. CallFitsWithin memory library m (of_block b s)) e h

pub no_call : (library : KeptLibrary) (n : ℕ) (u : UnitCall) → n ≡ 0 → CallLinkedWithin library n u → ⊥
unfolding CallLinkedWithin
no_call library n u e h = subst (λ m. CallLinkedWithin library m u) e h

pub function_linked : (library : KeptLibrary) (n d f start count : ℕ) → suc d ≡ n
    → CallLinkedWithin library n (of_function f start count)
    → IfFunctionLinked (CallLinkedWithin library d) (slice_get library.functions f) start count
unfolding CallLinkedWithin
function_linked library n d f start count e h =
    subst (λ m. CallLinkedWithin library m (of_function f start count)) (sym e) h

pub block_linked : (library : KeptLibrary) (n d : ℕ) (b : BlockCode) (s : UnitFrame) → suc d ≡ n
    → CallLinkedWithin library n (of_block b s) → InstanceLinked (CallLinkedWithin library d) library b s
unfolding CallLinkedWithin
block_linked library n d b s e h = subst (λ m. CallLinkedWithin library m (of_block b s)) (sym e) h

function_in_sum : (fs : List SlotFunction) (k : ℕ) (f : SlotFunction) → slice_get fs k ≡ Some f
    → stmts_size f.body ≤ functions_size fs
function_in_sum [] k f e = cc
function_in_sum (x ∷ xs) zero f e =
    let is : x ≡ f = cc in
    let s = ap (λ (y : SlotFunction). stmts_size y.body) is in omega arith
function_in_sum (x ∷ xs) (suc k) f e = let h = function_in_sum xs k f e in omega arith

block_in_sum : (bs : List SlotStmts) (k : ℕ) (b : SlotStmts) → slice_get bs k ≡ Some b → stmts_size b ≤ blocks_size bs
block_in_sum [] k b e = cc
block_in_sum (x ∷ xs) zero b e = let is : x ≡ b = cc in let s = ap stmts_size is in omega arith
block_in_sum (x ∷ xs) (suc k) b e = let h = block_in_sum xs k b e in omega arith

one_lighter : (d b x : ℕ) → x < b → d * b + x < suc d * b
one_lighter d b x lt = omega arith

-- a body one call deeper has less weight than all that may be called here
pub function_lighter : (library : SlotLibrary) (n d k : ℕ) (f : SlotFunction) → suc d ≡ n
    → slice_get library.functions k ≡ Some f → weight library d + stmts_size f.body < weight library n
unfolding weight body_bound
function_lighter library n d k f e is =
    let h = function_in_sum library.functions k f is in
    subst (λ m. weight library d + stmts_size f.body < weight library m) e
    (one_lighter d (body_bound library) (stmts_size f.body) (omega arith))

pub block_lighter : (library : SlotLibrary) (n d k : ℕ) (b : SlotStmts) → suc d ≡ n
    → slice_get library.blocks k ≡ Some b → weight library d + stmts_size b < weight library n
unfolding weight body_bound
block_lighter library n d k b e is =
    let h = block_in_sum library.blocks k b is in
    subst (λ m. weight library d + stmts_size b < weight library m) e
    (one_lighter d (body_bound library) (stmts_size b) (omega arith))
