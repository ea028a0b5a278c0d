-- How the code that is put joins to that of trees.
use Rattle.std.proofs.Common.{◌≡◌, ℕ, suc, ◌+◌, ◌<◌, ◌≤◌, List, [], ◌∷◌, length, map, drop, get_or, Option, Some}
use Rattle.std.proofs.Common.{Result, Ok, Err, refl, sym, subst, ap, ◌∙◌, arith, drop-cons}
use Rattle.std.specs.Prelude.{slice_get, OnOk, IfErr}
use Rattle.machine_code.specs.declared.instr.Instr.{Instr}
use Rattle.machine_code.specs.declared.instr.Instr.TheVariants.{Push, LoadRaw, Step, Reverse, Compute}
use Rattle.machine_code.specs.Machine.{slot_number}
use Rattle.machine_code.specs.declared.limits.TheConstants.{MAX_INSTRUCTIONS}
use Rattle.st_meaning.specs.StandardBlocks.{members_of}
use Rattle.symbols.specs.Standard.{standard_view, block_view}
use Rattle.symbols.specs.declared.standard_functions.Standard as code_function
use Rattle.symbols.specs.declared.standard_functions.Standard.TheVariants.{Abs, Min, Max, Limit, Sel, Shl, Shr, Rol}
use Rattle.symbols.specs.declared.standard_functions.Standard.TheVariants.{Ror, Convert}
use Rattle.symbols.specs.declared.standard_blocks.StandardBlock as code_block
use Rattle.symbols.specs.declared.standard_blocks.StandardBlock.TheVariants.{Sr, Rs, RTrig, FTrig, Ctu, Ctd, Ctud}
use Rattle.symbols.specs.declared.standard_blocks.StandardBlock.TheVariants.{Ton, Tof, Tp}
use Rattle.slot_trees.specs.SlotTrees.{SlotArgument, given, copied, SlotFunction, SlotStmts, SlotLibrary, BlockCode}
use Rattle.slot_trees.specs.SlotTrees.{own_block, standard_block, subscript_then, SlotExpr, compute, Place, place}
use Rattle.slot_trees.specs.SlotTrees.{Anchor}
use Rattle.st_types.specs.Values.{Datum}
use Rattle.slot_trees.specs.LibraryViews.{KeptLibrary}
use Rattle.slot_trees.specs.declared.expression.SlotExpr as code_expr
use Rattle.slot_trees.specs.declared.expression.Subscript as code_subscript
use Rattle.slot_trees.specs.Chains.{exprs_of, subscripts_of, Subscript}
use Rattle.slot_trees.specs.ExpressionViews.{slot_expr_view, subscript_view}
use Rattle.machine_code.specs.Calls.{units_code, resets_code}
use Rattle.machine_code.specs.Codes.{CodeUnits, standard_code, block_code, count_of, led_code, subscripts_code}
use Rattle.machine_code.specs.Codes.{stmts_code}
use Rattle.machine_code.specs.Codes.{stores_code, body_targets, inputs_code, outputs_code, invoke_code, given_members}
use Rattle.machine_code.specs.Codes.{expr_code, exprs_code, place_code}
use Rattle.machine_code.specs.Fitting.{UnitCall, of_function, of_block, ArgumentsFit, StmtsFit, FunctionFits}
use Rattle.machine_code.specs.Fitting.{CallFitsWithin}
use Rattle.machine_code.specs.Growing.{Code, ◌◂◌}
use Rattle.machine_code.specs.UnitFrames.{UnitFrame, slot_in, instance_frame, call_frame}
use Rattle.st_compile.specs.declared.compile_error.CompileError.{CompileError}
use Rattle.st_compile.specs.declared.compile_error.CompileError.TheVariants.{TooManyInstructions}
use Rattle.st_compile.specs.declared.scope.Scope.{Scope}
use Rattle.st_compile.specs.Signatures.{HasSignature}
use Rattle.st_compile.specs.Emitting.{frame_of, InputsFit, OutputsFit, InputsLinked, OutputsLinked}
use Rattle.st_compile.specs.Linked.{ArgumentsLinked, IfBodyLinked, IfFunctionLinked, CallLinkedWithin, StmtsLinked}
use Rattle.st_compile.proofs.Depths.{functions_below, blocks_below, function_fits, block_fits, function_linked}
use Rattle.st_compile.proofs.Depths.{block_linked}
use Rattle.st_compile.proofs.Elements.{subscript_seen}

-- if a part is refused, so is the whole
pub not_linked : {T : Type 0} {k : CompileError} (r : Result T CompileError) (e : CompileError) (P Q : Type 0)
    → (e ≡ k → P → ⊥) → (Q → P) → r ≡ Err e → IfErr r (λ y. y ≡ k → Q → ⊥)
not_linked {k = k} r e P Q h f is = subst (λ s. IfErr s (λ y. y ≡ k → Q → ⊥)) (sym is) (λ n q. h n (f q))

-- if a unit is not there
pub not_there : {T : Type 0} {k : CompileError} (r : Result T CompileError) (e : CompileError) (P Q : Type 0)
    → (e ≡ k → P) → (P → Q → ⊥) → r ≡ Err e → IfErr r (λ y. y ≡ k → Q → ⊥)
not_there {k = k} r e P Q h f is = subst (λ s. IfErr s (λ y. y ≡ k → Q → ⊥)) (sym is) (λ n q. f (h n) q)

-- the same for an answer that is passed on
pub passed_on : {T : Type 0} (k : CompileError) (r : Result T CompileError) (P Q : Type 0)
    → IfErr r (λ y. y ≡ k → P → ⊥) → (Q → P) → IfErr r (λ y. y ≡ k → Q → ⊥)
passed_on k (Ok x) P Q h f = h
passed_on k (Err e) P Q h f = λ n q. h n (f q)

-- if a part has too many instructions, so has the whole
pub too_long : {T : Type 0} (r : Result T CompileError) (e : CompileError) (m n : ℕ)
    → (e ≡ TooManyInstructions → MAX_INSTRUCTIONS < m) → m ≤ n → r ≡ Err e
    → IfErr r (λ y. y ≡ TooManyInstructions → MAX_INSTRUCTIONS < n)
too_long r e m n h le is =
    subst (λ s. IfErr s (λ y. y ≡ TooManyInstructions → MAX_INSTRUCTIONS < n)) (sym is)
    (λ k. let lt = h k in omega arith)

pub too_long_on : {T : Type 0} (r : Result T CompileError) (m n : ℕ)
    → IfErr r (λ y. y ≡ TooManyInstructions → MAX_INSTRUCTIONS < m) → m ≤ n
    → IfErr r (λ y. y ≡ TooManyInstructions → MAX_INSTRUCTIONS < n)
too_long_on (Ok x) m n h le = h
too_long_on (Err e) m n h le = λ k. let lt = h k in omega arith

pub on_ok : {T E : Type 0} (r : Result T E) (P Q : Type 0) → (P → Q) → OnOk r P → OnOk r Q
on_ok (Ok x) P Q f h = f h
on_ok (Err e) P Q f h = h

pub standard_again : (f : code_function.Standard) → standard_code (standard_view f) ≡ f
standard_again Abs = refl
standard_again Min = refl
standard_again Max = refl
standard_again Limit = refl
standard_again Sel = refl
standard_again Shl = refl
standard_again Shr = refl
standard_again Rol = refl
standard_again Ror = refl
standard_again (Convert k l) = refl

block_again : (b : code_block.StandardBlock) → block_code (block_view b) ≡ b
block_again Sr = refl
block_again Rs = refl
block_again RTrig = refl
block_again FTrig = refl
block_again Ctu = refl
block_again Ctd = refl
block_again Ctud = refl
block_again Ton = refl
block_again Tof = refl
block_again Tp = refl

pub count_is : (es : List code_expr.SlotExpr) → count_of (exprs_of (map slot_expr_view es)) ≡ length es
count_is [] = refl
count_is (e ∷ es) = ap suc (count_is es)

-- subscripts lead on from a slot that is put first
pub led_is : (units : CodeUnits) (s : UnitFrame) (xs : List code_subscript.Subscript) (k : ℕ) (here : ℕ → Instr) (at :
    Instr)
    (c : Code) → 0 < length xs → led_code units s (subscripts_of (map subscript_view xs)) k here at c
    ≡ subscripts_code units s (subscripts_of (map subscript_view xs)) (c ◂ at) ◂ Push (slot_number k)
led_is units s [] k here at c lt = absurd (omega arith)
led_is units s (x ∷ xs) k here at c lt = refl

pub subscripts_drop : (ss : List code_subscript.Subscript) (k j : ℕ) (s : code_subscript.Subscript) → k < length ss
    → j ≡ k + 1 → s ≡ get_or ss k s → subscripts_of (map subscript_view (drop k ss))
    ≡ subscript_then (slot_expr_view s.index) s.lower s.count s.stride (subscripts_of (map subscript_view (drop j
    ss)))
subscripts_drop ss k j s lt e is =
    let d : drop k ss ≡ s ∷ drop (suc k) ss = drop-cons ss k s lt ∙ ap (λ y. y ∷ drop (suc k) ss) (sym is) in
    let f : j ≡ suc k = omega arith in
    ap (λ ys. subscripts_of (map subscript_view ys)) d
    ∙ ap (λ (y : Subscript). subscript_then y.index y.lower y.count y.stride (subscripts_of (map subscript_view (drop
    (suc k) ss))))
    (subscript_seen s) ∙ ap (λ m. subscript_then (slot_expr_view s.index) s.lower s.count s.stride
    (subscripts_of (map subscript_view (drop m ss)))) (sym f)

module _ (C : UnitCall → Type 0) (s : UnitFrame) where
  pub arguments_fit : (at : ℕ) (xs : List SlotArgument) → InputsFit C s at xs → OutputsFit C s at xs
      → ArgumentsFit C s at xs
  arguments_fit at [] g h = tt
  arguments_fit at (given o e ∷ rest) g h = (g.0, g.1, arguments_fit at rest g.2 h)
  arguments_fit at (copied o p ∷ rest) g h = (h.0, h.1, arguments_fit at rest g h.2)

  pub inputs_linked : (at : ℕ) (xs : List SlotArgument) → ArgumentsLinked C s at xs → InputsLinked C s at xs
  inputs_linked at [] h = tt
  inputs_linked at (given o e ∷ rest) h = (h.0, h.1, inputs_linked at rest h.2)
  inputs_linked at (copied o p ∷ rest) h = inputs_linked at rest h.2

  pub outputs_linked : (at : ℕ) (xs : List SlotArgument) → ArgumentsLinked C s at xs → OutputsLinked C s at xs
  outputs_linked at [] h = tt
  outputs_linked at (given o e ∷ rest) h = outputs_linked at rest h.2
  outputs_linked at (copied o p ∷ rest) h = (h.0, h.1, outputs_linked at rest h.2)

-- a standard block in place of its call
pub standard_put : (library : SlotLibrary) (n d : ℕ) (block : BlockCode) (b : code_block.StandardBlock) (s : UnitFrame)
    (c : Code) (slot : ℕ) → suc d ≡ n → block ≡ standard_block (block_view b) → slot ≡ s.start + s.base
    → c ◂ Step b slot ≡ (units_code library n).blocks block s c
standard_put library n d block b s c slot e of is =
    ap (λ k. c ◂ Step b k) is ∙ ap (λ x. c ◂ Step x (s.start + s.base)) (sym (block_again b))
    ∙ sym (blocks_below library n d (standard_block (block_view b)) s c e)
    ∙ ap (λ x. (units_code library n).blocks x s c) (sym of)

pub standard_fits : (memory : ℕ) (library : SlotLibrary) (n d : ℕ) (block : BlockCode) (b : code_block.StandardBlock)
    (s : UnitFrame) → suc d ≡ n → block ≡ standard_block (block_view b) → s.base + length (members_of (block_view b)) ≤
    s.size
    → CallFitsWithin memory library n (of_block block s)
standard_fits memory library n d block b s e of le = block_fits memory library n d block s e (rw of le)

pub standard_linked : (library : KeptLibrary) (n d : ℕ) (block : BlockCode) (b : code_block.StandardBlock)
    (s : UnitFrame) → suc d ≡ n → block ≡ standard_block (block_view b) → CallLinkedWithin library n (of_block block s)
    → s.base + length (members_of (block_view b)) ≤ s.size
standard_linked library n d block b s e of h = rw of at (block_linked library n d block s e h)

-- a block of the text in place of its call
pub own_put : (library : SlotLibrary) (n d number : ℕ) (block : BlockCode) (body : SlotStmts) (s : UnitFrame) (c : Code)
    (end : ℕ) → suc d ≡ n → block ≡ own_block number → slice_get library.blocks number ≡ Some body → end ≡ length c
    → stmts_code (units_code library d) s body (body_targets end) c ≡ (units_code library n).blocks block s c
own_put library n d number block body s c end e of known is =
    let b = rw known at (blocks_below library n d (own_block number) s c e) in
    ap (λ k. stmts_code (units_code library d) s body (body_targets k) c) is ∙ sym b
    ∙ ap (λ x. (units_code library n).blocks x s c) (sym of)

pub own_fits : (memory : ℕ) (library : SlotLibrary) (n d number : ℕ) (block : BlockCode) (body : SlotStmts) (s : UnitFrame)
    → suc d ≡ n → block ≡ own_block number → slice_get library.blocks number ≡ Some body
    → StmtsFit (CallFitsWithin memory library d) s body → CallFitsWithin memory library n (of_block block s)
own_fits memory library n d number block body s e of known h =
    block_fits memory library n d block s e (rw (of, known) h)

pub own_linked : (library : KeptLibrary) (n d number : ℕ) (block : BlockCode) (o : Option (Option SlotStmts)) (s :
    UnitFrame)
    → suc d ≡ n → block ≡ own_block number → slice_get library.blocks number ≡ o
    → CallLinkedWithin library n (of_block block s) → IfBodyLinked (CallLinkedWithin library d) o s
own_linked library n d number block o s e of known h =
    rw known at (rw of at (block_linked library n d block s e h))

site_is : (z : Scope) (start size : ℕ) → z.start ≡ start → z.base ≡ 0 → z.size ≡ size → frame_of z ≡ call_frame start
    size
site_is z start size e f g = rw (e, f, g) refl

-- a function in place of its call
pub function_put : (library : SlotLibrary) (n number start : ℕ) (f : SlotFunction) (z : Scope) (c c1 c2 c3 c4 c5 :
    Code)
    (slot end taken : ℕ) → suc z.depth ≡ n → slice_get library.functions number ≡ Some f → z.start ≡ start → z.base ≡
    0
    → z.size ≡ length f.fresh → slot ≡ z.start + f.result → c1 ≡ c ◂ LoadRaw slot → end ≡ length c1
    → c2 ≡ stmts_code (units_code library z.depth) (frame_of z) f.body (body_targets end) c1
    → c3 ≡ stores_code z.start f.inputs c2 → c4 ≡ resets_code z.start f.fresh c3 → taken ≡ length f.inputs
    → c5 ≡ c4 ◂ Reverse taken → c5 ≡ (units_code library n).functions number start c
function_put library n number start f z c c1 c2 c3 c4 c5 slot end taken e known at base size at_result put1 is_end
    put2
    put3 put4 is_taken put5 =
    let b = rw known at (functions_below library n z.depth number start c e) in
    rw (put5, put4, put3, put2, is_end, put1, at_result, is_taken, site_is z start (length f.fresh) at base size, at)
    (sym b)

pub function_fits_so : (memory : ℕ) (library : SlotLibrary) (n number start count : ℕ) (f : SlotFunction) (z : Scope)
    → suc z.depth ≡ n → slice_get library.functions number ≡ Some f → z.memory ≡ memory → z.start ≡ start → z.base ≡ 0
    → z.size ≡ length f.fresh → z.start + z.size ≤ memory → HasSignature f count
    → StmtsFit (CallFitsWithin z.memory library z.depth) (frame_of z) f.body
    → CallFitsWithin memory library n (of_function number start count)
function_fits_so memory library n number start count f z e known mem at base size le has h =
    let fits : FunctionFits (CallFitsWithin memory library z.depth) memory f start count = record {
      arguments = has.0;
      room = rw (at, size) at le;
      inputs = has.1;
      result = has.2;
      body = rw (mem, site_is z start (length f.fresh) at base size) at h;
    } in
    function_fits memory library n z.depth number start count e (rw known fits)

pub function_linked_so : (library : KeptLibrary) (n d number start count : ℕ) (o : Option (Option SlotFunction)) →
    suc d ≡ n
    → slice_get library.functions number ≡ o → CallLinkedWithin library n (of_function number start count)
    → IfFunctionLinked (CallLinkedWithin library d) o start count
function_linked_so library n d number start count o e known h =
    rw known at (function_linked library n d number start count e h)

pub body_linked : (library : KeptLibrary) (n number start count : ℕ) (f : SlotFunction) (z : Scope)
    → suc z.depth ≡ n → slice_get library.functions number ≡ Some (Some f) → z.start ≡ start → z.base ≡ 0
    → z.size ≡ length f.fresh → CallLinkedWithin library n (of_function number start count)
    → StmtsLinked (CallLinkedWithin library z.depth) (frame_of z) f.body
body_linked library n number start count f z e known at base size h =
    rw (site_is z start (length f.fresh) at base size)
    (function_linked_so library n z.depth number start count (Some (Some f)) e known h).1

pub body_fits_so : (library : SlotLibrary) (z : Scope) (memory d start : ℕ) (f : SlotFunction) → z.memory ≡ memory
    → z.depth ≡ d → z.start ≡ start → z.base ≡ 0 → z.size ≡ length f.fresh
    → StmtsFit (CallFitsWithin memory library d) (call_frame start (length f.fresh)) f.body
    → StmtsFit (CallFitsWithin z.memory library z.depth) (frame_of z) f.body
body_fits_so library z memory d start f mem deep at base size h =
    rw (mem, deep, site_is z start (length f.fresh) at base size) h

-- a call of a block, except for its tick
pub invoke_put : (units : CodeUnits) (s : UnitFrame) (first at slot count : ℕ) (block : BlockCode) (xs : List SlotArgument)
    (c c1 c2 c3 c4 c5 : Code) → first ≡ at → slot ≡ s.start + first → count ≡ length (given_members xs)
    → c1 ≡ outputs_code units s first xs c → c2 ≡ units.blocks block (instance_frame s first) c1
    → c3 ≡ stores_code slot (given_members xs) c2 → c4 ≡ c3 ◂ Reverse count → c5 ≡ inputs_code units s xs c4
    → c5 ≡ invoke_code units s at block xs c
invoke_put units s first at slot count block xs c c1 c2 c3 c4 c5 is is_slot is_count put1 put2 put3 put4 put5 =
    rw (put5, put4, put3, put2, put1, is_slot, is_count, is) refl

-- a standard function on its arguments
pub compute_put : (units : CodeUnits) (s : UnitFrame) (f : code_function.Standard) (es ys : List code_expr.SlotExpr)
    (x : SlotExpr) (c c1 c2 : Code) (count : ℕ) → x ≡ compute (standard_view f) (exprs_of (map slot_expr_view es))
    → ys ≡ es → c1 ≡ c ◂ Compute f count → count ≡ length es
    → c2 ≡ exprs_code units s (exprs_of (map slot_expr_view ys)) c1 → c2 ≡ expr_code units s x c
compute_put units s f es ys x c c1 c2 count seen is put1 is_count put2 =
    let e : exprs_code units s (exprs_of (map slot_expr_view es)) (c ◂ Compute f (length es))
    ≡ expr_code units s (compute (standard_view f) (exprs_of (map slot_expr_view es))) c =
    ap (λ n. exprs_code units s (exprs_of (map slot_expr_view es)) (c ◂ Compute f n)) (sym (count_is es))
    ∙ ap (λ g. exprs_code units s (exprs_of (map slot_expr_view es)) (c ◂ Compute g (count_of (exprs_of (map
    slot_expr_view
    es))))) (sym (standard_again f)) in
    rw (put2, put1, is, is_count, seen) e

-- a variable to which subscripts lead
pub place_put : (units : CodeUnits) (s : UnitFrame) (a : Anchor) (xs ys : List code_subscript.Subscript) (x : Place)
    (here : ℕ → Instr) (at : Instr) (k : ℕ) (v : Datum) (c c1 c2 c3 : Code)
    → x ≡ place a (subscripts_of (map subscript_view xs)) → ys ≡ xs → 0 < length xs → k ≡ slot_in s a
    → v ≡ slot_number k → c1 ≡ c ◂ at → c2 ≡ subscripts_code units s (subscripts_of (map subscript_view ys)) c1
    → c3 ≡ c2 ◂ Push v → c3 ≡ place_code units s x here at c
place_put units s a xs ys x here at k v c c1 c2 c3 seen is lt is_slot is_value put1 put2 put3 =
    rw (put3, put2, put1, is, is_value, is_slot, seen) (sym (led_is units s xs (slot_in s a) here at c lt))
