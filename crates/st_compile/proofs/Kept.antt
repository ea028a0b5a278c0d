-- The code over a library whose units that are kept are those of another one.
use Rattle.std.proofs.Common.{◌≡◌, ℕ, zero, suc, ◌+◌, [], Option, Some, None, length, option_map}
use Rattle.std.proofs.Common.{refl, sym, subst, ap, ◌∙◌, arith}
use Rattle.std.specs.Prelude.{slice_get}
use Rattle.std.proofs.lemmas.Option.{slice_get-map}
use Rattle.slot_trees.specs.LibraryViews.{KeptLibrary, IsKeptOf}
use Rattle.slot_trees.specs.SlotTrees.{BlockCode, own_block, standard_block, SlotFunction, SlotStmts, SlotLibrary}
use Rattle.machine_code.specs.Calls.{units_code, called_code, body_code, instance_code, resets_code}
use Rattle.machine_code.specs.Codes.{body_targets, stores_code}
use Rattle.machine_code.specs.Fitting.{CallFitsWithin, UnitCall, of_function, of_block, FunctionFits, IfFunctionFits}
use Rattle.machine_code.specs.Fitting.{IfBodyFits, InstanceFits, StmtsFit}
use Rattle.machine_code.specs.Growing.{Code, ◌◂◌}
use Rattle.machine_code.specs.Programs.{program_code, program_frame, ProgramFits}
use Rattle.machine_code.specs.UnitFrames.{UnitFrame, call_frame}
use Rattle.machine_code.specs.declared.instr.Instr.TheVariants.{LoadRaw, Reverse}
use Rattle.st_compile.specs.Emitting.{or_unfit_function, or_unfit_body, filled}
use Rattle.st_compile.proofs.MoreFits.{stmts_more}
use Rattle.st_compile.proofs.SameCode.{SameUnits, stmts_same}

-- the units that fit something are the same in another library
pub record Agree (memory : ℕ) (library whole : SlotLibrary) : Type 1 where
  pub functions : (P : UnitCall → Type 0) (i start count : ℕ) (f : SlotFunction) → slice_get library.functions i ≡
      Some f
      → FunctionFits P memory f start count → slice_get whole.functions i ≡ Some f
  pub blocks : (P : UnitCall → Type 0) (s : UnitFrame) (i : ℕ) (b : SlotStmts) → slice_get library.blocks i ≡ Some b
      → StmtsFit P s b → slice_get whole.blocks i ≡ Some b

module _ (memory : ℕ) (library whole : SlotLibrary) (agree : Agree memory library whole) where
  function_more : (P Q : UnitCall → Type 0) → ((u : UnitCall) → P u → Q u) → (i start count : ℕ) (o : Option
      SlotFunction)
      → slice_get library.functions i ≡ o → IfFunctionFits P memory o start count
      → IfFunctionFits Q memory (slice_get whole.functions i) start count
  function_more P Q more i start count (Some f) is h =
      let fits : FunctionFits Q memory f start count = record {
        arguments = h.arguments;
        room = h.room;
        inputs = h.inputs;
        result = h.result;
        body = stmts_more P Q more (call_frame start (length f.fresh)) f.body h.body;
      } in
      subst (λ o. IfFunctionFits Q memory o start count) (sym (agree.functions P i start count f is h)) fits
  function_more P Q more i start count None is h = absurd h

  body_more : (P Q : UnitCall → Type 0) → ((u : UnitCall) → P u → Q u) → (i : ℕ) (s : UnitFrame) (o : Option SlotStmts)
      → slice_get library.blocks i ≡ o → IfBodyFits P o s → IfBodyFits Q (slice_get whole.blocks i) s
  body_more P Q more i s (Some b) is h =
      subst (λ o. IfBodyFits Q o s) (sym (agree.blocks P s i b is h)) (stmts_more P Q more s b h)
  body_more P Q more i s None is h = absurd h

  instance_more : (P Q : UnitCall → Type 0) → ((u : UnitCall) → P u → Q u) → (b : BlockCode) (s : UnitFrame)
      → InstanceFits P library b s → InstanceFits Q whole b s
  instance_more P Q more (standard_block b) s h = h
  instance_more P Q more (own_block i) s h = body_more P Q more i s (slice_get library.blocks i) refl h

  call_more : (n : ℕ) (u : UnitCall) → CallFitsWithin memory library n u → CallFitsWithin memory whole n u
  unfolding CallFitsWithin
  call_more zero u h = absurd h
  call_more (suc n) (of_function f start count) h =
      function_more (CallFitsWithin memory library n) (CallFitsWithin memory whole n) (call_more n) f start count
      (slice_get library.functions f) refl h
  call_more (suc n) (of_block b s) h =
      instance_more (CallFitsWithin memory library n) (CallFitsWithin memory whole n) (call_more n) b s h

  pub fits_more : (base size : ℕ) (body : SlotStmts) (n : ℕ) → ProgramFits memory library base size body n
      → ProgramFits memory whole base size body n
  fits_more base size body n h = record {
    numbered = h.numbered;
    room = h.room;
    body_fits = stmts_more (CallFitsWithin memory library n) (CallFitsWithin memory whole n) (call_more n)
        (program_frame base size) body h.body_fits;
  }

  function_same : (n i start count : ℕ) (c : Code) → SameUnits (CallFitsWithin memory library n) (units_code library
      n)
      (units_code whole n) → (o : Option SlotFunction) → slice_get library.functions i ≡ o
      → IfFunctionFits (CallFitsWithin memory library n) memory o start count
      → called_code (units_code library n) o start c ≡ called_code (units_code whole n) (slice_get whole.functions i)
      start c
  function_same n i start count c same (Some f) is h =
      ap (λ b. resets_code start f.fresh (stores_code start f.inputs b) ◂ Reverse (length f.inputs))
      (stmts_same (CallFitsWithin memory library n) (units_code library n) (units_code whole n) same
      (call_frame start (length f.fresh)) f.body (body_targets (length (c ◂ LoadRaw (start + f.result))))
      (c ◂ LoadRaw (start + f.result)) h.body)
      ∙ ap (λ o. called_code (units_code whole n) o start c)
      (sym (agree.functions (CallFitsWithin memory library n) i start count f is h))
  function_same n i start count c same None is h = absurd h

  body_same : (n i : ℕ) (s : UnitFrame) (c : Code) → SameUnits (CallFitsWithin memory library n) (units_code library n)
      (units_code whole n) → (o : Option SlotStmts) → slice_get library.blocks i ≡ o
      → IfBodyFits (CallFitsWithin memory library n) o s
      → body_code (units_code library n) o s c ≡ body_code (units_code whole n) (slice_get whole.blocks i) s c
  body_same n i s c same (Some b) is h =
      stmts_same (CallFitsWithin memory library n) (units_code library n) (units_code whole n) same s b
      (body_targets (length c)) c h ∙ ap (λ o. body_code (units_code whole n) o s c)
      (sym (agree.blocks (CallFitsWithin memory library n) s i b is h))
  body_same n i s c same None is h = absurd h

  instance_same : (n : ℕ) (b : BlockCode) (s : UnitFrame) (c : Code) → SameUnits (CallFitsWithin memory library n)
      (units_code library n) (units_code whole n) → InstanceFits (CallFitsWithin memory library n) library b s
      → instance_code library (units_code library n) b s c ≡ instance_code whole (units_code whole n) b s c
  instance_same n (standard_block b) s c same h = refl
  instance_same n (own_block i) s c same h = body_same n i s c same (slice_get library.blocks i) refl h

  same_units : (n : ℕ) → SameUnits (CallFitsWithin memory library n) (units_code library n) (units_code whole n)
  unfolding CallFitsWithin units_code
  same_units zero = record { functions = λ f start count c h. absurd h; blocks = λ b s c h. absurd h }
  same_units (suc n) = record {
    functions = λ f start count c h. function_same n f start count c (same_units n) (slice_get library.functions f)
        refl h;
    blocks = λ b s c h. instance_same n b s c (same_units n) h;
  }

  pub code_same : (base size : ℕ) (body : SlotStmts) (n : ℕ) → ProgramFits memory library base size body n
      → program_code library base size body n ≡ program_code whole base size body n
  unfolding program_code
  code_same base size body n h =
      stmts_same (CallFitsWithin memory library n) (units_code library n) (units_code whole n) (same_units n)
      (program_frame base size) body (body_targets 0) [] h.body_fits

-- the unit that is filled in for one that is left out fits nothing
module _ (memory : ℕ) (kept : KeptLibrary) (whole : SlotLibrary) (is : IsKeptOf kept whole) where
  kept_function : (P : UnitCall → Type 0) (i start count : ℕ) (f : SlotFunction) (o : Option (Option SlotFunction))
      → slice_get kept.functions i ≡ o → option_map or_unfit_function o ≡ Some f → FunctionFits P memory f start count
      → slice_get whole.functions i ≡ Some f
  kept_function P i start count f (Some (Some g)) at e h = is.functions i g at ∙ e
  kept_function P i start count f (Some None) at e h =
      let is_unfit : or_unfit_function None ≡ f = cc in
      let none = ap (λ (x : SlotFunction). length x.fresh) is_unfit in
      let result = h.result in
      absurd (omega arith)
  kept_function P i start count f None at e h = absurd (cc)

  kept_body : (P : UnitCall → Type 0) (s : UnitFrame) (i : ℕ) (b : SlotStmts) (o : Option (Option SlotStmts))
      → slice_get kept.blocks i ≡ o → option_map or_unfit_body o ≡ Some b → StmtsFit P s b
      → slice_get whole.blocks i ≡ Some b
  kept_body P s i b (Some (Some g)) at e h = is.blocks i g at ∙ e
  kept_body P s i b (Some None) at e h =
      let is_unfit : or_unfit_body None ≡ b = cc in
      let none = subst (λ x. StmtsFit P s x) (sym is_unfit) h in
      absurd none.0.0
  kept_body P s i b None at e h = absurd (cc)

  agree : Agree memory (filled kept) whole
  agree = record {
    functions = λ P i start count f at h. kept_function P i start count f (slice_get kept.functions i) refl
        (sym (slice_get-map or_unfit_function kept.functions i) ∙ at) h;
    blocks = λ P s i b at h. kept_body P s i b (slice_get kept.blocks i) refl
        (sym (slice_get-map or_unfit_body kept.blocks i) ∙ at) h;
  }

  pub kept_fits : (base size : ℕ) (body : SlotStmts) (n : ℕ) → ProgramFits memory (filled kept) base size body n
      → ProgramFits memory whole base size body n
  kept_fits = fits_more memory (filled kept) whole agree

  pub kept_code : (base size : ℕ) (body : SlotStmts) (n : ℕ) → ProgramFits memory (filled kept) base size body n
      → program_code (filled kept) base size body n ≡ program_code whole base size body n
  kept_code = code_same memory (filled kept) whole agree
