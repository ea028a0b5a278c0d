-- The code of units and programs takes the slot of a global or an input nowhere as it is.
use Rattle.std.proofs.Common.{◌≡◌, refl, sym, ap, subst, ◌∙◌, ℕ, zero, suc, ◌+◌, ◌-◌, ◌<◌, ◌≤◌, arith, Bool, true, false}
use Rattle.std.proofs.Common.{◌&&◌, if◌then◌else◌, List, [], ◌∷◌, length, Option, Some, None, slice_get}
use Rattle.std.specs.Prelude.{nat_le, nat_lt, option_and_then}
use Rattle.std.proofs.lemmas.Bool.Decides.{nat_tests}
use Rattle.std.proofs.lemmas.Option.{slice_get_within}
use Rattle.st_types.specs.declared.kind.Kind.{Kind}
use Rattle.st_types.specs.declared.path.Owner.{Owner}
use Rattle.st_types.specs.Paths.{Path}
use Rattle.st_meaning.specs.Runs.{Program}
use Rattle.st_meaning.specs.Scopes.{Name, Body, Block, Library, block_in, block_named, contains_name, member_at, of_program}
use Rattle.st_meaning.specs.Scopes.{path_in, own_path, unowned}
use Rattle.st_meaning.specs.Slots.{Slot}
use Rattle.st_meaning.specs.StandardBlocks.{StandardBlock, BlockMember, members_of}
use Rattle.st_meaning.specs.StandardBlocks as blocks
use Rattle.layout.specs.Shapes.{Shape, plain, array, parts, Parts, PartsOwner, Position, position_of, is_sound, leaves_of}
use Rattle.layout.specs.Shapes.{of_instance, sizes}
use Rattle.layout.specs.VariableSlots.{LiesAt, slot}
use Rattle.layout.specs.TextLayouts.{further}
use Rattle.layout.proofs.LeafLemmas.{of_shape, length_leaves}
use Rattle.symbols.specs.Standard.{block_view}
use Rattle.machine_code.specs.declared.instr.Instr.TheVariants.{Step}
use Rattle.machine_code.specs.Asking.{IsOnlyLookedUp}
use Rattle.slot_trees.specs.LinkedStatements.{control_of, plain_anchor, Instance, instance_at, instance_of_symbol}
use Rattle.slot_trees.specs.LinkedStatements.{plain_offset, offset_of, block_code_of, linked_stmts}
use Rattle.slot_trees.specs.LinkedTexts.{Numbers, table_of, parts_of_members, IsLibraryLink, IsProgramLink, EachInstance}
use Rattle.slot_trees.specs.LinkedTexts.{IsBlockLink, HasBlock}
use Rattle.slot_trees.specs.SlotEvaluation.{slot_at}
use Rattle.slot_trees.specs.SlotTrees.{Anchor, BlockCode, own_block, standard_block, SlotArgument, given, copied}
use Rattle.slot_trees.specs.SlotTrees.{SlotStmt, empty, assign, invoke, IF, CASE, FOR, WHILE, REPEAT, EXIT, RETURN}
use Rattle.slot_trees.specs.SlotTrees.{SlotStmts, no_stmts, stmt_then, SlotArms, no_arms, arm_then, SlotCaseArms}
use Rattle.slot_trees.specs.SlotTrees.{no_case_arms, case_arm_then, SlotFunction, SlotLibrary}
use Rattle.slot_trees.specs.Tables.{Symbol, Table, symbol_of, named_in, Part, part_at}
use Rattle.slot_trees.proofs.OptionLemmas.{not_some}
use Rattle.slot_trees.proofs.SlotLemmas.{stands_member}
use Rattle.machine_code.specs.Calls.{called_code, body_code, instance_code, units_over, units_code}
use Rattle.machine_code.specs.Codes.{CodeUnits, block_code, body_targets, stmts_code}
use Rattle.machine_code.specs.declared.jump_targets.JumpTargets.{JumpTargets}
use Rattle.machine_code.specs.Growing.{Code}
use Rattle.machine_code.specs.Programs.{program_code}
use Rattle.machine_code.specs.UnitFrames.{UnitFrame, end_of, instance_frame, call_frame}
use Rattle.config.proofs.Taking.{unequal, Keeps, same_code, keeps_on, put, put_on}
use Rattle.config.proofs.CodeReads.{stores_keep, resets_keep, CopiesAvoid, StmtAvoids, StmtsAvoid, ArmsAvoid}
use Rattle.config.proofs.CodeReads.{CaseArmsAvoid, stmts_keep}
use Rattle.config.proofs.Counters.{StmtsCount}
use Rattle.config.proofs.KeptAway.{InstanceAvoids, stmts_avoid}
use Rattle.config.proofs.FittingUnits.{members_long}
use Rattle.st_types.proofs.OptionLemmas.{some_is, then_some}
use Rattle.machine_code.proofs.Units.{block_is}

-- Units whose values are after the slot.
module _ (k : ℕ) where
  record FarKeep (units : CodeUnits) : Type 0 where
    functions : (f start : ℕ) → k < start → (c : Code) → Keeps k c (units.functions f start c)
    blocks : (b : BlockCode) (s : UnitFrame) → k < s.start → (c : Code) → Keeps k c (units.blocks b s c)

  behind : (start n : ℕ) → k < start → start + n ≡ k → ⊥
  behind start n lt e = omega (arith, lt, e)

  module _ (units : CodeUnits) (far : FarKeep units) (s : UnitFrame) (lt : k < s.start) where
    far_copies : (at : ℕ) (xs : List SlotArgument) → CopiesAvoid k units s at xs
    far_copies at [] = tt
    far_copies at (given o e ∷ rest) = far_copies at rest
    far_copies at (copied o p ∷ rest) = (behind s.start (at + o) lt, far_copies at rest)

    mutual
      far_stmt : (x : SlotStmt) → StmtAvoids k units s x
      far_stmt empty = tt
      far_stmt (assign p e) = tt
      far_stmt (invoke a b xs) =
          (far.blocks b (instance_frame s (slot_at s.base a)) lt, far_copies (slot_at s.base a) xs)
      far_stmt (IF arms otherwise) = (far_arms arms, far_stmts otherwise)
      far_stmt (CASE e arms otherwise) = (far_case arms, far_stmts otherwise)
      far_stmt (FOR a start limit step body) = (behind s.start (slot_at s.base a) lt, far_stmts body)
      far_stmt (WHILE e body) = far_stmts body
      far_stmt (REPEAT body e) = far_stmts body
      far_stmt EXIT = tt
      far_stmt RETURN = tt

      far_stmts : (xs : SlotStmts) → StmtsAvoid k units s xs
      far_stmts no_stmts = tt
      far_stmts (stmt_then x xs) = (far_stmt x, far_stmts xs)

      far_arms : (arms : SlotArms) → ArmsAvoid k units s arms
      far_arms no_arms = tt
      far_arms (arm_then e body arms) = (far_stmts body, far_arms arms)

      far_case : (arms : SlotCaseArms) → CaseArmsAvoid k units s arms
      far_case no_case_arms = tt
      far_case (case_arm_then labels body arms) = (far_stmts body, far_case arms)

    far_body : (xs : SlotStmts) (w : JumpTargets) (c : Code) → Keeps k c (stmts_code units s xs w c)
    far_body xs w c = stmts_keep k units s (λ f c. far.functions f (end_of s) (omega (arith, lt)) c) xs w c (far_stmts xs)

  module _ (library : SlotLibrary) (units : CodeUnits) (far : FarKeep units) where
    far_called : (o : Option SlotFunction) (start : ℕ) → k < start → (c : Code)
        → Keeps k c (called_code units o start c)
    far_called (Some f) start lt c =
        put_on k _ refl (keeps_on k
        (keeps_on k (put k c _ (unequal (start + f.result) k (behind start f.result lt)))
        (far_body units far (call_frame start (length f.fresh)) lt f.body _ _))
        (keeps_on k (stores_keep k start f.inputs _) (resets_keep k start f.fresh _)))
    far_called None start lt c = same_code k c

    far_one : (o : Option SlotStmts) (s : UnitFrame) → k < s.start → (c : Code) → Keeps k c (body_code units o s c)
    far_one (Some body) s lt c = far_body units far s lt body _ c
    far_one None s lt c = same_code k c

    far_step : (j n : ℕ) → k < j → (nat_le j k && nat_lt k (j + n)) ≡ false
    far_step j n lt = grind (arith, nat_tests)

    far_instance : (b : BlockCode) (s : UnitFrame) → k < s.start → (c : Code)
        → Keeps k c (instance_code library units b s c)
    far_instance (standard_block b) s lt c =
        put k c _ (far_step (s.start + s.base) (length (members_of (block_view (block_code b)))) (omega (arith, lt)))
    far_instance (own_block i) s lt c = far_one (slice_get library.blocks i) s lt c

    far_over : FarKeep (units_over library units)
    far_over = record {
      functions = λ f start lt c. far_called (slice_get library.functions f) start lt c;
      blocks = λ b s lt c. far_instance b s lt c;
    }

  far_units : (library : SlotLibrary) (n : ℕ) → FarKeep (units_code library n)
  unfolding units_code
  far_units library zero = record { functions = λ f start lt c. same_code k c; blocks = λ b s lt c. same_code k c }
  far_units library (suc n) = far_over library (units_code library n) (far_units library n)

-- A body keeps to its own names: its FORs count by no external, and none is an instance.
pub record KeepsOwn (body : Body) : Type 0 where
  pub counters : StmtsCount (λ x. contains_name body.externals x ≡ false) body.statements
  pub instances : (x b : Name) → block_named body.instances x ≡ Some b → contains_name body.externals x ≡ false

no_start : (n k : ℕ) → 0 + n ≡ k → n ≡ k
no_start n k h = omega (arith, h)

there_within : {A : Type 0} (xs : List A) (i : ℕ) → i < length xs → (x : A) × (slice_get xs i ≡ Some x)
there_within [] i h = absurd (omega arith)
there_within (x ∷ xs) zero h = (x, refl)
there_within (x ∷ xs) (suc i) h = there_within xs i (omega arith)

sound_members : (b : StandardBlock) → is_sound (parts of_instance (parts_of_members (members_of b))) ≡ true
sound_members blocks.SR = refl
sound_members blocks.RS = refl
sound_members blocks.R_TRIG = refl
sound_members blocks.F_TRIG = refl
sound_members blocks.CTU = refl
sound_members blocks.CTD = refl
sound_members blocks.CTUD = refl
sound_members blocks.TON = refl
sound_members blocks.TOF = refl
sound_members blocks.TP = refl

-- The slot is of a path without an owner.
module _ (layout : List Slot) (k : ℕ) (l : Slot) (at : slice_get layout k ≡ Some l) (nobody : l.path.owner ≡ None) where
  record IsOwned (p : Path) : Type 0 where
    owner : Owner
    is : p.owner ≡ Some owner

  apart : (first : ℕ) (m : Slot) → slice_get layout first ≡ Some m → IsOwned m.path → first ≡ k → ⊥
  apart first m there owned same =
      let e : Some l ≡ Some m = sym at ∙ ap (slice_get layout) (sym same) ∙ there in
      let none : None ≡ Some owned.owner = sym nobody ∙ ap (λ (s : Slot). s.path.owner) (some_is e) ∙ owned.is in
      cc

  stands_apart : (input : Bool) (p : Path) (sh : Shape) (first : ℕ) (xs : List _) (o : Position)
      → LiesAt layout input p sh first → IsOwned p → position_of sh xs ≡ Some o → first + o.number ≡ k → ⊥
  stands_apart input p sh first xs o stands owned is same =
      apart (first + o.number) (slot (further p xs) o.kind input) (stands.at xs o is)
      (record { owner = owned.owner; is = owned.is }) same

  plain_apart : (input : Bool) (p : Path) (kind : Kind) (first : ℕ) → LiesAt layout input p (plain kind) first
      → IsOwned p → first ≡ k → ⊥
  plain_apart input p kind first stands owned same =
      stands_apart input p (plain kind) first [] (record { number = 0; kind = kind }) stands owned refl
      (omega (arith, same))

  -- each member of a standard block
  step_apart : (p : Path) (w : PartsOwner) (b : StandardBlock) (first : ℕ)
      → LiesAt layout false p (parts w (parts_of_members (members_of b))) first → IsOwned p
      → (nat_le first k && nat_lt k (first + length (members_of b))) ≡ false
  step_apart p w b first stands owned = by_test (nat_le first k && nat_lt k (first + length (members_of b))) refl
    where
      inside : (nat_le first k && nat_lt k (first + length (members_of b))) ≡ true → ⊥
      inside e =
          let sh = parts w (parts_of_members (members_of b)) in
          let low : first ≤ k = grind (arith, nat_tests) in
          let high : k < first + length (members_of b) = grind (arith, nat_tests) in
          let long : length (leaves_of sh) ≡ length (members_of b) = length_leaves sh ∙ members_long (members_of b) in
          let leaf = there_within (leaves_of sh) (k - first) (omega (arith, low, high, long)) in
          stands_apart false p sh first leaf.0.steps (record { number = k - first; kind = leaf.0.kind }) stands owned
          (of_shape sh (sound_members b) (k - first) leaf.0 leaf.1) (omega (arith, low))

      by_test : (t : Bool) → (nat_le first k && nat_lt k (first + length (members_of b))) ≡ t → t ≡ false
      by_test true e = absurd (inside e)
      by_test false e = refl

  -- a variable by its symbol
  record StandsOwned (t : Table) (base : ℕ) (x : Name) (y : Symbol) : Type 0 where
    path : Path
    owned : IsOwned path
    stands : LiesAt layout y.is_input path y.shape (slot_at base y.anchor)

  control_apart : (t : Table) (base : ℕ) (x : Name) (y : Symbol) (sh : Shape) (a : Anchor) → StandsOwned t base x y
      → sh ≡ y.shape → plain_anchor y.anchor sh ≡ Some a → slot_at base a ≡ k → ⊥
  control_apart t base x y (plain kind) a found is h same =
      let e : y.anchor ≡ a = some_is h in
      plain_apart y.is_input found.path kind (slot_at base y.anchor)
      (subst (λ sh. LiesAt layout y.is_input found.path sh (slot_at base y.anchor)) (sym is) found.stands) found.owned
      (ap (slot_at base) e ∙ same)
  control_apart t base x y (array lower count sh) a found is h same = absurd (cc)
  control_apart t base x y (parts w ps) a found is h same = absurd (cc)

  output_apart : (p : Path) (w : PartsOwner) (ps : Parts) (first : ℕ) (x : Name) (e : Part) (sh : Shape) (o : ℕ)
      → LiesAt layout false p (parts w ps) first → IsOwned p → part_at ps x ≡ Some e → sh ≡ e.shape
      → plain_offset e.offset sh ≡ Some o → first + o ≡ k → ⊥
  output_apart p w ps first x e (plain kind) o stands owned there is h same =
      let n : e.offset ≡ o = some_is h in
      let member = stands_member layout false p w ps first x e there stands in
      plain_apart false (member_at p x) kind (first + e.offset)
      (subst (λ sh. LiesAt layout false (member_at p x) sh (first + e.offset)) (sym is) member)
      (record { owner = owned.owner; is = owned.is }) (ap (λ m. first + m) n ∙ same)
  output_apart p w ps first x e (array lower count sh) o stands owned there is h same = absurd (cc)
  output_apart p w ps first x e (parts v qs) o stands owned there is h same = absurd (cc)

  module _ (code : SlotLibrary) (library : Library) (numbers : Numbers)
      (links : IsLibraryLink layout library code numbers)
      (keep : (b : Name) (named : Block) → block_in library.blocks b ≡ Some named → KeepsOwn named.body)
      (size : ℕ) (below : k < size) where
    abbrev near : ℕ → UnitFrame
    near base = record { start = 0; base = base; size = size }

    -- blocks of instances that somebody owns
    record NearKeep (units : CodeUnits) : Type 0 where
      blocks : (b : BlockCode) (x : Name) (ps : Parts) (w : PartsOwner) (p : Path) (base : ℕ)
          → named_in numbers.blocks x ≡ Some b → named_in numbers.members x ≡ Some ps → IsOwned p
          → LiesAt layout false p (parts w ps) base → (c : Code) → Keeps k c (units.blocks b (near base) c)

    -- a body, by the meanings of its names
    module _ (units : CodeUnits) (far : FarKeep k units) (kept : NearKeep units) (body : Body) (symbols : List Symbol)
        (base : ℕ) (own_names : KeepsOwn body)
        (found : (x : Name) (y : Symbol) → contains_name body.externals x ≡ false → symbol_of symbols x ≡ Some y
        → StandsOwned (table_of numbers symbols body.instances) base x y)
        (each : EachInstance numbers symbols body.instances) where
      abbrev table : Table
      table = table_of numbers symbols body.instances

      controls : (x : Name) (a : Anchor) → contains_name body.externals x ≡ false
          → option_and_then control_of (symbol_of symbols x) ≡ Some a → slot_at base a ≡ k → ⊥
      controls x a free h same =
          let m = then_some control_of (symbol_of symbols x) a h in
          control_apart table base x m.0 m.0.shape a (found x m.0 free m.1) refl
          (not_some m.0.is_input (plain_anchor m.0.anchor m.0.shape) a m.2).1 same

      invoked : (x : Name) (i : Instance) (b : BlockCode)
          → option_and_then instance_of_symbol (symbol_of symbols x) ≡ Some i → block_code_of table x ≡ Some b
          → InstanceAvoids k units (near base) i b
      invoked x i b h coded =
          let n = then_some (named_in numbers.blocks) (block_named body.instances x) b coded in
          let y = then_some instance_of_symbol (symbol_of symbols x) i h in
          let e = each x n.0 y.0 n.1 y.1 in
          let f = found x y.0 (own_names.instances x n.0 n.1) y.1 in
          let made : instance_of_symbol y.0 ≡ Some (record { anchor = y.0.anchor; members = e.members }) =
          ap (λ (c : Bool). if c then None else instance_at y.0.anchor y.0.shape) e.is_variable
          ∙ ap (instance_at y.0.anchor) e.shape in
          let same : record { anchor = y.0.anchor; members = e.members } ≡ i = some_is (sym made ∙ y.2) in
          let stands : LiesAt layout false f.path (parts e.whole e.members) (slot_at base y.0.anchor) =
          subst (λ sh. LiesAt layout false f.path sh (slot_at base y.0.anchor)) e.shape
          (subst (λ input. LiesAt layout input f.path y.0.shape (slot_at base y.0.anchor)) e.is_variable f.stands) in
          let avoids : InstanceAvoids k units (near base) (record { anchor = y.0.anchor; members = e.members }) b =
          record {
            block = kept.blocks b n.0 e.members e.whole f.path (slot_at base y.0.anchor) n.2 e.known f.owned stands;
            outputs = λ z o is there.
                let m = then_some offset_of (part_at e.members z) o is in
                output_apart f.path e.whole e.members (slot_at base y.0.anchor) z m.0 m.0.shape o stands f.owned m.1
                refl m.2 (no_start (slot_at base y.0.anchor + o) k there);
          } in
          subst (λ j. InstanceAvoids k units (near base) j b) same avoids

      body_keeps : (xs : SlotStmts) → linked_stmts table body.statements ≡ Some xs → (w : JumpTargets) (c : Code)
          → Keeps k c (stmts_code units (near base) xs w c)
      body_keeps xs h w c =
          stmts_keep k units (near base) (λ f d. far.functions f (end_of (near base)) (omega (arith, below)) d) xs w c
          (stmts_avoid k units (near base) table (λ x. contains_name body.externals x ≡ false)
          (λ x a free is same. controls x a free is (no_start (slot_at base a) k same)) invoked body.statements xs h own_names.counters)

    module _ (units : CodeUnits) (far : FarKeep k units) (kept : NearKeep units) where
      linked_block : (ps : Parts) (b : Block) (xs : SlotStmts) → IsBlockLink layout numbers ps b xs → KeepsOwn b.body
          → (w : PartsOwner) (p : Path) (base : ℕ) → IsOwned p → LiesAt layout false p (parts w ps) base
          → (v : JumpTargets) (c : Code) → Keeps k c (stmts_code units (near base) xs v c)
      linked_block ps b xs link own_names w p base owned stands =
          body_keeps units far kept b.body link.symbols base own_names
          (λ x y free is.
          let part = link.variables x y is free in
          let member = stands_member layout false p w ps base x (record { offset = part.offset; shape = y.shape })
          part.part stands in
          record {
            path = member_at p x;
            owned = record { owner = owned.owner; is = owned.is };
            stands = subst (λ a. LiesAt layout y.is_input (member_at p x) y.shape (slot_at base a)) (sym part.anchor)
                (subst (λ i. LiesAt layout i (member_at p x) y.shape (base + part.offset)) (sym part.is_variable)
                member);
          }) link.instances xs link.body

      numbered_block : (i : ℕ) (x : Name) (ps : Parts) (w : PartsOwner) (p : Path) (base : ℕ)
          → HasBlock layout library code numbers x i ps → IsOwned p → LiesAt layout false p (parts w ps) base
          → (c : Code) → Keeps k c (body_code units (slice_get code.blocks i) (near base) c)
      numbered_block i x ps w p base has owned stands c =
          subst (λ o. Keeps k c (body_code units o (near base) c)) (sym has.numbered)
          (linked_block ps has.named has.linked has.link (keep x has.named has.there) w p base owned stands
          (body_targets (length c)) c)

      over_blocks : (b : BlockCode) (x : Name) (ps : Parts) (w : PartsOwner) (p : Path) (base : ℕ)
          → named_in numbers.blocks x ≡ Some b → named_in numbers.members x ≡ Some ps → IsOwned p
          → LiesAt layout false p (parts w ps) base → (c : Code)
          → Keeps k c (instance_code code units b (near base) c)
      over_blocks (standard_block b) x ps w p base coded known owned stands c =
          let members = (links.standards x b ps coded known).members in
          put k c (Step (block_code b) (0 + base))
          (subst (λ m. (nat_le (0 + base) k && nat_lt k (0 + base + length (members_of m))) ≡ false) (sym (block_is b))
          (subst (λ j. (nat_le j k && nat_lt k (j + length (members_of b))) ≡ false) (no_start base (0 + base) refl)
          (step_apart p w b base (subst (λ qs. LiesAt layout false p (parts w qs) base) members stands) owned)))
      over_blocks (own_block i) x ps w p base coded known owned stands c =
          numbered_block i x ps w p base (links.blocks x i ps coded known) owned stands c

    near_units : (n : ℕ) → NearKeep (units_code code n)
    unfolding units_code
    near_units zero = record { blocks = λ b x ps w p base coded known owned stands c. same_code k c }
    near_units (suc n) = record {
      blocks = λ b x ps w p base coded known owned stands c.
          over_blocks (units_code code n) (far_units k code n) (near_units n) b x ps w p base coded known owned stands c;
    }

    -- a program
    program_keeps : (program : Program) (symbols : List Symbol) (xs : SlotStmts) (n : ℕ) → KeepsOwn program.body
        → ((x : Name) (y : Symbol) → symbol_of symbols x ≡ Some y
        → LiesAt layout y.is_input (path_in (of_program program.owner) program.body x) y.shape (slot_at 0 y.anchor))
        → EachInstance numbers symbols program.body.instances
        → linked_stmts (table_of numbers symbols program.body.instances) program.body.statements ≡ Some xs
        → IsOnlyLookedUp (program_code code 0 size xs n) k
    unfolding program_code
    program_keeps program symbols xs n own_names names each linked =
        (body_keeps (units_code code n) (far_units k code n) (near_units n) program.body symbols 0 own_names
        (λ x y free is. record {
          path = own_path (of_program program.owner) x;
          owned = record { owner = program.owner; is = refl };
          stands = subst (λ b. LiesAt layout y.is_input
              (if b then unowned x else own_path (of_program program.owner) x) y.shape (slot_at 0 y.anchor)) free
              (names x y is);
        }) each xs linked (body_targets 0) []).by refl

-- In code that is made of a linked program no instruction takes a global or an input as it is, if all bodies keep to their
-- own names.
pub looked_up : (layout : List Slot) (p : Program) (code : SlotLibrary) (body : SlotStmts) (n k : ℕ) (l : Slot)
    → IsProgramLink layout p 0 code body → KeepsOwn p.body
    → ((b : Name) (named : Block) → block_in p.library.blocks b ≡ Some named → KeepsOwn named.body)
    → slice_get layout k ≡ Some l → l.path.owner ≡ None
    → IsOnlyLookedUp (program_code code 0 (length layout) body n) k
looked_up layout p code body n k l link own_names keep at nobody =
    program_keeps layout k l at nobody code p.library link.numbers link.library keep (length layout)
    (slice_get_within layout k l at) p link.symbols body n own_names link.names link.instances link.linked
