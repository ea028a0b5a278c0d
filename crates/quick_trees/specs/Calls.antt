-- Quick code of functions and blocks in the place of their calls.
use Rattle.std.specs.Prelude.{◌≡◌, ◌≤◌, ◌+◌, ◌⊎◌, ℕ, ℤ, zero, suc, true, false, List, [], ◌∷◌, length, map, Some}
use Rattle.std.specs.Prelude.{slice_get}
use Rattle.st_types.specs.declared.kind.Kind.{Kind}
use Rattle.st_types.specs.Values.{Datum, IsHeld}
use Rattle.st_types.specs.Words.{datum_at}
use Rattle.quick_code.specs.declared.quick_instr.QuickInstr.TheVariants.{Move, Set, Step}
use Rattle.quick_code.specs.Blocks.{member_count}
use Rattle.st_meaning.specs.StandardBlocks.{BlockMember, StandardBlock, members_of}
use Rattle.symbols.specs.Standard.{block_view}
use Rattle.symbols.specs.declared.standard_blocks.StandardBlock as code_block
use Rattle.quick_trees.specs.declared.noting.Noting.{Noting}
use Rattle.quick_trees.specs.Notes.{NotesChange, at_assignment, at_look}
use Rattle.slot_trees.specs.SlotTrees.{BlockCode, SlotFunction, SlotLibrary, SlotStmts, own_block, standard_block}
use Rattle.quick_trees.specs.Points.{Point, CodeRelation, next, Joins}
use Rattle.quick_trees.specs.QuickMemory.{Frame}
use Rattle.quick_trees.specs.UnitValues.{FunctionWord, called, whole}
use Rattle.quick_trees.specs.TreeCode.{QuickUnits, AreStmtsCode}

-- the types of a function's values
abbrev pub kinds_in : SlotFunction → List Kind
kinds_in g = map (λ v. v.kind) g.fresh

-- The arguments are of the types of the inputs, and no value is two inputs.
pub record AreInputs (g : SlotFunction) (kinds : List Kind) (words : List ℕ) : Type 0 where
  pub words_long : length words ≡ length g.inputs
  pub kinds_long : length kinds ≡ length g.inputs
  pub typed : (i k : ℕ) (t : Kind) → slice_get g.inputs i ≡ Some k → slice_get (kinds_in g) k ≡ Some t
      → slice_get kinds i ≡ Some t
  pub there : (i k : ℕ) → slice_get g.inputs i ≡ Some k → (v : Datum) × (slice_get g.fresh k ≡ Some v)
  pub once : (i j k : ℕ) → slice_get g.inputs i ≡ Some k → slice_get g.inputs j ≡ Some k → i ≡ j

-- The value is an input whose argument has this word.
pub record IsInput (g : SlotFunction) (words : List ℕ) (k word : ℕ) : Type 0 where
  pub index : ℕ
  pub input : slice_get g.inputs index ≡ Some k
  pub argument : slice_get words index ≡ Some word

-- A value is begun: an input may stay where its argument is, if the body never assigns it, or it is moved to the
-- function's own word; any other value is set.
abbrev pub IsBegun : Frame → SlotFunction → List ℕ → ℕ → ℕ → FunctionWord → CodeRelation
IsBegun f g words start k s p q =
    ((s.is_own ≡ false) × (IsInput g words k s.word × (p ≡ q)))
    ⊎ ((s ≡ record { word = start + k; is_own = true }) × ((q ≡ next p)
    × (((x : ℕ) × (IsInput g words k x × (slice_get f.code p.place ≡ Some (Move x s.word))))
    ⊎ ((w : ℤ) × ((v : Datum) × ((slice_get g.fresh k ≡ Some v) × ((v ≡ datum_at v.kind w) × (IsHeld v
    × (((i : ℕ) → slice_get g.inputs i ≡ Some k → ⊥) × (slice_get f.code p.place ≡ Some (Set w s.word)))))))))))

abbrev pub AreBegun : Frame → SlotFunction → List ℕ → ℕ → ℕ → List FunctionWord → CodeRelation
AreBegun f g words start k [] p q = p ≡ q
AreBegun f g words start k (s ∷ seats) p q =
    (r : Point) × (IsBegun f g words start k s p r × AreBegun f g words start (suc k) seats r q)

-- The function's values begin at a depth. They are begun, the body runs, and the result is moved to a word.
pub record IsFunction (f : Frame) (units : QuickUnits) (g : SlotFunction) (kinds : List Kind) (words : List ℕ)
    (d : ℕ) (t : Kind) (to : ℕ) (p q : Point) : Type 0 where
  pub inputs : AreInputs g kinds words
  pub room : d + length g.fresh ≤ f.size
  pub seats : List FunctionWord
  pub all : length seats ≡ length g.fresh
  pub begun : Point
  pub begins : AreBegun f g words d 0 seats p begun
  pub end : Point
  pub last : Point
  pub body : AreStmtsCode f (called (kinds_in g) seats) units g.body (d + length g.fresh)
      (record { out = last; back = last }) begun end
  pub joins : Joins f end last
  pub result : FunctionWord
  pub seat : slice_get seats g.result ≡ Some result
  pub of_type : slice_get (kinds_in g) g.result ≡ Some t
  pub moved : slice_get f.code last.place ≡ Some (Move result.word to)
  pub is : q ≡ next last

-- A block's body runs on an instance, with temporaries from a depth on. RETURN leads to its end.
pub record IsBlock (f : Frame) (units : QuickUnits) (body : SlotStmts) (at d : ℕ) (p q : Point) : Type 0 where
  pub end : Point
  pub stands : AreStmtsCode f (whole at) units body d (record { out = q; back = q }) p end
  pub joins : Joins f end q

-- the members of a standard block are slots from one on, and their words begin at a word
abbrev pub AreMembers : Frame → List BlockMember → ℕ → ℕ → Type 0
AreMembers f [] k w = Unit {0}
AreMembers f (x ∷ members) k w =
    (slice_get f.kinds k ≡ Some x.1) × ((slice_get f.window w ≡ Some k) × AreMembers f members (suc k) (suc w))

-- A standard block steps by an instruction: all members are looked up, and then all are assigned.
pub record IsStepped (f : Frame) (b : StandardBlock) (at : ℕ) (p q : Point) : Type 0 where
  pub block : code_block.StandardBlock
  pub is_block : block_view block ≡ b
  pub word : ℕ
  pub members : AreMembers f (members_of b) at word
  pub stands : slice_get f.code p.place ≡ Some (Step block word)
  pub looked : List Noting
  pub looks : NotesChange at_look word (member_count b) p.noted looked
  pub is : q ≡ record (next p) { noted = q.noted }
  pub assigns : NotesChange at_assignment word (member_count b) looked q.noted

-- the code of a block on an instance that begins at a slot
abbrev pub IsBlockCode : Frame → SlotLibrary → QuickUnits → BlockCode → ℕ → ℕ → CodeRelation
IsBlockCode f library units (own_block i) at d p q =
    (body : SlotStmts) × ((slice_get library.blocks i ≡ Some body) × IsBlock f units body at d p q)
IsBlockCode f library units (standard_block b) at d p q = IsStepped f b at p q

-- the units of a text, if those that they call have this code
abbrev pub quick_units_over : Frame → SlotLibrary → QuickUnits → QuickUnits
quick_units_over f library units = record {
  functions = λ i kinds words d t to p q. (g : SlotFunction)
      × ((slice_get library.functions i ≡ Some g) × IsFunction f units g kinds words d t to p q);
  blocks = IsBlockCode f library units;
}

-- with calls at most n deep
unfoldable pub quick_units : Frame → SlotLibrary → ℕ → QuickUnits
quick_units f library zero = record { functions = λ i kinds words d t to p q. ⊥; blocks = λ c at d p q. ⊥ }
quick_units f library (suc n) = quick_units_over f library (quick_units f library n)
