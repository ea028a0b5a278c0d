-- The premises of runs of a text's units: its library, and the variables of its instances.
use Rattle.std.specs.Prelude.{◌≡◌, ℕ, pos, List, [], ◌∷◌, true, Option, Some, None}
use Rattle.st_types.specs.declared.fault.Fault.TheVariants.{Budget}
use Rattle.st_types.specs.declared.identifier.Identifier.{Identifier}
use Rattle.st_types.specs.declared.kind.Kind.{Kind}
use Rattle.st_types.specs.declared.kind.Kind.TheVariants.{Time}
use Rattle.st_types.specs.Kinds.{holds}
use Rattle.st_types.specs.Paths.{Path}
use Rattle.st_types.specs.declared.data_type.SimpleType.{SimpleType}
use Rattle.st_types.specs.declared.data_type.SimpleType.TheVariants.{Named}
use Rattle.st_types.specs.declared.data_type.VariableType.{VariableType}
use Rattle.st_types.specs.declared.data_type.VariableType.TheVariants as types
use Rattle.st_types.specs.declared.unit.UnitSort.TheVariants.{Function as function, FunctionBlock as function_block}
use Rattle.st_types.specs.Statements.{stmts_of}
use Rattle.st_types.specs.Units.{OrganisationUnit}
use Rattle.st_types.specs.Sources.{Source}
use Rattle.st_meaning.specs.Failures.{StuckFaults, in_runs}
use Rattle.st_meaning.specs.Stores.{Store, get}
use Rattle.st_meaning.specs.Ticks.{fault}
use Rattle.st_meaning.specs.StandardBlocks.{StandardBlock, BlockMember, block_of, inputs_of, outputs_of, members_of}
use Rattle.st_meaning.specs.Scopes.{Name, Frame, of_program, of_block, of_call, Body, Function, Block, Library, Units, Scope}
use Rattle.st_meaning.specs.Scopes.{unowned, member_at, path_in, block_named, function_in, block_in}
use Rattle.st_meaning.specs.NameTypes.{Declared, declared_in, unit_named, variable_type, block_variable, is_input}
use Rattle.st_meaning.specs.NameTypes.{is_output, kind_among, input_kinds}
use Rattle.st_meaning.specs.Bodies.{externals_in}
use Rattle.st_meaning.specs.ResolvedUnits.{resolved_stmts}
use Rattle.st_meaning.specs.Runs.{Program, units_within, ran_where, store_of}
use Rattle.st_meaning.specs.Loops.{End}
use Rattle.st_rules.specs.Environments.{is_block}
use Rattle.st_rules.specs.Rules.{environment, IsWellTyped}
use Rattle.st_link.specs.Soundness.{HasKind, EndsAlikeIn, Agrees, Keeps, UnitsAgree, AreKnown}

-- the body of a unit as runs have it: its externals stand for globals, its literals have their types, and its
-- instances are of their blocks
pub record IsBodyOf (text : Declared) (u : OrganisationUnit) (body : Body) : Type 0 where
  pub externals : body.externals ≡ externals_in u.blocks
  pub statements : body.statements ≡ resolved_stmts text u (stmts_of u.body)
  pub instances : (x : Name) (b : Identifier) → variable_type u x ≡ Some (types.Simple (Named b))
      → is_block text b.name ≡ true → block_named body.instances x ≡ Some b.name

-- the block of a unit of the text, which is found by its name
pub record IsBlockOf (text : Declared) (library : Library) (b : Name) (u : OrganisationUnit) (c : Block) : Type 0 where
  pub own : block_of b ≡ None
  pub declared : unit_named text.units b ≡ Some u
  pub sort : u.sort ≡ function_block
  pub there : block_in library.blocks b ≡ Some c

-- a unit's body in its scope
pub record BodyRun : Type 0 where
  pub unit : OrganisationUnit
  pub frame : Frame
  pub body : Body

-- The bodies that a run reaches by calls of instances: its own, and those of the instances in one of them.
pub data Reaches (text : Declared) (library : Library) (r : BodyRun) : BodyRun → Type 0 where
  itself : Reaches text library r r
  inside : {q : BodyRun} (x : Name) (b : Identifier) (u : OrganisationUnit) (c : Block) → Reaches text library r q
      → variable_type q.unit x ≡ Some (types.Simple (Named b)) → IsBlockOf text library b.name u c
      → Reaches text library r
      (record { unit = u; frame = of_block (path_in q.frame q.body x); body = c.body })

-- the meanings of its names don't depend on the effects of units
abbrev pub idle : Units
idle = record { functions = λ f vs. fault Budget; blocks = λ b at s. fault Budget }

abbrev pub scope_of_run : Store → ℕ → BodyRun → Scope
scope_of_run image now r =
    record { units = idle; frame = r.frame; body = r.body; image = image; now = now; stuck_faults = in_runs }

-- members of an instance with values of their types
abbrev pub AreStored : Store → Path → List BlockMember → Type 0
AreStored s at [] = Unit {0}
AreStored s at (m ∷ ms) = HasKind (get s (member_at at m.0)) m.1 × AreStored s at ms

-- an instance of a block: each input and each output is a variable with a value of its type, and so is each member of a
-- standard block
pub record InstanceIsTyped (text : Declared) (s : Store) (at : Path) (b : Identifier) : Type 0 where
  pub inputs : (y : Name) (t : VariableType) (k : Kind)
      → block_variable text inputs_of is_input (types.Simple (Named b)) y ≡ Some t → kind_among text.types t ≡ Some k
      → HasKind (get s (member_at at y)) k
  pub outputs : (y : Name) (t : VariableType) (k : Kind)
      → block_variable text outputs_of is_output (types.Simple (Named b)) y ≡ Some t
      → kind_among text.types t ≡ Some k
      → HasKind (get s (member_at at y)) k
  pub members : (k : StandardBlock) → block_of b.name ≡ Some k → AreStored s at (members_of k)

-- The places of each body that a run reaches have values of their types, and so have the instances in it.
pub record PlacesAreTyped (text : Declared) (library : Library) (image : Store) (now : ℕ) (r : BodyRun) (s : Store)
    : Type 0 where
  pub places : (q : BodyRun) → Reaches text library r q
      → Agrees (environment text q.unit) (scope_of_run image now q) s
  pub instances : (q : BodyRun) → Reaches text library r q → (x : Name) (b : Identifier)
      → variable_type q.unit x ≡ Some (types.Simple (Named b)) → is_block text b.name ≡ true
      → InstanceIsTyped text s (path_in q.frame q.body x) b

-- the inputs of a call are variables of their types, in order
abbrev pub TakeInputs : Store → List Name → List (Option Kind) → Type 0
TakeInputs s [] [] = Unit {0}
TakeInputs s (x ∷ xs) (Some k ∷ ks) = HasKind (get s (unowned x)) k × TakeInputs s xs ks
TakeInputs s _ _ = ⊥

-- a function of the text, at the beginning of a call
abbrev pub call_of : OrganisationUnit → Function → BodyRun
call_of u f = record { unit = u; frame = of_call; body = f.body }

-- a function of the text exists, and its variables have values of their types at the beginning of a call
pub record HasFunction (text : Declared) (library : Library) (f : Name) (u : OrganisationUnit) : Type 0 where
  pub value : Function
  pub there : function_in library.functions f ≡ Some value
  pub named : value.name ≡ u.name.name
  pub body : IsBodyOf text u value.body
  pub inputs : TakeInputs value.fresh value.inputs (input_kinds text u.blocks)
  pub fresh : (now : ℕ) → Agrees (environment text u) (scope_of_run [] now (call_of u value)) value.fresh

pub record HasBlock (text : Declared) (library : Library) (b : Name) (u : OrganisationUnit) : Type 0 where
  pub value : Block
  pub there : block_in library.blocks b ≡ Some value
  pub body : IsBodyOf text u value.body

-- the library of a text: each function and block of it, by its name
pub record IsLibraryOf (text : Declared) (library : Library) : Type 0 where
  pub functions : (f : Name) (u : OrganisationUnit) (t : SimpleType) → unit_named text.units f ≡ Some u
      → u.sort ≡ function t → HasFunction text library f u
  pub blocks : (b : Name) (u : OrganisationUnit) → block_of b ≡ None → unit_named text.units b ≡ Some u
      → u.sort ≡ function_block → HasBlock text library b u

-- Calls of the text's blocks end alike on instances with values, and keep the variables.
abbrev pub BlocksAgree : Declared → Library → Store → ℕ → Units → Units → Type 0
BlocksAgree text library image now u v =
    (b : Name) (d : OrganisationUnit) (c : Block) (at : Path) (s : Store) (budget : ℕ)
    → IsBlockOf text library b d c
    → PlacesAreTyped text library image now (record { unit = d; frame = of_block at; body = c.body }) s
    → EndsAlikeIn (Keeps s) (u.blocks b at s budget) (v.blocks b at s budget)

-- So do calls of standard blocks.
abbrev pub StandardBlocksAgree : Units → Units → Type 0
StandardBlocksAgree u v =
    (b : Name) (k : StandardBlock) (at : Path) (s : Store) (budget : ℕ)
    → block_of b ≡ Some k → AreStored s at (members_of k)
    → EndsAlikeIn (Keeps s) (u.blocks b at s budget) (v.blocks b at s budget)

-- functions and blocks
pub record AllUnitsAgree (text : Declared) (library : Library) (image : Store) (now : ℕ) (u v : Units)
    : Type 0 where
  pub functions : (d : OrganisationUnit) → UnitsAgree (environment text d) u v
  pub blocks : BlocksAgree text library image now u v
  pub standard_blocks : StandardBlocksAgree u v

-- a moment within the range of TIME
abbrev pub IsMoment : ℕ → Type 0
IsMoment now = holds Time (pos now) ≡ true

-- The law of types: in a text that breaks no rule, those of each unit are known.
abbrev pub TypesAreKnown : Type 0
TypesAreKnown =
    (source : Source) (x : Name) (u : OrganisationUnit) → IsWellTyped source
    → unit_named (declared_in source).units x ≡ Some u → AreKnown (environment (declared_in source) u)

-- The law of units: those of a text that breaks no rule agree, however deep calls may be and whatever stands for the
-- cases that no well-typed text meets.
abbrev pub UnitsAreSound : Type 0
UnitsAreSound =
    (source : Source) (library : Library) (image : Store) (now depth : ℕ) (i j : StuckFaults)
    → IsWellTyped source → IsLibraryOf (declared_in source) library → IsMoment now
    → AllUnitsAgree (declared_in source) library image now (units_within i library image now depth)
    (units_within j library image now depth)

-- the body of a program in its scope
abbrev pub run_of_program : OrganisationUnit → Program → BodyRun
run_of_program u p = record { unit = u; frame = of_program p.owner; body = p.body }

-- the store after a run keeps the variables of the one before
abbrev pub LeavesKept : Store → End → Type 0
LeavesKept s e = Keeps s (store_of e)

-- The law of programs: a run of one whose text breaks no rule ends alike whatever stands for the cases that no
-- well-typed text meets, and keeps the variables.
abbrev pub ProgramsAreSound : Type 0
ProgramsAreSound =
    (source : Source) (x : Name) (u : OrganisationUnit) (p : Program) (image : Store) (now budget : ℕ) (s : Store)
    (i j : StuckFaults)
    → IsWellTyped source → IsLibraryOf (declared_in source) p.library → IsMoment now
    → unit_named (declared_in source).units x ≡ Some u → IsBodyOf (declared_in source) u p.body
    → PlacesAreTyped (declared_in source) p.library image now (run_of_program u p) s
    → EndsAlikeIn (LeavesKept s) (ran_where i p image now budget s) (ran_where j p image now budget s)
