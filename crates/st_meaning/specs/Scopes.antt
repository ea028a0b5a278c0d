-- The variables and blocks that the names of a unit's body stand for.
use Rattle.std.specs.Prelude.{ℕ, List, [], ◌∷◌, ◌++◌, Bool, if◌then◌else◌, Option, Some, None, bytes_eq}
use Rattle.std.specs.List.{list_any}
use Rattle.st_types.specs.declared.path.Owner.{Owner}
use Rattle.st_types.specs.declared.path.Step.TheVariants.{Member}
use Rattle.st_types.specs.Values.{Datum}
use Rattle.st_types.specs.Paths.{Path}
use Rattle.st_types.specs.Statements.{Stmts}
use Rattle.st_meaning.specs.Failures.{StuckFaults}
use Rattle.st_meaning.specs.Stores.{Store, get}
use Rattle.st_meaning.specs.Ticks.{Run}

abbrev pub Name : Type 0
Name = List ℕ

-- whose variables a body's own names are: those of a program's instance, of a block's instance, or a call's
pub data Frame : Type 0 where
  of_program : Owner → Frame
  of_block : Path → Frame
  of_call : Frame

-- a body with its names: externals stand for globals, and instances are of blocks
pub record Body : Type 0 where
  pub externals : List Name
  pub instances : List (Name × Name)
  pub statements : Stmts

-- a function: its inputs in order, and its variables and result as a call begins
pub record Function : Type 0 where
  pub name : Name
  pub inputs : List Name
  pub fresh : Store
  pub body : Body

pub record Block : Type 0 where
  pub name : Name
  pub body : Body

-- the functions and blocks of a text
pub record Library : Type 0 where
  pub functions : List Function
  pub blocks : List Block

-- the path of a variable that no program's instance owns: a global, or one of a call of a function
abbrev pub unowned : Name → Path
unowned x = record { owner = None; name = x; steps = [] }

-- a member of the structure or instance at a path
abbrev pub member_at : Path → Name → Path
member_at p x = record { owner = p.owner; name = p.name; steps = p.steps ++ Member x ∷ [] }

abbrev pub own_path : Frame → Name → Path
own_path (of_program o) x = record { owner = Some o; name = x; steps = [] }
own_path (of_block p) x = member_at p x
own_path of_call x = unowned x

abbrev pub contains_name : List Name → Name → Bool
contains_name xs x = list_any (λ y. bytes_eq x y) xs

-- the variable that a name stands for
abbrev pub path_in : Frame → Body → Name → Path
path_in frame body x = if contains_name body.externals x then unowned x else own_path frame x

-- the block of an instance
abbrev pub block_named : List (Name × Name) → Name → Option Name
block_named [] x = None
block_named (e ∷ es) x = if bytes_eq x e.0 then Some e.1 else block_named es x

abbrev pub function_in : List Function → Name → Option Function
function_in [] x = None
function_in (f ∷ fs) x = if bytes_eq x f.name then Some f else function_in fs x

abbrev pub block_in : List Block → Name → Option Block
block_in [] x = None
block_in (b ∷ bs) x = if bytes_eq x b.name then Some b else block_in bs x

-- the units of a text: a function for its arguments, a block for its instance and the variables
pub record Units : Type 0 where
  pub functions : Name → List Datum → Run Datum
  pub blocks : Name → Path → Store → Run Store

-- where a body runs: the units, its names, the inputs of the plant, the row's moment, and the faults for failures that no
-- well-typed text meets
pub record Scope : Type 0 where
  pub units : Units
  pub frame : Frame
  pub body : Body
  pub image : Store
  pub now : ℕ
  pub stuck_faults : StuckFaults

abbrev pub or_datum : Option Datum → Option Datum → Option Datum
or_datum (Some v) other = Some v
or_datum None other = other

-- the input or the variable at a path
abbrev pub seen : Store → Store → Path → Option Datum
seen image s p = or_datum (get image p) (get s p)
