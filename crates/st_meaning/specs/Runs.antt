-- The result of a run of a program.
use Rattle.std.specs.Prelude.{ℕ, zero, suc, List, [], ◌∷◌, Option, Some, None, option_map, option_and_then, Result, Ok}
use Rattle.std.specs.Prelude.{Err}
use Rattle.st_types.specs.declared.fault.Fault.{Fault}
use Rattle.st_types.specs.declared.fault.Fault.TheVariants.{Budget}
use Rattle.st_types.specs.declared.path.Owner.{Owner}
use Rattle.st_types.specs.Values.{Datum}
use Rattle.st_types.specs.Paths.{Path}
use Rattle.st_meaning.specs.declared.outcome.Outcome.{Outcome}
use Rattle.st_meaning.specs.declared.outcome.Outcome.TheVariants.{Done, Faulted}
use Rattle.st_meaning.specs.Failures.{Failure, ill_typed, StuckFaults, in_runs, or_failure}
use Rattle.st_meaning.specs.Stores.{Store, get, assigned}
use Rattle.st_meaning.specs.Ticks.{Run, ◌>>=◌, give, fault, attempt, proceed}
use Rattle.st_meaning.specs.StandardBlocks as standard
use Rattle.st_meaning.specs.StandardBlocks.{BlockMember, block_of, stepped}
use Rattle.st_meaning.specs.Scopes.{Name, of_program, of_block, of_call, Body, Function, Block, Library, Units, Scope}
use Rattle.st_meaning.specs.Scopes.{unowned, member_at, function_in, block_in}
use Rattle.st_meaning.specs.Loops.{End, goes_on, exits, returns}
use Rattle.st_meaning.specs.Execution.{exec_all}

-- the store at the end
abbrev pub store_of : End → Store
store_of (goes_on s) = s
store_of (exits s) = s
store_of (returns s) = s

-- a function's variables as a call begins: its inputs have the arguments' values
abbrev pub bound_inputs : Store → List Name → List Datum → Result Store Failure
bound_inputs s [] [] = Ok s
bound_inputs s (x ∷ xs) (v ∷ vs) = proceed (assigned s (unowned x) v) (λ t. bound_inputs t xs vs)
bound_inputs s _ _ = Err ill_typed

-- a function's body on fresh variables; its result is the variable of its name
abbrev pub function_value : StuckFaults → Units → ℕ → Function → List Datum → Run Datum
function_value stuck_faults units now f vs = do
  s ← attempt stuck_faults (bound_inputs f.fresh f.inputs vs)
  e ← exec_all
      (record { units = units; frame = of_call; body = f.body; image = []; now = now; stuck_faults = stuck_faults })
      f.body.statements s
  attempt stuck_faults (or_failure ill_typed (get (store_of e) (unowned f.name)))

-- the values of an instance's members
abbrev pub member_values : Store → Path → List BlockMember → Option (List Datum)
member_values s at [] = Some []
member_values s at (m ∷ ms) =
    option_and_then (λ v. option_map (λ vs. v ∷ vs) (member_values s at ms)) (get s (member_at at m.0))

abbrev pub members_assigned : Store → Path → List BlockMember → List Datum → Result Store Failure
members_assigned s at (m ∷ ms) (v ∷ vs) = proceed (assigned s (member_at at m.0) v) (λ t. members_assigned t at ms vs)
members_assigned s at _ _ = Ok s

-- a call of a standard block: its members step
abbrev pub standard_call : StuckFaults → standard.StandardBlock → ℕ → Path → Store → Run Store
standard_call stuck_faults b now at s = do
  vs ← attempt stuck_faults (or_failure ill_typed (member_values s at (standard.members_of b)))
  attempt stuck_faults (members_assigned s at (standard.members_of b) (stepped b now vs))

-- a call of a block of the text: its body runs on the instance's variables
abbrev pub block_call : StuckFaults → Units → Store → ℕ → Block → Path → Store → Run Store
block_call stuck_faults units image now b at s = do
  e ← exec_all
      (record { units = units; frame = of_block at; body = b.body; image = image; now = now; stuck_faults = stuck_faults })
      b.body.statements s
  give (store_of e)

-- a function of the text on its arguments
abbrev pub function_call : StuckFaults → Library → Units → ℕ → Name → List Datum → Run Datum
function_call stuck_faults library units now f vs = do
  g ← attempt stuck_faults (or_failure ill_typed (function_in library.functions f))
  function_value stuck_faults units now g vs

-- a block on its instance: a standard one, or one of the text
abbrev pub instance_call : StuckFaults → Library → Store → Units → ℕ → Name → Option standard.StandardBlock → Path → Store
    → Run Store
instance_call stuck_faults library image units now b (Some k) at s = standard_call stuck_faults k now at s
instance_call stuck_faults library image units now b None at s = do
  c ← attempt stuck_faults (or_failure ill_typed (block_in library.blocks b))
  block_call stuck_faults units image now c at s

-- the units of a text, if those that they call do this
abbrev pub units_over : StuckFaults → Library → Store → ℕ → Units → Units
units_over stuck_faults library image now units = record {
  functions = function_call stuck_faults library units now;
  blocks = λ b. instance_call stuck_faults library image units now b (block_of b);
}

-- The units of a text, with calls at most n deep. Each call is in a statement, which took a tick.
unfoldable pub units_within : StuckFaults → Library → Store → ℕ → ℕ → Units
units_within stuck_faults library image now zero =
    record { functions = λ f vs. fault Budget; blocks = λ b at s. fault Budget }
units_within stuck_faults library image now (suc n) =
    units_over stuck_faults library image now (units_within stuck_faults library image now n)

-- a program as its runs need it: the units of its text, its instance and its body
pub record Program : Type 0 where
  pub library : Library
  pub owner : Owner
  pub body : Body

-- where the program's body runs, with calls at most n deep, and with these faults for failures that no well-typed text meets
abbrev pub scope_where : StuckFaults → Program → Store → ℕ → ℕ → Scope
scope_where stuck_faults p image now n = record {
  units = units_within stuck_faults p.library image now n;
  frame = of_program p.owner;
  body = p.body;
  image = image;
  now = now;
  stuck_faults = stuck_faults;
}

-- the program's statements with a budget of ticks, and with these faults for failures that no well-typed text meets
unfoldable pub ran_where : StuckFaults → Program → Store → ℕ → ℕ → Store → Result (End × ℕ) Fault
ran_where stuck_faults p image now budget s =
    exec_all (scope_where stuck_faults p image now budget) p.body.statements s budget

abbrev pub scope_of : Program → Store → ℕ → ℕ → Scope
scope_of = scope_where in_runs

unfoldable pub ran : Program → Store → ℕ → ℕ → Store → Result (End × ℕ) Fault
ran = ran_where in_runs

abbrev pub outcome_in : Result (End × ℕ) Fault → Outcome
outcome_in (Ok r) = Done
outcome_in (Err e) = Faulted e

abbrev pub store_in : Result (End × ℕ) Fault → Store → Store
store_in (Ok r) s = store_of r.0
store_in (Err e) s = s

-- how a run ends: it is done, or it faulted
unfoldable pub outcome_of : Program → ℕ → Store → Store → ℕ → Outcome
outcome_of p budget s image now = outcome_in (ran p image now budget s)

-- the variables after a run: a fault leaves them as they were
unfoldable pub store_after : Program → ℕ → Store → Store → ℕ → Store
store_after p budget s image now = store_in (ran p image now budget s) s
