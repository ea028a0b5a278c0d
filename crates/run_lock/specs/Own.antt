-- Snapshots and executions with the code of a run's own plan.
use Rattle.std.specs.Prelude.{◌≡◌, ℕ, List, Option, Some, None, option_map, refl}
use Rattle.std.specs.Coded.{Coded, Coded-set, code_by, coded_list, coded_option, coded×, coded_ℕ}
use Rattle.st_types.specs.declared.kind.Kind.{Kind}
use Rattle.st_types.specs.contracts.kind.Kind as kind
use Rattle.machine_code.specs.declared.instr.Instr.{Instr}
use Rattle.machine_code.specs.contracts.instr.Instr as instr
use Rattle.slot_code.specs.declared.code.Code.{Code}
use Rattle.slot_code.specs.Codes.{CodeView, code_view}
use Rattle.slot_run.specs.Effects.{Effect}
use Rattle.slot_run.specs.Executions.{IsEffectOf}
use Rattle.slot_run.specs.QuickExecutions.{IsQuickEffectOf}
use Rattle.slot_run.specs.declared.taken.Taken.{Taken}
use Rattle.slot_run.specs.declared.taken.Taken.TheVariants.{Quick, Whole}
use Rattle.serial_core.specs.Steps.{State, code_at}

-- the code of a program in the plan of a life
abbrev pub code_in : Option State → ℕ → Option CodeView
code_in None program = None
code_in (Some state) program = option_map code_view (code_at state.plan program)

coded_view : Coded CodeView
coded_view =
    code_by (List Instr × (List Kind × ℕ)) (coded× (coded_list instr.the_row.coded)
    (coded× (coded_list kind.the_row.coded) coded_ℕ)) (λ c. (c.instrs, (c.kinds, c.extra)))
    (λ t. record { instrs = t.0; kinds = t.1.0; extra = t.1.1 }) (λ _. refl)

-- an execution is of the code of its activation's program
abbrev pub HasOwnCode : Option State → Effect → Type 0
HasOwnCode life effect = code_in life effect.activation.program ≡ Some effect.code

pub HasOwnCode-prop : (life : Option State) (effect : Effect) → IsProp (HasOwnCode life effect)
HasOwnCode-prop life effect =
    Coded-set (coded_option coded_view) (code_in life effect.activation.program) (Some effect.code)

-- so is a snapshot that is taken
abbrev pub program_of : Taken → ℕ
program_of (Quick quick) = quick.activation.program
program_of (Whole snapshot) = snapshot.activation.program

abbrev pub taken_code : Taken → Code
taken_code (Quick quick) = quick.code.value
taken_code (Whole snapshot) = snapshot.code.value

abbrev pub IsOwnTaken : Option State → Taken → Type 0
IsOwnTaken life taken = code_in life (program_of taken) ≡ Some (code_view (taken_code taken))

pub IsOwnTaken-prop : (life : Option State) (taken : Taken) → IsProp (IsOwnTaken life taken)
IsOwnTaken-prop life taken =
    Coded-set (coded_option coded_view) (code_in life (program_of taken)) (Some (code_view (taken_code taken)))

-- an execution of a snapshot that was taken, a quick one or a whole one
abbrev pub CameOf : Taken → Effect → Type 0
CameOf (Quick quick) effect = IsQuickEffectOf quick effect
CameOf (Whole snapshot) effect = IsEffectOf snapshot effect

-- all slots were taken
abbrev pub TakesAllSlots : Taken → Type 0
TakesAllSlots (Quick quick) = ⊥
TakesAllSlots (Whole snapshot) = Unit {0}
