-- Code and plans may cross threads.
use Rattle.std.proofs.Common.{ℕ, zero, suc, List, [], ◌∷◌, take, drop}
use denote.RattleType.{RattleType}
use denote.Struct.Field.{Field}
use denote.Param.Send.{IsSend, IsSync}
use denote.Param.SendFields.{declared_send, declared_sync, variants_send, variants_sync, VariantsHave}
use Rattle.std.proofs.Crossing.{crosses}
use Rattle.machine_code.specs.contracts.instr.Instr as Instr
use Rattle.symbols.specs.contracts.standard_functions.Standard as Standard
use Rattle.symbols.specs.contracts.standard_blocks.StandardBlock as StandardBlock
use Rattle.quick_code.specs.contracts.quick_code.QuickCode as QuickCode
use Rattle.quick_code.specs.contracts.quick_code.Way as Way
use Rattle.quick_code.specs.contracts.quick_instr.QuickInstr as QuickInstr
use Rattle.slot_code.specs.contracts.parts.QuickParts as QuickParts
use Rattle.slot_code.specs.contracts.program.QuickProgram as QuickProgram
use Rattle.slot_code.specs.contracts.program.QuickProgram.TheInside as QuickInside
use Rattle.slot_code.specs.contracts.code.Code as Code
use Rattle.plan.specs.contracts.task.ProgramInstance as ProgramInstance
use Rattle.st_meaning.specs.contracts.plan.PlanVariable as PlanVariable
use Rattle.st_meaning.specs.contracts.plan.PlanInput as PlanInput
use Rattle.plan.specs.contracts.task.Task as Task
use Rattle.plan.specs.contracts.slots.SlotPlace as SlotPlace
use Rattle.layout.specs.contracts.slots.SlotFacts as SlotFacts
use Rattle.layout.specs.contracts.layout.Layout.TheInside as LayoutInside
use Rattle.layout.specs.contracts.layout.Layout as Layout
use Rattle.plan.specs.contracts.plan.Plan as Plan
use Rattle.plc_threads.proofs.TextCrossing.{plain, kind-send, kind-sync, name-send, name-sync, option-send, option-sync}
use Rattle.plc_threads.proofs.TextCrossing.{owner-send, owner-sync, path-send, path-sync, source-send, source-sync}
use Rattle.plc_threads.proofs.TextCrossing.{value-send, value-sync}

-- many variants, some at a time, since a search takes a million steps at most
parts_have : (H : RattleType → Type 0) (n : ℕ) (parts : List (List Field)) → VariantsHave H (take n parts)
    → VariantsHave H (drop n parts) → VariantsHave H parts
parts_have H zero parts first rest = rest
parts_have H (suc n) [] first rest = tt
parts_have H (suc n) (p ∷ parts) first rest = (first.0, parts_have H n parts first.1 rest)

-- ---- code

standard-send : IsSend Standard.the_row
standard-send = variants_send Standard.enum (search (plain, kind-send) depth 60 fits 20000)

standard-sync : IsSync Standard.the_row
standard-sync = variants_sync Standard.enum (search (plain, kind-sync) depth 60 fits 20000)

instr-send : IsSend Instr.the_row
instr-send = variants_send Instr.enum (search (plain, value-send, standard-send) depth 200 fits 20000)

instr-sync : IsSync Instr.the_row
instr-sync = variants_sync Instr.enum (search (plain, value-sync, standard-sync) depth 200 fits 20000)

way-send : IsSend Way.the_row
way-send = search plain depth 20

way-sync : IsSync Way.the_row
way-sync = search plain depth 20

standard_block-send : IsSend StandardBlock.the_row
standard_block-send = variants_send StandardBlock.enum (search plain depth 40)

standard_block-sync : IsSync StandardBlock.the_row
standard_block-sync = variants_sync StandardBlock.enum (search plain depth 40)

abbrev instrs_from : ℕ → List (List Field)
instrs_from zero = QuickInstr.enum.parts
instrs_from (suc k) = drop 12 (instrs_from k)

quick_instr-send : IsSend QuickInstr.the_row
quick_instr-send = variants_send QuickInstr.enum (
    parts_have IsSend 12 (instrs_from 0) (search (plain, way-send) depth 200 fits 20000)
    (parts_have IsSend 12 (instrs_from 1) (search plain depth 200 fits 20000)
    (parts_have IsSend 12 (instrs_from 2) (search plain depth 200 fits 20000)
    (parts_have IsSend 12 (instrs_from 3) (search (plain, way-send) depth 200 fits 20000)
    (parts_have IsSend 12 (instrs_from 4) (search (plain, way-send, standard_block-send) depth 200 fits 20000)
    (parts_have IsSend 12 (instrs_from 5) (search plain depth 200 fits 20000)
    (search (plain, way-send) depth 200 fits 20000)))))))

quick_instr-sync : IsSync QuickInstr.the_row
quick_instr-sync = variants_sync QuickInstr.enum (
    parts_have IsSync 12 (instrs_from 0) (search (plain, way-sync) depth 200 fits 20000)
    (parts_have IsSync 12 (instrs_from 1) (search plain depth 200 fits 20000)
    (parts_have IsSync 12 (instrs_from 2) (search plain depth 200 fits 20000)
    (parts_have IsSync 12 (instrs_from 3) (search (plain, way-sync) depth 200 fits 20000)
    (parts_have IsSync 12 (instrs_from 4) (search (plain, way-sync, standard_block-sync) depth 200 fits 20000)
    (parts_have IsSync 12 (instrs_from 5) (search plain depth 200 fits 20000)
    (search (plain, way-sync) depth 200 fits 20000)))))))

quick_code-send : IsSend QuickCode.the_row
quick_code-send = declared_send QuickCode.the_type (search (plain, quick_instr-send, way-send) depth 40)

quick_code-sync : IsSync QuickCode.the_row
quick_code-sync = declared_sync QuickCode.the_type (search (plain, quick_instr-sync, way-sync) depth 40)

quick_parts-send : IsSend QuickParts.the_row
quick_parts-send = declared_send QuickParts.the_type (search (plain, quick_code-send, value-send) depth 40)

quick_parts-sync : IsSync QuickParts.the_row
quick_parts-sync = declared_sync QuickParts.the_type (search (plain, quick_code-sync, value-sync) depth 40)

-- what is shared crosses by both laws
ruleset codes = (plain, instr-send, instr-sync, kind-send, kind-sync, quick_parts-send, quick_parts-sync)

quick_inside-send : IsSend QuickInside.the_row
quick_inside-send = declared_send QuickInside.the_type (search codes depth 60 fits 20000)

quick_inside-sync : IsSync QuickInside.the_row
quick_inside-sync = declared_sync QuickInside.the_type (search codes depth 60 fits 20000)

quick_program-send : IsSend QuickProgram.the_row
quick_program-send = search (plain, quick_inside-send) depth 20

quick_program-sync : IsSync QuickProgram.the_row
quick_program-sync = search (plain, quick_inside-sync) depth 20

code-send : IsSend Code.the_row
code-send = declared_send Code.the_type (search (codes, option-send, quick_program-send) depth 60 fits 20000)

code-sync : IsSync Code.the_row
code-sync = declared_sync Code.the_type (search (codes, option-sync, quick_program-sync) depth 60 fits 20000)

-- ---- plans

instance-send : IsSend ProgramInstance.the_row
instance-send = declared_send ProgramInstance.the_type (search (plain, owner-send, code-send, code-sync) depth 60 fits 20000)

instance-sync : IsSync ProgramInstance.the_row
instance-sync = declared_sync ProgramInstance.the_type (search (plain, owner-sync, code-send, code-sync) depth 60 fits 20000)

place-send : IsSend SlotPlace.the_row
place-send = search plain depth 20

place-sync : IsSync SlotPlace.the_row
place-sync = search plain depth 20

plan_variable-send : IsSend PlanVariable.the_row
plan_variable-send = declared_send PlanVariable.the_type (search (plain, path-send, value-send) depth 40)

plan_variable-sync : IsSync PlanVariable.the_row
plan_variable-sync = declared_sync PlanVariable.the_type (search (plain, path-sync, value-sync) depth 40)

plan_input-send : IsSend PlanInput.the_row
plan_input-send = declared_send PlanInput.the_type (search (plain, path-send, kind-send) depth 40)

plan_input-sync : IsSync PlanInput.the_row
plan_input-sync = declared_sync PlanInput.the_type (search (plain, path-sync, kind-sync) depth 40)

task-send : IsSend Task.the_row
task-send = search plain depth 20

task-sync : IsSync Task.the_row
task-sync = search plain depth 20

facts-send : IsSend SlotFacts.the_row
facts-send = declared_send SlotFacts.the_type (search (plain, value-send) depth 40)

facts-sync : IsSync SlotFacts.the_row
facts-sync = declared_sync SlotFacts.the_type (search (plain, value-sync) depth 40)

layout_inside-send : IsSend LayoutInside.the_row
layout_inside-send = declared_send LayoutInside.the_type (search (plain, path-send, facts-send) depth 60)

layout_inside-sync : IsSync LayoutInside.the_row
layout_inside-sync = declared_sync LayoutInside.the_type (search (plain, path-sync, facts-sync) depth 60)

layout-send : IsSend Layout.the_row
layout-send = search (plain, layout_inside-send) depth 20

layout-sync : IsSync Layout.the_row
layout-sync = search (plain, layout_inside-sync) depth 20

pub plan-send : IsSend Plan.the_row
plan-send = declared_send Plan.the_type (search (
  plain,
  source-send,
  source-sync,
  name-send,
  plan_variable-send,
  plan_input-send,
  layout-send,
  place-send,
  task-send,
  instance-send,
) depth 100 fits 20000)

pub plan-sync : IsSync Plan.the_row
plan-sync = declared_sync Plan.the_type (search (
  plain,
  source-send,
  source-sync,
  name-sync,
  plan_variable-sync,
  plan_input-sync,
  layout-sync,
  place-sync,
  task-sync,
  instance-sync,
) depth 100 fits 20000)
