-- The instances of programs with their codes.
use Rattle.std.specs.Prelude.{ℕ, suc, List, [], ◌∷◌}
use Rattle.slot_code.specs.Codes.{CodeView, code_view}
use Rattle.plan.specs.declared.task.ProgramInstance.{ProgramInstance}
use Rattle.config.specs.declared.places.Place.{Place}

-- an instance: where it runs, the number of its program, and its code
pub record CodedInstance : Type 0 where
  pub place : Place
  pub number : ℕ
  pub code : CodeView

abbrev pub instance_view : ProgramInstance → CodedInstance
instance_view p = record {
  place = record { owner = p.owner; resource = p.resource; task = p.task };
  number = p.number;
  code = code_view p.code.value;
}

-- instances in their order, of which the first has this number, each with its code
abbrev pub instances_from : ℕ → List Place → List CodeView → List CodedInstance
instances_from number ps [] = []
instances_from number [] (c ∷ cs) = []
instances_from number (p ∷ ps) (c ∷ cs) =
    record { place = p; number = number; code = c } ∷ instances_from (suc number) ps cs
