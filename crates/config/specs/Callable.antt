-- The requirements on the units that a body calls.
use Rattle.std.specs.Prelude.{◌≡◌, ℕ, List, length, true, Option, Some}
use Rattle.st_types.specs.declared.identifier.Identifier.{Identifier}
use Rattle.st_types.specs.declared.kind.Kind.{Kind}
use Rattle.st_types.specs.declared.data_type.SimpleType.TheVariants.{Named}
use Rattle.st_types.specs.declared.data_type.VariableType.TheVariants as types
use Rattle.st_meaning.specs.Scopes.{Name}
use Rattle.st_rules.specs.Environments.{Environment, own, callee_of, type_of_name, is_block}
use Rattle.slot_trees.specs.Tables.{Table, named_in}
use Rattle.machine_code.specs.Fitting.{UnitCall, of_function}
use Rattle.machine_code.specs.UnitFrames.{UnitFrame, end_of}
use Rattle.config.specs.Sound.{InstanceSound}

-- code is made of the function of a name, called with as many arguments as it has inputs
abbrev pub IsCallable : (UnitCall → Type 0) → UnitFrame → Environment → Table → Name → Type 0
IsCallable CallLinked site env t f =
    (inputs : List (Option Kind)) (result : Option Kind) (i : ℕ) → callee_of env f ≡ Some (own inputs result)
    → named_in t.functions f ≡ Some i → CallLinked (of_function i (end_of site) (length inputs))

-- code is made of the blocks of the unit's instances, each in the place of its instance
abbrev pub AreInvocable : (UnitCall → Type 0) → UnitFrame → Environment → Table → Type 0
AreInvocable CallLinked site env t =
    (x : Name) (b : Identifier) → type_of_name env x ≡ Some (types.Simple (Named b)) → is_block env.text b.name ≡ true
    → InstanceSound CallLinked site t x
