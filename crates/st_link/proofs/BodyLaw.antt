-- The law of statements, and that of a unit that has no instances to call.
use Rattle.std.proofs.Common.{◌≡◌, refl, Bool, true, false, if◌then◌else◌, List, [], ◌++◌, Option}
use Rattle.std.proofs.Common.{Some, None}
use Rattle.std.specs.List.{flat_map}
use Rattle.st_types.specs.declared.identifier.Identifier.{Identifier}
use Rattle.st_types.specs.declared.data_type.VariableType.{VariableType}
use Rattle.st_types.specs.Statements.{Argument, invoke}
use Rattle.st_meaning.specs.Failures.{StuckFaults}
use Rattle.st_meaning.specs.Scopes.{Units, Scope}
use Rattle.st_rules.specs.declared.reason.Reason.TheVariants.{NotInstance}
use Rattle.st_rules.specs.declared.rule.Broken.{Broken}
use Rattle.st_rules.specs.Faults.{breaking, unless}
use Rattle.st_rules.specs.Reasons.{type_word}
use Rattle.st_rules.specs.Environments.{Environment, type_of_name, is_instance}
use Rattle.st_rules.specs.Typings.{typing_of_type, is_nothing}
use Rattle.st_rules.specs.CallRules.{wrong_arguments, wrong_copy, wrong_instance}
use Rattle.st_link.specs.Soundness.{Agrees, of_variable, AreKnown}
use Rattle.st_link.specs.StatementSoundness.{CallsAgree, StatementsAreSound, HasNoInstances}
use Rattle.st_link.specs.StatementSoundness.{StatementsWithoutInstancesAreSound}
use Rattle.st_link.proofs.Keeping.{agrees_kept}
use Rattle.st_link.proofs.StatementParts.{statement_right}
use Rattle.st_link.proofs.StatementLaw.{exec_all_alike}

pub statements_are_sound : StatementsAreSound
statements_are_sound env w s u v i j c xs b agrees units known calls h =
    (exec_all_alike env w u v i j (Agrees env w) (λ t a. a) (λ t r a k. agrees_kept a k) units known
    (λ d x arguments t a g. record { ends = λ n. calls d x arguments t n a g }) c xs h s agrees).ends b

-- a variable that isn't an instance may not be called
abbrev instance_faults : Environment → Identifier → List Argument → VariableType → Bool → Bool → List Broken
instance_faults env x arguments t called nothing =
    if called
    then wrong_arguments env (type_word t) x.name [] arguments ++ flat_map (wrong_copy env x.name) arguments
    else breaking (NotInstance (type_word t)) (unless nothing x.place)

not_called : (env : Environment) (x : Identifier) (arguments : List Argument) (t : VariableType) (a b : Bool)
    → a ≡ false → b ≡ false → instance_faults env x arguments t a b ≡ [] → ⊥
not_called env x arguments t true b h k e = cc
not_called env x arguments t false true h k e = cc
not_called env x arguments t false false h k e = cc

no_call : (env : Environment) → AreKnown env → (x : Identifier) (arguments : List Argument) (o : Option VariableType)
    → type_of_name env x.name ≡ o → is_instance env o ≡ false → wrong_instance env x arguments o ≡ [] → ⊥
no_call env known x arguments None is h e = cc
no_call env known x arguments (Some t) is h e =
    not_called env x arguments t (is_instance env (Some t)) (is_nothing (typing_of_type env.text (Some t))) h
    (known.types t (of_variable x.name is)) e

nothing_called : (env : Environment) (w : Scope) (u v : Units) (i j : StuckFaults) → AreKnown env → HasNoInstances env
    → CallsAgree env w u v i j
nothing_called env w u v i j known none c x arguments s b agrees h =
    absurd (no_call env known x arguments (type_of_name env x.name) refl (none x.name)
    (statement_right env c (invoke x arguments) h).invocation)

pub statements_without_instances_are_sound : StatementsWithoutInstancesAreSound
statements_without_instances_are_sound env w s u v i j c xs b agrees units known none h =
    statements_are_sound env w s u v i j c xs b agrees units known (nothing_called env w u v i j known none) h
