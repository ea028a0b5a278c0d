-- Parts of a text in which nothing is wrong: bodies in which nothing is wrong, and types that are known.
use Rattle.std.proofs.Common.{◌≡◌, refl, Bool, true, false, if◌then◌else◌, List, [], ◌++◌, Option}
use Rattle.std.proofs.Common.{Some, None}
use Rattle.std.specs.List.{flat_map}
use Rattle.st_types.specs.declared.identifier.Identifier.{Identifier}
use Rattle.st_types.specs.declared.data_type.SimpleType.{SimpleType}
use Rattle.st_types.specs.declared.data_type.SimpleType.TheVariants.{Elementary, Named}
use Rattle.st_types.specs.declared.data_type.VariableType.{VariableType}
use Rattle.st_types.specs.declared.data_type.VariableType.TheVariants as types
use Rattle.st_types.specs.declared.unit.UnitSort.TheVariants.{Function as function}
use Rattle.st_types.specs.Statements.{Argument}
use Rattle.st_types.specs.Units.{OrganisationUnit}
use Rattle.st_meaning.specs.StandardBlocks.{inputs_of, outputs_of}
use Rattle.st_meaning.specs.Scopes.{Name}
use Rattle.st_meaning.specs.NameTypes.{Declared, unit_named, block_variable, is_input, is_output}
use Rattle.st_rules.specs.declared.reason.TypeWord.{TypeWord}
use Rattle.st_rules.specs.declared.reason.Reason.TheVariants.{NotInstance}
use Rattle.st_rules.specs.declared.rule.Broken.{Broken}
use Rattle.st_rules.specs.Faults.{breaking, unless}
use Rattle.st_rules.specs.Reasons.{type_word}
use Rattle.st_rules.specs.Environments.{Environment, type_of_name, is_block}
use Rattle.st_rules.specs.Typings.{typing_of_type, is_nothing}
use Rattle.st_rules.specs.CallRules.{wrong_arguments, wrong_copy, wrong_instance}
use Rattle.st_rules.specs.BodyRules.{wrong_body}
use Rattle.st_rules.specs.Rules.{environment}
use Rattle.st_link.specs.Soundness.{IsKnown, of_variable, AreKnown}
use Rattle.st_link.specs.StatementSoundness.{HasNoInstances}
use Rattle.st_types.proofs.ListLemmas.{append_first, append_second}

pub record RightText (text : Declared) : Type 0 where
  pub bodies : (x : Name) (u : OrganisationUnit) → unit_named text.units x ≡ Some u
      → wrong_body (environment text u) ≡ []
  pub known : (x : Name) (u : OrganisationUnit) → unit_named text.units x ≡ Some u → AreKnown (environment text u)
  pub inputs : (b : Identifier) (y : Name) (t : VariableType)
      → block_variable text inputs_of is_input (types.Simple (Named b)) y ≡ Some t → IsKnown text t
  pub outputs : (b : Identifier) (y : Name) (t : VariableType)
      → block_variable text outputs_of is_output (types.Simple (Named b)) y ≡ Some t → IsKnown text t
  pub functions : (f : Name) (u : OrganisationUnit) (t : SimpleType) → unit_named text.units f ≡ Some u
      → u.sort ≡ function t → HasNoInstances (environment text u)

-- a call of an instance in which nothing is wrong
pub record IsInvoked (env : Environment) (x : Identifier) (arguments : List Argument) : Type 0 where
  pub block : Identifier
  pub named : type_of_name env x.name ≡ Some (types.Simple (Named block))
  pub is : is_block env.text block.name ≡ true
  pub fit : wrong_arguments env (type_word (types.Simple (Named block))) x.name [] arguments ≡ []
  pub copies : flat_map (wrong_copy env x.name) arguments ≡ []

abbrev faults_of_call : Environment → TypeWord → Identifier → List Argument → Bool → Bool → List Broken
faults_of_call env block x arguments is none =
    if is
    then wrong_arguments env block x.name [] arguments ++ flat_map (wrong_copy env x.name) arguments
    else breaking (NotInstance block) (unless none x.place)

block_invoked : (env : Environment) (x : Identifier) (arguments : List Argument) (b : Identifier) (is none : Bool)
    → type_of_name env x.name ≡ Some (types.Simple (Named b)) → is_block env.text b.name ≡ is → none ≡ false
    → faults_of_call env (type_word (types.Simple (Named b))) x arguments is none ≡ [] → IsInvoked env x arguments
block_invoked env x arguments b true none named is not h =
    let fit = wrong_arguments env (type_word (types.Simple (Named b))) x.name [] arguments in
    let copies = flat_map (wrong_copy env x.name) arguments in
    record {
      block = b;
      named = named;
      is = is;
      fit = append_first fit copies h;
      copies = append_second fit copies h;
    }
block_invoked env x arguments b false true named is not h = absurd (cc)
block_invoked env x arguments b false false named is not h = absurd (cc)

pub invoked : (env : Environment) → AreKnown env → (x : Identifier) (arguments : List Argument)
    (o : Option VariableType) → type_of_name env x.name ≡ o → wrong_instance env x arguments o ≡ []
    → IsInvoked env x arguments
invoked env known x arguments None is h = absurd (cc)
invoked env known x arguments (Some (types.Array a)) is h = absurd (cc)
invoked env known x arguments (Some (types.Simple (Elementary k at))) is h = absurd (cc)
invoked env known x arguments (Some (types.Simple (Named b))) is h =
    block_invoked env x arguments b (is_block env.text b.name)
    (is_nothing (typing_of_type env.text (Some (types.Simple (Named b))))) is refl
    (known.types (types.Simple (Named b)) (of_variable x.name is)) h
