-- The faults in the fields of an initial value, by its type.
use Rattle.std.proofs.Common.{◌≡◌, refl, ℕ, true, false}
use Rattle.st_types.specs.declared.data_type.VariableType.{VariableType}
use Rattle.st_types.specs.Initials.{Members}
use Rattle.st_meaning.specs.NameTypes.{Declared, definition_of}
use Rattle.st_rules.specs.declared.reason.Reason.TheVariants.{FieldsForOther}
use Rattle.st_rules.specs.Faults.{breaking, unless}
use Rattle.st_rules.specs.InitialRules.{is_structure, is_unknown, wrong_fields, wrong_structure}
use Rattle.st_rules.specs.Reasons.{type_word}
use Rattle.std.proofs.Common.{Some}

pub structure_fields : (text : Declared) (t : VariableType) (at : ℕ) (xs : Members)
    → is_structure (definition_of text t) ≡ true → wrong_fields text t xs ≡ wrong_structure text (Some t) at xs
structure_fields text t at xs own = rw own refl

pub other_fields : (text : Declared) (t : VariableType) (at : ℕ) (xs : Members)
    → is_structure (definition_of text t) ≡ false
    → breaking (FieldsForOther (type_word t)) (unless (is_unknown text (Some t)) at)
    ≡ wrong_structure text (Some t) at xs
other_fields text t at xs other = rw other refl
