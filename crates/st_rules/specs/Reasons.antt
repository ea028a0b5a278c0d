-- The rules that reasons are of, and types as reasons have them.
use Rattle.st_types.specs.declared.data_type.SimpleType.TheVariants.{Elementary, Named}
use Rattle.st_types.specs.declared.data_type.VariableType.{VariableType}
use Rattle.st_types.specs.declared.data_type.VariableType.TheVariants as types
use Rattle.st_rules.specs.declared.rule.Rule.{Rule}
use Rattle.st_rules.specs.declared.rule.Rule.TheVariants as rules
use Rattle.st_rules.specs.declared.reason.TypeWord.{TypeWord}
use Rattle.st_rules.specs.declared.reason.TypeWord.TheVariants as words
use Rattle.st_rules.specs.declared.reason.Reason.{Reason}
use Rattle.st_rules.specs.declared.reason.Reason.TheVariants as reasons

-- a type as a declaration writes it
abbrev pub type_word : VariableType → TypeWord
type_word (types.Simple (Elementary k at)) = words.Elementary k
type_word (types.Simple (Named x)) = words.Named x.place
type_word (types.Array a) = words.Array

abbrev pub rule_of : Reason → Rule
rule_of reasons.Undeclared = rules.UnknownName
rule_of (reasons.NoMember a) = rules.UnknownName
rule_of (reasons.DeclaredBefore a) = rules.DeclaredTwice
rule_of reasons.StandardName = rules.DeclaredTwice
rule_of (reasons.NameOfUnit a) = rules.DeclaredTwice
rule_of (reasons.Mismatch a b) = rules.WrongType
rule_of (reasons.WrongOperand a b) = rules.WrongType
rule_of (reasons.WrongOperands a b c) = rules.WrongType
rule_of (reasons.NotArray a) = rules.WrongType
rule_of reasons.Ambiguous = rules.WrongType
rule_of reasons.NotType = rules.WrongType
rule_of reasons.NoInstanceAllowed = rules.WrongType
rule_of reasons.HasParts = rules.WrongType
rule_of reasons.InstanceWithValue = rules.WrongType
rule_of (reasons.ListForOther a) = rules.WrongType
rule_of (reasons.FieldsForOther a) = rules.WrongType
rule_of (reasons.NotInstance a) = rules.WrongType
rule_of reasons.NotControl = rules.WrongType
rule_of (reasons.LabelType a b) = rules.WrongType
rule_of (reasons.OutOfRange a) = rules.OutOfRange
rule_of reasons.PriorityTooGreat = rules.OutOfRange
rule_of reasons.InputAssigned = rules.NotAssignable
rule_of reasons.ConstantAssigned = rules.NotAssignable
rule_of reasons.ExternalConstantAssigned = rules.NotAssignable
rule_of reasons.ControlAssigned = rules.NotAssignable
rule_of reasons.PartOfInstanceAssigned = rules.NotAssignable
rule_of reasons.ContainsItself = rules.TooDeep
rule_of reasons.TooDeep = rules.TooDeep
rule_of (reasons.ReversedLabel a) = rules.WrongLabel
rule_of (reasons.Overlap a b c) = rules.WrongLabel
rule_of (reasons.WrongBounds a) = rules.WrongBounds
rule_of (reasons.LongList a b) = rules.WrongBounds
rule_of reasons.ExitOutsideLoop = rules.ExitOutsideLoop
rule_of (reasons.ArgumentCount a b) = rules.WrongArguments
rule_of reasons.ArgumentGivenBefore = rules.WrongArguments
rule_of (reasons.NoSuchArgument a b) = rules.WrongArguments
rule_of (reasons.OtherSide a b) = rules.WrongArguments
rule_of reasons.RetainedAddress = rules.RetainedAddress
rule_of reasons.SurplusName = rules.TooManyNames
