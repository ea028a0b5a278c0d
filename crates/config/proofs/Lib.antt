mod SearchLemmas
mod GlobalLemmas
mod AddressLemmas
mod TypeLemmas
mod ScopeLemmas
pub mod Options
pub mod Selected
pub mod LinkedBodies
pub mod LinkedStatements
pub mod Names
mod LiteralLemmas
mod Expressions
mod Statements
mod Calls
mod Kept
pub mod Shallow
mod Signatures
mod InstanceLemmas
mod FittingUnits
mod BoundedShapes
mod Whole
mod Taking
mod CodeReads
mod Counters
mod KeptAway
mod UnitCodes
mod OwnNames
pub mod TextCodes
pub mod CodeLemmas
mod CountLemmas
pub mod RoomLemmas
mod CallSums
mod CallLengths
mod LinkedCalls
mod TakenCalls
mod InstanceNames
mod NumberedUnits
mod ReachedCalls
mod ProgramRoots
mod ValueSums
pub mod ManyValues
mod QuickAnswers
mod SpelledGrammar
mod SpelledArrays
pub mod OnePath
pub mod PlainTokens
pub mod PlainRest
pub mod PlainGrammar
pub mod PlainShapes
pub mod PlainPaths
pub mod ApartTexts
pub mod EnumerationNames
pub mod ResolvedNames
pub mod Lines
pub mod TextLines
mod ListLemmas
mod LayoutLemmas
mod NumberedLemmas
mod EnumerationLemmas
mod RecordLemmas
mod TaskLemmas
mod ProgramLemmas
mod PlaceLemmas
mod TriggerLemmas
mod SingleLemmas
mod ConfiguredLemmas
mod PlanLemmas
mod ReadinessLemmas
mod GivenLemmas
mod TextFaults
pub mod OwnerLemmas
pub mod ApartNames
