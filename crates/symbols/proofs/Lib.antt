pub mod Entries
pub mod RepeatLemmas
pub mod TextLemmas
pub mod FieldLemmas
pub mod AgreeLemmas
pub mod EnumerationLemmas
pub mod WordLemmas
pub mod ConversionLemmas
