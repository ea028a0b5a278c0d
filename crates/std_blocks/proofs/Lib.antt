pub mod NumberLemmas
pub mod Remainders
pub mod ShiftLemmas
pub mod BlockLemmas
pub mod MemberLemmas
