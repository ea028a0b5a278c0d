mod AgainstLemmas
mod AreaLemmas
mod StartLemmas
mod TextLemmas
