-- What a search for broken rules adds to those that were found before.
use Rattle.std.specs.Prelude.{◌≡◌, ◌⊎◌, ℕ, nat_le, length, take, List, Bool, true, false}
use Rattle.std.specs.List.{Contains}
use Rattle.st_rules.specs.declared.rule.Broken.{Broken}
use Rattle.st_rules.specs.declared.reason.Reason.{Reason}
use Rattle.st_rules.specs.declared.reason.Reason.TheVariants.{ContainsItself, TooDeep, Overlap}
use Rattle.st_rules.specs.declared.broken_rules.BrokenRules.{BrokenRules}
use Rattle.st_rules.specs.Equality.{same_broken}

-- there is no room for another one
abbrev pub is_full : BrokenRules → Bool
is_full it = nat_le it.room (length it.found.items)

-- those that were found before stay, and there is room for as many
pub record Keeps (old new : BrokenRules) : Type 0 where
  pub same_room : new.room ≡ old.room
  pub found_before : take (length old.found.items) new.found.items ≡ old.found.items

-- only broken rules of this list are added, behind those that were found before
pub record Adds (faults : List Broken) (old new : BrokenRules) : Type 0 where
  pub keeps : Keeps old new
  pub true_ones : (b : Broken) → Contains new.found.items b → Contains old.found.items b ⊎ Contains faults b

abbrev pub is_of_depth : Reason → Bool
is_of_depth ContainsItself = true
is_of_depth TooDeep = true
is_of_depth _ = false

abbrev pub is_overlap : Reason → Bool
is_overlap (Overlap own other place) = true
is_overlap _ = false

-- The second stands for the first, which a search may leave out: an equal one is found once, if a type or unit contains
-- itself no other depth is judged, and of the labels that a label overlaps one is found.
pub data StandsFor (b c : Broken) : Type 0 where
  an_equal_one : same_broken c b ≡ true → StandsFor b c
  one_that_contains_itself : is_of_depth b.reason ≡ true → c.reason ≡ ContainsItself → StandsFor b c
  of_the_same_label : is_overlap b.reason ≡ true → is_overlap c.reason ≡ true → c.place ≡ b.place → StandsFor b c

pub record IsSampled (found : List Broken) (b : Broken) : Type 0 where
  pub other : Broken
  pub is_found : Contains found other
  pub stands : StandsFor b other

-- all of this list were found, or others that stand for them, unless there was no room for one
abbrev pub Covers : List Broken → BrokenRules → Type 0
Covers faults it = is_full it ≡ false → (b : Broken) → Contains faults b
    → Contains it.found.items b ⊎ IsSampled it.found.items b

-- a search for all of this list
pub record Collects (faults : List Broken) (old new : BrokenRules) : Type 0 where
  pub adds : Adds faults old new
  pub covers : Covers faults new
