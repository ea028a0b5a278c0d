-- What an equal broken rule is.
use Rattle.std.proofs.Common.{◌≡◌, refl, sym, ap, ◌∙◌, ℕ, Bool, true, false, ◌&&◌}
use Rattle.std.specs.Prelude.{◌==◌}
use Rattle.st_types.proofs.TestLemmas.{equal_numbers, and_first, and_second}
use Rattle.st_rules.specs.declared.reason.Bounds.{Bounds}
use Rattle.st_rules.specs.declared.reason.Reason.{Reason}
use Rattle.st_rules.specs.declared.reason.Reason.TheVariants.{Undeclared, NoMember, DeclaredBefore, StandardName, NameOfUnit, Mismatch}
use Rattle.st_rules.specs.declared.reason.Reason.TheVariants.{WrongOperand, WrongOperands, NotArray, Ambiguous, NotType, NoInstanceAllowed}
use Rattle.st_rules.specs.declared.reason.Reason.TheVariants.{HasParts, InstanceWithValue, ListForOther, FieldsForOther, NotInstance, NotControl}
use Rattle.st_rules.specs.declared.reason.Reason.TheVariants.{LabelType, OutOfRange, PriorityTooGreat, InputAssigned, ConstantAssigned, ExternalConstantAssigned}
use Rattle.st_rules.specs.declared.reason.Reason.TheVariants.{ControlAssigned, PartOfInstanceAssigned, ContainsItself, TooDeep, ReversedLabel, Overlap}
use Rattle.st_rules.specs.declared.reason.Reason.TheVariants.{WrongBounds, LongList, ExitOutsideLoop, ArgumentCount, ArgumentGivenBefore, NoSuchArgument}
use Rattle.st_rules.specs.declared.reason.Reason.TheVariants.{OtherSide, RetainedAddress, SurplusName}
use Rattle.st_rules.specs.declared.rule.Broken.{Broken}
use Rattle.st_rules.specs.contracts.reason.ReasonPartialEq.TheImpl as comparison
use Rattle.st_rules.specs.Collecting.{is_overlap}
use Rattle.st_rules.specs.Equality.{same_broken}
use Rattle.st_rules.specs.Faults.{breaks}

abbrev same_reason : Reason → Reason → Bool
same_reason = (comparison.ghosts).eq

parts_same : (b c : Broken) → same_broken b c ≡ (same_reason b.reason c.reason && (b.place == c.place))
parts_same b c = refl

-- a reason that equals this one is this one
contains_itself_too : (r : Reason) → same_reason r ContainsItself ≡ true → r ≡ ContainsItself
contains_itself_too Undeclared h = absurd (cc)
contains_itself_too (NoMember a0) h = absurd (cc)
contains_itself_too (DeclaredBefore a0) h = absurd (cc)
contains_itself_too StandardName h = absurd (cc)
contains_itself_too (NameOfUnit a0) h = absurd (cc)
contains_itself_too (Mismatch a0 a1) h = absurd (cc)
contains_itself_too (WrongOperand a0 a1) h = absurd (cc)
contains_itself_too (WrongOperands a0 a1 a2) h = absurd (cc)
contains_itself_too (NotArray a0) h = absurd (cc)
contains_itself_too Ambiguous h = absurd (cc)
contains_itself_too NotType h = absurd (cc)
contains_itself_too NoInstanceAllowed h = absurd (cc)
contains_itself_too HasParts h = absurd (cc)
contains_itself_too InstanceWithValue h = absurd (cc)
contains_itself_too (ListForOther a0) h = absurd (cc)
contains_itself_too (FieldsForOther a0) h = absurd (cc)
contains_itself_too (NotInstance a0) h = absurd (cc)
contains_itself_too NotControl h = absurd (cc)
contains_itself_too (LabelType a0 a1) h = absurd (cc)
contains_itself_too (OutOfRange a0) h = absurd (cc)
contains_itself_too PriorityTooGreat h = absurd (cc)
contains_itself_too InputAssigned h = absurd (cc)
contains_itself_too ConstantAssigned h = absurd (cc)
contains_itself_too ExternalConstantAssigned h = absurd (cc)
contains_itself_too ControlAssigned h = absurd (cc)
contains_itself_too PartOfInstanceAssigned h = absurd (cc)
contains_itself_too ContainsItself h = refl
contains_itself_too TooDeep h = absurd (cc)
contains_itself_too (ReversedLabel a0) h = absurd (cc)
contains_itself_too (Overlap a0 a1 a2) h = absurd (cc)
contains_itself_too (WrongBounds a0) h = absurd (cc)
contains_itself_too (LongList a0 a1) h = absurd (cc)
contains_itself_too ExitOutsideLoop h = absurd (cc)
contains_itself_too (ArgumentCount a0 a1) h = absurd (cc)
contains_itself_too ArgumentGivenBefore h = absurd (cc)
contains_itself_too (NoSuchArgument a0 a1) h = absurd (cc)
contains_itself_too (OtherSide a0 a1) h = absurd (cc)
contains_itself_too RetainedAddress h = absurd (cc)
contains_itself_too SurplusName h = absurd (cc)

surplus_too : (r : Reason) → same_reason r SurplusName ≡ true → r ≡ SurplusName
surplus_too Undeclared h = absurd (cc)
surplus_too (NoMember a0) h = absurd (cc)
surplus_too (DeclaredBefore a0) h = absurd (cc)
surplus_too StandardName h = absurd (cc)
surplus_too (NameOfUnit a0) h = absurd (cc)
surplus_too (Mismatch a0 a1) h = absurd (cc)
surplus_too (WrongOperand a0 a1) h = absurd (cc)
surplus_too (WrongOperands a0 a1 a2) h = absurd (cc)
surplus_too (NotArray a0) h = absurd (cc)
surplus_too Ambiguous h = absurd (cc)
surplus_too NotType h = absurd (cc)
surplus_too NoInstanceAllowed h = absurd (cc)
surplus_too HasParts h = absurd (cc)
surplus_too InstanceWithValue h = absurd (cc)
surplus_too (ListForOther a0) h = absurd (cc)
surplus_too (FieldsForOther a0) h = absurd (cc)
surplus_too (NotInstance a0) h = absurd (cc)
surplus_too NotControl h = absurd (cc)
surplus_too (LabelType a0 a1) h = absurd (cc)
surplus_too (OutOfRange a0) h = absurd (cc)
surplus_too PriorityTooGreat h = absurd (cc)
surplus_too InputAssigned h = absurd (cc)
surplus_too ConstantAssigned h = absurd (cc)
surplus_too ExternalConstantAssigned h = absurd (cc)
surplus_too ControlAssigned h = absurd (cc)
surplus_too PartOfInstanceAssigned h = absurd (cc)
surplus_too ContainsItself h = absurd (cc)
surplus_too TooDeep h = absurd (cc)
surplus_too (ReversedLabel a0) h = absurd (cc)
surplus_too (Overlap a0 a1 a2) h = absurd (cc)
surplus_too (WrongBounds a0) h = absurd (cc)
surplus_too (LongList a0 a1) h = absurd (cc)
surplus_too ExitOutsideLoop h = absurd (cc)
surplus_too (ArgumentCount a0 a1) h = absurd (cc)
surplus_too ArgumentGivenBefore h = absurd (cc)
surplus_too (NoSuchArgument a0 a1) h = absurd (cc)
surplus_too (OtherSide a0 a1) h = absurd (cc)
surplus_too RetainedAddress h = absurd (cc)
surplus_too SurplusName h = refl

overlap_too : (r : Reason) (own other : Bounds) (place : ℕ) → same_reason r (Overlap own other place) ≡ true → is_overlap r ≡ true
overlap_too Undeclared own other place h = absurd (cc)
overlap_too (NoMember a0) own other place h = absurd (cc)
overlap_too (DeclaredBefore a0) own other place h = absurd (cc)
overlap_too StandardName own other place h = absurd (cc)
overlap_too (NameOfUnit a0) own other place h = absurd (cc)
overlap_too (Mismatch a0 a1) own other place h = absurd (cc)
overlap_too (WrongOperand a0 a1) own other place h = absurd (cc)
overlap_too (WrongOperands a0 a1 a2) own other place h = absurd (cc)
overlap_too (NotArray a0) own other place h = absurd (cc)
overlap_too Ambiguous own other place h = absurd (cc)
overlap_too NotType own other place h = absurd (cc)
overlap_too NoInstanceAllowed own other place h = absurd (cc)
overlap_too HasParts own other place h = absurd (cc)
overlap_too InstanceWithValue own other place h = absurd (cc)
overlap_too (ListForOther a0) own other place h = absurd (cc)
overlap_too (FieldsForOther a0) own other place h = absurd (cc)
overlap_too (NotInstance a0) own other place h = absurd (cc)
overlap_too NotControl own other place h = absurd (cc)
overlap_too (LabelType a0 a1) own other place h = absurd (cc)
overlap_too (OutOfRange a0) own other place h = absurd (cc)
overlap_too PriorityTooGreat own other place h = absurd (cc)
overlap_too InputAssigned own other place h = absurd (cc)
overlap_too ConstantAssigned own other place h = absurd (cc)
overlap_too ExternalConstantAssigned own other place h = absurd (cc)
overlap_too ControlAssigned own other place h = absurd (cc)
overlap_too PartOfInstanceAssigned own other place h = absurd (cc)
overlap_too ContainsItself own other place h = absurd (cc)
overlap_too TooDeep own other place h = absurd (cc)
overlap_too (ReversedLabel a0) own other place h = absurd (cc)
overlap_too (Overlap a0 a1 a2) own other place h = refl
overlap_too (WrongBounds a0) own other place h = absurd (cc)
overlap_too (LongList a0 a1) own other place h = absurd (cc)
overlap_too ExitOutsideLoop own other place h = absurd (cc)
overlap_too (ArgumentCount a0 a1) own other place h = absurd (cc)
overlap_too ArgumentGivenBefore own other place h = absurd (cc)
overlap_too (NoSuchArgument a0 a1) own other place h = absurd (cc)
overlap_too (OtherSide a0 a1) own other place h = absurd (cc)
overlap_too RetainedAddress own other place h = absurd (cc)
overlap_too SurplusName own other place h = absurd (cc)

same_place : (b c : Broken) → same_broken b c ≡ true → b.place ≡ c.place
same_place b c h = equal_numbers b.place c.place (and_second (same_reason b.reason c.reason) (b.place == c.place) h)

same_reasons : (b c : Broken) → same_broken b c ≡ true → same_reason b.reason c.reason ≡ true
same_reasons b c h = and_first (same_reason b.reason c.reason) (b.place == c.place) h

pub equal_cycle : (c : Broken) (p : ℕ) → same_broken c (breaks ContainsItself p) ≡ true → c.reason ≡ ContainsItself
equal_cycle c p h = contains_itself_too c.reason (same_reasons c (breaks ContainsItself p) h)

pub equal_surplus : (c : Broken) (p : ℕ) → same_broken c (breaks SurplusName p) ≡ true → c ≡ breaks SurplusName p
equal_surplus c p h =
    let reason = surplus_too c.reason (same_reasons c (breaks SurplusName p) h) in
    let place = same_place c (breaks SurplusName p) h in
    ap (λ r. breaks r c.place) reason ∙ ap (breaks SurplusName) place

pub equal_overlap : (c : Broken) (own other : Bounds) (place at : ℕ)
    → same_broken c (breaks (Overlap own other place) at) ≡ true → (is_overlap c.reason ≡ true) × (c.place ≡ at)
equal_overlap c own other place at h = (
  overlap_too c.reason own other place (same_reasons c (breaks (Overlap own other place) at) h),
  same_place c (breaks (Overlap own other place) at) h,
)
