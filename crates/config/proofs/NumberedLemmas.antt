-- Slots by the numbers of their variables and inputs.
use Rattle.std.proofs.Common.{◌≡◌, ◌+◌, ℕ, suc, refl, ap, ap₂, ◌∙◌, subst, arith, Bool, true, false, ◌&&◌}
use Rattle.std.proofs.Common.{if◌then◌else◌, List, [], ◌∷◌, map, length}
use Rattle.std.specs.Prelude.{◌==◌}
use Rattle.std.proofs.lemmas.Bool.Decides.{nat_tests}
use Rattle.st_meaning.specs.Layouts.{variable_slot, input_slot}
use Rattle.layout.specs.Indexed.{facts_of}
use Rattle.layout.specs.declared.slots.LayoutSlot.{LayoutSlot}
use Rattle.layout.specs.declared.slots.SlotFacts.{SlotFacts}
use Rattle.layout.specs.KeptLayouts.{slot_view, variable_of, input_of, variables_among, inputs_among}
use Rattle.plan.specs.declared.slots.SlotPlace.{SlotPlace}
use Rattle.plan.specs.declared.slots.SlotPlace.TheVariants.{Input, Variable}
use Rattle.plan.specs.SlotPlaces.{are_numbered, slots_among}
use Rattle.plan.specs.NumberedSlots.{numbered_from}
use Rattle.std.proofs.lemmas.Bool.{and_from}
use Rattle.st_types.proofs.TestLemmas.{same_number}

numbered_then : (s : LayoutSlot) (ss : List LayoutSlot) (v i : ℕ) (b : Bool) → s.is_input ≡ b
    → are_numbered (suc v) i (numbered_from (suc v) i ss) (suc v + length (variables_among ss))
    (i + length (inputs_among ss)) ≡ true
    → are_numbered v (suc i) (numbered_from v (suc i) ss) (v + length (variables_among ss))
    (suc i + length (inputs_among ss)) ≡ true
    → are_numbered v i (numbered_from v i (s ∷ ss)) (v + length (variables_among (s ∷ ss)))
    (i + length (inputs_among (s ∷ ss))) ≡ true
numbered_then s ss v i true e one other =
    let n : i + suc (length (inputs_among ss)) ≡ suc i + length (inputs_among ss) = omega arith in
    rw e (and_from (i == i) (are_numbered v (suc i) (numbered_from v (suc i) ss) (v + length (variables_among ss))
    (i + suc (length (inputs_among ss)))) (same_number i)
    (ap (λ m. are_numbered v (suc i) (numbered_from v (suc i) ss) (v + length (variables_among ss)) m) n ∙ other))
numbered_then s ss v i false e one other =
    let n : v + suc (length (variables_among ss)) ≡ suc v + length (variables_among ss) = omega arith in
    rw e (and_from (v == v) (are_numbered (suc v) i (numbered_from (suc v) i ss)
    (v + suc (length (variables_among ss))) (i + length (inputs_among ss))) (same_number v)
    (ap (λ m. are_numbered (suc v) i (numbered_from (suc v) i ss) m (i + length (inputs_among ss))) n ∙ one))

numbered_on : (ss : List LayoutSlot) (v i : ℕ)
    → are_numbered v i (numbered_from v i ss) (v + length (variables_among ss)) (i + length (inputs_among ss)) ≡ true
numbered_on [] v i =
    let a : v + 0 ≡ v = omega arith in
    let b : i + 0 ≡ i = omega arith in
    ap (λ m. v == m && i == i + 0) a ∙ ap (λ m. v == v && i == m) b
    ∙ and_from (v == v) (i == i) (same_number v) (same_number i)
numbered_on (s ∷ ss) v i =
    numbered_then s ss v i s.is_input refl (numbered_on ss (suc v) i) (numbered_on ss v (suc i))

-- the slots of a layout are numbered in their order
pub numbered : (ss : List LayoutSlot)
    → are_numbered 0 0 (numbered_from 0 0 ss) (length (variables_among ss)) (length (inputs_among ss)) ≡ true
numbered ss =
    let a : 0 + length (variables_among ss) ≡ length (variables_among ss) = omega arith in
    let b : 0 + length (inputs_among ss) ≡ length (inputs_among ss) = omega arith in
    subst (λ m. are_numbered 0 0 (numbered_from 0 0 ss) m (length (inputs_among ss)) ≡ true) a
    (subst (λ m. are_numbered 0 0 (numbered_from 0 0 ss) (0 + length (variables_among ss)) m ≡ true) b
    (numbered_on ss 0 0))

slots_then : (s : LayoutSlot) (ss : List LayoutSlot) (v i : ℕ) (b : Bool) → s.is_input ≡ b
    → slots_among (numbered_from (suc v) i ss) (variables_among ss) (inputs_among ss) ≡ map slot_view ss
    → slots_among (numbered_from v (suc i) ss) (variables_among ss) (inputs_among ss) ≡ map slot_view ss
    → slots_among (numbered_from v i (s ∷ ss)) (variables_among (s ∷ ss)) (inputs_among (s ∷ ss))
    ≡ map slot_view (s ∷ ss)
slots_then s ss v i true e one other = rw e (ap (λ ls. input_slot (input_of s) ∷ ls) other)
slots_then s ss v i false e one other = rw e (ap (λ ls. variable_slot (variable_of s) ∷ ls) one)

-- and they are the slots of the variables and the inputs
pub slots_are : (ss : List LayoutSlot) (v i : ℕ)
    → slots_among (numbered_from v i ss) (variables_among ss) (inputs_among ss) ≡ map slot_view ss
slots_are [] v i = refl
slots_are (s ∷ ss) v i = slots_then s ss v i s.is_input refl (slots_are ss (suc v) i) (slots_are ss v (suc i))

-- the variables and inputs in slots, from the facts of these
abbrev pub numbered_facts : ℕ → ℕ → List SlotFacts → List SlotPlace
numbered_facts v i [] = []
numbered_facts v i (f ∷ fs) =
    if f.is_input then Input i ∷ numbered_facts v (suc i) fs else Variable v ∷ numbered_facts (suc v) i fs

pub facts_numbered : (ss : List LayoutSlot) (v i : ℕ) → numbered_facts v i (map facts_of ss) ≡ numbered_from v i ss
facts_numbered [] v i = refl
facts_numbered (s ∷ ss) v i =
    ap₂ (λ xs ys. if s.is_input then Input i ∷ xs else Variable v ∷ ys) (facts_numbered ss v (suc i))
    (facts_numbered ss (suc v) i)
