-- Code of the arms of a CASE.
use Rattle.std.proofs.Common.{◌≡◌, ◌∙◌, ℕ, ℤ, zero, suc, pos, negsuc, List, [], ◌∷◌, length, get_or, map, ap, sym, refl}
use Rattle.std.proofs.Common.{subst, arith, true, false, inl, inr, ◌+◌, ◌<◌, ◌≤◌, ◌+ℤ◌}
use Rattle.std.specs.Prelude.{Bool, Some, slice_get, if◌then◌else◌, ◌⊎◌}
use Rattle.std.specs.List.{list_any}
use Rattle.std.proofs.lemmas.Bool.{cases_lt}
use Rattle.std.proofs.lemmas.Grind.{common_steps}
use Rattle.st_meaning.specs.Execution.{label_holds}
use Rattle.slot_trees.specs.declared.statement.SlotCaseArm as code_case_arm
use Rattle.slot_trees.specs.Chains.{CaseArm, case_arms_of}
use Rattle.slot_trees.specs.StatementViews.{slot_case_arm_view, slot_stmts_view}
use Rattle.quick_code.specs.declared.quick_code.Way.{Way}
use Rattle.quick_code.specs.Words.{case_of}
use Rattle.quick_trees.specs.Pieces.{InSequence}
use Rattle.quick_trees.specs.Points.{Joins, CodeRelation, Point, along}
use Rattle.quick_trees.specs.QuickMemory.{Frame}
use Rattle.quick_trees.specs.UnitValues.{UnitValues}
use Rattle.quick_trees.specs.TreeCode.{IsChosenCode, Exits, QuickUnits, AreStmtsCode, part_by}
use Rattle.quick_checks.specs.Choices.{body_at, chosen}

pub body_is : (arms : List code_case_arm.SlotCaseArm) (k : ℕ) (a : code_case_arm.SlotCaseArm) → k < length arms
    → a ≡ get_or arms k a → slot_stmts_view a.body.items ≡ body_at k (map slot_case_arm_view arms)
body_is [] k a lt is = absurd (omega arith)
body_is (x ∷ xs) zero a lt is = ap (λ (y : code_case_arm.SlotCaseArm). slot_stmts_view y.body.items) is
body_is (x ∷ xs) (suc k) a lt is = body_is xs k a (omega arith) is

first_part : (b : Bool) (m : ℕ) (X Y : CodeRelation) (p q : Point) → (if b then 0 else suc m) ≡ 0 → X p q
    → part_by b X Y p q
first_part true m X Y p q e h = h
first_part false m X Y p q e h = absurd (omega arith)

later_part : (b : Bool) (m k : ℕ) (X Y : CodeRelation) (p q : Point) → (if b then 0 else suc m) ≡ suc k
    → (m ≡ k → Y p q) → part_by b X Y p q
later_part true m k X Y p q e h = absurd (omega arith)
later_part false m k X Y p q e h = h (omega arith)

pub chosen_most : (n : ℤ) (arms : List CaseArm) → chosen n arms ≤ length arms
chosen_most n [] = omega arith
chosen_most n (a ∷ arms) =
    let h = chosen_most n arms in
    elim (list_any (label_holds n) a.0) as (λ b. (if b then 0 else suc (chosen n arms)) ≤ suc (length arms))
    [ true ↦ omega arith | false ↦ omega arith ]

-- a number is of none of the ways, or of one of them
pub case_or_none : (count : ℕ) (z : ℤ) → (case_of count z ≡ count)
    ⊎ ((j : ℕ) × (j < count) × (z ≡ pos j) × (case_of count z ≡ j))
case_or_none count (negsuc m) = inl refl
case_or_none count (pos m) = elim (cases_lt m count) [
  | inl lt ↦ inr (m, lt, refl, grind (arith, common_steps))
  | inr ge ↦ inl (grind (arith, common_steps))
]

long_views : (arms : List code_case_arm.SlotCaseArm) → length (map slot_case_arm_view arms) ≡ length arms
long_views [] = refl
long_views (a ∷ arms) = ap suc (long_views arms)

module _ (f : Frame) (s : UnitValues) (units : QuickUnits) where
  pub chosen_stands : (n : ℤ) (arms : List CaseArm) (k : ℕ) (otherwise : CodeRelation) (d : ℕ) (e : Exits) (p q : Point)
      → k < length arms → chosen n arms ≡ k → InSequence (AreStmtsCode f s units (body_at k arms) d e) (Joins f) p q
      → IsChosenCode f s units n (case_arms_of arms) otherwise d e p q
  chosen_stands n [] k otherwise d e p q lt is h = absurd (omega arith)
  chosen_stands n (a ∷ arms) zero otherwise d e p q lt is h =
      first_part (list_any (label_holds n) a.0) (chosen n arms) _ _ p q is h
  chosen_stands n (a ∷ arms) (suc k) otherwise d e p q lt is h =
      later_part (list_any (label_holds n) a.0) (chosen n arms) k _ _ p q is
      (λ same. chosen_stands n arms k otherwise d e p q (omega arith) same h)

  pub none_stands : (n : ℤ) (arms : List CaseArm) (otherwise : CodeRelation) (d : ℕ) (e : Exits) (p q : Point)
      → chosen n arms ≡ length arms → InSequence otherwise (Joins f) p q
      → IsChosenCode f s units n (case_arms_of arms) otherwise d e p q
  none_stands n [] otherwise d e p q is h = h
  none_stands n (a ∷ arms) otherwise d e p q is h =
      later_part (list_any (label_holds n) a.0) (chosen n arms) (length arms) _ _ p q is
      (λ same. none_stands n arms otherwise d e p q same h)

  pub case_stands : (n : ℤ) (arms : List code_case_arm.SlotCaseArm) (otherwise : CodeRelation) (d : ℕ) (e : Exits)
      (start behind : Point) (shift : ℤ) (first count : ℕ) (choices : List ℕ) (way : Way)
      → ((m : ℤ) → case_of count (m +ℤ shift) ≡ count → chosen m (map slot_case_arm_view arms) ≡ length arms)
      → ((m : ℤ) (j : ℕ) → j < count → m +ℤ shift ≡ pos j
      → slice_get choices j ≡ Some (chosen m (map slot_case_arm_view arms)))
      → ((k : ℕ) → k < length arms → (j : ℕ) (w : Way) → slice_get choices j ≡ Some k
      → slice_get f.ways (first + j) ≡ Some w
      → InSequence (AreStmtsCode f s units (body_at k (map slot_case_arm_view arms)) d e) (Joins f) (along start w) behind)
      → slice_get f.ways (first + count) ≡ Some way
      → ((j : ℕ) (v : Way) → slice_get choices j ≡ Some (length arms) → slice_get f.ways (first + j) ≡ Some v
      → v ≡ way)
      → InSequence otherwise (Joins f) (along start way) behind
      → (w : Way) → slice_get f.ways (first + case_of count (n +ℤ shift)) ≡ Some w
      → IsChosenCode f s units n (case_arms_of (map slot_case_arm_view arms)) otherwise d e (along start w) behind
  case_stands n arms otherwise d e start behind shift first count choices way inside are each last rest other w look =
      let views = map slot_case_arm_view arms in
      let long : length views ≡ length arms = long_views arms in
      let none : chosen n views ≡ length arms → w ≡ way
      → IsChosenCode f s units n (case_arms_of views) otherwise d e (along start w) behind =
      λ is same. none_stands n views otherwise d e (along start w) behind (is ∙ sym long)
      (subst (λ v. InSequence otherwise (Joins f) (along start v) behind) (sym same) other) in
      elim (case_or_none count (n +ℤ shift)) [
        | inl out ↦ (
            let at : slice_get f.ways (first + count) ≡ Some w =
            subst (λ i. slice_get f.ways (first + i) ≡ Some w) out look in
            let same : w ≡ way = cc (at, last) in none (inside n out) same)
        | inr (j, lt, z, i) ↦ (
            let at : slice_get f.ways (first + j) ≡ Some w =
            subst (λ i. slice_get f.ways (first + i) ≡ Some w) i look in
            let choice = are n j lt z in
            elim (cases_lt (chosen n views) (length arms)) [
              | inl fewer ↦ chosen_stands n views (chosen n views) otherwise d e (along start w) behind
                  (omega (arith, long, fewer)) refl (each (chosen n views) fewer j w choice at)
              | inr more ↦ (
                  let all : chosen n views ≡ length arms = omega (arith, chosen_most n views, long, more) in
                  none all (rest j w (choice ∙ ap Some all) at))
            ])
      ]
