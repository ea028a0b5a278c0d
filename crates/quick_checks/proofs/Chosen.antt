-- The code of an IF that assigns one of two values.
use Rattle.std.proofs.Common.{◌≡◌, ◌∙◌, ℕ, suc, Some, refl, sym, ap, subst, inl, inr}
use Rattle.std.specs.Prelude.{slice_get}
use Rattle.st_types.specs.declared.kind.Kind.{Kind}
use Rattle.quick_code.specs.declared.quick_instr.QuickInstr.TheVariants.{Select}
use Rattle.slot_trees.specs.SlotTrees.{Anchor, SlotArms, SlotExpr, SlotStmts, arm_then, assign, IF, no_arms, no_stmts}
use Rattle.slot_trees.specs.SlotTrees.{no_subscripts, place, stmt_then}
use Rattle.slot_trees.specs.SlotEvaluation.{slot_at}
use Rattle.quick_trees.specs.Notes.{Implies, at_assignment}
use Rattle.quick_trees.specs.Points.{Point, next}
use Rattle.quick_trees.specs.QuickMemory.{Frame}
use Rattle.quick_trees.specs.UnitValues.{HasOwnWord, UnitValues, Touches, base_of, kinds_of}
use Rattle.quick_trees.specs.TreeCode.{AreArmsCode, Exits, IsAsked, IsChosen, IsRead, QuickUnits, IsStmtCode, AreStmtsCode}
use Rattle.quick_trees.specs.Straight.{IsStraight}

module _ (f : Frame) (s : UnitValues) (units : QuickUnits) where
  abbrev becomes : Anchor → SlotExpr → SlotStmts
  becomes a e = stmt_then (assign (place a no_subscripts) e) no_stmts

  -- The result of a check: where it read the first value, the marks that it put there and after it, and where it read the
  -- second one.
  pub choice_stands : (condition chosen other_value : SlotExpr) (variable : Anchor) (kind one other : Kind)
      (d below deep k word first second behind : ℕ) (p asked inner marked middle met from last stepped q : Point)
      → slice_get (kinds_of f s) (slot_at (base_of s) variable) ≡ Some kind
      → HasOwnWord f.window s (slot_at (base_of s) variable) word → IsAsked f s units condition d k p asked
      → asked.ahead ≡ suc behind → inner ≡ record asked { ahead = behind } → below ≡ suc d → deep ≡ suc below
      → marked ≡ inner → met ≡ middle → from ≡ record marked { place = met.place } → one ≡ kind
      → IsRead f s units chosen one below first inner middle → IsStraight f below inner.place met.place → other ≡ kind
      → IsRead f s units other_value other deep second from last → IsStraight f deep met.place last.place
      → met.ahead ≡ last.ahead → Implies met.noted last.noted
      → slice_get f.code last.place ≡ Some (Select k first second word) → stepped ≡ next last
      → q ≡ record stepped { noted = q.noted } → Touches at_assignment s word stepped.noted q.noted
      → IsChosen f s units (arm_then condition (becomes variable chosen) no_arms) (becomes variable other_value) d p q
  choice_stands condition chosen other_value variable kind one other d below deep k word first second behind p asked
      inner marked middle met from last stepped q target own asks tick inner_is below_is deep_is marked_is met_is from_is
      one_is reads_one straight_one other_is reads_other straight_other many much stands stepped_is q_is touches =
      let met_place = ap (λ (p : Point). p.place) met_is in
      let inner_place = ap (λ (p : Point). p.place) inner_is in
      let deepest = deep_is ∙ ap suc below_is in
      let there = from_is ∙ ap (λ (m : Point). record m { place = met.place }) (marked_is ∙ inner_is)
      ∙ ap (λ k. record { place = k; ahead = behind; noted = asked.noted }) met_place in
      record {
        condition = condition;
        variable = variable;
        yes = chosen;
        no = other_value;
        if_it_holds = refl;
        otherwise_so = refl;
        kind = kind;
        target = target;
        word = word;
        own = own;
        tested = k;
        asked = asked;
        asks = asks;
        behind = behind;
        tick = tick;
        first = first;
        middle = middle;
        reads_first = subst (λ p. IsRead f s units chosen kind (suc d) first p middle) inner_is
            (subst (λ t. IsRead f s units chosen t (suc d) first inner middle) one_is
            (subst (λ d. IsRead f s units chosen one d first inner middle) below_is reads_one));
        straight_first = subst (IsStraight f (suc d) asked.place) met_place
            (subst (λ p. IsStraight f (suc d) p met.place) inner_place
            (subst (λ d. IsStraight f d inner.place met.place) below_is straight_one));
        second = second;
        last = last;
        reads_second = subst (λ p. IsRead f s units other_value kind (suc (suc d)) second p last) there
            (subst (λ t. IsRead f s units other_value t (suc (suc d)) second from last) other_is
            (subst (λ d. IsRead f s units other_value other d second from last) deepest reads_other));
        straight_second = subst (λ p. IsStraight f (suc (suc d)) p last.place) met_place
            (subst (λ d. IsStraight f d met.place last.place) deepest straight_other);
        as_many = sym (ap (λ (p : Point). p.ahead) met_is) ∙ many;
        as_much = subst (λ ns. Implies ns last.noted) (ap (λ (p : Point). p.noted) met_is) much;
        stands = stands;
        is = q_is ∙ ap (λ (x : Point). record x { noted = q.noted }) stepped_is;
        touches = subst (λ ns. Touches at_assignment s word ns q.noted) (ap (λ (p : Point). p.noted) stepped_is)
            touches;
      }

  -- an IF after its tick
  module _ (arms : SlotArms) (otherwise : SlotStmts) (d : ℕ) (e : Exits) (p r q : Point) (ticks : p.ahead ≡ suc r.ahead)
      (rest : r ≡ record p { ahead = r.ahead }) where
    pub if_chosen : (these : SlotArms) (those : SlotStmts) → arms ≡ these → otherwise ≡ those
        → IsChosen f s units these those d r q → IsStmtCode f s units (IF arms otherwise) d e p q
    if_chosen these those arms_are otherwise_is is = record {
      behind = r.ahead;
      ticks = ticks;
      rest = inl (subst (λ r. IsChosen f s units arms otherwise d r q) rest
          (subst (λ a. IsChosen f s units a otherwise d r q) (sym arms_are)
          (subst (λ o. IsChosen f s units these o d r q) (sym otherwise_is) is)));
    }

    pub if_stands : AreArmsCode f s units arms (AreStmtsCode f s units otherwise d e) d e r q
        → IsStmtCode f s units (IF arms otherwise) d e p q
    if_stands is = record {
      behind = r.ahead;
      ticks = ticks;
      rest = inr (subst (λ r. AreArmsCode f s units arms (AreStmtsCode f s units otherwise d e) d e r q) rest is);
    }
