use Rattle.std.proofs.Common.{◌≡◌, ℕ, ◌≤◌, ◌<◌, pos, [], ◌∷◌, refl, sym, subst, arith, inl, inr}
use Rattle.st_types.specs.declared.kind.Kind.TheVariants.{Word}
use Rattle.st_types.specs.declared.operator.BinaryOperator.TheVariants.{And, Xor}
use Rattle.quick_code.specs.declared.operation.Operation.TheVariants as op
use Rattle.quick_code.specs.declared.operation.Signed.TheVariants.{Lint}
use Rattle.quick_code.specs.declared.quick_instr.QuickInstr.TheVariants.{AndBy, XorBy}
use Rattle.quick_code.specs.QuickSteps.{look}
use Rattle.quick_code.specs.Words.{operator_result}
use Rattle.slot_trees.specs.SlotTrees.{binary, own}
use Rattle.machine_code.specs.MarkedEvaluation.{marked_truth}
use Rattle.machine_code.specs.MarkedRuns.{marked_ran, marked_units_within}
use Rattle.quick_trees.specs.declared.noting.Noting.TheVariants.{Exact, LookAhead, BothAhead}
use Rattle.quick_trees.specs.declared.noting.Noting.TheVariants.{LookedAssignmentAhead, Assigned}
use Rattle.quick_trees.specs.ChoiceExample.{bits, choice_frame, is_odd}
use Rattle.quick_trees.specs.Example.{variable, way}
use Rattle.quick_trees.specs.Points.{assignment_of, look_of}
use Rattle.quick_trees.specs.Straight.{AssignsAt}
use Rattle.quick_trees.proofs.Tellings.{at, each_tells}
use Rattle.quick_trees.proofs.examples.a_choice_in_quick_code.Goals as goal

-- the instructions for the first value
turned : (p : ℕ) → 4 ≤ p → p < 5 → AssignsAt choice_frame 2 p
turned p from below =
    subst (AssignsAt choice_frame 2) (let is : 4 ≡ p = omega arith in is) (record {
      instr = XorBy 0 (pos 5) 2;
      at = refl;
      to = 2;
      deep = omega arith;
      assigns = record { word = λ m. operator_result op.Xor Lint (look m 0) (pos 5); does = λ m b. refl };
    })

pub returns-clause-stands : goal.returns-clause-stands
returns-clause-stands c = record {
  way = way 1 2;
  begins = refl;
  end = at 6 0 (Exact ∷ []);
  last = at 6 0 (Exact ∷ []);
  last_is = refl;
  stands = record {
    middle = at 3 2 (BothAhead ∷ []);
    first = record {
      notes = (look_of 0 ∷ assignment_of 0 ∷ []);
      all = (
        at 2 2 (LookAhead ∷ []),
        (
          (refl, (refl, record { old = Exact; there = refl; new = LookAhead; is = refl; rest = refl })),
          (
            at 3 2 (BothAhead ∷ []),
            ((refl, (refl, record { old = LookAhead; there = refl; new = BothAhead; is = refl; rest = refl })), refl),
          ),
        ),
      );
    };
    second = record {
      middle = at 6 0 (Assigned ∷ []);
      first = record {
        behind = 1;
        ticks = refl;
        rest = inl (record {
          condition = is_odd;
          variable = own 0;
          yes = binary Xor (variable 0) (bits 5);
          no = variable 0;
          if_it_holds = refl;
          otherwise_so = refl;
          kind = Word;
          target = refl;
          word = 0;
          own = refl;
          tested = 1;
          asked = at 4 1 (LookedAssignmentAhead ∷ []);
          asks = inl (record {
            left = binary And (variable 0) (bits 1);
            right = bits 0;
            is = refl;
            kind = Word;
            reads = (
              record { depth = refl; there = omega arith },
              inr (inr (inl (record {
                left = 0;
                word = pos 1;
                last = at 3 1 (LookedAssignmentAhead ∷ []);
                reads = record {
                  of_type = refl;
                  has = refl;
                  is = refl;
                  touches = record {
                    old = BothAhead;
                    there = refl;
                    new = LookedAssignmentAhead;
                    is = refl;
                    rest = refl;
                  };
                };
                number = (refl, refl);
                stands = record { instr = AndBy 0 (pos 1) 1; is = refl; at = refl };
                next = refl;
              }))),
            );
            nought = (refl, refl);
          });
          behind = 0;
          tick = refl;
          first = 2;
          middle = at 5 0 (LookedAssignmentAhead ∷ []);
          reads_first = (
            record { depth = refl; there = omega arith },
            inr (inr (inl (record {
              left = 0;
              word = pos 5;
              last = at 4 0 (LookedAssignmentAhead ∷ []);
              reads = record {
                of_type = refl;
                has = refl;
                is = refl;
                touches = record {
                  old = LookedAssignmentAhead;
                  there = refl;
                  new = LookedAssignmentAhead;
                  is = refl;
                  rest = refl;
                };
              };
              number = (refl, refl);
              stands = record { instr = XorBy 0 (pos 5) 2; is = refl; at = refl };
              next = refl;
            }))),
          );
          straight_first = record { ordered = omega arith; each = turned };
          second = 0;
          last = at 5 0 (LookedAssignmentAhead ∷ []);
          reads_second = record {
            of_type = refl;
            has = refl;
            is = refl;
            touches = record {
              old = LookedAssignmentAhead;
              there = refl;
              new = LookedAssignmentAhead;
              is = refl;
              rest = refl;
            };
          };
          straight_second = record { ordered = omega arith; each = λ p from below. absurd (omega arith) };
          as_many = refl;
          as_much = each_tells (LookedAssignmentAhead ∷ []) (LookedAssignmentAhead ∷ []) (refl, tt);
          stands = refl;
          is = refl;
          touches = record { old = LookedAssignmentAhead; there = refl; new = Assigned; is = refl; rest = refl };
        });
      };
      second = record { place = refl; ahead = refl; noted = each_tells (Assigned ∷ []) (Exact ∷ []) (refl, tt) };
    };
  };
  joins = inl (record { place = refl; ahead = refl; noted = each_tells (Exact ∷ []) (Exact ∷ []) (refl, tt) });
  ends = refl;
}

pub returns-clause-program : goal.returns-clause-program
unfolding marked_ran marked_units_within marked_truth
returns-clause-program c = refl

pub returns-clause-other : goal.returns-clause-other
unfolding marked_ran marked_units_within marked_truth
returns-clause-other c = refl
