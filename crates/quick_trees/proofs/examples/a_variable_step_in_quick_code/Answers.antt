use Rattle.std.proofs.Common.{◌≡◌, ℕ, [], ◌∷◌, refl, arith, inl, inr, Some}
use Rattle.std.specs.Prelude.{slice_get}
use Rattle.st_types.specs.declared.kind.Kind.TheVariants.{Int}
use Rattle.machine_code.specs.MarkedExecution.{marked_guarded, marked_loop, marked_runs_on, marked_step_on, marked_turns}
use Rattle.machine_code.specs.MarkedRuns.{marked_ran, marked_units_within}
use Rattle.quick_code.specs.declared.quick_instr.QuickInstr.TheVariants.{AddInt}
use Rattle.quick_trees.specs.declared.noting.Noting.TheVariants.{Exact, LookAhead, AssignmentAhead, Assigned}
use Rattle.quick_trees.specs.declared.noting.Noting.TheVariants.{Looked, LookedAssignmentAhead}
use Rattle.quick_trees.specs.declared.pace.Pace.TheVariants.{Words}
use Rattle.quick_trees.specs.Example.{int, way}
use Rattle.quick_trees.specs.Points.{assignment_of, look_of}
use Rattle.quick_trees.specs.VariableStepExample.{variable_step_frame}
use Rattle.quick_trees.proofs.Tellings.{at, each_tells}
use Rattle.quick_trees.proofs.examples.a_variable_step_in_quick_code.Goals as goal

-- no constant and no temporary is the word of a slot
no_constant : (j : ℕ) → slice_get variable_step_frame.window 3 ≡ Some j → ⊥
no_constant j own = cc

no_temporary : (j : ℕ) → slice_get variable_step_frame.window 6 ≡ Some j → ⊥
no_temporary j own = cc

pub returns-clause-stands : goal.returns-clause-stands
returns-clause-stands c = record {
  way = way 1 1;
  begins = refl;
  end = at 17 0 (Exact ∷ Exact ∷ []);
  last = at 17 0 (Exact ∷ Exact ∷ []);
  last_is = refl;
  stands = record {
    middle = at 3 1 (AssignmentAhead ∷ LookAhead ∷ []);
    first = record {
      notes = (look_of 1 ∷ assignment_of 0 ∷ []);
      all = (
        at 2 1 (Exact ∷ LookAhead ∷ []),
        (
          (refl, (refl, record { old = Exact; there = refl; new = LookAhead; is = refl; rest = refl })),
          (
            at 3 1 (AssignmentAhead ∷ LookAhead ∷ []),
            ((refl, (refl, record { old = Exact; there = refl; new = AssignmentAhead; is = refl; rest = refl })), refl),
          ),
        ),
      );
    };
    second = record {
      middle = at 17 0 (Exact ∷ Exact ∷ []);
      first = record {
        behind = 0;
        ticks = refl;
        rest = record {
          kind = Int;
          target = refl;
          control = 0;
          own = refl;
          from = 2;
          to = 3;
          middle = at 3 0 (AssignmentAhead ∷ LookAhead ∷ []);
          bounded = at 3 0 (AssignmentAhead ∷ LookAhead ∷ []);
          move = at 7 0 (AssignmentAhead ∷ Looked ∷ []);
          first = (
            refl,
            record { value = int 5; of_literal = refl; of_type = refl; index = 0; among = refl; place = refl },
          );
          second = record {
            kept = inl (
              refl,
              record { value = int 1; of_literal = refl; of_type = refl; index = 1; among = refl; place = refl },
            );
            stays = λ j lt own. absurd (no_constant j own);
          };
          pace = Words 6 7;
          third = record {
            narrow = refl;
            last = at 4 0 (AssignmentAhead ∷ Looked ∷ []);
            keeps = record {
              kept = inr (
                record { depth = refl; there = omega arith },
                record {
                  from = 1;
                  last = at 3 0 (AssignmentAhead ∷ Looked ∷ []);
                  reads = record {
                    of_type = refl;
                    has = refl;
                    is = refl;
                    touches = record { old = LookAhead; there = refl; new = Looked; is = refl; rest = refl };
                  };
                  stands = refl;
                  next = refl;
                },
              );
              stays = λ j lt own. absurd (no_temporary j own);
            };
            temporary = record { depth = refl; there = omega arith };
            not_0 = refl;
            nought = refl;
            tested = refl;
            is = refl;
          };
          assigned = refl;
          test = at 8 0 (Assigned ∷ Looked ∷ []);
          assigns = refl;
          touches = record { old = AssignmentAhead; there = refl; new = Assigned; is = refl; rest = refl };
          way = way 17 0;
          past = 1;
          asked = 10;
          tested = (record { there = omega arith; first = refl; second = refl }, (refl, refl));
          over = record {
            place = refl;
            ahead = refl;
            noted = each_tells (Assigned ∷ Looked ∷ []) (Exact ∷ Exact ∷ []) (refl, (refl, tt));
          };
          noted = at 12 1 (Assigned ∷ LookedAssignmentAhead ∷ []);
          notes = record {
            notes = (assignment_of 1 ∷ []);
            all = (
              at 12 1 (Assigned ∷ LookedAssignmentAhead ∷ []),
              (
                (
                  refl,
                  (refl, record { old = Looked; there = refl; new = LookedAssignmentAhead; is = refl; rest = refl }),
                ),
                refl,
              ),
            );
          };
          head = at 12 1 (Assigned ∷ LookedAssignmentAhead ∷ []);
          begins = record {
            place = refl;
            ahead = refl;
            noted = each_tells (Assigned ∷ LookedAssignmentAhead ∷ []) (Assigned ∷ LookedAssignmentAhead ∷ [])
                (refl, (refl, tt));
          };
          end = at 13 0 (Assigned ∷ Assigned ∷ []);
          body = record {
            middle = at 12 1 (Assigned ∷ LookedAssignmentAhead ∷ []);
            first = record { notes = []; all = refl };
            second = record {
              middle = at 13 0 (Assigned ∷ Assigned ∷ []);
              first = record {
                behind = 0;
                ticks = refl;
                rest = record {
                  kind = Int;
                  target = refl;
                  word = 1;
                  own = refl;
                  made = at 13 0 (Assigned ∷ LookedAssignmentAhead ∷ []);
                  makes = record {
                    from = 0;
                    last = at 12 0 (Assigned ∷ LookedAssignmentAhead ∷ []);
                    reads = record {
                      of_type = refl;
                      has = refl;
                      is = refl;
                      touches = record { old = Assigned; there = refl; new = Assigned; is = refl; rest = refl };
                    };
                    stands = refl;
                    next = refl;
                  };
                  is = refl;
                  touches = record {
                    old = LookedAssignmentAhead;
                    there = refl;
                    new = Assigned;
                    is = refl;
                    rest = refl;
                  };
                };
              };
              second = record {
                place = refl;
                ahead = refl;
                noted = each_tells (Assigned ∷ Assigned ∷ []) (Assigned ∷ Assigned ∷ []) (refl, (refl, tt));
              };
            };
          };
          known = refl;
          back = way 12 2;
          after = 1;
          foot = 16;
          counts = record {
            added = 14;
            adds = inl (record { instr = AddInt 0 6 0; is = refl; at = refl }, refl);
            ordered = record { there = omega arith; first = refl; second = refl };
            behind = refl;
            tested = refl;
          };
          again = record {
            place = refl;
            ahead = refl;
            noted = each_tells (Assigned ∷ Assigned ∷ []) (Assigned ∷ LookedAssignmentAhead ∷ []) (refl, (refl, tt));
          };
          behind = record {
            place = refl;
            ahead = refl;
            noted = each_tells (Assigned ∷ Assigned ∷ []) (Exact ∷ Exact ∷ []) (refl, (refl, tt));
          };
        };
      };
      second = record {
        place = refl;
        ahead = refl;
        noted = each_tells (Exact ∷ Exact ∷ []) (Exact ∷ Exact ∷ []) (refl, (refl, tt));
      };
    };
  };
  joins = inl (record {
    place = refl;
    ahead = refl;
    noted = each_tells (Exact ∷ Exact ∷ []) (Exact ∷ Exact ∷ []) (refl, (refl, tt));
  });
  ends = refl;
}

pub returns-clause-program : goal.returns-clause-program
unfolding marked_ran marked_units_within marked_loop marked_turns marked_guarded marked_runs_on marked_step_on
returns-clause-program c = refl

pub returns-clause-program_past : goal.returns-clause-program_past
unfolding marked_ran marked_units_within marked_loop marked_turns marked_guarded marked_runs_on marked_step_on
returns-clause-program_past c = refl
