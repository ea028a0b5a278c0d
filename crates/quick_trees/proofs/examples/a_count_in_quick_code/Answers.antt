use Rattle.std.proofs.Common.{pos, [], ◌∷◌, refl}
use Rattle.std.proofs.Common.{inl, inr}
use Rattle.st_types.specs.declared.kind.Kind.TheVariants.{Int}
use Rattle.machine_code.specs.MarkedEvaluation.{marked_truth}
use Rattle.machine_code.specs.MarkedExecution.{marked_guarded, marked_loop, marked_turns}
use Rattle.machine_code.specs.MarkedRuns.{marked_ran, marked_units_within}
use Rattle.quick_trees.specs.declared.noting.Noting.TheVariants.{Exact, LookAhead}
use Rattle.quick_trees.specs.declared.noting.Noting.TheVariants.{Looked, LookedAssignmentAhead, Assigned}
use Rattle.quick_trees.specs.Example.{way}
use Rattle.quick_trees.specs.Points.{assignment_of, look_of}
use Rattle.quick_trees.proofs.Tellings.{at, each_tells}
use Rattle.quick_code.specs.declared.quick_instr.QuickInstr.TheVariants.{AddIntBy, JumpIfLessConst, JumpIfAtLeastConst}
use Rattle.quick_trees.proofs.examples.a_count_in_quick_code.Goals as goal

pub returns-clause-stands : goal.returns-clause-stands
returns-clause-stands c = record {
  way = way 1 1;
  begins = refl;
  end = at 6 0 (Exact ∷ []);
  last = at 6 0 (Exact ∷ []);
  last_is = refl;
  stands = record {
    middle = at 2 1 (LookAhead ∷ []);
    first = record {
      notes = (look_of 0 ∷ []);
      all = (
        at 2 1 (LookAhead ∷ []),
        ((refl, (refl, record { old = Exact; there = refl; new = LookAhead; is = refl; rest = refl })), refl),
      );
    };
    second = record {
      middle = at 6 0 (Exact ∷ []);
      first = record {
        behind = 0;
        ticks = refl;
        rest = record {
          test = at 2 0 (Looked ∷ []);
          way = way 6 0;
          past = 2;
          tested = inr (inl (record {
            kind = Int;
            left = 0;
            word = pos 10;
            reads = record {
              of_type = refl;
              has = refl;
              is = refl;
              touches = record { old = LookAhead; there = refl; new = Looked; is = refl; rest = refl };
            };
            number = (refl, refl);
            stands = record { instr = JumpIfAtLeastConst 0 (pos 10) (way 6 0) 2; is = refl; at = refl };
          }));
          over = record { place = refl; ahead = refl; noted = each_tells (Looked ∷ []) (Exact ∷ []) (refl, tt) };
          noted = at 4 2 (LookedAssignmentAhead ∷ []);
          notes = record {
            notes = (assignment_of 0 ∷ []);
            all = (
              at 4 2 (LookedAssignmentAhead ∷ []),
              (
                (
                  refl,
                  (refl, record { old = Looked; there = refl; new = LookedAssignmentAhead; is = refl; rest = refl }),
                ),
                refl,
              ),
            );
          };
          head = at 4 2 (LookedAssignmentAhead ∷ []);
          begins = record {
            place = refl;
            ahead = refl;
            noted = each_tells (LookedAssignmentAhead ∷ []) (LookedAssignmentAhead ∷ []) (refl, tt);
          };
          end = at 5 1 (Assigned ∷ []);
          body = record {
            middle = at 4 2 (LookedAssignmentAhead ∷ []);
            first = record { notes = []; all = refl };
            second = record {
              middle = at 5 1 (Assigned ∷ []);
              first = record {
                behind = 1;
                ticks = refl;
                rest = record {
                  kind = Int;
                  target = refl;
                  word = 0;
                  own = refl;
                  made = at 5 1 (LookedAssignmentAhead ∷ []);
                  makes = inr (inr (inl (record {
                    left = 0;
                    word = pos 1;
                    last = at 4 1 (LookedAssignmentAhead ∷ []);
                    reads = record {
                      of_type = refl;
                      has = refl;
                      is = refl;
                      touches = record {
                        old = LookedAssignmentAhead;
                        there = refl;
                        new = LookedAssignmentAhead;
                        is = refl;
                        rest = refl;
                      };
                    };
                    number = (refl, refl);
                    stands = record { instr = AddIntBy 0 (pos 1) 0; is = refl; at = refl };
                    next = refl;
                  })));
                  is = refl;
                  touches = record {
                    old = LookedAssignmentAhead;
                    there = refl;
                    new = Assigned;
                    is = refl;
                    rest = refl;
                  };
                };
              };
              second = record {
                place = refl;
                ahead = refl;
                noted = each_tells (Assigned ∷ []) (Assigned ∷ []) (refl, tt);
              };
            };
          };
          turn = 0;
          tick = refl;
          foot = at 5 0 (Assigned ∷ []);
          back = way 4 2;
          after = 0;
          asked = inr (inl (record {
            kind = Int;
            left = 0;
            word = pos 10;
            reads = record {
              of_type = refl;
              has = refl;
              is = refl;
              touches = record { old = Assigned; there = refl; new = Assigned; is = refl; rest = refl };
            };
            number = (refl, refl);
            stands = record { instr = JumpIfLessConst 0 (pos 10) (way 4 2) 0; is = refl; at = refl };
          }));
          again = record {
            place = refl;
            ahead = refl;
            noted = each_tells (Assigned ∷ []) (LookedAssignmentAhead ∷ []) (refl, tt);
          };
          behind = record { place = refl; ahead = refl; noted = each_tells (Assigned ∷ []) (Exact ∷ []) (refl, tt) };
        };
      };
      second = record { place = refl; ahead = refl; noted = each_tells (Exact ∷ []) (Exact ∷ []) (refl, tt) };
    };
  };
  joins = inl (record { place = refl; ahead = refl; noted = each_tells (Exact ∷ []) (Exact ∷ []) (refl, tt) });
  ends = refl;
}

pub returns-clause-program : goal.returns-clause-program
unfolding marked_ran marked_units_within marked_truth marked_loop marked_turns marked_guarded
returns-clause-program c = refl
