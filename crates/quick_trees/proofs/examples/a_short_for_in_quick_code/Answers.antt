use Rattle.std.proofs.Common.{◌≡◌, ℕ, ℤ, pos, negsuc, [], ◌∷◌, refl, ap, arith, inl, inr, Some}
use Rattle.std.specs.Prelude.{slice_get}
use Rattle.st_types.specs.declared.kind.Kind.TheVariants.{Usint}
use Rattle.machine_code.specs.MarkedExecution.{marked_guarded, marked_loop, marked_runs_on, marked_step_on, marked_turns}
use Rattle.machine_code.specs.MarkedRuns.{marked_ran, marked_units_within}
use Rattle.quick_trees.specs.declared.pace.Pace.TheVariants.{Literal}
use Rattle.quick_trees.specs.declared.noting.Noting.TheVariants.{Exact, AssignmentAhead, Assigned}
use Rattle.quick_trees.specs.Example.{way}
use Rattle.quick_trees.specs.Points.{assignment_of}
use Rattle.quick_trees.specs.ShortForExample.{short, short_for_frame}
use Rattle.quick_trees.proofs.Tellings.{at, each_tells}
use Rattle.quick_trees.proofs.examples.a_short_for_in_quick_code.Goals as goal

abbrev magnitude : ℤ → ℕ
magnitude (pos n) = n
magnitude (negsuc n) = 0

-- a constant is the word of no slot
no_word : (j : ℕ) → slice_get short_for_frame.window 3 ≡ Some j → ⊥
no_word j own = cc

pub returns-clause-stands : goal.returns-clause-stands
returns-clause-stands c = record {
  way = way 1 1;
  begins = refl;
  end = at 9 0 (Exact ∷ Exact ∷ []);
  last = at 9 0 (Exact ∷ Exact ∷ []);
  last_is = refl;
  stands = record {
    middle = at 2 1 (AssignmentAhead ∷ Exact ∷ []);
    first = record {
      notes = (assignment_of 0 ∷ []);
      all = (
        at 2 1 (AssignmentAhead ∷ Exact ∷ []),
        ((refl, (refl, record { old = Exact; there = refl; new = AssignmentAhead; is = refl; rest = refl })), refl),
      );
    };
    second = record {
      middle = at 9 0 (Exact ∷ Exact ∷ []);
      first = record {
        behind = 0;
        ticks = refl;
        rest = record {
          kind = Usint;
          target = refl;
          control = 0;
          own = refl;
          from = 2;
          to = 3;
          middle = at 2 0 (AssignmentAhead ∷ Exact ∷ []);
          bounded = at 2 0 (AssignmentAhead ∷ Exact ∷ []);
          move = at 2 0 (AssignmentAhead ∷ Exact ∷ []);
          first = (
            refl,
            record { value = short 1; of_literal = refl; of_type = refl; index = 0; among = refl; place = refl },
          );
          second = record {
            kept = inl (
              refl,
              record { value = short 200; of_literal = refl; of_type = refl; index = 1; among = refl; place = refl },
            );
            stays = λ j lt own. absurd (no_word j own);
          };
          pace = Literal (pos 100);
          third = (
            refl,
            record {
              is = record { value = short 100; of_literal = refl; number = refl };
              moves = λ e. (let is : 100 ≡ 0 = ap magnitude e in omega arith);
              small = refl;
            },
          );
          assigned = refl;
          test = at 3 0 (Assigned ∷ Exact ∷ []);
          assigns = refl;
          touches = record { old = AssignmentAhead; there = refl; new = Assigned; is = refl; rest = refl };
          way = way 9 0;
          past = 1;
          asked = 3;
          tested = (refl, refl);
          over = record {
            place = refl;
            ahead = refl;
            noted = each_tells (Assigned ∷ Exact ∷ []) (Exact ∷ Exact ∷ []) (refl, (refl, tt));
          };
          noted = at 5 1 (Assigned ∷ AssignmentAhead ∷ []);
          notes = record {
            notes = (assignment_of 1 ∷ []);
            all = (
              at 5 1 (Assigned ∷ AssignmentAhead ∷ []),
              (
                (refl, (refl, record { old = Exact; there = refl; new = AssignmentAhead; is = refl; rest = refl })),
                refl,
              ),
            );
          };
          head = at 5 1 (Assigned ∷ AssignmentAhead ∷ []);
          begins = record {
            place = refl;
            ahead = refl;
            noted = each_tells (Assigned ∷ AssignmentAhead ∷ []) (Assigned ∷ AssignmentAhead ∷ []) (refl, (refl, tt));
          };
          end = at 6 0 (Assigned ∷ Assigned ∷ []);
          body = record {
            middle = at 5 1 (Assigned ∷ AssignmentAhead ∷ []);
            first = record { notes = []; all = refl };
            second = record {
              middle = at 6 0 (Assigned ∷ Assigned ∷ []);
              first = record {
                behind = 0;
                ticks = refl;
                rest = record {
                  kind = Usint;
                  target = refl;
                  word = 1;
                  own = refl;
                  made = at 6 0 (Assigned ∷ AssignmentAhead ∷ []);
                  makes = record {
                    from = 0;
                    last = at 5 0 (Assigned ∷ AssignmentAhead ∷ []);
                    reads = record {
                      of_type = refl;
                      has = refl;
                      is = refl;
                      touches = record { old = Assigned; there = refl; new = Assigned; is = refl; rest = refl };
                    };
                    stands = refl;
                    next = refl;
                  };
                  is = refl;
                  touches = record { old = AssignmentAhead; there = refl; new = Assigned; is = refl; rest = refl };
                };
              };
              second = record {
                place = refl;
                ahead = refl;
                noted = each_tells (Assigned ∷ Assigned ∷ []) (Assigned ∷ Assigned ∷ []) (refl, (refl, tt));
              };
            };
          };
          known = refl;
          back = way 5 2;
          after = 1;
          foot = 8;
          counts = inr (record {
            added = refl;
            within = inr (
              record {
                narrow = refl;
                low = 4;
                is_low = record { index = 2; among = refl; place = refl };
                high = 5;
                is_high = record { index = 3; among = refl; place = refl };
                stands = refl;
              },
              refl,
            );
            tested = refl;
          });
          again = record {
            place = refl;
            ahead = refl;
            noted = each_tells (Assigned ∷ Assigned ∷ []) (Assigned ∷ AssignmentAhead ∷ []) (refl, (refl, tt));
          };
          behind = record {
            place = refl;
            ahead = refl;
            noted = each_tells (Assigned ∷ Assigned ∷ []) (Exact ∷ Exact ∷ []) (refl, (refl, tt));
          };
        };
      };
      second = record {
        place = refl;
        ahead = refl;
        noted = each_tells (Exact ∷ Exact ∷ []) (Exact ∷ Exact ∷ []) (refl, (refl, tt));
      };
    };
  };
  joins = inl (record {
    place = refl;
    ahead = refl;
    noted = each_tells (Exact ∷ Exact ∷ []) (Exact ∷ Exact ∷ []) (refl, (refl, tt));
  });
  ends = refl;
}

pub returns-clause-program : goal.returns-clause-program
unfolding marked_ran marked_units_within marked_loop marked_turns marked_guarded marked_runs_on marked_step_on
returns-clause-program c = refl
