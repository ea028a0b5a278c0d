use Rattle.std.proofs.Common.{[], ◌∷◌, arith, inl, inr, refl}
use Rattle.st_types.specs.declared.kind.Kind.TheVariants.{Int, Word}
use Rattle.machine_code.specs.MarkedRuns.{marked_ran, marked_units_within}
use Rattle.quick_code.specs.declared.quick_instr.QuickInstr.TheVariants.{ShiftRight}
use Rattle.quick_trees.specs.declared.noting.Noting.TheVariants.{Exact, LookAhead, AssignmentAhead}
use Rattle.quick_trees.specs.declared.noting.Noting.TheVariants.{Looked, Assigned}
use Rattle.quick_trees.specs.Example.{int, way}
use Rattle.quick_trees.specs.Points.{assignment_of, look_of}
use Rattle.quick_trees.proofs.Tellings.{at, each_tells}
use Rattle.quick_trees.proofs.examples.functions_in_quick_code.Goals as goal

pub returns-clause-stands : goal.returns-clause-stands
returns-clause-stands c = record {
  way = way 1 1;
  begins = refl;
  end = at 5 0 (Looked ∷ Assigned ∷ []);
  last = at 5 0 (Exact ∷ Exact ∷ []);
  last_is = refl;
  stands = record {
    middle = at 3 1 (LookAhead ∷ AssignmentAhead ∷ []);
    first = record {
      notes = (look_of 0 ∷ assignment_of 1 ∷ []);
      all = (
        at 2 1 (LookAhead ∷ Exact ∷ []),
        (
          (refl, (refl, record { old = Exact; there = refl; new = LookAhead; is = refl; rest = refl })),
          (
            at 3 1 (LookAhead ∷ AssignmentAhead ∷ []),
            (
              (refl, (refl, record { old = Exact; there = refl; new = AssignmentAhead; is = refl; rest = refl })),
              refl,
            ),
          ),
        ),
      );
    };
    second = record {
      middle = at 5 0 (Looked ∷ Assigned ∷ []);
      first = record {
        behind = 0;
        ticks = refl;
        rest = record {
          kind = Word;
          target = refl;
          word = 1;
          own = refl;
          made = at 5 0 (Looked ∷ AssignmentAhead ∷ []);
          makes = inr (record {
            kinds = Word ∷ Int ∷ [];
            words = 5 ∷ 2 ∷ [];
            given = at 4 0 (Looked ∷ AssignmentAhead ∷ []);
            arguments = record {
              middle = at 4 0 (Looked ∷ AssignmentAhead ∷ []);
              first = inr (
                record { depth = refl; there = omega arith },
                record {
                  kinds = Int ∷ [];
                  words = 0 ∷ [];
                  given = at 3 0 (Looked ∷ AssignmentAhead ∷ []);
                  arguments = record {
                    middle = at 3 0 (Looked ∷ AssignmentAhead ∷ []);
                    first = record {
                      of_type = refl;
                      has = refl;
                      is = refl;
                      touches = record { old = LookAhead; there = refl; new = Looked; is = refl; rest = refl };
                    };
                    second = refl;
                  };
                  computes = record {
                    word = 0;
                    argument = (refl, refl);
                    narrow = refl;
                    result = refl;
                    moves = record {
                      narrow = refl;
                      low = 3;
                      is_low = record { index = 1; among = refl; place = refl };
                      high = 4;
                      is_high = record { index = 2; among = refl; place = refl };
                      stands = refl;
                    };
                    is = refl;
                  };
                },
              );
              second = record {
                middle = at 4 0 (Looked ∷ AssignmentAhead ∷ []);
                first = (
                  refl,
                  record {
                    value = int 1;
                    of_literal = refl;
                    of_type = refl;
                    index = 0;
                    among = refl;
                    place = refl;
                  },
                );
                second = refl;
              };
            };
            computes = record {
              word = 5;
              kind = Int;
              count = 2;
              arguments = (refl, refl);
              places = 1;
              is_count = record { index = 0; among = refl; place = refl };
              few = omega arith;
              stands = record { instr = ShiftRight 5 1 1; is = refl; at = refl };
              is = refl;
            };
          });
          is = refl;
          touches = record { old = AssignmentAhead; there = refl; new = Assigned; is = refl; rest = refl };
        };
      };
      second = record {
        place = refl;
        ahead = refl;
        noted = each_tells (Looked ∷ Assigned ∷ []) (Looked ∷ Assigned ∷ []) (refl, (refl, tt));
      };
    };
  };
  joins = inl (record {
    place = refl;
    ahead = refl;
    noted = each_tells (Looked ∷ Assigned ∷ []) (Exact ∷ Exact ∷ []) (refl, (refl, tt));
  });
  ends = refl;
}

pub returns-clause-program : goal.returns-clause-program
unfolding marked_ran marked_units_within
returns-clause-program c = refl
