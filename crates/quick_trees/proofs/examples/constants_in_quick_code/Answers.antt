use Rattle.std.proofs.Common.{pos, negsuc, [], ◌∷◌, refl, inl, inr}
use Rattle.st_types.specs.declared.kind.Kind.TheVariants.{Int, Dint}
use Rattle.machine_code.specs.MarkedRuns.{marked_ran, marked_units_within}
use Rattle.quick_trees.specs.declared.noting.Noting.TheVariants.{Exact, LookAhead, BothAhead, LookedAssignmentAhead}
use Rattle.quick_trees.specs.declared.noting.Noting.TheVariants.{Assigned}
use Rattle.quick_trees.specs.Example.{way}
use Rattle.quick_trees.specs.Points.{assignment_of, look_of}
use Rattle.quick_trees.proofs.Tellings.{at, each_tells}
use Rattle.quick_code.specs.declared.quick_instr.QuickInstr.TheVariants.{AddIntBy, DivideBy, MultiplyDintBy}
use Rattle.quick_trees.proofs.examples.constants_in_quick_code.Goals as goal

pub returns-clause-stands : goal.returns-clause-stands
returns-clause-stands c = record {
  way = way 1 3;
  begins = refl;
  end = at 8 0 (Assigned ∷ Assigned ∷ []);
  last = at 8 0 (Exact ∷ Exact ∷ []);
  last_is = refl;
  stands = record {
    middle = at 3 3 (BothAhead ∷ Exact ∷ []);
    first = record {
      notes = (look_of 0 ∷ assignment_of 0 ∷ []);
      all = (
        at 2 3 (LookAhead ∷ Exact ∷ []),
        (
          (refl, (refl, record { old = Exact; there = refl; new = LookAhead; is = refl; rest = refl })),
          (
            at 3 3 (BothAhead ∷ Exact ∷ []),
            ((refl, (refl, record { old = LookAhead; there = refl; new = BothAhead; is = refl; rest = refl })), refl),
          ),
        ),
      );
    };
    second = record {
      middle = at 4 2 (Assigned ∷ Exact ∷ []);
      first = record {
        behind = 2;
        ticks = refl;
        rest = record {
          kind = Int;
          target = refl;
          word = 0;
          own = refl;
          made = at 4 2 (LookedAssignmentAhead ∷ Exact ∷ []);
          makes = inr (inr (inl (record {
            left = 0;
            word = pos 3;
            last = at 3 2 (LookedAssignmentAhead ∷ Exact ∷ []);
            reads = record {
              of_type = refl;
              has = refl;
              is = refl;
              touches = record { old = BothAhead; there = refl; new = LookedAssignmentAhead; is = refl; rest = refl };
            };
            number = (refl, refl);
            stands = record { instr = AddIntBy 0 (negsuc 2) 0; is = refl; at = refl };
            next = refl;
          })));
          is = refl;
          touches = record { old = LookedAssignmentAhead; there = refl; new = Assigned; is = refl; rest = refl };
        };
      };
      second = record {
        middle = at 6 2 (Assigned ∷ BothAhead ∷ []);
        first = record {
          notes = (look_of 1 ∷ assignment_of 1 ∷ []);
          all = (
            at 5 2 (Assigned ∷ LookAhead ∷ []),
            (
              (refl, (refl, record { old = Exact; there = refl; new = LookAhead; is = refl; rest = refl })),
              (
                at 6 2 (Assigned ∷ BothAhead ∷ []),
                (
                  (refl, (refl, record { old = LookAhead; there = refl; new = BothAhead; is = refl; rest = refl })),
                  refl,
                ),
              ),
            ),
          );
        };
        second = record {
          middle = at 7 1 (Assigned ∷ Assigned ∷ []);
          first = record {
            behind = 1;
            ticks = refl;
            rest = record {
              kind = Dint;
              target = refl;
              word = 1;
              own = refl;
              made = at 7 1 (Assigned ∷ LookedAssignmentAhead ∷ []);
              makes = inr (inr (inl (record {
                left = 1;
                word = pos 7;
                last = at 6 1 (Assigned ∷ LookedAssignmentAhead ∷ []);
                reads = record {
                  of_type = refl;
                  has = refl;
                  is = refl;
                  touches = record {
                    old = BothAhead;
                    there = refl;
                    new = LookedAssignmentAhead;
                    is = refl;
                    rest = refl;
                  };
                };
                number = (refl, refl);
                stands = record { instr = MultiplyDintBy 1 (pos 7) 1; is = refl; at = refl };
                next = refl;
              })));
              is = refl;
              touches = record { old = LookedAssignmentAhead; there = refl; new = Assigned; is = refl; rest = refl };
            };
          };
          second = record {
            middle = at 7 1 (Assigned ∷ Assigned ∷ []);
            first = record { notes = []; all = refl };
            second = record {
              middle = at 8 0 (Assigned ∷ Assigned ∷ []);
              first = record {
                behind = 0;
                ticks = refl;
                rest = record {
                  kind = Dint;
                  target = refl;
                  word = 1;
                  own = refl;
                  made = at 8 0 (Assigned ∷ Assigned ∷ []);
                  makes = inr (inr (inl (record {
                    left = 1;
                    word = pos 10;
                    last = at 7 0 (Assigned ∷ Assigned ∷ []);
                    reads = record {
                      of_type = refl;
                      has = refl;
                      is = refl;
                      touches = record { old = Assigned; there = refl; new = Assigned; is = refl; rest = refl };
                    };
                    number = (refl, refl);
                    stands = record { instr = DivideBy 1 (pos 10) 1; is = refl; at = refl };
                    next = refl;
                  })));
                  is = refl;
                  touches = record { old = Assigned; there = refl; new = Assigned; is = refl; rest = refl };
                };
              };
              second = record {
                place = refl;
                ahead = refl;
                noted = each_tells (Assigned ∷ Assigned ∷ []) (Assigned ∷ Assigned ∷ []) (refl, (refl, tt));
              };
            };
          };
        };
      };
    };
  };
  joins = inl (record {
    place = refl;
    ahead = refl;
    noted = each_tells (Assigned ∷ Assigned ∷ []) (Exact ∷ Exact ∷ []) (refl, (refl, tt));
  });
  ends = refl;
}

pub returns-clause-program : goal.returns-clause-program
unfolding marked_ran marked_units_within
returns-clause-program c = refl
