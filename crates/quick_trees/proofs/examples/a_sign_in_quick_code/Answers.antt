use Rattle.std.proofs.Common.{pos, [], ◌∷◌, refl, inl, inr}
use Rattle.st_types.specs.declared.kind.Kind.TheVariants.{Int, Bool as Boolean}
use Rattle.machine_code.specs.MarkedRuns.{marked_ran, marked_units_within}
use Rattle.quick_trees.specs.declared.noting.Noting.TheVariants.{Exact, LookAhead, BothAhead, LookedAssignmentAhead}
use Rattle.quick_trees.specs.declared.noting.Noting.TheVariants.{Assigned}
use Rattle.quick_trees.specs.Example.{way}
use Rattle.quick_trees.specs.Points.{assignment_of, look_of}
use Rattle.quick_trees.proofs.Tellings.{at, each_tells}
use Rattle.st_types.specs.declared.kind.Kind.TheVariants.{Dword}
use Rattle.quick_code.specs.declared.quick_instr.QuickInstr.TheVariants.{SubtractInt, Xor, XorBy}
use Rattle.quick_trees.proofs.examples.a_sign_in_quick_code.Goals as goal

pub returns-clause-stands : goal.returns-clause-stands
returns-clause-stands c = record {
  way = way 1 3;
  begins = refl;
  end = at 10 0 (Assigned ∷ Assigned ∷ Assigned ∷ []);
  last = at 10 0 (Exact ∷ Exact ∷ Exact ∷ []);
  last_is = refl;
  stands = record {
    middle = at 3 3 (BothAhead ∷ Exact ∷ Exact ∷ []);
    first = record {
      notes = (look_of 0 ∷ assignment_of 0 ∷ []);
      all = (
        at 2 3 (LookAhead ∷ Exact ∷ Exact ∷ []),
        (
          (refl, (refl, record { old = Exact; there = refl; new = LookAhead; is = refl; rest = refl })),
          (
            at 3 3 (BothAhead ∷ Exact ∷ Exact ∷ []),
            ((refl, (refl, record { old = LookAhead; there = refl; new = BothAhead; is = refl; rest = refl })), refl),
          ),
        ),
      );
    };
    second = record {
      middle = at 4 2 (Assigned ∷ Exact ∷ Exact ∷ []);
      first = record {
        behind = 2;
        ticks = refl;
        rest = record {
          kind = Int;
          target = refl;
          word = 0;
          own = refl;
          made = at 4 2 (LookedAssignmentAhead ∷ Exact ∷ Exact ∷ []);
          makes = record {
            from = 0;
            last = at 3 2 (LookedAssignmentAhead ∷ Exact ∷ Exact ∷ []);
            reads = record {
              of_type = refl;
              has = refl;
              is = refl;
              touches = record { old = BothAhead; there = refl; new = LookedAssignmentAhead; is = refl; rest = refl };
            };
            nought = 3;
            is_nought = record { index = 0; among = refl; place = refl };
            stands = record { instr = SubtractInt 3 0 0; is = refl; at = refl };
            next = refl;
          };
          is = refl;
          touches = record { old = LookedAssignmentAhead; there = refl; new = Assigned; is = refl; rest = refl };
        };
      };
      second = record {
        middle = at 6 2 (Assigned ∷ BothAhead ∷ Exact ∷ []);
        first = record {
          notes = (look_of 1 ∷ assignment_of 1 ∷ []);
          all = (
            at 5 2 (Assigned ∷ LookAhead ∷ Exact ∷ []),
            (
              (refl, (refl, record { old = Exact; there = refl; new = LookAhead; is = refl; rest = refl })),
              (
                at 6 2 (Assigned ∷ BothAhead ∷ Exact ∷ []),
                (
                  (refl, (refl, record { old = LookAhead; there = refl; new = BothAhead; is = refl; rest = refl })),
                  refl,
                ),
              ),
            ),
          );
        };
        second = record {
          middle = at 7 1 (Assigned ∷ Assigned ∷ Exact ∷ []);
          first = record {
            behind = 1;
            ticks = refl;
            rest = record {
              kind = Boolean;
              target = refl;
              word = 1;
              own = refl;
              made = at 7 1 (Assigned ∷ LookedAssignmentAhead ∷ Exact ∷ []);
              makes = record {
                from = 1;
                last = at 6 1 (Assigned ∷ LookedAssignmentAhead ∷ Exact ∷ []);
                reads = record {
                  of_type = refl;
                  has = refl;
                  is = refl;
                  touches = record {
                    old = BothAhead;
                    there = refl;
                    new = LookedAssignmentAhead;
                    is = refl;
                    rest = refl;
                  };
                };
                turns = inl (record { instr = XorBy 1 (pos 1) 1; is = refl; at = refl });
                next = refl;
              };
              is = refl;
              touches = record { old = LookedAssignmentAhead; there = refl; new = Assigned; is = refl; rest = refl };
            };
          };
          second = record {
            middle = at 9 1 (Assigned ∷ Assigned ∷ BothAhead ∷ []);
            first = record {
              notes = (look_of 2 ∷ assignment_of 2 ∷ []);
              all = (
                at 8 1 (Assigned ∷ Assigned ∷ LookAhead ∷ []),
                (
                  (refl, (refl, record { old = Exact; there = refl; new = LookAhead; is = refl; rest = refl })),
                  (
                    at 9 1 (Assigned ∷ Assigned ∷ BothAhead ∷ []),
                    (
                      (
                        refl,
                        (refl, record { old = LookAhead; there = refl; new = BothAhead; is = refl; rest = refl }),
                      ),
                      refl,
                    ),
                  ),
                ),
              );
            };
            second = record {
              middle = at 10 0 (Assigned ∷ Assigned ∷ Assigned ∷ []);
              first = record {
                behind = 0;
                ticks = refl;
                rest = record {
                  kind = Dword;
                  target = refl;
                  word = 2;
                  own = refl;
                  made = at 10 0 (Assigned ∷ Assigned ∷ LookedAssignmentAhead ∷ []);
                  makes = record {
                    from = 2;
                    last = at 9 0 (Assigned ∷ Assigned ∷ LookedAssignmentAhead ∷ []);
                    reads = record {
                      of_type = refl;
                      has = refl;
                      is = refl;
                      touches = record {
                        old = BothAhead;
                        there = refl;
                        new = LookedAssignmentAhead;
                        is = refl;
                        rest = refl;
                      };
                    };
                    turns = inr (
                      4,
                      (
                        record { index = 1; among = refl; place = refl },
                        record { instr = Xor 2 4 2; is = refl; at = refl },
                      ),
                    );
                    next = refl;
                  };
                  is = refl;
                  touches = record {
                    old = LookedAssignmentAhead;
                    there = refl;
                    new = Assigned;
                    is = refl;
                    rest = refl;
                  };
                };
              };
              second = record {
                place = refl;
                ahead = refl;
                noted = each_tells (Assigned ∷ Assigned ∷ Assigned ∷ []) (Assigned ∷ Assigned ∷ Assigned ∷ []) (
                  refl,
                  (refl, (refl, tt)),
                );
              };
            };
          };
        };
      };
    };
  };
  joins = inl (record {
    place = refl;
    ahead = refl;
    noted = each_tells (Assigned ∷ Assigned ∷ Assigned ∷ []) (Exact ∷ Exact ∷ Exact ∷ []) (refl, (refl, (refl, tt)));
  });
  ends = refl;
}

pub returns-clause-program : goal.returns-clause-program
unfolding marked_ran marked_units_within
returns-clause-program c = refl
