use Rattle.std.proofs.Common.{pos, [], ◌∷◌, refl, arith, inl, inr}
use Rattle.st_types.specs.declared.kind.Kind.TheVariants.{Int}
use Rattle.machine_code.specs.MarkedRuns.{marked_ran, marked_units_within}
use Rattle.quick_trees.specs.declared.noting.Noting.TheVariants.{Exact, LookAhead, AssignmentAhead, BothAhead}
use Rattle.quick_trees.specs.declared.noting.Noting.TheVariants.{LookedAssignmentAhead, Assigned}
use Rattle.quick_trees.specs.Example.{way}
use Rattle.quick_trees.specs.BlockExample.{summing}
use Rattle.quick_trees.specs.Calls.{quick_units}
use Rattle.quick_trees.specs.Points.{assignment_of, look_of}
use Rattle.quick_trees.proofs.Tellings.{at, each_tells}
use Rattle.quick_code.specs.declared.quick_instr.QuickInstr.TheVariants.{AddInt, AddIntBy}
use Rattle.quick_trees.proofs.examples.a_block_in_quick_code.Goals as goal

pub returns-clause-stands : goal.returns-clause-stands
unfolding quick_units
returns-clause-stands c = record {
  way = way 1 2;
  begins = refl;
  end = at 10 0 (Assigned ∷ Assigned ∷ Assigned ∷ []);
  last = at 10 0 (Exact ∷ Exact ∷ Exact ∷ []);
  last_is = refl;
  stands = record {
    middle = at 6 2 (BothAhead ∷ AssignmentAhead ∷ BothAhead ∷ []);
    first = record {
      notes = (look_of 0 ∷ assignment_of 0 ∷ assignment_of 1 ∷ look_of 2 ∷ assignment_of 2 ∷ []);
      all = (
        at 2 2 (LookAhead ∷ Exact ∷ Exact ∷ []),
        (
          (refl, (refl, record { old = Exact; there = refl; new = LookAhead; is = refl; rest = refl })),
          (
            at 3 2 (BothAhead ∷ Exact ∷ Exact ∷ []),
            (
              (refl, (refl, record { old = LookAhead; there = refl; new = BothAhead; is = refl; rest = refl })),
              (
                at 4 2 (BothAhead ∷ AssignmentAhead ∷ Exact ∷ []),
                (
                  (refl, (refl, record { old = Exact; there = refl; new = AssignmentAhead; is = refl; rest = refl })),
                  (
                    at 5 2 (BothAhead ∷ AssignmentAhead ∷ LookAhead ∷ []),
                    (
                      (refl, (refl, record { old = Exact; there = refl; new = LookAhead; is = refl; rest = refl })),
                      (
                        at 6 2 (BothAhead ∷ AssignmentAhead ∷ BothAhead ∷ []),
                        (
                          (
                            refl,
                            (refl, record { old = LookAhead; there = refl; new = BothAhead; is = refl; rest = refl }),
                          ),
                          refl,
                        ),
                      ),
                    ),
                  ),
                ),
              ),
            ),
          ),
        ),
      );
    };
    second = record {
      middle = at 10 0 (Assigned ∷ Assigned ∷ Assigned ∷ []);
      first = record {
        behind = 1;
        ticks = refl;
        rest = record {
          of_program = tt;
          inputs = record { member = 0; kind = Int; word = 3 } ∷ [];
          read = at 7 1 (LookedAssignmentAhead ∷ AssignmentAhead ∷ BothAhead ∷ []);
          reads = (
            refl,
            record {
              middle = at 7 1 (LookedAssignmentAhead ∷ AssignmentAhead ∷ BothAhead ∷ []);
              first = inl (
                record { depth = refl; there = omega arith },
                inr (inr (inl (record {
                  left = 0;
                  word = pos 1;
                  last = at 6 1 (LookedAssignmentAhead ∷ AssignmentAhead ∷ BothAhead ∷ []);
                  reads = record {
                    of_type = refl;
                    has = refl;
                    is = refl;
                    touches = record {
                      old = BothAhead;
                      there = refl;
                      new = LookedAssignmentAhead;
                      is = refl;
                      rest = refl;
                    };
                  };
                  number = (refl, refl);
                  stands = record { instr = AddIntBy 0 (pos 1) 3; is = refl; at = refl };
                  next = refl;
                }))),
              );
              second = refl;
            },
          );
          begun = at 8 1 (LookedAssignmentAhead ∷ Assigned ∷ BothAhead ∷ []);
          gives = (
            1,
            (
              tt,
              record {
                middle = at 8 1 (LookedAssignmentAhead ∷ Assigned ∷ BothAhead ∷ []);
                first = record {
                  of_type = refl;
                  own = refl;
                  stands = refl;
                  is = refl;
                  touches = record { old = AssignmentAhead; there = refl; new = Assigned; is = refl; rest = refl };
                };
                second = refl;
              },
            ),
          );
          done = at 9 0 (LookedAssignmentAhead ∷ Assigned ∷ Assigned ∷ []);
          does = (
            summing,
            (
              refl,
              record {
                end = at 9 0 (LookedAssignmentAhead ∷ Assigned ∷ Assigned ∷ []);
                stands = record {
                  middle = at 8 1 (LookedAssignmentAhead ∷ Assigned ∷ BothAhead ∷ []);
                  first = record { notes = []; all = refl };
                  second = record {
                    middle = at 9 0 (LookedAssignmentAhead ∷ Assigned ∷ Assigned ∷ []);
                    first = record {
                      behind = 0;
                      ticks = refl;
                      rest = record {
                        kind = Int;
                        target = refl;
                        word = 2;
                        own = refl;
                        made = at 9 0 (LookedAssignmentAhead ∷ Assigned ∷ LookedAssignmentAhead ∷ []);
                        makes = inl (record {
                          left = 2;
                          right = 1;
                          last = at 8 0 (LookedAssignmentAhead ∷ Assigned ∷ LookedAssignmentAhead ∷ []);
                          reads = record {
                            middle = at 8 0 (LookedAssignmentAhead ∷ Assigned ∷ LookedAssignmentAhead ∷ []);
                            first = record {
                              of_type = refl;
                              has = refl;
                              is = refl;
                              touches = record {
                                old = BothAhead;
                                there = refl;
                                new = LookedAssignmentAhead;
                                is = refl;
                                rest = refl;
                              };
                            };
                            second = record {
                              of_type = refl;
                              has = refl;
                              is = refl;
                              touches = record {
                                old = Assigned;
                                there = refl;
                                new = Assigned;
                                is = refl;
                                rest = refl;
                              };
                            };
                          };
                          stands = record { instr = AddInt 2 1 2; is = refl; at = refl };
                          next = refl;
                        });
                        is = refl;
                        touches = record {
                          old = LookedAssignmentAhead;
                          there = refl;
                          new = Assigned;
                          is = refl;
                          rest = refl;
                        };
                      };
                    };
                    second = record {
                      place = refl;
                      ahead = refl;
                      noted = each_tells (LookedAssignmentAhead ∷ Assigned ∷ Assigned ∷ []) (LookedAssignmentAhead
                          ∷ Assigned ∷ Assigned ∷ []) (refl, (refl, (refl, tt)));
                    };
                  };
                };
                joins = inl (record {
                  place = refl;
                  ahead = refl;
                  noted = each_tells (LookedAssignmentAhead ∷ Assigned ∷ Assigned ∷ []) (LookedAssignmentAhead
                      ∷ Assigned ∷ Assigned ∷ []) (refl, (refl, (refl, tt)));
                });
              },
            ),
          );
          copies = record {
            middle = at 9 0 (LookedAssignmentAhead ∷ Assigned ∷ Assigned ∷ []);
            first = record { notes = []; all = refl };
            second = record {
              middle = at 10 0 (Assigned ∷ Assigned ∷ Assigned ∷ []);
              first = record {
                kind = Int;
                word = 2;
                looked = at 9 0 (LookedAssignmentAhead ∷ Assigned ∷ Assigned ∷ []);
                looks = record {
                  of_type = refl;
                  has = refl;
                  is = refl;
                  touches = record { old = Assigned; there = refl; new = Assigned; is = refl; rest = refl };
                };
                to = 0;
                gives = record {
                  of_type = refl;
                  own = refl;
                  stands = refl;
                  is = refl;
                  touches = record {
                    old = LookedAssignmentAhead;
                    there = refl;
                    new = Assigned;
                    is = refl;
                    rest = refl;
                  };
                };
              };
              second = refl;
            };
          };
        };
      };
      second = record {
        place = refl;
        ahead = refl;
        noted = each_tells (Assigned ∷ Assigned ∷ Assigned ∷ []) (Assigned ∷ Assigned ∷ Assigned ∷ []) (
          refl,
          (refl, (refl, tt)),
        );
      };
    };
  };
  joins = inl (record {
    place = refl;
    ahead = refl;
    noted = each_tells (Assigned ∷ Assigned ∷ Assigned ∷ []) (Exact ∷ Exact ∷ Exact ∷ []) (refl, (refl, (refl, tt)));
  });
  ends = refl;
}

pub returns-clause-program : goal.returns-clause-program
unfolding marked_ran marked_units_within
returns-clause-program c = refl
