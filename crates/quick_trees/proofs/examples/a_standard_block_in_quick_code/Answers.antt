use Rattle.std.proofs.Common.{[], ◌∷◌, refl, inl}
use Rattle.st_types.specs.declared.kind.Kind.TheVariants.{Bool as Boolean}
use Rattle.machine_code.specs.MarkedRuns.{marked_ran, marked_units_within}
use Rattle.quick_trees.specs.declared.noting.Noting.TheVariants.{Exact, LookAhead, AssignmentAhead, BothAhead, Looked}
use Rattle.quick_trees.specs.declared.noting.Noting.TheVariants.{LookedAssignmentAhead, Assigned}
use Rattle.quick_trees.specs.Example.{way}
use Rattle.quick_trees.specs.Calls.{quick_units}
use Rattle.quick_trees.specs.Points.{assignment_of, look_of}
use Rattle.quick_trees.proofs.Tellings.{at, each_tells}
use Rattle.symbols.specs.declared.standard_blocks.StandardBlock.TheVariants.{RTrig}
use Rattle.quick_trees.proofs.examples.a_standard_block_in_quick_code.Goals as goal

pub returns-clause-stands : goal.returns-clause-stands
unfolding quick_units
returns-clause-stands c = record {
  way = way 1 1;
  begins = refl;
  end = at 11 0 (Looked ∷ Assigned ∷ Assigned ∷ Assigned ∷ Assigned ∷ []);
  last = at 11 0 (Exact ∷ Exact ∷ Exact ∷ Exact ∷ Exact ∷ []);
  last_is = refl;
  stands = record {
    middle = at 8 1 (LookAhead ∷ AssignmentAhead ∷ BothAhead ∷ BothAhead ∷ AssignmentAhead ∷ []);
    first = record {
      notes = (look_of 0 ∷ assignment_of 1 ∷ look_of 2 ∷ assignment_of 2 ∷ look_of 3 ∷ assignment_of 3 ∷
          assignment_of 4 ∷ []);
      all = (
        at 2 1 (LookAhead ∷ Exact ∷ Exact ∷ Exact ∷ Exact ∷ []),
        (
          (refl, (refl, record { old = Exact; there = refl; new = LookAhead; is = refl; rest = refl })),
          (
            at 3 1 (LookAhead ∷ AssignmentAhead ∷ Exact ∷ Exact ∷ Exact ∷ []),
            (
              (refl, (refl, record { old = Exact; there = refl; new = AssignmentAhead; is = refl; rest = refl })),
              (
                at 4 1 (LookAhead ∷ AssignmentAhead ∷ LookAhead ∷ Exact ∷ Exact ∷ []),
                (
                  (refl, (refl, record { old = Exact; there = refl; new = LookAhead; is = refl; rest = refl })),
                  (
                    at 5 1 (LookAhead ∷ AssignmentAhead ∷ BothAhead ∷ Exact ∷ Exact ∷ []),
                    (
                      (
                        refl,
                        (refl, record { old = LookAhead; there = refl; new = BothAhead; is = refl; rest = refl }),
                      ),
                      (
                        at 6 1 (LookAhead ∷ AssignmentAhead ∷ BothAhead ∷ LookAhead ∷ Exact ∷ []),
                        (
                          (
                            refl,
                            (refl, record { old = Exact; there = refl; new = LookAhead; is = refl; rest = refl }),
                          ),
                          (
                            at 7 1 (LookAhead ∷ AssignmentAhead ∷ BothAhead ∷ BothAhead ∷ Exact ∷ []),
                            (
                              (
                                refl,
                                (
                                  refl,
                                  record { old = LookAhead; there = refl; new = BothAhead; is = refl; rest = refl },
                                ),
                              ),
                              (
                                at 8 1 (LookAhead ∷ AssignmentAhead ∷ BothAhead ∷ BothAhead ∷ AssignmentAhead ∷ []),
                                (
                                  (
                                    refl,
                                    (
                                      refl,
                                      record {
                                        old = Exact;
                                        there = refl;
                                        new = AssignmentAhead;
                                        is = refl;
                                        rest = refl;
                                      },
                                    ),
                                  ),
                                  refl,
                                ),
                              ),
                            ),
                          ),
                        ),
                      ),
                    ),
                  ),
                ),
              ),
            ),
          ),
        ),
      );
    };
    second = record {
      middle = at 11 0 (Looked ∷ Assigned ∷ Assigned ∷ Assigned ∷ Assigned ∷ []);
      first = record {
        behind = 0;
        ticks = refl;
        rest = record {
          of_program = tt;
          inputs = record { member = 0; kind = Boolean; word = 0 } ∷ [];
          read = at 8 0 (Looked ∷ AssignmentAhead ∷ BothAhead ∷ BothAhead ∷ AssignmentAhead ∷ []);
          reads = (
            refl,
            record {
              middle = at 8 0 (Looked ∷ AssignmentAhead ∷ BothAhead ∷ BothAhead ∷ AssignmentAhead ∷ []);
              first = inl (record {
                of_type = refl;
                has = refl;
                is = refl;
                touches = record { old = LookAhead; there = refl; new = Looked; is = refl; rest = refl };
              });
              second = refl;
            },
          );
          begun = at 9 0 (Looked ∷ Assigned ∷ BothAhead ∷ BothAhead ∷ AssignmentAhead ∷ []);
          gives = (
            1,
            (
              tt,
              record {
                middle = at 9 0 (Looked ∷ Assigned ∷ BothAhead ∷ BothAhead ∷ AssignmentAhead ∷ []);
                first = record {
                  of_type = refl;
                  own = refl;
                  stands = refl;
                  is = refl;
                  touches = record { old = AssignmentAhead; there = refl; new = Assigned; is = refl; rest = refl };
                };
                second = refl;
              },
            ),
          );
          done = at 10 0 (Looked ∷ Assigned ∷ Assigned ∷ Assigned ∷ AssignmentAhead ∷ []);
          does = record {
            block = RTrig;
            is_block = refl;
            word = 1;
            members = (refl, (refl, (refl, (refl, (refl, (refl, tt))))));
            stands = refl;
            looked = (Looked ∷ Assigned ∷ LookedAssignmentAhead ∷ LookedAssignmentAhead ∷ AssignmentAhead ∷ []);
            looks = (
              (Looked ∷ Assigned ∷ BothAhead ∷ BothAhead ∷ AssignmentAhead ∷ []),
              (
                record { old = Assigned; there = refl; new = Assigned; is = refl; rest = refl },
                (
                  (Looked ∷ Assigned ∷ LookedAssignmentAhead ∷ BothAhead ∷ AssignmentAhead ∷ []),
                  (
                    record { old = BothAhead; there = refl; new = LookedAssignmentAhead; is = refl; rest = refl },
                    (
                      (Looked ∷ Assigned ∷ LookedAssignmentAhead ∷ LookedAssignmentAhead ∷ AssignmentAhead ∷ []),
                      (
                        record { old = BothAhead; there = refl; new = LookedAssignmentAhead; is = refl; rest = refl },
                        refl,
                      ),
                    ),
                  ),
                ),
              ),
            );
            is = refl;
            assigns = (
              (Looked ∷ Assigned ∷ LookedAssignmentAhead ∷ LookedAssignmentAhead ∷ AssignmentAhead ∷ []),
              (
                record { old = Assigned; there = refl; new = Assigned; is = refl; rest = refl },
                (
                  (Looked ∷ Assigned ∷ Assigned ∷ LookedAssignmentAhead ∷ AssignmentAhead ∷ []),
                  (
                    record { old = LookedAssignmentAhead; there = refl; new = Assigned; is = refl; rest = refl },
                    (
                      (Looked ∷ Assigned ∷ Assigned ∷ Assigned ∷ AssignmentAhead ∷ []),
                      (
                        record { old = LookedAssignmentAhead; there = refl; new = Assigned; is = refl; rest = refl },
                        refl,
                      ),
                    ),
                  ),
                ),
              ),
            );
          };
          copies = record {
            middle = at 10 0 (Looked ∷ Assigned ∷ Assigned ∷ Assigned ∷ AssignmentAhead ∷ []);
            first = record { notes = []; all = refl };
            second = record {
              middle = at 11 0 (Looked ∷ Assigned ∷ Assigned ∷ Assigned ∷ Assigned ∷ []);
              first = record {
                kind = Boolean;
                word = 2;
                looked = at 10 0 (Looked ∷ Assigned ∷ Assigned ∷ Assigned ∷ AssignmentAhead ∷ []);
                looks = record {
                  of_type = refl;
                  has = refl;
                  is = refl;
                  touches = record { old = Assigned; there = refl; new = Assigned; is = refl; rest = refl };
                };
                to = 4;
                gives = record {
                  of_type = refl;
                  own = refl;
                  stands = refl;
                  is = refl;
                  touches = record { old = AssignmentAhead; there = refl; new = Assigned; is = refl; rest = refl };
                };
              };
              second = refl;
            };
          };
        };
      };
      second = record {
        place = refl;
        ahead = refl;
        noted = each_tells (Looked ∷ Assigned ∷ Assigned ∷ Assigned ∷ Assigned ∷ []) (Looked ∷ Assigned ∷
            Assigned ∷ Assigned ∷ Assigned ∷ []) (refl, (refl, (refl, (refl, (refl, tt)))));
      };
    };
  };
  joins = inl (record {
    place = refl;
    ahead = refl;
    noted = each_tells (Looked ∷ Assigned ∷ Assigned ∷ Assigned ∷ Assigned ∷ []) (Exact ∷ Exact ∷ Exact ∷ Exact
        ∷ Exact ∷ []) (refl, (refl, (refl, (refl, (refl, tt)))));
  });
  ends = refl;
}

pub returns-clause-program : goal.returns-clause-program
unfolding marked_ran marked_units_within
returns-clause-program c = refl
