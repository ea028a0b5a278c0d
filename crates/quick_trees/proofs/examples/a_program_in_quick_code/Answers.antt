use Rattle.std.proofs.Common.{[], ◌∷◌, refl}
use Rattle.std.proofs.Common.{inl, inr}
use Rattle.st_types.specs.declared.kind.Kind.TheVariants.{Int}
use Rattle.machine_code.specs.MarkedEvaluation.{marked_truth}
use Rattle.machine_code.specs.MarkedExecution.{marked_guarded, marked_loop, marked_turns}
use Rattle.machine_code.specs.MarkedRuns.{marked_ran, marked_units_within}
use Rattle.quick_trees.specs.declared.noting.Noting.TheVariants.{Exact, LookAhead}
use Rattle.quick_trees.specs.declared.noting.Noting.TheVariants.{Looked, LookedAssignmentAhead, Assigned}
use Rattle.quick_trees.specs.Example.{int, way}
use Rattle.quick_trees.specs.Points.{assignment_of, look_of}
use Rattle.quick_trees.proofs.Tellings.{at, each_tells}
use Rattle.quick_code.specs.declared.quick_instr.QuickInstr.TheVariants.{AddInt, JumpIfAtMost, JumpIfLess}
use Rattle.quick_trees.proofs.examples.a_program_in_quick_code.Goals as goal

pub returns-clause-stands : goal.returns-clause-stands
returns-clause-stands c = record {
  way = way 1 1;
  begins = refl;
  end = at 10 0 (Exact ∷ Exact ∷ []);
  last = at 10 0 (Exact ∷ Exact ∷ []);
  last_is = refl;
  stands = record {
    middle = at 2 1 (LookAhead ∷ Exact ∷ []);
    first = record {
      notes = (look_of 0 ∷ []);
      all = (
        at 2 1 (LookAhead ∷ Exact ∷ []),
        ((refl, (refl, record { old = Exact; there = refl; new = LookAhead; is = refl; rest = refl })), refl),
      );
    };
    second = record {
      middle = at 10 0 (Exact ∷ Exact ∷ []);
      first = record {
        behind = 0;
        ticks = refl;
        rest = record {
          test = at 2 0 (Looked ∷ Exact ∷ []);
          way = way 10 0;
          past = 1;
          tested = inl (record {
            kind = Int;
            left = 0;
            right = 2;
            reads = record {
              middle = at 2 0 (Looked ∷ Exact ∷ []);
              first = record {
                of_type = refl;
                has = refl;
                is = refl;
                touches = record { old = LookAhead; there = refl; new = Looked; is = refl; rest = refl };
              };
              second = (
                refl,
                record { value = int 10; of_literal = refl; of_type = refl; index = 0; among = refl; place = refl },
              );
            };
            stands = record { instr = JumpIfAtMost 2 0 (way 10 0) 1; is = refl; at = refl };
          });
          over = record {
            place = refl;
            ahead = refl;
            noted = each_tells (Looked ∷ Exact ∷ []) (Exact ∷ Exact ∷ []) (refl, (refl, tt));
          };
          noted = at 5 1 (LookedAssignmentAhead ∷ LookAhead ∷ []);
          notes = record {
            notes = (look_of 1 ∷ assignment_of 0 ∷ []);
            all = (
              at 4 1 (Looked ∷ LookAhead ∷ []),
              (
                (refl, (refl, record { old = Exact; there = refl; new = LookAhead; is = refl; rest = refl })),
                (
                  at 5 1 (LookedAssignmentAhead ∷ LookAhead ∷ []),
                  (
                    (
                      refl,
                      (
                        refl,
                        record { old = Looked; there = refl; new = LookedAssignmentAhead; is = refl; rest = refl },
                      ),
                    ),
                    refl,
                  ),
                ),
              ),
            );
          };
          head = at 5 1 (LookedAssignmentAhead ∷ LookAhead ∷ []);
          begins = record {
            place = refl;
            ahead = refl;
            noted = each_tells (LookedAssignmentAhead ∷ LookAhead ∷ []) (LookedAssignmentAhead ∷ LookAhead ∷ []) (
              refl,
              (refl, tt),
            );
          };
          end = at 9 1 (Assigned ∷ Looked ∷ []);
          body = record {
            middle = at 5 1 (LookedAssignmentAhead ∷ LookAhead ∷ []);
            first = record { notes = []; all = refl };
            second = record {
              middle = at 9 1 (Assigned ∷ Looked ∷ []);
              first = record {
                behind = 0;
                ticks = refl;
                rest = inr (record {
                  middle = at 5 0 (LookedAssignmentAhead ∷ LookAhead ∷ []);
                  first = record { notes = []; all = refl };
                  second = record {
                    test = at 5 0 (LookedAssignmentAhead ∷ Looked ∷ []);
                    way = way 8 2;
                    past = 2;
                    tested = inl (record {
                      kind = Int;
                      left = 0;
                      right = 1;
                      reads = record {
                        middle = at 5 0 (LookedAssignmentAhead ∷ LookAhead ∷ []);
                        first = record {
                          of_type = refl;
                          has = refl;
                          is = refl;
                          touches = record {
                            old = LookedAssignmentAhead;
                            there = refl;
                            new = LookedAssignmentAhead;
                            is = refl;
                            rest = refl;
                          };
                        };
                        second = record {
                          of_type = refl;
                          has = refl;
                          is = refl;
                          touches = record { old = LookAhead; there = refl; new = Looked; is = refl; rest = refl };
                        };
                      };
                      stands = record { instr = JumpIfAtMost 1 0 (way 8 2) 2; is = refl; at = refl };
                    });
                    end = at 7 1 (Assigned ∷ Looked ∷ []);
                    body = record {
                      middle = at 6 2 (LookedAssignmentAhead ∷ Looked ∷ []);
                      first = record { notes = []; all = refl };
                      second = record {
                        middle = at 7 1 (Assigned ∷ Looked ∷ []);
                        first = record {
                          behind = 1;
                          ticks = refl;
                          rest = record {
                            kind = Int;
                            target = refl;
                            word = 0;
                            own = refl;
                            made = at 7 1 (LookedAssignmentAhead ∷ Looked ∷ []);
                            makes = inl (record {
                              left = 0;
                              right = 1;
                              last = at 6 1 (LookedAssignmentAhead ∷ Looked ∷ []);
                              reads = record {
                                middle = at 6 1 (LookedAssignmentAhead ∷ Looked ∷ []);
                                first = record {
                                  of_type = refl;
                                  has = refl;
                                  is = refl;
                                  touches = record {
                                    old = LookedAssignmentAhead;
                                    there = refl;
                                    new = LookedAssignmentAhead;
                                    is = refl;
                                    rest = refl;
                                  };
                                };
                                second = record {
                                  of_type = refl;
                                  has = refl;
                                  is = refl;
                                  touches = record {
                                    old = Looked;
                                    there = refl;
                                    new = Looked;
                                    is = refl;
                                    rest = refl;
                                  };
                                };
                              };
                              stands = record { instr = AddInt 0 1 0; is = refl; at = refl };
                              next = refl;
                            });
                            is = refl;
                            touches = record {
                              old = LookedAssignmentAhead;
                              there = refl;
                              new = Assigned;
                              is = refl;
                              rest = refl;
                            };
                          };
                        };
                        second = record {
                          place = refl;
                          ahead = refl;
                          noted = each_tells (Assigned ∷ Looked ∷ []) (Assigned ∷ Looked ∷ []) (refl, (refl, tt));
                        };
                      };
                    };
                    joins = inr (record {
                      way = way 9 0;
                      stands = refl;
                      meets = record {
                        place = refl;
                        ahead = refl;
                        noted = each_tells (Assigned ∷ Looked ∷ []) (Assigned ∷ Looked ∷ []) (refl, (refl, tt));
                      };
                    });
                    rest = record {
                      middle = at 8 2 (LookedAssignmentAhead ∷ Looked ∷ []);
                      first = record { notes = []; all = refl };
                      second = record {
                        middle = at 9 1 (Assigned ∷ Looked ∷ []);
                        first = record {
                          behind = 1;
                          ticks = refl;
                          rest = record {
                            kind = Int;
                            target = refl;
                            word = 0;
                            own = refl;
                            made = at 9 1 (LookedAssignmentAhead ∷ Looked ∷ []);
                            makes = inl (record {
                              left = 0;
                              right = 3;
                              last = at 8 1 (LookedAssignmentAhead ∷ Looked ∷ []);
                              reads = record {
                                middle = at 8 1 (LookedAssignmentAhead ∷ Looked ∷ []);
                                first = record {
                                  of_type = refl;
                                  has = refl;
                                  is = refl;
                                  touches = record {
                                    old = LookedAssignmentAhead;
                                    there = refl;
                                    new = LookedAssignmentAhead;
                                    is = refl;
                                    rest = refl;
                                  };
                                };
                                second = (
                                  refl,
                                  record {
                                    value = int 1;
                                    of_literal = refl;
                                    of_type = refl;
                                    index = 1;
                                    among = refl;
                                    place = refl;
                                  },
                                );
                              };
                              stands = record { instr = AddInt 0 3 0; is = refl; at = refl };
                              next = refl;
                            });
                            is = refl;
                            touches = record {
                              old = LookedAssignmentAhead;
                              there = refl;
                              new = Assigned;
                              is = refl;
                              rest = refl;
                            };
                          };
                        };
                        second = record {
                          place = refl;
                          ahead = refl;
                          noted = each_tells (Assigned ∷ Looked ∷ []) (Assigned ∷ Looked ∷ []) (refl, (refl, tt));
                        };
                      };
                    };
                  };
                });
              };
              second = record {
                place = refl;
                ahead = refl;
                noted = each_tells (Assigned ∷ Looked ∷ []) (Assigned ∷ Looked ∷ []) (refl, (refl, tt));
              };
            };
          };
          turn = 0;
          tick = refl;
          foot = at 9 0 (Assigned ∷ Looked ∷ []);
          back = way 5 1;
          after = 0;
          asked = inl (record {
            kind = Int;
            left = 0;
            right = 2;
            reads = record {
              middle = at 9 0 (Assigned ∷ Looked ∷ []);
              first = record {
                of_type = refl;
                has = refl;
                is = refl;
                touches = record { old = Assigned; there = refl; new = Assigned; is = refl; rest = refl };
              };
              second = (
                refl,
                record { value = int 10; of_literal = refl; of_type = refl; index = 0; among = refl; place = refl },
              );
            };
            stands = record { instr = JumpIfLess 0 2 (way 5 1) 0; is = refl; at = refl };
          });
          again = record {
            place = refl;
            ahead = refl;
            noted = each_tells (Assigned ∷ Looked ∷ []) (LookedAssignmentAhead ∷ LookAhead ∷ []) (refl, (refl, tt));
          };
          behind = record {
            place = refl;
            ahead = refl;
            noted = each_tells (Assigned ∷ Looked ∷ []) (Exact ∷ Exact ∷ []) (refl, (refl, tt));
          };
        };
      };
      second = record {
        place = refl;
        ahead = refl;
        noted = each_tells (Exact ∷ Exact ∷ []) (Exact ∷ Exact ∷ []) (refl, (refl, tt));
      };
    };
  };
  joins = inl (record {
    place = refl;
    ahead = refl;
    noted = each_tells (Exact ∷ Exact ∷ []) (Exact ∷ Exact ∷ []) (refl, (refl, tt));
  });
  ends = refl;
}

pub returns-clause-program : goal.returns-clause-program
unfolding marked_ran marked_units_within marked_truth marked_loop marked_turns marked_guarded
returns-clause-program c = refl
