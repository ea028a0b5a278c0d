use Rattle.std.proofs.Common.{pos, [], ◌∷◌, refl}
use Rattle.std.proofs.Common.{inl, inr}
use Rattle.st_types.specs.declared.kind.Kind.TheVariants.{Int}
use Rattle.machine_code.specs.MarkedEvaluation.{marked_truth}
use Rattle.machine_code.specs.MarkedExecution.{marked_loop, marked_turns}
use Rattle.machine_code.specs.MarkedRuns.{marked_ran, marked_units_within}
use Rattle.quick_trees.specs.declared.noting.Noting.TheVariants.{Exact, LookAhead, BothAhead}
use Rattle.quick_trees.specs.declared.noting.Noting.TheVariants.{Looked, LookedAssignmentAhead, Assigned}
use Rattle.quick_trees.specs.Example.{way}
use Rattle.quick_trees.specs.Points.{assignment_of, look_of}
use Rattle.quick_trees.proofs.Tellings.{at, each_tells}
use Rattle.machine_code.specs.MarkedExecution.{marked_until}
use Rattle.quick_code.specs.declared.quick_instr.QuickInstr.TheVariants.{AddIntBy, JumpIfAtMost, JumpIfNotEqualConst}
use Rattle.quick_trees.proofs.examples.a_repeat_in_quick_code.Goals as goal

pub returns-clause-stands : goal.returns-clause-stands
returns-clause-stands c = record {
  way = way 1 3;
  begins = refl;
  end = at 8 0 (Exact ∷ Exact ∷ []);
  last = at 8 0 (Exact ∷ Exact ∷ []);
  last_is = refl;
  stands = record {
    middle = at 1 3 (Exact ∷ Exact ∷ []);
    first = record { notes = []; all = refl };
    second = record {
      middle = at 8 0 (Exact ∷ Exact ∷ []);
      first = record {
        behind = 2;
        ticks = refl;
        rest = record {
          noted = at 4 2 (BothAhead ∷ LookAhead ∷ []);
          notes = record {
            notes = (look_of 0 ∷ assignment_of 0 ∷ look_of 1 ∷ []);
            all = (
              at 2 2 (LookAhead ∷ Exact ∷ []),
              (
                (refl, (refl, record { old = Exact; there = refl; new = LookAhead; is = refl; rest = refl })),
                (
                  at 3 2 (BothAhead ∷ Exact ∷ []),
                  (
                    (refl, (refl, record { old = LookAhead; there = refl; new = BothAhead; is = refl; rest = refl })),
                    (
                      at 4 2 (BothAhead ∷ LookAhead ∷ []),
                      (
                        (refl, (refl, record { old = Exact; there = refl; new = LookAhead; is = refl; rest = refl })),
                        refl,
                      ),
                    ),
                  ),
                ),
              ),
            );
          };
          head = at 4 2 (BothAhead ∷ LookAhead ∷ []);
          begins = record {
            place = refl;
            ahead = refl;
            noted = each_tells (BothAhead ∷ LookAhead ∷ []) (BothAhead ∷ LookAhead ∷ []) (refl, (refl, tt));
          };
          end = at 7 0 (Assigned ∷ Looked ∷ []);
          body = record {
            middle = at 4 2 (BothAhead ∷ LookAhead ∷ []);
            first = record { notes = []; all = refl };
            second = record {
              middle = at 5 1 (Assigned ∷ LookAhead ∷ []);
              first = record {
                behind = 1;
                ticks = refl;
                rest = record {
                  kind = Int;
                  target = refl;
                  word = 0;
                  own = refl;
                  made = at 5 1 (LookedAssignmentAhead ∷ LookAhead ∷ []);
                  makes = inr (inr (inl (record {
                    left = 0;
                    word = pos 1;
                    last = at 4 1 (LookedAssignmentAhead ∷ LookAhead ∷ []);
                    reads = record {
                      of_type = refl;
                      has = refl;
                      is = refl;
                      touches = record {
                        old = BothAhead;
                        there = refl;
                        new = LookedAssignmentAhead;
                        is = refl;
                        rest = refl;
                      };
                    };
                    number = (refl, refl);
                    stands = record { instr = AddIntBy 0 (pos 1) 0; is = refl; at = refl };
                    next = refl;
                  })));
                  is = refl;
                  touches = record {
                    old = LookedAssignmentAhead;
                    there = refl;
                    new = Assigned;
                    is = refl;
                    rest = refl;
                  };
                };
              };
              second = record {
                middle = at 5 1 (Assigned ∷ LookAhead ∷ []);
                first = record { notes = []; all = refl };
                second = record {
                  middle = at 7 0 (Assigned ∷ Looked ∷ []);
                  first = record {
                    behind = 0;
                    ticks = refl;
                    rest = inr (record {
                      middle = at 5 0 (Assigned ∷ LookAhead ∷ []);
                      first = record { notes = []; all = refl };
                      second = record {
                        test = at 5 0 (Assigned ∷ Looked ∷ []);
                        way = way 7 0;
                        past = 1;
                        tested = inl (record {
                          kind = Int;
                          left = 0;
                          right = 1;
                          reads = record {
                            middle = at 5 0 (Assigned ∷ LookAhead ∷ []);
                            first = record {
                              of_type = refl;
                              has = refl;
                              is = refl;
                              touches = record {
                                old = Assigned;
                                there = refl;
                                new = Assigned;
                                is = refl;
                                rest = refl;
                              };
                            };
                            second = record {
                              of_type = refl;
                              has = refl;
                              is = refl;
                              touches = record {
                                old = LookAhead;
                                there = refl;
                                new = Looked;
                                is = refl;
                                rest = refl;
                              };
                            };
                          };
                          stands = record { instr = JumpIfAtMost 0 1 (way 7 0) 1; is = refl; at = refl };
                        });
                        end = at 7 0 (Assigned ∷ Looked ∷ []);
                        body = record {
                          middle = at 6 1 (Assigned ∷ Looked ∷ []);
                          first = record { notes = []; all = refl };
                          second = record {
                            middle = at 7 0 (Assigned ∷ Looked ∷ []);
                            first = record {
                              behind = 0;
                              ticks = refl;
                              rest = inr (record {
                                way = way 8 0;
                                stands = refl;
                                meets = record {
                                  place = refl;
                                  ahead = refl;
                                  noted = each_tells (Assigned ∷ Looked ∷ []) (Exact ∷ Exact ∷ []) (refl, (refl, tt));
                                };
                              });
                            };
                            second = record {
                              place = refl;
                              ahead = refl;
                              noted = each_tells (Assigned ∷ Looked ∷ []) (Assigned ∷ Looked ∷ []) (refl, (refl, tt));
                            };
                          };
                        };
                        joins = inl (record {
                          place = refl;
                          ahead = refl;
                          noted = each_tells (Assigned ∷ Looked ∷ []) (Assigned ∷ Looked ∷ []) (refl, (refl, tt));
                        });
                        rest = record {
                          place = refl;
                          ahead = refl;
                          noted = each_tells (Assigned ∷ Looked ∷ []) (Assigned ∷ Looked ∷ []) (refl, (refl, tt));
                        };
                      };
                    });
                  };
                  second = record {
                    place = refl;
                    ahead = refl;
                    noted = each_tells (Assigned ∷ Looked ∷ []) (Assigned ∷ Looked ∷ []) (refl, (refl, tt));
                  };
                };
              };
            };
          };
          foot = at 7 0 (Assigned ∷ Looked ∷ []);
          back = way 4 3;
          after = 0;
          asked = inr (inl (record {
            kind = Int;
            left = 0;
            word = pos 5;
            reads = record {
              of_type = refl;
              has = refl;
              is = refl;
              touches = record { old = Assigned; there = refl; new = Assigned; is = refl; rest = refl };
            };
            number = (refl, refl);
            stands = record { instr = JumpIfNotEqualConst 0 (pos 5) (way 4 3) 0; is = refl; at = refl };
          }));
          again = record {
            place = refl;
            ahead = refl;
            noted = each_tells (Assigned ∷ Looked ∷ []) (BothAhead ∷ LookAhead ∷ []) (refl, (refl, tt));
          };
          behind = record {
            place = refl;
            ahead = refl;
            noted = each_tells (Assigned ∷ Looked ∷ []) (Exact ∷ Exact ∷ []) (refl, (refl, tt));
          };
        };
      };
      second = record {
        place = refl;
        ahead = refl;
        noted = each_tells (Exact ∷ Exact ∷ []) (Exact ∷ Exact ∷ []) (refl, (refl, tt));
      };
    };
  };
  joins = inl (record {
    place = refl;
    ahead = refl;
    noted = each_tells (Exact ∷ Exact ∷ []) (Exact ∷ Exact ∷ []) (refl, (refl, tt));
  });
  ends = refl;
}

pub returns-clause-program : goal.returns-clause-program
unfolding marked_ran marked_units_within marked_truth marked_loop marked_turns marked_until
returns-clause-program c = refl

pub returns-clause-program_through : goal.returns-clause-program_through
unfolding marked_ran marked_units_within marked_truth marked_loop marked_turns marked_until
returns-clause-program_through c = refl
