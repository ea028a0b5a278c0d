use Rattle.std.proofs.Common.{◌≡◌, ℕ, zero, suc, ◌+◌, ◌*◌, ◌<◌, pos, negsuc, List, [], ◌∷◌, Some, refl}
use Rattle.std.proofs.Common.{ap, arith, inl}
use Rattle.std.specs.Prelude.{slice_get}
use Rattle.st_types.specs.declared.kind.Kind.TheVariants.{Int}
use Rattle.machine_code.specs.MarkedExecution.{marked_guarded, marked_loop, marked_runs_on, marked_step_on, marked_turns}
use Rattle.machine_code.specs.MarkedRuns.{marked_ran, marked_units_within}
use Rattle.quick_trees.specs.declared.pace.Pace.TheVariants.{Literal}
use Rattle.quick_trees.specs.declared.noting.Noting.TheVariants.{Exact, LookAhead, AssignmentAhead, BothAhead}
use Rattle.quick_trees.specs.declared.noting.Noting.TheVariants.{LookedAssignmentAhead, Assigned}
use Rattle.quick_trees.specs.Example.{int, way}
use Rattle.quick_trees.specs.Points.{assignment_of, look_of}
use Rattle.quick_trees.proofs.Tellings.{at, each_tells}
use Rattle.std.proofs.Common.{ℤ}
use Rattle.quick_code.specs.declared.quick_instr.QuickInstr.TheVariants.{AddInt}
use Rattle.quick_trees.specs.declared.noting.Noting.{Noting}
use Rattle.quick_trees.specs.LoopExample.{loop_frame}
use Rattle.quick_trees.specs.Pieces.{AreElements}
use Rattle.quick_trees.specs.UnitValues.{whole}
use Rattle.quick_trees.proofs.examples.a_loop_in_quick_code.Goals as goal

abbrev magnitude : ℤ → ℕ
magnitude (pos n) = n
magnitude (negsuc n) = 0

-- nothing is known of the notes of the elements
abbrev AreExact : List Noting → Type 0
AreExact ns = (slice_get ns 2 ≡ Some Exact) × ((slice_get ns 3 ≡ Some Exact) × (slice_get ns 4 ≡ Some Exact))

elements : (ns : List Noting) → AreExact ns → AreElements loop_frame (whole 0) ns 2 3 1 2 Int
elements ns are = record { each = each; words = words; exact = exact }
  where
    each : (j : ℕ) → j < 3 → slice_get loop_frame.kinds (2 + j * 1) ≡ Some Int
    each zero lt = refl
    each (suc zero) lt = refl
    each (suc (suc zero)) lt = refl
    each (suc (suc (suc j))) lt = absurd (omega arith)

    words : (j : ℕ) → j < 3 → slice_get loop_frame.window (2 + j * 1) ≡ Some (2 + j * 1)
    words zero lt = refl
    words (suc zero) lt = refl
    words (suc (suc zero)) lt = refl
    words (suc (suc (suc j))) lt = absurd (omega arith)

    exact : (j : ℕ) → j < 3 → slice_get ns (2 + j * 1) ≡ Some Exact
    exact zero lt = are.0
    exact (suc zero) lt = are.1.0
    exact (suc (suc zero)) lt = are.1.1
    exact (suc (suc (suc j))) lt = absurd (omega arith)

-- a temporary is the word of no slot
no_word : (j : ℕ) → slice_get loop_frame.window 6 ≡ Some j → ⊥
no_word j own = cc

pub returns-clause-stands : goal.returns-clause-stands
returns-clause-stands c = record {
  way = way 1 1;
  begins = refl;
  end = at 11 0 (Exact ∷ Exact ∷ Exact ∷ Exact ∷ Exact ∷ []);
  last = at 11 0 (Exact ∷ Exact ∷ Exact ∷ Exact ∷ Exact ∷ []);
  last_is = refl;
  stands = record {
    middle = at 2 1 (AssignmentAhead ∷ Exact ∷ Exact ∷ Exact ∷ Exact ∷ []);
    first = record {
      notes = (assignment_of 0 ∷ []);
      all = (
        at 2 1 (AssignmentAhead ∷ Exact ∷ Exact ∷ Exact ∷ Exact ∷ []),
        ((refl, (refl, record { old = Exact; there = refl; new = AssignmentAhead; is = refl; rest = refl })), refl),
      );
    };
    second = record {
      middle = at 11 0 (Exact ∷ Exact ∷ Exact ∷ Exact ∷ Exact ∷ []);
      first = record {
        behind = 0;
        ticks = refl;
        rest = record {
          kind = Int;
          target = refl;
          control = 0;
          own = refl;
          from = 5;
          to = 6;
          middle = at 2 0 (AssignmentAhead ∷ Exact ∷ Exact ∷ Exact ∷ Exact ∷ []);
          bounded = at 2 0 (AssignmentAhead ∷ Exact ∷ Exact ∷ Exact ∷ Exact ∷ []);
          move = at 2 0 (AssignmentAhead ∷ Exact ∷ Exact ∷ Exact ∷ Exact ∷ []);
          first = (
            refl,
            record { value = int 1; of_literal = refl; of_type = refl; index = 0; among = refl; place = refl },
          );
          second = record {
            kept = inl (
              refl,
              record { value = int 3; of_literal = refl; of_type = refl; index = 1; among = refl; place = refl },
            );
            stays = λ j lt own. no_word j own;
          };
          pace = Literal (pos 1);
          third = (
            refl,
            record {
              is = refl;
              moves = λ e. (let is : 1 ≡ 0 = ap magnitude e in omega arith);
              small = refl;
            },
          );
          assigned = refl;
          test = at 3 0 (Assigned ∷ Exact ∷ Exact ∷ Exact ∷ Exact ∷ []);
          assigns = refl;
          touches = record { old = AssignmentAhead; there = refl; new = Assigned; is = refl; rest = refl };
          way = way 11 0;
          past = 2;
          asked = 3;
          tested = (refl, refl);
          over = record {
            place = refl;
            ahead = refl;
            noted = each_tells (Assigned ∷ Exact ∷ Exact ∷ Exact ∷ Exact ∷ []) (Exact ∷ Exact ∷ Exact ∷ Exact ∷ Exact
                ∷ []) (
                  refl,
                  (refl, (refl, (refl, (refl, tt)))),
                );
          };
          noted = at 6 2 (Assigned ∷ BothAhead ∷ Exact ∷ Exact ∷ Exact ∷ []);
          notes = record {
            notes = (look_of 1 ∷ assignment_of 1 ∷ []);
            all = (
              at 5 2 (Assigned ∷ LookAhead ∷ Exact ∷ Exact ∷ Exact ∷ []),
              (
                (refl, (refl, record { old = Exact; there = refl; new = LookAhead; is = refl; rest = refl })),
                (
                  at 6 2 (Assigned ∷ BothAhead ∷ Exact ∷ Exact ∷ Exact ∷ []),
                  (
                    (refl, (refl, record { old = LookAhead; there = refl; new = BothAhead; is = refl; rest = refl })),
                    refl,
                  ),
                ),
              ),
            );
          };
          head = at 6 2 (Assigned ∷ BothAhead ∷ Exact ∷ Exact ∷ Exact ∷ []);
          begins = record {
            place = refl;
            ahead = refl;
            noted = each_tells (Assigned ∷ BothAhead ∷ Exact ∷ Exact ∷ Exact ∷ [])
                (Assigned ∷ BothAhead ∷ Exact ∷ Exact ∷ Exact ∷ []) (
                  refl,
                  (refl, (refl, (refl, (refl, tt)))),
                );
          };
          end = at 10 0 (Assigned ∷ Assigned ∷ Exact ∷ Exact ∷ Exact ∷ []);
          body = record {
            middle = at 6 2 (Assigned ∷ BothAhead ∷ Exact ∷ Exact ∷ Exact ∷ []);
            first = record { notes = []; all = refl };
            second = record {
              middle = at 9 1 (Assigned ∷ LookedAssignmentAhead ∷ Exact ∷ Exact ∷ Exact ∷ []);
              first = record {
                behind = 1;
                ticks = refl;
                rest = record {
                  kind = Int;
                  from = 9;
                  middle = at 8 1 (Assigned ∷ LookedAssignmentAhead ∷ Exact ∷ Exact ∷ Exact ∷ []);
                  value = (
                    record { depth = refl; there = omega arith },
                    inl (record {
                      left = 9;
                      right = 1;
                      last = at 7 1 (Assigned ∷ LookedAssignmentAhead ∷ Exact ∷ Exact ∷ Exact ∷ []);
                      reads = record {
                        middle = at 7 1 (Assigned ∷ BothAhead ∷ Exact ∷ Exact ∷ Exact ∷ []);
                        first = (
                          record { depth = refl; there = omega arith },
                          record {
                            index = 0;
                            shift = negsuc 0;
                            last = at 6 1 (Assigned ∷ BothAhead ∷ Exact ∷ Exact ∷ Exact ∷ []);
                            subscript = record {
                              kind = Int;
                              narrow = refl;
                              added = pos 0;
                              reads = inl (
                                refl,
                                record {
                                  of_type = refl;
                                  has = refl;
                                  is = refl;
                                  touches = record {
                                    old = Assigned;
                                    there = refl;
                                    new = Assigned;
                                    is = refl;
                                    rest = refl;
                                  };
                                },
                              );
                              fits = inl refl;
                              from_lower = refl;
                            };
                            word = 2;
                            elements = elements (Assigned ∷ BothAhead ∷ Exact ∷ Exact ∷ Exact ∷ []) (
                              refl,
                              (refl, refl),
                            );
                            loads = inl (refl, refl);
                            next = refl;
                          },
                        );
                        second = record {
                          of_type = refl;
                          has = refl;
                          is = refl;
                          touches = record {
                            old = BothAhead;
                            there = refl;
                            new = LookedAssignmentAhead;
                            is = refl;
                            rest = refl;
                          };
                        };
                      };
                      stands = record { instr = AddInt 9 1 9; is = refl; at = refl };
                      next = refl;
                    }),
                  );
                  at = 0;
                  shift = negsuc 0;
                  last = at 8 1 (Assigned ∷ LookedAssignmentAhead ∷ Exact ∷ Exact ∷ Exact ∷ []);
                  subscript = record {
                    kind = Int;
                    narrow = refl;
                    added = pos 0;
                    reads = inl (
                      refl,
                      record {
                        of_type = refl;
                        has = refl;
                        is = refl;
                        touches = record { old = Assigned; there = refl; new = Assigned; is = refl; rest = refl };
                      },
                    );
                    fits = inl refl;
                    from_lower = refl;
                  };
                  word = 2;
                  elements = elements (Assigned ∷ LookedAssignmentAhead ∷ Exact ∷ Exact ∷ Exact ∷ []) (
                    refl,
                    (refl, refl),
                  );
                  stores = inl (refl, refl);
                  is = refl;
                };
              };
              second = record {
                middle = at 9 1 (Assigned ∷ LookedAssignmentAhead ∷ Exact ∷ Exact ∷ Exact ∷ []);
                first = record { notes = []; all = refl };
                second = record {
                  middle = at 10 0 (Assigned ∷ Assigned ∷ Exact ∷ Exact ∷ Exact ∷ []);
                  first = record {
                    behind = 0;
                    ticks = refl;
                    rest = record {
                      kind = Int;
                      target = refl;
                      word = 1;
                      own = refl;
                      made = at 10 0 (Assigned ∷ LookedAssignmentAhead ∷ Exact ∷ Exact ∷ Exact ∷ []);
                      makes = record {
                        index = 0;
                        shift = negsuc 0;
                        last = at 9 0 (Assigned ∷ LookedAssignmentAhead ∷ Exact ∷ Exact ∷ Exact ∷ []);
                        subscript = record {
                          kind = Int;
                          narrow = refl;
                          added = pos 0;
                          reads = inl (
                            refl,
                            record {
                              of_type = refl;
                              has = refl;
                              is = refl;
                              touches = record { old = Assigned; there = refl; new = Assigned; is = refl; rest = refl };
                            },
                          );
                          fits = inl refl;
                          from_lower = refl;
                        };
                        word = 2;
                        elements = elements (Assigned ∷ LookedAssignmentAhead ∷ Exact ∷ Exact ∷ Exact ∷ []) (
                          refl,
                          (refl, refl),
                        );
                        loads = inl (refl, refl);
                        next = refl;
                      };
                      is = refl;
                      touches = record {
                        old = LookedAssignmentAhead;
                        there = refl;
                        new = Assigned;
                        is = refl;
                        rest = refl;
                      };
                    };
                  };
                  second = record {
                    place = refl;
                    ahead = refl;
                    noted = each_tells (Assigned ∷ Assigned ∷ Exact ∷ Exact ∷ Exact ∷ [])
                        (Assigned ∷ Assigned ∷ Exact ∷ Exact ∷ Exact ∷ []) (
                          refl,
                          (refl, (refl, (refl, (refl, tt)))),
                        );
                  };
                };
              };
            };
          };
          known = refl;
          back = way 6 3;
          after = 1;
          foot = _;
          counts = inl (refl, inl (refl, refl));
          again = record {
            place = refl;
            ahead = refl;
            noted = each_tells (Assigned ∷ Assigned ∷ Exact ∷ Exact ∷ Exact ∷ [])
                (Assigned ∷ BothAhead ∷ Exact ∷ Exact ∷ Exact ∷ []) (
                  refl,
                  (refl, (refl, (refl, (refl, tt)))),
                );
          };
          behind = record {
            place = refl;
            ahead = refl;
            noted = each_tells (Assigned ∷ Assigned ∷ Exact ∷ Exact ∷ Exact ∷ [])
                (Exact ∷ Exact ∷ Exact ∷ Exact ∷ Exact ∷ []) (
                  refl,
                  (refl, (refl, (refl, (refl, tt)))),
                );
          };
        };
      };
      second = record {
        place = refl;
        ahead = refl;
        noted = each_tells (Exact ∷ Exact ∷ Exact ∷ Exact ∷ Exact ∷ []) (Exact ∷ Exact ∷ Exact ∷ Exact ∷ Exact ∷ []) (
          refl,
          (refl, (refl, (refl, (refl, tt)))),
        );
      };
    };
  };
  joins = inl (record {
    place = refl;
    ahead = refl;
    noted = each_tells (Exact ∷ Exact ∷ Exact ∷ Exact ∷ Exact ∷ []) (Exact ∷ Exact ∷ Exact ∷ Exact ∷ Exact ∷ []) (
      refl,
      (refl, (refl, (refl, (refl, tt)))),
    );
  });
  ends = refl;
}

pub returns-clause-program : goal.returns-clause-program
unfolding marked_ran marked_units_within marked_loop marked_turns marked_guarded marked_runs_on marked_step_on
returns-clause-program c = refl
