use Rattle.std.proofs.Common.{◌≡◌, ℕ, zero, suc, ◌<◌, pos, negsuc, List, [], ◌∷◌, Some, true, false, refl, sym}
use Rattle.std.proofs.Common.{ap, subst, arith, inl, inr, ◌∙◌}
use Rattle.std.specs.Prelude.{slice_get}
use Rattle.st_types.specs.declared.kind.Kind.TheVariants.{Int}
use Rattle.machine_code.specs.MarkedEvaluation.{marked_truth}
use Rattle.machine_code.specs.MarkedExecution.{marked_guarded, marked_loop, marked_runs_on, marked_step_on, marked_turns}
use Rattle.machine_code.specs.MarkedRuns.{marked_ran, marked_units_within}
use Rattle.quick_trees.specs.declared.pace.Pace.TheVariants.{Literal}
use Rattle.quick_trees.specs.declared.noting.Noting.TheVariants.{Exact, LookAhead, AssignmentAhead}
use Rattle.quick_trees.specs.declared.noting.Noting.TheVariants.{Looked, Assigned}
use Rattle.quick_trees.specs.Example.{int, way}
use Rattle.quick_trees.specs.Points.{assignment_of, look_of}
use Rattle.quick_trees.proofs.Tellings.{at, each_tells}
use Rattle.st_types.specs.declared.kind.Kind.{Kind}
use Rattle.st_types.specs.Values.{Datum}
use Rattle.quick_code.specs.declared.quick_instr.QuickInstr.TheVariants.{JumpIfAtLeastConst}
use Rattle.quick_trees.specs.Calls.{AreInputs, kinds_in, quick_units}
use Rattle.quick_trees.specs.ReturnExample.{found, return_frame}
use Rattle.quick_trees.specs.UnitValues.{HasOwnWord, FunctionWord, called}
use Rattle.quick_trees.proofs.Lists.{some_is}
use Rattle.quick_trees.proofs.examples.a_return_in_quick_code.Goals as goal

-- its one input is the value 0
typed : (i k : ℕ) (t : Kind) → slice_get (0 ∷ []) i ≡ Some k → slice_get (kinds_in found) k ≡ Some t
    → slice_get (Int ∷ []) i ≡ Some t
typed zero k t at type = subst (λ k. slice_get (kinds_in found) k ≡ Some t) (sym (some_is at)) type
typed (suc i) k t at type = absurd cc

there : (i k : ℕ) → slice_get (0 ∷ []) i ≡ Some k → (v : Datum) × (slice_get found.fresh k ≡ Some v)
there zero k at = (int 0, ap (slice_get found.fresh) (sym (some_is at)))
there (suc i) k at = absurd cc

once : (i j k : ℕ) → slice_get (0 ∷ []) i ≡ Some k → slice_get (0 ∷ []) j ≡ Some k → i ≡ j
once zero zero k at at' = refl
once zero (suc j) k at at' = absurd cc
once (suc i) j k at at' = absurd cc

inputs : AreInputs found (Int ∷ []) (0 ∷ [])
inputs = record { words_long = refl; kinds_long = refl; typed = typed; there = there; once = once }

no_input : (k : ℕ) → 0 < k → (i : ℕ) → slice_get found.inputs i ≡ Some k → ⊥
no_input k above zero at = (let is : zero ≡ k = some_is at in omega arith)
no_input k above (suc i) at = absurd cc

abbrev seats : List FunctionWord
seats =
    record { word = 0; is_own = false } ∷ record { word = 5; is_own = true } ∷ record { word = 6; is_own = true }
    ∷ []

-- no value of the function's own has the word of the limit
other_word : (w : ℕ) (s : FunctionWord) → s.word ≡ w → Some s ≡ Some (record { word = 2; is_own = true }) → w ≡ 2
other_word w s is e = sym is ∙ ap (λ (s : FunctionWord). s.word) (some_is e)

stays : (j : ℕ) → j < 3 → HasOwnWord return_frame.window (called (kinds_in found) seats) j 2 → ⊥
stays zero lt own = (let is = other_word 0 (record { word = 0; is_own = false }) refl own in omega arith)
stays (suc zero) lt own = (let is = other_word 5 (record { word = 5; is_own = true }) refl own in omega arith)
stays (suc (suc zero)) lt own = (let is = other_word 6 (record { word = 6; is_own = true }) refl own in omega arith)
stays (suc (suc (suc j))) lt own = absurd (omega arith)

pub returns-clause-stands : goal.returns-clause-stands
unfolding quick_units
returns-clause-stands c = record {
  way = way 1 2;
  begins = refl;
  end = at 13 0 (Looked ∷ Assigned ∷ []);
  last = at 13 0 (Exact ∷ Exact ∷ []);
  last_is = refl;
  stands = record {
    middle = at 3 2 (LookAhead ∷ AssignmentAhead ∷ []);
    first = record {
      notes = (look_of 0 ∷ assignment_of 1 ∷ []);
      all = (
        at 2 2 (LookAhead ∷ Exact ∷ []),
        (
          (refl, (refl, record { old = Exact; there = refl; new = LookAhead; is = refl; rest = refl })),
          (
            at 3 2 (LookAhead ∷ AssignmentAhead ∷ []),
            (
              (refl, (refl, record { old = Exact; there = refl; new = AssignmentAhead; is = refl; rest = refl })),
              refl,
            ),
          ),
        ),
      );
    };
    second = record {
      middle = at 13 0 (Looked ∷ Assigned ∷ []);
      first = record {
        behind = 1;
        ticks = refl;
        rest = record {
          kind = Int;
          target = refl;
          word = 1;
          own = refl;
          made = at 13 0 (Looked ∷ AssignmentAhead ∷ []);
          makes = record {
            kinds = Int ∷ [];
            words = 0 ∷ [];
            given = at 3 1 (Looked ∷ AssignmentAhead ∷ []);
            arguments = record {
              middle = at 3 1 (Looked ∷ AssignmentAhead ∷ []);
              first = record {
                of_type = refl;
                has = refl;
                is = refl;
                touches = record { old = LookAhead; there = refl; new = Looked; is = refl; rest = refl };
              };
              second = refl;
            };
            calls = (
              found,
              (
                refl,
                record {
                  inputs = inputs;
                  room = omega arith;
                  seats = seats;
                  all = refl;
                  begun = at 5 1 (Looked ∷ AssignmentAhead ∷ []);
                  begins = (
                    at 3 1 (Looked ∷ AssignmentAhead ∷ []),
                    (
                      inl (refl, (record { index = 0; input = refl; argument = refl }, refl)),
                      (
                        at 4 1 (Looked ∷ AssignmentAhead ∷ []),
                        (
                          inr (
                            refl,
                            (refl, inr (pos 0, (int 0, (refl, (refl, (refl, (no_input 1 (omega arith), refl))))))),
                          ),
                          (
                            at 5 1 (Looked ∷ AssignmentAhead ∷ []),
                            (
                              inr (
                                refl,
                                (
                                  refl,
                                  inr (pos 0, (int 0, (refl, (refl, (refl, (no_input 2 (omega arith), refl)))))),
                                ),
                              ),
                              refl,
                            ),
                          ),
                        ),
                      ),
                    ),
                  );
                  end = at 12 0 (Looked ∷ AssignmentAhead ∷ []);
                  last = at 12 0 (Looked ∷ AssignmentAhead ∷ []);
                  body = record {
                    middle = at 5 1 (Looked ∷ AssignmentAhead ∷ []);
                    first = record { notes = []; all = refl };
                    second = record {
                      middle = at 11 1 (Looked ∷ AssignmentAhead ∷ []);
                      first = record {
                        behind = 0;
                        ticks = refl;
                        rest = record {
                          kind = Int;
                          target = refl;
                          control = 6;
                          own = refl;
                          from = 0;
                          to = 2;
                          middle = at 5 0 (Looked ∷ AssignmentAhead ∷ []);
                          bounded = at 5 0 (Looked ∷ AssignmentAhead ∷ []);
                          move = at 5 0 (Looked ∷ AssignmentAhead ∷ []);
                          first = record {
                            of_type = refl;
                            has = (record { word = 0; is_own = false }, (refl, refl));
                            is = refl;
                            touches = refl;
                          };
                          second = record {
                            kept = inl (
                              refl,
                              record {
                                value = int 1;
                                of_literal = refl;
                                of_type = refl;
                                index = 0;
                                among = refl;
                                place = refl;
                              },
                            );
                            stays = stays;
                          };
                          pace = Literal (negsuc 0);
                          third = (
                            refl,
                            record {
                              is = record {
                                value = record { kind = Int; number = negsuc 0 };
                                of_literal = refl;
                                number = refl;
                              };
                              moves = λ e. cc;
                              small = refl;
                            },
                          );
                          assigned = refl;
                          test = at 6 0 (Looked ∷ AssignmentAhead ∷ []);
                          assigns = refl;
                          touches = refl;
                          way = way 11 1;
                          past = 1;
                          asked = 6;
                          tested = (refl, refl);
                          over = record {
                            place = refl;
                            ahead = refl;
                            noted = each_tells (Looked ∷ AssignmentAhead ∷ []) (Looked ∷ AssignmentAhead ∷ []) (
                              refl,
                              (refl, tt),
                            );
                          };
                          noted = at 7 1 (Looked ∷ AssignmentAhead ∷ []);
                          notes = record { notes = []; all = refl };
                          head = at 7 1 (Looked ∷ AssignmentAhead ∷ []);
                          begins = record {
                            place = refl;
                            ahead = refl;
                            noted = each_tells (Looked ∷ AssignmentAhead ∷ []) (Looked ∷ AssignmentAhead ∷ []) (
                              refl,
                              (refl, tt),
                            );
                          };
                          end = at 10 0 (Looked ∷ AssignmentAhead ∷ []);
                          body = record {
                            middle = at 7 1 (Looked ∷ AssignmentAhead ∷ []);
                            first = record { notes = []; all = refl };
                            second = record {
                              middle = at 10 0 (Looked ∷ AssignmentAhead ∷ []);
                              first = record {
                                behind = 0;
                                ticks = refl;
                                rest = inr (record {
                                  middle = at 7 0 (Looked ∷ AssignmentAhead ∷ []);
                                  first = record { notes = []; all = refl };
                                  second = record {
                                    test = at 7 0 (Looked ∷ AssignmentAhead ∷ []);
                                    way = way 10 0;
                                    past = 2;
                                    tested = inr (inl (record {
                                      kind = Int;
                                      left = 6;
                                      word = pos 3;
                                      reads = record {
                                        of_type = refl;
                                        has = (record { word = 6; is_own = true }, (refl, refl));
                                        is = refl;
                                        touches = refl;
                                      };
                                      number = (refl, refl);
                                      stands = record {
                                        instr = JumpIfAtLeastConst 6 (pos 3) (way 10 0) 2;
                                        is = refl;
                                        at = refl;
                                      };
                                    }));
                                    end = at 10 0 (Looked ∷ AssignmentAhead ∷ []);
                                    body = record {
                                      middle = at 8 2 (Looked ∷ AssignmentAhead ∷ []);
                                      first = record { notes = []; all = refl };
                                      second = record {
                                        middle = at 9 1 (Looked ∷ AssignmentAhead ∷ []);
                                        first = record {
                                          behind = 1;
                                          ticks = refl;
                                          rest = record {
                                            kind = Int;
                                            target = refl;
                                            word = 5;
                                            own = refl;
                                            made = at 9 1 (Looked ∷ AssignmentAhead ∷ []);
                                            makes = record {
                                              from = 6;
                                              last = at 8 1 (Looked ∷ AssignmentAhead ∷ []);
                                              reads = record {
                                                of_type = refl;
                                                has = (record { word = 6; is_own = true }, (refl, refl));
                                                is = refl;
                                                touches = refl;
                                              };
                                              stands = refl;
                                              next = refl;
                                            };
                                            is = refl;
                                            touches = refl;
                                          };
                                        };
                                        second = record {
                                          middle = at 9 1 (Looked ∷ AssignmentAhead ∷ []);
                                          first = record { notes = []; all = refl };
                                          second = record {
                                            middle = at 10 0 (Looked ∷ AssignmentAhead ∷ []);
                                            first = record {
                                              behind = 0;
                                              ticks = refl;
                                              rest = inr (record {
                                                way = way 12 0;
                                                stands = refl;
                                                meets = record {
                                                  place = refl;
                                                  ahead = refl;
                                                  noted = each_tells (Looked ∷ AssignmentAhead ∷ [])
                                                      (Looked ∷ AssignmentAhead ∷ []) (
                                                        refl,
                                                        (refl, tt),
                                                      );
                                                };
                                              });
                                            };
                                            second = record {
                                              place = refl;
                                              ahead = refl;
                                              noted = each_tells (Looked ∷ AssignmentAhead ∷ [])
                                                  (Looked ∷ AssignmentAhead ∷ []) (
                                                    refl,
                                                    (refl, tt),
                                                  );
                                            };
                                          };
                                        };
                                      };
                                    };
                                    joins = inl (record {
                                      place = refl;
                                      ahead = refl;
                                      noted = each_tells (Looked ∷ AssignmentAhead ∷ [])
                                          (Looked ∷ AssignmentAhead ∷ []) (
                                            refl,
                                            (refl, tt),
                                          );
                                    });
                                    rest = record {
                                      place = refl;
                                      ahead = refl;
                                      noted = each_tells (Looked ∷ AssignmentAhead ∷ [])
                                          (Looked ∷ AssignmentAhead ∷ []) (
                                            refl,
                                            (refl, tt),
                                          );
                                    };
                                  };
                                });
                              };
                              second = record {
                                place = refl;
                                ahead = refl;
                                noted = each_tells (Looked ∷ AssignmentAhead ∷ []) (Looked ∷ AssignmentAhead ∷ []) (
                                  refl,
                                  (refl, tt),
                                );
                              };
                            };
                          };
                          known = tt;
                          back = way 7 2;
                          after = 2;
                          foot = _;
                          counts = inl (refl, inl (refl, refl));
                          again = record {
                            place = refl;
                            ahead = refl;
                            noted = each_tells (Looked ∷ AssignmentAhead ∷ []) (Looked ∷ AssignmentAhead ∷ []) (
                              refl,
                              (refl, tt),
                            );
                          };
                          behind = record {
                            place = refl;
                            ahead = refl;
                            noted = each_tells (Looked ∷ AssignmentAhead ∷ []) (Looked ∷ AssignmentAhead ∷ []) (
                              refl,
                              (refl, tt),
                            );
                          };
                        };
                      };
                      second = record {
                        middle = at 11 1 (Looked ∷ AssignmentAhead ∷ []);
                        first = record { notes = []; all = refl };
                        second = record {
                          middle = at 12 0 (Looked ∷ AssignmentAhead ∷ []);
                          first = record {
                            behind = 0;
                            ticks = refl;
                            rest = record {
                              kind = Int;
                              target = refl;
                              word = 5;
                              own = refl;
                              made = at 12 0 (Looked ∷ AssignmentAhead ∷ []);
                              makes = inr (record {
                                word = pos 0;
                                number = (refl, refl);
                                stands = refl;
                                next = refl;
                              });
                              is = refl;
                              touches = refl;
                            };
                          };
                          second = record {
                            place = refl;
                            ahead = refl;
                            noted = each_tells (Looked ∷ AssignmentAhead ∷ []) (Looked ∷ AssignmentAhead ∷ []) (
                              refl,
                              (refl, tt),
                            );
                          };
                        };
                      };
                    };
                  };
                  joins = inl (record {
                    place = refl;
                    ahead = refl;
                    noted = each_tells (Looked ∷ AssignmentAhead ∷ []) (Looked ∷ AssignmentAhead ∷ []) (
                      refl,
                      (refl, tt),
                    );
                  });
                  result = record { word = 5; is_own = true };
                  seat = refl;
                  of_type = refl;
                  moved = refl;
                  is = refl;
                },
              ),
            );
          };
          is = refl;
          touches = record { old = AssignmentAhead; there = refl; new = Assigned; is = refl; rest = refl };
        };
      };
      second = record {
        place = refl;
        ahead = refl;
        noted = each_tells (Looked ∷ Assigned ∷ []) (Looked ∷ Assigned ∷ []) (refl, (refl, tt));
      };
    };
  };
  joins = inl (record {
    place = refl;
    ahead = refl;
    noted = each_tells (Looked ∷ Assigned ∷ []) (Exact ∷ Exact ∷ []) (refl, (refl, tt));
  });
  ends = refl;
}

pub returns-clause-program : goal.returns-clause-program
unfolding marked_ran marked_units_within marked_truth marked_loop marked_turns marked_guarded marked_runs_on
    marked_step_on
returns-clause-program c = refl
