use Rattle.std.proofs.Common.{◌≡◌, ℕ, zero, suc, pos, [], ◌∷◌, Some, true, false, refl, sym}
use Rattle.std.proofs.Common.{ap, subst, arith, inl, inr}
use Rattle.std.specs.Prelude.{slice_get}
use Rattle.st_types.specs.declared.kind.Kind.TheVariants.{Int}
use Rattle.machine_code.specs.MarkedRuns.{marked_ran, marked_units_within}
use Rattle.quick_trees.specs.declared.noting.Noting.TheVariants.{Exact, LookAhead, AssignmentAhead}
use Rattle.quick_trees.specs.declared.noting.Noting.TheVariants.{Looked, Assigned}
use Rattle.quick_trees.specs.Example.{int, way}
use Rattle.quick_trees.specs.Points.{assignment_of, look_of}
use Rattle.quick_trees.proofs.Tellings.{at, each_tells}
use Rattle.st_types.specs.declared.kind.Kind.{Kind}
use Rattle.st_types.specs.Values.{Datum}
use Rattle.quick_code.specs.declared.quick_instr.QuickInstr.TheVariants.{AddInt}
use Rattle.quick_trees.specs.CallExample.{doubled}
use Rattle.quick_trees.specs.Calls.{AreInputs, kinds_in, quick_units}
use Rattle.quick_trees.proofs.Lists.{some_is}
use Rattle.quick_trees.proofs.examples.a_call_in_quick_code.Goals as goal

-- its one input is the value 0
typed : (i k : ℕ) (t : Kind) → slice_get (0 ∷ []) i ≡ Some k → slice_get (kinds_in doubled) k ≡ Some t
    → slice_get (Int ∷ []) i ≡ Some t
typed zero k t at type = subst (λ k. slice_get (kinds_in doubled) k ≡ Some t) (sym (some_is at)) type
typed (suc i) k t at type = absurd cc

there : (i k : ℕ) → slice_get (0 ∷ []) i ≡ Some k → (v : Datum) × (slice_get doubled.fresh k ≡ Some v)
there zero k at = (int 0, ap (slice_get doubled.fresh) (sym (some_is at)))
there (suc i) k at = absurd cc

once : (i j k : ℕ) → slice_get (0 ∷ []) i ≡ Some k → slice_get (0 ∷ []) j ≡ Some k → i ≡ j
once zero zero k at at' = refl
once zero (suc j) k at at' = absurd cc
once (suc i) j k at at' = absurd cc

inputs : (w : ℕ) → AreInputs doubled (Int ∷ []) (w ∷ [])
inputs w = record { words_long = refl; kinds_long = refl; typed = typed; there = there; once = once }

no_input : (i : ℕ) → slice_get doubled.inputs i ≡ Some 1 → ⊥
no_input zero at = (let is : zero ≡ suc zero = some_is at in omega arith)
no_input (suc i) at = absurd cc

pub returns-clause-stands : goal.returns-clause-stands
unfolding quick_units
returns-clause-stands c = record {
  way = way 1 3;
  begins = refl;
  end = at 9 0 (Looked ∷ Assigned ∷ []);
  last = at 9 0 (Exact ∷ Exact ∷ []);
  last_is = refl;
  stands = record {
    middle = at 3 3 (LookAhead ∷ AssignmentAhead ∷ []);
    first = record {
      notes = (look_of 0 ∷ assignment_of 1 ∷ []);
      all = (
        at 2 3 (LookAhead ∷ Exact ∷ []),
        (
          (refl, (refl, record { old = Exact; there = refl; new = LookAhead; is = refl; rest = refl })),
          (
            at 3 3 (LookAhead ∷ AssignmentAhead ∷ []),
            (
              (refl, (refl, record { old = Exact; there = refl; new = AssignmentAhead; is = refl; rest = refl })),
              refl,
            ),
          ),
        ),
      );
    };
    second = record {
      middle = at 9 0 (Looked ∷ Assigned ∷ []);
      first = record {
        behind = 2;
        ticks = refl;
        rest = record {
          kind = Int;
          target = refl;
          word = 1;
          own = refl;
          made = at 9 0 (Looked ∷ AssignmentAhead ∷ []);
          makes = record {
            kinds = Int ∷ [];
            words = 2 ∷ [];
            given = at 6 1 (Looked ∷ AssignmentAhead ∷ []);
            arguments = record {
              middle = at 6 1 (Looked ∷ AssignmentAhead ∷ []);
              first = (
                record { depth = refl; there = omega arith },
                record {
                  kinds = Int ∷ [];
                  words = 0 ∷ [];
                  given = at 3 2 (Looked ∷ AssignmentAhead ∷ []);
                  arguments = record {
                    middle = at 3 2 (Looked ∷ AssignmentAhead ∷ []);
                    first = record {
                      of_type = refl;
                      has = refl;
                      is = refl;
                      touches = record { old = LookAhead; there = refl; new = Looked; is = refl; rest = refl };
                    };
                    second = refl;
                  };
                  calls = (
                    doubled,
                    (
                      refl,
                      record {
                        inputs = inputs 0;
                        room = omega arith;
                        seats = record { word = 0; is_own = false } ∷ record { word = 4; is_own = true } ∷ [];
                        all = refl;
                        begun = at 4 2 (Looked ∷ AssignmentAhead ∷ []);
                        begins = (
                          at 3 2 (Looked ∷ AssignmentAhead ∷ []),
                          (
                            inl (refl, (record { index = 0; input = refl; argument = refl }, refl)),
                            (
                              at 4 2 (Looked ∷ AssignmentAhead ∷ []),
                              (
                                inr (refl, (refl, inr (pos 0, (int 0, (refl, (refl, (refl, (no_input, refl)))))))),
                                refl,
                              ),
                            ),
                          ),
                        );
                        end = at 5 1 (Looked ∷ AssignmentAhead ∷ []);
                        last = at 5 1 (Looked ∷ AssignmentAhead ∷ []);
                        body = record {
                          middle = at 4 2 (Looked ∷ AssignmentAhead ∷ []);
                          first = record { notes = []; all = refl };
                          second = record {
                            middle = at 5 1 (Looked ∷ AssignmentAhead ∷ []);
                            first = record {
                              behind = 1;
                              ticks = refl;
                              rest = record {
                                kind = Int;
                                target = refl;
                                word = 4;
                                own = refl;
                                made = at 5 1 (Looked ∷ AssignmentAhead ∷ []);
                                makes = inl (record {
                                  left = 0;
                                  right = 0;
                                  last = at 4 1 (Looked ∷ AssignmentAhead ∷ []);
                                  reads = record {
                                    middle = at 4 1 (Looked ∷ AssignmentAhead ∷ []);
                                    first = record {
                                      of_type = refl;
                                      has = (record { word = 0; is_own = false }, (refl, refl));
                                      is = refl;
                                      touches = refl;
                                    };
                                    second = record {
                                      of_type = refl;
                                      has = (record { word = 0; is_own = false }, (refl, refl));
                                      is = refl;
                                      touches = refl;
                                    };
                                  };
                                  stands = record { instr = AddInt 0 0 4; is = refl; at = refl };
                                  next = refl;
                                });
                                is = refl;
                                touches = refl;
                              };
                            };
                            second = record {
                              place = refl;
                              ahead = refl;
                              noted = each_tells (Looked ∷ AssignmentAhead ∷ []) (Looked ∷ AssignmentAhead ∷ []) (
                                refl,
                                (refl, tt),
                              );
                            };
                          };
                        };
                        joins = inl (record {
                          place = refl;
                          ahead = refl;
                          noted = each_tells (Looked ∷ AssignmentAhead ∷ []) (Looked ∷ AssignmentAhead ∷ []) (
                            refl,
                            (refl, tt),
                          );
                        });
                        result = record { word = 4; is_own = true };
                        seat = refl;
                        of_type = refl;
                        moved = refl;
                        is = refl;
                      },
                    ),
                  );
                },
              );
              second = refl;
            };
            calls = (
              doubled,
              (
                refl,
                record {
                  inputs = inputs 2;
                  room = omega arith;
                  seats = record { word = 2; is_own = false } ∷ record { word = 4; is_own = true } ∷ [];
                  all = refl;
                  begun = at 7 1 (Looked ∷ AssignmentAhead ∷ []);
                  begins = (
                    at 6 1 (Looked ∷ AssignmentAhead ∷ []),
                    (
                      inl (refl, (record { index = 0; input = refl; argument = refl }, refl)),
                      (
                        at 7 1 (Looked ∷ AssignmentAhead ∷ []),
                        (inr (refl, (refl, inr (pos 0, (int 0, (refl, (refl, (refl, (no_input, refl)))))))), refl),
                      ),
                    ),
                  );
                  end = at 8 0 (Looked ∷ AssignmentAhead ∷ []);
                  last = at 8 0 (Looked ∷ AssignmentAhead ∷ []);
                  body = record {
                    middle = at 7 1 (Looked ∷ AssignmentAhead ∷ []);
                    first = record { notes = []; all = refl };
                    second = record {
                      middle = at 8 0 (Looked ∷ AssignmentAhead ∷ []);
                      first = record {
                        behind = 0;
                        ticks = refl;
                        rest = record {
                          kind = Int;
                          target = refl;
                          word = 4;
                          own = refl;
                          made = at 8 0 (Looked ∷ AssignmentAhead ∷ []);
                          makes = inl (record {
                            left = 2;
                            right = 2;
                            last = at 7 0 (Looked ∷ AssignmentAhead ∷ []);
                            reads = record {
                              middle = at 7 0 (Looked ∷ AssignmentAhead ∷ []);
                              first = record {
                                of_type = refl;
                                has = (record { word = 2; is_own = false }, (refl, refl));
                                is = refl;
                                touches = refl;
                              };
                              second = record {
                                of_type = refl;
                                has = (record { word = 2; is_own = false }, (refl, refl));
                                is = refl;
                                touches = refl;
                              };
                            };
                            stands = record { instr = AddInt 2 2 4; is = refl; at = refl };
                            next = refl;
                          });
                          is = refl;
                          touches = refl;
                        };
                      };
                      second = record {
                        place = refl;
                        ahead = refl;
                        noted = each_tells (Looked ∷ AssignmentAhead ∷ []) (Looked ∷ AssignmentAhead ∷ []) (
                          refl,
                          (refl, tt),
                        );
                      };
                    };
                  };
                  joins = inl (record {
                    place = refl;
                    ahead = refl;
                    noted = each_tells (Looked ∷ AssignmentAhead ∷ []) (Looked ∷ AssignmentAhead ∷ []) (
                      refl,
                      (refl, tt),
                    );
                  });
                  result = record { word = 4; is_own = true };
                  seat = refl;
                  of_type = refl;
                  moved = refl;
                  is = refl;
                },
              ),
            );
          };
          is = refl;
          touches = record { old = AssignmentAhead; there = refl; new = Assigned; is = refl; rest = refl };
        };
      };
      second = record {
        place = refl;
        ahead = refl;
        noted = each_tells (Looked ∷ Assigned ∷ []) (Looked ∷ Assigned ∷ []) (refl, (refl, tt));
      };
    };
  };
  joins = inl (record {
    place = refl;
    ahead = refl;
    noted = each_tells (Looked ∷ Assigned ∷ []) (Exact ∷ Exact ∷ []) (refl, (refl, tt));
  });
  ends = refl;
}

pub returns-clause-program : goal.returns-clause-program
unfolding marked_ran marked_units_within
returns-clause-program c = refl
