use Rattle.std.proofs.Common.{◌≡◌, ℕ, zero, suc, ◌+◌, ◌<◌, pos, negsuc, Some, [], ◌∷◌, refl, arith, inl}
use Rattle.std.specs.Prelude.{slice_get}
use Rattle.st_types.specs.declared.kind.Kind.TheVariants.{Int}
use Rattle.machine_code.specs.MarkedRuns.{marked_ran, marked_units_within}
use Rattle.quick_trees.specs.declared.noting.Noting.TheVariants.{Exact, LookAhead, Looked}
use Rattle.quick_trees.specs.Example.{way, variable}
use Rattle.quick_trees.specs.Points.{look_of}
use Rattle.quick_trees.proofs.Tellings.{at, each_tells}
use Rattle.quick_trees.specs.ArrayExample.{array_frame}
use Rattle.quick_trees.specs.Pieces.{AreReached, IsOffset}
use Rattle.quick_trees.specs.UnitValues.{whole}
use Rattle.slot_trees.specs.SlotTrees.{Subscripts, no_subscripts, subscript_then}
use Rattle.quick_trees.proofs.examples.an_array_in_quick_code.Goals as goal

-- the subscripts of the array, whatever their variables are
abbrev cells : ℕ → ℕ → ℕ → Subscripts
cells x y z =
    subscript_then (variable x) (pos 1) 2 4
    (subscript_then (variable y) (pos 1) 2 2 (subscript_then (variable z) (pos 1) 2 1 no_subscripts))

few : (x y z o : ℕ) → IsOffset (cells x y z) o → o < 8
few x y z o (i, (r, (less, ((j, (q, (less_2, ((k, (u, (less_3, (none, is_3)))), is_2)))), is)))) = omega arith

-- eight elements are alike
alike : {A : Type 0} (a b v : A) (o : ℕ) → o < 8
    → slice_get (a ∷ b ∷ v ∷ v ∷ v ∷ v ∷ v ∷ v ∷ v ∷ v ∷ []) (2 + o) ≡ Some v
alike a b v zero lt = refl
alike a b v (suc zero) lt = refl
alike a b v (suc (suc zero)) lt = refl
alike a b v (suc (suc (suc zero))) lt = refl
alike a b v (suc (suc (suc (suc zero)))) lt = refl
alike a b v (suc (suc (suc (suc (suc zero))))) lt = refl
alike a b v (suc (suc (suc (suc (suc (suc zero)))))) lt = refl
alike a b v (suc (suc (suc (suc (suc (suc (suc zero))))))) lt = refl
alike a b v (suc (suc (suc (suc (suc (suc (suc (suc o)))))))) lt = absurd (omega arith)

words : (o : ℕ) → o < 8 → slice_get array_frame.window (2 + o) ≡ Some (2 + o)
words zero lt = refl
words (suc zero) lt = refl
words (suc (suc zero)) lt = refl
words (suc (suc (suc zero))) lt = refl
words (suc (suc (suc (suc zero)))) lt = refl
words (suc (suc (suc (suc (suc zero))))) lt = refl
words (suc (suc (suc (suc (suc (suc zero)))))) lt = refl
words (suc (suc (suc (suc (suc (suc (suc zero))))))) lt = refl
words (suc (suc (suc (suc (suc (suc (suc (suc o)))))))) lt = absurd (omega arith)

reached : (x y z : ℕ) → AreReached array_frame (whole 0)
    (Looked ∷ Looked ∷ Exact ∷ Exact ∷ Exact ∷ Exact ∷ Exact ∷ Exact ∷ Exact ∷ Exact ∷ []) 2 (cells x y z) 2 Int
reached x y z = record {
  each = λ o leads. alike Int Int Int o (few x y z o leads);
  words = λ o leads. words o (few x y z o leads);
  exact = λ o leads. alike Looked Looked Exact o (few x y z o leads);
}

pub returns-clause-stands : goal.returns-clause-stands
returns-clause-stands c = record {
  way = way 1 1;
  begins = refl;
  end = at 9 0 (Looked ∷ Looked ∷ Exact ∷ Exact ∷ Exact ∷ Exact ∷ Exact ∷ Exact ∷ Exact ∷ Exact ∷ []);
  last = at 9 0 (Exact ∷ Exact ∷ Exact ∷ Exact ∷ Exact ∷ Exact ∷ Exact ∷ Exact ∷ Exact ∷ Exact ∷ []);
  last_is = refl;
  stands = record {
    middle = at 3 1 (LookAhead ∷ LookAhead ∷ Exact ∷ Exact ∷ Exact ∷ Exact ∷ Exact ∷ Exact ∷ Exact ∷ Exact ∷ []);
    first = record {
      notes = (look_of 0 ∷ look_of 1 ∷ []);
      all = (
        at 2 1 (LookAhead ∷ Exact ∷ Exact ∷ Exact ∷ Exact ∷ Exact ∷ Exact ∷ Exact ∷ Exact ∷ Exact ∷ []),
        (
          (refl, (refl, record { old = Exact; there = refl; new = LookAhead; is = refl; rest = refl })),
          (
            at 3 1 (LookAhead ∷ LookAhead ∷ Exact ∷ Exact ∷ Exact ∷ Exact ∷ Exact ∷ Exact ∷ Exact ∷ Exact ∷ []),
            ((refl, (refl, record { old = Exact; there = refl; new = LookAhead; is = refl; rest = refl })), refl),
          ),
        ),
      );
    };
    second = record {
      middle = at 9 0 (Looked ∷ Looked ∷ Exact ∷ Exact ∷ Exact ∷ Exact ∷ Exact ∷ Exact ∷ Exact ∷ Exact ∷ []);
      first = record {
        behind = 0;
        ticks = refl;
        rest = record {
          kind = Int;
          from = 10;
          middle = at 6 0 (Looked ∷ Looked ∷ Exact ∷ Exact ∷ Exact ∷ Exact ∷ Exact ∷ Exact ∷ Exact ∷ Exact ∷ []);
          value = (
            record { depth = refl; there = omega arith },
            record {
              word = 2;
              led = record {
                there = omega arith;
                located = at 4 0 (LookAhead ∷ Looked ∷ Exact ∷ Exact ∷ Exact ∷ Exact ∷ Exact ∷ Exact ∷ Exact ∷
                    Exact ∷ []);
                first = record {
                  index = 1;
                  shift = negsuc 0;
                  last = at 3 0 (LookAhead ∷ Looked ∷ Exact ∷ Exact ∷ Exact ∷ Exact ∷ Exact ∷ Exact ∷ Exact ∷
                      Exact ∷ []);
                  subscript = record {
                    kind = Int;
                    narrow = refl;
                    added = pos 0;
                    reads = inl (
                      refl,
                      record {
                        of_type = refl;
                        has = refl;
                        is = refl;
                        touches = record { old = LookAhead; there = refl; new = Looked; is = refl; rest = refl };
                      },
                    );
                    fits = inl refl;
                    from_lower = refl;
                  };
                  stands = refl;
                  next = refl;
                };
                further = record {
                  middle = at 5 0 (Looked ∷ Looked ∷ Exact ∷ Exact ∷ Exact ∷ Exact ∷ Exact ∷ Exact ∷ Exact ∷
                      Exact ∷ []);
                  first = record {
                    index = 0;
                    shift = negsuc 0;
                    last = at 4 0 (Looked ∷ Looked ∷ Exact ∷ Exact ∷ Exact ∷ Exact ∷ Exact ∷ Exact ∷ Exact ∷
                        Exact ∷ []);
                    subscript = record {
                      kind = Int;
                      narrow = refl;
                      added = pos 0;
                      reads = inl (
                        refl,
                        record {
                          of_type = refl;
                          has = refl;
                          is = refl;
                          touches = record { old = LookAhead; there = refl; new = Looked; is = refl; rest = refl };
                        },
                      );
                      fits = inl refl;
                      from_lower = refl;
                    };
                    stands = refl;
                    next = refl;
                  };
                  second = record {
                    index = 1;
                    shift = negsuc 0;
                    last = at 5 0 (Looked ∷ Looked ∷ Exact ∷ Exact ∷ Exact ∷ Exact ∷ Exact ∷ Exact ∷ Exact ∷
                        Exact ∷ []);
                    subscript = record {
                      kind = Int;
                      narrow = refl;
                      added = pos 0;
                      reads = inl (
                        refl,
                        record {
                          of_type = refl;
                          has = refl;
                          is = refl;
                          touches = record { old = Looked; there = refl; new = Looked; is = refl; rest = refl };
                        },
                      );
                      fits = inl refl;
                      from_lower = refl;
                    };
                    stands = refl;
                    next = refl;
                  };
                };
              };
              reached = reached 1 0 1;
            },
          );
          stores = record {
            word = 2;
            led = record {
              there = omega arith;
              located = at 7 0 (Looked ∷ Looked ∷ Exact ∷ Exact ∷ Exact ∷ Exact ∷ Exact ∷ Exact ∷ Exact ∷ Exact ∷ []);
              first = record {
                index = 0;
                shift = negsuc 0;
                last = at 6 0 (Looked ∷ Looked ∷ Exact ∷ Exact ∷ Exact ∷ Exact ∷ Exact ∷ Exact ∷ Exact ∷ Exact ∷ []);
                subscript = record {
                  kind = Int;
                  narrow = refl;
                  added = pos 0;
                  reads = inl (
                    refl,
                    record {
                      of_type = refl;
                      has = refl;
                      is = refl;
                      touches = record { old = Looked; there = refl; new = Looked; is = refl; rest = refl };
                    },
                  );
                  fits = inl refl;
                  from_lower = refl;
                };
                stands = refl;
                next = refl;
              };
              further = record {
                middle = at 8 0 (Looked ∷ Looked ∷ Exact ∷ Exact ∷ Exact ∷ Exact ∷ Exact ∷ Exact ∷ Exact ∷
                    Exact ∷ []);
                first = record {
                  index = 1;
                  shift = negsuc 0;
                  last = at 7 0 (Looked ∷ Looked ∷ Exact ∷ Exact ∷ Exact ∷ Exact ∷ Exact ∷ Exact ∷ Exact ∷
                      Exact ∷ []);
                  subscript = record {
                    kind = Int;
                    narrow = refl;
                    added = pos 0;
                    reads = inl (
                      refl,
                      record {
                        of_type = refl;
                        has = refl;
                        is = refl;
                        touches = record { old = Looked; there = refl; new = Looked; is = refl; rest = refl };
                      },
                    );
                    fits = inl refl;
                    from_lower = refl;
                  };
                  stands = refl;
                  next = refl;
                };
                second = record {
                  index = 0;
                  shift = negsuc 0;
                  last = at 8 0 (Looked ∷ Looked ∷ Exact ∷ Exact ∷ Exact ∷ Exact ∷ Exact ∷ Exact ∷ Exact ∷
                      Exact ∷ []);
                  subscript = record {
                    kind = Int;
                    narrow = refl;
                    added = pos 0;
                    reads = inl (
                      refl,
                      record {
                        of_type = refl;
                        has = refl;
                        is = refl;
                        touches = record { old = Looked; there = refl; new = Looked; is = refl; rest = refl };
                      },
                    );
                    fits = inl refl;
                    from_lower = refl;
                  };
                  stands = refl;
                  next = refl;
                };
              };
            };
            reached = reached 0 1 0;
          };
        };
      };
      second = record {
        place = refl;
        ahead = refl;
        noted = each_tells (Looked ∷ Looked ∷ Exact ∷ Exact ∷ Exact ∷ Exact ∷ Exact ∷ Exact ∷ Exact ∷ Exact ∷ [])
            (Looked ∷ Looked ∷ Exact ∷ Exact ∷ Exact ∷ Exact ∷ Exact ∷ Exact ∷ Exact ∷ Exact ∷ []) (
              refl,
              (refl, (refl, (refl, (refl, (refl, (refl, (refl, (refl, (refl, tt))))))))),
            );
      };
    };
  };
  joins = inl (record {
    place = refl;
    ahead = refl;
    noted = each_tells (Looked ∷ Looked ∷ Exact ∷ Exact ∷ Exact ∷ Exact ∷ Exact ∷ Exact ∷ Exact ∷ Exact ∷ []) (Exact
        ∷ Exact ∷ Exact ∷ Exact ∷ Exact ∷ Exact ∷ Exact ∷ Exact ∷ Exact ∷ Exact ∷ []) (
          refl,
          (refl, (refl, (refl, (refl, (refl, (refl, (refl, (refl, (refl, tt))))))))),
        );
  });
  ends = refl;
}

pub returns-clause-program : goal.returns-clause-program
unfolding marked_ran marked_units_within
returns-clause-program c = refl
