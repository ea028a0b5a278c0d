use Rattle.std.proofs.Common.{◌≡◌, ℕ, zero, suc, ◌+◌, ◌*◌, ◌<◌, pos, negsuc, Some, [], ◌∷◌, refl, arith}
use Rattle.std.proofs.Common.{inl, inr}
use Rattle.std.specs.Prelude.{slice_get}
use Rattle.st_types.specs.declared.kind.Kind.TheVariants.{Int}
use Rattle.machine_code.specs.MarkedRuns.{marked_ran, marked_units_within}
use Rattle.quick_trees.specs.declared.noting.Noting.TheVariants.{Exact, LookAhead, Looked}
use Rattle.quick_trees.specs.Example.{way}
use Rattle.quick_trees.specs.Points.{look_of}
use Rattle.quick_trees.proofs.Tellings.{at, each_tells}
use Rattle.quick_trees.specs.ShiftExample.{shift_frame}
use Rattle.quick_trees.specs.Pieces.{AreElements, HasNumbers}
use Rattle.quick_trees.specs.UnitValues.{whole}
use Rattle.quick_trees.proofs.examples.shifted_subscripts_in_quick_code.Goals as goal

-- three elements are alike
alike : {A : Type 0} (a v : A) (j : ℕ) → j < 3 → slice_get (a ∷ v ∷ v ∷ v ∷ []) (1 + j * 1) ≡ Some v
alike a v zero lt = refl
alike a v (suc zero) lt = refl
alike a v (suc (suc zero)) lt = refl
alike a v (suc (suc (suc j))) lt = absurd (omega arith)

words : (j : ℕ) → j < 3 → slice_get shift_frame.window (1 + j * 1) ≡ Some (1 + j * 1)
words zero lt = refl
words (suc zero) lt = refl
words (suc (suc zero)) lt = refl
words (suc (suc (suc j))) lt = absurd (omega arith)

elements : AreElements shift_frame (whole 0) (Looked ∷ Exact ∷ Exact ∷ Exact ∷ []) 1 3 1 1 Int
elements = record {
  each = alike Int Int;
  words = words;
  exact = alike Looked Exact;
}

fits : HasNumbers Int (pos 1) 3
fits zero lt = refl
fits (suc zero) lt = refl
fits (suc (suc zero)) lt = refl
fits (suc (suc (suc j))) lt = absurd (omega arith)

pub returns-clause-stands : goal.returns-clause-stands
returns-clause-stands c = record {
  way = way 1 1;
  begins = refl;
  end = at 4 0 (Looked ∷ Exact ∷ Exact ∷ Exact ∷ []);
  last = at 4 0 (Exact ∷ Exact ∷ Exact ∷ Exact ∷ []);
  last_is = refl;
  stands = record {
    middle = at 2 1 (LookAhead ∷ Exact ∷ Exact ∷ Exact ∷ []);
    first = record {
      notes = (look_of 0 ∷ []);
      all = (
        at 2 1 (LookAhead ∷ Exact ∷ Exact ∷ Exact ∷ []),
        ((refl, (refl, record { old = Exact; there = refl; new = LookAhead; is = refl; rest = refl })), refl),
      );
    };
    second = record {
      middle = at 4 0 (Looked ∷ Exact ∷ Exact ∷ Exact ∷ []);
      first = record {
        behind = 0;
        ticks = refl;
        rest = record {
          kind = Int;
          from = 4;
          middle = at 3 0 (Looked ∷ Exact ∷ Exact ∷ Exact ∷ []);
          value = (
            record { depth = refl; there = omega arith },
            record {
              index = 0;
              shift = pos 0;
              last = at 2 0 (Looked ∷ Exact ∷ Exact ∷ Exact ∷ []);
              subscript = record {
                kind = Int;
                narrow = refl;
                added = pos 1;
                reads = inr (inr (
                  refl,
                  (
                    (refl, refl),
                    record {
                      of_type = refl;
                      has = refl;
                      is = refl;
                      touches = record { old = LookAhead; there = refl; new = Looked; is = refl; rest = refl };
                    },
                  ),
                ));
                fits = inr fits;
                from_lower = refl;
              };
              word = 1;
              elements = elements;
              loads = inl (refl, refl);
              next = refl;
            },
          );
          at = 0;
          shift = negsuc 1;
          last = at 3 0 (Looked ∷ Exact ∷ Exact ∷ Exact ∷ []);
          subscript = record {
            kind = Int;
            narrow = refl;
            added = negsuc 0;
            reads = inr (inl (
              (pos 1, ((refl, refl), refl)),
              record {
                of_type = refl;
                has = refl;
                is = refl;
                touches = record { old = Looked; there = refl; new = Looked; is = refl; rest = refl };
              },
            ));
            fits = inr fits;
            from_lower = refl;
          };
          word = 1;
          elements = elements;
          stores = inl (refl, refl);
          is = refl;
        };
      };
      second = record {
        place = refl;
        ahead = refl;
        noted = each_tells (Looked ∷ Exact ∷ Exact ∷ Exact ∷ []) (Looked ∷ Exact ∷ Exact ∷ Exact ∷ [])
            (refl, (refl, (refl, (refl, tt))));
      };
    };
  };
  joins = inl (record {
    place = refl;
    ahead = refl;
    noted = each_tells (Looked ∷ Exact ∷ Exact ∷ Exact ∷ []) (Exact ∷ Exact ∷ Exact ∷ Exact ∷ [])
        (refl, (refl, (refl, (refl, tt))));
  });
  ends = refl;
}

pub returns-clause-program : goal.returns-clause-program
unfolding marked_ran marked_units_within
returns-clause-program c = refl
