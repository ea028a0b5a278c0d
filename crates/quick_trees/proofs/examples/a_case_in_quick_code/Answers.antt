use Rattle.std.proofs.Common.{◌≡◌, ℕ, zero, suc, ◌+◌, pos, negsuc, [], ◌∷◌, Some, false, refl, sym}
use Rattle.std.proofs.Common.{subst, arith, inl, inr}
use Rattle.std.specs.Prelude.{slice_get}
use Rattle.st_types.specs.declared.kind.Kind.TheVariants.{Int}
use Rattle.machine_code.specs.MarkedRuns.{marked_ran, marked_units_within}
use Rattle.quick_trees.specs.declared.noting.Noting.TheVariants.{Exact, LookAhead, AssignmentAhead}
use Rattle.quick_trees.specs.declared.noting.Noting.TheVariants.{Looked, Assigned}
use Rattle.quick_trees.specs.Example.{way}
use Rattle.quick_trees.specs.Points.{assignment_of, look_of}
use Rattle.quick_trees.proofs.Tellings.{at, each_tells}
use Rattle.std.proofs.Common.{ℤ, ◌+ℤ◌}
use Rattle.std.specs.List.{list_any}
use Rattle.std.proofs.lemmas.Int.{ints}
use Rattle.st_types.specs.declared.statement.Label.TheVariants.{Range, Single}
use Rattle.st_meaning.specs.Execution.{label_holds}
use Rattle.quick_code.specs.declared.quick_code.Way.{Way}
use Rattle.quick_code.specs.Words.{case_of}
use Rattle.quick_trees.specs.Calls.{quick_units}
use Rattle.quick_trees.specs.CaseExample.{case_arms, case_frame, case_ways, taken_from}
use Rattle.quick_trees.specs.Example.{no_units, number, variable, written}
use Rattle.quick_trees.specs.Pieces.{InSequence}
use Rattle.quick_trees.specs.Points.{along, Joins}
use Rattle.quick_trees.specs.UnitValues.{whole}
use Rattle.quick_trees.specs.TreeCode.{IsChosenCode, Exits, part_by, AreStmtsCode}
use Rattle.quick_trees.proofs.Lists.{some_is}
use Rattle.quick_trees.proofs.examples.a_case_in_quick_code.Goals as goal

abbrev exits_of : Exits
exits_of = record { out = at 9 0 (Exact ∷ Exact ∷ []); back = at 9 0 (Exact ∷ Exact ∷ []) }

abbrev Stand : ℕ → Way → Type 0
Stand n w =
    InSequence (AreStmtsCode case_frame (whole 0) (quick_units case_frame no_units 0) (taken_from (number n)) 2 exits_of)
    (Joins case_frame) (along (at 3 0 (Looked ∷ AssignmentAhead ∷ [])) w) (at 9 0 (Looked ∷ Assigned ∷ []))

abbrev Otherwise : Way → Type 0
Otherwise w =
    InSequence (AreStmtsCode case_frame (whole 0) (quick_units case_frame no_units 0) (taken_from (variable 0)) 2 exits_of)
    (Joins case_frame) (along (at 3 0 (Looked ∷ AssignmentAhead ∷ [])) w) (at 9 0 (Looked ∷ Assigned ∷ []))

abbrev Chosen : ℤ → Way → Type 0
Chosen n w =
    IsChosenCode case_frame (whole 0) (quick_units case_frame no_units 0) n case_arms
    (AreStmtsCode case_frame (whole 0) (quick_units case_frame no_units 0) (taken_from
    (variable 0)) 2 exits_of) 2 exits_of
    (along (at 3 0 (Looked ∷ AssignmentAhead ∷ [])) w) (at 9 0 (Looked ∷ Assigned ∷ []))

ten : Stand 10 (way 4 1)
ten = record {
  middle = at 5 0 (Looked ∷ Assigned ∷ []);
  first = record {
    middle = at 4 1 (Looked ∷ AssignmentAhead ∷ []);
    first = record { notes = []; all = refl };
    second = record {
      middle = at 5 0 (Looked ∷ Assigned ∷ []);
      first = record {
        behind = 0;
        ticks = refl;
        rest = record {
          kind = Int;
          target = refl;
          word = 1;
          own = refl;
          made = at 5 0 (Looked ∷ AssignmentAhead ∷ []);
          makes = inr (record { word = pos 10; number = (refl, refl); stands = refl; next = refl });
          is = refl;
          touches = record { old = AssignmentAhead; there = refl; new = Assigned; is = refl; rest = refl };
        };
      };
      second = record {
        place = refl;
        ahead = refl;
        noted = each_tells (Looked ∷ Assigned ∷ []) (Looked ∷ Assigned ∷ []) (refl, (refl, tt));
      };
    };
  };
  second = inr (record {
    way = way 9 0;
    stands = refl;
    meets = record {
      place = refl;
      ahead = refl;
      noted = each_tells (Looked ∷ Assigned ∷ []) (Looked ∷ Assigned ∷ []) (refl, (refl, tt));
    };
  });
}

twenty : Stand 20 (way 6 1)
twenty = record {
  middle = at 7 0 (Looked ∷ Assigned ∷ []);
  first = record {
    middle = at 6 1 (Looked ∷ AssignmentAhead ∷ []);
    first = record { notes = []; all = refl };
    second = record {
      middle = at 7 0 (Looked ∷ Assigned ∷ []);
      first = record {
        behind = 0;
        ticks = refl;
        rest = record {
          kind = Int;
          target = refl;
          word = 1;
          own = refl;
          made = at 7 0 (Looked ∷ AssignmentAhead ∷ []);
          makes = inr (record { word = pos 20; number = (refl, refl); stands = refl; next = refl });
          is = refl;
          touches = record { old = AssignmentAhead; there = refl; new = Assigned; is = refl; rest = refl };
        };
      };
      second = record {
        place = refl;
        ahead = refl;
        noted = each_tells (Looked ∷ Assigned ∷ []) (Looked ∷ Assigned ∷ []) (refl, (refl, tt));
      };
    };
  };
  second = inr (record {
    way = way 9 0;
    stands = refl;
    meets = record {
      place = refl;
      ahead = refl;
      noted = each_tells (Looked ∷ Assigned ∷ []) (Looked ∷ Assigned ∷ []) (refl, (refl, tt));
    };
  });
}

otherwise : Otherwise (way 8 1)
otherwise = record {
  middle = at 9 0 (Looked ∷ Assigned ∷ []);
  first = record {
    middle = at 8 1 (Looked ∷ AssignmentAhead ∷ []);
    first = record { notes = []; all = refl };
    second = record {
      middle = at 9 0 (Looked ∷ Assigned ∷ []);
      first = record {
        behind = 0;
        ticks = refl;
        rest = record {
          kind = Int;
          target = refl;
          word = 1;
          own = refl;
          made = at 9 0 (Looked ∷ AssignmentAhead ∷ []);
          makes = record {
            from = 0;
            last = at 8 0 (Looked ∷ AssignmentAhead ∷ []);
            reads = record {
              of_type = refl;
              has = refl;
              is = refl;
              touches = record { old = Looked; there = refl; new = Looked; is = refl; rest = refl };
            };
            stands = refl;
            next = refl;
          };
          is = refl;
          touches = record { old = AssignmentAhead; there = refl; new = Assigned; is = refl; rest = refl };
        };
      };
      second = record {
        place = refl;
        ahead = refl;
        noted = each_tells (Looked ∷ Assigned ∷ []) (Looked ∷ Assigned ∷ []) (refl, (refl, tt));
      };
    };
  };
  second = inl (record {
    place = refl;
    ahead = refl;
    noted = each_tells (Looked ∷ Assigned ∷ []) (Looked ∷ Assigned ∷ []) (refl, (refl, tt));
  });
}

-- a number that no label holds
past_first : (k : ℕ) → list_any (label_holds (pos (suc (suc (suc (suc k)))))) (Single (written 1) ∷ []) ≡ false
past_first k = grind (arith, ints)

past_second : (k : ℕ) → list_any (label_holds (pos (suc (suc (suc (suc k)))))) (Range (written 2)
    (written 3) ∷ []) ≡ false
past_second k = grind (arith, ints)

below_first : (k : ℕ) → list_any (label_holds (negsuc k)) (Single (written 1) ∷ []) ≡ false
below_first k = grind (arith, ints)

below_second : (k : ℕ) → list_any (label_holds (negsuc k)) (Range (written 2) (written 3) ∷ []) ≡ false
below_second k = grind (arith, ints)

past_way : (k : ℕ) → case_of 3 (pos (suc (suc (suc (suc k)))) +ℤ negsuc 0) ≡ 3
past_way k = grind (arith, ints)

below_way : (k : ℕ) → case_of 3 (negsuc k +ℤ negsuc 0) ≡ 3
below_way k = grind (arith, ints)

none_chosen : (n : ℤ) → list_any (label_holds n) (Single (written 1) ∷ []) ≡ false
    → list_any (label_holds n) (Range (written 2) (written 3) ∷ []) ≡ false → Chosen n (way 8 1)
none_chosen n first second =
    subst (λ t. part_by t
    (InSequence (AreStmtsCode case_frame (whole 0) (quick_units case_frame no_units 0) (taken_from (number 10)) 2 exits_of)
    (Joins case_frame))
    (part_by (list_any (label_holds n) (Range (written 2) (written 3) ∷ []))
    (InSequence (AreStmtsCode case_frame (whole 0) (quick_units case_frame no_units 0) (taken_from (number 20)) 2 exits_of)
    (Joins case_frame))
    (InSequence (AreStmtsCode case_frame (whole 0) (quick_units case_frame no_units 0) (taken_from (variable 0)) 2 exits_of)
    (Joins case_frame)))
    (along (at 3 0 (Looked ∷ AssignmentAhead ∷ [])) (way 8 1)) (at 9 0 (Looked ∷ Assigned ∷ []))) (sym first)
    (subst (λ t. part_by t
    (InSequence (AreStmtsCode case_frame (whole 0) (quick_units case_frame no_units 0) (taken_from (number 20)) 2 exits_of)
    (Joins case_frame))
    (InSequence (AreStmtsCode case_frame (whole 0) (quick_units case_frame no_units 0) (taken_from (variable 0)) 2 exits_of)
    (Joins case_frame))
    (along (at 3 0 (Looked ∷ AssignmentAhead ∷ [])) (way 8 1)) (at 9 0 (Looked ∷ Assigned ∷ [])))
    (sym second) otherwise)

chosen : (n : ℤ) (w : Way) → slice_get case_ways (0 + case_of 3 (n +ℤ negsuc 0)) ≡ Some w → Chosen n w
chosen (pos zero) w found = subst (Chosen (pos 0)) (some_is found) otherwise
chosen (pos (suc zero)) w found = subst (Chosen (pos 1)) (some_is found) ten
chosen (pos (suc (suc zero))) w found = subst (Chosen (pos 2)) (some_is found) twenty
chosen (pos (suc (suc (suc zero)))) w found = subst (Chosen (pos 3)) (some_is found) twenty
chosen (pos (suc (suc (suc (suc k))))) w found =
    let is : slice_get case_ways 3 ≡ Some w = subst (λ i. slice_get case_ways (0 + i) ≡ Some w) (past_way k) found in
    subst (Chosen (pos (suc (suc (suc (suc k)))))) (some_is is)
    (none_chosen (pos (suc (suc (suc (suc k))))) (past_first k) (past_second k))
chosen (negsuc k) w found =
    let is : slice_get case_ways 3 ≡ Some w = subst (λ i. slice_get case_ways (0 + i) ≡ Some w) (below_way k) found in
    subst (Chosen (negsuc k)) (some_is is) (none_chosen (negsuc k) (below_first k) (below_second k))

pub returns-clause-stands : goal.returns-clause-stands
returns-clause-stands c = record {
  way = way 1 1;
  begins = refl;
  end = at 9 0 (Looked ∷ Assigned ∷ []);
  last = at 9 0 (Exact ∷ Exact ∷ []);
  last_is = refl;
  stands = record {
    middle = at 3 1 (LookAhead ∷ AssignmentAhead ∷ []);
    first = record {
      notes = (look_of 0 ∷ assignment_of 1 ∷ []);
      all = (
        at 2 1 (LookAhead ∷ Exact ∷ []),
        (
          (refl, (refl, record { old = Exact; there = refl; new = LookAhead; is = refl; rest = refl })),
          (
            at 3 1 (LookAhead ∷ AssignmentAhead ∷ []),
            (
              (refl, (refl, record { old = Exact; there = refl; new = AssignmentAhead; is = refl; rest = refl })),
              refl,
            ),
          ),
        ),
      );
    };
    second = record {
      middle = at 9 0 (Looked ∷ Assigned ∷ []);
      first = record {
        behind = 0;
        ticks = refl;
        rest = record {
          kind = Int;
          narrow = refl;
          selector = 0;
          last = at 3 0 (Looked ∷ AssignmentAhead ∷ []);
          reads = record {
            of_type = refl;
            has = refl;
            is = refl;
            touches = record { old = LookAhead; there = refl; new = Looked; is = refl; rest = refl };
          };
          shift = negsuc 0;
          first = 0;
          count = 3;
          stands = refl;
          chosen = chosen;
        };
      };
      second = record {
        place = refl;
        ahead = refl;
        noted = each_tells (Looked ∷ Assigned ∷ []) (Looked ∷ Assigned ∷ []) (refl, (refl, tt));
      };
    };
  };
  joins = inl (record {
    place = refl;
    ahead = refl;
    noted = each_tells (Looked ∷ Assigned ∷ []) (Exact ∷ Exact ∷ []) (refl, (refl, tt));
  });
  ends = refl;
}

pub returns-clause-program : goal.returns-clause-program
unfolding marked_ran marked_units_within
returns-clause-program c = refl

pub returns-clause-program_past : goal.returns-clause-program_past
unfolding marked_ran marked_units_within
returns-clause-program_past c = refl
