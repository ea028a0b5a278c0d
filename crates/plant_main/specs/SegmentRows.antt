-- Segments that are run again in a row.
use Rattle.std.specs.Prelude.{◌≡◌, ◌⊎◌, ◌==◌, ◌+◌, ◌-◌, ◌^◌, ◌++◌, ℕ, min, Bool, true, false, List, [], ◌∷◌, length, None, codes, map}
use Rattle.std.specs.Vec.{vec_items}
use Rattle.std.specs.Int.{from_bool}
use Rattle.plan.specs.declared.plan.Plan.{Plan}
use Rattle.trace.specs.Texts.{line}
use Rattle.trace_segments.specs.Runs.{IsRunAfter, IsRunAlone}
use Rattle.trace_segments.specs.declared.replaying.Ended.{Ended}
use Rattle.source_run.specs.Reports.{count_line, report_text}
use Rattle.source_run.specs.declared.report.Counts.{Counts}
use Rattle.plant_main.specs.declared.segments.Totals.{Totals}

-- After a segment that has ended, this text was run again as the first segment of another life, or as the next one, if that
-- segment was not cut off.
abbrev pub IsRunNext : Plan → Ended → List ℕ → Ended → Type 0
IsRunNext plan before text ended = ((ended.number ≡ 0) × IsRunAlone plan text ended)
    ⊎ ((before.is_whole ≡ true) × IsRunAfter before text ended)

-- Texts that were run again one after another, and where each has ended; the last one stands first here. The first one, which
-- may be any segment of its life, is this text.
abbrev pub AreInRow : Plan → List ℕ → List (List ℕ × Ended) → Type 0
AreInRow plan first [] = ⊥
AreInRow plan first (it ∷ []) = (it.0 ≡ first) × IsRunAlone plan it.0 it.1
AreInRow plan first (it ∷ before ∷ row) = IsRunNext plan before.1 it.0 it.1 × AreInRow plan first (before ∷ row)

-- the greatest number of 64 bits in place of a greater one
abbrev pub capped : ℕ → ℕ
capped n = min n (2 ^ 64 - 1)

-- the counts with one segment more
abbrev pub added : Totals → Ended → Totals
added totals ended = record {
  segments = capped (totals.segments + 1);
  lives = capped (totals.lives + from_bool (ended.number == 0));
  rows = capped (totals.rows + ended.rows);
  done = capped (totals.done + (ended.entries - ended.rows));
  faults = capped (totals.faults + ended.faults);
  overruns = capped (totals.overruns + ended.overruns);
}

-- the counts of the first segment, which is of the first life whatever its number
abbrev pub first_totals : Ended → Totals
first_totals ended = record {
  segments = 1;
  lives = 1;
  rows = ended.rows;
  done = ended.entries - ended.rows;
  faults = ended.faults;
  overruns = ended.overruns;
}

-- the counts of a row, of which the last segment stands first here
abbrev pub totals_to : Ended → List (List ℕ × Ended) → Totals
totals_to last [] = first_totals last
totals_to last (before ∷ row) = added (totals_to before.1 row) last

-- A text and so many others were run again in a row, with these counts; the last one has ended so.
pub record IsRowTo (plan : Plan) (first : List ℕ) (others : ℕ) (totals : Totals) (last : Ended) : Type 0 where
  pub text : List ℕ
  pub earlier : List (List ℕ × Ended)
  pub long : length earlier ≡ others
  pub in_row : AreInRow plan first ((text, last) ∷ earlier)
  pub counted : totals ≡ totals_to last earlier

abbrev pub cut_text : Bool → List ℕ
cut_text true = []
cut_text false = line (codes "the last segment is cut off")

-- how many segments there were, of how many lives, and whether the last one is cut off
abbrev pub title_text : Totals → Ended → List ℕ
title_text totals last = count_line (codes "segments") totals.segments ++ count_line (codes "lives") totals.lives
    ++ cut_text last.is_whole

abbrev pub counts_of_segments : Totals → Counts
counts_of_segments totals = record {
  rows = totals.rows;
  done = totals.done;
  faults = totals.faults;
  overruns = totals.overruns;
  acked = None;
}

-- these lines, and then a report as that of a run, with the values where the last one has ended
abbrev pub segments_text : Totals → Ended → List ℕ
segments_text totals last = let plan = last.position.plan in title_text totals last
    ++ report_text (counts_of_segments totals) (map vec_items plan.enumerations.items) plan.variables.items last.position.values
