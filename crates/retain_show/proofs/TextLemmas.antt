-- Texts that are written part by part, and names that are read one by one.
use Rattle.std.proofs.Common.{◌≡◌, ◌∙◌, ap, sym, refl, ℕ, ◌+◌, ◌<◌, ◌≤◌, List, [], ◌∷◌, ◌++◌, length, drop, get_or}
use Rattle.std.proofs.Common.{Option, Result, Ok, Err, OnOk}
use Rattle.std.proofs.lemmas.List.{append_assoc, append-nil, drop_all, drop_more}
use Rattle.std.specs.Io.KnownBytes.{Appends}
use Rattle.st_types.specs.Values.{Datum}
use Rattle.retain_show.specs.Shown.{line_shown, lines_shown}
use Rattle.st_print.proofs.AppendLemmas.{appends_both}

-- one more part of a list of parts
pub one_more : (kept pushed left behind all : List (List ℕ)) (x : List ℕ) → pushed ≡ kept ++ x ∷ [] → left ≡ x ∷ behind
    → kept ++ left ≡ all → pushed ++ behind ≡ all
one_more kept pushed left behind all x is first so_far =
    ap (λ z. z ++ behind) is ∙ append_assoc kept (x ∷ []) behind ∙ ap (λ z. kept ++ z) (sym first) ∙ so_far

-- and the last one
pub last_one : (kept pushed left all : List (List ℕ)) (x : List ℕ) → pushed ≡ kept ++ x ∷ [] → left ≡ x ∷ []
    → kept ++ left ≡ all → pushed ≡ all
last_one kept pushed left all x is first so_far = is ∙ ap (λ z. kept ++ z) (sym first) ∙ so_far

-- a part that was written before
pub after_part : {T E : Type 0} (result : Result T E) (first second third : Option (List ℕ)) (x y : List ℕ)
    → Appends first second x → OnOk result (Appends second third y) → OnOk result (Appends first third (x ++ y))
after_part (Ok v) first second third x y wrote more = appends_both first second third x y wrote more
after_part (Err e) first second third x y wrote more = tt

-- no line is left if no value is
pub none_left : (lines : List (List ℕ)) → lines_shown lines [] ≡ []
none_left [] = refl
none_left (line ∷ lines) = refl

module _ (lines behind : List (List ℕ)) (line text whole : List ℕ) (values : List Datum) (i : ℕ) (value : Datum)
    (first : lines ≡ line ∷ behind) (small : i < length values) (is : get_or values i value ≡ value)
    (so_far : text ++ lines_shown lines (drop i values) ≡ whole) where
  next_line : text ++ (line_shown line value ++ lines_shown behind (drop (i + 1) values)) ≡ whole
  next_line =
      ap (λ z. text ++ z) (ap (λ d. line_shown line d ++ lines_shown behind (drop (i + 1) values)) (sym is)
      ∙ ap (lines_shown (line ∷ behind)) (sym (drop_more values i value small))
      ∙ ap (λ ls. lines_shown ls (drop i values)) (sym first)) ∙ so_far

  -- the text grows by the next line with its value
  pub line_more : (text ++ line_shown line value) ++ lines_shown behind (drop (i + 1) values) ≡ whole
  line_more = append_assoc text (line_shown line value) (lines_shown behind (drop (i + 1) values)) ∙ next_line

-- the last line
pub line_last : (lines : List (List ℕ)) (line text whole : List ℕ) (values : List Datum) (i : ℕ) (value : Datum)
    → lines ≡ line ∷ [] → i < length values → get_or values i value ≡ value
    → text ++ lines_shown lines (drop i values) ≡ whole → text ++ line_shown line value ≡ whole
line_last lines line text whole values i value first small is so_far =
    sym (append-nil (text ++ line_shown line value))
    ∙ line_more lines [] line text whole values i value first small is so_far

-- all lines are written
pub all_lines : (lines : List (List ℕ)) (text whole : List ℕ) (values : List Datum) (i : ℕ) → length values ≤ i
    → text ++ lines_shown lines (drop i values) ≡ whole → text ≡ whole
all_lines lines text whole values i end so_far =
    sym (append-nil text)
    ∙ ap (λ z. text ++ z) (sym (none_left lines) ∙ ap (lines_shown lines) (sym (drop_all i values end))) ∙ so_far
