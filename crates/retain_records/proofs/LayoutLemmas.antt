-- No two lines of a sound layout text are the same.
use Rattle.std.proofs.Common.{◌≡◌, ◌∙◌, ap, sym, refl, subst, ℕ, false, ◌&&◌, List, [], ◌∷◌, ◌++◌, map, Some}
use Rattle.std.specs.Prelude.{bytes_eq}
use Rattle.std.specs.List.{AllByRecursion, IsDistinct}
use Rattle.st_types.specs.declared.kind.Kind.{Kind}
use Rattle.retain_records.specs.Records.{Line, line_text, text_of, IsLine, IsLayoutText}
use Rattle.retain_records.specs.LineLaws.{line_parts, path_has_no_space, spelling_in_line}
use Rattle.retain_records.specs.SplitLaws.{split_again}
use Rattle.retain_records.specs.ContentLines.{words_at}
use Rattle.retain_records.specs.Lines.{layout_line, lines_of}
use Rattle.retain_records.proofs.LineLemmas.{lines_step, lines_stop}
use Rattle.retain_records.proofs.MarkedLemmas.{same_words}

abbrev as_written : Line → List ℕ
as_written l = layout_line l.path l.spelling

pub words_again : (l : Line) (rest : List ℕ) → IsLine l → words_at (line_text l ++ rest)
    ≡ Some (record { path = l.path; spelling = l.spelling; behind = rest })
words_again l rest sound = ap words_at (line_parts l rest)
    ∙ rw (
      split_again 32 l.path (l.spelling ++ 10 ∷ rest) (path_has_no_space l.path sound.path),
      split_again 10 l.spelling rest (spelling_in_line l.spelling l.kind sound.spells),
    ) refl

-- they are those of which the text consists
lines_again : (ls : List Line) → AllByRecursion IsLine ls → lines_of (text_of ls) ≡ map as_written ls
lines_again [] sound = lines_stop [] refl
lines_again (l ∷ ls) sound =
    lines_step (text_of (l ∷ ls)) record { path = l.path; spelling = l.spelling; behind = text_of ls }
    (sym (words_again l (text_of ls) sound.0))
    ∙ ap (λ (xs : List (List ℕ)). as_written l ∷ xs) (lines_again ls sound.1)

-- lines of other paths differ
unlike : (l : Line) (ls : List Line) → IsLine l → AllByRecursion IsLine ls
    → AllByRecursion (λ path. bytes_eq l.path path ≡ false) (map (λ m. m.path) ls)
    → AllByRecursion (λ line. bytes_eq (as_written l) line ≡ false) (map as_written ls)
unlike l [] sound all other = tt
unlike l (m ∷ ls) sound all other = (
  same_words l.path m.path l.spelling m.spelling (path_has_no_space l.path sound.path)
      (path_has_no_space m.path all.0.path)
      ∙ ap (λ b. b && bytes_eq l.spelling m.spelling) other.0,
  unlike l ls sound all.1 other.1,
)

differ : (ls : List Line) → AllByRecursion IsLine ls → IsDistinct bytes_eq (map (λ l. l.path) ls)
    → IsDistinct bytes_eq (map as_written ls)
unfolding IsDistinct
differ [] sound once = tt
differ (l ∷ ls) sound once = (unlike l ls sound.0 sound.1 once.0, differ ls sound.1 once.1)

pub lines_differ : (text : List ℕ) (kinds : List Kind) → IsLayoutText text kinds → IsDistinct bytes_eq (lines_of text)
lines_differ text kinds layout =
    subst (IsDistinct bytes_eq) (sym (ap lines_of layout.spelled ∙ lines_again layout.lines layout.sound))
    (differ layout.lines layout.sound layout.once)
