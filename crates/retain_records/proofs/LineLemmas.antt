-- The lines of a layout text, one after another.
use Rattle.std.proofs.Common.{◌≡◌, ◌∙◌, ap, sym, refl, subst, arith, ℕ, zero, suc, ◌+◌, ◌<◌, ◌≤◌, true, not}
use Rattle.std.proofs.Common.{List, [], ◌∷◌, ◌++◌, length, take, Option, Some, None, append_assoc, length-append, inl, inr}
use Rattle.std.specs.Prelude.{◌==◌, option_map}
use Rattle.std.proofs.lemmas.List.{take_at, length-take-le}
use Rattle.std.proofs.lemmas.Bool.{and_from, not_from_false}
use Rattle.retain_records.specs.Splits.{◌>>=◌, split_at}
use Rattle.retain_records.specs.SplitLaws.{bind_some, has_no, split_takes, chosen}
use Rattle.retain_records.specs.ContentLines.{Words, words_at}
use Rattle.retain_records.specs.Lines.{layout_line, line_at, written_then, first_lines, lines_of}
use Rattle.std.proofs.lemmas.Option.{same_Some}

-- there is no mark before the first one
pub cut_free : (mark : ℕ) (bytes : List ℕ) (p : List ℕ × List ℕ) → split_at mark bytes ≡ Some p → has_no mark p.0 ≡ true
cut_free mark [] p e = absurd cc
cut_free mark (b ∷ bytes) p e =
    elim (chosen (b == mark) (Some ([], bytes)) (split_at mark bytes >>= λ q. Some (b ∷ q.0, q.1)) (Some p) e) [
      | inl here ↦ subst (λ (q : List ℕ × List ℕ). has_no mark q.0 ≡ true) (same_Some ([], bytes) p here.1) refl
      | inr later ↦
          let s = bind_some (split_at mark bytes) (λ q. Some (b ∷ q.0, q.1)) p later.1 in
          subst (λ (q : List ℕ × List ℕ). has_no mark q.0 ≡ true) (same_Some (b ∷ s.0.0, s.0.1) p s.2)
          (and_from (not (b == mark)) (has_no mark s.0.0) (not_from_false (b == mark) later.0)
          (cut_free mark bytes s.0 s.1))
    ]

-- ---- the first line

-- the first line of a text, with the two cuts that found it
pub record AreWords (text : List ℕ) (w : Words) : Type 0 where
  pub rest : List ℕ
  pub path : split_at 32 text ≡ Some (w.path, rest)
  pub spelling : split_at 10 rest ≡ Some (w.spelling, w.behind)

pub words_cut : (text : List ℕ) (w : Words) → Some w ≡ words_at text → AreWords text w
words_cut text w e =
    let p = bind_some (split_at 32 text) (λ path. split_at 10 path.1
    >>= λ spelling. Some (record { path = path.0; spelling = spelling.0; behind = spelling.1 })) w (sym e) in
    let s = bind_some (split_at 10 p.0.1) (λ spelling. Some (record {
      path = p.0.0;
      spelling = spelling.0;
      behind = spelling.1;
    })) w p.2 in
    let made : (record { path = p.0.0; spelling = s.0.0; behind = s.0.1 }) ≡ w = same_Some _ w s.2 in
    subst (AreWords text) made (record { rest = p.0.1; path = p.1; spelling = s.1 })

-- a text is its first line, the line's end and the text after it
pub words_take : (text : List ℕ) (w : Words) → AreWords text w → text ≡ layout_line w.path w.spelling ++ 10 ∷ w.behind
words_take text w are =
    split_takes 32 text (w.path, are.rest) are.path
    ∙ ap (λ (x : List ℕ). w.path ++ 32 ∷ x) (split_takes 10 are.rest (w.spelling, w.behind) are.spelling)
    ∙ sym (append_assoc w.path (32 ∷ w.spelling) (10 ∷ w.behind))

pub are_words : (text : List ℕ) (w : Words) → AreWords text w → words_at text ≡ Some w
are_words text w are = rw (are.path, are.spelling) refl

written_long : (path spelling : List ℕ) → length path + 1 + length spelling ≡ length (layout_line path spelling)
written_long path spelling = omega (arith, length-append path (32 ∷ spelling))

pub line_is : (text : List ℕ) (w : Words) → AreWords text w
    → Some (take (length w.path + 1 + length w.spelling) text, w.behind) ≡ line_at text
line_is text w are =
    let n = length w.path + 1 + length w.spelling in
    ap (λ (t : List ℕ). Some (take n t, w.behind)) (words_take text w are)
    ∙ ap (λ (x : List ℕ). Some (x, w.behind))
    (take_at (layout_line w.path w.spelling) (10 ∷ w.behind) n (sym (written_long w.path w.spelling)))
    ∙ ap (option_map (λ v. (layout_line v.path v.spelling, v.behind))) (sym (are_words text w are))

pub line_fits : (text : List ℕ) (w : Words) → AreWords text w
    → length w.path + 1 + length w.spelling ≡ length (take (length w.path + 1 + length w.spelling) text)
line_fits text w are =
    let fits : length w.path + 1 + length w.spelling ≤ length text = omega (
      arith,
      written_long w.path w.spelling,
      ap length (words_take text w are),
      length-append (layout_line w.path w.spelling) (10 ∷ w.behind),
    ) in
    sym (length-take-le (length w.path + 1 + length w.spelling) text fits)

-- the text after it is shorter
pub shorter : (text : List ℕ) (w : Words) → Some w ≡ words_at text → length w.behind < length text
shorter text w e = omega (
  arith,
  ap length (words_take text w (words_cut text w e)),
  length-append (layout_line w.path w.spelling) (10 ∷ w.behind),
)

-- ---- all lines

no_words : (w : Words) → Some w ≡ words_at [] → ⊥
no_words w e = cc

-- the count of bytes is enough for all lines
enough : (n m : ℕ) (text : List ℕ) → length text ≤ n → length text ≤ m → first_lines n text ≡ first_lines m text
enough zero zero text h k = refl
enough zero (suc m) [] h k = refl
enough zero (suc m) (b ∷ text) h k = absurd (omega arith)
enough (suc n) zero [] h k = refl
enough (suc n) zero (b ∷ text) h k = absurd (omega arith)
enough (suc n) (suc m) text h k =
    by_words (words_at text) refl (λ w less. enough n m w.behind (omega arith) (omega arith))
  where
    by_words : (o : Option Words) → words_at text ≡ o
        → ((w : Words) → length w.behind < length text → first_lines n w.behind ≡ first_lines m w.behind)
        → written_then o (λ behind. first_lines n behind) ≡ written_then o (λ behind. first_lines m behind)
    by_words None e again = refl
    by_words (Some w) e again =
        ap (λ (ls : List (List ℕ)). layout_line w.path w.spelling ∷ ls) (again w (shorter text w (sym e)))

pub lines_stop : (text : List ℕ) → None ≡ words_at text → lines_of text ≡ []
lines_stop [] e = refl
lines_stop (b ∷ text) e = ap (λ o. written_then o (λ behind. first_lines (length text) behind)) (sym e)

pub lines_step : (text : List ℕ) (w : Words) → Some w ≡ words_at text
    → lines_of text ≡ layout_line w.path w.spelling ∷ lines_of w.behind
lines_step [] w e = absurd (no_words w e)
lines_step (b ∷ text) w e =
    let less = shorter (b ∷ text) w e in
    ap (λ o. written_then o (λ behind. first_lines (length text) behind)) (sym e)
    ∙ ap (λ (ls : List (List ℕ)). layout_line w.path w.spelling ∷ ls)
    (enough (length text) (length w.behind) w.behind (omega arith) (omega arith))

-- ---- a first line that is found

pub record IsFirst (text line behind : List ℕ) : Type 0 where
  pub words : Words
  pub at : Some words ≡ words_at text
  pub is : line ≡ layout_line words.path words.spelling
  pub rest : behind ≡ words.behind

pub is_first : (text line behind : List ℕ) → Some (line, behind) ≡ line_at text → IsFirst text line behind
is_first text line behind e = by_words (words_at text) refl e
  where
    by_words : (o : Option Words) → words_at text ≡ o
        → ◌≡◌ {A = Option (List ℕ × List ℕ)} (Some (line, behind))
        (option_map (λ w. (layout_line w.path w.spelling, w.behind)) o)
        → IsFirst text line behind
    by_words None is e = absurd cc
    by_words (Some w) is e =
        let same = same_Some (line, behind) (layout_line w.path w.spelling, w.behind) e in record {
          words = w;
          at = sym is;
          is = ap (λ (p : List ℕ × List ℕ). p.0) same;
          rest = ap (λ (p : List ℕ × List ℕ). p.1) same;
        }

pub no_first : (text : List ℕ) → None ≡ line_at text → None ≡ words_at text
no_first text e = by_words (words_at text) refl e
  where
    by_words : (o : Option Words) → words_at text ≡ o
        → ◌≡◌ {A = Option (List ℕ × List ℕ)} None (option_map (λ w. (layout_line w.path w.spelling, w.behind)) o)
        → None ≡ words_at text
    by_words None is e = sym is
    by_words (Some w) is e = absurd cc

pub first_shorter : (text line behind : List ℕ) → Some (line, behind) ≡ line_at text → length behind < length text
first_shorter text line behind e =
    let f = is_first text line behind e in
    let less = shorter text f.words f.at in omega (arith, ap length f.rest)

pub first_of : (text line behind : List ℕ) → Some (line, behind) ≡ line_at text
    → lines_of text ≡ line ∷ lines_of behind
first_of text line behind e =
    let f = is_first text line behind e in
    lines_step text f.words f.at ∙ ap (λ (x : List ℕ). x ∷ lines_of f.words.behind) (sym f.is)
    ∙ ap (λ (x : List ℕ). line ∷ lines_of x) (sym f.rest)
