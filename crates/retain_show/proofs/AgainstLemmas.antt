-- The lines of a record against the variables of a text.
use Rattle.std.proofs.Common.{◌≡◌, ◌∙◌, ap, sym, refl, ℕ, ◌+◌, ◌<◌, Bool, true, false, if◌then◌else◌, List, [], ◌∷◌, ◌++◌, length, drop, get_or, map}
use Rattle.std.proofs.Common.{Option, Some, None}
use Rattle.std.specs.Prelude.{option_map, unwrap_or}
use Rattle.std.specs.List.{flat_map}
use Rattle.std.proofs.lemmas.List.{append_assoc, drop_more}
use Rattle.st_types.specs.Values.{Datum}
use Rattle.st_meaning.specs.Restarts.{KeptLine}
use Rattle.retain_records.specs.Matching.{is_line_for, numbered_by}
use Rattle.retain_show.specs.declared.written_lines.Line as lines
use Rattle.st_meaning.specs.Layouts.{Enumerations}
use Rattle.retain_show.specs.declared.fate.Fate.{Fate}
use Rattle.retain_show.specs.declared.fate.Changes.{Changes}
use Rattle.retain_show.specs.Against.{Line, changes_shown, dropped_shown, was_shown, with_value, word_of}
use Rattle.retain_show.specs.InitialLines.{Matched, all_changes, all_shown, dropped_in, fate_in, kept_line, line_view, match_shown, matched, restored_in}
use Rattle.retain_show.specs.InitialLines.{own_line}

first_here : (b : Bool) (d x : Datum) (l : KeptLine) (o : Option KeptLine)
    → ◌≡◌ {A = Option Datum} (Some x) (if b then Some (numbered_by d l) else None)
    → ◌≡◌ {A = Option Datum} (Some x) (option_map (numbered_by d) (if b then Some l else o))
first_here true d x l o e = e
first_here false d x l o e = absurd (cc)

first_not : (b : Bool) (y : Datum) (l : KeptLine) (o : Option KeptLine)
    → ◌≡◌ {A = Option Datum} None (if b then Some y else None) → o ≡ (if b then Some l else o)
first_not true y l o e = absurd (cc)
first_not false y l o e = refl

left : (ls : List lines.Line) (i : ℕ) (line : lines.Line) → i < length ls → line ≡ get_or ls i line
    → drop i ls ≡ line ∷ drop (i + 1) ls
left ls i line small is = drop_more ls i line small ∙ ap (λ x. x ∷ drop (i + 1) ls) (sym is)

module _ (w : Line) (ls : List lines.Line) (i : ℕ) (line : lines.Line) (small : i < length ls)
    (is : line ≡ get_or ls i line) where
  -- the next line is its own
  pub own_here : (x : Datum) (found : Option KeptLine)
      → ◌≡◌ {A = Option Datum} (Some x) (restored_in w.path w.spelling w.value (kept_line (line_view line)))
      → own_line (map line_view (drop i ls)) w ≡ found
      → ◌≡◌ {A = Option Datum} (Some x) (option_map (numbered_by w.value) found)
  own_here x found e so_far =
      first_here (is_line_for w.path w.spelling w.value.kind (kept_line (line_view line))) w.value x
      (kept_line (line_view line)) (own_line (map line_view (drop (i + 1) ls)) w) e
      ∙ ap (λ rest. option_map (numbered_by w.value) (own_line (map line_view rest) w)) (sym (left ls i line small is))
      ∙ ap (option_map (numbered_by w.value)) so_far

  -- the next line is not
  pub own_not : (found : Option KeptLine)
      → ◌≡◌ {A = Option Datum} None (restored_in w.path w.spelling w.value (kept_line (line_view line)))
      → own_line (map line_view (drop i ls)) w ≡ found
      → own_line (map line_view (drop (i + 1) ls)) w ≡ found
  own_not found e so_far =
      first_not (is_line_for w.path w.spelling w.value.kind (kept_line (line_view line)))
      (numbered_by w.value (kept_line (line_view line))) (kept_line (line_view line))
      (own_line (map line_view (drop (i + 1) ls)) w) e
      ∙ ap (λ rest. own_line (map line_view rest) w) (sym (left ls i line small is)) ∙ so_far

-- the fate of one more variable
pub fates_more : (rs : List Line) (ls : List lines.Line) (i : ℕ) (line : lines.Line) (kept pushed whole : List Fate)
    (fate : Fate) (m : Matched) → i < length ls → get_or ls i line ≡ line → pushed ≡ kept ++ fate ∷ [] → fate ≡ fate_in m
    → m ≡ matched rs (line_view line)
    → kept ++ map fate_in (map (matched rs) (map line_view (drop i ls))) ≡ whole
    → pushed ++ map fate_in (map (matched rs) (map line_view (drop (i + 1) ls))) ≡ whole
fates_more rs ls i line kept pushed whole fate m small is more e f so_far =
    let rest = map fate_in (map (matched rs) (map line_view (drop (i + 1) ls))) in
    ap (λ x. x ++ rest) more ∙ append_assoc kept (fate ∷ []) rest
    ∙ ap (λ x. kept ++ (x ∷ rest)) (e ∙ ap fate_in f)
    ∙ ap (λ xs. kept ++ map fate_in (map (matched rs) (map line_view xs)))
    (sym (left ls i line small (sym is)))
    ∙ so_far

-- a line of a variable, by its parts
pub match_written : (types : Enumerations) (m : Matched) (fate : Fate) (value : Datum) → fate ≡ fate_in m
    → value ≡ unwrap_or m.own m.wanted.value
    → word_of fate ++ with_value types m.wanted.path m.wanted.spelling value ++ was_shown fate m.other ++ 10 ∷ []
    ≡ match_shown types m
match_written types m fate value e f =
    ap (λ x. word_of x ++ with_value types m.wanted.path m.wanted.spelling value ++ was_shown x m.other ++ 10 ∷ []) e
    ∙ ap (λ x. word_of (fate_in m) ++ with_value types m.wanted.path m.wanted.spelling x
    ++ was_shown (fate_in m) m.other ++ 10 ∷ []) f

-- all lines, by their parts
pub all_written : (types : Enumerations) (lines ws dropped : List Line) (changes : Changes)
    → dropped ≡ dropped_in lines ws → changes ≡ all_changes lines ws
    → flat_map (match_shown types) (map (matched lines) ws) ++ flat_map dropped_shown dropped ++ changes_shown changes
    ≡ all_shown types lines ws
all_written types lines ws dropped changes e f =
    let first = flat_map (match_shown types) (map (matched lines) ws) in
    ap (λ c. first ++ flat_map dropped_shown dropped ++ changes_shown c) f
    ∙ ap (λ d. first ++ flat_map dropped_shown d ++ changes_shown (all_changes lines ws)) e
