-- Values that take the numbers of a record's lines one after another.
use Rattle.std.proofs.Common.{◌≡◌, ◌∙◌, ap, sym, refl, subst, arith, ℕ, zero, suc, ◌≤◌, ◌<◌, Bool, true, false, ◌&&◌, if◌then◌else◌, not}
use Rattle.std.proofs.Common.{List, [], ◌∷◌, length, get_or, set, Option, Some, None}
use Rattle.std.specs.Prelude.{◌==◌, ℤ, nat_eq, replicate, bytes_eq, option_map}
use Rattle.std.specs.List.{find, AllByRecursion, IsDistinct}
use Rattle.std.specs.Cmp.{nat_eq_equiv}
use Rattle.std.specs.Cmp.Lexicographic.{bytes_decides, nat_list_eq_equiv}
use Rattle.std.proofs.lemmas.Bool.{and_parts, not-true}
use Rattle.st_types.specs.declared.kind.Kind.{Kind}
use Rattle.st_types.specs.Kinds.{holds}
use Rattle.st_types.specs.Values.{Datum}
use Rattle.st_meaning.specs.Restarts.{KeptLine}
use Rattle.retain_records.specs.SplitLaws.{has_no}
use Rattle.retain_records.specs.ContentLines.{Words, words_at, line_then, lines_in}
use Rattle.retain_records.specs.Lines.{layout_line, line_at, lines_of, place_of}
use Rattle.retain_records.specs.Matching.{is_line_for, numbered, with_line, restored_for, all_restored}
use Rattle.retain_records.specs.Marked.{is_same_line, restored_by_line, restored_rest, Marked, with_first, with_number_at}
use Rattle.retain_records.proofs.LineLemmas.{words_cut, cut_free, lines_stop, lines_step, is_first, no_first}
use Rattle.retain_records.proofs.MatchingLemmas.{lines_first, told_step, told_stop}
use Rattle.st_types.proofs.TestLemmas.{and_assoc}
use Rattle.std.proofs.lemmas.Option.{same_Some}

-- ---- lines that are written alike have the same path and the same spelling

pub same_words : (p q s t : List ℕ) → has_no 32 p ≡ true → has_no 32 q ≡ true
    → bytes_eq (layout_line p s) (layout_line q t) ≡ (bytes_eq p q && bytes_eq s t)
same_words [] [] s t h k = refl
same_words [] (y ∷ q) s t h k =
    let a = and_parts (not (y == 32)) (has_no 32 q) k in
    let other : (y == 32) ≡ false = not-true (y == 32) a.0 in
    ap (λ b. b && bytes_eq s (layout_line q t)) (nat_eq_equiv.symm 32 y ∙ other)
same_words (x ∷ p) [] s t h k =
    let a = and_parts (not (x == 32)) (has_no 32 p) h in
    let other : (x == 32) ≡ false = not-true (x == 32) a.0 in
    ap (λ b. b && bytes_eq (layout_line p s) t) other
same_words (x ∷ p) (y ∷ q) s t h k =
    let a = and_parts (not (x == 32)) (has_no 32 p) h in
    let b = and_parts (not (y == 32)) (has_no 32 q) k in
    ap (λ c. nat_eq x y && c) (same_words p q s t a.1 b.1) ∙ and_assoc (nat_eq x y) (bytes_eq p q) (bytes_eq s t)

abbrev pub HasPath : KeptLine → Type 0
HasPath l = has_no 32 l.path ≡ true

same_line : (path spelling : List ℕ) (k : Kind) (l : KeptLine) → has_no 32 path ≡ true → HasPath l
    → is_same_line (layout_line path spelling) k l ≡ is_line_for path spelling k l
same_line path spelling k l h g =
    ap (λ b. b && holds k l.number) (nat_list_eq_equiv.symm (layout_line l.path l.spelling) (layout_line path spelling)
    ∙ same_words path l.path spelling l.spelling h g)

find_is : (path spelling : List ℕ) (k : Kind) (told : List KeptLine) → has_no 32 path ≡ true
    → AllByRecursion HasPath told
    → find (is_same_line (layout_line path spelling) k) told ≡ find (is_line_for path spelling k) told
find_is path spelling k [] h all = refl
find_is path spelling k (l ∷ told) h all =
    ap (λ b. if b then Some l else find (is_same_line (layout_line path spelling) k) told)
    (same_line path spelling k l h all.0)
    ∙ ap (λ o. if is_line_for path spelling k l then Some l else o) (find_is path spelling k told h all.1)

paths_next : (o : Option Words) (d : Datum) (ds : List Datum) (text : List ℕ) → words_at text ≡ o
    → ((behind : List ℕ) → AllByRecursion HasPath (lines_in behind ds))
    → AllByRecursion HasPath (line_then o d (λ behind. lines_in behind ds))
paths_next None d ds text e again = tt
paths_next (Some w) d ds text e again =
    let are = words_cut text w (sym e) in
    (cut_free 32 text (w.path, are.rest) are.path, again w.behind)

pub have_paths : (text : List ℕ) (ds : List Datum) → AllByRecursion HasPath (lines_in text ds)
have_paths text [] = tt
have_paths text (d ∷ ds) = paths_next (words_at text) d ds text refl (λ behind. have_paths behind ds)

-- ---- if nothing is marked, values take their numbers from all lines

abbrev pub unmarked : List (List ℕ) → List Bool
unmarked lines = replicate (length lines) false

no_values : (lines : List (List ℕ)) (marks : List Bool) (told : List KeptLine) → restored_rest lines marks told [] ≡ []
no_values [] marks told = refl
no_values (line ∷ lines) [] told = refl
no_values (line ∷ lines) (m ∷ marks) told = refl

pub told_all : (ds : List Datum) (text : List ℕ) (told : List KeptLine) → AllByRecursion HasPath told
    → restored_rest (lines_of text) (unmarked (lines_of text)) told ds ≡ all_restored text told ds
told_all [] text told all = no_values (lines_of text) (unmarked (lines_of text)) told
told_all (d ∷ ds) text told all = by_words (words_at text) refl (λ w. told_all ds w.behind told all)
  where
    by_words : (o : Option Words) → words_at text ≡ o
        → ((w : Words) → restored_rest (lines_of w.behind) (unmarked (lines_of w.behind)) told ds ≡ all_restored w.behind told ds)
        → restored_rest (lines_of text) (unmarked (lines_of text)) told (d ∷ ds) ≡ all_restored text told (d ∷ ds)
    by_words None e again =
        ap (λ lines. restored_rest lines (unmarked lines) told (d ∷ ds)) (lines_stop text (sym e))
        ∙ sym (told_stop text told (d ∷ ds) (sym e))
    by_words (Some w) e again =
        let are = words_cut text w (sym e) in
        ap (λ lines. restored_rest lines (unmarked lines) told (d ∷ ds)) (lines_step text w (sym e))
        ∙ ap (λ o. with_line d o ∷ restored_rest (lines_of w.behind) (unmarked (lines_of w.behind)) told ds)
        (find_is w.path w.spelling d.kind told (cut_free 32 text (w.path, are.rest) are.path) all)
        ∙ ap (λ xs. restored_for w.path w.spelling told d ∷ xs) (again w)
        ∙ sym (told_step text w told d ds (sym e))

-- ---- one more line of the record

abbrev pub IsNone : List ℕ → List (List ℕ) → Type 0
IsNone line lines = AllByRecursion (λ l. bytes_eq line l ≡ false) lines

-- it is not written like the line of this value
not_mine : (line : List ℕ) (l : KeptLine) (told : List KeptLine) (d : Datum)
    → bytes_eq (layout_line l.path l.spelling) line ≡ false → restored_by_line line told d ≡ restored_by_line line (l ∷ told) d
not_mine line l told d other =
    sym (ap (λ b. with_line d (if b && holds d.kind l.number then Some l else find (is_same_line line d.kind) told)) other)

-- it is written like none of them
pub told_past : (lines : List (List ℕ)) (marks : List Bool) (l : KeptLine) (told : List KeptLine) (ds : List Datum)
    → IsNone (layout_line l.path l.spelling) lines → restored_rest lines marks told ds ≡ restored_rest lines marks (l ∷ told) ds
told_past [] marks l told ds none = refl
told_past (line ∷ lines) [] l told ds none = refl
told_past (line ∷ lines) (m ∷ marks) l told [] none = refl
told_past (line ∷ lines) (m ∷ marks) l told (d ∷ ds) none =
    ap (λ x. (if m then d else x) ∷ restored_rest lines marks told ds) (not_mine line l told d none.0)
    ∙ ap (λ xs. (if m then d else restored_by_line line (l ∷ told) d) ∷ xs) (told_past lines marks l told ds none.1)

no_suc : (o : Option ℕ) → option_map suc o ≡ None → o ≡ None
no_suc None e = refl
no_suc (Some n) e = absurd cc

pub no_place : (lines : List (List ℕ)) (line : List ℕ) → place_of lines line ≡ None → IsNone line lines
no_place [] line e = tt
no_place (l ∷ lines) line e = by_test (bytes_eq line l) refl e (λ f. no_place lines line f)
  where
    by_test : (b : Bool) → bytes_eq line l ≡ b
        → (if b then Some 0 else option_map suc (place_of lines line)) ≡ None
        → (place_of lines line ≡ None → IsNone line lines) → IsNone line (l ∷ lines)
    by_test true is e again = absurd cc
    by_test false is e again = (is, again (no_suc (place_of lines line) e))

-- a place after the first
one_less : (o : Option ℕ) (place : ℕ) → option_map suc o ≡ Some place → (n : ℕ) × (o ≡ Some n) × (place ≡ suc n)
one_less None place e = absurd cc
one_less (Some n) place e = (n, refl, sym (same_Some (suc n) place e))

-- the value of its line takes it
mine : (line : List ℕ) (m b : Bool) (lines : List (List ℕ)) (marks : List Bool) (l : KeptLine) (told : List KeptLine)
    (d : Datum) (ds : List Datum) → holds d.kind l.number ≡ b → bytes_eq (layout_line l.path l.spelling) line ≡ true
    → restored_rest lines marks told ds ≡ restored_rest lines marks (l ∷ told) ds
    → restored_rest (line ∷ lines) (with_number_at 0 l.number (d ∷ ds) (m ∷ marks)).marks told
    (with_number_at 0 l.number (d ∷ ds) (m ∷ marks)).values ≡ restored_rest (line ∷ lines) (m ∷ marks) (l ∷ told) (d ∷ ds)
mine line true b lines marks l told d ds held is rest = ap (λ xs. d ∷ xs) rest
mine line false true lines marks l told d ds held is rest =
    rw (held, is) (ap (λ xs. record { kind = d.kind; number = l.number } ∷ xs) rest)
mine line false false lines marks l told d ds held is rest =
    rw (held, is) (ap (λ xs. restored_by_line line told d ∷ xs) rest)

pub told_given : (lines : List (List ℕ)) (marks : List Bool) (l : KeptLine) (told : List KeptLine) (ds : List Datum)
    (place : ℕ) → place_of lines (layout_line l.path l.spelling) ≡ Some place → IsDistinct bytes_eq lines
    → restored_rest lines (with_number_at place l.number ds marks).marks told (with_number_at place l.number ds marks).values
    ≡ restored_rest lines marks (l ∷ told) ds
unfolding IsDistinct
told_given [] marks l told ds place e differ = absurd cc
told_given (line ∷ lines) [] l told [] place e differ = refl
told_given (line ∷ lines) [] l told (d ∷ ds) place e differ = refl
told_given (line ∷ lines) (m ∷ marks) l told [] place e differ = refl
told_given (line ∷ lines) (m ∷ marks) l told (d ∷ ds) place e differ =
    by_test (bytes_eq (layout_line l.path l.spelling) line) refl e
    (λ n f. told_given lines marks l told ds n f differ.1)
  where
    by_test : (b : Bool) → bytes_eq (layout_line l.path l.spelling) line ≡ b
        → (if b then Some 0 else option_map suc (place_of lines (layout_line l.path l.spelling))) ≡ Some place
        → ((n : ℕ) → place_of lines (layout_line l.path l.spelling) ≡ Some n
        → restored_rest lines (with_number_at n l.number ds marks).marks told (with_number_at n l.number ds marks).values
        ≡ restored_rest lines marks (l ∷ told) ds)
        → restored_rest (line ∷ lines) (with_number_at place l.number (d ∷ ds) (m ∷ marks)).marks told
        (with_number_at place l.number (d ∷ ds) (m ∷ marks)).values ≡ restored_rest (line ∷ lines) (m ∷ marks) (l ∷ told) (d ∷ ds)
    by_test true is e again =
        let first : 0 ≡ place = same_Some 0 place e in
        let same : line ≡ layout_line l.path l.spelling = sym ((bytes_decides (layout_line l.path l.spelling) line).0 is) in
        let none : IsNone (layout_line l.path l.spelling) lines = subst (λ x. IsNone x lines) same differ.0 in
        subst (λ n. restored_rest (line ∷ lines) (with_number_at n l.number (d ∷ ds) (m ∷ marks)).marks told
        (with_number_at n l.number (d ∷ ds) (m ∷ marks)).values ≡ restored_rest (line ∷ lines) (m ∷ marks) (l ∷ told) (d ∷ ds)) first
        (mine line m (holds d.kind l.number) lines marks l told d ds refl is (told_past lines marks l told ds none))
    by_test false is e again =
        let p = one_less (place_of lines (layout_line l.path l.spelling)) place e in
        subst (λ n. restored_rest (line ∷ lines) (with_number_at n l.number (d ∷ ds) (m ∷ marks)).marks told
        (with_number_at n l.number (d ∷ ds) (m ∷ marks)).values ≡ restored_rest (line ∷ lines) (m ∷ marks) (l ∷ told) (d ∷ ds))
        (sym p.2)
        (ap (λ x. (if m then d else x) ∷ restored_rest lines (with_number_at p.0 l.number ds marks).marks told
        (with_number_at p.0 l.number ds marks).values) (not_mine line l told d is)
        ∙ ap (λ xs. (if m then d else restored_by_line line (l ∷ told) d) ∷ xs) (again p.0 p.1))

-- no line is left
pub told_none : (lines : List (List ℕ)) (marks : List Bool) (ds : List Datum) → restored_rest lines marks [] ds ≡ ds
told_none [] marks ds = refl
told_none (line ∷ lines) [] ds = refl
told_none (line ∷ lines) (m ∷ marks) [] = refl
told_none (line ∷ lines) (true ∷ marks) (d ∷ ds) = ap (λ xs. d ∷ xs) (told_none lines marks ds)
told_none (line ∷ lines) (false ∷ marks) (d ∷ ds) = ap (λ xs. d ∷ xs) (told_none lines marks ds)

-- the marks are as many as before
pub given_long : (place : ℕ) (z : ℤ) (ds : List Datum) (marks : List Bool)
    → length (with_number_at place z ds marks).marks ≡ length marks
given_long place z [] marks = refl
given_long place z (d ∷ ds) [] = refl
given_long zero z (d ∷ ds) (true ∷ marks) = refl
given_long zero z (d ∷ ds) (false ∷ marks) = by_test (holds d.kind z)
  where
    by_test : (b : Bool) → length (if◌then◌else◌ {A = Marked} b record {
      values = record { kind = d.kind; number = z } ∷ ds;
      marks = true ∷ marks;
    } record { values = d ∷ ds; marks = false ∷ marks }).marks ≡ suc (length marks)
    by_test true = refl
    by_test false = refl
given_long (suc place) z (d ∷ ds) (m ∷ marks) = ap suc (given_long place z ds marks)

-- ---- a number is given to the value at a place

-- there is no value
pub given_past : (place : ℕ) (z : ℤ) (ds : List Datum) (marks : List Bool) → length ds ≤ place
    → (record { values = ds; marks = marks }) ≡ with_number_at place z ds marks
given_past place z [] marks h = refl
given_past place z (d ∷ ds) [] h = refl
given_past zero z (d ∷ ds) (m ∷ marks) h = absurd (omega arith)
given_past (suc place) z (d ∷ ds) (m ∷ marks) h = ap (with_first d m) (given_past place z ds marks (omega arith))

-- it is marked
pub given_marked : (place : ℕ) (z : ℤ) (ds : List Datum) (marks : List Bool) → true ≡ get_or marks place true
    → (record { values = ds; marks = marks }) ≡ with_number_at place z ds marks
given_marked place z [] marks h = refl
given_marked place z (d ∷ ds) [] h = refl
given_marked zero z (d ∷ ds) (true ∷ marks) h = refl
given_marked zero z (d ∷ ds) (false ∷ marks) h = absurd cc
given_marked (suc place) z (d ∷ ds) (m ∷ marks) h = ap (with_first d m) (given_marked place z ds marks h)

-- its type does not hold the number
not_held : (k : Kind) (z : ℤ) (b : Bool) → holds k z ≡ b
    → ◌≡◌ {A = Option Datum} None (if b then Some (record { kind = k; number = z }) else None) → holds k z ≡ false
not_held k z true is e = absurd cc
not_held k z false is e = is

stays : (z : ℤ) (d : Datum) (ds : List Datum) (m : Bool) (marks : List Bool) → holds d.kind z ≡ false
    → (record { values = d ∷ ds; marks = m ∷ marks }) ≡ with_number_at zero z (d ∷ ds) (m ∷ marks)
stays z d ds true marks h = refl
stays z d ds false marks h = rw h refl

pub given_unheld : (place : ℕ) (z : ℤ) (ds : List Datum) (marks : List Bool) (d : Datum) → place < length ds
    → d ≡ get_or ds place d → None ≡ numbered d.kind z
    → (record { values = ds; marks = marks }) ≡ with_number_at place z ds marks
given_unheld place z [] marks d low is none = refl
given_unheld place z (x ∷ ds) [] d low is none = refl
given_unheld zero z (x ∷ ds) (m ∷ marks) d low is none =
    stays z x ds m marks (ap (λ (y : Datum). holds y.kind z) (sym is) ∙ not_held d.kind z (holds d.kind z) refl none)
given_unheld (suc place) z (x ∷ ds) (m ∷ marks) d low is none =
    ap (with_first x m) (given_unheld place z ds marks d (omega arith) is none)

-- it takes the number
taken : (k : Kind) (z : ℤ) (b : Bool) (told : Datum) → holds k z ≡ b
    → ◌≡◌ {A = Option Datum} (Some told) (if b then Some (record { kind = k; number = z }) else None)
    → (holds k z ≡ true) × (told ≡ record { kind = k; number = z })
taken k z true told is e = (is, same_Some told record { kind = k; number = z } e)
taken k z false told is e = absurd cc

pub given_held : (place : ℕ) (z : ℤ) (ds : List Datum) (marks : List Bool) (d told : Datum) → place < length ds
    → place < length marks → d ≡ get_or ds place d → false ≡ get_or marks place false → Some told ≡ numbered d.kind z
    → (record { values = set ds place told; marks = set marks place true }) ≡ with_number_at place z ds marks
given_held place z [] marks d told low few is free held = absurd (omega arith)
given_held place z (x ∷ ds) [] d told low few is free held = absurd (omega arith)
given_held zero z (x ∷ ds) (true ∷ marks) d told low few is free held = absurd cc
given_held zero z (x ∷ ds) (false ∷ marks) d told low few is free held =
    let p = taken d.kind z (holds d.kind z) told refl held in
    let here : holds x.kind z ≡ true = ap (λ (y : Datum). holds y.kind z) (sym is) ∙ p.0 in
    let same : told ≡ record { kind = x.kind; number = z } = p.1 ∙ ap (λ (y : Datum). record { kind = y.kind; number = z }) is in
    rw here (ap (λ (y : Datum). record { values = y ∷ ds; marks = true ∷ marks }) same)
given_held (suc place) z (x ∷ ds) (m ∷ marks) d told low few is free held =
    ap (with_first x m) (given_held place z ds marks d told (omega arith) (omega arith) is free held)

-- ---- a turn of the loop over the lines of a record

pub turn_given : (lines : List (List ℕ)) (marks : List Bool) (vs : List Datum) (text line behind : List ℕ) (d : Datum)
    (ds : List Datum) (place : ℕ) → Some (line, behind) ≡ line_at text → Some place ≡ place_of lines line
    → IsDistinct bytes_eq lines
    → restored_rest lines (with_number_at place d.number vs marks).marks (lines_in behind ds) (with_number_at place d.number vs marks).values
    ≡ restored_rest lines marks (lines_in text (d ∷ ds)) vs
turn_given lines marks vs text line behind d ds place at found differ =
    let f = is_first text line behind at in
    let l : KeptLine = record { path = f.words.path; spelling = f.words.spelling; number = d.number } in
    ap (λ (t : List ℕ). restored_rest lines (with_number_at place d.number vs marks).marks (lines_in t ds)
    (with_number_at place d.number vs marks).values) f.rest
    ∙ told_given lines marks l (lines_in f.words.behind ds) vs place
    (ap (place_of lines) (sym f.is) ∙ sym found) differ
    ∙ ap (λ ls. restored_rest lines marks ls vs) (sym (lines_first text f.words d ds f.at))

pub turn_past : (lines : List (List ℕ)) (marks : List Bool) (vs : List Datum) (text line behind : List ℕ) (d : Datum)
    (ds : List Datum) → Some (line, behind) ≡ line_at text → None ≡ place_of lines line
    → restored_rest lines marks (lines_in behind ds) vs ≡ restored_rest lines marks (lines_in text (d ∷ ds)) vs
turn_past lines marks vs text line behind d ds at none =
    let f = is_first text line behind at in
    let l : KeptLine = record { path = f.words.path; spelling = f.words.spelling; number = d.number } in
    ap (λ (t : List ℕ). restored_rest lines marks (lines_in t ds) vs) f.rest
    ∙ told_past lines marks l (lines_in f.words.behind ds) vs
    (no_place lines (layout_line l.path l.spelling) (ap (place_of lines) (sym f.is) ∙ sym none))
    ∙ ap (λ ls. restored_rest lines marks ls vs) (sym (lines_first text f.words d ds f.at))

pub turn_end : (lines : List (List ℕ)) (marks : List Bool) (vs : List Datum) (text : List ℕ) (ds : List Datum)
    → None ≡ line_at text → vs ≡ restored_rest lines marks (lines_in text ds) vs
turn_end lines marks vs text [] at = sym (told_none lines marks vs)
turn_end lines marks vs text (d ∷ ds) at =
    sym (ap (λ o. restored_rest lines marks (line_then o d (λ behind. lines_in behind ds)) vs) (sym (no_first text at))
    ∙ told_none lines marks vs)

pub turn_done : (lines : List (List ℕ)) (marks : List Bool) (vs : List Datum) (text : List ℕ) (ds : List Datum)
    → length ds ≡ 0 → vs ≡ restored_rest lines marks (lines_in text ds) vs
turn_done lines marks vs text [] none = sym (told_none lines marks vs)
turn_done lines marks vs text (d ∷ ds) none = absurd (omega arith)
