-- The line of a variable among the lines of a record.
use Rattle.std.proofs.Common.{◌≡◌, ◌∙◌, ap, sym, refl, ℕ, Bool, true, false, ◌&&◌, if◌then◌else◌, List, [], ◌∷◌, map, Option, Some, None}
use Rattle.std.specs.Prelude.{bytes_eq, Result, Ok, Err}
use Rattle.st_types.specs.declared.fault.Fault.{Fault}
use Rattle.st_types.specs.declared.fault.Fault.TheVariants.{Range}
use Rattle.std.specs.List.{find, AllByRecursion}
use Rattle.std.proofs.lemmas.Bool.{and_parts}
use Rattle.st_types.specs.Kinds.{holds}
use Rattle.st_types.specs.Values.{Datum, IsHeld}
use Rattle.st_meaning.specs.Restarts.{KeptLine}
use Rattle.retain_records.specs.ContentLines.{Words, words_at, line_then, lines_in}
use Rattle.retain_records.specs.Matching.{is_line_for, with_line, restored_for, restored_then, all_restored}

-- ---- the line of a variable among the lines of a record

-- a value of a type, if it holds the number
pub in_type : (b : Bool) (x y : Datum) → ◌≡◌ {A = Result Datum Fault} (Ok x) (if b then Ok y else Err Range)
    → ◌≡◌ {A = Option Datum} (Some x) (if b then Some y else None)
in_type true x y e = ap Some (same_value x y e)
  where
    same_value : (x y : Datum) → ◌≡◌ {A = Result Datum Fault} (Ok x) (Ok y) → x ≡ y
    same_value x y e = cc
in_type false x y e = absurd (cc)

pub not_in_type : (b : Bool) (f : Fault) (y : Datum)
    → ◌≡◌ {A = Result Datum Fault} (Err f) (if b then Ok y else Err Range)
    → ◌≡◌ {A = Option Datum} None (if b then Some y else None)
not_in_type true f y e = absurd (cc)
not_in_type false f y e = refl

pub lines_first : (text : List ℕ) (w : Words) (d : Datum) (ds : List Datum) → Some w ≡ words_at text
    → lines_in text (d ∷ ds) ≡ record { path = w.path; spelling = w.spelling; number = d.number } ∷ lines_in w.behind ds
lines_first text w d ds e = ap (λ o. line_then o d (λ behind. lines_in behind ds)) (sym e)

-- one more value
pub told_step : (text : List ℕ) (w : Words) (lines : List KeptLine) (d : Datum) (ds : List Datum) → Some w ≡ words_at text
    → all_restored text lines (d ∷ ds) ≡ restored_for w.path w.spelling lines d ∷ all_restored w.behind lines ds
told_step text w lines d ds e = ap (λ o. restored_then o d ds lines (λ behind. all_restored behind lines ds)) (sym e)

pub told_stop : (text : List ℕ) (lines : List KeptLine) (ds : List Datum) → None ≡ words_at text
    → all_restored text lines ds ≡ ds
told_stop text lines [] e = refl
told_stop text lines (d ∷ ds) e = ap (λ o. restored_then o d ds lines (λ behind. all_restored behind lines ds)) (sym e)

-- they are of the same types
with_kind : (d : Datum) (o : Option KeptLine) → (with_line d o).kind ≡ d.kind
with_kind d None = refl
with_kind d (Some l) = refl

kinds_next : (o : Option Words) (d : Datum) (ds : List Datum) (lines : List KeptLine) (more : List ℕ → List Datum)
    → ((text : List ℕ) → map (λ x. x.kind) (more text) ≡ map (λ x. x.kind) ds)
    → map (λ x. x.kind) (restored_then o d ds lines more) ≡ d.kind ∷ map (λ x. x.kind) ds
kinds_next None d ds lines more again = refl
kinds_next (Some w) d ds lines more again =
    ap (λ ks. (restored_for w.path w.spelling lines d).kind ∷ ks) (again w.behind)
    ∙ ap (λ k. k ∷ map (λ x. x.kind) ds) (with_kind d (find (is_line_for w.path w.spelling d.kind) lines))

pub told_kinds : (text : List ℕ) (lines : List KeptLine) (ds : List Datum)
    → map (λ x. x.kind) (all_restored text lines ds) ≡ map (λ x. x.kind) ds
told_kinds text lines [] = refl
told_kinds text lines (d ∷ ds) =
    kinds_next (words_at text) d ds lines (λ behind. all_restored behind lines ds) (λ behind. told_kinds behind lines ds)

-- and held by them
held_at : (path spelling : List ℕ) (d : Datum) (l : KeptLine) (found : Option KeptLine) (b : Bool)
    → is_line_for path spelling d.kind l ≡ b
    → IsHeld (with_line d found) → IsHeld (with_line d (if b then Some l else found))
held_at path spelling d l found true is rest =
    (and_parts (bytes_eq path l.path && bytes_eq spelling l.spelling) (holds d.kind l.number) is).1
held_at path spelling d l found false is rest = rest

held_for : (path spelling : List ℕ) (d : Datum) (lines : List KeptLine) → IsHeld d
    → IsHeld (restored_for path spelling lines d)
held_for path spelling d [] held = held
held_for path spelling d (l ∷ lines) held =
    held_at path spelling d l (find (is_line_for path spelling d.kind) lines) (is_line_for path spelling d.kind l) refl
    (held_for path spelling d lines held)

held_next : (o : Option Words) (d : Datum) (ds : List Datum) (lines : List KeptLine) (more : List ℕ → List Datum)
    → IsHeld d → AllByRecursion IsHeld ds → ((text : List ℕ) → AllByRecursion IsHeld (more text))
    → AllByRecursion IsHeld (restored_then o d ds lines more)
held_next None d ds lines more held all again = (held, all)
held_next (Some w) d ds lines more held all again = (held_for w.path w.spelling d lines held, again w.behind)

pub told_held : (text : List ℕ) (lines : List KeptLine) (ds : List Datum) → AllByRecursion IsHeld ds
    → AllByRecursion IsHeld (all_restored text lines ds)
told_held text lines [] held = tt
told_held text lines (d ∷ ds) held =
    held_next (words_at text) d ds lines (λ behind. all_restored behind lines ds) held.0 held.1
    (λ behind. told_held behind lines ds held.1)
