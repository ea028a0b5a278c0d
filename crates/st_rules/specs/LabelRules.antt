-- The labels of a CASE, of all its lists.
use Rattle.std.specs.Prelude.{ℕ, ℤ, pos, int_lt, int_le, nat_lt, List, [], ◌∷◌, ◌++◌, map, Bool, true, ◌&&◌, ◌||◌, not}
use Rattle.std.specs.Prelude.{Option, Some}
use Rattle.std.specs.Prelude.{None}
use Rattle.std.specs.Ordering.{int_eq}
use Rattle.std.specs.List.{flat_map, filter, filter_map}
use Rattle.st_types.specs.declared.kind.Kind.{Kind}
use Rattle.st_types.specs.declared.literal.Number.{Number}
use Rattle.st_types.specs.Kinds.{same_kind}
use Rattle.st_types.specs.declared.statement.Label.{Label}
use Rattle.st_types.specs.declared.statement.Label.TheVariants.{Single, Range, Enumerated}
use Rattle.st_types.specs.Statements.{Stmt, CASE, CaseArms, no_case_arms, case_arm_then}
use Rattle.st_meaning.specs.NameTypes.{Declared}
use Rattle.st_meaning.specs.Operators.{number_of}
use Rattle.st_rules.specs.declared.reason.Bounds.{Bounds}
use Rattle.st_rules.specs.declared.reason.Reason.TheVariants.{LabelType, ReversedLabel, Overlap}
use Rattle.st_rules.specs.declared.rule.Broken.{Broken}
use Rattle.st_rules.specs.Faults.{breaks, breaking, unless, in_case}
use Rattle.st_rules.specs.Readings.{Reading, value, unknown, ambiguous, reading_written, wrong_reading}
use Rattle.st_rules.specs.Environments.{Environment}
use Rattle.st_rules.specs.Typings.{kind_of, settled, typing_of}
use Rattle.st_rules.specs.ExpressionRules.{kind_or_taken, wrong_number}

abbrev pub labels_of : CaseArms → List Label
labels_of no_case_arms = []
labels_of (case_arm_then labels body arms) = labels ++ labels_of arms

-- a label has the selector's type, if that is known
abbrev pub is_selected : Option Kind → Kind → Bool
is_selected None l = true
is_selected (Some k) l = same_kind k l

abbrev pub wrong_label_number : Option Kind → Number → List Broken
wrong_label_number k n =
    breaking (LabelType k (kind_or_taken k n.written)) (unless (is_selected k (kind_or_taken k n.written)) n.place)
    ++ wrong_number k n

abbrev pub wrong_label_value : Option Kind → ℕ → Reading → List Broken
wrong_label_value k at (value m) = breaking (LabelType k m.kind) (unless (is_selected k m.kind) at)
wrong_label_value k at unknown = wrong_reading at unknown
wrong_label_value k at ambiguous = wrong_reading at ambiguous

abbrev pub wrong_label : Declared → Option Kind → Label → List Broken
wrong_label text k (Single n) = wrong_label_number k n
wrong_label text k (Range a b) = wrong_label_number k a ++ wrong_label_number k b
wrong_label text k (Enumerated v) = wrong_label_value k v.place (reading_written text v)

-- the numbers of a type that a label holds
pub record Span : Type 0 where
  pub place : ℕ
  pub kind : Kind
  pub lower : ℤ
  pub upper : ℤ

abbrev pub span_of_reading : ℕ → Reading → Option Span
span_of_reading at (value m) = Some (record { place = at; kind = m.kind; lower = pos m.place; upper = pos m.place })
span_of_reading at unknown = None
span_of_reading at ambiguous = None

abbrev pub span_of : Declared → Option Kind → Label → Option Span
span_of text k (Single n) = Some (record {
  place = n.place;
  kind = kind_or_taken k n.written;
  lower = number_of n;
  upper = number_of n;
})
span_of text k (Range a b) = Some (record {
  place = a.place;
  kind = kind_or_taken k a.written;
  lower = number_of a;
  upper = number_of b;
})
span_of text k (Enumerated v) = span_of_reading v.place (reading_written text v)

abbrev pub spans_of : Declared → Option Kind → List Label → List Span
spans_of text k labels = filter_map (span_of text k) labels

abbrev pub is_reversed : Span → Bool
is_reversed s = int_lt s.upper s.lower

-- spans of one type that have a number in common; a reversed one has none
abbrev pub meet : Span → Span → Bool
meet s t =
    same_kind s.kind t.kind && not (is_reversed s) && not (is_reversed t)
    && int_le s.lower t.upper && int_le t.lower s.upper

abbrev pub bounds_of : Span → Bounds
bounds_of s = record { lower = s.lower; upper = s.upper }

-- a label that overlaps another one
abbrev pub overlap : Span → Span → Broken
overlap s other = breaks (Overlap (bounds_of s) (bounds_of other) other.place) s.place

-- the first of two labels begins before the other: at a smaller number, or at the same one and before it in the text
abbrev pub begins_before : Span → Span → Bool
begins_before s t = int_lt s.lower t.lower || (int_eq s.lower t.lower && nat_lt s.place t.place)

-- a label with each other one that it overlaps, whether in its list or in another one: so both of two that overlap
abbrev pub overlaps_of : List Span → Span → List Broken
overlaps_of ss t = map (overlap t) (filter (λ s. meet s t && (begins_before s t || begins_before t s)) ss)

abbrev pub overlaps : List Span → List Broken
overlaps ss = flat_map (overlaps_of ss) ss

abbrev pub wrong_spans : List Span → List Broken
wrong_spans ss =
    flat_map (λ s. breaking (ReversedLabel (bounds_of s)) (in_case (is_reversed s) s.place)) ss ++ overlaps ss

abbrev pub wrong_labels : Declared → Option Kind → List Label → List Broken
wrong_labels text k labels =
    flat_map (wrong_label text k) labels ++ wrong_spans (spans_of text k labels)

-- an untyped selector is a LINT; if a selector has no type, its labels are only compared with each other
abbrev pub wrong_case : Environment → Stmt → List Broken
wrong_case env (CASE e arms otherwise) =
    wrong_labels env.text (kind_of (settled None (typing_of env e))) (labels_of arms)
wrong_case env _ = []
