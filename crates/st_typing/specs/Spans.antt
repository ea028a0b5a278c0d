-- Spans in order, and spans that overlap one that begins before them or the one after them.
use Rattle.std.specs.Prelude.{◌≡◌, ℕ, ◌+◌, ◌<◌, ◌≤◌, ◌<ℤ◌, ◌≤ℤ◌, int_le, int_lt, Bool, true, ◌&&◌, if◌then◌else◌}
use Rattle.std.specs.Prelude.{List, [], ◌∷◌, length, slice_index_or}
use Rattle.st_rules.specs.declared.rule.Broken.{Broken}
use Rattle.std.specs.List.{All}
use Rattle.st_types.specs.declared.kind.Kind.{Kind}
use Rattle.st_types.specs.Kinds.{kind_index, names_in, number_of_type, same_kind}
use Rattle.st_rules.specs.LabelRules as rules
use Rattle.st_typing.specs.declared.spans.Span.{Span}

abbrev pub span_view : Span → rules.Span
span_view s = record { place = s.place; kind = s.kind; lower = s.lower; upper = s.upper }

-- types in an order: by their rows, then, for enumerated ones, by how many names they have and by their numbers
pub data Before (k l : Kind) : Type 0 where
  by_row : kind_index k < kind_index l → Before k l
  by_names : kind_index k ≡ kind_index l → names_in k < names_in l → Before k l
  by_number : kind_index k ≡ kind_index l → names_in k ≡ names_in l → number_of_type k < number_of_type l → Before k l

-- a span in front of another: of a type before its type, or of its type and beginning at a smaller number, or at the
-- same one and no later in the text, and ending no later if both are at one place
pub data InOrder (s t : Span) : Type 0 where
  by_type : Before s.kind t.kind → InOrder s t
  by_lower : same_kind s.kind t.kind ≡ true → s.lower <ℤ t.lower → InOrder s t
  by_place : same_kind s.kind t.kind ≡ true → s.lower ≡ t.lower → s.place ≤ t.place
      → (s.place ≡ t.place → s.upper ≤ℤ t.upper) → InOrder s t

abbrev pub Ascend : List Span → Type 0
Ascend ss = (j : ℕ) (d : Span) → j + 1 < length ss → InOrder (slice_index_or ss j d) (slice_index_or ss (j + 1) d)

-- a span of the type of one that begins before it, and that begins no later than that one ends
abbrev pub touches : Span → Span → Bool
touches s t =
    same_kind s.kind t.kind && int_le t.lower s.upper && rules.begins_before (span_view s) (span_view t)

abbrev pub touching : Span → Span → List Broken
touching s t = if touches s t then rules.overlap (span_view t) (span_view s) ∷ [] else []

-- the same, as a fault of the first one
abbrev pub touching_back : Span → Span → List Broken
touching_back s t = if touches s t then rules.overlap (span_view s) (span_view t) ∷ [] else []

-- the one that ends last, of the second one's type
abbrev pub further : Span → Span → Span
further s t = if same_kind s.kind t.kind && int_lt t.upper s.upper then s else t

-- none is reversed
abbrev pub AreInOrder : List Span → Type 0
AreInOrder ss = All (λ s. s.lower ≤ℤ s.upper) ss
