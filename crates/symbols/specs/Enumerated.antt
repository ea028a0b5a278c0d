-- Enumerated types and their values, as tables have them.
use Rattle.std.specs.Prelude.{◌≡◌, ℕ, List, [], ◌∷◌, Bool, true, false, Option, Some, None, option_map, is_some, length}
use Rattle.st_types.specs.declared.kind.Kind.{Kind}
use Rattle.st_meaning.specs.Enumerations.{Enumeration, Member, enumeration_named, kind_of_enumeration, place_among}
use Rattle.st_meaning.specs.Enumerations.{members_named}
use Rattle.st_rules.specs.Readings.{Reading, value, unknown, ambiguous}
use Rattle.symbols.specs.declared.enumerations.Member as code_member
use Rattle.symbols.specs.declared.enumerations.Reading as code_reading
use Rattle.symbols.specs.declared.enumerations.Reading.TheVariants.{Value, Unknown, Ambiguous}
use Rattle.symbols.specs.declared.enumerations.Enumeration as code_enumeration
use Rattle.symbols.specs.declared.enumerations.ValueNames.{ValueNames}
use Rattle.symbols.specs.declared.enumerations.EnumeratedNames.{EnumeratedNames}
use Rattle.symbols.specs.Found.{found}
use Rattle.symbols.specs.Agreeing.{Agree}

abbrev pub member_at : Kind → ℕ → Member
member_at k n = record { kind = k; place = n }

abbrev pub member_view : code_member.Member → Member
member_view m = member_at m.kind m.place

abbrev pub reading_view : code_reading.Reading → Reading
reading_view (Value m) = value (member_view m)
reading_view Unknown = unknown
reading_view Ambiguous = ambiguous

abbrev pub listed : {T : Type 0} → Option T → List T
listed None = []
listed (Some x) = x ∷ []

abbrev pub first_of : {T : Type 0} → List T → Option T
first_of [] = None
first_of (x ∷ xs) = Some x

abbrev pub is_several : {T : Type 0} → List T → Bool
is_several [] = false
is_several (x ∷ []) = false
is_several (x ∷ y ∷ zs) = true

-- The tables give these values for a name: the first, and whether there are more.
pub record IsListedAs (values : ValueNames) (q : List ℕ) (ms : List Member) : Type 0 where
  pub first : option_map member_view (found values.first q) ≡ first_of ms
  pub again : is_some (found values.again q) ≡ is_several ms

-- a table of one type's names
pub record IsTable (t : code_enumeration.Enumeration) (e : Enumeration) : Type 0 where
  pub kind : t.kind ≡ kind_of_enumeration e
  pub places : (q : List ℕ) → found t.places q ≡ place_among e.names q

-- The tables are those of these enumerated types.
pub record HasEnumerations (names : EnumeratedNames) (es : List Enumeration) : Type 0 where
  pub count : names.count ≡ length es
  pub types : (x : List ℕ) → Agree IsTable (found names.types x) (enumeration_named es x)
  pub values : (q : List ℕ) → IsListedAs names.values q (members_named es q)
