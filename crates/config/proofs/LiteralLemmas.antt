-- Literals in which nothing is wrong are values, and labels are numbers that instructions hold.
use Rattle.std.proofs.Common.{◌≡◌, refl, sym, ap, subst, ◌∙◌, arith, ℕ, suc, ◌+◌, ◌<◌, ◌&&◌, Bool, true, false}
use Rattle.std.proofs.Common.{if◌then◌else◌, List, [], ◌∷◌, length, Option, Some, None, option_map}
use Rattle.std.specs.Prelude.{ℤ, pos, ◌≤ℤ◌, int_le, bytes_eq, Ok, Err}
use Rattle.std.proofs.lemmas.Int.{ints}
use Rattle.st_types.specs.declared.fault.Fault.TheVariants.{Range}
use Rattle.st_types.specs.declared.identifier.Identifier.{Identifier}
use Rattle.st_types.specs.declared.kind.Kind.{Kind}
use Rattle.st_types.specs.declared.kind.Kind.TheVariants.{Sint, Int, Dint, Lint, Usint, Uint, Udint, Ulint, Byte, Word}
use Rattle.st_types.specs.declared.kind.Kind.TheVariants.{Dword, Lword, Time, Bool as Boolean, Enumerated}
use Rattle.st_types.specs.declared.literal.Literal.{Literal}
use Rattle.st_types.specs.declared.literal.Literal.TheVariants as literals
use Rattle.st_types.specs.declared.literal.Number.{Number}
use Rattle.st_types.specs.Kinds.{holds, least, greatest}
use Rattle.st_types.specs.Values.{in_range}
use Rattle.st_types.specs.Declarations.{TypeDeclaration}
use Rattle.st_meaning.specs.Enumerations.{Enumeration, Member, enumerations_of, enumeration_named, kind_of_enumeration}
use Rattle.st_meaning.specs.Enumerations.{place_among, member_of, members_named, only_one, member_of_type, member_named}
use Rattle.st_meaning.specs.Enumerations.{number_of_member}
use Rattle.st_meaning.specs.Failures.{failing}
use Rattle.st_meaning.specs.NameTypes.{Declared}
use Rattle.st_meaning.specs.Operators.{or_kind, number_of, kind_of_number, value_of_kind, value_of_number, value_of_literal}
use Rattle.st_meaning.specs.Resolution.{taken_kind, taking_number, taking_literal}
use Rattle.st_meaning.specs.Scopes.{Name}
use Rattle.st_meaning.specs.ResolvedUnits.{resolved_label}
use Rattle.st_types.specs.declared.statement.Label.{Label}
use Rattle.st_types.specs.declared.statement.Label.TheVariants as labels
use Rattle.st_rules.specs.LabelRules.{is_selected, wrong_label_number, wrong_label}
use Rattle.st_rules.specs.declared.limits.TheConstants.{MAX_NAMES}
use Rattle.std.specs.List.{flat_map}
use Rattle.std.specs.Prelude.{map}
use Rattle.std.proofs.lemmas.Float.{T_from_true}
use Rattle.std.specs.Int.Signed.{le_z_yes}
use Rattle.st_link.proofs.RangeLemmas.{held_in}
use Rattle.st_rules.specs.declared.reason.Reason.TheVariants.{LabelType, OutOfRange}
use Rattle.st_rules.specs.ExpressionRules.{kind_or_taken, wrong_literal}
use Rattle.st_rules.specs.Faults.{breaking, unless}
use Rattle.st_rules.specs.Readings.{Reading, reading_among, reading_of, reading_of_name, wrong_reading}
use Rattle.st_link.proofs.RangeLemmas.{in_held}
use Rattle.machine_code.specs.Fitting.{IsValue}
use Rattle.st_compile.specs.Linked.{IsNumber, IsLabel, AreLabels}
use Rattle.config.specs.Spelled.{HaveFewNames, IsKeyword, IsSpelledLiteral, IsSpelledLabel, AreSpelledLabels}
use Rattle.st_types.proofs.OptionLemmas.{map_some, then_some}
use Rattle.st_types.proofs.ListLemmas.{append_first, append_second}

-- a number that a type holds is a value
value_there : (k : Kind) (z : ℤ) → holds k z ≡ true → IsValue (failing (in_range k z))
value_there k z h = subst (λ b. IsValue (failing (if b then Ok (record { kind = k; number = z }) else Err Range)))
    (sym h) tt

pub held_there : (k : Kind) (b : Bool) (at : ℕ) → breaking (OutOfRange k) (unless b at) ≡ [] → b ≡ true
held_there k true at h = refl
held_there k false at h = absurd (cc)

number_value : (k : Option Kind) (n : Number) (o : Option Kind) → n.written ≡ o
    → holds (kind_or_taken k o) (number_of n) ≡ true → IsValue (value_of_number (taking_number (taken_kind k) n))
number_value k n None is h =
    let taken : taking_number (taken_kind k) n ≡ record n { taken = Some (taken_kind k) } =
    ap (λ (o : Option Kind). elim o [ Some m ↦ n | None ↦ record n { taken = Some (taken_kind k) } ]) is in
    let kind : or_kind n.written (Some (taken_kind k)) ≡ Some (taken_kind k) =
    ap (λ (o : Option Kind). or_kind o (Some (taken_kind k))) is in
    subst (λ (m : Number). IsValue (value_of_number m)) (sym taken)
    (subst (λ (o : Option Kind). IsValue (value_of_kind o (number_of n))) (sym kind)
    (value_there (taken_kind k) (number_of n) h))
number_value k n (Some m) is h =
    let taken : taking_number (taken_kind k) n ≡ n =
    ap (λ (o : Option Kind). elim o [ Some j ↦ n | None ↦ record n { taken = Some (taken_kind k) } ]) is in
    let kind : kind_of_number n ≡ Some m = ap (λ (o : Option Kind). or_kind o n.taken) is in
    subst (λ (j : Number). IsValue (value_of_number j)) (sym taken)
    (subst (λ (o : Option Kind). IsValue (value_of_kind o (number_of n))) (sym kind) (value_there m (number_of n) h))

-- values of enumerated types
abbrev IsHeldMember : Member → Type 0
IsHeldMember m = holds m.kind (pos m.place) ≡ true

place_below : (ys : List Identifier) (x : Name) (n : ℕ) → place_among ys x ≡ Some n → n < length ys
place_below [] x n h = absurd (cc)
place_below (y ∷ ys) x n h = by_test (bytes_eq x y.name) h (place_below ys x)
  where
    by_test : (b : Bool) → (if b then Some 0 else option_map (λ n. n + 1) (place_among ys x)) ≡ Some n
        → ((m : ℕ) → place_among ys x ≡ Some m → m < length ys) → n < suc (length ys)
    by_test true g ih = let is : 0 ≡ n = cc in omega (arith, is)
    by_test false g ih =
        let m = map_some (λ n. n + 1) (place_among ys x) n g in
        let less = ih m.0 m.1 in
        let is = m.2 in omega (arith, is, less)

member_held : (x : Name) (e : Enumeration) (m : Member) → member_of x e ≡ Some m → IsHeldMember m
member_held x e m h =
    let one = map_some (λ n. record { kind = kind_of_enumeration e; place = n }) (place_among e.names x) m h in
    let below = place_below e.names x one.0 one.1 in
    subst IsHeldMember one.2
    (in_held (kind_of_enumeration e) (pos one.0)
    (record { lower = omega (arith, ints); upper = omega (arith, ints, below) }))

-- a value as it is written stands for one of its type
abbrev member_by : List TypeDeclaration → Name → Option Name → Option Member
member_by ts x o = elim o [ Some t ↦ member_of_type ts t x | None ↦ member_named ts x ]

-- a property of each value of these types
abbrev AllOf : (Member → Type 0) → List Enumeration → Type 0
AllOf P [] = Unit {0}
AllOf P (e ∷ es) = ((x : Name) (m : Member) → member_of x e ≡ Some m → P m) × AllOf P es

abbrev Are : (Member → Type 0) → List Member → Type 0
Are P [] = Unit {0}
Are P (m ∷ ms) = P m × Are P ms

module _ (P : Member → Type 0) where
  members_are : (es : List Enumeration) (x : Name) → AllOf P es → Are P (members_named es x)
  members_are [] x all = tt
  members_are (e ∷ es) x all = by_member (member_of x e) refl (members_are es x all.1)
    where
      by_member : (o : Option Member) → member_of x e ≡ o → Are P (members_named es x)
          → Are P (elim o [ Some m ↦ m ∷ members_named es x | None ↦ members_named es x ])
      by_member None is rest = rest
      by_member (Some m) is rest = (all.0 x m is, rest)

  only_is : (ms : List Member) (m : Member) → Are P ms → only_one ms ≡ Some m → P m
  only_is [] m h is = absurd (cc)
  only_is (n ∷ []) m h is = let same : n ≡ m = cc in subst P same h.0
  only_is (n ∷ k ∷ ms) m h is = absurd (cc)

  named_is : (es : List Enumeration) (t x : Name) (e : Enumeration) (m : Member) → AllOf P es
      → enumeration_named es t ≡ Some e → member_of x e ≡ Some m → P m
  named_is [] t x e m all h is = absurd (cc)
  named_is (d ∷ es) t x e m all h is = by_test (bytes_eq t d.name) h (λ g. named_is es t x e m all.1 g is)
    where
      by_test : (b : Bool) → (if b then Some d else enumeration_named es t) ≡ Some e
          → (enumeration_named es t ≡ Some e → P m) → P m
      by_test true g ih =
          let same : d ≡ e = cc in all.0 x m (ap (member_of x) same ∙ is)
      by_test false g ih = ih g

  module _ (ts : List TypeDeclaration) (all : AllOf P (enumerations_of ts)) where
    one_is : (x : Name) (m : Member) → member_named ts x ≡ Some m → P m
    one_is x m h = only_is (members_named (enumerations_of ts) x) m (members_are (enumerations_of ts) x all) h

    written_is : (x : Name) (o : Option Name) (m : Member) → member_by ts x o ≡ Some m → P m
    written_is x None m h = one_is x m h
    written_is x (Some t) m h =
        let e = then_some (member_of x) (enumeration_named (enumerations_of ts) t) m h in
        named_is (enumerations_of ts) t x e.0 m all e.1 e.2

all_held : (es : List Enumeration) → AllOf IsHeldMember es
all_held [] = tt
all_held (e ∷ es) = (λ x m is. member_held x e m is, all_held es)

pub named_held : (ts : List TypeDeclaration) (x : Name) (m : Member) → member_named ts x ≡ Some m → IsHeldMember m
named_held ts x m h = one_is IsHeldMember ts (all_held (enumerations_of ts)) x m h

written_held : (ts : List TypeDeclaration) (x : Name) (o : Option Name) (m : Member) → member_by ts x o ≡ Some m
    → IsHeldMember m
written_held ts x o m h = written_is IsHeldMember ts (all_held (enumerations_of ts)) x o m h

-- the place of a value is less than the greatest number of names
abbrev IsSmall : Member → Type 0
IsSmall m = m.place < MAX_NAMES

all_small : (es : List Enumeration) → HaveFewNames es → AllOf IsSmall es
all_small [] few = tt
all_small (e ∷ es) few = (λ x m is. member_small x m is, all_small es few.1)
  where
    member_small : (x : Name) (m : Member) → member_of x e ≡ Some m → IsSmall m
    member_small x m is =
        let one = map_some (λ n. record { kind = kind_of_enumeration e; place = n }) (place_among e.names x) m is in
        let below = place_below e.names x one.0 one.1 in
        let least = few.0 in
        subst IsSmall one.2 (omega (arith, below, least))

pub member_value : (at : ℕ) (m : Member) → IsHeldMember m → IsValue (value_of_number (number_of_member at m))
member_value at m h = value_there m.kind (pos m.place) h

abbrev reading_by : Declared → Name → Option Name → Reading
reading_by text x o = elim o [
  | Some t ↦ reading_of (member_of_type text.types t x)
  | None ↦ reading_of_name text x
]

only_there : (ms : List Member) (at : ℕ) → wrong_reading at (reading_among ms) ≡ []
    → (m : Member) × (only_one ms ≡ Some m)
only_there [] at h = absurd (cc)
only_there (m ∷ []) at h = (m, refl)
only_there (m ∷ n ∷ ms) at h = absurd (cc)

one_there : (o : Option Member) (at : ℕ) → wrong_reading at (reading_of o) ≡ [] → (m : Member) × (o ≡ Some m)
one_there None at h = absurd (cc)
one_there (Some m) at h = (m, refl)

written_there : (text : Declared) (x : Name) (o : Option Name) (at : ℕ) → wrong_reading at (reading_by text x o) ≡ []
    → (m : Member) × (member_by text.types x o ≡ Some m)
written_there text x None at h = only_there (members_named (enumerations_of text.types) x) at h
written_there text x (Some t) at h = one_there (member_of_type text.types t x) at h

pub literal_value : (text : Declared) (k : Option Kind) (x : Literal) → wrong_literal text k x ≡ []
    → IsSpelledLiteral x → IsValue (value_of_literal (taking_literal text.types (taken_kind k) x))
literal_value text k (literals.Number n) h s =
    number_value k n n.written refl
    (held_there (kind_or_taken k n.written) (holds (kind_or_taken k n.written) (number_of n)) n.place h)
literal_value text k (literals.Truth at b) h s = tt
literal_value text k (literals.Duration at n) h s = value_there Time (pos n) s
literal_value text k (literals.Enumerated v) h s =
    let m = written_there text v.name v.type_name v.place h in
    subst (λ (o : Option Member). IsValue (value_of_literal (elim o [
      | Some m ↦ literals.Number (number_of_member v.place m)
      | None ↦ literals.Enumerated v
    ]))) (sym m.1) (member_value v.place m.0 (written_held text.types v.name v.type_name m.0 m.1))

-- numbers that instructions hold
record Fits (k : Kind) : Type 0 where
  lower : least Lint ≤ℤ least k
  upper : greatest k ≤ℤ greatest Ulint

le_there : (a b : ℤ) → int_le a b ≡ true → a ≤ℤ b
le_there a b h = le_z_yes (T_from_true _ h)

fits : (k : Kind) → int_le (least Lint) (least k) ≡ true → int_le (greatest k) (greatest Ulint) ≡ true → Fits k
fits k h g = record { lower = le_there (least Lint) (least k) h; upper = le_there (greatest k) (greatest Ulint) g }

keyword_fits : (k : Kind) → IsKeyword (Some k) → Fits k
keyword_fits Sint h = fits Sint refl refl
keyword_fits Int h = fits Int refl refl
keyword_fits Dint h = fits Dint refl refl
keyword_fits Lint h = fits Lint refl refl
keyword_fits Usint h = fits Usint refl refl
keyword_fits Uint h = fits Uint refl refl
keyword_fits Udint h = fits Udint refl refl
keyword_fits Ulint h = fits Ulint refl refl
keyword_fits Byte h = fits Byte refl refl
keyword_fits Word h = fits Word refl refl
keyword_fits Dword h = fits Dword refl refl
keyword_fits Lword h = fits Lword refl refl
keyword_fits Time h = fits Time refl refl
keyword_fits Boolean h = fits Boolean refl refl
keyword_fits (Enumerated names number) h = absurd h

taken_keyword : (k : Option Kind) → IsKeyword (Some (taken_kind k))
taken_keyword None = tt
taken_keyword (Some Sint) = tt
taken_keyword (Some Int) = tt
taken_keyword (Some Dint) = tt
taken_keyword (Some Lint) = tt
taken_keyword (Some Usint) = tt
taken_keyword (Some Uint) = tt
taken_keyword (Some Udint) = tt
taken_keyword (Some Ulint) = tt
taken_keyword (Some Byte) = tt
taken_keyword (Some Word) = tt
taken_keyword (Some Dword) = tt
taken_keyword (Some Lword) = tt
taken_keyword (Some Time) = tt
taken_keyword (Some Boolean) = tt
taken_keyword (Some (Enumerated names number)) = tt

above : (a b z : ℤ) → a ≤ℤ z → (int_le a z && int_le z b) ≡ false → b ≤ℤ z
above a b z h k = grind (arith, ints)

pub number_between : (z : ℤ) → least Lint ≤ℤ z → z ≤ℤ greatest Ulint → IsNumber z
number_between z h g = by_test (holds Lint z) refl
  where
    by_test : (b : Bool) → holds Lint z ≡ b → holds (if b then Lint else Ulint) z ≡ true
    by_test true e = e
    by_test false e =
        let zero : pos 0 ≤ℤ greatest Lint = le_there (pos 0) (greatest Lint) refl in
        let more = above (least Lint) (greatest Lint) z h e in
        in_held Ulint z (record { lower = omega (arith, ints, zero, more); upper = g })

pub kind_number : (k : Kind) (z : ℤ) → IsKeyword (Some k) → holds k z ≡ true → IsNumber z
kind_number k z keyword h =
    let f = keyword_fits k keyword in
    let i = held_in k z h in
    let a = f.lower in
    let b = f.upper in
    let c = i.lower in
    let d = i.upper in
    number_between z (omega (arith, ints, a, c)) (omega (arith, ints, b, d))

pub kind_keyword : (k : Option Kind) (o : Option Kind) → IsKeyword o → IsKeyword (Some (kind_or_taken k o))
kind_keyword k None h = taken_keyword k
kind_keyword k (Some l) h = h

same_number : (k : Kind) (n : Number) (o : Option Kind) → n.written ≡ o
    → number_of (taking_number k n) ≡ number_of n
same_number k n o is = by_written o is
  where
    taking : Option Kind → Number
    taking o = elim o [ Some l ↦ n | None ↦ record n { taken = Some k } ]

    by_written : (o : Option Kind) → n.written ≡ o → number_of (taking_number k n) ≡ number_of n
    by_written None e = ap (λ o. number_of (taking o)) e
    by_written (Some l) e = ap (λ o. number_of (taking o)) e

label_number : (k q : Option Kind) (n : Number) → wrong_label_number q n ≡ [] → IsKeyword n.written
    → IsNumber (number_of (taking_number (taken_kind k) n))
label_number k q n h keyword =
    let l = kind_or_taken q n.written in
    let type_faults = breaking (LabelType q l) (unless (is_selected q l) n.place) in
    let range_faults = breaking (OutOfRange l) (unless (holds l (number_of n)) n.place) in
    subst IsNumber (sym (same_number (taken_kind k) n n.written refl))
    (kind_number l (number_of n) (kind_keyword q n.written keyword)
    (held_there l (holds l (number_of n)) n.place (append_second type_faults range_faults h)))

small_number : (n : ℕ) → n < MAX_NAMES → IsNumber (pos n)
small_number n h = number_between (pos n) (omega (arith, ints)) (omega (arith, ints, h))

label_right : (text : Declared) → HaveFewNames (enumerations_of text.types) → (k q : Option Kind) (l : Label)
    → wrong_label text q l ≡ [] → IsSpelledLabel l → IsLabel (resolved_label text k l)
label_right text few k q (labels.Single n) h s = label_number k q n h s
label_right text few k q (labels.Range a b) h s = (
  label_number k q a (append_first (wrong_label_number q a) (wrong_label_number q b) h) s.0,
  label_number k q b (append_second (wrong_label_number q a) (wrong_label_number q b) h) s.1,
)
label_right text few k q (labels.Enumerated v) h s = by_member (member_by text.types v.name v.type_name) refl
  where
    by_member : (o : Option Member) → member_by text.types v.name v.type_name ≡ o
        → IsLabel (elim o [ Some m ↦ labels.Single (number_of_member v.place m) | None ↦ labels.Enumerated v ])
    by_member None is = tt
    by_member (Some m) is =
        small_number m.place
        (written_is IsSmall text.types (all_small (enumerations_of text.types) few) v.name v.type_name m is)

pub labels_right : (text : Declared) → HaveFewNames (enumerations_of text.types) → (k q : Option Kind)
    (ls : List Label) → flat_map (wrong_label text q) ls ≡ [] → AreSpelledLabels ls
    → AreLabels (map (resolved_label text k) ls)
labels_right text few k q [] h s = tt
labels_right text few k q (l ∷ ls) h s = (
  label_right text few k q l (append_first (wrong_label text q l) (flat_map (wrong_label text q) ls) h) s.0,
  labels_right text few k q ls (append_second (wrong_label text q l) (flat_map (wrong_label text q) ls) h) s.1,
)
