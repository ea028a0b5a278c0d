-- Values that are spelled by their names, read back.
use Rattle.std.proofs.Common.{◌≡◌, ◌∙◌, ap, sym, refl, subst, arith, ℕ, zero, suc, ◌+◌, ◌-◌, ◌<◌, ◌≤◌, ◌^◌, ◌++◌, true, false, not}
use Rattle.std.proofs.Common.{List, [], ◌∷◌, length, get_or, cond, Option, Some, None, IfSome, slice_get, inl, inr}
use Rattle.std.specs.Prelude.{◌==◌, ◌&&◌, ℤ, pos, negsuc, nat_le, int_le, bytes_eq, position, option_and_then}
use Rattle.std.specs.List.{list_all, position_from}
use Rattle.std.proofs.lemmas.Bool.{and_from, and_parts, cases_Bool, eqb-true, le-leb, leb-true, not-true}
use Rattle.std.proofs.lemmas.Iterator.Adapters.{position_from-zero}
use Rattle.std.proofs.lemmas.List.Folds.{list_all-append, list_any_at}
use Rattle.std.proofs.lemmas.Option.{get_or_from_slice_get, slice_get_within}
use Rattle.std.proofs.lemmas.Slice.Eq.{bytes_eq-Decides}
use Rattle.st_types.specs.declared.kind.Kind.{Kind}
use Rattle.st_types.specs.declared.kind.Kind.TheVariants.{Sint, Int, Dint, Lint, Usint, Uint, Udint, Ulint, Byte, Word}
use Rattle.st_types.specs.declared.kind.Kind.TheVariants.{Dword, Lword, Time, Bool as Boolean, Enumerated}
use Rattle.st_types.specs.Kinds.{holds, names_in, row_of}
use Rattle.st_types.specs.UpperNames.{is_upper_name}
use Rattle.st_types.specs.Values.{Datum, IsHeld}
use Rattle.st_rules.specs.declared.limits.TheConstants.{MAX_NAMES}
use Rattle.st_meaning.specs.declared.plan.PlanVariable.{PlanVariable}
use Rattle.st_meaning.specs.Layouts.{Enumerations, path_text}
use Rattle.st_meaning.specs.Scopes.{Name, contains_name}
use Rattle.st_print.specs.Spelling.{name_at, name_of, named_or, value_text}
use Rattle.plan.specs.Sound.{has_line, has_names, has_spelling, is_spelled}
use Rattle.retain_records.specs.SplitLaws.{has_no}
use Rattle.retain_records.specs.LineLaws.{spelling_in_line}
use Rattle.retain_records.specs.Records.{by_names}
use Rattle.trace.specs.NamedValues.{is_place, value_at_place, value_named}
use Rattle.trace.specs.Reads.{FieldSpells}
use Rattle.trace.specs.NamedValues.{are_names_apart}
use Rattle.trace.proofs.ValueLemmas.{MayBe, few_of, plain_value, spelled, text_is}
use Rattle.durable_core.proofs.RecordLemmas.{HasNames, names_there}
use Rattle.layout.specs.Names.{are_different}

-- ---- a value of another type has no name

no_name : (types : Enumerations) (k : Kind) (z : ℤ) → is_place (row_of k).sort ≡ false → name_of types k z ≡ None
no_name types (Enumerated names number) z e = absurd cc
no_name types Sint z e = refl
no_name types Int z e = refl
no_name types Dint z e = refl
no_name types Lint z e = refl
no_name types Usint z e = refl
no_name types Uint z e = refl
no_name types Udint z e = refl
no_name types Ulint z e = refl
no_name types Byte z e = refl
no_name types Word z e = refl
no_name types Dword z e = refl
no_name types Lword z e = refl
no_name types Time z e = refl
no_name types Boolean z e = refl

text_plain : (types : Enumerations) (v : Datum) → is_place (row_of v.kind).sort ≡ false
    → value_text types v ≡ value_text [] v
text_plain types v e = ap (λ n. named_or n (spelled v)) (no_name types v.kind v.number e) ∙ sym (text_is v)

-- so it is spelled alike with any names
pub plain_spells : (types : Enumerations) (kind : Kind) (field : List ℕ) (o : Option Datum)
    → is_place (row_of kind).sort ≡ false → FieldSpells (MayBe kind) (value_text []) field o
    → FieldSpells (MayBe kind) (value_text types) field o
plain_spells types kind field o e told = (there o told.0, only)
  where
    same : (v : Datum) → v.kind ≡ kind → value_text types v ≡ value_text [] v
    same v is = text_plain types v (ap (λ k. is_place (row_of k).sort) is ∙ e)

    there : (u : Option Datum) → IfSome u (λ v. MayBe kind v × (field ≡ value_text [] v))
        → IfSome u (λ v. MayBe kind v × (field ≡ value_text types v))
    there None h = tt
    there (Some v) h = (h.0, h.1 ∙ sym (same v h.0.0))

    only : (v : Datum) → MayBe kind v → field ≡ value_text types v → o ≡ Some v
    only v may is = told.1 v may (is ∙ same v may.0)

-- ---- a name and its place

same_name : (x : Name) → bytes_eq x x ≡ true
same_name x = (bytes_eq-Decides x x).1 refl

not_there : (xs : List Name) (x y : Name) (m : ℕ) → contains_name xs x ≡ false → slice_get xs m ≡ Some y → x ≡ y → ⊥
not_there xs x y m none at is =
    let there : bytes_eq x y ≡ true = subst (λ z. bytes_eq x z ≡ true) is (same_name x) in
    let some : contains_name xs x ≡ true = list_any_at (λ z. bytes_eq x z) xs m y (slice_get_within xs m y at)
    (ap (bytes_eq x) (get_or_from_slice_get xs m y y at) ∙ there) in
    let bad : true ≡ false = sym some ∙ none in cc

found_from : (field : Name) (names : List Name) (i m : ℕ) (y : Name) → are_different names ≡ true
    → slice_get names m ≡ Some y → field ≡ y → position_from (bytes_eq field) i names ≡ Some (i + m)
found_from field [] i m y apart at is = absurd cc
found_from field (x ∷ xs) i zero y apart at is =
    let first : x ≡ y = cc in
    let same : bytes_eq field x ≡ true = subst (λ z. bytes_eq field z ≡ true) (is ∙ sym first) (same_name field) in
    let sum : i ≡ i + 0 = omega arith in
    rw same (ap Some sum)
found_from field (x ∷ xs) i (suc m) y apart at is =
    let p = and_parts (not (contains_name xs x)) (are_different xs) apart in
    let sum : i + 1 + m ≡ i + suc m = omega arith in
    elim (cases_Bool (bytes_eq field x)) [
      | inl same ↦
          absurd (not_there xs x y m (not-true (contains_name xs x) p.0) at
          (sym ((bytes_eq-Decides field x).0 same) ∙ is))
      | inr other ↦ rw other (found_from field xs (i + 1) m y p.1 at is ∙ ap Some sum)
    ]

-- of different names each is found at its place
found : (field : Name) (names : List Name) (m : ℕ) (y : Name) → are_different names ≡ true
    → slice_get names m ≡ Some y → field ≡ y → position (bytes_eq field) names ≡ Some m
found field names m y apart at is =
    let sum : 0 + m ≡ m = omega arith in
    position_from-zero (bytes_eq field) names ∙ found_from field names 0 m y apart at is ∙ ap Some sum

record IsAt (field : Name) (names : List Name) (i p : ℕ) : Type 0 where
  pub place : ℕ
  pub sum : p ≡ i + place
  pub at : slice_get names place ≡ Some field

at_from : (field : Name) (names : List Name) (i p : ℕ) → position_from (bytes_eq field) i names ≡ Some p
    → IsAt field names i p
at_from field [] i p e = absurd cc
at_from field (x ∷ xs) i p e = elim (cases_Bool (bytes_eq field x)) [
  | inl same ↦
      let here : cond (bytes_eq field x) (Some i) (position_from (bytes_eq field) (i + 1) xs) ≡ Some p = e in
      let one : Some i ≡ Some p = rw same at here in
      let is : i ≡ p = cc in
      record { place = 0; sum = omega (arith, is); at = ap Some (sym ((bytes_eq-Decides field x).0 same)) }
  | inr other ↦
      let here : cond (bytes_eq field x) (Some i) (position_from (bytes_eq field) (i + 1) xs) ≡ Some p = e in
      let rest : position_from (bytes_eq field) (i + 1) xs ≡ Some p = rw other at here in
      let more = at_from field xs (i + 1) p rest in
      record { place = suc more.place; sum = omega (arith, more.sum); at = more.at }
]

-- a name that is found is at its place
found_at : (field : Name) (names : List Name) (p : ℕ) → position (bytes_eq field) names ≡ Some p
    → slice_get names p ≡ Some field
found_at field names p e =
    let is = at_from field names 0 p (sym (position_from-zero (bytes_eq field) names) ∙ e) in
    let same : p ≡ is.place = omega (arith, is.sum) in
    ap (slice_get names) same ∙ is.at

-- ---- values with their names

there_at : (names : List Name) (m : ℕ) → m < length names → (y : Name) × (slice_get names m ≡ Some y)
there_at [] m less = absurd (omega (arith, less))
there_at (x ∷ xs) zero less = (x, refl)
there_at (x ∷ xs) (suc m) less = there_at xs m (omega (arith, less))

-- a held value's name
record HasName (names : List Name) (z : ℤ) : Type 0 where
  pub place : ℕ
  pub number : z ≡ pos place
  pub name : Name
  pub at : slice_get names place ≡ Some name

has_name : (names : List Name) (n number : ℕ) (z : ℤ) → HasNames names n → holds (Enumerated n number) z ≡ true
    → HasName names z
has_name names n number (pos m) h held =
    let top = leb-true m (n - 1) (and_parts (int_le (pos 0) (pos m)) (int_le (pos m) (pos (n - 1))) held).1 in
    let y = there_at names m (omega (arith, top, h.count, h.some)) in
    record { place = m; number = refl; name = y.0; at = y.1 }
has_name names n number (negsuc m) h held = absurd (let low =
    (and_parts (int_le (pos 0) (negsuc m)) (int_le (negsuc m) (pos (n - 1))) held).0 in cc)

abbrev datum : Kind → ℤ → Datum
datum k z = record { kind = k; number = z }

made : (names : List Name) (n number p : ℕ) (x : Name) → HasNames names n → slice_get names p ≡ Some x
    → holds (Enumerated n number) (pos p) ≡ true
made names n number p x h at =
    let less = slice_get_within names p x at in
    and_from (int_le (pos 0) (pos p)) (int_le (pos p) (pos (n - 1))) (le-leb 0 p (omega arith))
    (le-leb p (n - 1) (omega (arith, less, h.count)))

ranged : (k : Kind) (p : ℕ) → holds k (pos p) ≡ true → value_at_place k p ≡ Some (datum k (pos p))
ranged k p held = rw held refl

apart_at : (types : Enumerations) (k : ℕ) (names : List Name) → are_names_apart types ≡ true
    → slice_get types k ≡ Some names → are_different names ≡ true
apart_at [] k names apart at = absurd cc
apart_at (x ∷ xs) zero names apart at =
    let is : x ≡ names = cc in
    ap are_different (sym is) ∙ (and_parts (are_different x) (are_names_apart xs) apart).0
apart_at (x ∷ xs) (suc k) names apart at =
    apart_at xs k names (and_parts (are_different x) (are_names_apart xs) apart).1 at

-- a value is spelled by the name at its place
text_named : (types : Enumerations) (n number : ℕ) (names : List Name) (v : Datum) (m : ℕ) (y : Name)
    → v.kind ≡ Enumerated n number → v.number ≡ pos m → slice_get types number ≡ Some names
    → slice_get names m ≡ Some y → value_text types v ≡ y
text_named types n number names v m y kind is there at = ap (λ o. named_or o (spelled v))
    (ap (λ k. name_of types k v.number) kind ∙ ap (name_of types (Enumerated n number)) is
    ∙ ap (λ o. name_at o m) there ∙ at)

spells_named : (types : Enumerations) (n number : ℕ) (names : List Name) (field : List ℕ)
    → slice_get types number ≡ Some names → HasNames names n → are_different names ≡ true
    → FieldSpells (MayBe (Enumerated n number)) (value_text types) field (value_named types (Enumerated n number) field)
spells_named types n number names field there h apart =
    subst (λ (o : Option Datum). FieldSpells (MayBe (Enumerated n number)) (value_text types) field o) (sym named)
    (given (position (bytes_eq field) names) refl, only)
  where
    named : value_named types (Enumerated n number) field ≡ option_and_then (value_at_place (Enumerated n number)) (position (bytes_eq field) names)
    named = ap (option_and_then (λ ns. option_and_then (value_at_place (Enumerated n number)) (position (bytes_eq field) ns))) there

    given : (q : Option ℕ) → position (bytes_eq field) names ≡ q
        → IfSome (option_and_then (value_at_place (Enumerated n number)) q) (λ v. MayBe (Enumerated n number) v × (field ≡ value_text types v))
    given None e = tt
    given (Some p) e =
        let at = found_at field names p e in
        let held = made names n number p field h at in
        subst (λ (o : Option Datum). IfSome o (λ v. MayBe (Enumerated n number) v × (field ≡ value_text types v)))
        (sym (ranged (Enumerated n number) p held))
        ((refl, held), sym (text_named types n number names (datum (Enumerated n number) (pos p)) p field refl refl there at))

    only : (w : Datum) → MayBe (Enumerated n number) w → field ≡ value_text types w
        → option_and_then (value_at_place (Enumerated n number)) (position (bytes_eq field) names) ≡ Some w
    only w may e =
        let held : holds (Enumerated n number) w.number ≡ true = ap (λ k. holds k w.number) (sym may.0) ∙ may.1 in
        let its = has_name names n number w.number h held in
        let text = text_named types n number names w its.place its.name may.0 its.number there its.at in
        let less = slice_get_within names its.place its.name its.at in
        let again : holds (Enumerated n number) (pos its.place) ≡ true = ap (holds (Enumerated n number)) (sym its.number) ∙ held in
        ap (option_and_then (value_at_place (Enumerated n number))) (found field names its.place its.name apart its.at (e ∙ text))
        ∙ ranged (Enumerated n number) its.place again
        ∙ ap (λ z. Some (datum (Enumerated n number) z)) (sym its.number) ∙ ap (λ k. Some (datum k w.number)) (sym may.0)

-- the value with a name is the one that it spells
pub named_spells : (types : Enumerations) (kind : Kind) (field : List ℕ) → is_place (row_of kind).sort ≡ true
    → has_spelling types kind ≡ true → are_names_apart types ≡ true
    → FieldSpells (MayBe kind) (value_text types) field (value_named types kind field)
named_spells types (Enumerated n number) field place spelled_so apart =
    by_names (slice_get types number) refl spelled_so
  where
    by_names : (o : Option (List Name)) → slice_get types number ≡ o → has_names o n ≡ true
        → FieldSpells (MayBe (Enumerated n number)) (value_text types) field (value_named types (Enumerated n number) field)
    by_names None there e = absurd cc
    by_names (Some names) there e =
        spells_named types n number names field there (names_there names n e) (apart_at types number names apart there)
named_spells types Sint field place spelled_so apart = absurd cc
named_spells types Int field place spelled_so apart = absurd cc
named_spells types Dint field place spelled_so apart = absurd cc
named_spells types Lint field place spelled_so apart = absurd cc
named_spells types Usint field place spelled_so apart = absurd cc
named_spells types Uint field place spelled_so apart = absurd cc
named_spells types Udint field place spelled_so apart = absurd cc
named_spells types Ulint field place spelled_so apart = absurd cc
named_spells types Byte field place spelled_so apart = absurd cc
named_spells types Word field place spelled_so apart = absurd cc
named_spells types Dword field place spelled_so apart = absurd cc
named_spells types Lword field place spelled_so apart = absurd cc
named_spells types Time field place spelled_so apart = absurd cc
named_spells types Boolean field place spelled_so apart = absurd cc

-- ---- without LF

-- a name has none, since a layout text's line can spell it
name_plain : (x : Name) → is_upper_name x ≡ true → has_no 10 x ≡ true
name_plain x upper =
    let each : list_all is_upper_name (x ∷ []) ≡ true = and_from (is_upper_name x) true upper refl in
    let line : has_no 10 (40 ∷ x ++ 41 ∷ []) ≡ true =
    spelling_in_line (40 ∷ x ++ 41 ∷ []) (Enumerated 1 0) (by_names 1 refl (record {
      names = x ∷ [];
      spelled = refl;
      each = each;
      some = omega arith;
      most = omega arith;
      count = refl;
    })) in
    (and_parts (has_no 10 x) (has_no 10 (41 ∷ [])) (sym (list_all-append (λ b. not (b == 10)) x (41 ∷ [])) ∙ line)).0

upper_at : (names : List Name) (m : ℕ) (y : Name) → list_all is_upper_name names ≡ true → slice_get names m ≡ Some y
    → is_upper_name y ≡ true
upper_at [] m y each at = absurd cc
upper_at (x ∷ xs) zero y each at =
    let is : x ≡ y = cc in
    ap is_upper_name (sym is) ∙ (and_parts (is_upper_name x) (list_all is_upper_name xs) each).0
upper_at (x ∷ xs) (suc m) y each at =
    upper_at xs m y (and_parts (is_upper_name x) (list_all is_upper_name xs) each).1 at

plain_named : (types : Enumerations) (n number : ℕ) (o : Option (List Name)) (v : Datum) → slice_get types number ≡ o
    → has_names o n ≡ true → v.kind ≡ Enumerated n number → IsHeld v → has_no 10 (value_text types v) ≡ true
plain_named types n number None v there e kind held = absurd cc
plain_named types n number (Some names) v there e kind held =
    let h = names_there names n e in
    let its = has_name names n number v.number h (ap (λ k. holds k v.number) (sym kind) ∙ held) in
    ap (has_no 10) (text_named types n number names v its.place its.name kind its.number there its.at)
    ∙ name_plain its.name (upper_at names its.place its.name h.each its.at)

plain_other : (types : Enumerations) (kind : Kind) (v : Datum) → is_place (row_of kind).sort ≡ false
    → names_in kind < 2 ^ 16 → v.kind ≡ kind → IsHeld v → has_no 10 (value_text types v) ≡ true
plain_other types kind v place few is held =
    ap (has_no 10) (text_plain types v (ap (λ k. is_place (row_of k).sort) is ∙ place))
    ∙ plain_value v (few_of kind v.kind is few) held

-- a value of a type with a spelling
pub plain_text : (types : Enumerations) (kind : Kind) (v : Datum) → has_spelling types kind ≡ true
    → names_in kind < 2 ^ 16 → v.kind ≡ kind → IsHeld v → has_no 10 (value_text types v) ≡ true
plain_text types (Enumerated n number) v spelled_so few kind held =
    plain_named types n number (slice_get types number) v refl spelled_so kind held
plain_text types Sint v spelled_so few kind held = plain_other types Sint v refl few kind held
plain_text types Int v spelled_so few kind held = plain_other types Int v refl few kind held
plain_text types Dint v spelled_so few kind held = plain_other types Dint v refl few kind held
plain_text types Lint v spelled_so few kind held = plain_other types Lint v refl few kind held
plain_text types Usint v spelled_so few kind held = plain_other types Usint v refl few kind held
plain_text types Uint v spelled_so few kind held = plain_other types Uint v refl few kind held
plain_text types Udint v spelled_so few kind held = plain_other types Udint v refl few kind held
plain_text types Ulint v spelled_so few kind held = plain_other types Ulint v refl few kind held
plain_text types Byte v spelled_so few kind held = plain_other types Byte v refl few kind held
plain_text types Word v spelled_so few kind held = plain_other types Word v refl few kind held
plain_text types Dword v spelled_so few kind held = plain_other types Dword v refl few kind held
plain_text types Lword v spelled_so few kind held = plain_other types Lword v refl few kind held
plain_text types Time v spelled_so few kind held = plain_other types Time v refl few kind held
plain_text types Boolean v spelled_so few kind held = plain_other types Boolean v refl few kind held

-- ---- types of a plan

-- the type of a variable in the layout text
pub spelled_at : (types : Enumerations) (vs : List PlanVariable) (i : ℕ) (v : PlanVariable)
    → list_all (has_line types) vs ≡ true → i < length vs → v ≡ get_or vs i v
    → has_spelling types v.initial.kind ≡ true
spelled_at types [] i v all small is = absurd (omega (arith, small))
spelled_at types (u ∷ vs) zero v all small is =
    let p = and_parts (has_line types u) (list_all (has_line types) vs) all in
    let q = and_parts (is_spelled (path_text u.path)) (has_spelling types u.initial.kind) p.0 in
    ap (λ (x : PlanVariable). has_spelling types x.initial.kind) is ∙ q.1
spelled_at types (u ∷ vs) (suc i) v all small is =
    spelled_at types vs i v (and_parts (has_line types u) (list_all (has_line types) vs) all).1 (omega (arith, small)) is
