-- Values as a record knows them, and as a plan's types give them back.
use Rattle.std.proofs.Common.{◌≡◌, ◌∙◌, ap, sym, refl, arith, ℕ, ◌-◌, ◌≤◌, Bool, true, false, List, [], ◌∷◌, length, map}
use Rattle.std.specs.Prelude.{ℤ, pos, negsuc, ◌==◌, ◌||◌, int_le, if◌then◌else◌, Result, Ok, Err}
use Rattle.std.specs.List.{AllByRecursion}
use Rattle.std.proofs.lemmas.Bool.{and_parts, leb-true, lt-ltb}
use Rattle.st_types.specs.declared.kind.Kind.{Kind}
use Rattle.st_types.specs.declared.kind.Kind.TheVariants.{Sint, Int, Dint, Lint, Usint, Uint, Udint, Ulint, Byte, Word}
use Rattle.st_types.specs.declared.kind.Kind.TheVariants.{Dword, Lword, Time, Bool as Boolean, Enumerated}
use Rattle.st_types.specs.declared.fault.Fault.{Fault}
use Rattle.st_types.specs.declared.fault.Fault.TheVariants.{Range}
use Rattle.st_types.specs.Kinds.{holds, width_of}
use Rattle.st_types.specs.Values.{Datum, IsHeld, in_range}
use Rattle.retain_records.specs.Records.{has_keyword, is_byte_place}
use Rattle.durable_core.specs.Recorded.{recorded_kind, recorded, renumbered, all_renumbered}
use Rattle.core_engine.proofs.RetainedLemmas.{cons_head, cons_tail}
use Rattle.st_types.proofs.TestLemmas.{or_true}

-- a record leaves an elementary type as it is
pub as_it_is : (k : Kind) (z : ℤ) → has_keyword k ≡ true
    → ◌≡◌ {A = Datum} (recorded record { kind = k; number = z }) record { kind = k; number = z }
as_it_is Sint z e = refl
as_it_is Int z e = refl
as_it_is Dint z e = refl
as_it_is Lint z e = refl
as_it_is Usint z e = refl
as_it_is Uint z e = refl
as_it_is Udint z e = refl
as_it_is Ulint z e = refl
as_it_is Byte z e = refl
as_it_is Word z e = refl
as_it_is Dword z e = refl
as_it_is Lword z e = refl
as_it_is Time z e = refl
as_it_is Boolean z e = refl
as_it_is (Enumerated names number) z e = absurd cc

-- the type has the same numbers
pub holds_recorded : (k : Kind) (z : ℤ) → holds (recorded_kind k) z ≡ holds k z
holds_recorded Sint z = refl
holds_recorded Int z = refl
holds_recorded Dint z = refl
holds_recorded Lint z = refl
holds_recorded Usint z = refl
holds_recorded Uint z = refl
holds_recorded Udint z = refl
holds_recorded Ulint z = refl
holds_recorded Byte z = refl
holds_recorded Word z = refl
holds_recorded Dword z = refl
holds_recorded Lword z = refl
holds_recorded Time z = refl
holds_recorded Boolean z = refl
holds_recorded (Enumerated names number) z = refl

-- and the same width
pub width_recorded : (k : Kind) → width_of (recorded_kind k) ≡ width_of k
width_recorded Sint = refl
width_recorded Int = refl
width_recorded Dint = refl
width_recorded Lint = refl
width_recorded Usint = refl
width_recorded Uint = refl
width_recorded Udint = refl
width_recorded Ulint = refl
width_recorded Byte = refl
width_recorded Word = refl
width_recorded Dword = refl
width_recorded Lword = refl
width_recorded Time = refl
width_recorded Boolean = refl
width_recorded (Enumerated names number) = refl

-- a value has its number in a record
pub in_record : (d : Datum) → IsHeld d → in_range (recorded_kind d.kind) d.number ≡ Ok (recorded d)
in_record d held = rw (holds_recorded d.kind d.number ∙ held) refl

-- a value of a type, or as it was
pub in_type : (b : Bool) (x y d : Datum) → ◌≡◌ {A = Result Datum Fault} (Ok x) (if b then Ok y else Err Range)
    → x ≡ (if b then y else d)
in_type true x y d e = cc
in_type false x y d e = absurd (cc)

pub not_in_type : (b : Bool) (f : Fault) (y d : Datum)
    → ◌≡◌ {A = Result Datum Fault} (Err f) (if b then Ok y else Err Range) → d ≡ (if b then y else d)
not_in_type true f y d e = absurd (cc)
not_in_type false f y d e = refl

pub same_value : (x y : Datum) → ◌≡◌ {A = Result Datum Fault} (Ok x) (Ok y) → x ≡ y
same_value x y e = cc

-- a record's values, as values of these types
abbrev pub typed : List Kind → List Datum → List Datum
typed [] ws = []
typed (k ∷ ks) [] = []
typed (k ∷ ks) (w ∷ ws) = record { kind = k; number = w.number } ∷ typed ks ws

abbrev Know : List Kind → List Datum → Type 0
Know ks ws = map (λ d. d.kind) ws ≡ map recorded_kind ks

held_as : (k : Kind) (w : Datum) → w.kind ≡ recorded_kind k → IsHeld w → holds k w.number ≡ true
held_as k w is held =
    sym (holds_recorded k w.number) ∙ ap (λ j. holds j w.number) (sym is) ∙ held

pub typed_kinds : (ks : List Kind) (ws : List Datum) → Know ks ws → map (λ d. d.kind) (typed ks ws) ≡ ks
typed_kinds [] ws e = refl
typed_kinds (k ∷ ks) [] e = absurd (omega (arith, ap length e))
typed_kinds (k ∷ ks) (w ∷ ws) e = ap (λ js. k ∷ js) (typed_kinds ks ws (cons_tail e))

pub typed_held : (ks : List Kind) (ws : List Datum) → Know ks ws → AllByRecursion IsHeld ws
    → AllByRecursion IsHeld (typed ks ws)
typed_held [] ws e held = tt
typed_held (k ∷ ks) [] e held = tt
typed_held (k ∷ ks) (w ∷ ws) e held = (held_as k w (cons_head e) held.0, typed_held ks ws (cons_tail e) held.1)

-- the record's values come back from them
pub typed_back : (ks : List Kind) (ws : List Datum) → Know ks ws → map recorded (typed ks ws) ≡ ws
typed_back [] [] e = refl
typed_back [] (w ∷ ws) e = absurd (omega (arith, ap length e))
typed_back (k ∷ ks) [] e = absurd (omega (arith, ap length e))
typed_back (k ∷ ks) (w ∷ ws) e =
    ap (λ j. record { kind = j; number = w.number } ∷ map recorded (typed ks ws)) (sym (cons_head e))
    ∙ ap (λ us. w ∷ us) (typed_back ks ws (cons_tail e))

-- and values of these types come back from their recorded form
pub typed_recorded : (ks : List Kind) (ds : List Datum) → map (λ d. d.kind) ds ≡ ks → typed ks (map recorded ds) ≡ ds
typed_recorded [] [] e = refl
typed_recorded [] (d ∷ ds) e = absurd (omega (arith, ap length e))
typed_recorded (k ∷ ks) [] e = refl
typed_recorded (k ∷ ks) (d ∷ ds) e =
    ap (λ j. record { kind = j; number = d.number } ∷ typed ks (map recorded ds)) (sym (cons_head e))
    ∙ ap (λ us. d ∷ us) (typed_recorded ks ds (cons_tail e))

pub recorded_kinds : (ks : List Kind) (ds : List Datum) → map (λ d. d.kind) ds ≡ ks → Know ks (map recorded ds)
recorded_kinds [] [] e = refl
recorded_kinds [] (d ∷ ds) e = absurd (omega (arith, ap length e))
recorded_kinds (k ∷ ks) [] e = absurd (omega (arith, ap length e))
recorded_kinds (k ∷ ks) (d ∷ ds) e =
    ap (λ j. recorded_kind j ∷ map (λ x. x.kind) (map recorded ds)) (cons_head e)
    ∙ ap (λ js. recorded_kind k ∷ js) (recorded_kinds ks ds (cons_tail e))

pub all_recorded : (ds : List Datum) → AllByRecursion IsHeld ds → AllByRecursion IsHeld (map recorded ds)
all_recorded [] held = tt
all_recorded (d ∷ ds) held = (holds_recorded d.kind d.number ∙ held.0, all_recorded ds held.1)

-- the plan's own values take the numbers of a record
numbered_first : (d w : Datum) (k : Kind) → d.kind ≡ k → w.kind ≡ recorded_kind k → IsHeld w
    → ◌≡◌ {A = Datum} (renumbered d w) record { kind = k; number = w.number }
numbered_first d w k is same held =
    let there : holds d.kind w.number ≡ true = ap (λ j. holds j w.number) is ∙ held_as k w same held in
    rw there (ap (λ j. record { kind = j; number = w.number }) is)

pub numbered : (ks : List Kind) (ds ws : List Datum) → map (λ d. d.kind) ds ≡ ks → Know ks ws
    → AllByRecursion IsHeld ws → all_renumbered ds ws ≡ typed ks ws
numbered [] [] ws is e held = refl
numbered [] (d ∷ ds) ws is e held = absurd (omega (arith, ap length is))
numbered (k ∷ ks) [] ws is e held = absurd (omega (arith, ap length is))
numbered (k ∷ ks) (d ∷ ds) [] is e held = absurd (omega (arith, ap length e))
numbered (k ∷ ks) (d ∷ ds) (w ∷ ws) is e held =
    ap (λ x. x ∷ all_renumbered ds ws) (numbered_first d w k (cons_head is) (cons_head e) held.0)
    ∙ ap (λ us. record { kind = k; number = w.number } ∷ us) (numbered ks ds ws (cons_tail is) (cons_tail e) held.1)

pub place_recorded : (n : ℕ) (z : ℤ) → n ≤ 256 → holds (Enumerated n 0) z ≡ true
    → is_byte_place (record { kind = Enumerated n 0; number = z }) ≡ true
place_recorded n (pos m) few held =
    let top = leb-true m (n - 1) (and_parts (int_le (pos 0) (pos m)) (int_le (pos m) (pos (n - 1))) held).1 in
    rw (lt-ltb m 256 (omega (arith, top, few))) (or_true (n == 0))
place_recorded n (negsuc m) few held = absurd (let low =
    (and_parts (int_le (pos 0) (negsuc m)) (int_le (negsuc m) (pos (n - 1))) held).0 in cc)
