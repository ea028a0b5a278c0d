-- The records that were read are those of the bytes.
use Rattle.std.proofs.Common.{◌≡◌, ◌∙◌, refl, ap, ℕ, suc, zero, ◌+◌, ◌<◌, ◌≤◌, ◌==◌, List, [], ◌∷◌, ◌++◌, length, Bool}
use Rattle.std.proofs.Common.{true, false, if◌then◌else◌, Option, Some, None, arith}
use Rattle.csv.specs.Machine.{Read, next_record, step, in_field, start_field, start_record, is_end, ends_at_end}
use Rattle.csv.specs.Machine.{fields_after, field_after}
use Rattle.csv.specs.Reading.{default_config, Reached, records_from, strip_bom}
use Rattle.csv.specs.declared.parser.Action.{Action}
use Rattle.csv.specs.declared.parser.Action.TheVariants as act
use Rattle.csv.specs.declared.parser.State.{State}
use Rattle.std.proofs.lemmas.List.{append-nil}
use Rattle.csv.specs.declared.parser.State.TheVariants as st
use Rattle.image.specs.Plants.{Fields}
use Rattle.image.specs.Records.{records_of}

-- the states between records
is_between : State → Bool
is_between st.StartRecord = true
is_between st.AfterCr = true
is_between st.StartField = false
is_between st.InField = false
is_between st.InQuoted = false
is_between st.AfterQuote = false
is_between st.InEscape = false
is_between st.InComment = false

-- a step that ends a record leaves a state between records
EndsBetween : State × Action → Type 0
EndsBetween x = is_end x.1 ≡ true → is_between x.0 ≡ true

either : (b : Bool) (x y : State × Action) → EndsBetween x → EndsBetween y → EndsBetween (if b then x else y)
either true x y h k = h
either false x y h k = k

goes_on : (s : State) (a : Action) → is_end a ≡ false → EndsBetween (s, a)
unfolding EndsBetween
goes_on s a e = λ h. cc

ends : (s : State) (a : Action) → is_between s ≡ true → EndsBetween (s, a)
unfolding EndsBetween
ends s a e = λ h. e

after_end_between : (b : Bool) → is_between (if b then st.AfterCr else st.StartRecord) ≡ true
unfolding is_between
after_end_between true = refl
after_end_between false = refl

in_field_between : (c : ℕ) → EndsBetween (in_field default_config c)
in_field_between c = either _ _ _ (goes_on st.StartField act.EndField refl)
    (either _ _ _ (ends _ act.EndRecord (after_end_between (c == 13))) (goes_on st.InField act.Copy refl))

start_field_between : (c : ℕ) → EndsBetween (start_field default_config c)
start_field_between c = either _ _ _ (goes_on st.InQuoted act.Skip refl) (in_field_between c)

start_record_between : (c : ℕ) → EndsBetween (start_record default_config c)
start_record_between c = either _ _ _ (goes_on st.StartRecord act.Skip refl) (start_field_between c)

step_between : (s : State) (c : ℕ) → EndsBetween (step default_config s c)
step_between st.StartRecord c = start_record_between c
step_between st.StartField c = start_field_between c
step_between st.InField c = in_field_between c
step_between st.InQuoted c = either _ _ _ (goes_on st.AfterQuote act.Skip refl) (goes_on st.InQuoted act.Copy refl)
step_between st.InEscape c = goes_on st.InQuoted act.Copy refl
step_between st.AfterQuote c = either _ _ _ (goes_on st.InQuoted act.Copy refl) (in_field_between c)
step_between st.InComment c = either _ _ _ (goes_on st.StartRecord act.Skip refl) (goes_on st.InComment act.Skip refl)
step_between st.AfterCr c = either _ _ _ (goes_on st.StartRecord act.Skip refl) (start_record_between c)

-- where a record ends, and how much is left of the bytes
record Goes (xs : List ℕ) (p : Read) : Type 0 where
  between : is_between p.1 ≡ true
  less : length p.2 ≤ length xs

goes_to : (xs : List ℕ) (fields : Fields) (s : State) (rest : List ℕ) (p : Read) → is_between s ≡ true
    → length rest ≤ length xs → ◌≡◌ {A = Option Read} (Some (fields, s, rest)) (Some p) → Goes xs p
goes_to xs fields s rest p h less e =
    let same : ◌≡◌ {A = Read} (fields, s, rest) p = cc in
    let state = ap (λ (r : Read). r.1) same in
    let left = ap (λ (r : Read). r.2) same in
    record { between = rw (← state) h; less = rw (← left) less }

next_goes : (s : State) (fields : Fields) (field xs : List ℕ) (p : Read)
    → next_record default_config s fields field xs ≡ Some p → Goes xs p
unfolding next_record is_between EndsBetween
next_goes s fields field [] p e = by (ends_at_end s) e
  where
    by : (b : Bool) → (if b then Some (fields ++ (field ∷ []), st.StartRecord, []) else None) ≡ Some p → Goes [] p
    by true e = goes_to [] (fields ++ (field ∷ [])) st.StartRecord [] p refl (omega arith) e
    by false e = absurd (cc)
next_goes s fields field (c ∷ rest) p e =
    by (is_end (step default_config s c).1) refl
    (next_goes (step default_config s c).0 (fields_after (step default_config s c).1 fields field)
    (field_after (step default_config s c).1 c field) rest p) e
  where
    by : (b : Bool) → is_end (step default_config s c).1 ≡ b
        → (next_record default_config (step default_config s c).0 (fields_after (step default_config s c).1 fields
        field) (field_after (step default_config s c).1 c field) rest ≡ Some p → Goes rest p)
        → (if b then Some (fields_after (step default_config s c).1 fields field, (step default_config s c).0, rest)
        else next_record default_config (step default_config s c).0 (fields_after (step default_config s c).1 fields
        field) (field_after (step default_config s c).1 c field) rest)
        ≡ Some p
        → Goes (c ∷ rest) p
    by true is more e = goes_to (c ∷ rest) (fields_after (step default_config s c).1 fields field)
        (step default_config s c).0 rest p (step_between s c is) (omega arith) e
    by false is more e = let on = more e in record { between = on.between; less = omega (arith, on.less) }

-- a record takes at least a byte
next_takes : (s : State) (xs : List ℕ) (p : Read) → is_between s ≡ true → next_record default_config s [] [] xs ≡ Some p
    → length p.2 < length xs
unfolding next_record is_between
next_takes st.StartRecord [] p b e = absurd (cc)
next_takes st.AfterCr [] p b e = absurd (cc)
next_takes st.StartField [] p b e = absurd (cc)
next_takes st.InField [] p b e = absurd (cc)
next_takes st.InQuoted [] p b e = absurd (cc)
next_takes st.AfterQuote [] p b e = absurd (cc)
next_takes st.InEscape [] p b e = absurd (cc)
next_takes st.InComment [] p b e = absurd (cc)
next_takes s (c ∷ rest) p b e = by (is_end (step default_config s c).1) e
  where
    by : (t : Bool)
        → (if t then Some (fields_after (step default_config s c).1 [] [], (step default_config s c).0, rest)
        else next_record default_config (step default_config s c).0 (fields_after (step default_config s c).1 [] [])
        (field_after (step default_config s c).1 c []) rest)
        ≡ Some p
        → length p.2 < length (c ∷ rest)
    by true e =
        let same :
        ◌≡◌ {A = Read} (fields_after (step default_config s c).1 [] [], (step default_config s c).0, rest) p = cc in
        let left = ap (λ (r : Read). length r.2) same in
        omega arith
    by false e =
        let on = next_goes (step default_config s c).0 (fields_after (step default_config s c).1 [] [])
        (field_after (step default_config s c).1 c []) rest p e in
        omega (arith, on.less)

-- the records of the bytes are those that were read, and after them those of the bytes that are left
reached_records : (n : ℕ) (s : State) (xs : List ℕ) (read : List Fields) (s2 : State) (ys : List ℕ)
    → is_between s ≡ true → length xs < n → Reached default_config s xs read s2 ys
    → (m : ℕ) × (records_from default_config n s xs ≡ read ++ records_from default_config m s2 ys)
unfolding Reached records_from
reached_records n s xs [] s2 ys b less h = (n, rw (h.0, h.1) refl)
reached_records zero s xs (r ∷ rs) s2 ys b less h = absurd (omega arith)
reached_records (suc n) s xs (r ∷ rs) s2 ys b less h = first n s xs r rs s2 ys h.0 b less h.1 h.2
    (λ next_between fewer. reached_records n h.0.1 h.0.2 rs s2 ys next_between fewer h.3)
  where
    first : (n : ℕ) (s : State) (xs : List ℕ) (r : Fields) (rs : List Fields) (s2 : State) (ys : List ℕ) (p : Read)
        → is_between s ≡ true → length xs < suc n
        → next_record default_config s [] [] xs ≡ Some p → r ≡ p.0
        → (is_between p.1 ≡ true → length p.2 < n
        → (m : ℕ) × (records_from default_config n p.1 p.2 ≡ rs ++ records_from default_config m s2 ys))
        → (m : ℕ) × (records_from default_config (suc n) s xs ≡ (r ∷ rs) ++ records_from default_config m s2 ys)
    first n s xs r rs s2 ys p b less e same more =
        let on = next_goes s [] [] xs p e in
        let takes = next_takes s xs p b e in
        let (m, rest) = more on.between (omega arith) in
        (m, rw (e, same, rest) refl)

-- if no record is left, there is none
no_records : (m : ℕ) (s : State) (ys : List ℕ) → next_record default_config s [] [] ys ≡ None
    → records_from default_config m s ys ≡ []
unfolding records_from
no_records zero s ys e = refl
no_records (suc m) s ys e = rw e refl

-- the records that were read are a beginning of those of the bytes
pub read_begins : (text : List ℕ) (read : List Fields) (s : State) (ys : List ℕ)
    → Reached default_config st.StartRecord (strip_bom text) read s ys
    → (rest : List Fields) × (records_of text ≡ read ++ rest)
unfolding is_between
read_begins text read s ys h =
    let (m, e) =
    reached_records (length (strip_bom text) + 1) st.StartRecord (strip_bom text) read s ys refl (omega arith) h in
    (records_from default_config m s ys, e)

-- at the end of the bytes they are all of them
pub read_all : (text : List ℕ) (read : List Fields) (s : State) (ys : List ℕ)
    → Reached default_config st.StartRecord (strip_bom text) read s ys
    → next_record default_config s [] [] ys ≡ None → records_of text ≡ read
unfolding is_between
read_all text read s ys h e =
    let (m, is) =
    reached_records (length (strip_bom text) + 1) st.StartRecord (strip_bom text) read s ys refl (omega arith) h in
    is ∙ (ap (λ rest. read ++ rest) (no_records m s ys e) ∙ append-nil read)
