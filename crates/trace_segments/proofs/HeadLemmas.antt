-- The text of a head.
use Rattle.std.proofs.Common.{◌≡◌, ◌∙◌, ℕ, List, [], ◌∷◌, ◌++◌, length, map, flat_map, refl, ap, sym, subst, arith, append-nil}
use Rattle.std.proofs.Common.{Bool, true, Some, None, Result, Ok, Err, OnOk, append_assoc}
use Rattle.std.specs.List.{AllByRecursion}
use Rattle.st_types.specs.Rows.{Latch}
use Rattle.plan.specs.declared.plan.Plan.{Plan}
use Rattle.image.specs.Plants.{IsRowOf}
use Rattle.checkpoints.specs.Checkpoints.{ProgramProgress}
use Rattle.core_engine.proofs.RowLemmas.{kinds_held}
use Rattle.trace_segments.specs.Positions.{IsTyped}
use Rattle.trace.specs.Puts.{IsPut, Puts}
use Rattle.trace.proofs.PutLemmas.{put_all_of}
use Rattle.st_types.specs.Values.{Datum}
use Rattle.std.specs.Fmt.{decimal, signed_decimal}
use Rattle.st_meaning.specs.declared.plan.PlanVariable.{PlanVariable}
use Rattle.st_meaning.specs.declared.plan.PlanInput.{PlanInput}
use Rattle.st_meaning.specs.Slots.{variables_with}
use Rattle.st_meaning.specs.Layouts.{Enumerations, layout_of}
use Rattle.image.specs.Plants.{spelled_values}
use Rattle.live_rows.specs.RowLines.{joined, row_line}
use Rattle.plan.specs.declared.task.ProgramInstance.{ProgramInstance}
use Rattle.core_engine.proofs.PlanSlots.{no_variables}
use Rattle.trace.specs.Texts.{keep_line, keep_text}
use Rattle.trace_segments.specs.Segments.{overruns_line, overruns_text}
use Rattle.trace_segments.specs.Heads.{overruns_lines, paired_text, resting}

-- the lines of variables are those of their store
pub keeps_same : (types : Enumerations) (xs : List PlanVariable) (is : List PlanInput) (vs : List Datum)
    → length vs ≡ length xs → paired_text types xs vs ≡ keep_text types (variables_with (layout_of xs is) vs)
keeps_same types [] is [] same = sym (ap (keep_text types) (no_variables is []))
keeps_same types [] is (v ∷ vs) same = absurd (omega (arith, same))
keeps_same types (x ∷ xs) is [] same = absurd (omega (arith, same))
keeps_same types (x ∷ xs) is (v ∷ vs) same =
    ap (λ (t : List ℕ). keep_line types x.path v ++ t) (keeps_same types xs is vs (omega (arith, same)))

-- the lines of overruns are those of programs that don't wait
pub overruns_same : (ps : List ProgramInstance) (ns : List ℕ) → overruns_lines ps ns ≡ overruns_text ps (map resting ns)
overruns_same [] ns = refl
overruns_same (p ∷ ps) [] = refl
overruns_same (p ∷ ps) (n ∷ ns) = ap (λ (t : List ℕ). overruns_line p n ++ t) (overruns_same ps ns)

-- fields with commas between them, one after another
pub joined_values : (first : List ℕ) (vs : List Datum)
    → first ++ flat_map (λ (v : Datum). 44 ∷ signed_decimal v.number) vs ≡ joined (first ∷ spelled_values vs)
joined_values first [] = append-nil first
joined_values first (v ∷ vs) =
    ap (λ (t : List ℕ). first ++ 44 ∷ t) (joined_values (signed_decimal v.number) vs)

-- a list that is written to grows by the bytes that were put
pub put_behind : (before items bytes : List ℕ) (works : Bool) → works ≡ true
    → Puts (Some before) true (Some items) works bytes → items ≡ before ++ bytes
put_behind before items bytes works is puts =
    subst (λ (b : Bool). IsPut (Some before) (Some items) b bytes) is (put_all_of (Some before) (Some items) works bytes puts)

-- programs that rest wait with nothing
pub rested : (ns : List ℕ) → AllByRecursion (λ (p : ProgramProgress). p.waiting ≡ None) (map resting ns)
rested [] = tt
rested (n ∷ ns) = (refl, rested ns)

-- a row of a plant has its types
pub row_typed : (plan : Plan) (row : Latch) → IsRowOf plan.inputs.items row → IsTyped plan row
row_typed plan row is = kinds_held plan.inputs.items row.image is.0

-- what follows of a success
pub on_ok : {E : Type 0} (r : Result (Unit {0}) E) (P Q : Type 0) → (P → Q) → OnOk r P → OnOk r Q
on_ok (Ok u) P Q weaker h = weaker h
on_ok (Err e) P Q weaker h = tt

-- the parts of a head, one after another
pub pushed : (old one two three four a b c d : List ℕ) → one ≡ old ++ a → two ≡ one ++ b → three ≡ two ++ c → four ≡ three ++ d
    → four ≡ old ++ (a ++ b ++ c ++ d)
pushed old one two three four a b c d ea eb ec ed = rw (ed, ec, eb, ea) (parts old a b c d)
  where
    parts : (o a b c d : List ℕ) → (((o ++ a) ++ b) ++ c) ++ d ≡ o ++ (a ++ b ++ c ++ d)
    parts o a b c d = simp append_assoc

pub row_pushed : (old one two : List ℕ) (moment : ℕ) (image : List Datum) → one ≡ old ++ decimal moment
    → two ≡ one ++ flat_map (λ (v : Datum). 44 ∷ signed_decimal v.number) image
    → two ≡ old ++ row_line record { moment = moment; image = image }
row_pushed old one two moment image e f = f
    ∙ ap (λ (t : List ℕ). t ++ flat_map (λ (v : Datum). 44 ∷ signed_decimal v.number) image) e
    ∙ append_assoc old (decimal moment) (flat_map (λ (v : Datum). 44 ∷ signed_decimal v.number) image)
    ∙ ap (λ (t : List ℕ). old ++ t) (joined_values (decimal moment) image)
