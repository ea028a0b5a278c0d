-- The head of the segment that begins where an engine is.
use Rattle.std.proofs.Common.{◌≡◌, ◌∙◌, ℕ, zero, suc, ◌+◌, ◌<◌, List, [], ◌∷◌, ◌++◌, length, map, take, None, Some, Option, option_map, slice_get, Bor, inl, inr}
use Rattle.std.proofs.Common.{refl, sym, ap, arith}
use Rattle.std.specs.List.{AllByRecursion}
use Rattle.std.specs.Slice.{IsItemAt}
use Rattle.std.proofs.lemmas.List.{length-map, take_all}
use Rattle.std.proofs.lemmas.Option.{slice_get_cases, slice_get-get_or}
use Rattle.checkpoints.specs.Checkpoints.{Checkpoint, ProgramProgress, progress_at}
use Rattle.core_engine.specs.Lived.{EngineView, IsEngine}
use Rattle.core_engine.specs.Checkpointed.{checkpoint_of}
use Rattle.core_engine.proofs.CheckpointLemmas.{progress_long}
use Rattle.trace_segments.specs.Heads.{HeadView, checkpoint_in, resting}
use Rattle.trace_segments.specs.Segments.{IsResting, head_text}
use Rattle.trace_segments.specs.Recorders.{Begins, RecorderView}

-- the overruns of programs, and of the next one
next_overruns : (ps : List ProgramProgress) (p : ℕ) → p < length ps
    → take p (map (λ q. q.overruns) ps) ++ (progress_at ps p).overruns ∷ [] ≡ take (suc p) (map (λ q. q.overruns) ps)
next_overruns [] p small = absurd (omega (arith, small))
next_overruns (q ∷ ps) zero small = refl
next_overruns (q ∷ ps) (suc p) small = ap (λ (t : List ℕ). q.overruns ∷ t) (next_overruns ps p (omega (arith, small)))

pub overruns_more : (engine : EngineView) → IsEngine engine → (p n : ℕ) (ns : List ℕ) → p < length engine.plan.programs.items
    → ns ≡ take p (map (λ q. q.overruns) (checkpoint_of engine).programs)
    → n ≡ (progress_at (checkpoint_of engine).programs p).overruns
    → ns ++ n ∷ [] ≡ take (p + 1) (map (λ q. q.overruns) (checkpoint_of engine).programs)
overruns_more engine is p n ns small are this =
    let ps = (checkpoint_of engine).programs in
    let long = progress_long engine is in
    let on : suc p ≡ p + 1 = omega arith in
    ap (λ (t : List ℕ). t ++ n ∷ []) are ∙ ap (λ (m : ℕ). take p (map (λ (q : ProgramProgress). q.overruns) ps) ++ m ∷ []) this
    ∙ next_overruns ps p (omega (arith, small, long))
    ∙ ap (λ (k : ℕ). take k (map (λ (q : ProgramProgress). q.overruns) ps)) on

pub all_overruns : (engine : EngineView) → IsEngine engine → (ns : List ℕ)
    → ns ≡ take (length engine.plan.programs.items) (map (λ q. q.overruns) (checkpoint_of engine).programs)
    → ns ≡ map (λ q. q.overruns) (checkpoint_of engine).programs
all_overruns engine is ns are =
    let ps = (checkpoint_of engine).programs in
    let long = progress_long engine is in
    are ∙ take_all (length engine.plan.programs.items) (map (λ (q : ProgramProgress). q.overruns) ps)
    (omega (arith, long, length-map ps (λ (q : ProgramProgress). q.overruns)))

pub overruns_number : (engine : EngineView) → IsEngine engine → (ns : List ℕ)
    → ns ≡ map (λ q. q.overruns) (checkpoint_of engine).programs → length ns ≡ length engine.plan.programs.items
overruns_number engine is ns are = ap length are
    ∙ length-map (checkpoint_of engine).programs (λ (q : ProgramProgress). q.overruns) ∙ progress_long engine is

-- programs that don't wait, by their overruns
all_rest : (ps : List ProgramProgress) → AllByRecursion (λ p. p.waiting ≡ None) ps
    → map resting (map (λ (p : ProgramProgress). p.overruns) ps) ≡ ps
all_rest [] rest = refl
all_rest (p ∷ ps) rest =
    ap (λ w. record { waiting = w; overruns = p.overruns } ∷ map resting (map (λ (q : ProgramProgress). q.overruns) ps))
    (sym rest.0) ∙ ap (λ (t : List ProgramProgress). p ∷ t) (all_rest ps rest.1)

-- the head of an engine in which nothing waits has its checkpoint
pub rested_head : (engine : EngineView) (head : HeadView) → IsResting (checkpoint_of engine)
    → head.rows ≡ engine.rows → head.first ≡ (checkpoint_of engine).first → head.last_row ≡ (checkpoint_of engine).last_row
    → head.samples ≡ (checkpoint_of engine).samples → head.values ≡ engine.values
    → head.overruns ≡ map (λ (p : ProgramProgress). p.overruns) (checkpoint_of engine).programs
    → checkpoint_in engine.plan head ≡ checkpoint_of engine
rested_head engine head rest rows first last samples values overruns =
    let programs = ap (map resting) overruns ∙ all_rest (checkpoint_of engine).programs rest in
    rw (rows, first, last, samples, values, programs) refl

-- what `get` gives
pub got : {X : Type 0} (xs : List X) (i : ℕ) (r : Option (Bor X)) → IsItemAt xs i r
    → option_map (λ (x : Bor X). x.now) r ≡ slice_get xs i
got xs i None gives = elim (slice_get_cases xs i).1 [
  | inl (x, small, found, at) ↦ absurd (omega (arith, small, gives.3))
  | inr (past, none) ↦ sym none
]
got xs i (Some x) gives =
    ap Some (gives.3.1 x.now) ∙ sym (slice_get-get_or xs i x.now gives.3.0)
