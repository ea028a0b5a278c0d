use Rattle.std.proofs.Common.{IfOk, List, ℕ, ap, map, option_map, subst}
use Rattle.std.specs.Vec.{vec_items}
use Rattle.st_types.specs.Values.{Datum}
use Rattle.st_meaning.specs.declared.plan.PlanVariable.{PlanVariable}
use Rattle.st_meaning.specs.Layouts.{Enumerations}
use Rattle.trace.specs.Reads.{BeginsWith}
use Rattle.trace.specs.Heads.{AreKept, kept_lines}
use Rattle.commit_lock.proofs.starting.start_values_in.Goals as goal

pub returns : goal.returns
returns c =
    let types = map vec_items c.args.plan.now.enumerations.items in
    subst (λ (vs : List PlanVariable). IfOk c.kept_values.result (λ told. BeginsWith (AreKept vs) (kept_lines types vs)
    c.args.text.now (option_map {U = List Datum × List ℕ} (λ p. (p.0.items, p.1.now)) told))) c.deref-2.ensures.value
    (subst (λ (ts : Enumerations). IfOk c.kept_values.result (λ told. BeginsWith (AreKept c.deref-2.result.now)
    (kept_lines ts c.deref-2.result.now) c.args.text.now
    (option_map {U = List Datum × List ℕ} (λ p. (p.0.items, p.1.now)) told))) (ap (map vec_items) c.deref.ensures.value)
    c.kept_values.ensures)
