use Rattle.std.proofs.Common.{List, ℕ, ap, sym, subst, ◌∙◌}
use Rattle.retain_store.specs.declared.shape.TheConstants.{AREA_BYTES}
use Rattle.retain_store.specs.declared.loading.Loaded.{Loaded}
use Rattle.retain_store.specs.Opening.{IsLoaded}
use Rattle.retain_store.specs.Recovered.{recovered}
use Rattle.retain_store.specs.Areas.{IsSurveyed}
use Rattle.retain_store.specs.Surveys.{held}
use Rattle.retain_store.proofs.AreaLemmas.{shut_area}
use Rattle.retain_store.proofs.Formats.{short_nothing, zeros_empty}
use Rattle.retain_store.proofs.Surveys.{surveyed_closed}
use Rattle.retain_store.proofs.Keeps.{keeps_record, keeps_formatted}
use Rattle.retain_store.proofs.loading.recover.Goals as goal

pub returns-in-Ok-Formatted-clause-found : goal.returns-in-Ok-Formatted-clause-found
returns-in-Ok-Formatted-clause-found g c = λ tells.
    let loaded = subst (λ (l : Loaded). IsLoaded l c.load.new.file (g.D.Disk.seen c.args.disk.now)
    (g.D.Disk.seen c.load.new.disk)) c.in-Ok-Formatted.field-0-is (c.in-Ok-Formatted.ensures.found tells) in
    rw c.closed.ensures (record {
      found = sym (short_nothing _ loaded.0);
      kept = keeps_formatted c.args.last.now _ _ loaded.0 loaded.1;
    })

pub returns-in-Ok-Formatted-clause-at_rest : goal.returns-in-Ok-Formatted-clause-at_rest
returns-in-Ok-Formatted-clause-at_rest g c = λ tells.
    let empty = zeros_empty _ (subst (λ (l : Loaded). IsLoaded l c.load.new.file (g.D.Disk.seen c.args.disk.now)
    (g.D.Disk.seen c.load.new.disk)) c.in-Ok-Formatted.field-0-is (c.in-Ok-Formatted.ensures.found tells)).1 in
    rw c.closed.ensures (record {
      synced = c.in-Ok-Formatted.ensures.synced tells;
      surveyed =
          surveyed_closed _ empty.size (shut_area 0 _ empty.first) (shut_area AREA_BYTES _ empty.second);
    })

pub returns-in-Some-clause-found : goal.returns-in-Some-clause-found
returns-in-Some-clause-found g c = λ tells.
    let whole = subst
    (λ (l : Loaded). IsLoaded l c.load.new.file (g.D.Disk.seen c.args.disk.now) (g.D.Disk.seen c.load.new.disk))
    c.in-Ok-Whole.field-0-is (c.in-Ok-Whole.ensures.found tells) in
    record {
      found = sym c.in-Some.ensures.surveyed.last_is ∙ ap recovered whole.1;
      kept = keeps_record _ _ _ whole.0 whole.2;
    }

pub returns-in-Some-clause-at_rest : goal.returns-in-Some-clause-at_rest
returns-in-Some-clause-at_rest g c = λ tells.
    let whole = subst
    (λ (l : Loaded). IsLoaded l c.load.new.file (g.D.Disk.seen c.args.disk.now) (g.D.Disk.seen c.load.new.disk))
    c.in-Ok-Whole.field-0-is (c.in-Ok-Whole.ensures.found tells) in
    record {
      synced = c.in-Ok-Whole.ensures.synced tells;
      surveyed =
          subst (λ (f : List ℕ). IsSurveyed f c.in-Some.areas (held c.in-Some.areas.generation c.survey.new.last))
          (whole.1 ∙ sym whole.2) c.in-Some.ensures.surveyed;
    }

pub returns-in-None-clause-refused : goal.returns-in-None-clause-refused
returns-in-None-clause-refused g c = λ tells.
    let whole = subst
    (λ (l : Loaded). IsLoaded l c.load.new.file (g.D.Disk.seen c.args.disk.now) (g.D.Disk.seen c.load.new.disk))
    c.in-Ok-Whole.field-0-is (c.in-Ok-Whole.ensures.found tells) in
    record {
      applies = ap recovered (sym whole.1) ∙ c.in-None.ensures.damaged;
      unwritten = whole.2;
    }

pub returns-in-None-clause-serves : goal.returns-in-None-clause-serves
returns-in-None-clause-serves g c = λ tells serving.
    (λ is. absurd (cc), (c.in-Ok-Whole.ensures.serves tells serving).1)
