use Rattle.std.proofs.Common.{List, ℕ, take, arith, refl, sym, ap, ◌∙◌}
use Rattle.retain_records.specs.Reading.{decoded}
use Rattle.retain_store.proofs.Surveys.{opened_long, opened_none, opened_no_record, opened_record}
use Rattle.retain_store.proofs.surveying.look_after_gate.Goals as goal

pub returns-then-size-gt-MAX_RECORD_BODY-clause-shown : goal.returns-then-size-gt-MAX_RECORD_BODY-clause-shown
returns-then-size-gt-MAX_RECORD_BODY-clause-shown c =
    opened_long _ _ _ c.read_header-generation.ensures.generation c.read_header-generation.ensures.size (omega arith)

pub returns-then-read-clause-shown : goal.returns-then-read-clause-shown
returns-then-read-clause-shown c = opened_record _ _ _ c.read_header-generation.ensures.generation
    c.read_header-generation.ensures.size c.if-size-gt-MAX_RECORD_BODY.false c.read.new.self
    (ap decoded (sym (c.split_at-2.ensures.front ∙ ap (λ (l : List ℕ). take c.read_header-generation.result.size l)
    c.split_at.ensures.back)) ∙ c.if-read.ensures.yes refl) c.if-generation-eq0.false

pub returns-else-read-clause-shown : goal.returns-else-read-clause-shown
returns-else-read-clause-shown c =
    opened_no_record _ _ _ c.read_header-generation.ensures.generation c.read_header-generation.ensures.size
    c.if-size-gt-MAX_RECORD_BODY.false (ap decoded (sym (c.split_at-2.ensures.front ∙ ap
    (λ (l : List ℕ). take c.read_header-generation.result.size l) c.split_at.ensures.back)) ∙ c.if-read.ensures.no refl)

pub returns-then-generation-eq0-clause-shown : goal.returns-then-generation-eq0-clause-shown
returns-then-generation-eq0-clause-shown c = opened_none _ _ _ c.read_header-generation.ensures.generation
    c.read_header-generation.ensures.size c.if-generation-eq0.true c.if-size-gt-MAX_RECORD_BODY.false

pub returns-then-read-clause-sound : goal.returns-then-read-clause-sound
returns-then-read-clause-sound c = c.if-read.ensures.sound refl
