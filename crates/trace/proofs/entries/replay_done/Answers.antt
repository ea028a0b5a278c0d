use Rattle.std.proofs.Common.{◌≡◌, ◌∙◌, ap, sym, List, slice_get, true, false}
use Rattle.plan.specs.declared.task.ProgramInstance.{ProgramInstance}
use Rattle.plan.specs.declared.plan.Plan.{Plan}
use Rattle.trace.specs.Texts.{outcome_text}
use Rattle.trace.proofs.ReadLemmas.{none_some}
use Rattle.trace.proofs.FirstLemmas.{done_ended, done_grows, first_resolved_kind, is_done, is_told}
use Rattle.trace.proofs.entries.replay_done.Goals as goal

pub returns-in-None-clause-refused : goal.returns-in-None-clause-refused
returns-in-None-clause-refused c = λ other rows more left.
    let programs : c.deref.result.now ≡ c.args.core.now.plan.programs.items =
    c.deref.ensures.value ∙ ap (λ (p : Plan). p.programs.items) c.plan.ensures in
    let d = is_done c.args.core.now rows c.args.text.now more left in
    c.in-None.ensures.none d.activation.program d.program _
    (ap (λ (ps : List ProgramInstance). slice_get ps d.activation.program) programs ∙ d.at) d.told

pub returns-in-None-ending-clause-refused : goal.returns-in-None-ending-clause-refused
returns-in-None-ending-clause-refused c = λ other rows more left.
    let programs : c.deref.result.now ≡ c.args.core.now.plan.programs.items =
    c.deref.ensures.value ∙ ap (λ (p : Plan). p.programs.items) c.plan.ensures in
    let (q, at, told) = c.in-Some.ensures.told in
    let f = first_resolved_kind c.args.core.now rows c.args.text.now c.in-Some.told.1.now c.in-Some.told.0 q more
    (ap (λ (ps : List ProgramInstance). slice_get ps c.in-Some.told.0) (sym programs) ∙ at) told left in
    none_some ((f.row, f.outcome), f.rest) (c.in-None-ending.ensures.1 (f.row, f.outcome) f.rest f.small f.told)

pub returns-then-not-waits_with-clause-refused : goal.returns-then-not-waits_with-clause-refused
returns-then-not-waits_with-clause-refused c = λ other rows more left.
    let programs : c.deref.result.now ≡ c.args.core.now.plan.programs.items =
    c.deref.ensures.value ∙ ap (λ (p : Plan). p.programs.items) c.plan.ensures in
    let (q, at, told) = c.in-Some.ensures.told in
    let f = first_resolved_kind c.args.core.now rows c.args.text.now c.in-Some.told.1.now c.in-Some.told.0 q more
    (ap (λ (ps : List ProgramInstance). slice_get ps c.in-Some.told.0) (sym programs) ∙ at) told left in
    let is = is_told c.args.core.now c.in-Some.told.1.now c.in-Some-ending.told.2.now c.in-Some.told.0
    c.in-Some-ending.told.0 c.in-Some-ending.told.1 f
    (c.in-Some-ending.ensures.1 (f.row, f.outcome) f.rest f.small f.told) in
    let yes : c.waits_with.result ≡ true = c.waits_with.ensures.1 is.waits in
    let bad : false ≡ true = sym c.if-not-waits_with.true ∙ yes in absurd (cc)

pub returns-then-ended_so-clause-grows : goal.returns-then-ended_so-clause-grows
returns-then-ended_so-clause-grows c = λ rows left rows_are.
    let programs : c.deref.result.now ≡ c.args.core.now.plan.programs.items =
    c.deref.ensures.value ∙ ap (λ (p : Plan). p.programs.items) c.plan.ensures in
    let (q, at, told) = c.in-Some.ensures.told in
    done_grows c.args.core.now c.commit_waiting.new.self rows left c.args.text.now c.in-Some.told.1.now
    c.in-Some-ending.told.2.now c.in-Some.told.0 c.in-Some-ending.told.0 c.in-Ok-Some.length c.in-Some-ending.told.1 q
    rows_are (ap (λ (ps : List ProgramInstance). slice_get ps c.in-Some.told.0) (sym programs) ∙ at) told
    c.in-Some-ending.ensures.0.1 (c.waits_with.ensures.0 c.if-not-waits_with.false)
    (rw c.in-Ok-Some.field-0-is at c.in-Ok-Some.ensures) (c.ended_so.ensures.0 c.if-ended_so.true)

pub returns-else-ended_so-clause-refused : goal.returns-else-ended_so-clause-refused
returns-else-ended_so-clause-refused c = λ other rows more left.
    let programs : c.deref.result.now ≡ c.args.core.now.plan.programs.items =
    c.deref.ensures.value ∙ ap (λ (p : Plan). p.programs.items) c.plan.ensures in
    let (q, at, told) = c.in-Some.ensures.told in
    let f = first_resolved_kind c.args.core.now rows c.args.text.now c.in-Some.told.1.now c.in-Some.told.0 q more
    (ap (λ (ps : List ProgramInstance). slice_get ps c.in-Some.told.0) (sym programs) ∙ at) told left in
    let is = is_told c.args.core.now c.in-Some.told.1.now c.in-Some-ending.told.2.now c.in-Some.told.0
    c.in-Some-ending.told.0 c.in-Some-ending.told.1 f
    (c.in-Some-ending.ensures.1 (f.row, f.outcome) f.rest f.small f.told) in
    let ended = done_ended c.args.core.now c.commit_waiting.new.self c.in-Some.told.0 c.in-Some-ending.told.0
    c.in-Ok-Some.length is.waits (rw c.in-Ok-Some.field-0-is at c.in-Ok-Some.ensures) in
    let yes : c.ended_so.result ≡ true = c.ended_so.ensures.1 (ap outcome_text (ended.1 ∙ is.ends)) in
    let bad : false ≡ true = sym c.if-ended_so.false ∙ yes in absurd (cc)

pub returns-in-Ok-None-clause-refused : goal.returns-in-Ok-None-clause-refused
returns-in-Ok-None-clause-refused c = λ other rows more left.
    let rests = rw c.in-Ok-None.field-0-is at c.in-Ok-None.ensures in
    rests.0 c.in-Some-ending.told.0 (c.waits_with.ensures.0 c.if-not-waits_with.false)
