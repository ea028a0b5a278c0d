use Rattle.std.proofs.Common.{rules, ◌≡◌, ◌∙◌, Some, length, map, ap, sym}
use Rattle.retain_records.specs.Records.{IsRecordable}
use Rattle.retain_store.specs.Kept.{record_in}
use Rattle.serial_core.specs.Steps.{State}
use Rattle.durable_core.specs.Recorded.{all_renumbered, recorded}
use Rattle.durable_core.specs.Restart.{layout_text_of}
use Rattle.durable_core.proofs.RecordLemmas.{long_known, taken, types_known}
use Rattle.durable_core.proofs.StartLemmas.{survives_found, resumed_from}
use Rattle.durable_core.specs.Endless.{first_state}
use Rattle.durable_core.proofs.EngineLemmas.{new_engine, new_life_is, resumed_kept}
use Rattle.durable_core.proofs.starting.resume_from.Goals as goal

pub take_numbers-requires : goal.take_numbers-requires
take_numbers-requires g c =
    let plan = c.args.parts.now.engine.plan in
    let content = c.in-Some.record.now in
    let sound : IsRecordable content = search rules in
    let same : c.layout.result.now ≡ c.layout_text.result.now = search rules in
    let layout : content.layout ≡ layout_text_of plan = sym c.layout.ensures ∙ same ∙ c.layout_text.ensures in
    let known = types_known plan content layout sound in
    record {
      sized = ap length c.values.ensures
          ∙ long_known plan content c.retain.new.values.items known c.retain.ensures.kinds;
    }

pub resume-requires-clause-kinds : goal.resume-requires-clause-kinds
resume-requires-clause-kinds g c =
    let plan = c.args.parts.now.engine.plan in
    let content = c.in-Some.record.now in
    let sound : IsRecordable content = search rules in
    let same : c.layout.result.now ≡ c.layout_text.result.now = search rules in
    let layout : content.layout ≡ layout_text_of plan = sym c.layout.ensures ∙ same ∙ c.layout_text.ensures in
    let known = types_known plan content layout sound in
    let own = c.retain.new.values.items in
    let are : c.deref.result.now ≡ all_renumbered own content.values =
    c.deref.ensures.value ∙ c.take_numbers.ensures.items ∙ ap (all_renumbered own) c.values.ensures in
    let t = taken plan content own c.deref.result.now known sound c.retain.ensures.kinds are in
    t.kinds

pub resume-requires-clause-held : goal.resume-requires-clause-held
resume-requires-clause-held g c =
    let plan = c.args.parts.now.engine.plan in
    let content = c.in-Some.record.now in
    let sound : IsRecordable content = search rules in
    let same : c.layout.result.now ≡ c.layout_text.result.now = search rules in
    let layout : content.layout ≡ layout_text_of plan = sym c.layout.ensures ∙ same ∙ c.layout_text.ensures in
    let known = types_known plan content layout sound in
    let own = c.retain.new.values.items in
    let are : c.deref.result.now ≡ all_renumbered own content.values =
    c.deref.ensures.value ∙ c.take_numbers.ensures.items ∙ ap (all_renumbered own) c.values.ensures in
    let t = taken plan content own c.deref.result.now known sound c.retain.ensures.kinds are in
    t.held

pub returns-clause-survives : goal.returns-clause-survives
returns-clause-survives g c = λ yes.
    let plan = c.args.parts.now.engine.plan in
    let restarted = new_life_is c.resume.new.self _ c.resume.ensures.lived ∙ c.resume.ensures.restarted in
    let back = resumed_kept c.args.parts.now.engine.plan c.resume.new.self _ _ c.resume.ensures.lived
    (ap (λ (st : State). st.plan) c.resume.ensures.restarted) c.resume.ensures.kept in
    let content = c.in-Some.record.now in
    let sound : IsRecordable content = search rules in
    let same : c.layout.result.now ≡ c.layout_text.result.now = search rules in
    let found : Some content ≡ record_in c.args.store.now.last = search rules in
    let layout : content.layout ≡ layout_text_of plan = sym c.layout.ensures ∙ same ∙ c.layout_text.ensures in
    let known = types_known plan content layout sound in
    let own = c.retain.new.values.items in
    let are : c.deref.result.now ≡ all_renumbered own content.values =
    c.deref.ensures.value ∙ c.take_numbers.ensures.items ∙ ap (all_renumbered own) c.values.ensures in
    let t = taken plan content own c.deref.result.now known sound c.retain.ensures.kinds are in
    survives_found plan content (first_state c.resume.new.self) c.args.store.now.last found layout
    (ap (λ (st : State). st.plan) restarted)
    (ap (λ (st : State). st.before) restarted ∙ c.moment.ensures)
    (ap (map recorded) back ∙ t.back)

pub returns-clause-resumed : goal.returns-clause-resumed
returns-clause-resumed g c =
    let plan = c.args.parts.now.engine.plan in
    let restarted = new_life_is c.resume.new.self _ c.resume.ensures.lived ∙ c.resume.ensures.restarted in
    let back = resumed_kept c.args.parts.now.engine.plan c.resume.new.self _ _ c.resume.ensures.lived
    (ap (λ (st : State). st.plan) c.resume.ensures.restarted) c.resume.ensures.kept in
    let content = c.in-Some.record.now in
    let sound : IsRecordable content = search rules in
    let same : c.layout.result.now ≡ c.layout_text.result.now = search rules in
    let found : Some content ≡ record_in c.args.store.now.last = search rules in
    let layout : content.layout ≡ layout_text_of plan = sym c.layout.ensures ∙ same ∙ c.layout_text.ensures in
    let known = types_known plan content layout sound in
    let own = c.retain.new.values.items in
    let are : c.deref.result.now ≡ all_renumbered own content.values =
    c.deref.ensures.value ∙ c.take_numbers.ensures.items ∙ ap (all_renumbered own) c.values.ensures in
    let t = taken plan content own c.deref.result.now known sound c.retain.ensures.kinds are in
    restarted
    ∙ resumed_from plan c.args.parts.now.engine.room content c.args.store.now.last c.deref.result.now c.moment.result found
    layout known t.are c.moment.ensures

pub returns-clause-new : goal.returns-clause-new
returns-clause-new g c = new_engine c.resume.new.self _ c.resume.ensures.lived

pub resume-requires-clause-empty : goal.resume-requires-clause-empty
resume-requires-clause-empty g c = c.requires.new.counted
