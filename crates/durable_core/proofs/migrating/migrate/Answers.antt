use Rattle.std.proofs.Common.{◌∙◌, List, ap, refl}
use Rattle.st_types.specs.Values.{Datum}
use Rattle.core_engine.specs.Steps.{State}
use Rattle.retain_records.specs.Records.{Content}
use Rattle.retain_records.specs.ContentLines.{lines_in}
use Rattle.retain_records.specs.Matching.{all_restored}
use Rattle.durable_core.specs.Restart.{layout_text_of}
use Rattle.durable_core.proofs.MigratingLemmas.{are_across, migrated, start_again}
use Rattle.durable_core.specs.Endless.{first_state}
use Rattle.durable_core.proofs.EngineLemmas.{new_engine, new_life_is, resumed_kept}
use Rattle.durable_core.proofs.migrating.migrate.Goals as goal

pub resume-requires-clause-kinds : goal.resume-requires-clause-kinds
resume-requires-clause-kinds c =
    let plan = c.args.parts.now.engine.plan in
    let text = layout_text_of plan in
    let content : Content = c.args.last.now in
    let own = c.retain.new.values.items in
    let valued = c.deref.ensures.value ∙ c.restore_from.ensures.items text c.requires.lines
    ∙ ap (λ t. all_restored text (lines_in t c.values.result.now) own) c.layout.ensures
    ∙ ap (λ (ds : List Datum). all_restored text (lines_in content.layout ds) own) c.values.ensures in
    let a = are_across plan c.args.parts.now.engine.room (first_state c.args.parts.now.engine) content text own c.deref.result.now
    c.requires.begun refl (c.retain.ensures.values _ _ c.requires.new) c.retain.ensures.kinds c.retain.ensures.held valued in
    a.kinds

pub resume-requires-clause-held : goal.resume-requires-clause-held
resume-requires-clause-held c =
    let plan = c.args.parts.now.engine.plan in
    let text = layout_text_of plan in
    let content : Content = c.args.last.now in
    let own = c.retain.new.values.items in
    let valued = c.deref.ensures.value ∙ c.restore_from.ensures.items text c.requires.lines
    ∙ ap (λ t. all_restored text (lines_in t c.values.result.now) own) c.layout.ensures
    ∙ ap (λ (ds : List Datum). all_restored text (lines_in content.layout ds) own) c.values.ensures in
    let a = are_across plan c.args.parts.now.engine.room (first_state c.args.parts.now.engine) content text own c.deref.result.now
    c.requires.begun refl (c.retain.ensures.values _ _ c.requires.new) c.retain.ensures.kinds c.retain.ensures.held valued in
    a.held

pub returns-clause-resumed : goal.returns-clause-resumed
returns-clause-resumed c =
    let plan = c.args.parts.now.engine.plan in
    let restarted = new_life_is c.resume.new.self _ c.resume.ensures.lived ∙ c.resume.ensures.restarted in
    let back = resumed_kept c.args.parts.now.engine.plan c.resume.new.self _ _ c.resume.ensures.lived
    (ap (λ (st : State). st.plan) c.resume.ensures.restarted) c.resume.ensures.kept in
    let text = layout_text_of plan in
    let content : Content = c.args.last.now in
    let own = c.retain.new.values.items in
    let valued = c.deref.ensures.value ∙ c.restore_from.ensures.items text c.requires.lines
    ∙ ap (λ t. all_restored text (lines_in t c.values.result.now) own) c.layout.ensures
    ∙ ap (λ (ds : List Datum). all_restored text (lines_in content.layout ds) own) c.values.ensures in
    let a = are_across plan c.args.parts.now.engine.room (first_state c.args.parts.now.engine) content text own c.deref.result.now
    c.requires.begun refl (c.retain.ensures.values _ _ c.requires.new) c.retain.ensures.kinds c.retain.ensures.held valued in
    migrated plan c.args.parts.now.engine.room content (first_state c.resume.new.self) c.deref.result.now c.moment.result
    restarted c.moment.ensures a

pub returns-clause-again : goal.returns-clause-again
returns-clause-again c = λ generation.
    let plan = c.args.parts.now.engine.plan in
    let restarted = new_life_is c.resume.new.self _ c.resume.ensures.lived ∙ c.resume.ensures.restarted in
    let back = resumed_kept c.args.parts.now.engine.plan c.resume.new.self _ _ c.resume.ensures.lived
    (ap (λ (st : State). st.plan) c.resume.ensures.restarted) c.resume.ensures.kept in
    let text = layout_text_of plan in
    let content : Content = c.args.last.now in
    let own = c.retain.new.values.items in
    let valued = c.deref.ensures.value ∙ c.restore_from.ensures.items text c.requires.lines
    ∙ ap (λ t. all_restored text (lines_in t c.values.result.now) own) c.layout.ensures
    ∙ ap (λ (ds : List Datum). all_restored text (lines_in content.layout ds) own) c.values.ensures in
    let a = are_across plan c.args.parts.now.engine.room (first_state c.args.parts.now.engine) content text own c.deref.result.now
    c.requires.begun refl (c.retain.ensures.values _ _ c.requires.new) c.retain.ensures.kinds c.retain.ensures.held valued in
    start_again plan c.args.parts.now.engine.room generation (first_state c.resume.new.self) c.deref.result.now c.moment.result
    restarted a.kinds back

pub returns-clause-new : goal.returns-clause-new
returns-clause-new c = new_engine c.resume.new.self _ c.resume.ensures.lived

pub resume-requires-clause-empty : goal.resume-requires-clause-empty
resume-requires-clause-empty c = c.requires.new.counted
