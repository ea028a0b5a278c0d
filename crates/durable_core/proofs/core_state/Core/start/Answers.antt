use Rattle.std.proofs.Common.{◌≡◌, ◌∙◌, List, length, map, ap, sym, subst, arith}
use Rattle.st_types.specs.Values.{Datum}
use Rattle.plan.specs.declared.plan.Plan.{Plan}
use Rattle.core_engine.specs.Steps.{State}
use Rattle.durable_core.specs.Cores.{CoreView}
use Rattle.durable_core.specs.Started.{IsStarted, StartsFrom}
use Rattle.durable_core.proofs.FirstLemmas.{begun_with, blank_with, has_first, variables_as_many}
use Rattle.durable_core.proofs.core_state.Core.start.Goals as goal

pub begin-requires : goal.begin-requires
begin-requires g c =
    let begun : map (λ v. v.initial) c.deref-2.result.now ≡ map (λ v. v.initial) c.args.plan.value.variables.items =
    ap (map (λ v. v.initial)) (c.deref-2.ensures.value ∙ ap (λ (p : Plan). p.variables.items) c.deref.ensures) in
    let was = c.in-Ok.ensures ∙ ap (λ (vs : List Datum). blank_with vs c.args.log_room) begun in
    let endless = c.in-Ok-start.endless in
    let life = c.in-Ok-start.ensures.life in record {
      sized = variables_as_many endless c.in-Ok.history c.values.result.now c.args.plan.value c.args.log_room
          c.args.mode was life (c.values.ensures _ _ life) c.in-Ok-start.ensures.core;
    }

pub invariant_of-result : goal.invariant_of-result
invariant_of-result g c =
    let begun : map (λ v. v.initial) c.deref-2.result.now ≡ map (λ v. v.initial) c.args.plan.value.variables.items =
    ap (map (λ v. v.initial)) (c.deref-2.ensures.value ∙ ap (λ (p : Plan). p.variables.items) c.deref.ensures) in
    let was = c.in-Ok.ensures ∙ ap (λ (vs : List Datum). blank_with vs c.args.log_room) begun in
    let endless = c.in-Ok-start.endless in
    let life = c.in-Ok-start.ensures.life in
    let history = c.begin.new.self in
    let has = begun_with endless c.in-Ok.history history c.values.result.now c.args.plan.value c.args.log_room was life
    (c.values.ensures _ _ life) c.begin.ensures in
    has_first endless history c.args.plan.value c.args.log_room c.args.mode life c.in-Ok-start.ensures.core
    c.requires.room has

pub returns-in-Ok-start-clause-core : goal.returns-in-Ok-start-clause-core
returns-in-Ok-start-clause-core g c =
    let begun : map (λ v. v.initial) c.deref-2.result.now ≡ map (λ v. v.initial) c.args.plan.value.variables.items =
    ap (map (λ v. v.initial)) (c.deref-2.ensures.value ∙ ap (λ (p : Plan). p.variables.items) c.deref.ensures) in
    let was = c.in-Ok.ensures ∙ ap (λ (vs : List Datum). blank_with vs c.args.log_room) begun in
    let endless = c.in-Ok-start.endless in
    let life = c.in-Ok-start.ensures.life in
    let history = c.begin.new.self in
    let has = begun_with endless c.in-Ok.history history c.values.result.now c.args.plan.value c.args.log_room was life
    (c.values.ensures _ _ life) c.begin.ensures in
    subst (λ (v : CoreView _). IsStarted v c.args.plan.value c.args.mode c.args.log_room) (sym has.same)
    c.in-Ok-start.ensures.core

pub returns-in-Ok-start-clause-file : goal.returns-in-Ok-start-clause-file
returns-in-Ok-start-clause-file g c = λ tells.
    let begun : map (λ v. v.initial) c.deref-2.result.now ≡ map (λ v. v.initial) c.args.plan.value.variables.items =
    ap (map (λ v. v.initial)) (c.deref-2.ensures.value ∙ ap (λ (p : Plan). p.variables.items) c.deref.ensures) in
    let was = c.in-Ok.ensures ∙ ap (λ (vs : List Datum). blank_with vs c.args.log_room) begun in
    let endless = c.in-Ok-start.endless in
    let life = c.in-Ok-start.ensures.life in
    let history = c.begin.new.self in
    let has = begun_with endless c.in-Ok.history history c.values.result.now c.args.plan.value c.args.log_room was life
    (c.values.ensures _ _ life) c.begin.ensures in
    subst (λ (v : CoreView _). StartsFrom g.D.Disk.seen g.D.Disk.may_leave (g.D.Disk.seen c.args.disk)
    c.args.plan.value c.args.mode c.args.log_room v) (sym has.same) (c.in-Ok-start.ensures.file tells)
