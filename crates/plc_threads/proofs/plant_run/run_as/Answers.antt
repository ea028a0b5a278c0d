use Rattle.std.proofs.Common.{◌≡◌, ◌∙◌, ap, arith, rules, sym, ◌++◌, deque_len, length}
use Rattle.std.proofs.lemmas.Bool.Decides.{nat_tests}
use Rattle.std.proofs.lemmas.List.{append-nil, nil_from_length}
use Rattle.run_lock.proofs.Gains.{grown_from, rows_of}
use Rattle.run_lock.proofs.PhaseLemmas.{no_core_so, whole_unless_stopped}
use Rattle.run_lock.specs.declared.phase.RunFault.TheVariants.{NotSettled}
use Rattle.plc_threads.proofs.StopLemmas.{back_grown, back_so, back_legal}
use Rattle.plc_threads.proofs.plant_run.run_as.Goals as goal

pub returns-in-Stopped-clause-life : goal.returns-in-Stopped-clause-life
returns-in-Stopped-clause-life g c =
    let under = c.into_inner-core.result in
    back_grown c.args.core under.core c.stopped.result.core c.stopped.ensures.core
    (grown_from c.args.core under.core g.J.Run.entries g.J.Run.acked g.J.Run.life g.J.Run.mode under.one_life
    c.requires.life.0 c.requires.life.1 under.started_so c.requires.start.0 under.acked_stays c.requires.start.1)

pub returns-in-Err : goal.returns-in-Err
returns-in-Err g c =
    let under = c.into_inner-core.result in
    let told = c.stopped-in-Err in
    record {
      counted = tt;
      latched = tt;
      nothing_waits = tt;
      acknowledged = tt;
      each = tt;
      life = back_grown c.args.core under.core told.result.core told.ensures.core
          (grown_from c.args.core under.core g.J.Run.entries g.J.Run.acked g.J.Run.life g.J.Run.mode under.one_life
          c.requires.life.0 c.requires.life.1 under.started_so c.requires.start.0 under.acked_stays
          c.requires.start.1);
      why = back_so c.in-Err.fault told.result.fault under.core told.result.core told.ensures.fault told.ensures.core
          (no_core_so c.in-Err.fault under.core c.in-Err.ensures.refused);
      legal = back_legal under.core told.result.core told.ensures.core told.ensures.legal;
    }

pub returns-then-not-is_empty : goal.returns-then-not-is_empty
returns-then-not-is_empty g c =
    let under = c.into_inner-core.result in
    let told = c.stopped-then-not-is_empty in
    record {
      counted = tt;
      latched = tt;
      nothing_waits = tt;
      acknowledged = tt;
      each = tt;
      life = back_grown c.args.core under.core told.result.core told.ensures.core
          (grown_from c.args.core under.core g.J.Run.entries g.J.Run.acked g.J.Run.life g.J.Run.mode under.one_life
          c.requires.life.0 c.requires.life.1 under.started_so c.requires.start.0 under.acked_stays
          c.requires.start.1);
      why = back_so NotSettled told.result.fault under.core told.result.core told.ensures.fault told.ensures.core tt;
      legal = back_legal under.core told.result.core told.ensures.core told.ensures.legal;
    }

pub returns : goal.returns
returns g c =
    let joined = c.in-Ok.ensures.joined in
    let under = c.into_inner-core.result in
    let parts : c.in-Ok.joined.share.parts ≡ g.J.Ledger.parts =
    joined.parts_are ∙ sym c.requires.book.2 ∙ c.requires.book.1 in
    let test = c.if-not-is_empty.ensures in
    let none : deque_len under.rest ≡ 0 = grind (arith, nat_tests, test) in
    let empty : length under.rest.items ≡ 0 = omega (arith, none, under.rest.ok.0) in
    let rows = rows_of under.core.state in
    record {
      counted = omega (arith, joined.counted, c.audit.ensures.whole parts, under.counted, c.requires.dones);
      latched = sym (append-nil rows) ∙ ap (λ rest. rows ++ rest) (sym (nil_from_length under.rest.items empty))
          ∙ whole_unless_stopped under.phase _ _ c.in_default.not-Stopped under.in_order ∙ sym c.requires.rows;
      nothing_waits = (c.is_settled.ensures.0 (search rules)).0;
      acknowledged = search rules;
      each = joined.each;
      life = grown_from c.args.core under.core g.J.Run.entries g.J.Run.acked g.J.Run.life g.J.Run.mode under.one_life
          c.requires.life.0 c.requires.life.1 under.started_so c.requires.start.0 under.acked_stays c.requires.start.1;
      why = tt;
      legal = tt;
    }
