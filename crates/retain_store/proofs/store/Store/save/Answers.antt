use Rattle.std.proofs.Common.{◌≡◌, ◌-◌, ◌≤◌, ◌++◌, ◌∙◌, Some, List, ℕ, take, drop, length, inl, inr, ⊎_elim, refl, ap}
use Rattle.std.proofs.Common.{arith, subst, sym}
use Rattle.std.proofs.lemmas.List.{take_at}
use Rattle.retain_store.specs.declared.shape.TheConstants.{AREA_BYTES, HEADER_BYTES}
use Rattle.disk.specs.Runs.{weakens}
use Rattle.retain_records.specs.Records.{record_bytes}
use Rattle.retain_records.specs.Reading.{decoded}
use Rattle.retain_store.specs.Recovered.{area, recovered}
use Rattle.retain_store.specs.Areas.{HoldsRecord}
use Rattle.retain_store.specs.Kept.{content_of}
use Rattle.retain_store.proofs.Frames.{frame_spells}
use Rattle.retain_store.proofs.Surveys.{held_some}
use Rattle.retain_store.proofs.Keeps.{before_stays, first_in_first, kept_ok, kept_err}
use Rattle.retain_store.proofs.store.Store.save.Goals as goal

pub write_frame-requires-clause-ready : goal.write_frame-requires-clause-ready
write_frame-requires-clause-ready g c =
    λ tells. rw c.at-target.ensures.at (c.self.invariant.0.at_rest tells c.in-Working.is).surveyed.ready

pub write_frame-requires-clause-gate : goal.write_frame-requires-clause-gate
write_frame-requires-clause-gate g c =
    λ tells. rw c.at-target.ensures.at (c.self.invariant.0.at_rest tells c.in-Working.is).surveyed.gate

pub write_frame-requires-clause-synced : goal.write_frame-requires-clause-synced
write_frame-requires-clause-synced g c = λ tells. (c.self.invariant.0.at_rest tells c.in-Working.is).synced

pub write_frame-requires-clause-frame : goal.write_frame-requires-clause-frame
write_frame-requires-clause-frame g c =
    let buffer = c.put_frame-size.new.frame in
    let size : length buffer ≡ c.self.inside.frame.len =
    omega (arith, c.put_frame-size.ensures.room, c.deref_mut.ensures.len) in
    let items : take c.self.inside.frame.len (buffer ++ drop (length buffer) c.self.inside.frame.items) ≡ buffer =
    take_at buffer (drop (length buffer) c.self.inside.frame.items) c.self.inside.frame.len size in
    let slice : c.deref.result.now ≡ buffer = c.deref.ensures.value ∙ items in
    rw slice c.put_frame-size.ensures.frame

pub returns-in-Ok-clause-stops : goal.returns-in-Ok-clause-stops
returns-in-Ok-clause-stops g c = λ tells.
    let buffer = c.put_frame-size.new.frame in
    let size : length buffer ≡ c.self.inside.frame.len =
    omega (arith, c.put_frame-size.ensures.room, c.deref_mut.ensures.len) in
    let items : take c.self.inside.frame.len (buffer ++ drop (length buffer) c.self.inside.frame.items) ≡ buffer =
    take_at buffer (drop (length buffer) c.self.inside.frame.items) c.self.inside.frame.len size in
    let slice : c.deref.result.now ≡ buffer = c.deref.ensures.value ∙ items in
    let content = content_of c.args.moment c.args.layout.now c.args.values.now in
    let fits : length (record_bytes content) ≤ length c.self.inside.frame.items - HEADER_BYTES =
    rw (← c.self.view_is) at c.requires.room in
    let spells : decoded (drop HEADER_BYTES (take c.put_frame-size.result c.deref.result.now)) ≡ Some content =
    frame_spells content (take c.put_frame-size.result c.deref.result.now) c.requires.sound
    (omega (arith, c.self.invariant.0.greatest)) (ap
    (λ (l : List ℕ). drop HEADER_BYTES (take c.put_frame-size.result l)) slice ∙ c.put_frame-size.ensures.body) in
    record {
      any_moment = λ ok.
          rw (← c.self.view_is)
          (weakens g.D.Disk.left_since g.D.Disk.may_leave _ _ _ _ (c.write_frame.ensures.any_moment tells content spells)
          (λ file. ⊎_elim (λ before. inl (before ∙ (c.self.invariant.0.at_rest tells c.in-Working.is).surveyed.last_is)) inr));
      at_rest = λ file may.
          rw (← c.self.view_is)
          (ap recovered (c.in-Ok.ensures.synced tells file may) ∙ (c.in-Ok.ensures.saved tells content spells).found);
      before = rw (← c.self.view_is) (λ generation last is file may.
          subst (HoldsRecord generation last) (sym (c.in-Ok.ensures.synced tells file may))
          (before_stays (g.D.Disk.seen c.self.inside.disk) _ c.self.inside.areas _ content generation last
          (c.self.invariant.0.at_rest tells c.in-Working.is).surveyed
          (rw (← c.at-target.ensures.at) (c.in-Ok.ensures.saved tells content spells)) is));
      first = rw (← c.self.view_is) (λ none file may.
          ap (area 0) (c.in-Ok.ensures.synced tells file may)
          ∙ first_in_first (g.D.Disk.seen c.self.inside.disk) _ c.self.inside.areas _ content
          (c.self.invariant.0.at_rest tells c.in-Working.is).surveyed
          (rw (← c.at-target.ensures.at) (c.in-Ok.ensures.saved tells content spells)) none);
    }

pub returns-in-Err-clause-stops : goal.returns-in-Err-clause-stops
returns-in-Err-clause-stops g c = λ tells.
    let buffer = c.put_frame-size.new.frame in
    let size : length buffer ≡ c.self.inside.frame.len =
    omega (arith, c.put_frame-size.ensures.room, c.deref_mut.ensures.len) in
    let items : take c.self.inside.frame.len (buffer ++ drop (length buffer) c.self.inside.frame.items) ≡ buffer =
    take_at buffer (drop (length buffer) c.self.inside.frame.items) c.self.inside.frame.len size in
    let slice : c.deref.result.now ≡ buffer = c.deref.ensures.value ∙ items in
    let content = content_of c.args.moment c.args.layout.now c.args.values.now in
    let fits : length (record_bytes content) ≤ length c.self.inside.frame.items - HEADER_BYTES =
    rw (← c.self.view_is) at c.requires.room in
    let spells : decoded (drop HEADER_BYTES (take c.put_frame-size.result c.deref.result.now)) ≡ Some content =
    frame_spells content (take c.put_frame-size.result c.deref.result.now) c.requires.sound
    (omega (arith, c.self.invariant.0.greatest)) (ap
    (λ (l : List ℕ). drop HEADER_BYTES (take c.put_frame-size.result l)) slice ∙ c.put_frame-size.ensures.body) in
    record {
      any_moment = λ ok.
          rw (← c.self.view_is)
          (weakens g.D.Disk.left_since g.D.Disk.may_leave _ _ _ _ (c.write_frame.ensures.any_moment tells content spells)
          (λ file. ⊎_elim (λ before. inl (before ∙ (c.self.invariant.0.at_rest tells c.in-Working.is).surveyed.last_is)) inr));
      at_rest = tt;
      before = tt;
      first = λ none. tt;
    }

pub returns-in-Ok-clause-saved : goal.returns-in-Ok-clause-saved
returns-in-Ok-clause-saved g c =
    let buffer = c.put_frame-size.new.frame in
    let size : length buffer ≡ c.self.inside.frame.len =
    omega (arith, c.put_frame-size.ensures.room, c.deref_mut.ensures.len) in
    let items : take c.self.inside.frame.len (buffer ++ drop (length buffer) c.self.inside.frame.items) ≡ buffer =
    take_at buffer (drop (length buffer) c.self.inside.frame.items) c.self.inside.frame.len size in
    rw (← c.self.view_is) (rw (
      c.after_save-self-inside.ensures,
      c.in-Working.is,
      c.swap.ensures.x_after,
      c.set.ensures,
      items,
    ) (record {
      generation_is = refl;
      last_is = held_some _ _ (omega arith);
      tried_is = refl;
      working = refl;
      room_is = omega (arith, size);
    }))

pub returns-in-Err-clause-unsaved : goal.returns-in-Err-clause-unsaved
returns-in-Err-clause-unsaved g c =
    let buffer = c.put_frame-size.new.frame in
    let size : length buffer ≡ c.self.inside.frame.len =
    omega (arith, c.put_frame-size.ensures.room, c.deref_mut.ensures.len) in
    let items : take c.self.inside.frame.len (buffer ++ drop (length buffer) c.self.inside.frame.items) ≡ buffer =
    take_at buffer (drop (length buffer) c.self.inside.frame.items) c.self.inside.frame.len size in
    rw (← c.self.view_is) (rw items (record {
      generation_is = refl;
      last_is = refl;
      tried = rw c.set.ensures refl;
      failed = refl;
      room_is = omega (arith, size);
    }))

pub invariant_of-self-in-Ok : goal.invariant_of-self-in-Ok
invariant_of-self-in-Ok g c =
    let buffer = c.put_frame-size.new.frame in
    let size : length buffer ≡ c.self.inside.frame.len =
    omega (arith, c.put_frame-size.ensures.room, c.deref_mut.ensures.len) in
    let items : take c.self.inside.frame.len (buffer ++ drop (length buffer) c.self.inside.frame.items) ≡ buffer =
    take_at buffer (drop (length buffer) c.self.inside.frame.items) c.self.inside.frame.len size in
    let slice : c.deref.result.now ≡ buffer = c.deref.ensures.value ∙ items in
    let content = content_of c.args.moment c.args.layout.now c.args.values.now in
    let fits : length (record_bytes content) ≤ length c.self.inside.frame.items - HEADER_BYTES =
    rw (← c.self.view_is) at c.requires.room in
    let spells : decoded (drop HEADER_BYTES (take c.put_frame-size.result c.deref.result.now)) ≡ Some content =
    frame_spells content (take c.put_frame-size.result c.deref.result.now) c.requires.sound
    (omega (arith, c.self.invariant.0.greatest)) (ap
    (λ (l : List ℕ). drop HEADER_BYTES (take c.put_frame-size.result l)) slice ∙ c.put_frame-size.ensures.body) in
    let least : HEADER_BYTES ≤ length buffer = omega (arith, c.self.invariant.0.least) in
    let greatest : length buffer ≤ (AREA_BYTES - 1) = omega (arith, c.self.invariant.0.greatest) in
    rw (c.after_save-self-inside.ensures, c.in-Working.is, c.swap.ensures.x_after, c.set.ensures, items) (
      kept_ok g.D.Disk.tells (g.D.Disk.seen c.self.inside.disk) _ (g.D.Disk.may_leave c.self.inside.disk) _
          c.self.inside.areas _ _ content (length buffer) least greatest
          (λ tells. c.self.invariant.0.at_rest tells c.in-Working.is)
          (λ tells. rw (← c.at-target.ensures.at) (c.in-Ok.ensures.saved tells content spells))
          (λ tells. c.in-Ok.ensures.synced tells),
      λ some. c.requires.sound,
    )

pub invariant_of-self-in-Err : goal.invariant_of-self-in-Err
invariant_of-self-in-Err g c =
    let buffer = c.put_frame-size.new.frame in
    let size : length buffer ≡ c.self.inside.frame.len =
    omega (arith, c.put_frame-size.ensures.room, c.deref_mut.ensures.len) in
    let items : take c.self.inside.frame.len (buffer ++ drop (length buffer) c.self.inside.frame.items) ≡ buffer =
    take_at buffer (drop (length buffer) c.self.inside.frame.items) c.self.inside.frame.len size in
    let slice : c.deref.result.now ≡ buffer = c.deref.ensures.value ∙ items in
    let content = content_of c.args.moment c.args.layout.now c.args.values.now in
    let fits : length (record_bytes content) ≤ length c.self.inside.frame.items - HEADER_BYTES =
    rw (← c.self.view_is) at c.requires.room in
    let spells : decoded (drop HEADER_BYTES (take c.put_frame-size.result c.deref.result.now)) ≡ Some content =
    frame_spells content (take c.put_frame-size.result c.deref.result.now) c.requires.sound
    (omega (arith, c.self.invariant.0.greatest)) (ap
    (λ (l : List ℕ). drop HEADER_BYTES (take c.put_frame-size.result l)) slice ∙ c.put_frame-size.ensures.body) in
    let least : HEADER_BYTES ≤ length buffer = omega (arith, c.self.invariant.0.least) in
    let greatest : length buffer ≤ (AREA_BYTES - 1) = omega (arith, c.self.invariant.0.greatest) in
    rw (c.set.ensures, items) (
      kept_err g.D.Disk.tells _ _ c.self.inside.areas _ _ (length buffer) least greatest
          (λ tells file may.
          ⊎_elim (λ before. inl (before ∙ (c.self.invariant.0.at_rest tells c.in-Working.is).surveyed.last_is)) inr
          ((c.write_frame.ensures.any_moment tells content spells).now file may)),
      c.self.invariant.1,
    )
