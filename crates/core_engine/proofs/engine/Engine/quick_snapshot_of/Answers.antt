-- The contents of a quick snapshot of an activation that waits.
use Rattle.std.proofs.Common.{rules, ◌≡◌, ◌∙◌, Some, ap, length, map, sym, subst}
use Rattle.st_types.specs.Values.{Datum}
use Rattle.quick_trees.specs.Windows.{IsWindow}
use Rattle.slot_code.specs.Quick.{AreIn, AreTyped, kinds_of}
use Rattle.slot_code.proofs.Filled.{typed_in}
use Rattle.slot_code.specs.declared.code.Code.{Code}
use Rattle.slot_code.specs.Windows.{window_of}
use Rattle.plan.specs.SlotPlaces.{merged}
use Rattle.core_values.proofs.WindowLemmas.{all_long}
use Rattle.st_meaning.specs.Logs.{row_at}
use Rattle.plan.specs.declared.plan.Plan.{Plan}
use Rattle.core_engine.specs.Steps.{code_at, past_in, slots_for}
use Rattle.core_engine.specs.Lived.{EngineView, HasEngineLife, life_in}
use Rattle.core_engine.proofs.TakeLemmas.{merged_as, numbered_as, values_are, slots_numbered, waits-row}
use Rattle.core_engine.proofs.engine.Engine.quick_snapshot_of.Goals as goal
use Rattle.st_types.proofs.ListLemmas.{length_map}

pub window_values-requires-clause-numbered : goal.window_values-requires-clause-numbered
window_values-requires-clause-numbered c =
    let a = c.args.activation in
    let now = c.args.self.now in
    let (start, log, is) = subst HasEngineLife c.self.view_is c.self.invariant.live in
    numbered_as c.deref-2.result.now now.plan.slots.items c.values.result.now now.values c.image.result.now
    (row_at (past_in (life_in now start log)).rows a.row).image
    (c.deref-2.ensures.value
    ∙ ap (λ (p : Plan). p.slots.items) (c.deref.ensures ∙ ap (λ (e : EngineView). e.plan) c.self.view_is))
    (c.values.ensures.now start log is ∙ sym (values_are is.kept))
    (c.image.ensures ∙ ap (λ r. r.image) (c.row_for-row.ensures start log is))
    (slots_numbered is.kept a (waits-row is.kept a (c.requires.waits start log is)))

pub window_values-requires-clause-window : goal.window_values-requires-clause-window
window_values-requires-clause-window c =
    let a = c.args.activation in
    let now = c.args.self.now in
    let (start, log, is) = subst HasEngineLife c.self.view_is c.self.invariant.live in
    let life = life_in now start log in
    let code = c.in-Ok.code.value in
    let places = c.deref-2.result.now in
    let values = c.values.result.now in
    let image = c.image.result.now in
    let slots = merged places values image in
    let slots_are : slots ≡ slots_for life a =
    merged_as places now.plan.slots.items values (map (λ e. e.1) (past_in life).store) image
    (row_at (past_in life).rows a.row).image
    (c.deref-2.ensures.value
    ∙ ap (λ (p : Plan). p.slots.items) (c.deref.ensures ∙ ap (λ (e : EngineView). e.plan) c.self.view_is))
    (c.values.ensures.now start log is)
    (c.image.ensures ∙ ap (λ r. r.image) (c.row_for-row.ensures start log is)) in
    let kinds : kinds_of slots ≡ code.kinds.value.items =
    ap kinds_of slots_are ∙ c.in-Ok.ensures.typed start log is in
    let many : length code.kinds.value.items ≡ length places =
    sym (ap length kinds) ∙ length_map (λ (v : Datum). v.kind) slots
    ∙ all_long places values image (window_values-requires-clause-numbered c) in
    let code_is : c.deref-3.result.now ≡ code = search rules in
    subst (λ w. IsWindow (length places) w) (sym c.window.ensures.window)
    (subst (λ (k : Code). IsWindow (length places) (window_of k)) (sym code_is)
    (subst (λ n. IsWindow n (window_of code)) many
    (subst (λ (k : Code). IsWindow (length k.kinds.value.items) (window_of k)) code_is c.window.ensures.slots)))

pub new-requires : goal.new-requires
new-requires c =
    let a = c.args.activation in
    let now = c.args.self.now in
    let (start, log, is) = subst HasEngineLife c.self.view_is c.self.invariant.live in
    let life = life_in now start log in
    let code = c.in-Ok.code.value in
    let places = c.deref-2.result.now in
    let values = c.values.result.now in
    let image = c.image.result.now in
    let slots = merged places values image in
    let slots_are : slots ≡ slots_for life a =
    merged_as places now.plan.slots.items values (map (λ e. e.1) (past_in life).store) image
    (row_at (past_in life).rows a.row).image
    (c.deref-2.ensures.value
    ∙ ap (λ (p : Plan). p.slots.items) (c.deref.ensures ∙ ap (λ (e : EngineView). e.plan) c.self.view_is))
    (c.values.ensures.now start log is)
    (c.image.ensures ∙ ap (λ r. r.image) (c.row_for-row.ensures start log is)) in
    let kinds : kinds_of slots ≡ code.kinds.value.items =
    ap kinds_of slots_are ∙ c.in-Ok.ensures.typed start log is in
    let code_is : c.deref-3.result.now ≡ code = search rules in
    let window_is : c.window.result.now ≡ window_of code = c.window.ensures.window ∙ ap window_of code_is in
    let is_window : IsWindow (length slots) (window_of code) =
    subst (λ n. IsWindow n (window_of code))
    (sym (ap length kinds) ∙ length_map (λ (v : Datum). v.kind) slots)
    (subst (λ (k : Code). IsWindow (length k.kinds.value.items) (window_of k)) code_is c.window.ensures.slots) in
    let found : AreIn (window_of code) slots c.in-Ok-window_values.values.items =
    subst (λ w. AreIn w slots c.in-Ok-window_values.values.items) window_is c.in-Ok-window_values.ensures in
    record {
      typed = subst (λ ks. AreTyped ks (window_of code) c.in-Ok-window_values.values.items) kinds
          (typed_in (window_of code) slots c.in-Ok-window_values.values.items is_window found);
    }

pub returns-clause-parts : goal.returns-clause-parts
returns-clause-parts c =
    let a = c.args.activation in
    let now = c.args.self.now in
    λ start log is.
    let life = life_in now start log in
    let code = c.in-Ok.code.value in
    let same = c.new.ensures.activation in
    let slots_are : merged c.deref-2.result.now c.values.result.now c.image.result.now
    ≡ slots_for life c.new.result.activation =
    merged_as c.deref-2.result.now now.plan.slots.items c.values.result.now (map (λ e. e.1) (past_in life).store)
    c.image.result.now (row_at (past_in life).rows a.row).image
    (c.deref-2.ensures.value
    ∙ ap (λ (p : Plan). p.slots.items) (c.deref.ensures ∙ ap (λ (e : EngineView). e.plan) c.self.view_is))
    (c.values.ensures.now start log is)
    (c.image.ensures ∙ ap (λ r. r.image) (c.row_for-row.ensures start log is)) ∙ ap (slots_for life) (sym same) in
    let code_is : c.deref-3.result.now ≡ code = search rules in
    let window_is : c.window.result.now ≡ window_of c.new.result.code.value = c.window.ensures.window
    ∙ ap window_of (code_is ∙ sym c.new.ensures.code) in
    record {
      code = ap (λ b. code_at now.plan b.program) same ∙ c.in-Ok.ensures.code
          ∙ ap (λ x. Some x) (sym c.new.ensures.code);
      moment = c.new.ensures.moment ∙ c.moment.ensures
          ∙ ap (λ r. r.moment) (c.row_for-row.ensures start log is)
          ∙ ap (λ b. (row_at (past_in life).rows b.row).moment) (sym same);
      budget = c.new.ensures.budget ∙ ap (λ (p : Plan). p.budget) (c.deref-4.ensures
          ∙ ap (λ (e : EngineView). e.plan) c.self.view_is);
      values = subst (AreIn (window_of c.new.result.code.value) (slots_for life c.new.result.activation))
          (sym c.new.ensures.values)
          (subst (λ ss. AreIn (window_of c.new.result.code.value) ss c.in-Ok-window_values.values.items) slots_are
          (subst (λ w. AreIn w (merged c.deref-2.result.now c.values.result.now c.image.result.now)
          c.in-Ok-window_values.values.items) window_is c.in-Ok-window_values.ensures));
      kinds = ap (λ b. kinds_of (slots_for life b)) same ∙ c.in-Ok.ensures.typed start log is
          ∙ ap (λ (k : Code). k.kinds.value.items) (sym c.new.ensures.code);
    }
