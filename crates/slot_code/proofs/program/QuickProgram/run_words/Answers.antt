-- A run over the words of values ends as the instructions do.
use Rattle.std.proofs.Common.{rules, ◌≡◌, ◌≤◌, ◌+◌, ◌∙◌, ap, subst, sym, length}
use Rattle.std.specs.Prelude.{All, replicate, IfSome, Option, Some, None}
use Rattle.st_types.specs.Values.{IsHeld}
use Rattle.quick_code.specs.QuickRuns.{EndsWell, left}
use Rattle.quick_machine.specs.Going.{memory}
use Rattle.slot_code.specs.Quick.{AreTyped, HasEnded, QuickView, Wherever, frame_of, kinds_of, run_of}
use Rattle.slot_code.specs.declared.parts.QuickParts.{QuickParts}
use Rattle.slot_code.specs.WordValues.{AreHeld}
use Rattle.slot_code.proofs.Words.{words_over}
use Rattle.slot_code.proofs.Ran.{ended, has_room, notes_there, words_are_held, words_there}
use Rattle.slot_code.proofs.program.QuickProgram.run_words.Goals as goal

weaker : {A : Type 0} (o : Option A) (P Q : A → Type 0) → ((x : A) → P x → Q x) → IfSome o P → IfSome o Q
weaker (Some x) P Q so h = so x h
weaker None P Q so h = tt

pub words_over-requires : goal.words_over-requires
words_over-requires c =
    let s = c.self.inside in
    let typed = subst (λ (v : QuickView). AreTyped v.kinds v.window c.args.values.now) (sym c.self.view_is) c.requires in
    let parts : s.parts.value ≡ c.deref-parts.result.now = search rules in
    let constants : s.parts.value.constants.items ≡ c.deref.result.now = search rules in
    let vs = c.args.values.now in
    subst (λ n. length vs + length c.deref.result.now ≤ n) (ap (λ (p : QuickParts). p.words) parts)
    (subst (λ cs. length vs + length cs ≤ s.parts.value.words) constants
    (has_room s.instrs.value.items s.kinds.value.items s.extra c.args.now c.args.budget s.parts.value s.window.items
    c.args.values.now c.self.invariant typed))

pub returns : goal.returns
returns c =
    let s = c.self.inside in
    let p = s.parts.value in
    let vs = c.args.values.now in
    let typed = subst (λ (v : QuickView). AreTyped v.kinds v.window vs) (sym c.self.view_is) c.requires in
    let notes : c.in_ok-notes.notes.items ≡ replicate p.words 0 = search rules in
    let words : c.in_ok-words.words.items ≡ words_over p vs = search rules in
    let held : All IsHeld vs = search rules in
    let constants : All IsHeld p.constants.items = search rules in
    let parts : c.deref-parts.result.now ≡ p = search rules in
    let runs = subst (λ (q : QuickParts). IfSome c.run_over.result (λ l. EndsWell q.code.instrs.items q.code.ways.items
    c.args.now 0 (memory c.in_ok-words.words.items c.in_ok-notes.notes.items) c.args.budget
    (left (memory l.words.items l.notes.items) l.ticks))) parts c.run_over.ensures in
    record {
      ended = subst (λ (v : QuickView). IfSome c.run_over.result (λ l. Wherever v.kinds v.window vs
          (λ slots. HasEnded (frame_of v.parts v.window v.kinds c.args.now) slots
          (left (memory l.words.items l.notes.items) l.ticks)
          (run_of v.instrs v.extra c.args.now slots c.args.budget)))) c.self.view_is
          (weaker c.run_over.result _ _ (λ l ran. ended s.instrs.value.items s.kinds.value.items s.extra c.args.now
          c.args.budget p s.window.items vs c.self.invariant typed held constants (memory l.words.items l.notes.items)
          l.ticks _ _ words notes ran) runs);
      held = weaker c.run_over.result _ _ (λ l ran. words_are_held s.instrs.value.items s.kinds.value.items s.extra
          c.args.now c.args.budget p s.window.items vs c.self.invariant typed held constants
          (memory l.words.items l.notes.items) l.ticks _ _ words notes ran) runs;
      words = weaker c.run_over.result _ _ (λ l ran. words_there s.instrs.value.items s.kinds.value.items s.extra
          c.args.now c.args.budget p s.window.items vs c.self.invariant typed held constants
          (memory l.words.items l.notes.items) l.ticks _ _ words notes ran) runs;
      notes = weaker c.run_over.result _ _ (λ l ran. notes_there s.instrs.value.items s.kinds.value.items s.extra
          c.args.now c.args.budget p s.window.items vs c.self.invariant typed held constants
          (memory l.words.items l.notes.items) l.ticks _ _ words notes ran) runs;
    }
