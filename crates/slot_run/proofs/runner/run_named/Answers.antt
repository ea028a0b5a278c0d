-- A run of quick code has the effect of the run of the instructions, over all slots with these values in its window.
use Rattle.std.proofs.Common.{rules, ◌≡◌, ◌∙◌, List, length, map, subst, ap, sym}
use Rattle.st_types.specs.Values.{Datum}
use Rattle.quick_trees.specs.Windows.{IsWindow}
use Rattle.slot_code.specs.Codes.{code_view}
use Rattle.slot_code.specs.Windows.{window_of}
use Rattle.machine_code.specs.Tracking.{are_assigned, are_read}
use Rattle.slot_code.specs.Quick.{AreIn, AreTyped, EndsWith, Wherever, kinds_of, run_of}
use Rattle.slot_code.proofs.Filled.{as_long}
use Rattle.slot_run.specs.Windows.{picked_in}
use Rattle.slot_run.proofs.QuickLemmas.{long_so, ran_so, somewhere}
use Rattle.slot_run.proofs.runner.run_named.Goals as goal
use Rattle.st_types.proofs.ListLemmas.{length_map}

pub ran_of-requires : goal.ran_of-requires
ran_of-requires c =
    let vs = c.args.values.now in
    let quick = c.in-Some.quick in
    let left = c.in-Some-2.left in
    let told : Wherever quick.kinds quick.window vs (λ slots. EndsWith quick.window slots left.ticks left.values.items
    left.marks.items (run_of quick.instrs quick.extra c.args.moment slots c.args.budget)) = search rules in
    let typed : AreTyped quick.kinds quick.window vs = search rules in
    let ends = (somewhere quick.kinds quick.window vs (λ slots. EndsWith quick.window slots left.ticks left.values.items
    left.marks.items (run_of quick.instrs quick.extra c.args.moment slots c.args.budget)) c.window.ensures.slots typed
    told).1 in
    let many = sym (ap length c.window.ensures.window) in
    record {
      begun = as_long quick.kinds quick.window vs c.window.ensures.slots typed ∙ many;
      values = ends.left.long ∙ many;
      marks = ends.long ∙ many;
    }

pub returns-in_ok-ran_of-in-Some-2 : goal.returns-in_ok-ran_of-in-Some-2
returns-in_ok-ran_of-in-Some-2 c =
    let code = code_view c.args.code.now in
    let vs = c.args.values.now in
    let quick = c.in-Some.quick in
    let left = c.in-Some-2.left in
    let told : Wherever quick.kinds quick.window vs (λ slots. EndsWith quick.window slots left.ticks left.values.items
    left.marks.items (run_of quick.instrs quick.extra c.args.moment slots c.args.budget)) = search rules in
    let instrs : quick.instrs ≡ code.instrs = search rules in
    let extra : quick.extra ≡ code.extra = search rules in
    let kinds : quick.kinds ≡ code.kinds = search rules in
    let ended : Wherever code.kinds quick.window vs (λ slots. EndsWith quick.window slots left.ticks left.values.items
    left.marks.items (run_of code.instrs code.extra c.args.moment slots c.args.budget)) =
    subst (λ ks. Wherever ks quick.window vs (λ slots. EndsWith quick.window slots left.ticks left.values.items
    left.marks.items (run_of code.instrs code.extra c.args.moment slots c.args.budget))) kinds
    (subst (λ n. Wherever quick.kinds quick.window vs (λ slots. EndsWith quick.window slots left.ticks
    left.values.items left.marks.items (run_of code.instrs n c.args.moment slots c.args.budget))) extra
    (subst (λ is. Wherever quick.kinds quick.window vs (λ slots. EndsWith quick.window slots left.ticks
    left.values.items left.marks.items (run_of is quick.extra c.args.moment slots c.args.budget))) instrs told)) in
    let window_is : c.window.result.now ≡ quick.window = c.window.ensures.window in
    let ran = c.in_ok-ran_of-in-Some-2.ensures in
    let reads = ran.reads ∙ ap (λ w. picked_in w (are_read left.marks.items) vs) window_is in
    let writes = ran.writes ∙ ap (λ w. picked_in w (are_assigned left.marks.items) left.values.items) window_is in
    let is_window : (slots : List Datum) → kinds_of slots ≡ code.kinds → IsWindow (length slots) quick.window =
    λ slots of_kinds. subst (λ n. IsWindow n quick.window)
    (ap length (kinds ∙ sym of_kinds) ∙ length_map (λ (v : Datum). v.kind) slots) c.window.ensures.slots in
    let named : window_of c.args.code.now ≡ quick.window = search rules in
    record {
      ran = λ slots of_kinds is_in. let here = subst (λ w. AreIn w slots vs) named is_in in
          ran_so code c.args.moment c.args.budget left.ticks quick.window slots vs left.values.items left.marks.items _
          (is_window slots of_kinds) here (ended slots of_kinds here) reads writes ran.done;
      long = λ slots of_kinds is_in. let here = subst (λ w. AreIn w slots vs) named is_in in
          long_so code c.args.moment c.args.budget left.ticks quick.window slots left.values.items left.marks.items
          (ended slots of_kinds here);
    }
