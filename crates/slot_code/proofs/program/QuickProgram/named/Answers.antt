use Rattle.std.proofs.Common.{◌≡◌, ◌∙◌, List, ap, subst, sym, length}
use Rattle.std.specs.Prelude.{Result, Ok, Err, IfOk}
use Rattle.st_types.specs.declared.kind.Kind.{Kind}
use Rattle.st_types.specs.Values.{Datum}
use Rattle.quick_trees.specs.Windows.{IsWindow}
use Rattle.slot_code.specs.Quick.{AreIn, AreTyped, kinds_of}
use Rattle.slot_code.proofs.Filled.{typed_in}
use Rattle.slot_code.proofs.program.QuickProgram.named.Goals as goal
use Rattle.st_types.proofs.OptionLemmas.{ok_weaker}
use Rattle.st_types.proofs.ListLemmas.{length_map}

as_many : (slots : List Datum) (kinds : List Kind) → kinds_of slots ≡ kinds → length kinds ≡ length slots
as_many slots kinds e = ap length (sym e) ∙ length_map (λ (v : Datum). v.kind) slots

pub values_in-requires : goal.values_in-requires
values_in-requires c =
    subst (λ w. IsWindow (length c.args.slots.now) w) (sym c.window.ensures.window)
    (subst (λ n. IsWindow n c.args.self.now.window) (as_many _ _ c.requires) c.window.ensures.slots)

pub returns : goal.returns
returns c =
    let slots = c.args.slots.now in
    let self = c.args.self.now in
    let is_window : IsWindow (length slots) self.window =
    subst (λ n. IsWindow n self.window) (as_many slots self.kinds c.requires) c.window.ensures.slots in
    let is_in = subst (λ w. IfOk c.values_in.result (λ values. AreIn w slots values.items)) c.window.ensures.window
    c.values_in.ensures in
    record {
      values = is_in;
      typed = ok_weaker c.values_in.result _ _ (λ values is. subst (λ ks. AreTyped ks self.window values.items) c.requires
          (typed_in self.window slots values.items is_window is)) is_in;
    }
