use Rattle.std.proofs.Common.{◌≡◌, ap, ap₂, sym, ◌∙◌, rules, false, w64, FitsSigned}
use Rattle.std.specs.Prelude.{◌+ℤ◌}
use Rattle.std.proofs.lemmas.Int.{to_z-of_z}
use Rattle.st_types.specs.Values.{in_range}
use Rattle.st_types.specs.Words.{is_wide}
use Rattle.st_meaning.specs.Loops.{unless_fault}
use Rattle.slot_memory.proofs.SteppedLemmas.{number_is}
use Rattle.slot_memory.proofs.control.stepped_on.Goals as goal

pub returns-in-Some : goal.returns-in-Some
returns-in-Some c =
    let v = c.args.value in
    let s = c.args.step in
    let a : is_wide v.kind ≡ false = search rules in
    let b : is_wide s.kind ≡ false = search rules in
    let f : FitsSigned w64 c.word.result = search rules in
    let g : FitsSigned w64 c.word-2.result = search rules in
    let h : FitsSigned w64 c.in-Some.word = search rules in
    let x = to_z-of_z w64 c.word.result f in
    let y = to_z-of_z w64 c.word-2.result g in
    c.of_word.ensures
    ∙ ap (λ z. unless_fault (in_range v.kind z))
    (to_z-of_z w64 c.in-Some.word h ∙ c.in-Some.ensures.1
    ∙ ap₂ (λ p q. p +ℤ q) (x ∙ sym (number_is v c.word.result a c.word.ensures.word))
    (y ∙ sym (number_is s c.word-2.result b c.word-2.ensures.word)))
