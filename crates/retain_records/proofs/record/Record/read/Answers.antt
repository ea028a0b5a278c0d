use Rattle.std.proofs.Common.{List, ℕ, map, sym, ap, ◌∙◌, arith, false, true}
use Rattle.std.proofs.lemmas.Bool.{ltb-true, ltb-false}
use Rattle.retain_records.specs.Reading.{are_distinct, path_from}
use Rattle.retain_records.specs.RecordLaws.{of_decoded}
use Rattle.retain_records.proofs.RecordLemmas.{decoded_long, decoded_no_parts, decoded_no_variables, decoded_by_paths}
use Rattle.retain_records.proofs.RecordLemmas.{layout_short}
use Rattle.retain_records.proofs.record.Record.read.Goals as goal

pub returns-then-is_too_long-clause-no : goal.returns-then-is_too_long-clause-no
returns-then-is_too_long-clause-no c =
    λ no. decoded_long c.args.body.now (ltb-true _ _ (sym c.is_too_long.ensures ∙ c.if-is_too_long.true))

pub returns-in_default-clause-no : goal.returns-in_default-clause-no
returns-in_default-clause-no c = λ no. decoded_no_parts c.args.body.now (sym c.in_default.ensures)

pub read_variables-requires-clause-short : goal.read_variables-requires-clause-short
read_variables-requires-clause-short c = layout_short c.args.body.now _ (λ i. omega (arith, c.type_inv.body i))
    (sym c.in-Some.ensures) (ltb-false _ _ (sym c.is_too_long.ensures ∙ c.if-is_too_long.false))

pub returns-then-not-read_variables-clause-no : goal.returns-then-not-read_variables-clause-no
returns-then-not-read_variables-clause-no c =
    λ no. decoded_no_variables c.args.body.now _ (ltb-false _ _ (sym c.is_too_long.ensures ∙ c.if-is_too_long.false))
    (sym c.in-Some.ensures) (c.read_variables.ensures.no c.if-not-read_variables.true)

pub returns-then-not-are_distinct-clause-no : goal.returns-then-not-are_distinct-clause-no
returns-then-not-are_distinct-clause-no c = λ no. decoded_by_paths c.args.body.now _ c.read_variables.new.starts.items
    c.read_variables.new.values.items false (ltb-false _ _ (sym c.is_too_long.ensures ∙ c.if-is_too_long.false))
    (sym c.in-Some.ensures) (c.read_variables.ensures.yes c.if-not-read_variables.false)
    (ap (λ (starts : List ℕ). are_distinct (map (path_from c.in-Some.parts.layout.now) starts))
    (sym c.deref_mut.ensures.value) ∙ sym c.are_distinct.ensures ∙ c.if-not-are_distinct.true)

pub fill-requires : goal.fill-requires
fill-requires c = omega (
  arith,
  layout_short c.args.body.now _ (λ i. omega (arith, c.type_inv.body i))
      (sym c.in-Some.ensures) (ltb-false _ _ (sym c.is_too_long.ensures ∙ c.if-is_too_long.false)),
  c.self.invariant.text,
)

pub returns-clause-yes : goal.returns-clause-yes
returns-clause-yes c =
    λ yes. rw c.fill.ensures.items (decoded_by_paths c.args.body.now _ c.read_variables.new.starts.items
    c.read_variables.new.values.items true (ltb-false _ _ (sym c.is_too_long.ensures ∙ c.if-is_too_long.false))
    (sym c.in-Some.ensures) (c.read_variables.ensures.yes c.if-not-read_variables.false)
    (ap (λ (starts : List ℕ). are_distinct (map (path_from c.in-Some.parts.layout.now) starts))
    (sym c.deref_mut.ensures.value) ∙ sym c.are_distinct.ensures ∙ c.if-not-are_distinct.false))

pub returns-clause-sound : goal.returns-clause-sound
returns-clause-sound c = λ yes. (of_decoded c.args.body.now _ (λ i. omega (arith, c.type_inv.body i))
    (rw c.fill.ensures.items (decoded_by_paths c.args.body.now _ c.read_variables.new.starts.items
    c.read_variables.new.values.items true (ltb-false _ _ (sym c.is_too_long.ensures ∙ c.if-is_too_long.false))
    (sym c.in-Some.ensures) (c.read_variables.ensures.yes c.if-not-read_variables.false)
    (ap (λ (starts : List ℕ). are_distinct (map (path_from c.in-Some.parts.layout.now) starts))
    (sym c.deref_mut.ensures.value) ∙ sym c.are_distinct.ensures ∙ c.if-not-are_distinct.false)))).sound
