use Rattle.std.proofs.Common.{◌∙◌, ap, sym, get_or, Some, map, arith}
use Rattle.std.specs.Char.{to_ascii_lowercase}
use Rattle.csv.specs.Records.{fields_of}
use Rattle.image.proofs.HeaderLemmas.{header_first, header_at, header_begins, header_more}
use Rattle.image.proofs.header.is_header.Goals as goal

pub returns-then-not-is_name_at : goal.returns-then-not-is_name_at
returns-then-not-is_name_at c = (
  λ no. cc,
  λ header. rw c.if-not-is_name_at.true at
      (c.is_name_at.ensures.1 (header_first c.args.inputs.now (fields_of c.args.record.now) header)),
)

pub returns-then-not-is_name_at-2 : goal.returns-then-not-is_name_at-2
returns-then-not-is_name_at-2 c =
    let input = get_or c.args.inputs.now c.loop-i.i c.index-inputs-i.result in
    let is = ap (get_or c.args.inputs.now c.loop-i.i) c.index-inputs-i.is in (
      λ no. cc,
      λ header. rw c.if-not-is_name_at-2.true at (c.is_name_at-in-loop-i.ensures.1 (
          header_at c.args.inputs.now (fields_of c.args.record.now) c.loop-i.i input (omega arith) is header
          ∙ ap (λ name. Some (map to_ascii_lowercase name)) (sym (c.as_slice.ensures ∙ c.name.ensures)))),
    )

pub loop-i-init : goal.loop-i-init
loop-i-init c =
    header_begins c.args.inputs.now (fields_of c.args.record.now) (c.is_name_at.ensures.0 c.if-not-is_name_at.false)

pub loop-i-preserved : goal.loop-i-preserved
loop-i-preserved c =
    let input = get_or c.args.inputs.now c.loop-i.i c.index-inputs-i.result in
    let is = ap (get_or c.args.inputs.now c.loop-i.i) c.index-inputs-i.is in
    header_more c.args.inputs.now (fields_of c.args.record.now) c.loop-i.i input (omega arith) is c.loop-i.invariant
    (c.is_name_at-in-loop-i.ensures.0 c.if-not-is_name_at-2.false
    ∙ ap (λ name. Some (map to_ascii_lowercase name)) (c.as_slice.ensures ∙ c.name.ensures))
