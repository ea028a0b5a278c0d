use Rattle.std.proofs.Common.{rules, ap}
use Rattle.retain_records.specs.Marked.{Marked}
use Rattle.retain_records.proofs.MarkedLemmas.{given_past, given_marked, given_unheld, given_held}
use Rattle.retain_records.proofs.matching.give.Goals as goal

pub returns-then-place-len-clause-values : goal.returns-then-place-len-clause-values
returns-then-place-len-clause-values c =
    ap (λ (r : Marked). r.values) (given_past c.args.place c.args.other.number c.args.values.now.items c.args.marks.now.items (search rules))

pub returns-then-place-len-clause-marks : goal.returns-then-place-len-clause-marks
returns-then-place-len-clause-marks c =
    ap (λ (r : Marked). r.marks) (given_past c.args.place c.args.other.number c.args.values.now.items c.args.marks.now.items (search rules))

pub returns-then-index-clause-values : goal.returns-then-index-clause-values
returns-then-index-clause-values c =
    ap (λ (r : Marked). r.values) (given_marked c.args.place c.args.other.number c.args.values.now.items c.args.marks.now.items (search rules))

pub returns-then-index-clause-marks : goal.returns-then-index-clause-marks
returns-then-index-clause-marks c =
    ap (λ (r : Marked). r.marks) (given_marked c.args.place c.args.other.number c.args.values.now.items c.args.marks.now.items (search rules))

pub returns-in-Some-clause-values : goal.returns-in-Some-clause-values
returns-in-Some-clause-values c =
    ap (λ (r : Marked). r.values) (given_held c.args.place c.args.other.number c.args.values.now.items c.args.marks.now.items c.index-2.result.now c.in-Some.told (search rules) c.requires c.index-2.ensures (search rules) c.in-Some.ensures)

pub returns-in-Some-clause-marks : goal.returns-in-Some-clause-marks
returns-in-Some-clause-marks c =
    ap (λ (r : Marked). r.marks) (given_held c.args.place c.args.other.number c.args.values.now.items c.args.marks.now.items c.index-2.result.now c.in-Some.told (search rules) c.requires c.index-2.ensures (search rules) c.in-Some.ensures)

pub returns-in_default-clause-values : goal.returns-in_default-clause-values
returns-in_default-clause-values c =
    ap (λ (r : Marked). r.values) (given_unheld c.args.place c.args.other.number c.args.values.now.items c.args.marks.now.items c.index-2.result.now (search rules) c.index-2.ensures c.in_default.ensures)

pub returns-in_default-clause-marks : goal.returns-in_default-clause-marks
returns-in_default-clause-marks c =
    ap (λ (r : Marked). r.marks) (given_unheld c.args.place c.args.other.number c.args.values.now.items c.args.marks.now.items c.index-2.result.now (search rules) c.index-2.ensures c.in_default.ensures)
