use Rattle.std.proofs.Common.{◌∙◌, rules, IsErrOf}
use Rattle.image.specs.declared.plant_error.PlantError.TheVariants.{Field, NotLater, TooManyRows}
use Rattle.image.proofs.ReadLemmas.{opened_read}
use Rattle.image.proofs.PlantLemmas.{opened_plain, no_header, wrong_header, first_reading, wrong_field, no_rise}
use Rattle.image.proofs.PlantLemmas.{too_many, next_reading, whole_plant}
use Rattle.image.proofs.plant.read_plant.Goals as goal

pub returns-in-None-clause-header : goal.returns-in-None-clause-header
returns-in-None-clause-header g c =
    let rem = g.R.Read.remaining in
    let known = g.R.Read.remaining c.args.reader in
    let inputs = c.args.plan.now.inputs.items in
    let fr = c.from_reader.ensures in
    let e = c.has_headers.ensures in
    let f = c.flexible.ensures in
    let made = c.into_byte_records-records.ensures in
    let a = c.into_byte_records-records.result.rdr in
    let b = c.next.new.self.rdr in
    let n = c.into_byte_records-records.result.left in
    let left = c.next.new.self.left in
    let plain = opened_plain a c.from_reader.result n made.rdr (rw (f, e) at fr.trim ∙ c.new.ensures.trim) (rw (f, e) at
    fr.has_headers) fr.headers (rw (f, e) at fr.config ∙ c.new.ensures.config) (rw f at fr.flexible) made.left in
    let has = opened_read rem known a c.from_reader.result made.rdr fr.state fr.source in
    let s = rw c.in-None.is at (c.next.ensures.steps plain.turns plain.trims) in
    λ same. no_header rem known inputs a b n left plain has s

pub returns-then-not-is_header-clause-header : goal.returns-then-not-is_header-clause-header
returns-then-not-is_header-clause-header g c =
    let rem = g.R.Read.remaining in
    let known = g.R.Read.remaining c.args.reader in
    let inputs = c.args.plan.now.inputs.items in
    let fr = c.from_reader.ensures in
    let e = c.has_headers.ensures in
    let f = c.flexible.ensures in
    let made = c.into_byte_records-records.ensures in
    let a = c.into_byte_records-records.result.rdr in
    let b = c.next.new.self.rdr in
    let n = c.into_byte_records-records.result.left in
    let left = c.next.new.self.left in
    let plain = opened_plain a c.from_reader.result n made.rdr (rw (f, e) at fr.trim ∙ c.new.ensures.trim) (rw (f, e) at
    fr.has_headers) fr.headers (rw (f, e) at fr.config ∙ c.new.ensures.config) (rw f at fr.flexible) made.left in
    let has = opened_read rem known a c.from_reader.result made.rdr fr.state fr.source in
    let s = rw (c.in-Some-Ok.is, c.in-Some-Ok.field-0-is) at (c.next.ensures.steps plain.turns plain.trims) in
    let test = rw c.inputs.ensures at c.is_header.ensures in
    λ same.
    wrong_header rem known inputs a b n left c.in-Some-Ok.header plain has s (λ names. let yes = test.1 names in cc)

pub loop-record-init : goal.loop-record-init
loop-record-init g c =
    let rem = g.R.Read.remaining in
    let known = g.R.Read.remaining c.args.reader in
    let inputs = c.args.plan.now.inputs.items in
    let fr = c.from_reader.ensures in
    let e = c.has_headers.ensures in
    let f = c.flexible.ensures in
    let made = c.into_byte_records-records.ensures in
    let a = c.into_byte_records-records.result.rdr in
    let b = c.next.new.self.rdr in
    let n = c.into_byte_records-records.result.left in
    let left = c.next.new.self.left in
    let plain = opened_plain a c.from_reader.result n made.rdr (rw (f, e) at fr.trim ∙ c.new.ensures.trim) (rw (f, e) at
    fr.has_headers) fr.headers (rw (f, e) at fr.config ∙ c.new.ensures.config) (rw f at fr.flexible) made.left in
    let has = opened_read rem known a c.from_reader.result made.rdr fr.state fr.source in
    let s = rw (c.in-Some-Ok.is, c.in-Some-Ok.field-0-is) at (c.next.ensures.steps plain.turns plain.trims) in
    let test = rw c.inputs.ensures at c.is_header.ensures in
    rw c.into_iter-record-iterator.ensures.into_iter_gives (
    first_reading rem known inputs c.new-rows.result.items a b n left c.in-Some-Ok.header c.new-rows.ensures.items plain
    has s (test.0 c.if-not-is_header.false))

pub returns-in_err-add_row-in-Ok-clause-field : goal.returns-in_err-add_row-in-Ok-clause-field
returns-in_err-add_row-in-Ok-clause-field g c = λ is.
    let rem = g.R.Read.remaining in
    let known = g.R.Read.remaining c.args.reader in
    let inputs = c.args.plan.now.inputs.items in
    let rows = c.loop-record.rows.items in
    let a = c.loop-record.record-iterator.rdr in
    let b = c.next-in-loop-record.new.self.rdr in
    let n = c.loop-record.record-iterator.left in
    let left = c.next-in-loop-record.new.self.left in
    let inv = c.loop-record.invariant in
    let s = rw (c.in-Some.is, c.in-Ok.is) at (c.next-in-loop-record.ensures.steps inv.plain.turns inv.plain.trims) in
    let was : IsErrOf c.add_row.result Field = first_of (search rules, cc) in
    wrong_field rem known inputs rows a b n left c.in-Ok.record inv s
    (rw c.inputs-in-Ok.ensures at (c.add_row.ensures.field was))

pub returns-in_err-add_row-in-Ok-clause-not_later : goal.returns-in_err-add_row-in-Ok-clause-not_later
returns-in_err-add_row-in-Ok-clause-not_later g c = λ is.
    let rem = g.R.Read.remaining in
    let known = g.R.Read.remaining c.args.reader in
    let inputs = c.args.plan.now.inputs.items in
    let rows = c.loop-record.rows.items in
    let a = c.loop-record.record-iterator.rdr in
    let b = c.next-in-loop-record.new.self.rdr in
    let n = c.loop-record.record-iterator.left in
    let left = c.next-in-loop-record.new.self.left in
    let inv = c.loop-record.invariant in
    let s = rw (c.in-Some.is, c.in-Ok.is) at (c.next-in-loop-record.ensures.steps inv.plain.turns inv.plain.trims) in
    let was : IsErrOf c.add_row.result NotLater = first_of (search rules, cc) in
    let late = rw c.inputs-in-Ok.ensures at (c.add_row.ensures.not_later was) in
    no_rise rem known inputs rows a b n left c.in-Ok.record inv s late.0 late.1 late.2 late.3

pub returns-in_err-add_row-in-Ok-clause-too_many : goal.returns-in_err-add_row-in-Ok-clause-too_many
returns-in_err-add_row-in-Ok-clause-too_many g c = λ is.
    let rem = g.R.Read.remaining in
    let known = g.R.Read.remaining c.args.reader in
    let inputs = c.args.plan.now.inputs.items in
    let rows = c.loop-record.rows.items in
    let a = c.loop-record.record-iterator.rdr in
    let b = c.next-in-loop-record.new.self.rdr in
    let n = c.loop-record.record-iterator.left in
    let left = c.next-in-loop-record.new.self.left in
    let inv = c.loop-record.invariant in
    let s = rw (c.in-Some.is, c.in-Ok.is) at (c.next-in-loop-record.ensures.steps inv.plain.turns inv.plain.trims) in
    let was : IsErrOf c.add_row.result TooManyRows = first_of (search rules, cc) in
    too_many rem known inputs rows a b n left c.in-Ok.record inv s (c.add_row.ensures.too_many was)

pub loop-record-preserved : goal.loop-record-preserved
loop-record-preserved g c =
    let rem = g.R.Read.remaining in
    let known = g.R.Read.remaining c.args.reader in
    let inputs = c.args.plan.now.inputs.items in
    let rows = c.loop-record.rows.items in
    let a = c.loop-record.record-iterator.rdr in
    let b = c.next-in-loop-record.new.self.rdr in
    let n = c.loop-record.record-iterator.left in
    let left = c.next-in-loop-record.new.self.left in
    let inv = c.loop-record.invariant in
    let s = rw (c.in-Some.is, c.in-Ok.is) at (c.next-in-loop-record.ensures.steps inv.plain.turns inv.plain.trims) in
    next_reading rem known inputs rows c.add_row.new.rows.items a b n left c.in-Ok.record inv s
    c.in_ok-add_row-in-Ok.ensures.added (rw c.inputs-in-Ok.ensures at c.in_ok-add_row-in-Ok.ensures.rows_are)

pub returns-clause-plant : goal.returns-clause-plant
returns-clause-plant g c =
    let rem = g.R.Read.remaining in
    let known = g.R.Read.remaining c.args.reader in
    let inputs = c.args.plan.now.inputs.items in
    let rows = c.loop-record.rows.items in
    let a = c.loop-record.record-iterator.rdr in
    let b = c.next-in-loop-record.new.self.rdr in
    let n = c.loop-record.record-iterator.left in
    let left = c.next-in-loop-record.new.self.left in
    let inv = c.loop-record.invariant in
    let s = rw c.in-None-record.is at (c.next-in-loop-record.ensures.steps inv.plain.turns inv.plain.trims) in
    whole_plant rem known inputs rows a b n left inv s
