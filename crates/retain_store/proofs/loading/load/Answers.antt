use Rattle.std.proofs.Common.{◌≡◌, ◌<◌, List, ℕ, length, arith, ap, sym, ◌∙◌}
use Rattle.retain_store.specs.declared.shape.TheConstants.{FILE_BYTES}
use Rattle.disk.specs.Runs.{weakens, joins}
use Rattle.retain_store.proofs.Formats.{device_failed, left_same, left_short, long_too_long}
use Rattle.std.proofs.lemmas.Result.{err_from_is_err_and}
use Rattle.retain_store.proofs.loading.load.Goals as goal

pub returns-in_err-len-clause-any_moment : goal.returns-in_err-len-clause-any_moment
returns-in_err-len-clause-any_moment g c = λ tells only.
    weakens g.D.Disk.left_since g.D.Disk.may_leave _ _ _ _ (c.synced_len.ensures.any_moment tells only)
    (left_same _)

pub returns-in_err-len-clause-refused : goal.returns-in_err-len-clause-refused
returns-in_err-len-clause-refused g c = λ tells.
    let p = err_from_is_err_and c.from_residual.result c.from_residual.ensures.1 in
    rw (p.1, p.2) (device_failed _ _ (λ whole. c.synced_len.ensures.seen tells))

pub returns-in_err-format-clause-refused : goal.returns-in_err-format-clause-refused
returns-in_err-format-clause-refused g c = λ tells.
    let p = err_from_is_err_and c.from_residual-in_err-format.result c.from_residual-in_err-format.ensures.1 in
    rw (p.1, p.2)
    (device_failed _ _ (λ whole. absurd (omega (arith, whole, c.in_ok-len.ensures.len tells))))

pub returns-then-len-clause-any_moment : goal.returns-then-len-clause-any_moment
returns-then-len-clause-any_moment g c = λ tells only.
    weakens g.D.Disk.left_since g.D.Disk.may_leave _ _ _ _ (c.synced_len.ensures.any_moment tells only)
    (left_same _)

pub returns-then-len-clause-refused : goal.returns-then-len-clause-refused
returns-then-len-clause-refused g c = λ tells. record {
  applies = long_too_long _ (omega (arith, c.in_ok-len.ensures.len tells));
  unwritten = c.synced_len.ensures.seen tells;
}

pub returns-in_err-format-clause-any_moment : goal.returns-in_err-format-clause-any_moment
returns-in_err-format-clause-any_moment g c = λ tells only.
    let first = weakens g.D.Disk.left_since g.D.Disk.may_leave _ _ _ _ (c.synced_len.ensures.any_moment tells only)
    (left_same (g.D.Disk.seen c.args.disk.now)) in
    let short : length (g.D.Disk.seen c.args.disk.now) < FILE_BYTES = omega (arith, c.in_ok-len.ensures.len tells) in
    joins g.D.Disk.left_since g.D.Disk.may_leave _ _ _ _ _ first (c.format.ensures.any_moment tells)
    (λ file. left_short _ file short)

pub returns-then-len-2-clause-any_moment : goal.returns-then-len-2-clause-any_moment
returns-then-len-2-clause-any_moment g c = λ tells only.
    let first = weakens g.D.Disk.left_since g.D.Disk.may_leave _ _ _ _ (c.synced_len.ensures.any_moment tells only)
    (left_same (g.D.Disk.seen c.args.disk.now)) in
    let short : length (g.D.Disk.seen c.args.disk.now) < FILE_BYTES = omega (arith, c.in_ok-len.ensures.len tells) in
    joins g.D.Disk.left_since g.D.Disk.may_leave _ _ _ _ _ first (c.format.ensures.any_moment tells)
    (λ file. left_short _ file short)

pub read_areas-requires-clause-whole : goal.read_areas-requires-clause-whole
read_areas-requires-clause-whole g c =
    λ tells. omega (arith, c.in_ok-len.ensures.len tells, ap length (c.synced_len.ensures.seen tells))

pub returns-in_err-read_areas-clause-any_moment : goal.returns-in_err-read_areas-clause-any_moment
returns-in_err-read_areas-clause-any_moment g c = λ tells only.
    let first = weakens g.D.Disk.left_since g.D.Disk.may_leave _ _ _ _ (c.synced_len.ensures.any_moment tells only)
    (left_same (g.D.Disk.seen c.args.disk.now)) in
    joins g.D.Disk.left_since g.D.Disk.may_leave _ _ _ _ _ first (c.read_areas.ensures.any_moment tells)
    (λ file same. left_same _ file (same ∙ c.synced_len.ensures.seen tells))

pub returns-clause-any_moment : goal.returns-clause-any_moment
returns-clause-any_moment g c = λ tells only.
    let first = weakens g.D.Disk.left_since g.D.Disk.may_leave _ _ _ _ (c.synced_len.ensures.any_moment tells only)
    (left_same (g.D.Disk.seen c.args.disk.now)) in
    joins g.D.Disk.left_since g.D.Disk.may_leave _ _ _ _ _ first (c.read_areas.ensures.any_moment tells)
    (λ file same. left_same _ file (same ∙ c.synced_len.ensures.seen tells))

pub returns-clause-found : goal.returns-clause-found
returns-clause-found g c = λ tells. (
  omega (arith, c.in_ok-len.ensures.len tells),
  c.in_ok-read_areas.ensures.value tells ∙ c.synced_len.ensures.seen tells,
  c.read_areas.ensures.seen tells ∙ c.synced_len.ensures.seen tells,
)

pub returns-then-len-2-clause-found : goal.returns-then-len-2-clause-found
returns-then-len-2-clause-found g c =
    λ tells. (omega (arith, c.in_ok-len.ensures.len tells), c.in_ok-format.ensures.zeros tells)

pub returns-then-len-clause-serves : goal.returns-then-len-clause-serves
returns-then-len-clause-serves g c = λ tells serving. (λ is. absurd (cc), (c.synced_len.ensures.serves serving).1)

pub returns-then-len-2-clause-serves : goal.returns-then-len-2-clause-serves
returns-then-len-2-clause-serves g c = λ tells serving.
    (tt, (c.format.ensures.serves (c.synced_len.ensures.serves serving).1).1)

pub returns-clause-serves : goal.returns-clause-serves
returns-clause-serves g c = λ tells serving.
    (tt, (c.read_areas.ensures.serves tells (c.synced_len.ensures.serves serving).1).1)
