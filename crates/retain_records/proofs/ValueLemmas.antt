-- A value as the code reads it.
use Rattle.std.proofs.Common.{◌≡◌, ℕ, ◌≤◌, Bool, true, false, cond, ltb, List, length, take, drop, Option, Some, None}
use Rattle.std.proofs.Common.{Result, Ok, Err, refl, ap, ◌∙◌, arith}
use Rattle.std.specs.Prelude.{ℤ}
use Rattle.std.specs.Int.{w128, byte_len, from_be_bytes}
use mir.Val.{SFits, to_z, of_z}
use Rattle.std.proofs.lemmas.Bool.{le-ltb}
use Rattle.std.proofs.lemmas.Int.{to_z-of_z}
use Rattle.st_types.specs.declared.kind.Kind.{Kind}
use Rattle.st_types.specs.declared.fault.Fault.{Fault}
use Rattle.st_types.specs.declared.fault.Fault.TheVariants.{Range}
use Rattle.st_types.specs.Kinds.{holds}
use Rattle.st_types.specs.Values.{Datum, in_range}
use Rattle.retain_records.specs.Records.{wide_of}
use Rattle.retain_records.specs.Reading.{number_of, value_at}

-- a value that was made, and the bytes after it
abbrev pub kept : Result Datum Fault → List ℕ → Option (Datum × List ℕ)
kept (Ok d) behind = Some (d, behind)
kept (Err e) behind = None

range_kept : (k : Kind) (z : ℤ) (behind : List ℕ) (b : Bool)
    → kept (cond b (Ok (record { kind = k; number = z })) (Err Range)) behind
    ≡ cond b (Some (record { kind = k; number = z }, behind)) None
range_kept k z behind true = refl
range_kept k z behind false = refl

pub value_found : (k : Kind) (bytes front behind : List ℕ) (width code : ℕ) (z : ℤ) (result : Result Datum Fault)
    → width ≡ byte_len (wide_of k) → width ≤ length bytes → front ≡ take width bytes → behind ≡ drop width bytes
    → code ≡ from_be_bytes (wide_of k) front → z ≡ number_of k code → SFits w128 z
    → result ≡ in_range k (to_z w128 (of_z w128 z)) → kept result behind ≡ value_at k bytes
unfolding value_at
value_found k bytes front behind width code z result wide long front_is behind_is code_is z_is fits is =
    let enough : ltb (length bytes) (byte_len (wide_of k)) ≡ false = le-ltb _ _ (omega arith) in
    let plain : result ≡ in_range k (number_of k code) = is ∙ ap (in_range k) (to_z-of_z w128 z fits ∙ z_is) in
    let code_at : code ≡ from_be_bytes (wide_of k) (take (byte_len (wide_of k)) bytes) = code_is
    ∙ ap (from_be_bytes (wide_of k)) (front_is ∙ ap (λ (n : ℕ). take n bytes) wide) in
    let behind_at : behind ≡ drop (byte_len (wide_of k)) bytes = behind_is ∙ ap (λ (n : ℕ). drop n bytes) wide in
    ap (λ (r : Result Datum Fault). kept r behind) plain
    ∙ range_kept k (number_of k code) behind (holds k (number_of k code)) ∙ rw (enough, ← code_at, behind_at) refl
