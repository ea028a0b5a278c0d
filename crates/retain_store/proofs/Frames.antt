-- The frame of a record: a header and a body.
use Rattle.std.proofs.Common.{◌≡◌, ℕ, ◌+◌, ◌-◌, ◌<◌, ◌≤◌, ◌^◌, Some, List, ◌++◌, length, take, drop, refl, sym, ◌∙◌, ap}
use Rattle.std.proofs.Common.{subst, arith, length-append}
use Rattle.std.proofs.lemmas.List.{drop_at}
use Rattle.std.proofs.Math.Seq.{take-append-add}
use Rattle.std.specs.Int.{w32, w64, to_be_bytes}
use Rattle.retain_store.specs.declared.shape.TheConstants.{HEADER_BYTES}
use Rattle.st_types.specs.declared.limits.TheConstants.{MAX_RECORD_BODY}
use Rattle.retain_records.specs.Records.{Content, IsRecordable, record_bytes}
use Rattle.retain_records.specs.Reading.{decoded}
use Rattle.retain_records.specs.RecordLaws.{decoded_of}
use Rattle.retain_store.specs.Areas.{IsFrame}

pub is_frame : (generation : ℕ) (body frame : List ℕ)
    → frame ≡ to_be_bytes w64 generation ++ to_be_bytes w32 (length body) ++ body → 0 < generation → generation < 2 ^ 64
    → length body ≤ MAX_RECORD_BODY → IsFrame generation frame
is_frame generation body frame is some fits short =
    let size : length frame ≡ HEADER_BYTES + length body = ap length is
    ∙ length-append (to_be_bytes w64 generation ++ to_be_bytes w32 (length body)) body in
    record {
      long = omega arith;
      short = omega arith;
      some = some;
      fits = fits;
      head = ap (λ (l : List ℕ). take 8 l) is;
      length_is = ap (λ (l : List ℕ). take 4 (drop 8 l)) is
          ∙ ap (λ (n : ℕ). to_be_bytes w32 n) (let e : length body ≡ length frame - HEADER_BYTES = omega arith in e);
    }

pub frame_body : (generation : ℕ) (body frame : List ℕ)
    → frame ≡ to_be_bytes w64 generation ++ to_be_bytes w32 (length body) ++ body → drop HEADER_BYTES frame ≡ body
frame_body generation body frame is = ap (λ (l : List ℕ). drop HEADER_BYTES l) is
    ∙ drop_at (to_be_bytes w64 generation ++ to_be_bytes w32 (length body)) body HEADER_BYTES refl

-- a header of 12 bytes, and a body at the front of a buffer
pub frame_parts : (header buffer body : List ℕ) (n : ℕ) → length header ≡ HEADER_BYTES → take n buffer ≡ body
    → take (HEADER_BYTES + n) (header ++ buffer) ≡ header ++ body
frame_parts header buffer body n size is =
    ap (λ (k : ℕ). take (k + n) (header ++ buffer)) (sym size) ∙ take-append-add header buffer n
    ∙ ap (λ (l : List ℕ). header ++ l) is

-- the frame of a header and a body that were written apart
pub frame_of : (generation size : ℕ) (header buffer body : List ℕ)
    → header ≡ to_be_bytes w64 generation ++ to_be_bytes w32 size → size ≡ length body → take size buffer ≡ body
    → take (HEADER_BYTES + size) (header ++ buffer) ≡ to_be_bytes w64 generation ++ to_be_bytes w32 (length body)
    ++ body
frame_of generation size header buffer body is_header is_size is_body =
    frame_parts header buffer body size (ap length is_header) is_body
    ∙ ap (λ (l : List ℕ). l ++ body)
    (is_header ∙ ap (λ (n : ℕ). to_be_bytes w64 generation ++ to_be_bytes w32 n) is_size)

-- the body of a frame is a record
pub frame_spells : (content : Content) (frame : List ℕ) → IsRecordable content
    → length (record_bytes content) ≤ MAX_RECORD_BODY → drop HEADER_BYTES frame ≡ record_bytes content
    → decoded (drop HEADER_BYTES frame) ≡ Some content
frame_spells content frame sound short is =
    decoded_of (drop HEADER_BYTES frame) content (record {
      short =
          subst (λ (l : List ℕ). length l ≤ MAX_RECORD_BODY) (sym is) short;
      sound = sound;
      spelled = is;
    })
