-- If a text is refused no text begins with its tokens: from sound and complete readings to the answers of parsing.
use Rattle.std.proofs.Common.{◌≡◌, ℕ, ◌+◌, ◌-◌, false, [], ◌∷◌, ◌++◌, length, drop, Ok, Err, refl, sym, ap, subst, ◌∙◌}
use Rattle.std.proofs.Common.{arith}
use Rattle.std.proofs.lemmas.List.{append-nil, length-append}
use Rattle.std.proofs.Math.Seq.{drop-append_seam}
use Rattle.st_types.specs.declared.limits.TheConstants.{MAX_DEPTH}
use Rattle.st_types.specs.Sources.{Source}
use Rattle.st_parse.specs.declared.fault.Refusal.{Refusal}
use Rattle.st_parse.specs.declared.fault.Refusal.TheVariants.{Unexpected, Deep}
use Rattle.st_parse.specs.Tokens.{Tokens, next}
use Rattle.st_parse.specs.declared.fault.ReadError.{ReadError}
use Rattle.st_parse.specs.declared.fault.ReadError.TheVariants as errors
use Rattle.st_parse.specs.Parsers.{Outcome, Fails}
use Rattle.st_parse.specs.Laws.{IsPrefix}
use Rattle.st_parse.proofs.Sound.{Told, Kept, Lost, Sunk}
use Rattle.st_parse.proofs.SoundReadings.{told_by}
use Rattle.st_parse.specs.Lists.{Many}
use Rattle.st_parse.specs.Sources.{IsLibraryElement, IsSource}
use Rattle.st_parse.specs.Depths.{SourceWithin}
use Rattle.st_parse.specs.Places.{end_of, start_of, place_left, parse_error}
use Rattle.st_parse.specs.Answers.{place_after, BeginsSource, IsUnexpectedAt, IsTooDeepSource, Refused, Answers}
use Rattle.st_parse.specs.SourceReading.{is_token, source_at}
use Rattle.st_parse.proofs.SoundSources.{sound_source}
use Rattle.st_parse.proofs.CompleteSources.{source_complete}
use Rattle.st_parse.proofs.Bounds.{bounded_source}

begun : (front : Tokens) → IsPrefix (Many IsLibraryElement) front → BeginsSource front
begun front b = record { more = b.more ++ []; source = b.tree; whole = b.whole [] }

told : (ts : Tokens) → Told (λ n. source_at (MAX_DEPTH + n)) (Many IsLibraryElement)
    (λ xs us. SourceWithin MAX_DEPTH xs × (next is_token us ≡ false)) ts (source_at (MAX_DEPTH + 0) ts)
told = told_by (sound_source MAX_DEPTH)

no_tokens : (us : Tokens) → next is_token us ≡ false → us ≡ []
no_tokens [] eq = refl
no_tokens (t ∷ us) eq = absurd cc

kept_source : (ts us : Tokens) (x : Source) → Kept (λ n. source_at (MAX_DEPTH + n)) (Many IsLibraryElement)
    (λ xs us. SourceWithin MAX_DEPTH xs × (next is_token us ≡ false)) ts x us → IsSource ts x × SourceWithin MAX_DEPTH x
kept_source ts us x k =
    let none = no_tokens us k.low.1 in
    let parts : ts ≡ k.front ++ [] = k.parts ∙ ap (λ (vs : Tokens). k.front ++ vs) none in
    (subst (λ (zs : Tokens). IsSource zs x) (sym parts) (k.is []), k.low.0)

lost_place : (ts : Tokens) (n : ℕ) → Lost (λ k. source_at (MAX_DEPTH + k)) (Many IsLibraryElement) ts n
    → (front : Tokens) × (rest : Tokens) × (ts ≡ front ++ rest) × (length rest ≡ n)
    × IsUnexpectedAt ts (place_after front rest)
lost_place ts n l = (
  l.front,
  l.rest,
  l.parts,
  l.count,
  record {
    front = l.front;
    rest = l.rest;
    parts = l.parts;
    here = refl;
    begins = begun l.front l.begun;
    none = λ more source same i.
        let b = bounded_source.bound source in
        let low = bounded_source.deeper b.0 (MAX_DEPTH + b.0) source (omega arith) b.1 in
        let read = source_complete (MAX_DEPTH + b.0) i low in
        let refused = l.again b.0 more same in
        absurd cc;
  },
)

sunk_deep : (ts : Tokens) → Sunk (λ k. source_at (MAX_DEPTH + k)) (Many IsLibraryElement) ts → IsTooDeepSource ts
sunk_deep ts l = record {
  front = l.front;
  rest = l.rest;
  parts = l.parts;
  begins = begun l.front l.begun;
  none = λ more source i low. let read = source_complete MAX_DEPTH i low in let refused = l.again more in absurd cc;
}

told_as : (ts : Tokens) (r : Outcome Source) → source_at MAX_DEPTH ts ≡ r → Told (λ n. source_at (MAX_DEPTH + n))
    (Many IsLibraryElement) (λ xs us. SourceWithin MAX_DEPTH xs × (next is_token us ≡ false)) ts r
told_as ts r eq = subst (λ (z : Outcome Source). Told (λ n. source_at (MAX_DEPTH + n)) (Many IsLibraryElement)
    (λ xs us. SourceWithin MAX_DEPTH xs × (next is_token us ≡ false)) ts z) eq (told ts)

pub found_source : (ts us : Tokens) (x : Source) → source_at MAX_DEPTH ts ≡ Ok (x, us)
    → IsSource ts x × SourceWithin MAX_DEPTH x
found_source ts us x eq = kept_source ts us x (told_as ts (Ok (x, us)) eq)

pub unexpected : (ts : Tokens) (n : ℕ) → source_at MAX_DEPTH ts ≡ Err (Unexpected n) → (front : Tokens)
    × (rest : Tokens) × (ts ≡ front ++ rest) × (length rest ≡ n) × IsUnexpectedAt ts (place_after front rest)
unexpected ts n eq = lost_place ts n (told_as ts (Err (Unexpected n)) eq)

pub deep_source : (ts : Tokens) → source_at MAX_DEPTH ts ≡ Err Deep → IsTooDeepSource ts
deep_source ts eq = sunk_deep ts (told_as ts (Err Deep) eq)

pub only_ok : (ts us : Tokens) (x source : Source) → source_at MAX_DEPTH ts ≡ Ok (x, us) → IsSource ts source
    → SourceWithin MAX_DEPTH source → x ≡ source
only_ok ts us x source eq i low =
    let read = source_complete MAX_DEPTH i low in let both : (x, us) ≡ (source, []) = cc in
    ap (λ (p : Source × Tokens). p.0) both

-- tokens have one source, at any depth
pub one_source : (ts : Tokens) (this that : Source) → IsSource ts this → IsSource ts that → this ≡ that
one_source ts this that i j =
    let a = bounded_source.bound this in
    let b = bounded_source.bound that in
    let x = source_complete (a.0 + b.0) i (bounded_source.deeper a.0 (a.0 + b.0) this (omega arith) a.1) in
    let y = source_complete (a.0 + b.0) j (bounded_source.deeper b.0 (a.0 + b.0) that (omega arith) b.1) in
    let both : (this, []) ≡ (that, []) = cc in
    ap (λ (p : Source × Tokens). p.0) both

pub never_refused : (ts : Tokens) (r : Refusal) (source : Source) → source_at MAX_DEPTH ts ≡ Err r → IsSource ts source
    → SourceWithin MAX_DEPTH source → ⊥
never_refused ts r source eq i low = let read = source_complete MAX_DEPTH i low in absurd cc

-- ---- places

rest_is : (front rest : Tokens) → drop (length (front ++ rest) - length rest) (front ++ rest) ≡ rest
rest_is front rest =
    let sum = length-append front rest in
    let at : length (front ++ rest) - length rest ≡ length front = omega arith in
    ap (λ (k : ℕ). drop k (front ++ rest)) at ∙ drop-append_seam front rest

start_is : (front rest : Tokens) → start_of (end_of 0 (front ++ rest)) rest ≡ place_after front rest
start_is front [] = ap (λ (ts : Tokens). end_of 0 ts) (append-nil front)
start_is front (t ∷ rest) = refl

place_is : (ts front rest : Tokens) (n : ℕ) → ts ≡ front ++ rest → length rest ≡ n
    → place_left ts n ≡ place_after front rest
place_is ts front rest n parts count = rw (parts, sym count)
    (ap (λ (us : Tokens). start_of (end_of 0 (front ++ rest)) us) (rest_is front rest) ∙ start_is front rest)

-- ---- answers

pub error_told : (ts : Tokens) (e : ReadError) → Fails e (source_at MAX_DEPTH ts) → Refused ts (parse_error ts e)
error_told ts errors.Memory f = tt
error_told ts (errors.Refused Deep) f = deep_source ts f
error_told ts (errors.Refused (Unexpected n)) f =
    let l = unexpected ts n f in
    subst (λ (place : ℕ). IsUnexpectedAt ts place) (sym (place_is ts l.0 l.1 n l.2 l.3)) l.4

pub error_only : (ts : Tokens) (e : ReadError) (source : Source) → Fails e (source_at MAX_DEPTH ts) → IsSource ts source
    → SourceWithin MAX_DEPTH source → Answers source (Err (parse_error ts e))
error_only ts errors.Memory source f i low = tt
error_only ts (errors.Refused Deep) source f i low = never_refused ts Deep source f i low
error_only ts (errors.Refused (Unexpected n)) source f i low = never_refused ts (Unexpected n) source f i low
