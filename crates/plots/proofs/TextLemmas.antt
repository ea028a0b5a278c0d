-- Escaped text is harmless, and grows byte by byte.
use Rattle.std.proofs.Common.{◌≡◌, ◌∙◌, ap, sym, refl, ℕ, ◌+◌, ◌<◌, List, [], ◌∷◌, ◌++◌, length, drop, get_or}
use Rattle.std.proofs.Common.{true, false, Bool, ◌&&◌, ◌==◌, nat_lt, Option, Some, None, if◌then◌else◌}
use Rattle.std.specs.Prelude.{codes}
use Rattle.std.specs.List.{list_all}
use Rattle.std.specs.Io.KnownBytes.{Appends}
use Rattle.std.proofs.lemmas.List.{append_assoc, drop_more}
use Rattle.std.proofs.lemmas.List.Folds.{list_all-append}
use Rattle.plots.specs.Texts.{escaped, escaped_byte, is_harmless}

-- a byte, case by case
by_cases : (byte : ℕ) (amp lt gt quot apos low : Bool) → (byte == 60) ≡ lt → (byte == 62) ≡ gt → (byte == 34) ≡ quot
    → (byte == 39) ≡ apos → nat_lt byte 32 ≡ low → list_all is_harmless
    (if amp then codes "&amp;" else (if lt then codes "&lt;" else (if gt then codes "&gt;" else
    (if quot then codes "&quot;" else (if apos then codes "&apos;" else (if low then codes "?" else byte ∷ []))))))
    ≡ true
by_cases byte true lt gt quot apos low l g q a c = refl
by_cases byte false true gt quot apos low l g q a c = refl
by_cases byte false false true quot apos low l g q a c = refl
by_cases byte false false false true apos low l g q a c = refl
by_cases byte false false false false true low l g q a c = refl
by_cases byte false false false false false true l g q a c = refl
by_cases byte false false false false false false l g q a c = rw (l, g, q, a, c) refl

byte_harmless : (byte : ℕ) → list_all is_harmless (escaped_byte byte) ≡ true
byte_harmless byte = by_cases byte (byte == 38) (byte == 60) (byte == 62) (byte == 34) (byte == 39) (nat_lt byte 32)
    refl refl refl refl refl

pub all_harmless : (bytes : List ℕ) → list_all is_harmless (escaped bytes) ≡ true
all_harmless [] = refl
all_harmless (byte ∷ bytes) = list_all-append is_harmless (escaped_byte byte) (escaped bytes)
    ∙ ap (λ b. b && list_all is_harmless (escaped bytes)) (byte_harmless byte) ∙ all_harmless bytes

-- the escaped text grows by that of its next byte
pub more_escaped : (bytes : List ℕ) (i : ℕ) (before : List ℕ) → i < length bytes
    → before ++ escaped (drop i bytes) ≡ escaped bytes
    → (before ++ escaped_byte (get_or bytes i 0)) ++ escaped (drop (i + 1) bytes) ≡ escaped bytes
more_escaped bytes i before small so_far =
    append_assoc before (escaped_byte (get_or bytes i 0)) (escaped (drop (i + 1) bytes))
    ∙ ap (λ z. before ++ z) (sym (ap escaped (drop_more bytes i 0 small)))
    ∙ so_far
