-- Text within a picture.
use Rattle.std.specs.Prelude.{ℕ, List, [], ◌∷◌, ◌++◌, Bool, ◌==◌, ◌&&◌, not, nat_lt, codes, if◌then◌else◌}

-- A byte as XML spells it in text: a reference for one that would begin markup or end a quoted text, and a question mark for
-- one that XML doesn't allow.
abbrev pub escaped_byte : ℕ → List ℕ
escaped_byte byte =
    if byte == 38 then codes "&amp;" else
    (if byte == 60 then codes "&lt;" else
    (if byte == 62 then codes "&gt;" else
    (if byte == 34 then codes "&quot;" else
    (if byte == 39 then codes "&apos;" else
    (if nat_lt byte 32 then codes "?" else byte ∷ [])))))

abbrev pub escaped : List ℕ → List ℕ
escaped [] = []
escaped (byte ∷ bytes) = escaped_byte byte ++ escaped bytes

-- whether a byte begins and ends no tag, ends no quoted text, and is allowed in XML
abbrev pub is_harmless : ℕ → Bool
is_harmless byte =
    not (byte == 60) && (not (byte == 62) && (not (byte == 34) && (not (byte == 39) && not (nat_lt byte 32))))
