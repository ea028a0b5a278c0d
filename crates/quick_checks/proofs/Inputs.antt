-- Values that were read.
use Rattle.std.proofs.Common.{◌≡◌, ◌∙◌, ℕ, List, map, ap}
use Rattle.std.specs.Prelude.{Some, slice_get, option_map}
use Rattle.std.proofs.lemmas.Option.{slice_get-map}
use Rattle.st_types.specs.Values.{Datum}
use Rattle.quick_checks.specs.declared.constants.Reading.{Reading}
use Rattle.quick_checks.specs.Checking.{kinds_read, words_read}

pub kind_read : (rs : List Reading) (i : ℕ) (r : Reading) → slice_get rs i ≡ Some r
    → slice_get (kinds_read rs) i ≡ Some r.kind
kind_read rs i r e = slice_get-map (λ (x : Reading). x.kind) rs i ∙ ap (option_map (λ (x : Reading). x.kind)) e

pub word_read : (rs : List Reading) (i : ℕ) (r : Reading) → slice_get rs i ≡ Some r
    → slice_get (words_read rs) i ≡ Some r.word
word_read rs i r e = slice_get-map (λ (x : Reading). x.word) rs i ∙ ap (option_map (λ (x : Reading). x.word)) e

pub kind_there : (vs : List Datum) (k : ℕ) (v : Datum) → slice_get vs k ≡ Some v
    → slice_get (map (λ (x : Datum). x.kind) vs) k ≡ Some v.kind
kind_there vs k v e = slice_get-map (λ (x : Datum). x.kind) vs k ∙ ap (option_map (λ (x : Datum). x.kind)) e
