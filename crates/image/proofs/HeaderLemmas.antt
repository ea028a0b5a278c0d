-- The names in a header, column by column.
use Rattle.std.proofs.Common.{◌≡◌, ◌∙◌, sym, refl, ap, ℕ, suc, zero, ◌+◌, ◌<◌, List, [], ◌∷◌, length, take, map, get_or}
use Rattle.std.proofs.Common.{Some, option_map, codes, arith}
use Rattle.std.specs.Char.{to_ascii_lowercase}
use Rattle.csv.specs.Records.{field_at}
use Rattle.st_meaning.specs.declared.plan.PlanInput.{PlanInput}
use Rattle.image.specs.Plants.{Fields, columns, without_case, IsHeader}
use Rattle.image.proofs.FieldLemmas.{field_at-map, field_at-cons, field_at-first, take_same}

name_at : (is : List PlanInput) (i : ℕ) (input : PlanInput) → i < length is → input ≡ get_or is i input
    → field_at (map (map to_ascii_lowercase) (map (λ x. x.path.name) is)) i
    ≡ Some (map to_ascii_lowercase input.path.name)
unfolding field_at
name_at [] i input less at = absurd (omega arith)
name_at (x ∷ is) zero input less at = rw at refl
name_at (x ∷ is) (suc i) input less at = name_at is i input (omega arith) at

column_at : (is : List PlanInput) (i : ℕ) (input : PlanInput) → i < length is → input ≡ get_or is i input
    → field_at (without_case (columns is)) (i + 1) ≡ Some (map to_ascii_lowercase input.path.name)
column_at is i input less at = field_at-cons _ (map (map to_ascii_lowercase) (map (λ x. x.path.name) is)) i
    ∙ name_at is i input less at

-- the fields of a header in its first column, and in that of an input
pub header_first : (is : List PlanInput) (fields : Fields) → IsHeader is fields
    → option_map (map to_ascii_lowercase) (field_at fields 0) ≡ Some (map to_ascii_lowercase (codes "t"))
header_first is fields h = sym (field_at-map (map to_ascii_lowercase) fields 0)
    ∙ (ap (λ fs. field_at fs 0) h ∙ field_at-first _ _)

pub header_at : (is : List PlanInput) (fields : Fields) (i : ℕ) (input : PlanInput) → i < length is
    → input ≡ get_or is i input → IsHeader is fields
    → option_map (map to_ascii_lowercase) (field_at fields (i + 1)) ≡ Some (map to_ascii_lowercase input.path.name)
header_at is fields i input less at h = sym (field_at-map (map to_ascii_lowercase) fields (i + 1))
    ∙ (ap (λ fs. field_at fs (i + 1)) h ∙ column_at is i input less at)

-- the same names so far, and one more
pub header_begins : (is : List PlanInput) (fields : Fields)
    → option_map (map to_ascii_lowercase) (field_at fields 0) ≡ Some (map to_ascii_lowercase (codes "t"))
    → take 1 (without_case fields) ≡ take 1 (without_case (columns is))
header_begins is fields e = take_same (without_case fields) (without_case (columns is)) 0 _ refl
    (field_at-map (map to_ascii_lowercase) fields 0 ∙ e) (field_at-first _ _)

pub header_more : (is : List PlanInput) (fields : Fields) (i : ℕ) (input : PlanInput) → i < length is
    → input ≡ get_or is i input
    → take (i + 1) (without_case fields) ≡ take (i + 1) (without_case (columns is))
    → option_map (map to_ascii_lowercase) (field_at fields (i + 1)) ≡ Some (map to_ascii_lowercase input.path.name)
    → take (i + 1 + 1) (without_case fields) ≡ take (i + 1 + 1) (without_case (columns is))
header_more is fields i input less at same e = take_same (without_case fields) (without_case (columns is)) (i + 1) _
    same (field_at-map (map to_ascii_lowercase) fields (i + 1) ∙ e) (column_at is i input less at)
