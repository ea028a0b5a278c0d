-- Types by their indices in the table of types.
use Rattle.std.proofs.Common.{◌≡◌, ℕ, ◌==◌, true, ◌&&◌, if◌then◌else◌, refl, sym, ◌∙◌, arith}
use Rattle.std.proofs.lemmas.Bool.Decides.{nat_tests}
use Rattle.std.proofs.lemmas.Bool.{and_parts}
use Rattle.st_types.specs.declared.kind.Kind.{Kind}
use Rattle.st_types.specs.declared.kind.Kind.TheVariants.{Sint, Int, Dint, Lint, Usint, Uint, Udint, Ulint, Byte, Word}
use Rattle.st_types.specs.declared.kind.Kind.TheVariants.{Dword, Lword, Time, Bool as Boolean, Enumerated}
use Rattle.st_types.specs.Kinds.{kind_index, names_in, number_of_type, same_kind}
use Rattle.st_types.proofs.TestLemmas.{equal_numbers}

-- the type at an index of the table, with a number of names and this number
kind_of_index : ℕ → ℕ → ℕ → Kind
kind_of_index n names number =
    if n == 0 then Sint else if n == 1 then Int else if n == 2 then Dint else if n == 3 then Lint
    else if n == 4 then Usint
    else if n == 5 then Uint else if n == 6 then Udint else if n == 7 then Ulint else if n == 8 then Byte
    else if n == 9 then Word
    else if n == 10 then Dword else if n == 11 then Lword else if n == 12 then Time else if n == 13 then Boolean
    else Enumerated names number

again : Kind → Kind
again k = kind_of_index (kind_index k) (names_in k) (number_of_type k)

again_is : (k : Kind) → again k ≡ k
unfolding kind_of_index again
again_is Sint = refl
again_is Int = refl
again_is Dint = refl
again_is Lint = refl
again_is Usint = refl
again_is Uint = refl
again_is Udint = refl
again_is Ulint = refl
again_is Byte = refl
again_is Word = refl
again_is Dword = refl
again_is Lword = refl
again_is Time = refl
again_is Boolean = refl
again_is (Enumerated names number) = refl

-- a type is known by its index, its names and its number
pub same_kind_is : (k l : Kind) → same_kind k l ≡ true → k ≡ l
unfolding again
same_kind_is k l h =
    let a = and_parts (kind_index k == kind_index l) ((names_in k == names_in l) && (number_of_type k == number_of_type l)) h in
    let b = and_parts (names_in k == names_in l) (number_of_type k == number_of_type l) a.1 in
    sym (again_is k)
    ∙ rw (
      equal_numbers (kind_index k) (kind_index l) a.0,
      equal_numbers (names_in k) (names_in l) b.0,
      equal_numbers (number_of_type k) (number_of_type l) b.1,
    ) refl
    ∙ again_is l

pub same_kind-refl : (k : Kind) → same_kind k k ≡ true
same_kind-refl k = grind (arith, nat_tests)
