-- A whole text is read.
use Rattle.std.proofs.Common.{◌≡◌, ℕ, ◌<◌, true, List, [], ◌∷◌, length, Ok, refl, subst, ◌∙◌, arith}
use Rattle.std.specs.List.{AllByRecursion}
use Rattle.st_lex.specs.declared.keyword.Keyword.TheVariants as w
use Rattle.st_types.specs.Declarations.{TypeDeclaration}
use Rattle.st_types.specs.Units.{OrganisationUnit}
use Rattle.st_types.specs.Configurations.{Configuration}
use Rattle.st_types.specs.Sources.{LibraryElement, Source}
use Rattle.st_types.specs.Sources as e
use Rattle.st_parse.specs.Tokens.{Tokens, next, Is, keyword, is_keyword, same_keyword}
use Rattle.st_parse.proofs.Complete.{keyword_head}
use Rattle.st_parse.specs.Types.{IsTypes, block as types_block}
use Rattle.st_parse.specs.Units.{IsUnit}
use Rattle.st_parse.specs.Units as u
use Rattle.st_parse.specs.Configurations.{IsConfiguration}
use Rattle.st_parse.specs.Configurations as c
use Rattle.st_parse.specs.Sources.{IsLibraryElement, IsSource}
use Rattle.st_parse.specs.Sources as s
use Rattle.st_parse.specs.Depths.{TypeWithin, UnitWithin, ConfigurationWithin, ElementWithin, SourceWithin}
use Rattle.st_parse.specs.SourceReading.{types_element_at, function_element_at, block_element_at, program_element_at}
use Rattle.st_parse.specs.SourceReading.{configuration_element_at, element_by, element_at, is_token, source_at}
use Rattle.st_parse.proofs.CompleteParts.{many_complete, by_keyword_complete}
use Rattle.st_parse.proofs.CompleteTypes.{types_complete}
use Rattle.st_parse.proofs.CompleteUnits.{function_complete, block_unit_complete, program_complete}
use Rattle.st_parse.proofs.CompleteConfigurations.{configuration_complete}
use Rattle.st_parse.proofs.Shorter.{element_less}

some_token : (ts us : Tokens) → length us < length ts → next is_token ts ≡ true
some_token [] us short = absurd (omega arith)
some_token (t ∷ ts) us short = refl

module _ (depth : ℕ) where
  types_word : {ts us : Tokens} {xs : List TypeDeclaration} → IsTypes ts xs us
      → element_at depth ts ≡ types_element_at depth ts
  unfolding element_at
  types_word (types_block b i e) = by_keyword_complete (element_by depth) w.Type b.1

  configuration_word : {ts us : Tokens} {x : Configuration} → IsConfiguration ts x us
      → element_at depth ts ≡ configuration_element_at depth ts
  unfolding element_at
  configuration_word (c.configuration x gs rs k n g r e q) = by_keyword_complete (element_by depth) w.Configuration k.1

  function_word : {ts us : Tokens} {at : ℕ} → Is (keyword w.Function) ts at us
      → (element_at depth ts ≡ function_element_at depth ts) × (next (is_keyword w.Function) ts ≡ true)
  unfolding element_at same_keyword
  function_word k =
      (by_keyword_complete (element_by depth) w.Function k, keyword_head w.Function (is_keyword w.Function) k)

  block_word : {ts us : Tokens} {at : ℕ} → Is (keyword w.FunctionBlock) ts at us
      → (element_at depth ts ≡ block_element_at depth ts) × (next (is_keyword w.FunctionBlock) ts ≡ true)
  unfolding element_at same_keyword
  block_word k = (
    by_keyword_complete (element_by depth) w.FunctionBlock k,
    keyword_head w.FunctionBlock (is_keyword w.FunctionBlock) k,
  )

  program_word : {ts us : Tokens} {at : ℕ} → Is (keyword w.Program) ts at us
      → (element_at depth ts ≡ program_element_at depth ts) × (next (is_keyword w.Program) ts ≡ true)
  unfolding element_at same_keyword
  program_word k = (by_keyword_complete (element_by depth) w.Program k, keyword_head w.Program (is_keyword w.Program) k)

  unit_complete : {ts us : Tokens} {x : OrganisationUnit} → IsUnit ts x us → UnitWithin depth x
      → element_at depth ts ≡ Ok (e.unit x, us)
  unfolding function_element_at block_element_at program_element_at
  unit_complete (u.function x r bs body k n c e b i f q) low = let word = function_word k.1 in
      word.0 ∙ rw (function_complete depth (u.function x r bs body k n c e b i f q) low word.1) refl
  unit_complete (u.function_block x bs body k n b i f q) low = let word = block_word k.1 in
      word.0 ∙ rw (block_unit_complete depth (u.function_block x bs body k n b i f q) low word.1) refl
  unit_complete (u.program x bs body k n b i f q) low = let word = program_word k.1 in
      word.0 ∙ rw (program_complete depth (u.program x bs body k n b i f q) low word.1) refl

  element_complete : {ts us : Tokens} {x : LibraryElement} → IsLibraryElement ts x us → ElementWithin depth x
      → element_at depth ts ≡ Ok (x, us)
  unfolding types_element_at configuration_element_at
  element_complete (s.types xs i q) low =
      let low' : AllByRecursion (TypeWithin depth) xs = subst (λ (z : LibraryElement). ElementWithin depth z) q low in
      types_word i ∙ rw (types_complete depth i low', q) refl
  element_complete (s.unit x i q) low =
      let low' : UnitWithin depth x = subst (λ (z : LibraryElement). ElementWithin depth z) q low in
      rw q (unit_complete i low')
  element_complete (s.configuration x i q) low =
      let low' : ConfigurationWithin depth x = subst (λ (z : LibraryElement). ElementWithin depth z) q low in
      configuration_word i ∙ rw (configuration_complete depth i low', q) refl

  pub source_complete : {ts : Tokens} {x : Source} → IsSource ts x → SourceWithin depth x
      → source_at depth ts ≡ Ok (x, [])
  unfolding source_at
  source_complete i low =
      many_complete is_token (element_at depth) IsLibraryElement (ElementWithin depth)
      (λ ts x us o l. element_complete o l) (λ ts x us o. some_token ts us (element_less ts x us o))
      element_less i low refl
