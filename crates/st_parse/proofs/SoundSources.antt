-- A part that is read as a whole text is one, and the tokens before a refusal begin one.
use Rattle.std.proofs.Common.{◌≡◌, ℕ, ◌+◌, false, [], ◌∷◌, refl}
use Rattle.st_lex.specs.declared.token.Token.{Token}
use Rattle.st_lex.specs.declared.token.TokenKind.{TokenKind}
use Rattle.st_lex.specs.declared.token.TokenKind.TheVariants.{Keyword}
use Rattle.st_lex.specs.declared.keyword.Keyword.TheVariants as w
use Rattle.st_types.specs.Sources.{LibraryElement, Source}
use Rattle.st_types.specs.Sources as e
use Rattle.st_parse.specs.Tokens.{Tokens, next}
use Rattle.st_parse.specs.Laws.{IsPrefix}
use Rattle.st_parse.proofs.Sound.{Told, Seq, Made, made, told_refuse, told_by_kind}
use Rattle.st_parse.proofs.SoundReadings.{Sound, told_by, sound_then, sound_pure, sound_as}
use Rattle.st_parse.specs.Lists.{Many}
use Rattle.st_parse.specs.Types.{IsTypes}
use Rattle.st_parse.specs.Units.{IsUnit}
use Rattle.st_parse.specs.Configurations.{IsConfiguration}
use Rattle.st_parse.specs.Sources.{IsLibraryElement}
use Rattle.st_parse.specs.Sources as s
use Rattle.st_parse.specs.Depths.{ElementWithin, SourceWithin}
use Rattle.st_parse.specs.SourceReading.{types_element_at, function_element_at, block_element_at, program_element_at}
use Rattle.st_parse.specs.SourceReading.{configuration_element_at, element_by, element_at, is_token, source_at}
use Rattle.st_parse.proofs.SoundParts.{sound_many}
use Rattle.st_parse.proofs.Shorter.{element_less}
use Rattle.st_parse.proofs.SoundTypes.{sound_types}
use Rattle.st_parse.proofs.SoundUnits.{sound_function, sound_block_unit, sound_program}
use Rattle.st_parse.proofs.SoundConfigurations.{sound_configuration}

is_types : (ts : Tokens) (x : LibraryElement) (us : Tokens) → Seq IsTypes (λ xs. Made (e.types xs)) ts x us
    → IsLibraryElement ts x us
is_types ts x us (xs, vs, i, made eq) = s.types xs i eq

is_unit : (ts : Tokens) (x : LibraryElement) (us : Tokens) → Seq IsUnit (λ u. Made (e.unit u)) ts x us
    → IsLibraryElement ts x us
is_unit ts x us (u, vs, i, made eq) = s.unit u i eq

is_configuration : (ts : Tokens) (x : LibraryElement) (us : Tokens)
    → Seq IsConfiguration (λ c. Made (e.configuration c)) ts x us → IsLibraryElement ts x us
is_configuration ts x us (c, vs, i, made eq) = s.configuration c i eq

module _ (depth : ℕ) where
  sound_types_element : {C : Type 0}
      → Sound C (λ n. types_element_at (depth + n)) IsLibraryElement (λ x us. ElementWithin depth x)
  unfolding types_element_at
  sound_types_element = sound_as is_types (λ x us d. d)
      (sound_then (sound_types depth) (λ xs. sound_pure (e.types xs) (λ x us. ElementWithin depth x) (λ c us. c.1.1)))

  sound_function_element : {C : Type 0}
      → Sound C (λ n. function_element_at (depth + n)) IsLibraryElement (λ x us. ElementWithin depth x)
  unfolding function_element_at
  sound_function_element = sound_as is_unit (λ x us d. d)
      (sound_then (sound_function depth) (λ u. sound_pure (e.unit u) (λ x us. ElementWithin depth x) (λ c us. c.1.1)))

  sound_block_element : {C : Type 0}
      → Sound C (λ n. block_element_at (depth + n)) IsLibraryElement (λ x us. ElementWithin depth x)
  unfolding block_element_at
  sound_block_element = sound_as is_unit (λ x us d. d)
      (sound_then (sound_block_unit depth) (λ u. sound_pure (e.unit u) (λ x us. ElementWithin depth x) (λ c us. c.1.1)))

  sound_program_element : {C : Type 0}
      → Sound C (λ n. program_element_at (depth + n)) IsLibraryElement (λ x us. ElementWithin depth x)
  unfolding program_element_at
  sound_program_element = sound_as is_unit (λ x us d. d)
      (sound_then (sound_program depth) (λ u. sound_pure (e.unit u) (λ x us. ElementWithin depth x) (λ c us. c.1.1)))

  sound_configuration_element : {C : Type 0}
      → Sound C (λ n. configuration_element_at (depth + n)) IsLibraryElement (λ x us. ElementWithin depth x)
  unfolding configuration_element_at
  sound_configuration_element = sound_as is_configuration (λ x us d. d) (sound_then (sound_configuration depth)
      (λ c. sound_pure (e.configuration c) (λ x us. ElementWithin depth x) (λ c us. c.1.1)))

  element_begins : IsPrefix IsLibraryElement []
  element_begins = (sound_types_element {C = Unit {0}}).begins

  told_element_by : (t : Token) (ts : Tokens) (k : TokenKind) → t.kind ≡ k → Told (λ n. element_by (depth + n) k)
      IsLibraryElement (λ x us. ElementWithin depth x) (t ∷ ts) (element_by (depth + 0) k (t ∷ ts))
  told_element_by t ts (Keyword w.Type) eq = told_by sound_types_element (t ∷ ts)
  told_element_by t ts (Keyword w.Function) eq = told_by sound_function_element (t ∷ ts)
  told_element_by t ts (Keyword w.FunctionBlock) eq = told_by sound_block_element (t ∷ ts)
  told_element_by t ts (Keyword w.Program) eq = told_by sound_program_element (t ∷ ts)
  told_element_by t ts (Keyword w.Configuration) eq = told_by sound_configuration_element (t ∷ ts)
  told_element_by t ts k eq = told_refuse (λ n. element_by (depth + n) k) IsLibraryElement
      (λ x us. ElementWithin depth x) (t ∷ ts) element_begins (λ n more same. refl)

  sound_element : {C : Type 0} → Sound C (λ n. element_at (depth + n)) IsLibraryElement (λ x us. ElementWithin depth x)
  unfolding element_at
  sound_element = record {
    begins = element_begins;
    tells = λ c. told_by_kind (λ n. element_by (depth + n)) IsLibraryElement
        (λ x us. ElementWithin depth x) element_begins (λ t ts. told_element_by t ts t.kind refl);
  }

  pub sound_source : {C : Type 0} → Sound C (λ n. source_at (depth + n)) (Many IsLibraryElement)
      (λ xs us. SourceWithin depth xs × (next is_token us ≡ false))
  unfolding source_at
  sound_source =
      sound_many is_token (λ n. element_at (depth + n)) IsLibraryElement (ElementWithin depth) element_less
      sound_element
