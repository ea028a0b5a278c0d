-- The externals of a unit by their names.
use Rattle.std.proofs.Common.{◌≡◌, Bool, true, false, ◌||◌, ◌⊎◌, inl, inr, if◌then◌else◌, List, [], ◌∷◌}
use Rattle.std.proofs.Common.{◌++◌, refl, sym, ◌∙◌}
use Rattle.std.specs.Prelude.{bytes_eq}
use Rattle.st_types.specs.declared.identifier.Identifier.{Identifier}
use Rattle.st_types.specs.Declarations.{Declaration, VariableBlock}
use Rattle.st_meaning.specs.Bodies.{is_external, names_of, declared_names, externals_in}
use Rattle.st_meaning.specs.Scopes.{Name, contains_name}
use Rattle.st_link.proofs.Among.{Among, here, later}
use Rattle.layout.proofs.ListLemmas.{same_name}
use Rattle.std.proofs.lemmas.List.Folds.{list_any-append}
use Rattle.std.proofs.lemmas.Bool.{or_cases}

-- an external of a unit
pub record ExternalIn (bs : List VariableBlock) (x : Name) : Type 0 where
  pub block : VariableBlock
  pub there : Among block bs
  pub external : is_external block.section ≡ true
  pub declaration : Declaration
  pub among : Among declaration block.declarations
  pub one : Identifier
  pub name : Among one declaration.names
  pub named : x ≡ one.name

record NameIn (ds : List Declaration) (x : Name) : Type 0 where
  pub declaration : Declaration
  pub among : Among declaration ds
  pub one : Identifier
  pub name : Among one declaration.names
  pub named : x ≡ one.name

record OneOf (xs : List Identifier) (x : Name) : Type 0 where
  pub one : Identifier
  pub name : Among one xs
  pub named : x ≡ one.name

one_of : (xs : List Identifier) (x : Name) → contains_name (names_of xs) x ≡ true → OneOf xs x
one_of [] x h = absurd (cc)
one_of (y ∷ xs) x h = by_test (bytes_eq x y.name) refl h (λ k. one_of xs x k)
  where
    by_test : (b : Bool) → bytes_eq x y.name ≡ b → (b || contains_name (names_of xs) x) ≡ true
        → (contains_name (names_of xs) x ≡ true → OneOf xs x) → OneOf (y ∷ xs) x
    by_test true e k f = record { one = y; name = here; named = same_name x y.name e }
    by_test false e k f = let rest = f k in record { one = rest.one; name = later rest.name; named = rest.named }

name_in : (ds : List Declaration) (x : Name) → contains_name (declared_names ds) x ≡ true → NameIn ds x
name_in [] x h = absurd (cc)
name_in (d ∷ ds) x h =
    here_or_later
    (or_cases (contains_name (names_of d.names) x) (contains_name (declared_names ds) x)
    (sym (list_any-append (λ y. bytes_eq x y) (names_of d.names) (declared_names ds)) ∙ h)) (λ k. name_in ds x k)
  where
    here_or_later : (contains_name (names_of d.names) x ≡ true) ⊎ (contains_name (declared_names ds) x ≡ true)
        → (contains_name (declared_names ds) x ≡ true → NameIn ds x) → NameIn (d ∷ ds) x
    here_or_later (inl k) f =
        let o = one_of d.names x k in
        record { declaration = d; among = here; one = o.one; name = o.name; named = o.named }
    here_or_later (inr k) f =
        let rest = f k in
        record {
          declaration = rest.declaration;
          among = later rest.among;
          one = rest.one;
          name = rest.name;
          named = rest.named;
        }

external_later : (b : VariableBlock) (bs : List VariableBlock) (x : Name) → ExternalIn bs x → ExternalIn (b ∷ bs) x
external_later b bs x h = record {
  block = h.block;
  there = later h.there;
  external = h.external;
  declaration = h.declaration;
  among = h.among;
  one = h.one;
  name = h.name;
  named = h.named;
}

pub external_in : (bs : List VariableBlock) (x : Name) → contains_name (externals_in bs) x ≡ true → ExternalIn bs x
external_in [] x h = absurd (cc)
external_in (b ∷ bs) x h = by_test (is_external b.section) refl h (λ k. external_in bs x k)
  where
    here_or_later : is_external b.section ≡ true
        → (contains_name (declared_names b.declarations) x ≡ true) ⊎ (contains_name (externals_in bs) x ≡ true)
        → (contains_name (externals_in bs) x ≡ true → ExternalIn bs x) → ExternalIn (b ∷ bs) x
    here_or_later e (inl k) f =
        let n = name_in b.declarations x k in
        record {
          block = b;
          there = here;
          external = e;
          declaration = n.declaration;
          among = n.among;
          one = n.one;
          name = n.name;
          named = n.named;
        }
    here_or_later e (inr k) f = external_later b bs x (f k)

    by_test : (c : Bool) → is_external b.section ≡ c
        → contains_name (if c then declared_names b.declarations ++ externals_in bs else externals_in bs) x ≡ true
        → (contains_name (externals_in bs) x ≡ true → ExternalIn bs x) → ExternalIn (b ∷ bs) x
    by_test true e k f =
        here_or_later e (or_cases (contains_name (declared_names b.declarations) x) (contains_name (externals_in bs) x)
        (sym (list_any-append (λ y. bytes_eq x y) (declared_names b.declarations) (externals_in bs)) ∙ k)) f
    by_test false e k f = external_later b bs x (f k)
