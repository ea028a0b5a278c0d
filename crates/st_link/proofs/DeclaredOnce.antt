-- If no name of a unit's variables is declared twice, each variable has the type that it is declared with.
use Rattle.std.proofs.Common.{◌≡◌, refl, ap, subst, ◌∙◌, Bool, true, false, ◌||◌, if◌then◌else◌, List, [], ◌∷◌, ◌++◌}
use Rattle.std.proofs.Common.{Some, None, append_assoc}
use Rattle.std.specs.Prelude.{bytes_eq}
use Rattle.std.specs.List.{flat_map, list_any}
use Rattle.std.proofs.lemmas.Slice.Eq.{bytes_eq-Decides}
use Rattle.st_types.specs.declared.identifier.Identifier.{Identifier}
use Rattle.st_types.specs.Declarations.{Declaration, VariableBlock}
use Rattle.st_meaning.specs.NameTypes.{is_named, type_in, or_type, type_in_blocks}
use Rattle.st_meaning.specs.Scopes.{Name}
use Rattle.st_rules.specs.NameScopes.{variables_of_block}
use Rattle.st_rules.specs.Places.{repeats}
use Rattle.st_link.proofs.Among.{Among, here, later, in_back, in_flat}
use Rattle.st_link.proofs.ApartNames.{names_apart, repeats_behind, repeats_before, turned}

abbrev names_in : Declaration → List Identifier
names_in d = d.names

-- a name among these
record NamedSo (xs : List Identifier) (x : Name) : Type 0 where
  pub one : Identifier
  pub among : Among one xs
  pub named : bytes_eq x one.name ≡ true

named_later : (y : Identifier) (xs : List Identifier) (x : Name) → NamedSo xs x → NamedSo (y ∷ xs) x
named_later y xs x h = record { one = h.one; among = later h.among; named = h.named }

named_at : (y : Identifier) (xs : List Identifier) (x : Name) (b : Bool) → bytes_eq x y.name ≡ b
    → (list_any (is_named x) xs ≡ true → NamedSo xs x) → (b || list_any (is_named x) xs) ≡ true → NamedSo (y ∷ xs) x
named_at y xs x true e f h = record { one = y; among = here; named = e }
named_at y xs x false e f h = named_later y xs x (f h)

any_named : (xs : List Identifier) (x : Name) → list_any (is_named x) xs ≡ true → NamedSo xs x
any_named [] x h = absurd (cc)
any_named (y ∷ xs) x h = named_at y xs x (bytes_eq x y.name) refl (λ k. any_named xs x k) h

pub itself_named : (xs : List Identifier) {x : Identifier} → Among x xs → list_any (is_named x.name) xs ≡ true
itself_named [] among = elim among [ ]
itself_named (x ∷ xs) here =
    ap (λ b. b || list_any (is_named x.name) xs) ((bytes_eq-Decides x.name x.name).1 refl)
itself_named (y ∷ xs) {x = x} (later h) = or_true (is_named x.name y) (list_any (is_named x.name) xs) (itself_named xs h)
  where
    or_true : (a b : Bool) → b ≡ true → (a || b) ≡ true
    or_true true b k = refl
    or_true false b k = k

append_three : (xs ys zs : List Identifier) → (xs ++ ys) ++ zs ≡ xs ++ (ys ++ zs)
append_three xs ys zs = append_assoc xs ys zs

-- declarations
module _ {x : Identifier} where
  not_first : (d : Declaration) (rest : List Identifier) → repeats (d.names ++ rest) ≡ [] → Among x rest → (b : Bool)
      → list_any (is_named x.name) d.names ≡ b → b ≡ false
  not_first d rest once among true e =
      let y = any_named d.names x.name e in
      absurd (names_apart d.names rest once y.among among (turned x.name y.one.name y.named))
  not_first d rest once among false e = refl

  type_declared : (ds : List Declaration) {d : Declaration} → repeats (flat_map names_in ds) ≡ [] → Among d ds
      → Among x d.names → type_in ds x.name ≡ Some d.declared
  type_declared [] once declaration name = elim declaration [ ]
  type_declared (d ∷ ds) once here name =
      ap (λ b. if b then Some d.declared else type_in ds x.name) (itself_named d.names name)
  type_declared (c ∷ ds) once (later declaration) name =
      ap (λ b. if b then Some c.declared else type_in ds x.name)
      (not_first c (flat_map names_in ds) once (in_flat names_in declaration name)
      (list_any (is_named x.name) c.names) refl)
      ∙ type_declared ds (repeats_behind c.names (flat_map names_in ds) once) declaration name

  pub none_declared : (ds : List Declaration) (rest : List Identifier) → repeats (flat_map names_in ds ++ rest) ≡ []
      → Among x rest → type_in ds x.name ≡ None
  none_declared [] rest once among = refl
  none_declared (d ∷ ds) rest once among =
      let split : repeats (d.names ++ (flat_map names_in ds ++ rest)) ≡ [] =
      subst (λ ys. repeats ys ≡ []) (append_three d.names (flat_map names_in ds) rest) once in
      ap (λ b. if b then Some d.declared else type_in ds x.name)
      (not_first d (flat_map names_in ds ++ rest) split (in_back (flat_map names_in ds) among)
      (list_any (is_named x.name) d.names) refl)
      ∙ none_declared ds rest (repeats_behind d.names (flat_map names_in ds ++ rest) split) among

  pub type_once : (bs : List VariableBlock) {b : VariableBlock} {d : Declaration}
      → repeats (flat_map variables_of_block bs) ≡ []
      → Among b bs → Among d b.declarations → Among x d.names → type_in_blocks bs x.name ≡ Some d.declared
  type_once [] once block declaration name = elim block [ ]
  type_once (b ∷ bs) once here declaration name =
      ap (λ o. or_type o (type_in_blocks bs x.name))
      (type_declared b.declarations (repeats_before (variables_of_block b) (flat_map variables_of_block bs) once)
      declaration name)
  type_once (c ∷ bs) once (later block) declaration name =
      ap (λ o. or_type o (type_in_blocks bs x.name))
      (none_declared c.declarations (flat_map variables_of_block bs) once
      (in_flat variables_of_block block (in_flat names_in declaration name)))
      ∙ type_once bs (repeats_behind (variables_of_block c) (flat_map variables_of_block bs) once) block declaration name
