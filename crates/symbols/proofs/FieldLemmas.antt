-- Tables of fields that are filled in the order of a text.
use Rattle.std.proofs.Common.{◌≡◌, refl, sym, ap, ◌∙◌, ℕ, ◌+◌, ◌<◌, List, [], ◌∷◌, ◌++◌, Bool, true, false}
use Rattle.std.proofs.Common.{if◌then◌else◌, Option, Some, None, take, length, slice_index_or}
use Rattle.std.specs.Prelude.{map, option_map, option_and_then, is_some}
use denote.Bor.{Bor}
use Rattle.st_types.specs.declared.data_type.Field as code_field
use Rattle.st_types.specs.declared.data_type.VariableType.{VariableType}
use Rattle.st_types.specs.declared.data_type.TypeDeclaration as code_type
use Rattle.st_types.specs.DeclarationViews.{field_view, type_definition_view, type_declaration_view}
use Rattle.st_types.specs.Declarations.{Field, TypeDefinition}
use Rattle.st_meaning.specs.Scopes.{Name}
use Rattle.st_meaning.specs.NameTypes.{is_named, field_type, type_named}
use Rattle.st_meaning.specs.ResolvedUnits.{field_in}
use Rattle.symbols.specs.declared.index.Index.{Index}
use Rattle.symbols.specs.Found.{or_found}
use Rattle.symbols.specs.Fields.{type_in}
use Rattle.symbols.proofs.TextLemmas.{or_mapped, if_mapped, type_named_append}
use Rattle.st_types.proofs.ListLemmas.{map_take_next}
use Rattle.symbols.proofs.ConversionLemmas.{or_if}

field_type_append : (xs ys : List Field) (q : Name)
    → field_type (xs ++ ys) q ≡ or_found (field_type xs q) (field_type ys q)
field_type_append [] ys q = refl
field_type_append (x ∷ xs) ys q =
    ap (λ o. if is_named q x.name then Some x.declared else o) (field_type_append xs ys q)
    ∙ or_if (is_named q x.name) x.declared (field_type xs q) (field_type ys q)

-- one more field, after those that were looked at
pub field_added : (fs : List code_field.Field) (i : ℕ) (x : code_field.Field) (q : Name)
    (now new : Option (Bor VariableType)) (d : Bor VariableType)
    → i < length fs → x ≡ slice_index_or fs i x
    → option_map (λ e. e.now) now ≡ field_type (map field_view (take i fs)) q
    → new ≡ or_found now (if is_named q x.name then Some d else None) → d.now ≡ x.declared
    → option_map (λ e. e.now) new ≡ field_type (map field_view (take (i + 1) fs)) q
field_added fs i x q now new d lt is h added same =
    let f : Bor VariableType → VariableType = λ e. e.now in
    let b = is_named q x.name in
    ap (option_map f) added ∙ or_mapped f now (if b then Some d else None)
    ∙ ap (or_found (option_map f now)) (if_mapped f b d ∙ ap (λ e. if b then Some e else None) same)
    ∙ ap (λ o. or_found o (if b then Some x.declared else None)) h
    ∙ sym (ap (λ zs. field_type zs q) (map_take_next field_view fs i x lt is)
    ∙ field_type_append (map field_view (take i fs)) (field_view x ∷ []) q)

-- the types of a text of which the first `i` were looked at
pub types_more : (ts : List (Bor code_type.TypeDeclaration)) (i : ℕ) (t : Bor code_type.TypeDeclaration) (x : Name)
    → i < length ts → t ≡ slice_index_or ts i t
    → type_named (map (λ u. type_declaration_view u.now) (take (i + 1) ts)) x
    ≡ or_found (type_named (map (λ u. type_declaration_view u.now) (take i ts)) x)
    (if is_named x t.now.name then Some (type_definition_view t.now.definition) else None)
types_more ts i t x lt is =
    ap (λ zs. type_named zs x) (map_take_next (λ u. type_declaration_view u.now) ts i t lt is)
    ∙ type_named_append (map (λ u. type_declaration_view u.now) (take i ts)) (type_declaration_view t.now ∷ []) x

-- a table that has each type, and gets one more
pub type_there : {T U : Type 0} (o p : Option T) (t u : Option U) (one : T) (d : U) (b : Bool)
    → p ≡ or_found o (if b then Some one else None) → u ≡ or_found t (if b then Some d else None)
    → is_some o ≡ is_some t → is_some p ≡ is_some u
type_there (Some f) p (Some e) u one d b is us h = rw (is, us) refl
type_there (Some f) p None u one d b is us h = absurd (cc)
type_there None p (Some e) u one d b is us h = absurd (cc)
type_there None p None u one d true is us h = rw (is, us) refl
type_there None p None u one d false is us h = rw (is, us) refl

-- and that has the fields of each
pub fields_there : (o p : Option (Index (Bor VariableType))) (t u : Option TypeDefinition) (one : Index (Bor VariableType))
    (d : TypeDefinition) (b : Bool) (q : Name)
    → p ≡ or_found o (if b then Some one else None) → u ≡ or_found t (if b then Some d else None)
    → is_some o ≡ is_some t → option_and_then (λ fields. type_in fields q) o ≡ field_in t q
    → type_in one q ≡ field_in (Some d) q → option_and_then (λ fields. type_in fields q) p ≡ field_in u q
fields_there (Some f) p (Some e) u one d b q is us h told more = rw (is, us) told
fields_there (Some f) p None u one d b q is us h told more = absurd (cc)
fields_there None p (Some e) u one d b q is us h told more = absurd (cc)
fields_there None p None u one d true q is us h told more = rw (is, us) more
fields_there None p None u one d false q is us h told more = rw (is, us) refl
