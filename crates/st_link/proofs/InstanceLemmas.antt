-- Members of an instance, and its call.
use Rattle.std.proofs.Common.{◌≡◌, refl, sym, ap, subst, ◌∙◌, arith, ℕ, ◌+◌, ◌≤◌, Option, Some, None, Bool, true, false}
use Rattle.std.proofs.Common.{List, if◌then◌else◌, ◌<◌}
use Rattle.std.specs.Prelude.{option_map, option_and_then}
use Rattle.st_types.specs.declared.limits.TheConstants.{MAX_PATHS}
use Rattle.st_types.specs.declared.data_type.VariableType.{VariableType}
use Rattle.st_types.specs.Statements.{Argument}
use Rattle.st_meaning.specs.NameTypes.{Declared}
use Rattle.st_meaning.specs.Scopes.{Name}
use Rattle.symbols.specs.Agreeing.{Agree}
use Rattle.symbols.specs.PlaceTypes.{place_type_view}
use Rattle.layout.specs.Shapes.{Shape, plain, array, parts, Parts, size, sizes}
use Rattle.layout.specs.Types.{shape_of_type}
use Rattle.layout.specs.Sizes.{capped_size}
use Rattle.slot_trees.specs.SlotTrees.{Anchor, BlockCode, SlotArgument, SlotStmt, invoke}
use Rattle.slot_trees.specs.LinkedStatements.{Instance, block_code_of, control_of, instance_at, instance_of_symbol}
use Rattle.slot_trees.specs.LinkedStatements.{linked_arguments, linked_call_of, linked_invocation, offset_of}
use Rattle.slot_trees.specs.LinkedStatements.{plain_anchor, plain_offset}
use Rattle.slot_trees.specs.Tables.{Part, Symbol, Table, part_at, symbol_of}
use Rattle.slot_trees.specs.ExpressionViews.{anchor_view}
use Rattle.st_link.specs.Shapes.{IsExpanded, IsMemberPlace, has_parts, is_plain, member_of}
use Rattle.st_link.specs.declared.members.MemberPlace.{MemberPlace}
use Rattle.st_link.specs.BodyTables.{IsSymbol}
use Rattle.st_link.specs.Instances.{HasMembers}
use Rattle.st_link.proofs.PlaceLemmas.{part_room}
use Rattle.st_link.specs.declared.body_table.LinkSymbol.{LinkSymbol}

-- the table's entry of a member agrees with the instance's parts
pub member_agrees : (text : Declared) (t : VariableType) (ps : Parts) (x : Name) (m : Option MemberPlace)
    → HasMembers text t ps → Agree (IsMemberPlace text 0) m (member_of (shape_of_type text t) x)
    → Agree (IsMemberPlace text 0) m (part_at ps x)
member_agrees text t ps x m has a = subst (λ sh. Agree (IsMemberPlace text 0) m (member_of sh x)) has.shape a

pub no_member : (text : Declared) (o : Option Part) → Agree (IsMemberPlace text 0) None o
    → option_and_then offset_of o ≡ None
no_member text None a = refl
no_member text (Some e) a = absurd a

pub member_expanded : (text : Declared) (m : MemberPlace) (o : Option Part) → Agree (IsMemberPlace text 0) (Some m) o
    → IsExpanded text (place_type_view m.declared)
member_expanded text m None a = absurd a
member_expanded text m (Some e) a = a.expanded

plain_at : (n : ℕ) (sh : Shape) → is_plain sh ≡ true → plain_offset n sh ≡ Some n
plain_at n (plain k) h = refl
plain_at n (array lower count sh) h = absurd (cc)
plain_at n (parts w ps) h = absurd (cc)

composite_at : (n : ℕ) (sh : Shape) → is_plain sh ≡ false → plain_offset n sh ≡ None
composite_at n (plain k) h = absurd (cc)
composite_at n (array lower count sh) h = refl
composite_at n (parts w ps) h = refl

pub member_at : (text : Declared) (m : MemberPlace) (o : Option Part) → Agree (IsMemberPlace text 0) (Some m) o
    → is_plain (shape_of_type text (place_type_view m.declared)) ≡ true → m.offset ≤ MAX_PATHS
    → option_and_then offset_of o ≡ Some m.offset
member_at text m None a elementary small = absurd a
member_at text m (Some e) a elementary small =
    ap (plain_offset e.offset) a.shape
    ∙ plain_at e.offset (shape_of_type text (place_type_view m.declared)) elementary
    ∙ ap Some (uncut e.offset m.offset small a.offset)
  where
    uncut : (n o : ℕ) → o ≤ MAX_PATHS → o ≡ capped_size (0 + n) → n ≡ o
    uncut n o small e = grind (arith, small, e)

-- no member of an instance is further on than a layout has room
pub far_member : (text : Declared) (t : VariableType) (ps : Parts) (x : Name) (m : MemberPlace)
    → HasMembers text t ps → Agree (IsMemberPlace text 0) (Some m) (part_at ps x) → MAX_PATHS < m.offset
    → option_and_then offset_of (part_at ps x) ≡ None
far_member text t ps x m has a far = by_part (part_at ps x) refl a
  where
    near : (n o s w : ℕ) → n + s ≤ w → w ≤ MAX_PATHS → o ≡ capped_size (0 + n) → MAX_PATHS < o → ⊥
    near n o s w a b c d = grind (arith)

    by_part : (o : Option Part) → part_at ps x ≡ o → Agree (IsMemberPlace text 0) (Some m) o
        → option_and_then offset_of o ≡ None
    by_part None is a = absurd a
    by_part (Some e) is a =
        absurd (near e.offset m.offset (size e.shape) (sizes ps) (part_room ps x e is) has.room a.offset far)

pub composite_member : (text : Declared) (m : MemberPlace) (o : Option Part)
    → Agree (IsMemberPlace text 0) (Some m) o → is_plain (shape_of_type text (place_type_view m.declared)) ≡ false
    → option_and_then offset_of o ≡ None
composite_member text m None a composite = absurd a
composite_member text m (Some e) a composite =
    ap (plain_offset e.offset) a.shape
    ∙ composite_at e.offset (shape_of_type text (place_type_view m.declared)) composite

-- a control variable
anchor_plain : (a : Anchor) (sh : Shape) → is_plain sh ≡ true → plain_anchor a sh ≡ Some a
anchor_plain a (plain k) h = refl
anchor_plain a (array lower count sh) h = absurd (cc)
anchor_plain a (parts w ps) h = absurd (cc)

anchor_composite : (a : Anchor) (sh : Shape) → is_plain sh ≡ false → plain_anchor a sh ≡ None
anchor_composite a (plain k) h = absurd (cc)
anchor_composite a (array lower count sh) h = refl
anchor_composite a (parts w ps) h = refl

pub control_at : (text : Declared) (s : LinkSymbol) (o : Option Symbol) → Agree (IsSymbol text) (Some s) o
    → s.is_input ≡ false → is_plain (shape_of_type text (place_type_view s.declared)) ≡ true
    → option_and_then control_of o ≡ Some (anchor_view s.anchor)
control_at text s None a output elementary = absurd a
control_at text s (Some y) a output elementary =
    ap (λ b. if b then None else plain_anchor y.anchor y.shape) (sym a.input ∙ output)
    ∙ ap (plain_anchor y.anchor) a.shape
    ∙ anchor_plain y.anchor (shape_of_type text (place_type_view s.declared)) elementary ∙ ap Some (sym a.anchor)

pub no_symbol : (text : Declared) (o : Option Symbol) → Agree (IsSymbol text) None o → o ≡ None
no_symbol text None a = refl
no_symbol text (Some y) a = absurd a

pub input_control : (text : Declared) (s : LinkSymbol) (o : Option Symbol) → Agree (IsSymbol text) (Some s) o
    → s.is_input ≡ true → option_and_then control_of o ≡ None
input_control text s None a input = absurd a
input_control text s (Some y) a input =
    ap (λ b. if b then None else plain_anchor y.anchor y.shape) (sym a.input ∙ input)

pub composite_control : (text : Declared) (s : LinkSymbol) (o : Option Symbol) → Agree (IsSymbol text) (Some s) o
    → s.is_input ≡ false → is_plain (shape_of_type text (place_type_view s.declared)) ≡ false
    → option_and_then control_of o ≡ None
composite_control text s None a output composite = absurd a
composite_control text s (Some y) a output composite =
    ap (λ b. if b then None else plain_anchor y.anchor y.shape) (sym a.input ∙ output)
    ∙ ap (plain_anchor y.anchor) a.shape
    ∙ anchor_composite y.anchor (shape_of_type text (place_type_view s.declared)) composite

-- an instance
pub members_there : (text : Declared) (s : LinkSymbol) (o : Option Symbol) → Agree (IsSymbol text) (Some s) o
    → (IsExpanded text (place_type_view s.declared)
    → has_parts (shape_of_type text (place_type_view s.declared)) ≡ true)
    → (ps : Parts) × HasMembers text (place_type_view s.declared) ps
members_there text s None a some = absurd a
members_there text s (Some y) a some =
    by_shape (shape_of_type text (place_type_view s.declared)) refl (some a.expanded)
  where
    by_shape : (sh : Shape) → shape_of_type text (place_type_view s.declared) ≡ sh → has_parts sh ≡ true
        → (ps : Parts) × HasMembers text (place_type_view s.declared) ps
    by_shape (plain k) is h = absurd (cc)
    by_shape (array lower count sh) is h = absurd (cc)
    by_shape (parts w ps) is h = (
      ps,
      record {
        whole = w;
        shape = is;
        expanded = a.expanded;
        room = let e = ap size (a.shape ∙ is) in let r = a.room in omega (arith, e, r);
      },
    )

pub instance_there : (text : Declared) (s : LinkSymbol) (o : Option Symbol) (ps : Parts)
    → Agree (IsSymbol text) (Some s) o → s.is_input ≡ false → HasMembers text (place_type_view s.declared) ps
    → option_and_then instance_of_symbol o ≡ Some (record { anchor = anchor_view s.anchor; members = ps })
instance_there text s None ps a output has = absurd a
instance_there text s (Some y) ps a output has =
    ap (λ b. if b then None else instance_at y.anchor y.shape) (sym a.input ∙ output)
    ∙ ap (instance_at y.anchor) (a.shape ∙ has.shape)
    ∙ ap (λ b. Some (record { anchor = b; members = ps })) (sym a.anchor)

pub input_instance : (text : Declared) (s : LinkSymbol) (o : Option Symbol) → Agree (IsSymbol text) (Some s) o
    → s.is_input ≡ true → option_and_then instance_of_symbol o ≡ None
input_instance text s None a input = absurd a
input_instance text s (Some y) a input =
    ap (λ b. if b then None else instance_at y.anchor y.shape) (sym a.input ∙ input)

no_instance : (a : Anchor) (sh : Shape) → has_parts sh ≡ false → instance_at a sh ≡ None
no_instance a (plain k) h = refl
no_instance a (array lower count sh) h = refl
no_instance a (parts w ps) h = absurd (cc)

pub other_instance : (text : Declared) (s : LinkSymbol) (o : Option Symbol) → Agree (IsSymbol text) (Some s) o
    → s.is_input ≡ false → has_parts (shape_of_type text (place_type_view s.declared)) ≡ false
    → option_and_then instance_of_symbol o ≡ None
other_instance text s None a output none = absurd a
other_instance text s (Some y) a output none =
    ap (λ b. if b then None else instance_at y.anchor y.shape) (sym a.input ∙ output)
    ∙ ap (instance_at y.anchor) a.shape
    ∙ no_instance y.anchor (shape_of_type text (place_type_view s.declared)) none

-- a call, by its instance, its block and its arguments
pub call_linked : (t : Table) (x : Name) (arguments : List Argument) (a : Anchor) (ps : Parts) (code : BlockCode)
    (xs : List SlotArgument)
    → option_and_then instance_of_symbol (symbol_of t.symbols x) ≡ Some (record { anchor = a; members = ps })
    → block_code_of t x ≡ Some code → linked_arguments t ps arguments ≡ Some xs
    → linked_invocation t x arguments ≡ Some (invoke a code xs)
call_linked t x arguments a ps code xs i b h =
    ap (option_and_then (linked_call_of t x arguments)) i
    ∙ ap (option_and_then (λ code. option_map (invoke a code) (linked_arguments t ps arguments))) b
    ∙ ap (option_map (invoke a code)) h

pub no_call : (t : Table) (x : Name) (arguments : List Argument)
    → option_and_then instance_of_symbol (symbol_of t.symbols x) ≡ None → linked_invocation t x arguments ≡ None
no_call t x arguments i = ap (option_and_then (linked_call_of t x arguments)) i

pub no_code : (t : Table) (x : Name) (arguments : List Argument) (a : Anchor) (ps : Parts)
    → option_and_then instance_of_symbol (symbol_of t.symbols x) ≡ Some (record { anchor = a; members = ps })
    → block_code_of t x ≡ None → linked_invocation t x arguments ≡ None
no_code t x arguments a ps i b =
    ap (option_and_then (linked_call_of t x arguments)) i
    ∙ ap (option_and_then (λ code. option_map (invoke a code) (linked_arguments t ps arguments))) b

pub no_arguments : (t : Table) (x : Name) (arguments : List Argument) (a : Anchor) (ps : Parts) (code : BlockCode)
    → option_and_then instance_of_symbol (symbol_of t.symbols x) ≡ Some (record { anchor = a; members = ps })
    → block_code_of t x ≡ Some code → linked_arguments t ps arguments ≡ None → linked_invocation t x arguments ≡ None
no_arguments t x arguments a ps code i b h =
    ap (option_and_then (linked_call_of t x arguments)) i
    ∙ ap (option_and_then (λ code. option_map (invoke a code) (linked_arguments t ps arguments))) b
    ∙ ap (option_map (invoke a code)) h
