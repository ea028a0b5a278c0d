-- Well-typed expressions have values of their types.
use Rattle.std.proofs.Common.{◌≡◌, refl, sym, ap, subst, ◌∙◌, append_assoc, arith, ℕ, suc, ◌+◌, ◌==◌, Bool, true, false}
use Rattle.std.proofs.Common.{◌||◌}
use Rattle.std.proofs.Common.{if◌then◌else◌, List, [], ◌∷◌, ◌++◌, length, Option, Some, None}
use Rattle.std.specs.Prelude.{ℤ, pos, map, option_and_then, is_some}
use Rattle.std.specs.List.{flat_map, list_all}
use Rattle.std.proofs.lemmas.Bool.{and_parts}
use Rattle.std.proofs.lemmas.Bool.Decides.{nat_tests}
use Rattle.std.proofs.lemmas.List.Concat.{flat_map-append}
use Rattle.st_types.specs.declared.fault.Fault.TheVariants.{Index}
use Rattle.st_types.specs.declared.kind.Kind.{Kind}
use Rattle.st_types.specs.declared.kind.Kind.TheVariants.{Time, Bool as Boolean}
use Rattle.st_types.specs.declared.identifier.Identifier.{Identifier}
use Rattle.st_types.specs.declared.literal.EnumeratedValue.{EnumeratedValue}
use Rattle.st_types.specs.declared.literal.Literal.{Literal}
use Rattle.st_types.specs.declared.literal.Literal.TheVariants as literals
use Rattle.st_types.specs.declared.literal.Number.{Number}
use Rattle.st_types.specs.declared.operator.BinaryOperator.{BinaryOperator}
use Rattle.st_types.specs.Kinds.{same_kind}
use Rattle.st_types.proofs.KindLemmas.{same_kind_is}
use Rattle.st_types.specs.Values.{Datum, in_range}
use Rattle.st_types.specs.Paths.{Path}
use Rattle.st_types.specs.declared.data_type.VariableType.{VariableType}
use Rattle.st_types.specs.Expressions.{Expr, literal, read, call, parenthesis, unary, binary, Exprs, no_exprs}
use Rattle.st_types.specs.Expressions.{expr_then}
use Rattle.st_types.specs.Expressions.{variable, member, subscript, Selectors, no_selectors}
use Rattle.st_types.specs.Expressions.{selector_then}
use Rattle.st_types.specs.declared.unit.UnitSort.{UnitSort}
use Rattle.st_types.specs.declared.unit.UnitSort.TheVariants.{Function, FunctionBlock, Program}
use Rattle.st_types.specs.Declarations.{VariableBlock}
use Rattle.st_types.specs.Units.{OrganisationUnit}
use Rattle.st_meaning.specs.Failures.{StuckFaults, valueless, or_failure, failing}
use Rattle.st_meaning.specs.Stores.{Store, has_part}
use Rattle.st_meaning.specs.Ticks.{follow, give, fault, attempt}
use Rattle.st_meaning.specs.Operators.{or_kind, number_of, kind_of_number, value_of_kind, value_of_number, value_of_literal}
use Rattle.st_meaning.specs.Operators.{apply, apply_unary}
use Rattle.st_meaning.specs.StandardFunctions.{Standard, ABS, MIN, MAX, LIMIT, SEL, SHL, SHR, ROL, ROR, CONVERT}
use Rattle.st_meaning.specs.StandardFunctions.{standard_of, standard_value}
use Rattle.st_meaning.specs.Scopes.{Name, Units, Scope, path_in, member_at, seen}
use Rattle.st_meaning.specs.Evaluation.{value, values, selected, bounded, looked_up, called, known, element_at}
use Rattle.st_meaning.specs.Enumerations.{Member, enumerations_of, members_named, member_of_type, only_one}
use Rattle.st_meaning.specs.Enumerations.{number_of_member}
use Rattle.st_meaning.specs.NameTypes.{Declared, selected_type, element_type, definition_of, type_after_selectors}
use Rattle.st_meaning.specs.NameTypes.{kind_among, unit_named, input_kinds, result_kind}
use Rattle.st_meaning.specs.Resolution.{is_joining, own_kinds, taken_kind, taking_number, taking_literal, operand_kind}
use Rattle.st_meaning.specs.Resolution.{expected_of_both, common_kind, standard_kind, expected_kinds, inputs_of_unit}
use Rattle.st_meaning.specs.Resolution.{inputs_of_function, resolved_expr, resolved_exprs, resolved_selectors}
use Rattle.st_rules.specs.declared.reason.Reason.{Reason}
use Rattle.st_rules.specs.declared.reason.Reason.TheVariants.{Mismatch, WrongOperands}
use Rattle.st_rules.specs.declared.demand.Purpose.{Purpose}
use Rattle.st_rules.specs.declared.demand.Purpose.TheVariants as purposes
use Rattle.st_rules.specs.declared.demand.Sorts.{Sorts}
use Rattle.st_rules.specs.declared.demand.Sorts.TheVariants.{Any as any, Whole as whole}
use Rattle.st_rules.specs.declared.demand.Demand.{Demand}
use Rattle.st_rules.specs.declared.demand.Demand.TheVariants.{Operand as operand, Asked as asked}
use Rattle.st_rules.specs.declared.typings.Typing.{Typing}
use Rattle.st_rules.specs.declared.typings.Typing.TheVariants.{Untyped as untyped, Elementary as elementary}
use Rattle.st_rules.specs.declared.typings.Typing.TheVariants.{Composite as composite, Nothing as nothing}
use Rattle.st_rules.specs.Faults.{breaking, unless}
use Rattle.st_rules.specs.Readings.{Reading, reading_among, reading_of, reading_of_name, wrong_reading}
use Rattle.st_rules.specs.Environments.{Environment, Callee, standard, own, callee_of, callee_of_sort, type_of_name}
use Rattle.st_rules.specs.Demands.{expected_of, demands_of_standard, sorts_of_binary}
use Rattle.st_rules.specs.Typings.{kind_of, kinds_of, is_untyped_typing, is_nothing, typing_of, typings_of}
use Rattle.st_rules.specs.Typings.{typing_of_type, typing_of_literal, typing_of_number, typing_of_reading}
use Rattle.st_rules.specs.Typings.{typing_of_kind}
use Rattle.st_rules.specs.Typings.{typing_of_callee, typing_of_alone, settled, fits, allows, joined}
use Rattle.st_rules.specs.Typings.{are_operands}
use Rattle.st_rules.specs.Nodes.{nodes_of, nodes_below, nodes_of_all, nodes_of_selectors, offered, demands_of}
use Rattle.st_rules.specs.ExpressionRules.{first_byte, count_of, wrong_alone, wrong_call, wrong_part, wrong_node}
use Rattle.st_rules.specs.ExpressionRules.{wrong_within, wrong_expression}
use Rattle.st_rules.proofs.TypingLaws.{kinds_told, all_kinds_told, untyped_told, kind_of_declared, untyped_declared}
use Rattle.st_link.specs.Soundness.{IsOf, HasKind, EndsAlikeIn, with_units, IsPlace, root, part, element, Agrees}
use Rattle.st_link.specs.Soundness.{UnitsAgree, AreKnown, ValuesAreSound}
use Rattle.st_link.proofs.Alikes.{alike_then, Succeeds, Gives, attempted, failed}
use Rattle.st_link.proofs.OperatorLemmas.{is_of_kind, in_range_gives, truth_is, unary_gives, apply_succeeds}
use Rattle.st_link.proofs.SoundStandards.{FitPlaces, none, one_more, standard_succeeds, inputs_fit, elementary_same}
use Rattle.st_link.proofs.KnownLemmas.{variable_is_there, type_there, typing_known, below_binary}
use Rattle.st_link.proofs.KnownLemmas.{own_part}
use Rattle.st_types.proofs.ListLemmas.{append_first, append_second}

-- the premises of runs of two scopes
pub record Premises (env : Environment) (w : Scope) (s : Store) (u v : Units) : Type 0 where
  pub agrees : Agrees env w s
  pub units : UnitsAgree env u v
  pub known : AreKnown env

right_there : (reason : Reason) (b : Bool) (p : ℕ) → breaking reason (unless b p) ≡ [] → b ≡ true
right_there reason true p h = refl
right_there reason false p h = absurd (cc)

-- operands with known types are of the same elementary type
pub operands_alike : (ss : Sorts) (t u : Typing) → are_operands ss t u ≡ true → is_nothing t ≡ false
    → is_nothing u ≡ false
    → (k : Kind) × (l : Kind) × (t ≡ elementary k) × (u ≡ elementary l) × (same_kind k l ≡ true)
operands_alike ss nothing u h p q = absurd (cc)
operands_alike ss (elementary k) nothing h p q = absurd (cc)
operands_alike ss (elementary k) (elementary l) h p q = (k, l, refl, refl, (and_parts (same_kind k l) _ h).0)
operands_alike ss (elementary k) untyped h p q = absurd (cc)
operands_alike ss (elementary k) composite h p q = absurd (cc)
operands_alike ss composite nothing h p q = absurd (cc)
operands_alike ss composite (elementary l) h p q = absurd (cc)
operands_alike ss composite untyped h p q = absurd (cc)
operands_alike ss composite composite h p q = absurd (cc)
operands_alike ss untyped nothing h p q = absurd (cc)
operands_alike ss untyped (elementary l) h p q = absurd (cc)
operands_alike ss untyped untyped h p q = absurd (cc)
operands_alike ss untyped composite h p q = absurd (cc)

pub settled_known : (k : Option Kind) (t : Typing) → is_nothing t ≡ false → is_nothing (settled k t) ≡ false
settled_known k untyped h = refl
settled_known k (elementary l) h = refl
settled_known k composite h = refl
settled_known k nothing h = absurd (cc)

-- the type of an operation with a common type is that of its operands
abbrev both_offered : Option Kind → Typing → Typing → Option Kind
both_offered k t u = expected_of_both k (kind_of t) (kind_of u) (is_untyped_typing t) (is_untyped_typing u)

joined_kind : (k : Option Kind) (t u : Typing) (m l : Kind) → settled (both_offered k t u) t ≡ elementary m
    → settled (both_offered k t u) u ≡ elementary m → settled k (joined t u) ≡ elementary l → m ≡ l
joined_kind k untyped untyped m l p q h = cc
joined_kind k untyped (elementary x) m l p q h = cc
joined_kind k untyped composite m l p q h = absurd (cc)
joined_kind k untyped nothing m l p q h = absurd (cc)
joined_kind k (elementary x) u m l p q h = cc
joined_kind k composite u m l p q h = absurd (cc)
joined_kind k nothing u m l p q h = absurd (cc)

operation_kind : (j : Bool) (k : Option Kind) (t u : Typing) (m l : Kind)
    → settled (both_offered (if j then k else None) t u) t ≡ elementary m
    → settled (both_offered (if j then k else None) t u) u ≡ elementary m
    → settled k (if j then joined t u else elementary Boolean) ≡ elementary l → (if j then m else Boolean) ≡ l
operation_kind true k t u m l p q h = joined_kind k t u m l p q h
operation_kind false k t u m l p q h = elementary_same Boolean l h

-- resolution offers what typing offers
pub offers : (env : Environment) (k : Option Kind) (op : BinaryOperator) (l r : Expr)
    → operand_kind env.text env.unit k op l r ≡ offered k op (typing_of env l) (typing_of env r)
offers env k op l r = rw (untyped_told env l, untyped_told env r, kinds_told env l, kinds_told env r) refl

pub operands_right : (env : Environment) (k : Option Kind) (op : BinaryOperator) (l r : Expr)
    → wrong_within env k (binary op l r) ≡ []
    → are_operands (sorts_of_binary op) (settled (offered k op (typing_of env l) (typing_of env r)) (typing_of env l))
    (settled (offered k op (typing_of env l) (typing_of env r)) (typing_of env r)) ≡ true
operands_right env k op l r h =
    right_there (WrongOperands op (typing_of env l) (typing_of env r)) _ (first_byte l)
    (own_part env k (binary op l r) h)

-- literals
number_succeeds : (k : Option Kind) (n : Number) (o : Option Kind) (l : Kind) → n.written ≡ o
    → settled k (typing_of_number o) ≡ elementary l
    → Succeeds (IsOf l) (value_of_number (taking_number (taken_kind k) n))
number_succeeds k n None l is h =
    let taken : taking_number (taken_kind k) n ≡ record n { taken = Some (taken_kind k) } =
    ap (λ (o : Option Kind). elim o [ Some m ↦ n | None ↦ record n { taken = Some (taken_kind k) } ]) is in
    let kind : or_kind n.written (Some (taken_kind k)) ≡ Some l =
    ap (λ (o : Option Kind). or_kind o (Some (taken_kind k))) is
    ∙ ap (λ (m : Kind). Some m) (elementary_same (taken_kind k) l h) in
    subst (λ (m : Number). Succeeds (IsOf l) (value_of_number m)) (sym taken)
    (subst (λ (o : Option Kind). Succeeds (IsOf l) (value_of_kind o (number_of n))) (sym kind)
    (failed {A = Datum} (IsOf l) (in_range l (number_of n)) (in_range_gives l (number_of n))))
number_succeeds k n (Some m) l is h =
    let taken : taking_number (taken_kind k) n ≡ n =
    ap (λ (o : Option Kind). elim o [ Some j ↦ n | None ↦ record n { taken = Some (taken_kind k) } ]) is in
    let kind : kind_of_number n ≡ Some l =
    ap (λ (o : Option Kind). or_kind o n.taken) is ∙ ap (λ (j : Kind). Some j) (elementary_same m l h) in
    subst (λ (j : Number). Succeeds (IsOf l) (value_of_number j)) (sym taken)
    (subst (λ (o : Option Kind). Succeeds (IsOf l) (value_of_kind o (number_of n))) (sym kind)
    (failed {A = Datum} (IsOf l) (in_range l (number_of n)) (in_range_gives l (number_of n))))

member_succeeds : (at : ℕ) (m : Member) (l : Kind) → elementary m.kind ≡ elementary l
    → Succeeds (IsOf l) (value_of_number (number_of_member at m))
member_succeeds at m l h = subst (λ k. Succeeds (IsOf k) (value_of_number (number_of_member at m)))
    (elementary_same m.kind l h) (failed {A = Datum} (IsOf m.kind) (in_range m.kind _) (in_range_gives m.kind _))

-- the value that a reading stands for, as resolution writes it
abbrev value_read : EnumeratedValue → Option Member → Literal
value_read v o = elim o [ Some m ↦ literals.Number (number_of_member v.place m) | None ↦ literals.Enumerated v ]

only_succeeds : (k : Option Kind) (v : EnumeratedValue) (ms : List Member) (l : Kind)
    → wrong_reading v.place (reading_among ms) ≡ []
    → settled k (typing_of_reading (reading_among ms)) ≡ elementary l
    → Succeeds (IsOf l) (value_of_literal (value_read v (only_one ms)))
only_succeeds k v [] l h i = absurd (cc)
only_succeeds k v (m ∷ []) l h i = member_succeeds v.place m l i
only_succeeds k v (m ∷ n ∷ rest) l h i = absurd (cc)

found_succeeds : (k : Option Kind) (v : EnumeratedValue) (o : Option Member) (l : Kind)
    → wrong_reading v.place (reading_of o) ≡ [] → settled k (typing_of_reading (reading_of o)) ≡ elementary l
    → Succeeds (IsOf l) (value_of_literal (value_read v o))
found_succeeds k v None l h i = absurd (cc)
found_succeeds k v (Some m) l h i = member_succeeds v.place m l i

abbrev reading_by : Declared → Name → Option Name → Reading
reading_by text x o = elim o [
  | Some t ↦ reading_of (member_of_type text.types t x)
  | None ↦ reading_of_name text x
]

abbrev member_by : Declared → Name → Option Name → Option Member
member_by text x o = elim o [
  | Some t ↦ member_of_type text.types t x
  | None ↦ only_one (members_named (enumerations_of text.types) x)
]

written_succeeds : (text : Declared) (k : Option Kind) (v : EnumeratedValue) (o : Option Name) (l : Kind)
    → wrong_reading v.place (reading_by text v.name o) ≡ []
    → settled k (typing_of_reading (reading_by text v.name o)) ≡ elementary l
    → Succeeds (IsOf l) (value_of_literal (value_read v (member_by text v.name o)))
written_succeeds text k v None l h i = only_succeeds k v (members_named (enumerations_of text.types) v.name) l h i
written_succeeds text k v (Some t) l h i = found_succeeds k v (member_of_type text.types t v.name) l h i

literal_succeeds : (env : Environment) (k : Option Kind) (x : Literal) (l : Kind) → wrong_part env k (literal x) ≡ []
    → settled k (typing_of_literal env.text x) ≡ elementary l
    → Succeeds (IsOf l) (value_of_literal (taking_literal env.text.types (taken_kind k) x))
literal_succeeds env k (literals.Number n) l h i = number_succeeds k n n.written l refl i
literal_succeeds env k (literals.Truth at b) l h i = is_of_kind Boolean l _ (elementary_same Boolean l i) (truth_is b)
literal_succeeds env k (literals.Duration at n) l h i =
    subst (λ m. Succeeds (IsOf m) (value_of_literal (literals.Duration at n))) (elementary_same Time l i)
    (failed {A = Datum} (IsOf Time) (in_range Time (pos n)) (in_range_gives Time (pos n)))
literal_succeeds env k (literals.Enumerated v) l h i = written_succeeds env.text k v v.type_name l h i

-- the type of an elementary variable
pub kind_there : (text : Declared) (k : Option Kind) (o : Option VariableType) (l : Kind)
    → settled k (typing_of_type text o) ≡ elementary l → option_and_then (kind_among text.types) o ≡ Some l
kind_there text k o l h = kind_of_declared text o ∙ kind_settled (typing_of_type text o) (typed o) h
  where
    kind_settled : (t : Typing) → is_untyped_typing t ≡ false → settled k t ≡ elementary l → kind_of t ≡ Some l
    kind_settled untyped u i = absurd (cc)
    kind_settled (elementary m) u i = ap (λ (j : Kind). Some j) (elementary_same m l i)
    kind_settled composite u i = absurd (cc)
    kind_settled nothing u i = absurd (cc)

    typed : (p : Option VariableType) → is_untyped_typing (typing_of_type text p) ≡ false
    typed p = sym (untyped_declared text p)

value_there : (l : Kind) (o : Option Datum) (i j : StuckFaults) (b : ℕ) → HasKind o l
    → EndsAlikeIn (IsOf l) (attempt i (or_failure valueless o) b) (attempt j (or_failure valueless o) b)
value_there l o i j b h = subst (λ p. EndsAlikeIn (IsOf l) (attempt i (or_failure valueless p) b)
    (attempt j (or_failure valueless p) b)) (sym h.there) (refl, h.is_of)

-- the demand of a place, and the expression inside
pub inside : (env : Environment) (d : Demand) (e : Expr) → wrong_expression env d e ≡ []
    → wrong_within env (expected_of d) e ≡ []
inside env d e h =
    let own = breaking (Mismatch d (typing_of env e))
    (unless (allows d (settled (expected_of d) (typing_of env e))) (first_byte e)) in
    append_second own (wrong_within env (expected_of d) e)
    (sym (append_assoc own (wrong_part env (expected_of d) e)
    (flat_map (wrong_node env) (nodes_below env (expected_of d) e))) ∙ h)

pub asked_right : (env : Environment) (d : Demand) (e : Expr) → wrong_expression env d e ≡ []
    → allows d (settled (expected_of d) (typing_of env e)) ≡ true
asked_right env d e h =
    let own = breaking (Mismatch d (typing_of env e))
    (unless (allows d (settled (expected_of d) (typing_of env e))) (first_byte e)) in
    right_there (Mismatch d (typing_of env e)) _ (first_byte e) (append_first own (wrong_within env (expected_of d) e)
    (sym (append_assoc own (wrong_part env (expected_of d) e)
    (flat_map (wrong_node env) (nodes_below env (expected_of d) e))) ∙ h))

pub met_kind : (k : Option Kind) (ss : Sorts) (t : Typing) → fits k ss t ≡ true → is_nothing t ≡ false
    → (m : Kind) × (t ≡ elementary m)
met_kind k ss untyped h i = absurd (cc)
met_kind k ss (elementary m) h i = (m, refl)
met_kind k ss composite h i = absurd (cc)
met_kind k ss nothing h i = absurd (cc)

pub kind_asked : (env : Environment) → AreKnown env → (k : Option Kind) (ss : Sorts) (p : Purpose) (e : Expr)
    → wrong_expression env (asked k ss p) e ≡ [] → (m : Kind) × (settled k (typing_of env e) ≡ elementary m)
kind_asked env known k ss p e h =
    met_kind k ss (settled k (typing_of env e)) (asked_right env (asked k ss p) e h)
    (settled_known k (typing_of env e) (typing_known env known k e (inside env (asked k ss p) e h)))

then_some : {A B : Type 0} (f : A → Option B) (o : Option A) (y : B) → option_and_then f o ≡ Some y
    → (x : A) × (o ≡ Some x) × (f x ≡ Some y)
then_some f (Some x) y h = (x, refl, h)
then_some f None y h = absurd (cc)

abbrev pub is_asked : Demand → Bool
is_asked (operand k) = false
is_asked (asked k ss p) = true

abbrev pub are_asked : List Demand → Bool
are_asked ds = list_all is_asked ds

bounded_alike : (env : Environment) (w : Scope) (s : Store) (x : Name) (p : Path) (t u : VariableType) (z : ℤ)
    → IsPlace env w s x p t → element_type (definition_of env.text t) ≡ Some u → (c : Bool)
    → (has_part w.image (element_at p z) || has_part s (element_at p z)) ≡ c → (b : ℕ)
    → EndsAlikeIn {A = Path} (λ q. IsPlace env w s x q u) ((if c then give (element_at p z) else fault Index) b)
    ((if c then give (element_at p z) else fault Index) b)
bounded_alike env w s x p t u z h e true is b = (refl, element z h e is)
bounded_alike env w s x p t u z h e false is b = refl

-- the types that resolution expects of arguments are the demands of their places
padded_one : (text : Declared) (u : OrganisationUnit) (es : Exprs)
    → resolved_exprs text u [] es ≡ resolved_exprs text u (None ∷ []) es
padded_one text u no_exprs = refl
padded_one text u (expr_then e es) = refl

padded_two : (text : Declared) (u : OrganisationUnit) (es : Exprs)
    → resolved_exprs text u [] es ≡ resolved_exprs text u (None ∷ None ∷ []) es
padded_two text u no_exprs = refl
padded_two text u (expr_then e es) = ap (expr_then (resolved_expr text u None e)) (padded_one text u es)

pub standard_expected : (text : Declared) (u : OrganisationUnit) (at : ℕ) (std : Standard) (ks : List (Option Kind))
    (es : Exprs)
    → resolved_exprs text u (expected_kinds std ks) es
    ≡ resolved_exprs text u (map expected_of (demands_of_standard at std (common_kind std ks))) es
standard_expected text u at ABS ks es = padded_one text u es
standard_expected text u at MIN ks es = refl
standard_expected text u at MAX ks es = refl
standard_expected text u at LIMIT ks es = refl
standard_expected text u at SEL ks es = refl
standard_expected text u at SHL ks es = padded_two text u es
standard_expected text u at SHR ks es = padded_two text u es
standard_expected text u at ROL ks es = padded_two text u es
standard_expected text u at ROR ks es = padded_two text u es
standard_expected text u at (CONVERT k l) ks es = refl

pub inputs_expected : (at : ℕ) (inputs : List (Option Kind))
    → map expected_of (map (λ i. asked i any (purposes.Argument at)) inputs) ≡ inputs
inputs_expected at [] = refl
inputs_expected at (k ∷ ks) = ap (λ ls. k ∷ ls) (inputs_expected at ks)

pub standard_asked : (at : ℕ) (std : Standard) (k : Option Kind) → are_asked (demands_of_standard at std k) ≡ true
standard_asked at ABS k = refl
standard_asked at MIN k = refl
standard_asked at MAX k = refl
standard_asked at LIMIT k = refl
standard_asked at SEL k = refl
standard_asked at SHL k = refl
standard_asked at SHR k = refl
standard_asked at ROL k = refl
standard_asked at ROR k = refl
standard_asked at (CONVERT k l) j = refl

pub inputs_asked : (at : ℕ) (inputs : List (Option Kind))
    → are_asked (map (λ i. asked i any (purposes.Argument at)) inputs) ≡ true
inputs_asked at [] = refl
inputs_asked at (k ∷ ks) = inputs_asked at ks

kind_given : (k : Option Kind) (o : Option Kind) (l : Kind) → settled k (typing_of_kind o) ≡ elementary l → o ≡ Some l
kind_given k None l h = absurd (cc)
kind_given k (Some m) l h = ap (λ (j : Kind). Some j) (elementary_same m l h)

pub count_right : (reason : Reason) (b : Bool) (p : ℕ) → breaking reason (unless b p) ≡ [] → b ≡ true
count_right reason true p h = refl
count_right reason false p h = absurd (cc)

-- a name alone: a variable of the unit, or a value of an enumerated type
abbrev pub alone_expr : Identifier → Option Member → Expr
alone_expr x o = elim o
    [ Some m ↦ literal (literals.Number (number_of_member x.place m)) | None ↦ read (variable x no_selectors) ]

value_alone : (env : Environment) (w : Scope) (s : Store) (u v : Units) (i j : StuckFaults) (k : Option Kind)
    (x : Identifier) (ms : List Member) (l : Kind) → wrong_reading x.place (reading_among ms) ≡ []
    → settled k (typing_of_reading (reading_among ms)) ≡ elementary l → (b : ℕ)
    → EndsAlikeIn (IsOf l) (value (with_units u i w) s (alone_expr x (only_one ms)) b)
    (value (with_units v j w) s (alone_expr x (only_one ms)) b)
value_alone env w s u v i j k x [] l h is b = absurd (cc)
value_alone env w s u v i j k x (m ∷ []) l h is b =
    attempted (IsOf l) i j (value_of_number (number_of_member x.place m)) b (member_succeeds x.place m l is)
value_alone env w s u v i j k x (m ∷ n ∷ rest) l h is b = absurd (cc)

read_alone : (env : Environment) (w : Scope) (s : Store) (u v : Units) (i j : StuckFaults) → Premises env w s u v
    → (k : Option Kind) (x : Identifier) (o : Option VariableType) (l : Kind) → type_of_name env x.name ≡ o
    → wrong_alone env x.place x.name o ≡ [] → settled k (typing_of_alone env x.name o) ≡ elementary l → (b : ℕ)
    → EndsAlikeIn (IsOf l)
    (value (with_units u i w) s (alone_expr x
    (if is_some o then None else only_one (members_named (enumerations_of env.text.types) x.name))) b)
    (value (with_units v j w) s (alone_expr x
    (if is_some o then None else only_one (members_named (enumerations_of env.text.types) x.name))) b)
read_alone env w s u v i j p k x None l is h t b =
    value_alone env w s u v i j k x (members_named (enumerations_of env.text.types) x.name) l h t b
read_alone env w s u v i j p k x (Some t) l is h e b =
    value_there l (known (seen w.image s (path_in w.frame w.body x.name))) i j b
    (p.agrees.values l (root x.name is) (kind_there env.text k (Some t) l e))

-- a call, from the values of its arguments
abbrev Arguments : Environment → Scope → Store → Units → Units → StuckFaults → StuckFaults → Exprs → Type 0
Arguments env w s u v i j es =
    (ds : List Demand) → (count_of es == length ds) ≡ true → are_asked ds ≡ true
    → flat_map (wrong_node env) (nodes_of_all env ds es) ≡ [] → (b : ℕ)
    → EndsAlikeIn (FitPlaces env ds es)
    (values (with_units u i w) s (resolved_exprs env.text env.unit (map expected_of ds) es) b)
    (values (with_units v j w) s (resolved_exprs env.text env.unit (map expected_of ds) es) b)

call_standard : (env : Environment) (w : Scope) (s : Store) (u v : Units) (i j : StuckFaults) (k : Option Kind)
    (at : ℕ) (std : Standard) (f : Name) (es : Exprs) (l : Kind) → Arguments env w s u v i j es
    → (count_of es == length (demands_of_standard at std (common_kind std (kinds_of (typings_of env es))))) ≡ true
    → flat_map (wrong_node env)
    (nodes_of_all env (demands_of_standard at std (common_kind std (kinds_of (typings_of env es)))) es) ≡ []
    → settled k (typing_of_kind (standard_kind std (kinds_of (typings_of env es)))) ≡ elementary l → (b : ℕ)
    → EndsAlikeIn (IsOf l)
    (follow (values (with_units u i w) s
    (resolved_exprs env.text env.unit (expected_kinds std (own_kinds env.text env.unit es)) es) b)
    (λ vs. attempt i (standard_value std vs)))
    (follow (values (with_units v j w) s
    (resolved_exprs env.text env.unit (expected_kinds std (own_kinds env.text env.unit es)) es) b)
    (λ vs. attempt j (standard_value std vs)))
call_standard env w s u v i j k at std f es l all n h t b =
    let ks = kinds_of (typings_of env es) in
    let ds = demands_of_standard at std (common_kind std ks) in
    let same : resolved_exprs env.text env.unit (expected_kinds std (own_kinds env.text env.unit es)) es
    ≡ resolved_exprs env.text env.unit (map expected_of ds) es =
    ap (λ q. resolved_exprs env.text env.unit (expected_kinds std q) es) (all_kinds_told env es)
    ∙ standard_expected env.text env.unit at std ks es in
    subst (λ (q : Exprs). EndsAlikeIn (IsOf l)
    (follow (values (with_units u i w) s q b) (λ vs. attempt i (standard_value std vs)))
    (follow (values (with_units v j w) s q b) (λ vs. attempt j (standard_value std vs)))) (sym same)
    (alike_then (FitPlaces env ds es) (IsOf l)
    (values (with_units u i w) s (resolved_exprs env.text env.unit (map expected_of ds) es) b)
    (values (with_units v j w) s (resolved_exprs env.text env.unit (map expected_of ds) es) b)
    (λ vs. attempt i (standard_value std vs)) (λ vs. attempt j (standard_value std vs))
    (all ds n (standard_asked at std (common_kind std ks)) h b)
    (λ vs c fit. attempted (IsOf l) i j (standard_value std vs) c
    (standard_succeeds env at std l fit (kind_given k (standard_kind std ks) l t))))

call_own : (env : Environment) (w : Scope) (s : Store) (u v : Units) (i j : StuckFaults) → Premises env w s u v
    → (k : Option Kind) (at : ℕ) (f : Name) (inputs : List (Option Kind)) (result : Option Kind) (es : Exprs) (l : Kind)
    → callee_of env f ≡ Some (own inputs result) → Arguments env w s u v i j es
    → (count_of es == length (map (λ i. asked i any (purposes.Argument at)) inputs)) ≡ true
    → flat_map (wrong_node env) (nodes_of_all env (map (λ i. asked i any (purposes.Argument at)) inputs) es) ≡ []
    → settled k (typing_of_kind result) ≡ elementary l → (b : ℕ)
    → EndsAlikeIn (IsOf l)
    (follow (values (with_units u i w) s (resolved_exprs env.text env.unit inputs es) b) (λ vs. u.functions f vs))
    (follow (values (with_units v j w) s (resolved_exprs env.text env.unit inputs es) b) (λ vs. v.functions f vs))
call_own env w s u v i j p k at f inputs result es l is all n h t b =
    let ds = map (λ i. asked i any (purposes.Argument at)) inputs in
    let result_is = kind_given k result l t in
    let callee : callee_of env f ≡ Some (own inputs (Some l)) =
    is ∙ ap (λ (r : Option Kind). Some (own inputs r)) result_is in
    subst (λ (q : List (Option Kind)). EndsAlikeIn (IsOf l)
    (follow (values (with_units u i w) s (resolved_exprs env.text env.unit q es) b) (λ vs. u.functions f vs))
    (follow (values (with_units v j w) s (resolved_exprs env.text env.unit q es) b) (λ vs. v.functions f vs)))
    (inputs_expected at inputs)
    (alike_then (FitPlaces env ds es) (IsOf l)
    (values (with_units u i w) s (resolved_exprs env.text env.unit (map expected_of ds) es) b)
    (values (with_units v j w) s (resolved_exprs env.text env.unit (map expected_of ds) es) b)
    (λ vs. u.functions f vs) (λ vs. v.functions f vs)
    (all ds n (inputs_asked at inputs) h b)
    (λ vs c fit. p.units f inputs l vs c callee
    (inputs_fit env at inputs (p.known.inputs f inputs (Some l) callee) fit)))

-- a function of the text by its unit
abbrev pub own_callee : Declared → Option OrganisationUnit → Option Callee
own_callee text o = option_and_then (λ u. callee_of_sort text u.sort u.blocks) o

call_unit : (env : Environment) (w : Scope) (s : Store) (u v : Units) (i j : StuckFaults) → Premises env w s u v
    → (k : Option Kind) (at : ℕ) (f : Name) (es : Exprs) (l : Kind) (o : Option OrganisationUnit)
    → callee_of env f ≡ own_callee env.text o → Arguments env w s u v i j es
    → wrong_call at (own_callee env.text o) (demands_of env at (own_callee env.text o) es) es ≡ []
    → flat_map (wrong_node env) (nodes_of_all env (demands_of env at (own_callee env.text o) es) es) ≡ []
    → settled k (typing_of_callee (own_callee env.text o) (kinds_of (typings_of env es))) ≡ elementary l → (b : ℕ)
    → EndsAlikeIn (IsOf l)
    (follow (values (with_units u i w) s (resolved_exprs env.text env.unit (inputs_of_unit env.text o) es) b)
    (λ vs. u.functions f vs))
    (follow (values (with_units v j w) s (resolved_exprs env.text env.unit (inputs_of_unit env.text o) es) b)
    (λ vs. v.functions f vs))
call_unit env w s u v i j p k at f es l None is all n h t b = absurd (cc)
call_unit env w s u v i j p k at f es l (Some g) is all n h t b = by_sort g.sort g.blocks is n h t
  where
    by_sort : (sort : UnitSort) (bs : List VariableBlock) → callee_of env f ≡ callee_of_sort env.text sort bs
        → wrong_call at (callee_of_sort env.text sort bs) (demands_of env at (callee_of_sort env.text sort bs) es) es
        ≡ []
        → flat_map (wrong_node env) (nodes_of_all env (demands_of env at (callee_of_sort env.text sort bs) es) es) ≡ []
        → settled k (typing_of_callee (callee_of_sort env.text sort bs) (kinds_of (typings_of env es))) ≡ elementary l
        → EndsAlikeIn (IsOf l)
        (follow (values (with_units u i w) s
        (resolved_exprs env.text env.unit (inputs_of_function env.text sort bs) es) b) (λ vs. u.functions f vs))
        (follow (values (with_units v j w) s
        (resolved_exprs env.text env.unit (inputs_of_function env.text sort bs) es) b) (λ vs. v.functions f vs))
    by_sort (Function q) bs e m g r =
        call_own env w s u v i j p k at f (input_kinds env.text bs) (result_kind env.text (Function q)) es l e all
        (count_right _ _ at m) g r b
    by_sort FunctionBlock bs e m g r = absurd (cc)
    by_sort Program bs e m g r = absurd (cc)

abbrev pub callee_by : Environment → Name → Option Standard → Option Callee
callee_by env f o = elim o [ Some std ↦ Some (standard std) | None ↦ own_callee env.text (unit_named env.text.units f) ]

call_alike : (env : Environment) (w : Scope) (s : Store) (u v : Units) (i j : StuckFaults) → Premises env w s u v
    → (k : Option Kind) (at : ℕ) (f : Name) (es : Exprs) (l : Kind) (o : Option Standard)
    → callee_of env f ≡ callee_by env f o → Arguments env w s u v i j es
    → wrong_call at (callee_by env f o) (demands_of env at (callee_by env f o) es) es ≡ []
    → flat_map (wrong_node env) (nodes_of_all env (demands_of env at (callee_by env f o) es) es) ≡ []
    → settled k (typing_of_callee (callee_by env f o) (kinds_of (typings_of env es))) ≡ elementary l → (b : ℕ)
    → EndsAlikeIn (IsOf l)
    (follow (values (with_units u i w) s (resolved_exprs env.text env.unit
    (elim o [
      | Some std ↦ expected_kinds std (own_kinds env.text env.unit es)
      | None ↦ inputs_of_unit env.text (unit_named env.text.units f)
    ]) es) b) (called (with_units u i w) o f))
    (follow (values (with_units v j w) s (resolved_exprs env.text env.unit
    (elim o [
      | Some std ↦ expected_kinds std (own_kinds env.text env.unit es)
      | None ↦ inputs_of_unit env.text (unit_named env.text.units f)
    ]) es) b) (called (with_units v j w) o f))
call_alike env w s u v i j p k at f es l (Some std) is all n h t b =
    call_standard env w s u v i j k at std f es l all (count_right _ _ at n) h t b
call_alike env w s u v i j p k at f es l None is all n h t b =
    call_unit env w s u v i j p k at f es l (unit_named env.text.units f) is all n h t b

pub never : false ≡ true → ⊥
never h = cc

pub too_few : (n : ℕ) → (0 == suc n) ≡ true → ⊥
too_few n h = grind (arith, nat_tests)

pub too_many : (n : ℕ) → (1 + n == 0) ≡ true → ⊥
too_many n h = grind (arith, nat_tests)

pub one_less : (m n : ℕ) → (1 + m == suc n) ≡ true → (m == n) ≡ true
one_less m n h = grind (arith, nat_tests)

mutual
  pub value_alike : (env : Environment) (w : Scope) (s : Store) (u v : Units) (i j : StuckFaults) → Premises env w s u v
      → (k : Option Kind) (e : Expr) → wrong_within env k e ≡ [] → (l : Kind)
      → settled k (typing_of env e) ≡ elementary l → (b : ℕ)
      → EndsAlikeIn (IsOf l) (value (with_units u i w) s (resolved_expr env.text env.unit k e) b)
      (value (with_units v j w) s (resolved_expr env.text env.unit k e) b)
  value_alike env w s u v i j p k (literal x) h l is b =
      attempted (IsOf l) i j (value_of_literal (taking_literal env.text.types (taken_kind k) x)) b
      (literal_succeeds env k x l (own_part env k (literal x) h) is)
  value_alike env w s u v i j p k (read (variable x no_selectors)) h l is b =
      read_alone env w s u v i j p k x (type_of_name env x.name) l refl
      (own_part env k (read (variable x no_selectors)) h) is b
  value_alike env w s u v i j p k (read (variable x (selector_then y ys))) h l is b =
      let there = variable_is_there env p.known x (selector_then y ys)
      (own_part env k (read (variable x (selector_then y ys))) h) in
      let t = there.behind.type_is in
      let kind = kind_there env.text k (Some t) l
      (subst (λ o. settled k (typing_of_type env.text o) ≡ elementary l)
      (type_there env x (selector_then y ys) there) is) in
      alike_then {A = Path} (λ q. IsPlace env w s x.name q t) (IsOf l)
      (selected (with_units u i w) s (path_in w.frame w.body x.name)
      (resolved_selectors env.text env.unit (selector_then y ys)) b)
      (selected (with_units v j w) s (path_in w.frame w.body x.name)
      (resolved_selectors env.text env.unit (selector_then y ys)) b)
      (looked_up (with_units u i w) s) (looked_up (with_units v j w) s)
      (place_alike env w s u v i j p x.name (path_in w.frame w.body x.name) there.declared (root x.name there.named)
      (selector_then y ys) t there.behind.leads
      (append_second (wrong_part env k (read (variable x (selector_then y ys))))
      (flat_map (wrong_node env) (nodes_of_selectors env (selector_then y ys))) h) b)
      (λ q c place. value_there l (known (seen w.image s q)) i j c (p.agrees.values l place kind))
  value_alike env w s u v i j p k (call f es) h l is b =
      call_alike env w s u v i j p k f.place f.name es l (standard_of f.name) refl
      (values_alike env w s u v i j p es) (own_part env k (call f es) h)
      (append_second (wrong_part env k (call f es))
      (flat_map (wrong_node env) (nodes_of_all env (demands_of env f.place (callee_of env f.name) es) es)) h) is b
  value_alike env w s u v i j p k (parenthesis at e) h l is b = value_alike env w s u v i j p k e h l is b
  value_alike env w s u v i j p k (unary op at e) h l is b =
      alike_then (IsOf l) (IsOf l) (value (with_units u i w) s (resolved_expr env.text env.unit k e) b)
      (value (with_units v j w) s (resolved_expr env.text env.unit k e) b)
      (λ x. attempt i (failing (apply_unary op x))) (λ x. attempt j (failing (apply_unary op x)))
      (value_alike env w s u v i j p k e (append_second (wrong_part env k (unary op at e)) (wrong_within env k e) h) l is
      b)
      (λ x c of. attempted (IsOf l) i j (failing (apply_unary op x)) c
      (failed {A = Datum} (IsOf l) (apply_unary op x)
      (subst (λ m. Gives (IsOf m) (apply_unary op x)) of.kind (unary_gives op x))))
  value_alike env w s u v i j p k (binary op x y) h l is b =
      let o = offered k op (typing_of env x) (typing_of env y) in
      let below = below_binary env k op x y h in
      let left = append_first (wrong_within env o x) (wrong_within env o y) below in
      let right = append_second (wrong_within env o x) (wrong_within env o y) below in
      let alike = operands_alike (sorts_of_binary op) (settled o (typing_of env x)) (settled o (typing_of env y))
      (operands_right env k op x y h) (settled_known o (typing_of env x) (typing_known env p.known o x left))
      (settled_known o (typing_of env y) (typing_known env p.known o y right)) in
      let m = alike.0 in
      let one : settled o (typing_of env y) ≡ elementary m =
      alike.3 ∙ ap (λ (q : Kind). elementary q) (sym (same_kind_is alike.0 alike.1 alike.4)) in
      let kind = operation_kind (is_joining op) k (typing_of env x) (typing_of env y) m l alike.2 one is in
      subst (λ (q : Option Kind). EndsAlikeIn (IsOf l)
      (follow (value (with_units u i w) s (resolved_expr env.text env.unit q x) b)
      (λ n c. follow (value (with_units u i w) s (resolved_expr env.text env.unit q y) c)
      (λ r. attempt i (apply op n r))))
      (follow (value (with_units v j w) s (resolved_expr env.text env.unit q x) b)
      (λ n c. follow (value (with_units v j w) s (resolved_expr env.text env.unit q y) c)
      (λ r. attempt j (apply op n r)))))
      (sym (offers env k op x y))
      (alike_then (IsOf m) (IsOf l) (value (with_units u i w) s (resolved_expr env.text env.unit o x) b)
      (value (with_units v j w) s (resolved_expr env.text env.unit o x) b)
      (λ n c. follow (value (with_units u i w) s (resolved_expr env.text env.unit o y) c) (λ r. attempt i (apply op n r)))
      (λ n c. follow (value (with_units v j w) s (resolved_expr env.text env.unit o y) c) (λ r. attempt j (apply op n r)))
      (value_alike env w s u v i j p o x left m alike.2 b)
      (λ n c of. alike_then (IsOf m) (IsOf l) (value (with_units u i w) s (resolved_expr env.text env.unit o y) c)
      (value (with_units v j w) s (resolved_expr env.text env.unit o y) c)
      (λ r. attempt i (apply op n r)) (λ r. attempt j (apply op n r))
      (value_alike env w s u v i j p o y right m one c)
      (λ r d also. attempted (IsOf l) i j (apply op n r) d
      (subst (λ q. Succeeds (IsOf q) (apply op n r)) kind (apply_succeeds op m n r of also)))))

  pub values_alike : (env : Environment) (w : Scope) (s : Store) (u v : Units) (i j : StuckFaults)
      → Premises env w s u v → (es : Exprs) → Arguments env w s u v i j es
  values_alike env w s u v i j p no_exprs [] n a h b = (refl, none)
  values_alike env w s u v i j p no_exprs (d ∷ ds) n a h b = absurd (too_few (length ds) n)
  values_alike env w s u v i j p (expr_then e es) [] n a h b = absurd (too_many (count_of es) n)
  values_alike env w s u v i j p (expr_then e es) (operand k ∷ ds) n a h b = absurd (never a)
  values_alike env w s u v i j p (expr_then e es) (asked k ss purpose ∷ ds) n a h b =
      let d = asked k ss purpose in
      let split : wrong_expression env d e ++ flat_map (wrong_node env) (nodes_of_all env ds es) ≡ [] =
      sym (flat_map-append (wrong_node env) (nodes_of env d e) (nodes_of_all env ds es)) ∙ h in
      let here = append_first (wrong_expression env d e) (flat_map (wrong_node env) (nodes_of_all env ds es)) split in
      let rest = append_second (wrong_expression env d e) (flat_map (wrong_node env) (nodes_of_all env ds es)) split in
      let kind = kind_asked env p.known k ss purpose e here in
      let right : allows d (elementary kind.0) ≡ true =
      subst (λ t. allows d t ≡ true) kind.1 (asked_right env d e here) in
      let ls = map expected_of ds in
      alike_then (IsOf kind.0) (FitPlaces env (d ∷ ds) (expr_then e es))
      (value (with_units u i w) s (resolved_expr env.text env.unit k e) b)
      (value (with_units v j w) s (resolved_expr env.text env.unit k e) b)
      (λ x c. follow (values (with_units u i w) s (resolved_exprs env.text env.unit ls es) c) (λ vs. give (x ∷ vs)))
      (λ x c. follow (values (with_units v j w) s (resolved_exprs env.text env.unit ls es) c) (λ vs. give (x ∷ vs)))
      (value_alike env w s u v i j p k e (inside env d e here) kind.0 kind.1 b)
      (λ x c of. alike_then (FitPlaces env ds es) (FitPlaces env (d ∷ ds) (expr_then e es))
      (values (with_units u i w) s (resolved_exprs env.text env.unit ls es) c)
      (values (with_units v j w) s (resolved_exprs env.text env.unit ls es) c)
      (λ vs. give (x ∷ vs)) (λ vs. give (x ∷ vs))
      (values_alike env w s u v i j p es ds (one_less (count_of es) (length ds) n) a rest c)
      (λ vs r fit. (refl, one_more (record { kind = kind.0; typed = kind.1; right = right; is_of = of }) fit)))

  pub place_alike : (env : Environment) (w : Scope) (s : Store) (u v : Units) (i j : StuckFaults) → Premises env w s u v
      → (x : Name) (q : Path) (t : VariableType) → IsPlace env w s x q t → (xs : Selectors) (r : VariableType)
      → type_after_selectors env.text xs t ≡ Some r → flat_map (wrong_node env) (nodes_of_selectors env xs) ≡ [] → (b : ℕ)
      → EndsAlikeIn {A = Path} (λ y. IsPlace env w s x y r)
      (selected (with_units u i w) s q (resolved_selectors env.text env.unit xs) b)
      (selected (with_units v j w) s q (resolved_selectors env.text env.unit xs) b)
  place_alike env w s u v i j p x q t place no_selectors r is h b =
      let same : t ≡ r = cc in
      (refl, subst (λ y. IsPlace env w s x q y) same place)
  place_alike env w s u v i j p x q t place (selector_then (member y) xs) r is h b =
      let one = then_some (type_after_selectors env.text xs) (selected_type env.text t (member y)) r is in
      place_alike env w s u v i j p x (member_at q y.name) one.0 (part y.name place one.1) xs r one.2 h b
  place_alike env w s u v i j p x q t place (selector_then (subscript e) xs) r is h b =
      let one = then_some (type_after_selectors env.text xs) (selected_type env.text t (subscript e)) r is in
      let d = asked None whole purposes.Subscript in
      let split : wrong_expression env d e ++ flat_map (wrong_node env) (nodes_of_selectors env xs) ≡ [] =
      sym (flat_map-append (wrong_node env) (nodes_of env d e) (nodes_of_selectors env xs)) ∙ h in
      let here = append_first (wrong_expression env d e) (flat_map (wrong_node env) (nodes_of_selectors env xs)) split in
      let rest = append_second (wrong_expression env d e) (flat_map (wrong_node env) (nodes_of_selectors env xs)) split in
      let kind = kind_asked env p.known None whole purposes.Subscript e here in
      alike_then {A = Path} {B = Path} (λ y. IsPlace env w s x y one.0) (λ y. IsPlace env w s x y r)
      (follow (value (with_units u i w) s (resolved_expr env.text env.unit None e) b)
      (λ n. bounded w.image s (element_at q n.number)))
      (follow (value (with_units v j w) s (resolved_expr env.text env.unit None e) b)
      (λ n. bounded w.image s (element_at q n.number)))
      (λ y. selected (with_units u i w) s y (resolved_selectors env.text env.unit xs))
      (λ y. selected (with_units v j w) s y (resolved_selectors env.text env.unit xs))
      (alike_then {A = Datum} {B = Path} (IsOf kind.0) (λ y. IsPlace env w s x y one.0)
      (value (with_units u i w) s (resolved_expr env.text env.unit None e) b)
      (value (with_units v j w) s (resolved_expr env.text env.unit None e) b)
      (λ n. bounded w.image s (element_at q n.number)) (λ n. bounded w.image s (element_at q n.number))
      (value_alike env w s u v i j p None e (inside env d e here) kind.0 kind.1 b)
      (λ n c of. bounded_alike env w s x q t one.0 n.number place one.1
      (has_part w.image (element_at q n.number) || has_part s (element_at q n.number)) refl c))
      (λ y c there. place_alike env w s u v i j p x y one.0 there xs r one.2 rest c)

pub values_are_sound : ValuesAreSound
values_are_sound env w s u v i j d e k budget agrees units known h is =
    value_alike env w s u v i j (record { agrees = agrees; units = units; known = known }) (expected_of d) e
    (inside env d e h) k is budget
