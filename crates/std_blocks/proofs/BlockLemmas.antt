-- Calls of standard blocks on members that are there, and on ones that are not.
use Rattle.std.proofs.Common.{◌≡◌, ℕ, suc, List, [], ◌∷◌, ◌++◌, length, refl, sym, ap, subst, ◌∙◌, arith}
use Rattle.std.proofs.Common.{Option, Some, None, Result, Ok, Err, option_map, Bool, true, false, not, if◌then◌else◌}
use Rattle.std.proofs.Common.{◌&&◌}
use Rattle.std.specs.Prelude.{ℤ, pos, int_le, option_and_then, slice_get, slice_set}
use Rattle.st_types.specs.Values.{Datum, bool_datum, is_true}
use Rattle.st_meaning.specs.Failures.{Failure, ill_typed, or_failure}
use Rattle.st_meaning.specs.Ticks.{proceed}
use Rattle.st_meaning.specs.StandardBlocks.{StandardBlock, BlockMember, members_of, stepped, SR, RS, R_TRIG, F_TRIG}
use Rattle.st_meaning.specs.StandardBlocks.{set_first}
use Rattle.st_meaning.specs.StandardBlocks.{CTU, CTD, CTUD, up_count, down_count, up_down_count, int}
use Rattle.st_types.specs.declared.kind.Kind.TheVariants.{Int}
use Rattle.std.specs.Int.{int_max}
use Rattle.st_meaning.specs.StandardBlocks.{reset_first, edge, Timer, TON, TOF, TP, on_delay, off_delay, pulse, timer_of}
use Rattle.st_meaning.specs.StandardBlocks.{time}
use Rattle.st_types.specs.Kinds.{holds, same_kind}
use Rattle.st_meaning.specs.Stores.{may_replace}
use Rattle.slot_trees.specs.SlotExecution.{Slots, stored_at, stored_over}
use Rattle.slot_trees.specs.SlotRuns.{member_slots, members_stored}
use Rattle.st_types.specs.declared.fault.Fault.{Fault}
use Rattle.st_types.specs.declared.fault.Fault.TheVariants.{Conversion}
use Rattle.std_blocks.specs.Members.{values_from, all_stored, block_stepped, Leaves}

-- members are read as that number of values
read_so : (vs : Slots) (k : ℕ) (ms : List BlockMember) → member_slots vs k ms ≡ values_from vs k (length ms)
unfolding values_from
read_so vs k [] = refl
read_so vs k (m ∷ ms) = ap (λ r. option_and_then (λ v. option_map (λ xs. v
    ∷ xs) r) (slice_get vs k)) (read_so vs (suc k) ms)

by_first : (f g : Slots → Result Slots Failure) (r : Result Slots Failure) → ((us : Slots) → f us ≡ g us)
    → proceed r f ≡ proceed r g
by_first f g (Err e) h = refl
by_first f g (Ok us) h = h us

-- and stored so, if there are as many
stored_so : (vs : Slots) (k : ℕ) (ms : List BlockMember) (xs : List Datum) → length ms ≡ length xs
    → members_stored vs k ms xs ≡ all_stored vs k xs
unfolding all_stored
stored_so vs k [] [] e = refl
stored_so vs k [] (x ∷ xs) e = absurd (omega (arith, e))
stored_so vs k (m ∷ ms) [] e = absurd (omega (arith, e))
stored_so vs k (m ∷ ms) (x ∷ xs) e =
    by_first _ _ (stored_at vs k x) (λ us. stored_so us (suc k) ms xs (omega (arith, e)))

-- if members don't exist, the call ends
pub no_members : (b : StandardBlock) (now at : ℕ) (vs : Slots) → values_from vs at (length (members_of b)) ≡ None
    → block_stepped b now at vs ≡ Err ill_typed
unfolding block_stepped
no_members b now at vs e =
    ap (λ r. proceed (or_failure ill_typed r) (λ xs. members_stored vs at (members_of b) (stepped b now xs)))
    (read_so vs at (members_of b) ∙ e)

-- if they do, they step
pub members_there : (b : StandardBlock) (now at : ℕ) (vs : Slots) (xs : List Datum)
    → values_from vs at (length (members_of b)) ≡ Some xs
    → length (members_of b) ≡ length (stepped b now xs)
    → block_stepped b now at vs ≡ all_stored vs at (stepped b now xs)
unfolding block_stepped
members_there b now at vs xs e l =
    ap (λ r. proceed (or_failure ill_typed r) (λ ys. members_stored vs at (members_of b) (stepped b now ys)))
    (read_so vs at (members_of b) ∙ e)
    ∙ stored_so vs at (members_of b) (stepped b now xs) l

-- a value that is refused next is refused, whatever is stored first
refused_next : (o : Option Datum) (vs : Slots) (k : ℕ) (y : Datum) (f : Slots → Result Slots Failure)
    → ((us : Slots) → f us ≡ Err ill_typed) → proceed (stored_over o vs k y) f ≡ Err ill_typed
refused_next None vs k y f h = refl
refused_next (Some old) vs k y f h = by_test (may_replace old y)
  where
    by_test : (t : Bool) → proceed (if t then Ok (slice_set vs k y) else Err ill_typed) f ≡ Err ill_typed
    by_test true = h (slice_set vs k y)
    by_test false = refl

unheld_here : (o : Option Datum) (vs : Slots) (k : ℕ) (x : Datum) (f : Slots → Result Slots Failure)
    → holds x.kind x.number ≡ false → proceed (stored_over o vs k x) f ≡ Err ill_typed
unheld_here None vs k x f h = refl
unheld_here (Some old) vs k x f h = by_test (same_kind old.kind x.kind) (holds x.kind x.number) h
  where
    by_test : (a b : Bool) → b ≡ false
        → proceed (if a && b then Ok (slice_set vs k x) else Err ill_typed) f ≡ Err ill_typed
    by_test true b e = rw e refl
    by_test false b e = refl

-- a value that its type does not hold is not stored, whatever is before it
pub unheld : (vs : Slots) (k : ℕ) (xs ys : List Datum) (x : Datum) → holds x.kind x.number ≡ false
    → all_stored vs k (xs ++ x ∷ ys) ≡ Err ill_typed
unfolding all_stored
unheld vs k [] ys x h = unheld_here (slice_get vs k) vs k x _ h
unheld vs k (y ∷ xs) ys x h =
    refused_next (slice_get vs k) vs k y _ (λ us. unheld us (suc k) xs ys x h)

-- so the call leaves the slots with its members' new values
pub stepped_so : (b : StandardBlock) (now at : ℕ) (vs new : Slots) (xs ys : List Datum) (r : Result (Unit {0}) Fault)
    → values_from vs at (length (members_of b)) ≡ Some xs → stepped b now xs ≡ ys
    → length (members_of b) ≡ length ys → Leaves r (all_stored vs at ys) new → Leaves r (block_stepped b now at vs) new
stepped_so b now at vs new xs ys r e f l h =
    let P : Result Slots Failure → Type 0 = λ t. Leaves r t new in
    let same : length (members_of b) ≡ length (stepped b now xs) = l ∙ ap length (sym f) in
    subst P (sym (members_there b now at vs xs e same ∙ ap (all_stored vs at) f)) h

-- the blocks of three members
pub set_first_steps : (now at : ℕ) (vs new : Slots) (set reset q : Datum) (r : Result (Unit {0}) Fault)
    → values_from vs at 3 ≡ Some (set ∷ reset ∷ q ∷ [])
    → Leaves r (all_stored vs at (set ∷ reset ∷ bool_datum (set_first (is_true set) (is_true reset) (is_true q))
    ∷ [])) new
    → Leaves r (block_stepped SR now at vs) new
set_first_steps now at vs new set reset q r e h = stepped_so SR now at vs new _ _ r e refl refl h

pub reset_first_steps : (now at : ℕ) (vs new : Slots) (set reset q : Datum) (r : Result (Unit {0}) Fault)
    → values_from vs at 3 ≡ Some (set ∷ reset ∷ q ∷ [])
    → Leaves r (all_stored vs at (set ∷ reset ∷ bool_datum (reset_first (is_true set) (is_true reset) (is_true q))
    ∷ [])) new
    → Leaves r (block_stepped RS now at vs) new
reset_first_steps now at vs new set reset q r e h = stepped_so RS now at vs new _ _ r e refl refl h

pub rising_steps : (now at : ℕ) (vs new : Slots) (clk q m : Datum) (r : Result (Unit {0}) Fault)
    → values_from vs at 3 ≡ Some (clk ∷ q ∷ m ∷ [])
    → Leaves r (all_stored vs at (clk ∷ bool_datum (edge (is_true clk) (is_true m)) ∷ bool_datum (is_true clk)
    ∷ [])) new
    → Leaves r (block_stepped R_TRIG now at vs) new
rising_steps now at vs new clk q m r e h = stepped_so R_TRIG now at vs new _ _ r e refl refl h

pub falling_steps : (now at : ℕ) (vs new : Slots) (clk q m : Datum) (r : Result (Unit {0}) Fault)
    → values_from vs at 3 ≡ Some (clk ∷ q ∷ m ∷ [])
    → Leaves r (all_stored vs at (clk ∷ bool_datum (edge (not (is_true clk)) (is_true m))
    ∷ bool_datum (not (is_true clk)) ∷ [])) new
    → Leaves r (block_stepped F_TRIG now at vs) new
falling_steps now at vs new clk q m r e h = stepped_so F_TRIG now at vs new _ _ r e refl refl h

-- an answer with the fault for what is ill typed
pub refused : (r : Result (Unit {0}) Fault) (t : Result Slots Failure) (new : Slots) → r ≡ Err Conversion
    → t ≡ Err ill_typed → Leaves r t new
refused (Ok u) t new e h = absurd cc
refused (Err f) t new e h = (h, cc)

-- the counters
pub unheld_count : (vs : Slots) (at : ℕ) (a b p q m : Datum) (z : ℤ) → holds Int z ≡ false
    → all_stored vs at (a ∷ b ∷ p ∷ q ∷ int z ∷ m ∷ []) ≡ Err ill_typed
unheld_count vs at a b p q m z h = unheld vs at (a ∷ b ∷ p ∷ q ∷ []) (m ∷ []) (int z) h

pub unheld_up_down : (vs : Slots) (at : ℕ) (a b c d p q r m n : Datum) (z : ℤ) → holds Int z ≡ false
    → all_stored vs at (a ∷ b ∷ c ∷ d ∷ p ∷ q ∷ r ∷ int z ∷ m ∷ n ∷ []) ≡ Err ill_typed
unheld_up_down vs at a b c d p q r m n z h =
    unheld vs at (a ∷ b ∷ c ∷ d ∷ p ∷ q ∷ r ∷ []) (m ∷ n ∷ []) (int z) h

pub up_steps : (now at : ℕ) (vs new : Slots) (cu r pv q cv m : Datum) (answer : Result (Unit {0}) Fault)
    → values_from vs at 6 ≡ Some (cu ∷ r ∷ pv ∷ q ∷ cv ∷ m ∷ []) → (z : ℤ)
    → z ≡ up_count (is_true r) (edge (is_true cu) (is_true m)) cv.number
    → Leaves answer (all_stored vs at (cu ∷ r ∷ pv ∷ bool_datum (int_le pv.number z) ∷ int z
    ∷ bool_datum (is_true cu) ∷ [])) new
    → Leaves answer (block_stepped CTU now at vs) new
up_steps now at vs new cu r pv q cv m answer e z f h =
    let P : ℤ → Type 0 = λ z. Leaves answer (all_stored vs at (cu ∷ r ∷ pv ∷ bool_datum (int_le pv.number z) ∷ int z
    ∷ bool_datum (is_true cu) ∷ [])) new in
    stepped_so CTU now at vs new _ _ answer e refl refl (subst P f h)

pub down_steps : (now at : ℕ) (vs new : Slots) (cd ld pv q cv m : Datum) (answer : Result (Unit {0}) Fault)
    → values_from vs at 6 ≡ Some (cd ∷ ld ∷ pv ∷ q ∷ cv ∷ m ∷ []) → (z : ℤ)
    → z ≡ down_count (is_true ld) pv.number (edge (is_true cd) (is_true m)) cv.number
    → Leaves answer (all_stored vs at (cd ∷ ld ∷ pv ∷ bool_datum (int_le z (pos 0)) ∷ int z
    ∷ bool_datum (is_true cd) ∷ [])) new
    → Leaves answer (block_stepped CTD now at vs) new
down_steps now at vs new cd ld pv q cv m answer e z f h =
    let P : ℤ → Type 0 = λ z. Leaves answer (all_stored vs at (cd ∷ ld ∷ pv ∷ bool_datum (int_le z (pos 0)) ∷ int z
    ∷ bool_datum (is_true cd) ∷ [])) new in
    stepped_so CTD now at vs new _ _ answer e refl refl (subst P f h)

pub up_down_steps : (now at : ℕ) (vs new : Slots) (cu cd r ld pv qu qd cv mu md : Datum)
    (answer : Result (Unit {0}) Fault)
    → values_from vs at 10 ≡ Some (cu ∷ cd ∷ r ∷ ld ∷ pv ∷ qu ∷ qd ∷ cv ∷ mu ∷ md ∷ []) → (z : ℤ)
    → z ≡ up_down_count (is_true r) (is_true ld) pv.number (edge (is_true cu) (is_true mu))
    (edge (is_true cd) (is_true md)) cv.number
    → Leaves answer (all_stored vs at (cu ∷ cd ∷ r ∷ ld ∷ pv ∷ bool_datum (int_le pv.number z)
    ∷ bool_datum (int_le z (pos 0)) ∷ int z ∷ bool_datum (is_true cu) ∷ bool_datum (is_true cd) ∷ [])) new
    → Leaves answer (block_stepped CTUD now at vs) new
up_down_steps now at vs new cu cd r ld pv qu qd cv mu md answer e z f h =
    let P : ℤ → Type 0 = λ z. Leaves answer (all_stored vs at (cu ∷ cd ∷ r ∷ ld ∷ pv
    ∷ bool_datum (int_le pv.number z) ∷ bool_datum (int_le z (pos 0)) ∷ int z ∷ bool_datum (is_true cu)
    ∷ bool_datum (is_true cd) ∷ [])) new in
    stepped_so CTUD now at vs new _ _ answer e refl refl (subst P f h)

pub same_ten : (a b c d p q q' r r' v v' m m' n n' : Datum) → q ≡ q' → r ≡ r' → v ≡ v' → m ≡ m' → n ≡ n'
    → a ∷ b ∷ c ∷ d ∷ p ∷ q ∷ r ∷ v ∷ m ∷ n ∷ [] ≡ a ∷ b ∷ c ∷ d ∷ p ∷ q' ∷ r' ∷ v' ∷ m' ∷ n' ∷ []
same_ten a b c d p q q' r r' v v' m m' n n' e f g h k = rw (e, f, g, h, k) refl

pub same_six : (a b q q' t t' r r' s s' : Datum) → q ≡ q' → t ≡ t' → r ≡ r' → s ≡ s'
    → a ∷ b ∷ q ∷ t ∷ r ∷ s ∷ [] ≡ a ∷ b ∷ q' ∷ t' ∷ r' ∷ s' ∷ []
same_six a b q q' t t' r r' s s' e f g h = rw (e, f, g, h) refl

-- the timers
abbrev pub put_so : Slots → ℕ → Datum → Datum → Timer → Result Slots Failure
put_so vs at input pt u = all_stored vs at (input ∷ pt ∷ bool_datum u.q ∷ time u.et ∷ bool_datum u.run
    ∷ time u.start ∷ [])

pub on_delay_steps : (now at : ℕ) (vs new : Slots) (input pt q et run start : Datum) (answer : Result (Unit {0}) Fault)
    → values_from vs at 6 ≡ Some (input ∷ pt ∷ q ∷ et ∷ run ∷ start ∷ []) → (u : Timer)
    → u ≡ on_delay now (is_true input) (int_max (pos 0) pt.number) (timer_of q et run start)
    → Leaves answer (put_so vs at input pt u) new → Leaves answer (block_stepped TON now at vs) new
on_delay_steps now at vs new input pt q et run start answer e u f h =
    let P : Timer → Type 0 = λ u. Leaves answer (put_so vs at input pt u) new in
    stepped_so TON now at vs new _ _ answer e refl refl (subst P f h)

pub off_delay_steps : (now at : ℕ) (vs new : Slots) (input pt q et run start : Datum)
    (answer : Result (Unit {0}) Fault)
    → values_from vs at 6 ≡ Some (input ∷ pt ∷ q ∷ et ∷ run ∷ start ∷ []) → (u : Timer)
    → u ≡ off_delay now (is_true input) (int_max (pos 0) pt.number) (timer_of q et run start)
    → Leaves answer (put_so vs at input pt u) new → Leaves answer (block_stepped TOF now at vs) new
off_delay_steps now at vs new input pt q et run start answer e u f h =
    let P : Timer → Type 0 = λ u. Leaves answer (put_so vs at input pt u) new in
    stepped_so TOF now at vs new _ _ answer e refl refl (subst P f h)

pub pulse_steps : (now at : ℕ) (vs new : Slots) (input pt q et run start : Datum) (answer : Result (Unit {0}) Fault)
    → values_from vs at 6 ≡ Some (input ∷ pt ∷ q ∷ et ∷ run ∷ start ∷ []) → (u : Timer)
    → u ≡ pulse now (is_true input) (int_max (pos 0) pt.number) (timer_of q et run start)
    → Leaves answer (put_so vs at input pt u) new → Leaves answer (block_stepped TP now at vs) new
pulse_steps now at vs new input pt q et run start answer e u f h =
    let P : Timer → Type 0 = λ u. Leaves answer (put_so vs at input pt u) new in
    stepped_so TP now at vs new _ _ answer e refl refl (subst P f h)
