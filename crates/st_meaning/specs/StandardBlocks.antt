-- The standard function blocks, as functions from the members before a call to those after it.
-- Members are in the order of the layout: inputs, outputs, and those that are hidden from texts.
use Rattle.std.specs.Prelude.{ℕ, ℤ, pos, ◌+ℤ◌, ◌-ℤ◌, int_lt, int_le, List, [], ◌∷◌, ◌++◌, Bool, true, false, ◌&&◌, ◌||◌}
use Rattle.std.specs.Prelude.{not, if◌then◌else◌, Option, Some, None, codes, bytes_eq}
use Rattle.std.specs.Int.{int_min, int_max}
use Rattle.st_types.specs.declared.kind.Kind.{Kind}
use Rattle.st_types.specs.declared.kind.Kind.TheVariants.{Int, Time, Bool as Boolean}
use Rattle.st_types.specs.Kinds.{least, greatest}
use Rattle.st_types.specs.Values.{Datum, bool_datum, is_true}

pub data StandardBlock : Type 0 where
  SR : StandardBlock
  RS : StandardBlock
  R_TRIG : StandardBlock
  F_TRIG : StandardBlock
  CTU : StandardBlock
  CTD : StandardBlock
  CTUD : StandardBlock
  TON : StandardBlock
  TOF : StandardBlock
  TP : StandardBlock

-- the standard block of a name
unfoldable pub block_of : List ℕ → Option StandardBlock
block_of x =
    if bytes_eq x (codes "SR") then Some SR
    else if bytes_eq x (codes "RS") then Some RS
    else if bytes_eq x (codes "R_TRIG") then Some R_TRIG
    else if bytes_eq x (codes "F_TRIG") then Some F_TRIG
    else if bytes_eq x (codes "CTU") then Some CTU
    else if bytes_eq x (codes "CTD") then Some CTD
    else if bytes_eq x (codes "CTUD") then Some CTUD
    else if bytes_eq x (codes "TON") then Some TON
    else if bytes_eq x (codes "TOF") then Some TOF
    else if bytes_eq x (codes "TP") then Some TP
    else None

-- a member: its name and its type; all start as FALSE, 0 or T#0s
abbrev pub BlockMember : Type 0
BlockMember = List ℕ × Kind

abbrev pub bool : List ℕ → BlockMember
bool x = (x, Boolean)

abbrev pub inputs_of : StandardBlock → List BlockMember
inputs_of SR = bool (codes "S1") ∷ bool (codes "R") ∷ []
inputs_of RS = bool (codes "S") ∷ bool (codes "R1") ∷ []
inputs_of R_TRIG = bool (codes "CLK") ∷ []
inputs_of F_TRIG = bool (codes "CLK") ∷ []
inputs_of CTU = bool (codes "CU") ∷ bool (codes "R") ∷ (codes "PV", Int) ∷ []
inputs_of CTD = bool (codes "CD") ∷ bool (codes "LD") ∷ (codes "PV", Int) ∷ []
inputs_of CTUD = bool (codes "CU") ∷ bool (codes "CD") ∷ bool (codes "R") ∷ bool (codes "LD") ∷ (codes "PV", Int) ∷ []
inputs_of TON = bool (codes "IN") ∷ (codes "PT", Time) ∷ []
inputs_of TOF = bool (codes "IN") ∷ (codes "PT", Time) ∷ []
inputs_of TP = bool (codes "IN") ∷ (codes "PT", Time) ∷ []

abbrev pub outputs_of : StandardBlock → List BlockMember
outputs_of SR = bool (codes "Q1") ∷ []
outputs_of RS = bool (codes "Q1") ∷ []
outputs_of R_TRIG = bool (codes "Q") ∷ []
outputs_of F_TRIG = bool (codes "Q") ∷ []
outputs_of CTU = bool (codes "Q") ∷ (codes "CV", Int) ∷ []
outputs_of CTD = bool (codes "Q") ∷ (codes "CV", Int) ∷ []
outputs_of CTUD = bool (codes "QU") ∷ bool (codes "QD") ∷ (codes "CV", Int) ∷ []
outputs_of TON = bool (codes "Q") ∷ (codes "ET", Time) ∷ []
outputs_of TOF = bool (codes "Q") ∷ (codes "ET", Time) ∷ []
outputs_of TP = bool (codes "Q") ∷ (codes "ET", Time) ∷ []

-- the members that texts can't reach
abbrev pub hidden_of : StandardBlock → List BlockMember
hidden_of SR = []
hidden_of RS = []
hidden_of R_TRIG = bool (codes "M") ∷ []
hidden_of F_TRIG = bool (codes "M") ∷ []
hidden_of CTU = bool (codes "M") ∷ []
hidden_of CTD = bool (codes "M") ∷ []
hidden_of CTUD = bool (codes "MU") ∷ bool (codes "MD") ∷ []
hidden_of TON = bool (codes "RUN") ∷ (codes "START", Time) ∷ []
hidden_of TOF = bool (codes "RUN") ∷ (codes "START", Time) ∷ []
hidden_of TP = bool (codes "RUN") ∷ (codes "START", Time) ∷ []

-- all members in the order of the layout
abbrev pub members_of : StandardBlock → List BlockMember
members_of b = inputs_of b ++ outputs_of b ++ hidden_of b

-- one more or one less, but not past the ends of INT
abbrev pub one_up : ℤ → ℤ
one_up z = if int_lt z (greatest Int) then z +ℤ pos 1 else z

abbrev pub one_down : ℤ → ℤ
one_down z = if int_lt (least Int) z then z -ℤ pos 1 else z

-- an edge: the input is TRUE, and its memory is not
abbrev pub edge : Bool → Bool → Bool
edge input memory = input && not memory

-- the next count of a counter that is neither reset nor loaded
abbrev pub counted : Bool → Bool → ℤ → ℤ
counted up down z = if up && down then z else if up then one_up z else if down then one_down z else z

-- the next counts: a reset or a load comes before the edges
abbrev pub up_count : Bool → Bool → ℤ → ℤ
up_count reset up z = if reset then pos 0 else counted up false z

abbrev pub down_count : Bool → ℤ → Bool → ℤ → ℤ
down_count load pv down z = if load then pv else counted false down z

abbrev pub up_down_count : Bool → Bool → ℤ → Bool → Bool → ℤ → ℤ
up_down_count reset load pv up down z = if reset then pos 0 else if load then pv else counted up down z

-- the next states of the bistables: SR is set first, and RS reset first
abbrev pub set_first : Bool → Bool → Bool → Bool
set_first set reset q = set || (not reset && q)

abbrev pub reset_first : Bool → Bool → Bool → Bool
reset_first set reset q = not reset && (set || q)

-- a timer's outputs and hidden members
pub record Timer : Type 0 where
  pub q : Bool
  pub et : ℤ
  pub run : Bool
  pub start : ℤ

-- a timer that is to run: it starts unless it runs
abbrev pub running : ℕ → Timer → Timer
running now t = if t.run then t else record { q = t.q; et = t.et; run = true; start = pos now }

-- the time since the start
abbrev pub elapsed : ℕ → Timer → ℤ
elapsed now t = int_max (pos 0) (pos now -ℤ t.start)

-- a running timer with its time; Q is TRUE from pt on, or before it
abbrev pub timed_from : ℕ → ℤ → Timer → Timer
timed_from now pt t =
    record { q = int_le pt (elapsed now t); et = int_min (elapsed now t) pt; run = t.run; start = t.start }

abbrev pub timed_until : ℕ → ℤ → Timer → Timer
timed_until now pt t =
    record { q = int_lt (elapsed now t) pt; et = int_min (elapsed now t) pt; run = t.run; start = t.start }

abbrev pub stopped : Bool → Timer → Timer
stopped q t = record { q = q; et = pos 0; run = false; start = t.start }

-- on delay: Q follows IN once IN was TRUE for pt
abbrev pub on_delay : ℕ → Bool → ℤ → Timer → Timer
on_delay now input pt t = if input then timed_from now pt (running now t) else stopped false t

-- off delay: Q is TRUE while IN is, and for pt after it
abbrev pub off_delay : ℕ → Bool → ℤ → Timer → Timer
off_delay now input pt t =
    if input then stopped true t
    else if t.q || t.run then timed_until now pt (running now t)
    else t

-- pulse: Q is TRUE for pt from the rise of IN; a pulse that is over ends with IN
abbrev pub ended : ℕ → Bool → ℤ → Timer → Timer
ended now input pt t =
    if int_le pt (elapsed now t) && not input then record { q = t.q; et = pos 0; run = false; start = t.start } else t

abbrev pub pulse : ℕ → Bool → ℤ → Timer → Timer
pulse now input pt t =
    if input || t.run then ended now input pt (timed_until now pt (running now t))
    else t

abbrev pub int : ℤ → Datum
int z = record { kind = Int; number = z }

abbrev pub time : ℤ → Datum
time z = record { kind = Time; number = z }

-- A PT below 0 is read as 0.
abbrev pub timer_stepped : (ℕ → Bool → ℤ → Timer → Timer) → ℕ → Datum → Datum → Timer → List Datum
timer_stepped step now input pt t =
    let u = step now (is_true input) (int_max (pos 0) pt.number) t in
    input ∷ pt ∷ bool_datum u.q ∷ time u.et ∷ bool_datum u.run ∷ time u.start ∷ []

abbrev pub timer_of : Datum → Datum → Datum → Datum → Timer
timer_of q et run start = record { q = is_true q; et = et.number; run = is_true run; start = start.number }

-- the members after a call at a moment
abbrev pub stepped : StandardBlock → ℕ → List Datum → List Datum
stepped SR now (s1 ∷ r ∷ q1 ∷ []) = s1 ∷ r ∷ bool_datum (set_first (is_true s1) (is_true r) (is_true q1)) ∷ []
stepped RS now (s ∷ r1 ∷ q1 ∷ []) = s ∷ r1 ∷ bool_datum (reset_first (is_true s) (is_true r1) (is_true q1)) ∷ []
stepped R_TRIG now (clk ∷ q ∷ m ∷ []) =
    clk ∷ bool_datum (edge (is_true clk) (is_true m)) ∷ bool_datum (is_true clk) ∷ []
stepped F_TRIG now (clk ∷ q ∷ m ∷ []) =
    clk ∷ bool_datum (edge (not (is_true clk)) (is_true m)) ∷ bool_datum (not (is_true clk)) ∷ []
stepped CTU now (cu ∷ r ∷ pv ∷ q ∷ cv ∷ m ∷ []) =
    let z = up_count (is_true r) (edge (is_true cu) (is_true m)) cv.number in
    cu ∷ r ∷ pv ∷ bool_datum (int_le pv.number z) ∷ int z ∷ bool_datum (is_true cu) ∷ []
stepped CTD now (cd ∷ ld ∷ pv ∷ q ∷ cv ∷ m ∷ []) =
    let z = down_count (is_true ld) pv.number (edge (is_true cd) (is_true m)) cv.number in
    cd ∷ ld ∷ pv ∷ bool_datum (int_le z (pos 0)) ∷ int z ∷ bool_datum (is_true cd) ∷ []
stepped CTUD now (cu ∷ cd ∷ r ∷ ld ∷ pv ∷ qu ∷ qd ∷ cv ∷ mu ∷ md ∷ []) =
    let z = up_down_count (is_true r) (is_true ld) pv.number (edge (is_true cu) (is_true mu))
    (edge (is_true cd) (is_true md)) cv.number in
    cu ∷ cd ∷ r ∷ ld ∷ pv ∷ bool_datum (int_le pv.number z) ∷ bool_datum (int_le z (pos 0)) ∷ int z
    ∷ bool_datum (is_true cu) ∷ bool_datum (is_true cd) ∷ []
stepped TON now (input ∷ pt ∷ q ∷ et ∷ run ∷ start ∷ []) = timer_stepped on_delay now input pt (timer_of q et run start)
stepped TOF now (input ∷ pt ∷ q ∷ et ∷ run ∷ start ∷ []) =
    timer_stepped off_delay now input pt (timer_of q et run start)
stepped TP now (input ∷ pt ∷ q ∷ et ∷ run ∷ start ∷ []) = timer_stepped pulse now input pt (timer_of q et run start)
stepped _ now members = members
