-- The requests that a receipt printer answers as they arrive (ESC/POS, "real-time commands").
use Rattle.std.specs.Prelude.{ℕ, ◌==◌, Bool, ◌&&◌, ◌||◌, List, [], ◌∷◌, ◌++◌, length}
use Rattle.std.specs.Prelude.{suc, nat_lt, nat_le, slice_index, if◌then◌else◌}
use Rattle.vp_requests.specs.declared.real_time.Part.{Part}
use Rattle.vp_requests.specs.declared.real_time.Part.TheVariants.{Whole, Begun, Neither}
use Rattle.vp_requests.specs.declared.request.Ask.{Ask}
use Rattle.vp_requests.specs.declared.request.Ask.TheVariants as asks
use Rattle.vp_requests.specs.declared.request.Request.{Request}
use Rattle.vp_requests.specs.Request.{ending_at}

abbrev pub begun_if : Bool → Part
begun_if so = if so then Begun else Neither

abbrev pub whole_if : Bool → Part
whole_if so = if so then Whole else Neither

abbrev pub is_within : ℕ → ℕ → ℕ → Bool
is_within low high n = nat_le low n && nat_le n high

-- DLE EOT n: 1 to 4, or 7, 8 or 18 and one more
abbrev pub status_part : List ℕ → Part
status_part [] = Begun
status_part (n ∷ []) = if is_within 1 4 n then Whole else begun_if (n == 0x07 || n == 0x08 || n == 0x12)
status_part (n ∷ a ∷ _) = whole_if ((n == 0x07 || n == 0x12) && is_within 1 2 a || n == 0x08 && a == 3)

-- DLE ENQ n: 0 to 2
abbrev pub recover_part : List ℕ → Part
recover_part [] = Begun
recover_part (n ∷ _) = whole_if (nat_le n 2)

-- DLE DC4 1 m t: the drawer's pin, 0 or 1, and the time, 1 to 8
abbrev pub pulse_part : List ℕ → Part
pulse_part [] = Begun
pulse_part (m ∷ []) = begun_if (nat_le m 1)
pulse_part (m ∷ t ∷ _) = whole_if (nat_le m 1 && is_within 1 8 t)

-- DLE DC4 3 a n r t1 t2: the buzzer
abbrev pub buzzer_part : List ℕ → Part
buzzer_part args = if nat_lt (length args) 5 then Begun else Whole

-- DLE DC4 7 m: 1, 2, 4 or 5
abbrev pub state_part : List ℕ → Part
state_part [] = Begun
state_part (m ∷ _) = whole_if (is_within 1 2 m || is_within 4 5 m)

-- the bytes of a row, one by one
abbrev pub row_part : List ℕ → List ℕ → Part
row_part [] args = Whole
row_part (b ∷ row) [] = Begun
row_part (b ∷ row) (a ∷ args) = if a == b then row_part row args else Neither

-- DLE DC4 2: the power off; DLE DC4 8: what is received thrown away
abbrev pub power_off : List ℕ
power_off = 0x01 ∷ 0x08 ∷ []

abbrev pub clear : List ℕ
clear = 0x01 ∷ 0x03 ∷ 0x14 ∷ 0x01 ∷ 0x06 ∷ 0x02 ∷ 0x08 ∷ []

-- DLE DC4
abbrev pub action_part : List ℕ → Part
action_part [] = Begun
action_part (n ∷ args) =
    if n == 0x01 then pulse_part args
    else if n == 0x02 then row_part power_off args
    else if n == 0x03 then buzzer_part args
    else if n == 0x07 then state_part args
    else if n == 0x08 then row_part clear args
    else Neither

abbrev pub part_behind : List ℕ → Part
part_behind [] = Begun
part_behind (b ∷ args) =
    if b == 0x04 then status_part args
    else if b == 0x05 then recover_part args
    else if b == 0x14 then action_part args
    else Neither

-- what bytes are of a request
unfoldable pub part_of : List ℕ → Part
part_of [] = Begun
part_of (b ∷ bytes) = if b == 0x10 then part_behind bytes else Neither

-- what a whole one asks
abbrev pub ask_named : ℕ → Ask
ask_named b = if b == 0x04 then asks.Status else if b == 0x05 then asks.Recover else asks.RealTime

abbrev pub ask_of : List ℕ → Ask
ask_of bytes = ask_named (slice_index bytes 1)

-- one more byte behind a request that is begun: where they are none together, only a DLE may begin another
abbrev pub begun_by : Part → List ℕ → ℕ → List ℕ
begun_by Whole begun c = []
begun_by Begun begun c = begun ++ c ∷ []
begun_by Neither begun c = if c == 0x10 then c ∷ [] else []

unfoldable pub begun_on : List ℕ → List ℕ → List ℕ
begun_on begun [] = begun
begun_on begun (c ∷ bytes) = begun_on (begun_by (part_of (begun ++ c ∷ [])) begun c) bytes

-- the bytes at the end that are a request's so far
unfoldable pub begun : List ℕ → List ℕ
begun bytes = begun_on [] bytes

-- a request whose last byte is that of these bytes
abbrev pub if_whole : Part → List ℕ → ℕ → List Request
if_whole Whole request end = ending_at end (ask_of request) 2 request ∷ []
if_whole _ request end = []

-- what a byte asks in real time, behind those before
abbrev pub real_time_request : List ℕ → ℕ → List Request
real_time_request before c =
    if_whole (part_of (begun before ++ c ∷ [])) (begun before ++ c ∷ []) (suc (length before))
