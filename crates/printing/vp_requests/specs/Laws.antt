-- Words of the laws: requests in real time, found from the left, and those of units one behind the other.
use Rattle.std.specs.Prelude.{ℕ, zero, suc, ◌+◌, ◌-◌, List, [], ◌∷◌, ◌++◌, length}
use Rattle.vp_streams.specs.Count.{counted}
use Rattle.vp_requests.specs.declared.real_time.Part.{Part}
use Rattle.vp_requests.specs.declared.real_time.Part.TheVariants.{Whole, Begun, Neither}
use Rattle.vp_requests.specs.declared.request.Request.{Request}
use Rattle.vp_requests.specs.Request.{request_of}
use Rattle.vp_requests.specs.RealTime.{part_of, ask_of}
use Rattle.vp_requests.specs.Units.{if_asked, ask_of as unit_ask}

-- what stands at the front of bytes: a row of the table, a front of one up to their end, or none
pub data Front : Type 0 where
  Row : (row : List ℕ) → Front
  Open : Front
  NoRow : Front

abbrev pub front_by : Part → List ℕ → Front → Front
front_by Whole row behind = Row row
front_by Begun row behind = behind
front_by Neither row behind = NoRow

-- where these were read of it
abbrev pub front_behind : List ℕ → List ℕ → Front
front_behind read [] = Open
front_behind read (c ∷ bytes) =
    front_by (part_of (read ++ c ∷ [])) (read ++ c ∷ []) (front_behind (read ++ c ∷ []) bytes)

abbrev pub found_in : Front → ℕ → List Request
found_in (Row row) place =
    request_of (ask_of row) 2 row (counted place) (counted (place + length row)) ∷ []
found_in _ place = []

-- how many bytes behind the first are passed: those of the row, or all where one is still open
abbrev pub passed : Front → List ℕ → ℕ
passed (Row row) bytes = length row - 1
passed Open bytes = length bytes
passed NoRow bytes = 0

-- From the left, where so many bytes are passed: a row at the front is a request, and what follows is looked
-- at behind it; where there is none, behind the first byte.
unfoldable pub from_left : ℕ → ℕ → List ℕ → List Request
from_left pass place [] = []
from_left (suc pass) place (c ∷ bytes) = from_left pass (suc place) bytes
from_left zero place (c ∷ bytes) =
    found_in (front_behind [] (c ∷ bytes)) place
    ++ from_left (passed (front_behind [] (c ∷ bytes)) bytes) (suc place) bytes

-- what units ask that stand one behind the other from a place on
unfoldable pub units_ask : ℕ → List (List ℕ) → List Request
units_ask place [] = []
units_ask place (unit ∷ units) =
    if_asked (unit_ask unit) unit (place + length unit) ++ units_ask (place + length unit) units
