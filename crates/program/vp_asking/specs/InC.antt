-- A request as C is told it.
use Rattle.std.specs.Prelude.{ℕ, ◌++◌, List, length, drop, replicate, Option, None, Some}
use Rattle.vp_requests.specs.declared.request.Request.{Request}
use Rattle.vp_requests.specs.declared.request.TheConstants.{MOST_ARGUMENTS}
use Rattle.vp_requests.specs.Request.{name_of}
use Rattle.vp_asking.specs.declared.request.RequestOfC.{RequestOfC}

-- bytes at the front of some room
abbrev pub padded : List ℕ → List ℕ → List ℕ
padded room bytes = bytes ++ drop (length bytes) room

abbrev pub zeros : ℕ → List ℕ
zeros n = replicate n 0

abbrev pub request_in_c : Request → RequestOfC
request_in_c request = record {
  name = padded (zeros 8) (name_of request.ask);
  start = request.start;
  end = request.end;
  count = length request.arguments.items;
  arguments = padded (zeros MOST_ARGUMENTS) request.arguments.items;
}

-- all zeros where there is none
abbrev pub found_in_c : Option Request → RequestOfC
found_in_c None = record { name = zeros 8; start = 0; end = 0; count = 0; arguments = zeros MOST_ARGUMENTS }
found_in_c (Some request) = request_in_c request
