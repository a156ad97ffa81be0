-- What a call tells of requests: all that the reader's says.
use Rattle.std.specs.Prelude.{◌≡◌, ◌≤◌, ◌<◌, ◌++◌, ℕ, List, [], length, take, option_to_list, Option, None}
use Rattle.vp_language.specs.declared.language.Language.{Language}
use Rattle.vp_requests.specs.declared.request.Request.{Request}
use Rattle.vp_requests.specs.declared.requests.Requests.{Requests}
use Rattle.vp_requests.specs.Requests.{requests, last_requests}
use Rattle.vp_requests.specs.Standing.{Told, IsFront}
use Rattle.vp_asking.specs.declared.request.RequestOfC.{RequestOfC}
use Rattle.vp_asking.specs.InC.{found_in_c}

-- behind no bytes of a stream of this language
abbrev pub IsNew : Language → Requests → Type 0
IsNew language new = Told language new [] []

-- so many bytes were taken, up to the one that makes this request known, or all of them where there is none
pub record IsNext (old new : Requests) (input : List ℕ) (taken : ℕ) (request : RequestOfC) : Type 0 where
  pub found : Option Request
  pub in_c : request ≡ found_in_c found
  pub fits : taken ≤ length input
  pub told : (language : Language) (bytes : List ℕ) (told : List Request) → Told language old bytes told
      → Told language new (bytes ++ take taken input) (told ++ option_to_list found)
  pub first : (language : Language) (bytes : List ℕ) (told : List Request) → Told language old bytes told
      → IsFront (told ++ option_to_list found) (requests language (bytes ++ take taken input))
  pub at_its_byte : (language : Language) (bytes : List ℕ) (told : List Request) (n : ℕ)
      → Told language old bytes told → n < taken → requests language (bytes ++ take n input) ≡ told
  pub all_taken : found ≡ None → taken ≡ length input
  pub all_told : found ≡ None → (language : Language) (bytes : List ℕ) (told : List Request)
      → Told language old bytes told → requests language (bytes ++ input) ≡ told

-- what the end of the stream asks
pub record IsLast (r : Requests) (request : RequestOfC) : Type 0 where
  pub found : Option Request
  pub in_c : request ≡ found_in_c found
  pub last : (language : Language) (bytes : List ℕ) (told : List Request) → Told language r bytes told
      → option_to_list found ≡ last_requests language bytes
