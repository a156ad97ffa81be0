-- What the calls about requests answer.
use Rattle.std.specs.Prelude.{◌≡◌, ◌⊎◌, ℕ, List, Option, None, Some}
use Rattle.vp_language.specs.declared.language.Language.{Language}
use Rattle.vp_requests.specs.declared.requests.Requests.{Requests}
use Rattle.vp_asking.specs.declared.request.RequestOfC.{RequestOfC}
use Rattle.vp_asking.specs.InC.{found_in_c}
use Rattle.vp_asking.specs.Next.{IsNew, IsNext, IsLast}
use Rattle.vp_calls.specs.Making.{language_of}
use Rattle.vp_calls.specs.declared.answer.TheConstants.{OK, NO_LANGUAGE, NO_MEMORY, NO_PRINTER}

-- what finds requests of the language, which took nothing
pub record IsAsker (number : ℕ) (r : Requests) : Type 0 where
  pub language : Language
  pub language_is : language_of number ≡ Some language
  pub new : IsNew language r

-- what `vp_new_requests` leaves behind the handle, and its answer
abbrev pub IsMadeToAsk : ℕ → Option Requests → ℕ → Type 0
IsMadeToAsk number (Some r) answer = (answer ≡ OK) × IsAsker number r
IsMadeToAsk number None answer = ((answer ≡ NO_LANGUAGE) × (language_of number ≡ None)) ⊎ (answer ≡ NO_MEMORY)

-- behind a handle: nothing is done where there is none
abbrev pub IsNextOf : Option Requests → Option Requests → List ℕ → ℕ → RequestOfC → ℕ → Type 0
IsNextOf None new input taken request answer =
    (answer ≡ NO_PRINTER) × (new ≡ None) × (taken ≡ 0) × (request ≡ found_in_c None)
IsNextOf (Some old) new input taken request answer =
    (answer ≡ OK) × (r : Requests) × (new ≡ Some r) × IsNext old r input taken request

abbrev pub IsLastOf : Option Requests → RequestOfC → ℕ → Type 0
IsLastOf None request answer = (answer ≡ NO_PRINTER) × (request ≡ found_in_c None)
IsLastOf (Some r) request answer = (answer ≡ OK) × IsLast r request
