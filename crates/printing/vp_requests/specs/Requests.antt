-- What a stream asks, in the order in which it is known.
use Rattle.std.specs.Prelude.{ℕ, Bool, true, false, List, [], ◌∷◌, ◌++◌, if◌then◌else◌}
use Rattle.vp_language.specs.declared.language.Language.{Language}
use Rattle.vp_language.specs.declared.language.Language.TheVariants as languages
use Rattle.vp_requests.specs.declared.request.Request.{Request}
use Rattle.vp_requests.specs.RealTime.{real_time_request}
use Rattle.vp_requests.specs.Units.{unit_request}
use Rattle.vp_requests.specs.Labels.{label_request, last_request}

-- of a receipt's requests that one byte makes known, the real-time one comes first
abbrev pub receipt_request : List ℕ → ℕ → List Request
receipt_request before c = real_time_request before c ++ unit_request before c

module _ (known : List ℕ → ℕ → List Request) where
  -- what each of these bytes makes known, behind those before
  abbrev pub behind : List ℕ → List ℕ → List Request
  behind before [] = []
  behind before (c ∷ bytes) = known before c ++ behind (before ++ c ∷ []) bytes

unfoldable pub receipt_requests : List ℕ → List Request
receipt_requests bytes = behind receipt_request [] bytes

unfoldable pub label_requests : List ℕ → List Request
label_requests bytes = behind label_request [] bytes

-- of a receipt's, those in real time alone, and those of units alone
unfoldable pub real_time_requests : List ℕ → List Request
real_time_requests bytes = behind real_time_request [] bytes

unfoldable pub unit_requests : List ℕ → List Request
unit_requests bytes = behind unit_request [] bytes

abbrev pub is_label : Language → Bool
is_label languages.Label = true
is_label languages.WholeLabel = true
is_label _ = false

-- what each byte makes known, one after the other
abbrev pub requests : Language → List ℕ → List Request
requests language bytes = if is_label language then label_requests bytes else receipt_requests bytes

-- and what the end of the stream does
abbrev pub last_requests : Language → List ℕ → List Request
last_requests language bytes = if is_label language then last_request bytes else []
