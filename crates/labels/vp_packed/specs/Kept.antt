-- Where the code stands in signs, and what it wrote.
use Rattle.std.specs.Prelude.{◌≡◌, ℕ, List, [], ◌∷◌, Option, Some, None, Result, Ok, Err}
use Rattle.vp_packed.specs.declared.sign.Place.{Place}
use Rattle.vp_packed.specs.declared.sign.Group.{Group}
use Rattle.vp_packed.specs.declared.text.Refusal.{Refusal}
use Rattle.vp_packed.specs.Base64.{values, bytes_from}

abbrev pub at : Group → Place × ℕ
at group = (group.place, group.last)

-- the bytes of the values that come
abbrev pub behind : Group → List ℕ → List ℕ
behind group vs = bytes_from group.place group.last vs

-- the bytes that signs spell
abbrev pub spelled : Group → List ℕ → List ℕ
spelled group signs = behind group (values signs)

abbrev pub listed : Option ℕ → List ℕ
listed None = []
listed (Some byte) = byte ∷ []

-- what was answered is what is said: these bytes were written, or why not
abbrev pub Written : {X : Type 0} → Result X Refusal → List ℕ → Result (List ℕ) Refusal → Type 0
Written (Ok x) out said = said ≡ Ok out
Written (Err refusal) out said = said ≡ Err refusal
