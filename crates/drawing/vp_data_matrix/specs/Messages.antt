-- The data codewords of bytes (ISO/IEC 16022, 5.2).
use Rattle.std.specs.Prelude.{ℕ, ◌==◌, ◌&&◌, nat_lt, nat_le, Bool, true, length, List, [], ◌∷◌, ◌++◌, if◌then◌else◌}
use Rattle.std.specs.List.{list_all}
use Rattle.vp_data_matrix.specs.declared.message.Lead.{Lead}
use Rattle.vp_data_matrix.specs.declared.message.Lead.TheVariants.{Plain, Gs1, Macro05, Macro06}
use Rattle.vp_data_matrix.specs.declared.message.Scheme.{Scheme}
use Rattle.vp_data_matrix.specs.declared.message.Scheme.TheVariants.{Ascii, Triples, Edifact, Base256}
use Rattle.vp_data_matrix.specs.declared.triple.Charset.TheVariants.{C40, Text, X12}
use Rattle.vp_data_matrix.specs.Ascii.{ascii}
use Rattle.vp_data_matrix.specs.Triples.{has, triples}
use Rattle.vp_data_matrix.specs.Edifact.{edifact_has, edifact}
use Rattle.vp_data_matrix.specs.Base256.{base_256}

-- what stands before the data: FNC1 (5.2.4.6), or a macro's codeword (5.2.4.7)
abbrev pub lead_words : Lead → List ℕ
lead_words Plain = []
lead_words Gs1 = 232 ∷ []
lead_words Macro05 = 236 ∷ []
lead_words Macro06 = 237 ∷ []

-- a scheme has all these bytes
abbrev pub takes : Scheme → List ℕ → Bool
takes Ascii src = true
takes (Triples set) src = list_all (has set) src
takes Edifact src = list_all edifact_has src && nat_le 2 (length src)
takes Base256 src = true

-- the codewords of bytes behind so many others, where they fill the symbol or don't
abbrev pub encoded : Bool → Scheme → ℕ → List ℕ → List ℕ
encoded full Ascii before src = ascii src
encoded full (Triples set) before src = triples full set src
encoded full Edifact before src = edifact src
encoded full Base256 before src = base_256 before src

-- another scheme than one, where it has these bytes and takes fewer codewords
unfoldable pub better : List ℕ → Scheme → Scheme → Scheme
better src one other =
    let fewer = nat_lt (length (encoded true other 0 src)) (length (encoded true one 0 src)) in
    if takes other src && fewer then other else one

-- the scheme of the fewest codewords, where these fill a symbol; of those that take as many the first in the
-- standard's order: ASCII, C40, Text, X12, EDIFACT, base 256
abbrev pub scheme_of : List ℕ → Scheme
scheme_of src =
    let of_two = better src Ascii (Triples C40) in
    let of_three = better src of_two (Triples Text) in
    let of_four = better src of_three (Triples X12) in
    better src (better src of_four Edifact) Base256

-- the codewords of bytes behind a lead
unfoldable pub message : Bool → Lead → List ℕ → List ℕ
message full lead src = lead_words lead ++ encoded full (scheme_of src) (length (lead_words lead)) src

-- those in a symbol that has so many data codewords
unfoldable pub message_in : ℕ → Lead → List ℕ → List ℕ
message_in capacity lead src = message (length (message true lead src) == capacity) lead src
