-- The tables of the patterns of bars and spaces.
use Rattle.std.specs.Prelude.{ℕ, ◌-◌, List, [], ◌∷◌, map, reverse, codes, slice_index_or}

-- the numbers of some digits
abbrev pub numbers : List ℕ → List ℕ
numbers digits = map (λ c. c - 48) digits

-- the nine elements of each character of Code 39 in the order of its values, 1 for a wide one (ISO/IEC
-- 16388, table 1)
abbrev pub code39_table : List (List ℕ)
code39_table =
    numbers (codes "000110100") ∷
    numbers (codes "100100001") ∷
    numbers (codes "001100001") ∷
    numbers (codes "101100000") ∷
    numbers (codes "000110001") ∷
    numbers (codes "100110000") ∷
    numbers (codes "001110000") ∷
    numbers (codes "000100101") ∷
    numbers (codes "100100100") ∷
    numbers (codes "001100100") ∷
    numbers (codes "100001001") ∷
    numbers (codes "001001001") ∷
    numbers (codes "101001000") ∷
    numbers (codes "000011001") ∷
    numbers (codes "100011000") ∷
    numbers (codes "001011000") ∷
    numbers (codes "000001101") ∷
    numbers (codes "100001100") ∷
    numbers (codes "001001100") ∷
    numbers (codes "000011100") ∷
    numbers (codes "100000011") ∷
    numbers (codes "001000011") ∷
    numbers (codes "101000010") ∷
    numbers (codes "000010011") ∷
    numbers (codes "100010010") ∷
    numbers (codes "001010010") ∷
    numbers (codes "000000111") ∷
    numbers (codes "100000110") ∷
    numbers (codes "001000110") ∷
    numbers (codes "000010110") ∷
    numbers (codes "110000001") ∷
    numbers (codes "011000001") ∷
    numbers (codes "111000000") ∷
    numbers (codes "010010001") ∷
    numbers (codes "110010000") ∷
    numbers (codes "011010000") ∷
    numbers (codes "010000101") ∷
    numbers (codes "110000100") ∷
    numbers (codes "011000100") ∷
    numbers (codes "010101000") ∷
    numbers (codes "010100010") ∷
    numbers (codes "010001010") ∷
    numbers (codes "000101010") ∷
    numbers (codes "010010100") ∷
    []

abbrev pub code39_pattern : ℕ → List ℕ
code39_pattern v = slice_index_or code39_table v []

-- the widths of the elements of each character of Code 128, in modules (ISO/IEC 15417, table 1); the last
-- is the stop
abbrev pub code128_table : List (List ℕ)
code128_table =
    numbers (codes "212222") ∷ numbers (codes "222122") ∷ numbers (codes "222221") ∷
    numbers (codes "121223") ∷ numbers (codes "121322") ∷ numbers (codes "131222") ∷
    numbers (codes "122213") ∷ numbers (codes "122312") ∷ numbers (codes "132212") ∷
    numbers (codes "221213") ∷ numbers (codes "221312") ∷ numbers (codes "231212") ∷
    numbers (codes "112232") ∷ numbers (codes "122132") ∷ numbers (codes "122231") ∷
    numbers (codes "113222") ∷ numbers (codes "123122") ∷ numbers (codes "123221") ∷
    numbers (codes "223211") ∷ numbers (codes "221132") ∷ numbers (codes "221231") ∷
    numbers (codes "213212") ∷ numbers (codes "223112") ∷ numbers (codes "312131") ∷
    numbers (codes "311222") ∷ numbers (codes "321122") ∷ numbers (codes "321221") ∷
    numbers (codes "312212") ∷ numbers (codes "322112") ∷ numbers (codes "322211") ∷
    numbers (codes "212123") ∷ numbers (codes "212321") ∷ numbers (codes "232121") ∷
    numbers (codes "111323") ∷ numbers (codes "131123") ∷ numbers (codes "131321") ∷
    numbers (codes "112313") ∷ numbers (codes "132113") ∷ numbers (codes "132311") ∷
    numbers (codes "211313") ∷ numbers (codes "231113") ∷ numbers (codes "231311") ∷
    numbers (codes "112133") ∷ numbers (codes "112331") ∷ numbers (codes "132131") ∷
    numbers (codes "113123") ∷ numbers (codes "113321") ∷ numbers (codes "133121") ∷
    numbers (codes "313121") ∷ numbers (codes "211331") ∷ numbers (codes "231131") ∷
    numbers (codes "213113") ∷ numbers (codes "213311") ∷ numbers (codes "213131") ∷
    numbers (codes "311123") ∷ numbers (codes "311321") ∷ numbers (codes "331121") ∷
    numbers (codes "312113") ∷ numbers (codes "312311") ∷ numbers (codes "332111") ∷
    numbers (codes "314111") ∷ numbers (codes "221411") ∷ numbers (codes "431111") ∷
    numbers (codes "111224") ∷ numbers (codes "111422") ∷ numbers (codes "121124") ∷
    numbers (codes "121421") ∷ numbers (codes "141122") ∷ numbers (codes "141221") ∷
    numbers (codes "112214") ∷ numbers (codes "112412") ∷ numbers (codes "122114") ∷
    numbers (codes "122411") ∷ numbers (codes "142112") ∷ numbers (codes "142211") ∷
    numbers (codes "241211") ∷ numbers (codes "221114") ∷ numbers (codes "413111") ∷
    numbers (codes "241112") ∷ numbers (codes "134111") ∷ numbers (codes "111242") ∷
    numbers (codes "121142") ∷ numbers (codes "121241") ∷ numbers (codes "114212") ∷
    numbers (codes "124112") ∷ numbers (codes "124211") ∷ numbers (codes "411212") ∷
    numbers (codes "421112") ∷ numbers (codes "421211") ∷ numbers (codes "212141") ∷
    numbers (codes "214121") ∷ numbers (codes "412121") ∷ numbers (codes "111143") ∷
    numbers (codes "111341") ∷ numbers (codes "131141") ∷ numbers (codes "114113") ∷
    numbers (codes "114311") ∷ numbers (codes "411113") ∷ numbers (codes "411311") ∷
    numbers (codes "113141") ∷ numbers (codes "114131") ∷ numbers (codes "311141") ∷
    numbers (codes "411131") ∷ numbers (codes "211412") ∷ numbers (codes "211214") ∷
    numbers (codes "211232") ∷
    numbers (codes "2331112") ∷ []

abbrev pub code128_pattern : ℕ → List ℕ
code128_pattern v = slice_index_or code128_table v []

-- the modules of the digits in number set A, 1 for black (ISO/IEC 15420, table 1)
abbrev pub set_a_table : List (List ℕ)
set_a_table =
    numbers (codes "0001101") ∷ numbers (codes "0011001") ∷ numbers (codes "0010011") ∷
    numbers (codes "0111101") ∷ numbers (codes "0100011") ∷ numbers (codes "0110001") ∷
    numbers (codes "0101111") ∷ numbers (codes "0111011") ∷ numbers (codes "0110111") ∷
    numbers (codes "0001011") ∷ []

abbrev pub set_a : ℕ → List ℕ
set_a d = slice_index_or set_a_table d []

-- set C has them black for white
abbrev pub set_c : ℕ → List ℕ
set_c d = map (λ m. 1 - m) (set_a d)

-- set B is set C reversed
abbrev pub set_b : ℕ → List ℕ
set_b d = reverse (set_c d)

-- the sets of the left six digits by the first of the thirteen: 0 for A, 1 for B (table 2)
abbrev pub parity_table : List (List ℕ)
parity_table =
    numbers (codes "000000") ∷ numbers (codes "001011") ∷ numbers (codes "001101") ∷
    numbers (codes "001110") ∷ numbers (codes "010011") ∷ numbers (codes "011001") ∷
    numbers (codes "011100") ∷ numbers (codes "010101") ∷ numbers (codes "010110") ∷
    numbers (codes "011010") ∷ []

abbrev pub parity : ℕ → List ℕ
parity d = slice_index_or parity_table d []
