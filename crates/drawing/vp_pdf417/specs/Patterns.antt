-- The patterns of codewords (ISO/IEC 15438, clusters, and annex A).
use Rattle.std.specs.Prelude.{ℕ, zero, suc, ◌+◌, ◌-◌, ◌*◌, ◌%◌, ◌==◌, ◌&&◌, nat_le, Bool, List, [], ◌∷◌, length, slice_index, if◌then◌else◌}
use Rattle.std.specs.List.{list_all}
use Rattle.std.specs.Int.{bit_at}
use Rattle.vp_pdf417.specs.declared.cluster_0.TheConstants.{CLUSTER_0}
use Rattle.vp_pdf417.specs.declared.cluster_3.TheConstants.{CLUSTER_3}
use Rattle.vp_pdf417.specs.declared.cluster_6.TheConstants.{CLUSTER_6}

-- the inner 15 modules of a codeword, in the cluster of a row
unfoldable pub inner : ℕ → ℕ → ℕ
inner row codeword =
    if row % 3 == 0 then slice_index CLUSTER_0 codeword
    else if row % 3 == 1 then slice_index CLUSTER_3 codeword
    else slice_index CLUSTER_6 codeword

-- the 17 modules, the leftmost highest, 1 dark and 0 light: the first is dark, and the last light
abbrev pub pattern : ℕ → ℕ → ℕ
pattern row codeword = 65536 + 2 * inner row codeword

-- the widths of bars and spaces, of which the first is so wide by now, in the n lowest bits of a number
abbrev pub widths_from : ℕ → ℕ → ℕ → ℕ → List ℕ
widths_from color wide modules zero = wide ∷ []
widths_from color wide modules (suc n) =
    if bit_at modules n == color then widths_from color (wide + 1) modules n
    else wide ∷ widths_from (1 - color) 1 modules n

abbrev pub widths : ℕ → List ℕ
widths modules = widths_from 1 0 modules 17

-- four bars and four spaces of one to six modules, whose cluster is (b1 - b2 + b3 - b4 + 9) mod 9 by the bars
abbrev pub is_of_cluster : ℕ → List ℕ → Bool
is_of_cluster cluster w = length w == 8 && list_all (λ wide. nat_le 1 wide && nat_le wide 6) w
    && (slice_index w 0 + slice_index w 4 + 18 - slice_index w 2 - slice_index w 6) % 9 == cluster

-- all of a table's are
abbrev pub are_of_cluster : ℕ → List ℕ → Bool
are_of_cluster cluster table = length table == 929
    && list_all (λ modules. is_of_cluster cluster (widths (65536 + 2 * modules))) table
