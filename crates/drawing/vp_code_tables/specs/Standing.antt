-- Where a decoder stands, by the bytes that it took and the units that it gave.
use Rattle.std.specs.Prelude.{ℕ, ◌≡◌, List, ◌++◌}
use Rattle.vp_code_tables.specs.declared.decoder.Decoder.{Decoder}
use Rattle.vp_code_tables.specs.declared.unit.Decoded.{Decoded}
use Rattle.vp_code_tables.specs.Begun.{begun_bytes}
use Rattle.vp_code_tables.specs.Units.{units}

-- The decoder took these bytes and gave these units: whatever bytes come behind, these are the first units,
-- and the others are those of what is begun and what comes.
pub record Stands (decoder : Decoder) (bytes : List ℕ) (given : List Decoded) : Type 0 where
  pub same : (more : List ℕ) → units decoder.encoding (bytes ++ more)
      ≡ given ++ units decoder.encoding (begun_bytes decoder.begun ++ more)
