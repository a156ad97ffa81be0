-- How much room the handle of an allocator takes.
use Rattle.std.specs.Prelude.{◌≤◌, ◌^◌}
use Rattle.std.specs.Mem.{type_size}
use denote.RattleType.{RattleType}
use denote.Memory.{lone}
use prog.Memory.{align}

-- a handle of at most 2^20 bytes
abbrev pub IsSmall : RattleType → Type 0
IsSmall A = (type_size A ≤ 2 ^ 20) × ((1 ≤ align (lone A.mir)) × (align (lone A.mir) ≤ 16))
