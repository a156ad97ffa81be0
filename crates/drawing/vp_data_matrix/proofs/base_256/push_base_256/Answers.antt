use Rattle.std.proofs.Common.{arith, ◌+◌, length, length-append, ap}
use Rattle.vp_data_matrix.specs.Base256.{length_field, randomised_from}
use Rattle.vp_data_matrix.proofs.Words.{length-base_256, length-randomised, base_256_most, base_256_written}
use Rattle.vp_data_matrix.proofs.base_256.push_base_256.Goals as goal

pub push-requires : goal.push-requires
push-requires c = (omega arith, omega (arith, length-base_256 (length c.args.words.now.items) c.args.src.now))

pub push_length-requires-clause-most : goal.push_length-requires-clause-most
push_length-requires-clause-most c = base_256_most (length c.args.words.now.items) c.args.src.now (omega arith)

pub push_length-requires-clause-room : goal.push_length-requires-clause-room
push_length-requires-clause-room c = omega (arith, length-base_256 (length c.args.words.now.items) c.args.src.now, c.push.ensures.len)

pub push_randomised-requires : goal.push_randomised-requires
push_randomised-requires c =
    omega (
      arith,
      length-base_256 (length c.args.words.now.items) c.args.src.now,
      c.push.ensures.len,
      ap length c.push_length.ensures,
      length-append c.push.new.self.items (randomised_from (length c.push.new.self.items + 1) (length_field (length c.args.src.now))),
      length-randomised (length c.push.new.self.items + 1) (length_field (length c.args.src.now)),
    )

pub returns : goal.returns
returns c = base_256_written _ _ _ _ _ c.push.ensures.items c.push_length.ensures c.push_randomised.ensures
