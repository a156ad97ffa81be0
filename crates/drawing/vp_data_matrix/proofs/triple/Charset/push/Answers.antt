use Rattle.std.proofs.Common.{ℕ, List, ◌++◌, ◌∷◌, [], ◌∙◌, arith, ap, length, length-append}
use Rattle.vp_data_matrix.specs.Triples.{pairs, unlatch}
use Rattle.vp_data_matrix.proofs.TripleWords.{length-pairs, length-triples, triples_written}
use Rattle.vp_data_matrix.proofs.triple.Charset.push.Goals as goal

pub push-requires : goal.push-requires
push-requires c = (omega arith, omega (arith, length-triples c.args.full c.args.self c.args.src.now c.front-front.result.bytes c.front-front.ensures.bytes))

pub values-requires : goal.values-requires
values-requires c = omega (arith, length-triples c.args.full c.args.self c.args.src.now c.front-front.result.bytes c.front-front.ensures.bytes)

pub push_pairs-requires-clause-room : goal.push_pairs-requires-clause-room
push_pairs-requires-clause-room c =
    omega (
      arith,
      length-triples c.args.full c.args.self c.args.src.now c.front-front.result.bytes c.front-front.ensures.bytes,
      length-pairs c.as_slice.result.now,
      ap length (c.as_slice.ensures.value ∙ c.values.ensures.values),
      c.push.ensures.len,
    )

pub push_unlatch-requires : goal.push_unlatch-requires
push_unlatch-requires c =
    omega (
      arith,
      length-triples c.args.full c.args.self c.args.src.now c.front-front.result.bytes c.front-front.ensures.bytes,
      length-pairs c.as_slice.result.now,
      ap length (c.as_slice.ensures.value ∙ c.values.ensures.values),
      c.push.ensures.len,
      ap length c.push_pairs.ensures,
      length-append c.push.new.self.items (pairs c.as_slice.result.now),
      ap (λ (n : ℕ). length (unlatch c.args.full n)) c.ascii_length.ensures.length,
    )

pub push_ascii-requires : goal.push_ascii-requires
push_ascii-requires c =
    omega (
      arith,
      length-triples c.args.full c.args.self c.args.src.now c.front-front.result.bytes c.front-front.ensures.bytes,
      length-pairs c.as_slice.result.now,
      ap length (c.as_slice.ensures.value ∙ c.values.ensures.values),
      c.push.ensures.len,
      ap length c.push_pairs.ensures,
      length-append c.push.new.self.items (pairs c.as_slice.result.now),
      ap (λ (n : ℕ). length (unlatch c.args.full n)) c.ascii_length.ensures.length,
      ap length c.push_unlatch.ensures,
      length-append c.push_pairs.new.words.items (unlatch c.args.full c.ascii_length.result),
    )

pub returns : goal.returns
returns c =
    triples_written c.args.full c.args.self c.args.words.now.items c.push.new.self.items c.push_pairs.new.words.items c.push_unlatch.new.words.items _ c.args.src.now c.front-front.result.bytes c.front-front.ensures.bytes
    (c.push.ensures.items ∙ ap (λ (n : ℕ). c.args.words.now.items ++ n ∷ []) c.latch.ensures)
    (c.push_pairs.ensures ∙ ap (λ (l : List ℕ). c.push.new.self.items ++ pairs l) (c.as_slice.ensures.value ∙ c.values.ensures.values))
    (c.push_unlatch.ensures ∙ ap (λ (n : ℕ). c.push_pairs.new.words.items ++ unlatch c.args.full n) c.ascii_length.ensures.length) c.push_ascii.ensures
