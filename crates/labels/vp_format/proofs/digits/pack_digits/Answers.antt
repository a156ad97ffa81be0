use Rattle.std.proofs.Common.{◌+◌, get_or, refl, arith}
use Rattle.std.proofs.lemmas.Simd.{get_or-put_chunk_below}
use Rattle.vp_format.specs.Codes.{code_of}
use Rattle.vp_format.proofs.Lanes.{value_by}
use Rattle.vp_format.proofs.Plain.{tested, valued, all_digits, paired_lanes, lane_value}
use Rattle.vp_format.proofs.digits.pack_digits.Goals as goal

pub returns-clause-kept : goal.returns-clause-kept
returns-clause-kept c k l = get_or-put_chunk_below c.args.i c.args.row.now _ k 0 l

pub returns-clause-digits : goal.returns-clause-digits
unfolding code_of
returns-clause-digits c _ k l =
    let bytes = c.args.bytes.now in
    all_digits bytes c.args.at 16 c.requires.bytes (omega arith) (tested bytes c.args.at 16 c.requires.bytes refl refl) (omega (arith, c.if-least-ne0.false)) (λ i. (c.type_inv.bytes i).fits) refl k l

pub returns-clause-packed : goal.returns-clause-packed
unfolding code_of
returns-clause-packed c all k l =
    paired_lanes lane_value c.args.bytes.now c.args.row.now _ c.args.at c.args.i 8 k c.requires.bytes c.requires.room l (valued c.args.bytes.now c.args.at 16 c.requires.bytes refl refl)
    (λ j m. value_by lane_value (get_or c.args.bytes.now (c.args.at + j) 0) refl (c.type_inv.bytes (c.args.at + j)).fits (returns-clause-digits c all j m)) (returns-clause-digits c all)
