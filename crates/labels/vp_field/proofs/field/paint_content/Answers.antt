use Rattle.std.proofs.Common.{◌≡◌, ℤ, rules, w64, to_z, of_z}
use Rattle.std.proofs.lemmas.Int.{to_z-of_z}
use Rattle.vp_field.specs.Standing.{IsNear}
use Rattle.vp_field.proofs.OnLabel.{shown_rows}
use Rattle.vp_field.proofs.field.paint_content.Goals as goal

-- the places of a field that stands near its label fit
left_of : {left top : ℤ} → IsNear left top → to_z w64 (of_z w64 left) ≡ left
left_of {left} n = to_z-of_z w64 left (search (rules, n.left_low, n.left_high))

top_of : {left top : ℤ} → IsNear left top → to_z w64 (of_z w64 top) ≡ top
top_of {left} {top} n = to_z-of_z w64 top (search (rules, n.top_low, n.top_high))

pub returns-in-Text-clause-dots : goal.returns-in-Text-clause-dots
returns-in-Text-clause-dots g c = let n = c.requires.kept.near in rw c.in-Text.is (rw (left_of n, top_of n) at c.paint_text.ensures.dots)

pub returns-in-Block-clause-dots : goal.returns-in-Block-clause-dots
returns-in-Block-clause-dots g c = let n = c.requires.kept.near in rw c.in-Block.is (rw (left_of n, top_of n) at c.paint_block.ensures.dots)

pub returns-in-Box-clause-dots : goal.returns-in-Box-clause-dots
returns-in-Box-clause-dots g c = let n = c.requires.kept.near in rw c.in-Box.is (rw (left_of n, top_of n, left_of n, top_of n) at (rw c.of.ensures at c.paint_frame.ensures.dots))

pub returns-in-Bars-clause-dots : goal.returns-in-Bars-clause-dots
returns-in-Bars-clause-dots g c = let n = c.requires.kept.near in rw c.in-Bars.is (rw (left_of n, top_of n) at c.paint_bars.ensures.dots)

pub returns-in-Qr-clause-dots : goal.returns-in-Qr-clause-dots
returns-in-Qr-clause-dots g c = let n = c.requires.kept.near in rw c.in-Qr.is (rw (left_of n, top_of n, left_of n, top_of n) at (c.paint_qr.ensures.dots c.args.sheets.now))

pub returns-in-Picture-clause-dots : goal.returns-in-Picture-clause-dots
returns-in-Picture-clause-dots g c = let n = c.requires.kept.near in shown_rows _ c.args.field.now.op _ _ _ (rw c.in-Picture.is (rw (left_of n, top_of n, left_of n, top_of n) at (c.paint_picture.ensures.dots c.args.sheets.now)))

pub returns-in-Text-clause-counted : goal.returns-in-Text-clause-counted
returns-in-Text-clause-counted g c = let n = c.requires.kept.near in rw c.in-Text.is (rw (left_of n, top_of n) at c.paint_text.ensures.counted)

pub returns-in-Block-clause-counted : goal.returns-in-Block-clause-counted
returns-in-Block-clause-counted g c = let n = c.requires.kept.near in rw c.in-Block.is (rw (left_of n, top_of n) at c.paint_block.ensures.counted)

pub returns-in-Box-clause-counted : goal.returns-in-Box-clause-counted
returns-in-Box-clause-counted g c = let n = c.requires.kept.near in rw c.in-Box.is (rw (left_of n, top_of n, left_of n, top_of n) at (rw c.of.ensures at c.paint_frame.ensures.counted))

pub returns-in-Bars-clause-counted : goal.returns-in-Bars-clause-counted
returns-in-Bars-clause-counted g c = let n = c.requires.kept.near in rw c.in-Bars.is (rw (left_of n, top_of n) at c.paint_bars.ensures.counted)

pub returns-in-Qr-clause-counted : goal.returns-in-Qr-clause-counted
returns-in-Qr-clause-counted g c = let n = c.requires.kept.near in rw c.in-Qr.is (rw (left_of n, top_of n, left_of n, top_of n) at (c.paint_qr.ensures.counted c.args.sheets.now))

pub returns-in-Picture-clause-counted : goal.returns-in-Picture-clause-counted
returns-in-Picture-clause-counted g c = let n = c.requires.kept.near in rw c.in-Picture.is (rw (left_of n, top_of n, left_of n, top_of n) at (c.paint_picture.ensures.counted c.args.sheets.now))

pub returns-in-Matrix-clause-dots : goal.returns-in-Matrix-clause-dots
returns-in-Matrix-clause-dots g c = let n = c.requires.kept.near in rw c.in-Matrix.is (rw (left_of n, top_of n) at (c.paint_matrix.ensures.dots c.args.sheets.now))

pub returns-in-Ring-clause-dots : goal.returns-in-Ring-clause-dots
returns-in-Ring-clause-dots g c = let n = c.requires.kept.near in rw c.in-Ring.is (rw (left_of n, top_of n, left_of n, top_of n) at (c.paint_ring.ensures.dots c.args.sheets.now c.args.stored.now))

pub returns-in-Diagonal-clause-dots : goal.returns-in-Diagonal-clause-dots
returns-in-Diagonal-clause-dots g c = let n = c.requires.kept.near in rw c.in-Diagonal.is (rw (left_of n, top_of n, left_of n, top_of n) at (c.paint_diagonal.ensures.dots c.args.sheets.now c.args.stored.now))

pub returns-in-Matrix-clause-counted : goal.returns-in-Matrix-clause-counted
returns-in-Matrix-clause-counted g c = let n = c.requires.kept.near in rw c.in-Matrix.is (rw (left_of n, top_of n) at (c.paint_matrix.ensures.counted c.args.sheets.now))

pub returns-in-Ring-clause-counted : goal.returns-in-Ring-clause-counted
returns-in-Ring-clause-counted g c = let n = c.requires.kept.near in rw c.in-Ring.is (rw (left_of n, top_of n, left_of n, top_of n) at (c.paint_ring.ensures.counted c.args.sheets.now c.args.stored.now))

pub returns-in-Diagonal-clause-counted : goal.returns-in-Diagonal-clause-counted
returns-in-Diagonal-clause-counted g c = let n = c.requires.kept.near in rw c.in-Diagonal.is (rw (left_of n, top_of n, left_of n, top_of n) at (c.paint_diagonal.ensures.counted c.args.sheets.now c.args.stored.now))
