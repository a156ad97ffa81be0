use Rattle.std.proofs.Common.{◌≡◌, ◌||◌, length, eqb, refl, ◌∙◌}
use Rattle.vp_esc.specs.declared.reader.Phase.TheVariants as phases
use Rattle.vp_esc.proofs.Symbols.{symbol_more, symbol_ends}
use Rattle.vp_esc.proofs.Kept.{advances_given}
use Rattle.vp_esc.proofs.reader.EscReader.symbol_byte.Goals as goal
use Rattle.vp_esc.proofs.reader.EscReader.symbol_byte.Goals.{then-more, else-more}

pub returns-then-byte-eq0 : goal.returns-then-byte-eq0
returns-then-byte-eq0 c rest hand =
    advances_given (record c.args.self.now { phase = phases.Ground; kept = c.symbol.new.self.kept }) c.symbol.new.self _ c.symbol.result
    c.symbol.ensures.event c.symbol.ensures.state
    (symbol_ends c.args.self.now c.args.kind c.args.byte c.args.more rest c.symbol.new.self.kept hand c.if-byte-eq0.true)

pub returns : goal.returns
returns c rest hand =
    let more : c.if-more.more ≡ (c.args.more || eqb (length c.args.self.now.kept.items) 255) =
    elim c.if-more.branch [
      | then-more w ↦ w.more-is ∙ rw w.if-more.true refl
      | else-more w ↦ w.more-is ∙ rw w.if-more.false w.is_full-more.ensures.value
    ] in
    symbol_more c.args.self.now c.args.kind c.args.byte c.args.more _ rest _ hand c.if-byte-eq0.false c.keep.ensures more
