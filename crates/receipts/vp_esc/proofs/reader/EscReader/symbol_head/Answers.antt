use Rattle.std.proofs.Common.{◌≡◌, true, false, get_or, refl, sym, subst, ◌∙◌}
use Rattle.vp_esc.specs.declared.command.Command.TheVariants.{Symbol}
use Rattle.vp_esc.specs.Values.{is_kind_to_zero}
use Rattle.vp_esc.specs.Reader.{Begun}
use Rattle.vp_esc.proofs.Symbols.{symbol_begins, two_given}
use Rattle.vp_esc.proofs.reader.EscReader.symbol_head.Goals as goal

pub returns-then-is_kind_to_zero : goal.returns-then-is_kind_to_zero
returns-then-is_kind_to_zero c rest begun =
    let z : is_kind_to_zero (get_or c.args.self.now.kept.items 0 0) ≡ true =
    rw c.as_slice-args.ensures.value at (sym c.is_kind_to_zero.ensures ∙ c.if-is_kind_to_zero.true) in
    rw c.as_slice-args.ensures.value (symbol_begins c.args.self.now _ rest c.clear.new.self begun c.requires refl c.clear.ensures z)

pub returns : goal.returns
returns c rest begun =
    let z : is_kind_to_zero (get_or c.args.self.now.kept.items 0 0) ≡ false = rw c.as_slice-args.ensures.value at (sym c.is_kind_to_zero.ensures ∙ c.if-is_kind_to_zero.false) in
    (rw c.as_slice-args.ensures.value at c.symbol_count.ensures) rest (subst (λ xs. Begun c.args.self.now.reading c.args.self.now.lead c.args.self.now.name Symbol xs rest) (two_given _ c.requires z) begun) z
