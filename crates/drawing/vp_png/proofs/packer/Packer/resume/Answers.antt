use Rattle.std.proofs.Common.{ℕ, List, ◌++◌, length, take, sym, ◌∙◌, subst}
use Rattle.vp_png.specs.declared.lines.Lines.{Lines}
use Rattle.vp_png.specs.Tokens.{copied}
use Rattle.vp_png.specs.Kept.{bits_in, shown, Packs}
use Rattle.vp_png.proofs.LineCopies.{more_packed}
use Rattle.vp_png.proofs.packer.Packer.resume.Goals as goal

pub returns-then-end-len-clause-packs : goal.returns-then-end-len-clause-packs
returns-then-end-len-clause-packs c = λ gone before h.
    let s = c.args.self.now in
    let t = c.extend.new.self in
    more_packed (gone ++ bits_in t.bits) t.running before s.lines t.lines c.as_above-more.result c.extend.ensures.lines c.as_above-more.ensures.copy
    (c.extend.ensures.packs gone _ h)

pub returns-clause-packs : goal.returns-clause-packs
returns-clause-packs c = λ gone before h.
    let s = c.args.self.now in
    let e = c.extend.new.self in
    let t = c.close.new.self in
    let all : List ℕ = copied c.as_above-more.result (length s.lines.line.items) (before ++ shown s.lines.above.items ++ shown (take 0 s.lines.line.items)) in
    more_packed (gone ++ bits_in t.bits) t.running before s.lines t.lines c.as_above-more.result (c.close.ensures.lines ∙ c.extend.ensures.lines) c.as_above-more.ensures.copy
    (subst (λ (l : Lines). Packs (gone ++ bits_in t.bits) (length l.line.items) t.running all) c.extend.ensures.lines
    (c.close.ensures.packs gone all (subst (λ (l : Lines). Packs (gone ++ bits_in e.bits) (length l.line.items) e.running all) (sym c.extend.ensures.lines)
    (c.extend.ensures.packs gone _ h))))
