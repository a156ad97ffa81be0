use Rattle.std.proofs.Common.{arith, ◌≡◌, ◌≤◌, ◌+◌, ◌*◌, List, [], ◌++◌, ℕ, length, take, drop, refl, sym, ◌∙◌, length-append}
use Rattle.std.proofs.lemmas.List.{length-take-le}
use Rattle.vp_dots.specs.Images.{row_bytes}
use Rattle.vp_join.specs.Standing.{IsCounted}
use Rattle.vp_join.proofs.Grows.{stays_beyond, stays_offence, not_taller, not_wider, within_size}
use Rattle.vp_join.proofs.Trims.{without_padding-room}
use Rattle.vp_join.proofs.passes.next_rows.Goals as goal

no_rows : (m : ℕ) (rows : List ℕ) → m ≡ 0 → take m rows ≡ []
no_rows m rows e = rw e refl

no_height : (h n : ℕ) → h ≡ 0 → h * n ≡ 0
no_height h n e = rw e (omega arith)

pub clear_padding-requires : goal.clear_padding-requires
clear_padding-requires c = λ e.
    let k : IsCounted c.fill-m.new.self (c.args.given + c.fill-m.result) = c.fill-m.ensures.counted c.args.given c.requires.counted in
    let w = c.fill-m.new.self.width in
    let h = c.fill-m.new.self.height in
    let beyond = sym c.exceeds.ensures ∙ c.if-exceeds.false in
    let low = not_taller w h c.args.size.width c.args.size.height beyond in
    let m : c.args.given + c.fill-m.result ≤ c.args.size.height * row_bytes c.args.size.width = within_size w h c.args.size.width c.args.size.height (c.args.given + c.fill-m.result) _ k.count low (not_wider w h c.args.size.width c.args.size.height beyond) in
    no_rows c.fill-m.result c.fill-m.new.rows (let z = c.requires.none e in let y : c.args.size.height * row_bytes c.args.size.width ≡ 0 = no_height c.args.size.height (row_bytes c.args.size.width) z in omega (arith, m, y))

pub returns-in-Some-clause-rows : goal.returns-in-Some-clause-rows
returns-in-Some-clause-rows c = λ b r h e.
    let x = take c.fill-m.result c.fill-m.new.rows in
    let k = c.fill-m.ensures.stands b r h in
    (x, k, λ more. stays_offence ((b ++ c.args.bytes.now) ++ more) c.args.size _ c.in-Some.field-0 (c.in-Some.ensures.told (b ++ c.args.bytes.now) (r ++ x) k more))

pub returns-then-exceeds-clause-rows : goal.returns-then-exceeds-clause-rows
returns-then-exceeds-clause-rows c = λ b r h e.
    let x = take c.fill-m.result c.fill-m.new.rows in
    let k = c.fill-m.ensures.stands b r h in
    (x, k, λ more. stays_beyond c.fill-m.new.self (b ++ c.args.bytes.now) (r ++ x) more c.args.size k (c.fill-m.ensures.counted c.args.given c.requires.counted).none (sym c.exceeds.ensures ∙ c.if-exceeds.true))

pub returns-clause-rows : goal.returns-clause-rows
returns-clause-rows c = grind (arith, length-take-le, without_padding-room)

pub returns-clause-within : goal.returns-clause-within
returns-clause-within c =
    let k : IsCounted c.fill-m.new.self (c.args.given + c.fill-m.result) = c.fill-m.ensures.counted c.args.given c.requires.counted in
    let w = c.fill-m.new.self.width in
    let h = c.fill-m.new.self.height in
    let beyond = sym c.exceeds.ensures ∙ c.if-exceeds.false in
    let long : length (take c.fill-m.result c.fill-m.new.rows) ≡ c.fill-m.result = length-take-le c.fill-m.result c.fill-m.new.rows (omega (arith, c.fill-m.ensures.within, c.fill-m.auto.rows)) in
    (omega (arith, long, c.clear_padding.ensures.length_is, length-append c.clear_padding.new.rows (drop c.fill-m.result c.fill-m.new.rows)), within_size w h c.args.size.width c.args.size.height (c.args.given + c.fill-m.result) _ k.count (not_taller w h c.args.size.width c.args.size.height beyond) (not_wider w h c.args.size.width c.args.size.height beyond), k)
