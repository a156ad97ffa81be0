use Rattle.std.proofs.Common.{◌≡◌, ℕ, List, ◌+◌, length, arith, sym, ap, ◌∙◌}
use Rattle.vp_pdf417.specs.Messages.{message}
use Rattle.vp_pdf417.specs.Codewords.{codewords}
use Rattle.vp_pdf417.specs.Sizes.{size_for}
use Rattle.vp_pdf417.specs.Encoding.{count_of}
use Rattle.vp_pdf417.proofs.Held.{held_all, held_none}
use Rattle.vp_pdf417.proofs.symbol.encode.Goals as goal

pub returns-in_default-clause-refused : goal.returns-in_default-clause-refused
returns-in_default-clause-refused c = grind (arith, held_none)

pub returns-then-not-has_room-clause-refused : goal.returns-then-not-has_room-clause-refused
returns-then-not-has_room-clause-refused c =
    let src = c.args.src.now in
    let e : c.in-Some.all.now ≡ message src = held_all (message src) c.in-Some.all.now (sym c.message-words.ensures ∙ c.in-Some.ensures.all) in
    let n : length c.in-Some.all.now + 1 ≡ count_of src = ap (λ (l : List ℕ). length l + 1) e in
    grind (arith, n)

pub returns-in_default-size_for-clause-refused : goal.returns-in_default-size_for-clause-refused
returns-in_default-size_for-clause-refused c =
    let src = c.args.src.now in
    let e : c.in-Some.all.now ≡ message src = held_all (message src) c.in-Some.all.now (sym c.message-words.ensures ∙ c.in-Some.ensures.all) in
    let n : length c.in-Some.all.now + 1 ≡ count_of src = ap (λ (l : List ℕ). length l + 1) e in
    grind (arith, n)

pub returns-clause-accepted : goal.returns-clause-accepted
returns-clause-accepted c =
    let src = c.args.src.now in
    let e : c.in-Some.all.now ≡ message src = held_all (message src) c.in-Some.all.now (sym c.message-words.ensures ∙ c.in-Some.ensures.all) in
    let n : length c.in-Some.all.now + 1 ≡ count_of src = ap (λ (l : List ℕ). length l + 1) e in
    grind (arith, n)

pub returns-clause-symbol : goal.returns-clause-symbol
returns-clause-symbol c =
    let src = c.args.src.now in
    let e : c.in-Some.all.now ≡ message src = held_all (message src) c.in-Some.all.now (sym c.message-words.ensures ∙ c.in-Some.ensures.all) in
    let n : length c.in-Some.all.now + 1 ≡ count_of src = ap (λ (l : List ℕ). length l + 1) e in
    record {
      size_is = ap (size_for c.args.asked) (sym n) ∙ sym c.size_for.ensures.size ∙ c.in-Some-size_for.is;
      words_are = c.codewords.ensures.codewords ∙ ap (codewords c.in-Some-size_for.size) e;
    }
