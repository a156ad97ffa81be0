use Rattle.std.proofs.Common.{◌≡◌, ◌<◌, ◌≤◌, ◌++◌, ℕ, length, take, drop, ap, sym, subst, ◌∙◌, arith}
use Rattle.std.specs.Prelude.{map}
use Rattle.vp_field.specs.Fields.{stroke_of}
use Rattle.vp_field.specs.Strokes.{image_dot}
use Rattle.vp_bands.specs.Meeting.{bands_of}
use Rattle.vp_bands.specs.Standing.{IsBefore}
use Rattle.vp_copies.specs.Copies.{painted_for, pending}
use Rattle.vp_copies.specs.Progress.{Progress, image_of, IsPainted, StandsPainted}
use Rattle.vp_output.specs.declared.place.Line.{Line}
use Rattle.vp_output.specs.Lines.{IsLineOf}
use Rattle.vp_label.specs.Press.{left, painted_before}
use Rattle.vp_format.specs.Formats.{held}
use Rattle.vp_label.proofs.Behind.{line_behind, put_on, rows_behind, IsBehind}
use Rattle.vp_label.proofs.Presses.{line_painted, line_stands, met_behind, row_stands, IsMet}
use Rattle.vp_label.proofs.press.Press.put_line.Goals as goal

pub returns : goal.returns
returns g c =
    let sheets = c.args.sheets.now in
    let format = held c.args.fields.now c.args.stored.now in
    let view = c.args.view in
    let old = c.args.self.now in
    let now = c.prepare.new.self in
    let copies = c.put_rows-n.new.self in
    let p = c.requires.press in
    let idle = c.put_rows-n.ensures.none (let n = c.if-n-gt0.false in omega arith) in
    let same : copies ≡ old.copies = idle.0 ∙ c.prepare.ensures.copies in
    let part = c.put_line.ensures in
    let dots = image_dot view (map (stroke_of sheets format.stored) format.fields) in
    let text : pending (image_of copies dots) copies.place ≡ left sheets format view old = ap (λ (x : Progress). pending (image_of x dots) x.place) same in
    let stands : StandsPainted (image_of copies dots) (painted_before copies) now.band =
    subst (λ (x : Progress). StandsPainted (image_of x dots) (painted_before x) now.band) (sym idle.0) c.prepare.ensures.painted in
    let painted : IsPainted (image_of copies dots) copies.place.line now.band = line_painted (image_of copies dots) copies.painted copies.place.line now.band stands in
    let out : 0 < c.put_line.result = part.some (rw idle.1 c.requires.room) in
    let height : copies.height ≡ view.height = ap (λ (x : Progress). x.height) same ∙ p.height in
    let high : 0 < copies.height = (let h = p.high in omega arith) in
    let line : IsLineOf copies.height copies.place.line = subst (λ (x : Progress). IsLineOf x.height x.place.line) (sym same) p.place.line in
    let some : 0 < copies.place.copies = subst (λ (x : Progress). 0 < x.place.copies) (sym same) c.requires.some in
    let before : IsBefore sheets format view (painted_before copies) now.painter = subst (λ (x : Progress). IsBefore sheets format view (painted_before x) now.painter) (sym idle.0) c.prepare.ensures.before in
    let met : IsMet (bands_of view) c.put_line.new.self.painted c.put_line.new.self.place = subst (λ (x : Progress). IsMet (bands_of view) x.painted x.place) (sym part.value)
    (met_behind copies.width copies.height (bands_of view) copies.painted c.put_line.result copies.place (omega arith) high line some out) in
    let next : IsBefore sheets format view c.put_line.new.self.painted now.painter = subst (λ (x : Progress). IsBefore sheets format view x.painted now.painter) (sym part.value) before in
    let behind : IsBehind (bands_of view) old.copies c.put_line.new.self = subst (λ (x : Progress). IsBehind (bands_of view) x c.put_line.new.self) same
    (subst (λ (x : Progress). IsBehind (bands_of view) copies x) (sym part.value) (line_behind (bands_of view) c.put_line.result copies (omega arith) high line some out)) in
    record {
      press = record {
        width = ap (λ (x : Progress). x.width) part.value ∙ ap (λ (x : Progress). x.width) same ∙ p.width;
        height = ap (λ (x : Progress). x.height) part.value ∙ height;
        narrow = p.narrow;
        low = p.low;
        high = p.high;
        place = part.place;
        painted = part.painted;
        before = next;
        over = met.over;
        ready = part.ready dots stands;
      };
      some = out;
      fits = omega (arith, part.count, ap length idle.1);
      within = subst (λ t. c.put_line.result ≤ length t) text (part.within dots);
      bytes = part.bytes dots painted ∙ ap (λ t. take c.put_line.result t ++ drop c.put_line.result c.put_rows-n.new.out) text
          ∙ ap (λ o. take c.put_line.result (left sheets format view old) ++ drop c.put_line.result o) idle.1;
      rest = part.rest dots ∙ ap (drop c.put_line.result) text;
      ended = λ between. subst (λ (n : ℕ). IsBefore sheets format view n now.painter) (met.between between) next;
      fields = c.prepare.ensures.fields;
      read = put_on sheets format view old now c.put_line.new.self c.args.fields.now.read c.prepare.new.fields.read p c.requires.some c.prepare.ensures.read behind;
      stood = λ one low. record {
        painted = ap (λ (x : Progress). x.painted) part.value ∙ ap (λ (n : ℕ). painted_for n copies.place.line) (ap (λ (x : Progress). x.painted) same ∙ one)
            ∙ line_stands copies.height copies.place.line (omega (arith, height, low)) line;
        painter = ap (λ (x : _). x.painter) (c.prepare.ensures.stood one low).0;
        band = ap (λ (x : _). x.band) (c.prepare.ensures.stood one low).0;
        fields = (c.prepare.ensures.stood one low).1;
      };
    }

pub returns-then-n-gt0-clause-read : goal.returns-then-n-gt0-clause-read
returns-then-n-gt0-clause-read g c =
    let view = c.args.view in
    let old = c.args.self.now in
    let now = c.prepare.new.self in
    let copies = c.put_rows-n.new.self in
    let some : 0 < now.copies.place.copies = subst (λ (x : Progress). 0 < x.place.copies) (sym c.prepare.ensures.copies) c.requires.some in
    let behind : IsBehind (bands_of view) old.copies copies = subst (λ (x : Progress). IsBehind (bands_of view) x copies) c.prepare.ensures.copies
    (rows_behind (bands_of view) now.copies copies some (c.put_rows-n.ensures.on c.if-n-gt0.true)) in
    put_on c.args.sheets.now (held c.args.fields.now c.args.stored.now) view old now copies c.args.fields.now.read c.prepare.new.fields.read c.requires.press c.requires.some c.prepare.ensures.read behind

pub returns-then-n-gt0-clause-press : goal.returns-then-n-gt0-clause-press
returns-then-n-gt0-clause-press g c =
    let sheets = c.args.sheets.now in
    let format = held c.args.fields.now c.args.stored.now in
    let view = c.args.view in
    let now = c.prepare.new.self in
    let copies = c.put_rows-n.new.self in
    let p = c.requires.press in
    let on = c.put_rows-n.ensures.on c.if-n-gt0.true in
    let dots = image_dot view (map (stroke_of sheets format.stored) format.fields) in
    let painted : painted_before now.copies ≡ copies.painted = ap (λ (l : Line). painted_for now.copies.painted l) on.from ∙ sym (ap (λ (x : Progress). x.painted) on.value) in
    record {
      width = ap (λ (x : Progress). x.width) on.value ∙ ap (λ (x : Progress). x.width) c.prepare.ensures.copies ∙ p.width;
      height = ap (λ (x : Progress). x.height) on.value ∙ ap (λ (x : Progress). x.height) c.prepare.ensures.copies ∙ p.height;
      narrow = p.narrow;
      low = p.low;
      high = p.high;
      place = c.put_rows-n.ensures.place;
      painted = c.put_rows-n.ensures.painted;
      before = subst (λ (n : ℕ). IsBefore sheets format view n now.painter) painted c.prepare.ensures.before;
      over = λ none. absurd (let some = c.requires.some in let e = ap (λ (x : Progress). x.place.copies) on.value ∙ ap (λ (x : Progress). x.place.copies) c.prepare.ensures.copies in omega arith);
      ready = subst (λ (x : Progress). StandsPainted (image_of x dots) x.painted now.band) (sym on.value)
          (subst (λ (l : Line). StandsPainted (image_of now.copies dots) (painted_for now.copies.painted l) now.band) on.from c.prepare.ensures.painted);
    }

pub returns-then-n-gt0-clause-bytes : goal.returns-then-n-gt0-clause-bytes
returns-then-n-gt0-clause-bytes g c =
    let sheets = c.args.sheets.now in
    let format = held c.args.fields.now c.args.stored.now in
    let view = c.args.view in
    let now = c.prepare.new.self in
    let n = c.put_rows-n.result in
    let dots = image_dot view (map (stroke_of sheets format.stored) format.fields) in
    c.put_rows-n.ensures.bytes dots (line_painted (image_of now.copies dots) now.copies.painted now.copies.place.line now.band c.prepare.ensures.painted)
    ∙ ap (λ (x : Progress). take n (pending (image_of x dots) x.place) ++ drop n c.args.out.now) c.prepare.ensures.copies

pub returns-then-n-gt0-clause-stood : goal.returns-then-n-gt0-clause-stood
returns-then-n-gt0-clause-stood g c = λ one low.
    let p = c.requires.press in
    let on = c.put_rows-n.ensures.on c.if-n-gt0.true in
    let from = sym (ap (λ (x : Progress). x.place.line) c.prepare.ensures.copies) ∙ on.from in
    record {
      painted = ap (λ (x : Progress). x.painted) on.value ∙ row_stands c.args.self.now.copies.height c.args.self.now.copies.place.line on.row (omega (arith, p.height, low)) p.place.line from;
      painter = ap (λ (x : _). x.painter) (c.prepare.ensures.stood one low).0;
      band = ap (λ (x : _). x.band) (c.prepare.ensures.stood one low).0;
      fields = (c.prepare.ensures.stood one low).1;
    }
