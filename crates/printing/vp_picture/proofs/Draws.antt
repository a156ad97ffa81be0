-- What is drawn and put out, one piece after the other.
use Rattle.std.proofs.Common.{◌≡◌, ◌<◌, ◌+◌, ◌/◌, ℕ, List, [], ◌∷◌, ◌++◌, length, take, drop, Option, None, Some, true, false, Ok, Err, sym, ap, ◌∙◌, append_assoc, arith, subst}
use Rattle.std.specs.Prelude.{Result, ⊤, IfErr, OnOk, IsOk, ◌↔◌}
use Rattle.std.proofs.Math.Seq.{take-add}
use Rattle.std.proofs.lemmas.List.{append-nil}
use Rattle.std.proofs.lemmas.Bool.{ne_eqb}
use Rattle.std.proofs.KnownBytes.{Appends-nil, Appends-trans, Appends-kept}
use Rattle.std.specs.Io.KnownBytes.{Appends, Keeps}
use Rattle.vp_png.specs.File.{joined}
use Rattle.vp_png.specs.Kept.{Stands, waiting_bytes, row_refusal}
use Rattle.vp_png.specs.declared.png.Png.{Png}
use Rattle.vp_png.specs.declared.png.PngError.{PngError}
use Rattle.vp_png.proofs.Files.{joined_more}
use Rattle.vp_picture.specs.declared.drawing.Drawing.{Drawing}
use Rattle.vp_picture.specs.Kept.{Shows, Draws}

-- a row that is whole is taken
pub is_taken : (p : Png) (line : List ℕ) → 0 < p.left → length line ≡ (p.width + 7) / 8 → waiting_bytes p ≡ [] → row_refusal p line ≡ None
is_taken p line some long idle = grind (arith, ne_eqb)

pub not_refused : (r : Result ⊤ PngError) (refusal : Option PngError) (P : Type 0) → refusal ≡ None → IfErr r (λ e. refusal ≡ Some e) → OnOk r P → P
not_refused (Ok done) refusal P none err ok = ok
not_refused (Err e) refusal P none err ok = absurd (let k : None ≡ Some e = sym none ∙ err in cc)

-- a text with one row more
pub row_more : (head text part bytes line none : List ℕ) (rows : List (List ℕ)) → text ≡ head ++ (joined rows ++ part) → line ≡ part ++ bytes → none ≡ [] → text ++ bytes ≡ head ++ (joined (rows ++ line ∷ []) ++ none)
row_more head text part bytes line none rows e l n =
    rw (n, append-nil (joined (rows ++ line ∷ [])), joined_more rows line, l, e)
    (append_assoc head (joined rows ++ part) bytes ∙ ap (λ (x : List ℕ). head ++ x) (append_assoc (joined rows) part bytes))

-- and with more of a row
pub part_more : (head text part bytes line : List ℕ) (rows : List (List ℕ)) → text ≡ head ++ (joined rows ++ part) → line ≡ part ++ bytes → text ++ bytes ≡ head ++ (joined rows ++ line)
part_more head text part bytes line rows e l =
    rw (l, e) (append_assoc head (joined rows ++ part) bytes ∙ ap (λ (x : List ℕ). head ++ x) (append_assoc (joined rows) part bytes))

-- nothing
pub draws_nil : (a : Option (List ℕ)) (d : Drawing) → Draws a a d d []
draws_nil a d = record { out = []; appended = Appends-nil a; shows = λ text before h. rw (append-nil text, append-nil before) h }

pub draws_more : (a b c : Option (List ℕ)) (d e f : Drawing) (xs ys : List ℕ) → Draws a b d e xs → Draws b c e f ys → Draws a c d f (xs ++ ys)
draws_more a b c d e f xs ys h k = record {
  out = h.out ++ k.out;
  appended = Appends-trans a b c h.out k.out h.appended k.appended;
  shows = λ text before s. rw (sym (append_assoc text xs ys), sym (append_assoc before h.out k.out)) (k.shows (text ++ xs) (before ++ h.out) (h.shows text before s));
}

-- what waited is put out
pub put_out : (b c : Option (List ℕ)) (e f : Drawing) (x : List ℕ) → Appends b c x → f.png.width ≡ e.png.width → f.png.height ≡ e.png.height → f.part.items ≡ e.part.items
    → ((rows : List (List ℕ)) (out : List ℕ) → Stands e.png rows out → Stands f.png rows (out ++ x)) → Draws b c e f []
put_out b c e f x h w k p s = record {
  out = x;
  appended = h;
  shows = λ text before t. record { rows = t.rows; text_is = rw (append-nil text, w, k, p) t.text_is; stands = s t.rows before t.stands };
}

-- a write failed, or took nothing
pub kept : (a b c : Option (List ℕ)) (d e : Drawing) (xs : List ℕ) → Draws a b d e xs → Keeps b c → Draws a c d e xs
kept a b c d e xs h k = record { out = h.out; appended = Appends-kept a b c h.out h.appended k; shows = h.shows }

pub took_none : (a b c : Option (List ℕ)) (d e : Drawing) (xs waits : List ℕ) (n : ℕ) → n ≡ 0 → Draws a b d e xs → Appends b c (take n waits) → Draws a c d e xs
took_none a b c d e xs waits n z h k = record {
  out = h.out;
  appended = subst (λ x. Appends a c x) (append-nil h.out) (Appends-trans a b c h.out [] h.appended (rw z at k));
  shows = h.shows;
}

-- bytes from some place on are taken, and what comes of them is put out
pub drawn_more : (a b c : Option (List ℕ)) (d e f : Drawing) (g : Drawing) (rows part : List ℕ) (at n : ℕ) → part ≡ drop at rows → Draws a b d e (take at rows)
    → ((text out : List ℕ) → Shows e text out → Shows f (text ++ take n part) out) → Draws b c f g [] → Draws a c d g (take (at + n) rows)
drawn_more a b c d e f g rows part at n p h t0 k =
    let t : (text out : List ℕ) → Shows e text out → Shows f (text ++ take n (drop at rows)) out = rw p at t0 in
    rw (take-add at n rows) (record {
      out = h.out ++ k.out;
      appended = Appends-trans a b c h.out k.out h.appended k.appended;
      shows = λ text before s.
          let both = append_assoc text (take at rows) (take n (drop at rows)) in
          let next = k.shows ((text ++ take at rows) ++ take n (drop at rows)) (before ++ h.out) (t (text ++ take at rows) (before ++ h.out) (h.shows text before s)) in
          subst (λ x. Shows g x (before ++ (h.out ++ k.out))) (append-nil ((text ++ take at rows) ++ take n (drop at rows)) ∙ both) (subst (λ x. Shows g (((text ++ take at rows) ++ take n (drop at rows)) ++ []) x) (append_assoc before h.out k.out) next);
    })

-- a vector with room for more
pub extended : {A E : Type 0} (r : Result A E) (P N : Type 0) → (IsOk r ↔ N) → N → OnOk r P → P
extended (Ok x) P N v n p = p
extended (Err e) P N v n p = absurd (let k : false ≡ true = v.1 n in cc)
