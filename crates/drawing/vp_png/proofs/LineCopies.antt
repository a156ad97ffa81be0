-- Lines that are packed by their copies.
use Rattle.std.proofs.Common.{◌≡◌, ℕ, zero, suc, ◌+◌, ◌-◌, ◌<◌, ◌≤◌, List, [], ◌∷◌, ◌++◌, length, take, drop, get_or, refl, ap, sym, ◌∙◌, arith, append_assoc, length-append, length-drop, get_or-drop, subst}
use Rattle.std.proofs.Math.Seq.{take-add}
use Rattle.std.proofs.lemmas.List.{append-nil, get_or-append-add, get_or-map, map-append, take-map, length-map, take-append-drop, length-take-le, take_all}
use Rattle.vp_png.specs.declared.lines.Copied.{Copied}
use Rattle.vp_png.specs.declared.lines.Lines.{Lines}
use Rattle.vp_png.specs.Tokens.{copied}
use Rattle.vp_png.specs.Kept.{Packs, IsCopy, shown}
use Rattle.vp_png.proofs.AdlerSums.{shown_more}
use Rattle.vp_png.proofs.Packing.{copied_is, packs_at}

no_copy : (d : ℕ) (done : List ℕ) → copied 0 d done ≡ done
unfolding copied
no_copy d done = refl

shown_at : (xs : List ℕ) (i : ℕ) → i < length xs → get_or (shown xs) i 0 ≡ 255 - get_or xs i 0
shown_at xs i h = get_or-map (λ (b : ℕ). 255 - b) xs i 0 0 h

pub length_before : (front above line : List ℕ) (at : ℕ) → at ≤ length line →
    length (front ++ shown above ++ shown (take at line)) ≡ length front + length above + at
length_before front above line at h =
    omega (
      arith,
      length-append (front ++ shown above) (shown (take at line)),
      length-append front (shown above),
      length-map above (λ (b : ℕ). 255 - b),
      length-map (take at line) (λ (b : ℕ). 255 - b),
      length-take-le at line h,
    )

module _ (front above line : List ℕ) (at : ℕ) where
  -- what stands before byte `at` of the line
  abbrev so_far : List ℕ
  so_far = front ++ shown above ++ shown (take at line)

  whole : so_far ++ drop at (shown line) ≡ front ++ shown (above ++ line)
  whole =
      append_assoc (front ++ shown above) (shown (take at line)) (drop at (shown line))
      ∙ ap (λ (l : List ℕ). front ++ shown above ++ (l ++ drop at (shown line))) (sym (take-map (λ (b : ℕ). 255 - b) at line))
      ∙ ap (λ (l : List ℕ). front ++ shown above ++ l) (take-append-drop at (shown line))
      ∙ append_assoc front (shown above) (shown line)
      ∙ ap (λ (l : List ℕ). front ++ l) (sym (map-append (λ (b : ℕ). 255 - b) above line))

  further : (n : ℕ) → so_far ++ take n (drop at (shown line)) ≡ front ++ shown above ++ shown (take (at + n) line)
  further n =
      append_assoc (front ++ shown above) (shown (take at line)) (take n (drop at (shown line)))
      ∙ ap (λ (l : List ℕ). front ++ shown above ++ (l ++ take n (drop at (shown line)))) (sym (take-map (λ (b : ℕ). 255 - b) at line))
      ∙ ap (λ (l : List ℕ). front ++ shown above ++ l) (sym (take-add at n (shown line)) ∙ take-map (λ (b : ℕ). 255 - b) (at + n) line)

  some_copied : (copy : Copied) → IsCopy above line at copy → 0 < copy.long →
      copied copy.long copy.distance so_far ≡ front ++ shown above ++ shown (take (at + copy.long) line)
  some_copied copy h some =
      let n = copy.long in
      let d = copy.distance in
      let long = length_before front above line at (omega (arith, h.within)) in
      copied_is n d so_far (drop at (shown line)) (h.back some) (omega (arith, long, h.reach some)) (omega (arith, h.within, length-drop at (shown line), length-map line (λ (b : ℕ). 255 - b)))
      (λ (k : ℕ) (lt : k < n).
      let i : length so_far + k - d ≡ length front + (length above + at + k - d) = omega (arith, long, h.reach some) in
      get_or-drop at (shown line) k 0 ∙ shown_at line (at + k) (omega (arith, h.within)) ∙ ap (λ (b : ℕ). 255 - b) (h.same k lt)
      ∙ sym (shown_at (above ++ line) (length above + at + k - d) (omega (arith, h.within, h.back some, length-append above line)))
      ∙ sym (get_or-append-add front (shown (above ++ line)) (length above + at + k - d) 0)
      ∙ ap (λ (j : ℕ). get_or (front ++ shown (above ++ line)) j 0) (sym i)
      ∙ ap (λ (l : List ℕ). get_or l (length so_far + k - d) 0) (sym whole))
      ∙ further n

pub copy_shown : (front above line : List ℕ) (at : ℕ) (distance long : ℕ) → IsCopy above line at (record { distance = distance; long = long }) →
    copied long distance (front ++ shown above ++ shown (take at line)) ≡ front ++ shown above ++ shown (take (at + long) line)
copy_shown front above line at distance zero h =
    let e : at ≡ at + 0 = omega arith in
    no_copy distance (front ++ shown above ++ shown (take at line)) ∙ ap (λ (n : ℕ). front ++ shown above ++ shown (take n line)) e
copy_shown front above line at distance (suc n) h = some_copied front above line at (record { distance = distance; long = suc n }) h (omega arith)

-- the line's first bytes are as above
pub more_packed : (bits : List ℕ) (running : ℕ) (before : List ℕ) (old new : Lines) (more : ℕ) → new ≡ old
    → IsCopy old.above.items old.line.items 0 (record { distance = length old.line.items; long = more })
    → Packs bits (length old.line.items) running (copied more (length old.line.items) (before ++ shown old.above.items ++ shown (take 0 old.line.items)))
    → Packs bits (length new.line.items) running (before ++ shown new.above.items ++ shown (take more new.line.items))
more_packed bits running before old new more same copy h =
    let e : 0 + more ≡ more = omega arith in
    subst (λ (s : Lines). Packs bits (length s.line.items) running (before ++ shown s.above.items ++ shown (take more s.line.items))) (sym same)
    (subst (λ (l : List ℕ). Packs bits (length old.line.items) running l)
    (copy_shown before old.above.items old.line.items 0 (length old.line.items) more copy
    ∙ ap (λ (n : ℕ). before ++ shown old.above.items ++ shown (take n old.line.items)) e) h)

-- a literal more
pub one_shown : (front above line : List ℕ) (at : ℕ) → at < length line →
    front ++ shown above ++ shown (take at line) ++ (255 - get_or line at 0) ∷ [] ≡ front ++ shown above ++ shown (take (at + 1) line)
one_shown front above line at h =
    append_assoc (front ++ shown above) (shown (take at line)) ((255 - get_or line at 0) ∷ [])
    ∙ ap (λ (l : List ℕ). front ++ shown above ++ l) (sym (shown_more line at h))

-- on to the next line
pub next_packed : (bits : List ℕ) (running : ℕ) (before front : List ℕ) (old new : Lines) → new.above.items ≡ old.line.items
    → (0 < length old.line.items → length old.line.items ≡ length new.line.items) → before ≡ front ++ shown old.line.items → Packs bits (length old.line.items) running before
    → Packs bits (length new.line.items) running (front ++ shown new.above.items ++ shown (take 0 new.line.items))
next_packed bits running before front old new above alike is h =
    subst (λ (l : List ℕ). Packs bits (length new.line.items) running l)
    (is ∙ ap (λ (l : List ℕ). front ++ shown l) (sym above) ∙ sym (append-nil (front ++ shown new.above.items)))
    (packs_at bits (length old.line.items) (length new.line.items) running before h alike)

-- the line is packed to its end
pub line_packed : (bits : List ℕ) (running at : ℕ) (before front row last : List ℕ) (new : Lines) → new.above.items ≡ last → new.line.items ≡ 255 ∷ row
    → length new.line.items ≤ at → before ≡ front ++ shown last
    → Packs bits (length new.line.items) running (front ++ shown new.above.items ++ shown (take at new.line.items))
    → Packs bits (length new.line.items) running (before ++ shown (255 ∷ row))
line_packed bits running at before front row last new above line all is h =
    subst (λ (l : List ℕ). Packs bits (length new.line.items) running l)
    (ap (λ (l : List ℕ). front ++ shown l ++ shown (take at new.line.items)) above
    ∙ ap (λ (l : List ℕ). l ++ shown (take at new.line.items)) (sym is)
    ∙ ap (λ (l : List ℕ). before ++ shown l) (take_all at new.line.items all ∙ line)) h
