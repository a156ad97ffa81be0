-- Rows of dots, of which many get the same ones.
use Rattle.std.proofs.Common.{inl, inr, ◌≡◌, ℕ, zero, suc, ◌+◌, ◌-◌, ◌*◌, ◌/◌, ◌<◌, ◌≤◌, Bool, false, ltb, leb, ◌&&◌, ◌||◌, get_or, set, length, replicate, refl, ap, ◌∙◌, arith, List, []}
use Rattle.std.proofs.lemmas.List.{get_or-set_same, get_or-set_other, get_or-replicate, get_or_past, length-replicate}
use Rattle.std.proofs.lemmas.Bool.{cases_lt, lt-ltb, le-ltb, le-leb, lt-leb}
use Rattle.vp_dots.specs.Dots.{dot, span}
use Rattle.vp_dots.specs.Painting.{paint, Painted}
use Rattle.vp_dots.specs.declared.Op.TheVariants.{Black}
use Rattle.vp_glyph.specs.Runs.{dot_upto, run_dot}
use Rattle.vp_glyph.proofs.Overlaid.{zero_dots}

pub black_or : (ink old : Bool) → paint Black ink old ≡ (old || ink)
black_or ink old = grind arith

pub or_false : (b : Bool) → b ≡ (b || false)
or_false b = grind arith

-- the bytes before i of a row are blackened, all of n
pub bytes_done : (n i x : ℕ) (ink old new : List ℕ) → n ≤ i → length old ≡ n → x < 8 * n → Painted Black (λ d. ltb (d / 8) i && dot ink d) old new → dot new x ≡ (dot old x || dot ink x)
bytes_done n i x ink old new l m h p = p.dots_are x (omega (arith, m)) ∙ ap (λ b. paint Black (b && dot ink x) (dot old x)) (lt-ltb (x / 8) i (omega arith)) ∙ black_or (dot ink x) (dot old x)

-- rows to which dots are added
module _ (b : ℕ) (ink : ℕ → ℕ → Bool) where
  pub record Blacker (from to : ℕ) (old new : List (List ℕ)) : Type 0 where
    pub inside : (k x : ℕ) → from ≤ k → k < to → x < 8 * b → dot (get_or new k []) x ≡ (dot (get_or old k []) x || ink k x)
    pub below : (k : ℕ) → k < from → get_or new k [] ≡ get_or old k []
    pub behind : (k : ℕ) → to ≤ k → get_or new k [] ≡ get_or old k []

  pub blacker_none : (from : ℕ) (old : List (List ℕ)) → Blacker from from old old
  blacker_none from old = record { inside = λ k x l m h. absurd (omega arith); below = λ k l. refl; behind = λ k l. refl }

  pub blacker_more : (from i : ℕ) (old mid : List (List ℕ)) (new : List ℕ) → from ≤ i → i < length mid → ((x : ℕ) → x < 8 * b → dot new x ≡ (dot (get_or mid i []) x || ink i x))
      → Blacker from i old mid → Blacker from (i + 1) old (set mid i new)
  blacker_more from i old mid new l m e p = grind (arith, get_or-set_same, get_or-set_other)

  pub blacker_span : (from to end : ℕ) (old new : List (List ℕ)) → end ≡ to → Blacker from end old new → (k x : ℕ) → x < 8 * b → dot (get_or new k []) x ≡ (dot (get_or old k []) x || span from to k && ink k x)
  blacker_span from to end old new e p k x h = grind arith

-- the rows before k have what the rows above them had
pub record Passed (b k : ℕ) (old new : List (List ℕ)) : Type 0 where
  pub some : 0 < k
  pub done : (j x : ℕ) → j < k → x < 8 * b → dot (get_or new j []) x ≡ dot_upto old j x
  pub rest : (j : ℕ) → k ≤ j → get_or new j [] ≡ get_or old j []

pub passed_one : (b : ℕ) (old : List (List ℕ)) → Passed b 1 old old
passed_one b old = record { some = omega arith; done = λ j x l h. (let z : j ≡ 0 = omega arith in rw z refl); rest = λ j l. refl }

pub passed_more : (b k : ℕ) (old mid : List (List ℕ)) (new : List ℕ) → k < length mid → ((x : ℕ) → x < 8 * b → dot new x ≡ (dot (get_or mid k []) x || dot (get_or mid (k - 1) []) x))
    → Passed b k old mid → Passed b (k + 1) old (set mid k new)
passed_more b k old mid new m e p = grind (arith, get_or-set_same, get_or-set_other)

-- white rows
pub white_row : (n b k x : ℕ) → dot (get_or (replicate {A = List ℕ} n (replicate {A = ℕ} b 0)) k []) x ≡ false
white_row n b k x = elim (cases_lt k n) [
  | inl l ↦ ap (λ r. dot r x) (get_or-replicate n k (replicate {A = ℕ} b 0) [] l) ∙ zero_dots b x
  | inr g ↦ ap (λ r. dot r x) (get_or_past (replicate {A = List ℕ} n (replicate {A = ℕ} b 0)) k [] (let m = length-replicate {A = List ℕ} n (replicate {A = ℕ} b 0) in omega (arith, m))) ∙ zero_dots 0 x
]

white_upto : (n b k x : ℕ) → dot_upto (replicate {A = List ℕ} n (replicate {A = ℕ} b 0)) k x ≡ false
white_upto n b zero x = white_row n b 0 x
white_upto n b (suc k) x = ap (λ t. t || dot (get_or (replicate {A = List ℕ} n (replicate {A = ℕ} b 0)) (suc k) []) x) (white_upto n b k x) ∙ white_row n b (suc k) x

pub white_runs : (n b k x : ℕ) → (let white = replicate {A = List ℕ} n (replicate {A = ℕ} b 0) in run_dot white white white n k x ≡ false)
white_runs n b k x = grind (arith, white_upto)

-- a row that is passed on has more dots
upto_set : (rows : List (List ℕ)) (i k x : ℕ) (new : List ℕ) (r : Bool) → i < length rows → dot new x ≡ (dot (get_or rows i []) x || r) → dot_upto (set rows i new) k x ≡ (dot_upto rows k x || leb i k && r)
upto_set rows i zero x new r m e = grind (arith, get_or-set_same, get_or-set_other)
upto_set rows i (suc k) x new r m e = grind (arith, get_or-set_same, get_or-set_other, upto_set rows i k x new r m e)

up_more : (a d u r : Bool) → (a || (d || (u || r))) ≡ ((a || (d || u)) || r)
up_more a d u r = grind arith

alone_more : (a d u r : Bool) → ((a || r) || (d || u)) ≡ ((a || (d || u)) || r)
alone_more a d u r = grind arith

module _ (alone down up : List (List ℕ)) (n k x : ℕ) (l : k < n) where
  -- what runs to the last row
  pub runs_down : (from to : ℕ) (new : List ℕ) (r : Bool) → to ≡ n → from < length down → dot new x ≡ (dot (get_or down from []) x || r) → run_dot alone (set down from new) up n k x ≡ (run_dot alone down up n k x || span from to k && r)
  runs_down from to new r t m e = grind (arith, upto_set)

  -- or from the first
  pub runs_up : (from to : ℕ) (new : List ℕ) (r : Bool) → from ≡ 0 → from < to → to ≤ n → n - to < length up → dot new x ≡ (dot (get_or up (n - to) []) x || r) → run_dot alone down (set up (n - to) new) n k x ≡ (run_dot alone down up n k x || span from to k && r)
  runs_up from to new r z s t m e =
      let here : leb (n - to) (n - 1 - k) ≡ span from to k = elim (cases_lt k to) [
        | inl y ↦ rw (le-leb from k (omega arith), lt-ltb k to y) (le-leb (n - to) (n - 1 - k) (omega arith))
        | inr g ↦ rw (le-leb from k (omega arith), le-ltb k to g) (lt-leb (n - to) (n - 1 - k) (omega arith))
      ] in
      ap (λ v. dot (get_or alone k []) x || (dot_upto down k x || v)) (upto_set up (n - to) (n - 1 - k) x new r m e ∙ ap (λ v. dot_upto up (n - 1 - k) x || v && r) here)
      ∙ up_more (dot (get_or alone k []) x) (dot_upto down k x) (dot_upto up (n - 1 - k) x) (span from to k && r)

  pub runs_alone : (from to : ℕ) (new : List (List ℕ)) (r : Bool) → dot (get_or new k []) x ≡ (dot (get_or alone k []) x || span from to k && r) → run_dot new down up n k x ≡ (run_dot alone down up n k x || span from to k && r)
  runs_alone from to new r e = ap (λ v. v || (dot_upto down k x || dot_upto up (n - 1 - k) x)) e ∙ alone_more (dot (get_or alone k []) x) (dot_upto down k x) (dot_upto up (n - 1 - k) x) (span from to k && r)
