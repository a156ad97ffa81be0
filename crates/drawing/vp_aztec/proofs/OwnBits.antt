-- Each module of the layers has a bit of its own.
use Rattle.std.proofs.Common.{◌≡◌, ℕ, zero, suc, ◌+◌, ◌-◌, ◌*◌, ◌<◌, ◌≤◌, refl, sym, ap, ◌∙◌, arith, subst, ◌⊎◌, inl, inr}
use Rattle.std.proofs.lemmas.Bool.{lt-ltb, le-ltb, lt-leb, le-leb, cases_lt}
use Rattle.std.proofs.Math.Nat.{mul-add, add-mul}
use Rattle.vp_aztec.specs.Places.{in_layer, layer_of, bit_place}

-- the sides of a layer
abbrev on_left : ℕ → ℕ → ℕ → ℕ → Type 0
on_left n a b k = (a < 2) × (b < n) × (k ≡ 2 * b + a)

abbrev on_lower : ℕ → ℕ → ℕ → ℕ → Type 0
on_lower n a b k = (a < n) × (n ≤ b) × (b < n + 2) × (k ≡ 2 * n + 2 * a + (n + 1 - b))

abbrev on_right : ℕ → ℕ → ℕ → ℕ → Type 0
on_right n a b k = (n ≤ a) × (a < n + 2) × (2 ≤ b) × (b < n + 2) × (k ≡ 4 * n + 2 * (n + 1 - b) + (n + 1 - a))

abbrev on_upper : ℕ → ℕ → ℕ → ℕ → Type 0
on_upper n a b k = (2 ≤ a) × (a < n + 2) × (b < 2) × (k ≡ 6 * n + 2 * (n + 1 - a) + b)

abbrev sides : ℕ → ℕ → ℕ → ℕ → Type 0
sides n a b k = on_left n a b k ⊎ (on_lower n a b k ⊎ (on_right n a b k ⊎ on_upper n a b k))

-- a module of a layer two modules wide
abbrev is_outer : ℕ → ℕ → ℕ → Type 0
is_outer n a b = (a < 2) ⊎ ((b < 2) ⊎ ((n ≤ a) ⊎ (n ≤ b)))

in_sides : (n a b : ℕ) → 2 ≤ n → a < n + 2 → b < n + 2 → is_outer n a b → sides n a b (in_layer n a b)
unfolding in_layer
in_sides n a b some la lb o = by_tests (cases_lt a 2) (cases_lt b n) (cases_lt a n) (cases_lt b 2)
  where
    by_tests : (a < 2) ⊎ (2 ≤ a) → (b < n) ⊎ (n ≤ b) → (a < n) ⊎ (n ≤ a) → (b < 2) ⊎ (2 ≤ b) → sides n a b (in_layer n a b)
    by_tests (inl p) (inl q) r s = inl (rw (lt-ltb a 2 p, lt-ltb b n q) (p, q, refl))
    by_tests (inl p) (inr q) (inl r) s = inr (inl (rw (lt-ltb a 2 p, le-ltb b n q, lt-ltb a n r, le-leb n b q) (r, q, lb, refl)))
    by_tests (inl p) (inr q) (inr r) s = absurd (omega arith)
    by_tests (inr p) (inl q) (inl r) (inl s) = inr (inr (inr (rw (le-ltb a 2 p, lt-ltb a n r, lt-leb n b q, lt-leb n a r) (p, la, s, refl))))
    by_tests (inr p) (inl q) (inl r) (inr s) = absurd (inner o p q r s)
      where
        inner : is_outer n a b → 2 ≤ a → b < n → a < n → 2 ≤ b → ⊥
        inner (inl h) p q r s = omega arith
        inner (inr (inl h)) p q r s = omega arith
        inner (inr (inr (inl h))) p q r s = omega arith
        inner (inr (inr (inr h))) p q r s = omega arith
    by_tests (inr p) (inl q) (inr r) (inl s) = inr (inr (inr (rw (le-ltb a 2 p, le-ltb a n r, le-leb n a r, lt-leb 2 b s) (p, la, s, refl))))
    by_tests (inr p) (inl q) (inr r) (inr s) = inr (inr (inl (rw (le-ltb a 2 p, le-ltb a n r, le-leb n a r, le-leb 2 b s) (r, la, s, lb, refl))))
    by_tests (inr p) (inr q) (inl r) s = inr (inl (rw (le-ltb a 2 p, lt-ltb a n r, le-leb n b q) (r, q, lb, refl)))
    by_tests (inr p) (inr q) (inr r) (inl s) = absurd (omega arith)
    by_tests (inr p) (inr q) (inr r) (inr s) = inr (inr (inl (rw (le-ltb a 2 p, le-ltb a n r, le-leb n a r, le-leb 2 b s) (r, la, s, lb, refl))))

sides_own : (n a b c d k : ℕ) → 2 ≤ n → sides n a b k → sides n c d k → (a ≡ c) × (b ≡ d)
sides_own n a b c d k some h e = grind arith

sides_within : (n a b k : ℕ) → 2 ≤ n → sides n a b k → k < 8 * n
sides_within n a b k some h = grind arith

-- how many bits the layers outside have
abbrev pub before : ℕ → ℕ → ℕ
before b i = 8 * i * (b - 2 * i)

before_next : (b i : ℕ) → 4 * i + 2 ≤ b → before b (i + 1) ≡ before b i + 8 * (b - 4 * i - 2)
before_next b i h = next b i (b - 2 * i - 2) (omega arith) (omega arith) (omega arith)
  where
    next : (b i m : ℕ) → b - 2 * (i + 1) ≡ m → b - 2 * i ≡ m + 2 → b - 4 * i - 2 + 2 * i ≡ m → before b (i + 1) ≡ before b i + 8 * (b - 4 * i - 2)
    next b i m e f g =
        let more : 8 * (i + 1) * m ≡ 8 * i * m + 8 * m = ap (λ (k : ℕ). k * m) (let o : 8 * (i + 1) ≡ 8 * i + 8 = omega arith in o) ∙ add-mul (8 * i) 8 m in
        let less : 8 * i * (m + 2) ≡ 8 * i * m + 8 * i * 2 = mul-add (8 * i) m 2 in
        let plain : 8 * (i + 1) * m ≡ 8 * i * (m + 2) + 8 * (b - 4 * i - 2) = omega (arith, more, less, g) in
        ap (λ (k : ℕ). 8 * (i + 1) * k) e ∙ plain ∙ sym (ap (λ (k : ℕ). 8 * i * k + 8 * (b - 4 * i - 2)) f)

before_to : (b i j d : ℕ) → j ≡ i + d + 1 → 4 * (i + d) + 2 ≤ b → before b i + 8 * (b - 4 * i - 2) ≤ before b j
before_to b i j zero e h =
    let f : i + 1 ≡ j = omega arith in
    subst (λ (k : ℕ). before b i + 8 * (b - 4 * i - 2) ≤ before b k) f (omega (arith, before_next b i (omega arith)))
before_to b i j (suc d) e h =
    let f : i + d + 1 + 1 ≡ j = omega arith in
    let last = before_next b (i + d + 1) (omega arith) in
    subst (λ (k : ℕ). before b i + 8 * (b - 4 * i - 2) ≤ before b k) f (omega (arith, before_to b i (i + d + 1) d refl (omega arith), last))

before_later : (b i j : ℕ) → i < j → 4 * j ≤ b + 2 → before b i + 8 * (b - 4 * i - 2) ≤ before b j
before_later b i j lt h = before_to b i j (j - i - 1) (omega arith) (omega arith)

-- where a module lies in its layer
pub record Lies (b l u v : ℕ) : Type 0 where
  pub column : 2 * l ≤ u
  pub row : 2 * l ≤ v
  pub column_most : u + 2 * l + 1 ≤ b
  pub row_most : v + 2 * l + 1 ≤ b
  pub outer : is_outer (b - 4 * l - 2) (u - 2 * l) (v - 2 * l)

lies : (b u v : ℕ) → u < b → v < b → Lies b (layer_of b u v) u v
lies b u v lu lv = grind arith

-- the bit of a module of layer l is one of that layer
place_is : (b u v l : ℕ) → l ≡ layer_of b u v → bit_place b u v ≡ before b l + in_layer (b - 4 * l - 2) (u - 2 * l) (v - 2 * l)
unfolding bit_place
place_is b u v l e = rw e refl

module_sides : (b l u v : ℕ) → 4 * l + 4 ≤ b → Lies b l u v → sides (b - 4 * l - 2) (u - 2 * l) (v - 2 * l) (in_layer (b - 4 * l - 2) (u - 2 * l) (v - 2 * l))
module_sides b l u v h p = in_sides (b - 4 * l - 2) (u - 2 * l) (v - 2 * l) (omega arith) (omega (arith, p.column, p.column_most)) (omega (arith, p.row, p.row_most)) p.outer

in_layer_within : (b l u v : ℕ) → 4 * l + 4 ≤ b → Lies b l u v → in_layer (b - 4 * l - 2) (u - 2 * l) (v - 2 * l) < 8 * (b - 4 * l - 2)
in_layer_within b l u v h p = sides_within (b - 4 * l - 2) (u - 2 * l) (v - 2 * l) _ (omega arith) (module_sides b l u v h p)

pub place_within : (b n u v : ℕ) → 4 * n ≤ b → u < b → v < b → layer_of b u v < n → bit_place b u v < before b n
place_within b n u v h lu lv lt =
    let l = layer_of b u v in
    let few = in_layer_within b l u v (omega arith) (lies b u v lu lv) in
    omega (arith, place_is b u v l refl, few, before_later b l n lt (omega arith))

-- modules of one layer, and of two
same_layer : (b l u v x y : ℕ) → 4 * l + 4 ≤ b → Lies b l u v → Lies b l x y
    → in_layer (b - 4 * l - 2) (u - 2 * l) (v - 2 * l) ≡ in_layer (b - 4 * l - 2) (x - 2 * l) (y - 2 * l) → (u ≡ x) × (v ≡ y)
same_layer b l u v x y h p q e =
    let s = subst (λ (k : ℕ). sides (b - 4 * l - 2) (u - 2 * l) (v - 2 * l) k) e (module_sides b l u v h p) in
    let o = sides_own (b - 4 * l - 2) (u - 2 * l) (v - 2 * l) (x - 2 * l) (y - 2 * l) _ (omega arith) s (module_sides b l x y h q) in
    (omega (arith, o.0, p.column, q.column), omega (arith, o.1, p.row, q.row))

layer_apart : (b l k u v x y : ℕ) → l < k → 4 * k + 4 ≤ b → Lies b l u v
    → before b l + in_layer (b - 4 * l - 2) (u - 2 * l) (v - 2 * l) ≡ before b k + in_layer (b - 4 * k - 2) (x - 2 * k) (y - 2 * k) → ⊥
layer_apart b l k u v x y lt h p e =
    let few = in_layer_within b l u v (omega arith) p in
    omega (arith, e, few, before_later b l k lt (omega arith))

pub place_own : (b n u v x y : ℕ) → 4 * n ≤ b → u < b → v < b → x < b → y < b → layer_of b u v < n → layer_of b x y < n → bit_place b u v ≡ bit_place b x y → (u ≡ x) × (v ≡ y)
place_own b n u v x y h lu lv lx ly l_most k_most e =
    by_order (layer_of b u v) (layer_of b x y) (lies b u v lu lv) (lies b x y lx ly) l_most k_most
    (sym (place_is b u v (layer_of b u v) refl) ∙ e ∙ place_is b x y (layer_of b x y) refl) (cases_lt (layer_of b u v) (layer_of b x y)) (cases_lt (layer_of b x y) (layer_of b u v))
  where
    by_order : (l k : ℕ) → Lies b l u v → Lies b k x y → l < n → k < n
        → before b l + in_layer (b - 4 * l - 2) (u - 2 * l) (v - 2 * l) ≡ before b k + in_layer (b - 4 * k - 2) (x - 2 * k) (y - 2 * k)
        → (l < k) ⊎ (k ≤ l) → (k < l) ⊎ (l ≤ k) → (u ≡ x) × (v ≡ y)
    by_order l k p q lm km e (inl lt) o = absurd (layer_apart b l k u v x y lt (omega arith) p e)
    by_order l k p q lm km e (inr le) (inl lt) = absurd (layer_apart b k l x y u v lt (omega arith) q (sym e))
    by_order l k p q lm km e (inr le) (inr ge) =
        let same : k ≡ l = omega arith in
        let q_l = subst (λ (i : ℕ). Lies b i x y) same q in
        let e_l = subst (λ (i : ℕ). before b l + in_layer (b - 4 * l - 2) (u - 2 * l) (v - 2 * l) ≡ before b i + in_layer (b - 4 * i - 2) (x - 2 * i) (y - 2 * i)) same e in
        same_layer b l u v x y (omega arith) p q_l (omega (arith, e_l))
