-- The fields of codewords: polynomials over bits modulo a primitive polynomial, and the integers modulo 929.
use Rattle.std.specs.Prelude.{ℕ, zero, suc, ◌+◌, ◌-◌, ◌*◌, ◌/◌, ◌%◌, ◌<◌, List, slice_index, bit_xor}
use Rattle.vp_reed_solomon.specs.declared.field.Field.{Field}
use Rattle.vp_reed_solomon.specs.declared.field.Field.TheVariants.{Gf16, Gf64, Gf256, Gf256Qr, Gf1024, Gf4096, Gf929}

-- how many elements there are: the numbers below
abbrev pub order : Field → ℕ
order Gf16 = 16
order Gf64 = 64
order Gf256 = 256
order Gf256Qr = 256
order Gf1024 = 1024
order Gf4096 = 4096
order Gf929 = 929

-- the degree of the primitive polynomial: an element has as many bits, each a coefficient
abbrev pub degree : Field → ℕ
degree Gf16 = 4
degree Gf64 = 6
degree Gf256 = 8
degree Gf256Qr = 8
degree Gf1024 = 10
degree Gf4096 = 12
degree Gf929 = 0

-- and that polynomial: x^4 + x + 1 (ISO/IEC 24778), x^6 + x + 1 (16023, 24778), x^8 + x^5 + x^3 + x^2 + 1
-- (16022, 24778), x^8 + x^4 + x^3 + x^2 + 1 (18004), x^10 + x^3 + 1 and x^12 + x^6 + x^5 + x^3 + 1 (24778)
abbrev pub polynomial : Field → ℕ
polynomial Gf16 = 0x13
polynomial Gf64 = 0x43
polynomial Gf256 = 0x12d
polynomial Gf256Qr = 0x11d
polynomial Gf1024 = 0x409
polynomial Gf4096 = 0x1069
polynomial Gf929 = 0

-- the element whose powers are all others but 0: x, or 3 (ISO/IEC 15438)
abbrev pub primitive : Field → ℕ
primitive Gf929 = 3
primitive field = 2

abbrev pub sum : Field → ℕ → ℕ → ℕ
sum Gf929 a b = (a + b) % 929
sum field a b = bit_xor a b

abbrev pub difference : Field → ℕ → ℕ → ℕ
difference Gf929 a b = (a + (929 - b)) % 929
difference field a b = bit_xor a b

-- a times x: each bit moves up, and where one comes to the degree the polynomial is taken off
unfoldable pub doubled : Field → ℕ → ℕ
doubled field a = bit_xor (2 * a) (2 * a / order field % 2 * polynomial field)

-- a times the polynomial of b's n lowest bits: a, x times a and so on, summed at the bits of b
abbrev pub times_bits : Field → ℕ → ℕ → ℕ → ℕ
times_bits field zero a b = 0
times_bits field (suc n) a b = bit_xor (b % 2 * a) (times_bits field n (doubled field a) (b / 2))

-- the product
unfoldable pub times : Field → ℕ → ℕ → ℕ
times Gf929 a b = a * b % 929
times field a b = times_bits field (degree field) a b

-- the primitive element to the power k
unfoldable pub power : Field → ℕ → ℕ
power field zero = 1
power field (suc k) = times field (primitive field) (power field k)

-- each is an element
abbrev pub AreElements : Field → List ℕ → Type 0
AreElements field xs = (k : ℕ) → slice_index xs k < order field
