-- The 32-bit word that a lottery draws by, and how it steps.
use Rattle.std.specs.Prelude.{ℕ, ◌*◌, ◌/◌, ◌%◌, ◌^◌, bit_xor}

-- x xor x << k, cut to 32 bits
abbrev pub xor_left : ℕ → ℕ → ℕ
xor_left k x = bit_xor x (x * 2 ^ k % 2 ^ 32)

-- x xor x >> k
abbrev pub xor_right : ℕ → ℕ → ℕ
xor_right k x = bit_xor x (x / 2 ^ k)

abbrev pub xorshift : ℕ → ℕ
xorshift x = xor_left 5 (xor_right 17 (xor_left 13 x))
