-- The bits of a state row.
use Rattle.std.proofs.Common.{◌≡◌, ℕ, ◌*◌, ◌/◌, ◌%◌, arith}
use lib.Bits.{bit_and, and_mask, and_shr, and_mod, and_zero_r}

-- the `and` with 2 has bit 1 alone
pub second_bit : (n : ℕ) → bit_and n 2 ≡ n / 2 % 2 * 2
second_bit n = omega (arith, and_shr n 2 1, and_mod n 2 1, and_mask (n / 2) 1, and_zero_r (n % 2))
