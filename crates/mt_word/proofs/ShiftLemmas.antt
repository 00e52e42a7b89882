-- Shifts and masks by whole fields are products, quotients and remainders by powers of 16.
use Rattle.std.proofs.Common.{◌≡◌, ℕ, zero, suc, ◌+◌, ◌-◌, ◌*◌, ◌%◌, ◌^◌, ◌<◌, refl, arith, bit_and, bit_or}
use Rattle.std.proofs.lemmas.Nat.{pow-add, one_shl, and_mask, or_shifted, shl_whole}
use Rattle.std.proofs.Math.Nat.{pow-suc}

-- four bits for each field
pub pow_of_sixteen : (k : ℕ) → 16 ^ k ≡ 2 ^ (4 * k)
pow_of_sixteen zero = refl
pow_of_sixteen (suc k) =
    let step : 4 * suc k ≡ 4 * k + 4 = omega arith in
    rw (pow-suc 16 k, step, pow-add 2 (4 * k) 4, pow_of_sixteen k)

pub masked : (fields k : ℕ) → k < 16 → bit_and fields (1 * 2 ^ (4 * k) % 2 ^ 64 - 1) ≡ fields % 16 ^ k
masked fields k h =
    let one : 1 * 2 ^ (4 * k) % 2 ^ 64 ≡ 2 ^ (4 * k) = one_shl (4 * k) 64 (omega arith) in
    rw (one, and_mask fields (4 * k), pow_of_sixteen k)

pub joined_fields : (low k high : ℕ) → k < 16 → low < 16 ^ k → high < 16 ^ (16 - k) → bit_or (high * 2 ^ (4 * k) % 2 ^ 64) low ≡ high * 16 ^ k + low
joined_fields low k high h within fits =
    let few : high < 2 ^ (4 * (16 - k)) = rw (pow_of_sixteen (16 - k)) at fits in
    let short : low < 2 ^ (4 * k) = rw (pow_of_sixteen k) at within in
    let whole : high * 2 ^ (4 * k) % 2 ^ 64 ≡ high * 2 ^ (4 * k) = shl_whole high (4 * (16 - k)) (4 * k) 64 few (omega arith) in
    rw (whole, or_shifted high (4 * k) low short, pow_of_sixteen k)
