-- What a random part leaves of a wait.
use Rattle.std.proofs.Common.{◌≡◌, ℕ, ◌*◌, ◌-◌, ◌/◌, ◌≤◌, arith}
use Rattle.std.proofs.Math.Nat.{mul-div-le, mul-le-mul_left, mul-sub}

-- a lot is less than 2^32, so a random part is at most `j` thousandths
pub waits-least : (wait j lot : ℕ) → lot ≤ 4_294_967_296 → wait * (1_000 - j) ≤ 1_000 * (wait - wait * j * lot / 4_294_967_296_000)
waits-least wait j lot few =
    let part : 4_294_967_296_000 * (wait * j * lot / 4_294_967_296_000) ≤ wait * j * lot = mul-div-le (wait * j * lot) 4_294_967_296_000 in
    let most : wait * j * lot ≤ wait * j * 4_294_967_296 = mul-le-mul_left (wait * j) few in
    let split : wait * (1_000 - j) ≡ wait * 1_000 - wait * j = mul-sub wait 1_000 j in
    omega (arith, part, most, split)
