-- How many packets fit into the time ahead.
use Rattle.std.proofs.Common.{◌≡◌, sym, ◌↔◌, ℕ, zero, ◌+◌, ◌*◌, ◌/◌, ◌-◌, ◌^◌, ◌<◌, ◌≤◌, min, arith}
use Rattle.std.proofs.Math.Nat.{le-div_iff_mul-le}

-- so many packets leave within the rest, one in each pace
pub room-fits :
    (packets pace rest delay late ahead : ℕ) → zero < pace → rest + delay + late + 1 ≡ ahead
    → (packets ≤ rest / pace) ↔ (packets * pace + delay + late < ahead)
room-fits packets pace rest delay late ahead some all = (
  λ le. omega (arith, all, (le-div_iff_mul-le {x = packets} {y = rest} some).0 le),
  λ room. (le-div_iff_mul-le {x = packets} {y = rest} some).1 (omega (arith, all, room)),
)

-- so many grants do beside other packets
pub kept-fits :
    (count slots extras pace rest delay late ahead : ℕ) → zero < pace → rest + delay + late + 1 ≡ ahead → 1 ≤ count → count < 2 ^ 64
    → (count ≤ min (rest / pace - (slots + extras)) (2 ^ 64 - 1)) ↔ ((count + slots + extras) * pace + delay + late < ahead)
kept-fits count slots extras pace rest delay late ahead some all one range = (
  λ le. (room-fits (count + slots + extras) pace rest delay late ahead some all).0 (omega (arith, le, one)),
  λ room. omega (arith, range, (room-fits (count + slots + extras) pace rest delay late ahead some all).1 room),
)

-- so long a pace does, for so many packets
pub pace-fits :
    (packets pace rest delay late ahead : ℕ) → zero < packets → rest + delay + late + 1 ≡ ahead
    → (pace ≤ rest / packets) ↔ (packets * pace + delay + late < ahead)
pace-fits packets pace rest delay late ahead some all = (
  λ le. omega (arith, all, (le-div_iff_mul-le {x = pace} {y = rest} some).0 le),
  λ room. (le-div_iff_mul-le {x = pace} {y = rest} some).1 (omega (arith, all, room)),
)

-- the same, where the numbers are given by equations
pub kept :
    (count slots extras cadence late pace rest delay ahead result : ℕ) → pace ≡ cadence + late → zero < pace → rest + delay + late + 1 ≡ ahead
    → result ≡ min (rest / pace - (slots + extras)) (2 ^ 64 - 1) → 1 ≤ count → count < 2 ^ 64
    → (count ≤ result) ↔ ((count + slots + extras) * (cadence + late) + delay + late < ahead)
kept count slots extras cadence late pace rest delay ahead result sum some all is one range =
    rw (is, sym sum) (kept-fits count slots extras pace rest delay late ahead some all one range)

pub paced :
    (cadence count slots extras late rest delay ahead result packets : ℕ) → packets ≡ count + slots + extras → 1 ≤ count
    → rest + delay + late + 1 ≡ ahead → result + late ≡ rest / packets
    → (cadence ≤ result) ↔ ((count + slots + extras) * (cadence + late) + delay + late < ahead)
paced cadence count slots extras late rest delay ahead result packets sum one all is = rw (sym sum) (
  λ le. (pace-fits packets (cadence + late) rest delay late ahead (omega (arith, one, sum)) all).0 (omega (arith, le, is)),
  λ room. omega (arith, is, (pace-fits packets (cadence + late) rest delay late ahead (omega (arith, one, sum)) all).1 room),
)
