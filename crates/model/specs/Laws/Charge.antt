-- Words of the laws in proofs/Laws/Charge.antt, as definitions. Those laws:
-- The charge and the shares, of plain numbers: the charge is rounded up, a share lies between what its cycles cost alone rounded
-- down and rounded up, and shares add up to the charge.
use Rattle.std.specs.Prelude.{ℕ, ◌+◌, ◌*◌, ◌≤◌, ◌<◌}
use Rattle.model.specs.Tariff.{rate_cycles}

-- the least number of cents that pays for the cycles
pub record Rounded (rate cycles cents : ℕ) : Type 0 where
  pub pays : cycles * rate ≤ cents * rate_cycles
  pub just : cents * rate_cycles < cycles * rate + rate_cycles

-- the same rounded down
pub record Down (rate cycles cents : ℕ) : Type 0 where
  pub paid : cents * rate_cycles ≤ cycles * rate
  pub nearly : cycles * rate < cents * rate_cycles + rate_cycles
