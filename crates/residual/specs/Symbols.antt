-- The doublings of a range (RFC 6386, section 7.3, 1239-1313) as a table, and the readers that it serves.
use Rattle.std.specs.Prelude.{◌+◌, ◌-◌, ◌*◌, ◌^◌, ◌≤◌, ◌<◌}
use Rattle.numbers.specs.Words.{ℕ, true, false, ltb, List, build}
use Rattle.wide.specs.declared.wide.Wide.{Wide}
use Rattle.wide.specs.Wide.{doublings_of}

-- the doublings of each range of 1..255, then the range after them, less one
unfoldable pub norms_of : List ℕ
norms_of = build 510 (λ i. elim (ltb i 255) [ true ↦ doublings_of (i + 1) | false ↦ (i - 254) * 2 ^ doublings_of (i - 254) - 1 ])

-- a range of 2..256: what a symbol leaves of it is then 1..255
pub record Ranged (w : Wide) : Type 0 where
  pub least : 1 ≤ w.top
  pub most : w.top < 256
