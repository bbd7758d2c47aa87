-- Sets of points, as finite sets of their numbers.
use Rattle.std.specs.Prelude.{ℕ, zero, suc, Bool, cond}
use Rattle.std.specs.Ordering.{nat_cmp}
use Rattle.std.specs.FinSet as set

-- the numbers below a bound that pass a test
unfoldable pub passing : (ℕ → Bool) → ℕ → set.FinSet nat_cmp
passing f zero = set.empty
passing f (suc n) = cond (f n) (set.insert (passing f n) n) (passing f n)
