-- A loop that adds up the ends of the summands' windows.
use Rattle.std.proofs.Common.{◌≡◌, ℕ, ◌+◌, ◌*◌, ◌≤◌, ℤ, pos, ◌+ℤ◌, ◌≤ℤ◌, ap, ◌∙◌, add-one, arith}
use Rattle.std.proofs.lemmas.Int.{ints}
use Rattle.totals.specs.Adding.{sum_to}
use Rattle.totals.specs.Reaching.{Value, Moderate}

-- the values of n summands are added up
pub record Summing (f : ℕ → ℤ) (n : ℕ) (sum : ℤ) : Type 0 where
  pub is : sum ≡ sum_to n f
  pub low : pos 0 ≤ℤ (sum +ℤ pos (30000000 * n))
  pub high : sum ≤ℤ pos (30000000 * n)

pub summing_more : (f : ℕ → ℤ) (n : ℕ) (sum one sum' : ℤ) → Summing f n sum → one ≡ f n → Value one → sum' ≡ sum +ℤ one → Summing f (n + 1) sum'
summing_more f n sum one sum' p e b s =
    let i = p.is in
    let l = p.low in
    let h = p.high in
    record { is = rw add-one (omega (arith, ints)); low = omega (arith, ints); high = omega (arith, ints) }

pub summing_all : (f : ℕ → ℤ) (n : ℕ) (sum : ℤ) → n ≤ 31 → Summing f n sum → Moderate sum
summing_all f n sum few p = let l = p.low in let h = p.high in (omega (arith, ints), omega (arith, ints))

pub summed : (f : ℕ → ℤ) (n m : ℕ) (sum : ℤ) → Summing f n sum → n ≡ m → sum ≡ sum_to m f
summed f n m sum p e = p.is ∙ ap (λ (k : ℕ). sum_to k f) e
