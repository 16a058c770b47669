-- A row of tops and a row of ways, read as limits.
use Rattle.std.proofs.Common.{◌≡◌, ℕ, zero, suc, ◌<◌, List, [], ◌∷◌, length, ℤ, refl, ap, arith}
use Rattle.totals.specs.declared.reaching.Limit.{Limit}
use Rattle.totals.specs.Reaching.{number_at, limit_at, limits}

pub limit_is : (top top' way way' : ℤ) → top ≡ top' → way ≡ way' → ◌≡◌ {A = Limit} (record { top = top; way = way }) (record { top = top'; way = way' })
limit_is top top' way way' p q i = record { top = p i; way = q i }

-- a row of tops and one of ways that is as long: how many limits they are, and each of them
pub limits_long : (tops ways : List ℤ) → length ways ≡ length tops → length (limits tops ways) ≡ length tops
limits_long [] ways even = refl
limits_long (top ∷ tops) [] even = absurd (omega (arith, even))
limits_long (top ∷ tops) (way ∷ ways) even = ap suc (limits_long tops ways (omega (arith, even)))

pub limits_at : (tops ways : List ℤ) (a : ℕ) → length ways ≡ length tops → a < length tops → limit_at (limits tops ways) a ≡ record { top = number_at tops a; way = number_at ways a }
limits_at [] ways a even here = absurd (omega (arith, here))
limits_at (top ∷ tops) [] a even here = absurd (omega (arith, even))
limits_at (top ∷ tops) (way ∷ ways) zero even here = refl
limits_at (top ∷ tops) (way ∷ ways) (suc a) even here = limits_at tops ways a (omega (arith, even)) (omega (arith, here))
