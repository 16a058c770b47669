use Rattle.std.proofs.Common.{◌≡◌, ℕ, ℤ, pos, negsuc, nat_abs, Some, Ok, Err, Option, Result, ap, ◌∙◌, arith, w32, SFits}
use Rattle.std.specs.Int.{FitsUnsignedBits}
use Rattle.std.specs.Result.{OkIff, result_ok}
use Rattle.std.proofs.lemmas.Int.{ints, clamps, to_z-of_z}
use Rattle.rules.proofs.Windows.{lawful_ends}
use Rattle.depot.proofs.Rounding.{rounded}
use Rattle.depot.proofs.hours.Hours.quarters.Goals as goal

-- a value that is a minute is that minute
minute_is : {E : Type 0} (r : Result ℕ E) (z : ℤ) (n : ℕ) → OkIff r (FitsUnsignedBits 32 z) (nat_abs z) → ◌≡◌ {A = Option ℕ} (Some n) (result_ok r) → pos n ≡ z
minute_is (Ok m) (pos k) n h e = let s : n ≡ m = cc in ap pos (s ∙ h.1)
minute_is (Ok m) (negsuc k) n h e = absurd h.0
minute_is (Err d) z n h e = cc

pub returns : goal.returns
returns c =
    let ends = lawful_ends c.args.window c.requires in
    let fits : SFits w32 c.args.window.last = omega (arith, ints) in
    let until = minute_is c.try_from.result _ c.in_ok-until.until c.try_from.ensures c.in_ok-until.ensures.value ∙ to_z-of_z w32 c.args.window.last fits in
    rounded c.args.self.now.opens c.args.self.now.closes c.args.window _ c.in_ok-until.until c.max-earliest.result c.min-latest.result
    (omega (arith, ints, clamps)) until c.max-earliest.ensures c.min-latest.ensures _ (omega (arith, c.div_ceil-first.ensures)) (omega (arith, ints)) (omega (arith, ints))
