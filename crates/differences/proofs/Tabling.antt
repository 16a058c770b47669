-- What a table of distances says.
use Rattle.std.proofs.Common.{◌≡◌, ℕ, ◌<◌, ℤ, sym, ◌∙◌, arith}
use mathlib.Core.Logic.{∥∥₁_elim}
use denote.Struct.Props.{props}
use Rattle.std.proofs.lemmas.Int.{ints}
use Rattle.std.proofs.lemmas.Bool.Decides.{nat_tests}
use Rattle.differences.specs.declared.distances.Distances.{Distances}
use Rattle.differences.specs.Tables.{entry, Closed}
use Rattle.differences.specs.Distances.{distance_of}

pub closed_from : (k : ℕ) (d : ℕ → ℕ → ℤ) → ∥ Closed k d ∥₁ → Closed k d
closed_from k d t =
    record {
      near = λ i j hi hj. ∥∥₁_elim t (hlevel props) (λ c. c.near i j hi hj);
      zeros = λ i h. ∥∥₁_elim t (hlevel props) (λ c. c.zeros i h);
      short = λ i m j hi hm hj. ∥∥₁_elim t (hlevel props) (λ c. c.short i m j hi hm hj);
    }

pub closed_same : (k : ℕ) (d e : ℕ → ℕ → ℤ) → ((i j : ℕ) → i < k → j < k → d i j ≡ e i j) → Closed k d → Closed k e
closed_same k d e s c =
    record {
      near = λ i j hi hj. rw (← s i j hi hj) (c.near i j hi hj);
      zeros = λ i h. sym (s i i h h) ∙ c.zeros i h;
      short = λ i m j hi hm hj. omega (arith, ints, c.short i m j hi hm hj, s i j hi hj, s i m hi hm, s m j hm hj);
    }

pub distance_at : (t : Distances) (i j : ℕ) → i < t.columns → j < t.columns → entry t.rows i j ≡ distance_of t i j
distance_at t i j hi hj = grind (arith, nat_tests)

pub table_closed : (t : Distances) → Closed t.columns (distance_of t)
table_closed t = closed_same t.columns (entry t.rows) (distance_of t) (distance_at t) (closed_from t.columns (entry t.rows) t.closed)
