-- The loop that closes a table.
use Rattle.std.proofs.Common.{◌≡◌, ℕ, ◌+◌, ◌<◌, ◌≤◌, List, ℤ, pos, arith}
use Rattle.differences.specs.Tables.{entry, Obeys}
use Rattle.differences.specs.Closing.{NearRows, Stepped, NoValues, ClosedFrom}
use Rattle.differences.proofs.Steps.{Through, step_back, step_on, step_through}

-- now says what old says, and every way through the first m columns is there
pub record Closing (k : ℕ) (old now : List (List ℤ)) (m : ℕ) : Type 0 where
  pub near : NearRows k now
  pub through : Through k m (entry now)
  pub on : (x : ℕ → ℤ) → Obeys k (entry old) x → Obeys k (entry now) x
  pub back : (x : ℕ → ℤ) → Obeys k (entry now) x → Obeys k (entry old) x

pub closing_none : (k : ℕ) (old : List (List ℤ)) → NearRows k old → ((i : ℕ) → i < k → entry old i i ≡ pos 0) → Closing k old old 0
closing_none k old near zeros =
    record { near = near; through = record { zeros = zeros; short = λ i n j hi hn hj h. absurd (omega arith) }; on = λ x o. o; back = λ x o. o }

module _ (k : ℕ) (old now : List (List ℤ)) (m : ℕ) (inv : Closing k old now m) where
  pub closing_more : (new : List (List ℤ)) → m < k → Stepped k m (entry now) (entry new) → NearRows k new → Closing k old new (m + 1)
  closing_more new h st near =
      record {
        near = near;
        through = step_through k m (entry now) (entry new) h st inv.through;
        on = λ x o. step_on k m (entry now) (entry new) h st x (inv.on x o);
        back = λ x o. inv.back x (step_back k m (entry now) (entry new) h st x o);
      }

  pub closing_all : k ≤ m → ClosedFrom k old now
  closing_all h =
      record {
        closed = record {
          near = λ i j hi hj. (inv.near.near i hi).near j hj;
          zeros = inv.through.zeros;
          short = λ i n j hi hn hj. inv.through.short i n j hi hn hj (omega arith);
        };
        on = inv.on;
        back = inv.back;
      }

  pub closing_stops : NoValues k now → NoValues k old
  closing_stops none = record { none = λ x vs o. none.none x vs (inv.on x o) }
