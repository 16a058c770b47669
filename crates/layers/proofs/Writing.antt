-- A loop that writes one window after another.
use Rattle.std.proofs.Common.{◌≡◌, ℕ, ◌+◌, ◌<◌, ◌≤◌, ◌≢◌, List, length, set, sym, ◌∙◌, subst, arith}
use Rattle.std.proofs.lemmas.List.{ext_get_or, get_or-set_other}
use Rattle.std.proofs.lemmas.List.Edits.{fill_by_more}
use Rattle.rules.specs.declared.window.Window.{Window}
use Rattle.rules.specs.Plans.{window_at}

-- a loop that writes f k of each window of ws
module _ (f : ℕ → Window → Window) (ws : List Window) where
  abbrev pub Written : List Window → ℕ → Type 0
  Written xs i = (k : ℕ) → k < i → window_at xs k ≡ f k (window_at ws k)

  pub written_more : (xs : List Window) (i : ℕ) (w : Window) → i < length xs → Written xs i → w ≡ f i (window_at ws i) → Written (set xs i w) (i + 1)
  written_more xs i w l inv e k h = subst (λ (v : Window). window_at (set xs i v) k ≡ f k (window_at ws k)) (sym e) (fill_by_more (λ j. f j (window_at ws j)) xs i _ l inv k h)

  pub written_all : (xs ys : List Window) (i : ℕ) → length xs ≡ length ws → length ys ≡ length ws → length ws ≤ i → Written xs i → ((k : ℕ) → k < length ws → window_at ys k ≡ f k (window_at ws k)) → xs ≡ ys
  written_all xs ys i lx ly l inv all = ext_get_or _ xs ys (lx ∙ sym ly) (λ k h. inv k (omega arith) ∙ sym (all k (omega arith)))

-- the windows from i on are still those of ws
abbrev pub Unwritten : List Window → List Window → ℕ → Type 0
Unwritten ws xs i = (k : ℕ) → i ≤ k → window_at xs k ≡ window_at ws k

pub unwritten_more : (ws xs : List Window) (i : ℕ) (w : Window) → Unwritten ws xs i → Unwritten ws (set xs i w) (i + 1)
unwritten_more ws xs i w inv k h = let ne : k ≢ i = omega arith in get_or-set_other xs i k w _ ne ∙ inv k (omega arith)

pub same_window : (v w : Window) → v.first ≡ w.first → v.last ≡ w.last → v ≡ w
same_window v w f l = λ i. record { first = f i; last = l i }
