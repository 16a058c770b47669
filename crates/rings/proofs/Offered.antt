-- Links that were not refused, and a table that holds no walk yet.
use Rattle.std.proofs.Common.{◌≡◌, ℕ, zero, suc, ◌<◌, ◌≤◌, List, [], get_or, replicate, ℤ, pos, negsuc, ◌≤ℤ◌, Some, None, Err, Option, Result, sym, refl, ap, ◌∙◌, subst, arith, MatchOption}
use Rattle.std.specs.List.{ContainsAt}
use Rattle.std.proofs.lemmas.List.{get_or-replicate}
use Rattle.rules.specs.declared.fault.Fault.{Fault}
use Rattle.rules.specs.Refusals.{answer}
use Rattle.differences.specs.declared.link.Link.{Link}
use Rattle.differences.specs.Links.{links_refusal}
use Rattle.differences.proofs.Judging.{links_taken}
use Rattle.rings.specs.Rings.{RingsJudged, RingsAnswer, RingsChecked}
use Rattle.rings.specs.Tables.{GoodLinks, Blank}
use Rattle.rings.proofs.Entries.{no_link}

-- links that were not refused are good, and join two columns each
pub record Taken (k : ℕ) (links : List Link) : Type 0 where
  pub some : 1 ≤ k
  pub few : k ≤ 32
  pub good : GoodLinks k links
  pub two : (l : Link) → ContainsAt links l → l.right ≡ l.left → ⊥

pub taken : (k : ℕ) (links : List Link) → links_refusal k links ≡ None → Taken k links
taken k links e =
    let a = links_taken k links e in
    let g = a.good in
    record {
      some = a.some;
      few = a.few;
      good = record {
        right = λ l (n, h, f). subst (λ (m : Link). m.right < k) (f no_link) (g.right n h);
        left = λ l (n, h, f). subst (λ (m : Link). m.left < k) (f no_link) (g.left n h);
        low = λ l (n, h, f). subst (λ (m : Link). negsuc 59999999 ≤ℤ m.bound) (f no_link) (g.near n h).0;
        high = λ l (n, h, f). subst (λ (m : Link). m.bound ≤ℤ pos 60000000) (f no_link) (g.near n h).1;
      };
      two = λ l (n, h, f). subst (λ (m : Link). m.right ≡ m.left → ⊥) (f no_link) (λ s. g.two n h (sym s));
    }

-- from the refusal of the links to the whole answer
pub checked_links : (k : ℕ) (links : List Link) (ss : List ℕ) (f : Fault) → links_refusal k links ≡ Some f → RingsChecked k links ss (Err f)
checked_links k links ss f e = subst (λ (o : Option Fault). MatchOption o (RingsAnswer k links ss (Err f)) (λ g. ◌≡◌ {A = Result (Unit {0}) Fault} (Err f) (Err g))) (sym e) refl

pub checked_rings : (k : ℕ) (links : List Link) (ss : List ℕ) (o : Option Fault) → links_refusal k links ≡ None → RingsJudged k links ss o → RingsChecked k links ss (answer o)
checked_rings k links ss o e j = subst (λ (p : Option Fault). MatchOption p (RingsAnswer k links ss (answer o)) (λ g. ◌≡◌ {A = Result (Unit {0}) Fault} (answer o) (Err g))) (sym e) (o, j, refl)

-- a table of nothing
entry_none : (n j : ℕ) → ◌≡◌ {A = Option ℤ} (get_or (replicate n None) j None) None
entry_none zero j = refl
entry_none (suc n) zero = refl
entry_none (suc n) (suc j) = entry_none n j

pub blank_all : (m n : ℕ) → Blank m (replicate m (replicate n None))
blank_all m n = record {
  none = λ i j hi hj.
      ap (λ (r : List (Option ℤ)). get_or r j None) (get_or-replicate m i (replicate n None) [] (omega arith)) ∙ entry_none n j;
}

pub blank_leading : (k : ℕ) (t : List (List (Option ℤ))) → k ≤ 32 → Blank 32 t → Blank k t
blank_leading k t few b = record { none = λ i j hi hj. b.none i j (omega arith) (omega arith) }
