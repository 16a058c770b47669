-- The loop that enters links into a table.
use Rattle.std.proofs.Common.{◌≡◌, ℕ, ◌+◌, ◌<◌, ◌≤◌, List, length, get_or, set, ℤ, pos, ◌+ℤ◌, ◌≤ℤ◌, ap, ◌∙◌, arith}
use native.Mathlib.Decide.{ℕ_discrete, dec_lt}
use Rattle.std.specs.Int.{int_min}
use Rattle.std.proofs.lemmas.Int.{ints, clamps}
use Rattle.differences.specs.declared.link.Link.{Link}
use Rattle.differences.specs.Tables.{entry, Near, Obeys}
use Rattle.differences.specs.Closing.{Unlinked, link_at, KeepsLinks, GoodLinks, Entered}
use Rattle.differences.proofs.Entries.{put_same, put_other, put_each}

keeps_less : (ls : List Link) (n : ℕ) (x : ℕ → ℤ) → KeepsLinks ls (n + 1) x → KeepsLinks ls n x
keeps_less ls n x g = record { link = λ q l. g.link q (omega arith) }

keeps_more : (ls : List Link) (n : ℕ) (x : ℕ → ℤ) → KeepsLinks ls n x → x (link_at ls n).left ≤ℤ (x (link_at ls n).right +ℤ (link_at ls n).bound) → KeepsLinks ls (n + 1) x
keeps_more ls n x g h = record { link = λ q l. elim (dec_lt q n) [ yes e ↦ g.link q e | no e ↦ let same : q ≡ n = omega arith in rw same h ] }

-- before any link is entered
pub entered_none : (k : ℕ) (ls : List Link) (rows : List (List ℤ)) → k ≤ 32 → Unlinked rows → Entered k ls 0 rows
entered_none k ls rows few u =
    let zero : (i : ℕ) → i < k → entry rows i i ≡ pos 0 = λ i h. u.zeros i (omega arith) in
    let far : (i j : ℕ) → i < k → j < k → ¬ (i ≡ j) → entry rows i j ≡ pos 60000000 = λ i j hi hj ne. u.far i j (omega arith) (omega arith) ne in
    record {
      near = record {
        near = λ i hi.
            record {
              near = λ j hj.
                  elim (ℕ_discrete i j) [
                    | yes e ↦ let z : entry rows i j ≡ pos 0 = rw (← e) (zero i hi) in (omega (arith, ints), omega (arith, ints))
                    | no e ↦ (omega (arith, ints, far i j hi hj e), omega (arith, ints, far i j hi hj e))
                  ];
            };
      };
      zeros = zero;
      on = λ x vs g.
          record {
            link = λ i j hi hj.
                elim (ℕ_discrete i j) [
                  | yes e ↦ omega (arith, ints, zero i hi, ap x e, ap (entry rows i) e)
                  | no e ↦ omega (arith, ints, far i j hi hj e, vs.low i hi, vs.high j hj)
                ];
          };
      back = λ x o. record { link = λ q l. absurd (omega arith) };
    }

module _ (k : ℕ) (ls : List Link) (n : ℕ) (hn : n < length ls) (good : GoodLinks k ls) (rows : List (List ℤ)) (inv : Entered k ls n rows) where
  pub entered_more : (r c : ℕ) (new : List ℤ) → r ≡ (link_at ls n).right → c ≡ (link_at ls n).left → r < length rows
      → get_or new c (pos 0) ≡ int_min (entry rows r c) (link_at ls n).bound → ((j : ℕ) → ¬ (j ≡ c) → get_or new j (pos 0) ≡ entry rows r j) → Entered k ls (n + 1) (set rows r new)
  entered_more r c new er ec hr is rest =
      let kr : r < k = omega (arith, good.right n hn) in
      let kc : c < k = omega (arith, good.left n hn) in
      let ne : ¬ (c ≡ r) = λ e. good.two n hn (omega arith) in
      let each = put_each rows r c new hr rest in
      let near : Near (get_or new c (pos 0)) = (omega (arith, ints, clamps, is, good.near n hn, (inv.near.near r kr).near c kc), omega (arith, ints, clamps, is, good.near n hn, (inv.near.near r kr).near c kc)) in
      let lower : (i j : ℕ) → entry (set rows r new) i j ≤ℤ entry rows i j = λ i j. each (λ i j v. v ≤ℤ entry rows i j) (omega (arith, ints, clamps, is)) i j (omega (arith, ints)) in
      let back : (x : ℕ → ℤ) → Obeys k (entry (set rows r new)) x → Obeys k (entry rows) x = λ x o. record { link = λ i j hi hj. omega (arith, ints, o.link i j hi hj, lower i j) } in
      record {
        near = record { near = λ i hi. record { near = λ j hj. each (λ _ _ v. Near v) near i j ((inv.near.near i hi).near j hj) } };
        zeros = λ i hi. put_other rows r c new hr rest i i (λ b. ne (omega (arith, b.0, b.1))) ∙ inv.zeros i hi;
        on = λ x vs g.
            let was = inv.on x vs (keeps_less ls n x g) in
            record { link = λ i j hi hj. each (λ i j v. x j ≤ℤ (x i +ℤ v)) (omega (arith, ints, clamps, is, was.link r c kr kc, g.link n (omega arith), ap x er, ap x ec)) i j (was.link i j hi hj) };
        back = λ x o. keeps_more ls n x (inv.back x (back x o)) (omega (arith, ints, clamps, o.link r c kr kc, put_same rows r c new hr rest, is, ap x er, ap x ec));
      }
