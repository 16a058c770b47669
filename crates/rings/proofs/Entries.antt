-- The loops that enter links into a table of walks and close it.
use Rattle.std.proofs.Common.{◌≡◌, ℕ, ◌+◌, ◌*◌, ◌^◌, ◌<◌, ◌≤◌, List, [], ◌∷◌, length, get_or, set, ℤ, pos, Some, None, Option, sym, refl, ap, ◌∙◌, subst, ⊎_elim, arith, get_or-set_other, get_or-set_same, pow_mono, pow-add}
use Rattle.std.specs.List.{ContainsAt}
use Rattle.std.proofs.lemmas.Int.{ints, clamps}
use Rattle.std.proofs.lemmas.Bool.{cases_eq}
use Rattle.differences.specs.declared.link.Link.{Link}
use Rattle.rings.specs.Rings.{Walk}
use Rattle.rings.specs.Tables.{entry, at, AtMost, joined, shorter, Stepped, Walks, Moderate, ModerateRows, Within, Bounded, Blank, GoodLinks, Entered}
use Rattle.rings.proofs.Steps.{walks_step, came, most_stays}

within_step : (b : ℕ) (o p q : Option ℤ) → Within b o → Within b p → Within b q → Within (b + b) (shorter o (joined p q))
within_step b None None q h f g = tt
within_step b None (Some x) None h f g = tt
within_step b None (Some x) (Some y) h f g = (omega (arith, ints), omega (arith, ints))
within_step b (Some z) None q h f g = (omega (arith, ints), omega (arith, ints))
within_step b (Some z) (Some x) None h f g = (omega (arith, ints), omega (arith, ints))
within_step b (Some z) (Some x) (Some y) h f g = (omega (arith, ints, clamps), omega (arith, ints, clamps))

within_more : (a b : ℕ) (o : Option ℤ) → a ≤ b → Within a o → Within b o
within_more a b None l h = tt
within_more a b (Some v) l h = (omega (arith, ints), omega (arith, ints))

within_moderate : (b : ℕ) (o : Option ℤ) → b ≤ 2305843009213693952 → Within b o → Moderate o
within_moderate b None l h = tt
within_moderate b (Some v) l h = (omega (arith, ints), omega (arith, ints))

-- the table of the links, after the ways by m columns are entered
pub record Closing (k : ℕ) (links : List Link) (d : ℕ → ℕ → Option ℤ) (m : ℕ) : Type 0 where
  pub bounded : Bounded k (60000000 * 2 ^ m) d
  pub walks : Walks k links m d

pub closing_none : (k : ℕ) (links : List Link) (d : ℕ → ℕ → Option ℤ) → Entered k links d → Closing k links d 0
closing_none k links d e = record { bounded = e.bounded; walks = e.walks }

pub closing_more : (k m : ℕ) (links : List Link) (d e : ℕ → ℕ → Option ℤ) → GoodLinks k links → m < k → Stepped k m d e → Closing k links d m → Closing k links e (m + 1)
closing_more k m links d e g hm st c =
    record {
      bounded = record {
        each = λ i j hi hj.
            let h = within_step (60000000 * 2 ^ m) (d i j) (d i m) (d m j) (c.bounded.each i j hi hj) (c.bounded.each i m hi hm) (c.bounded.each m j hm hj) in
            let twice : 60000000 * 2 ^ m + 60000000 * 2 ^ m ≤ 60000000 * 2 ^ (m + 1) = omega (arith, pow-add 2 m 1) in
            within_more _ _ (e i j) twice (subst (Within (60000000 * 2 ^ m + 60000000 * 2 ^ m)) (sym (st.is i j hi hj)) h);
      };
      walks = walks_step k links m hm d e st c.walks (λ l a. (g.right l a, g.left l a));
    }

pub closing_moderate : (k m : ℕ) (links : List Link) (t : List (List (Option ℤ))) → k ≤ 32 → m < k → Closing k links (at t) m → ModerateRows k t
closing_moderate k m links t few hm c =
    let p : 2 ^ m ≤ 2 ^ 32 = (let few' : m ≤ 32 = omega arith in pow_mono few') in
    record { each = λ i hi. record { each = λ j hj. within_moderate (60000000 * 2 ^ m) (at t i j) (omega arith) (c.bounded.each i j hi hj) } }

pub closing_bounded : (k m : ℕ) (links : List Link) (d : ℕ → ℕ → Option ℤ) → m ≤ 32 → Closing k links d m → Bounded k 257698037760000000 d
closing_bounded k m links d few c =
    let p : 2 ^ m ≤ 2 ^ 32 = pow_mono few in
    record { each = λ i j hi hj. within_more (60000000 * 2 ^ m) _ (d i j) (omega arith) (c.bounded.each i j hi hj) }

abbrev pub no_link : Link
no_link = record { left = 0; right = 0; bound = pos 0 }

-- a table after n of the links are entered
pub record Entering (k : ℕ) (links : List Link) (t : List (List (Option ℤ))) (n : ℕ) : Type 0 where
  pub bounded : Bounded k 60000000 (at t)
  pub sound : (i j : ℕ) → i < k → j < k → (v : ℤ) → at t i j ≡ Some v → Walk links i j v
  pub single : (q : ℕ) → q < n → AtMost (at t (get_or links q no_link).right (get_or links q no_link).left) (get_or links q no_link).bound

pub entering_none : (k : ℕ) (links : List Link) (t : List (List (Option ℤ))) → Blank k t → Entering k links t 0
entering_none k links t b =
    record {
      bounded = record { each = λ i j hi hj. subst (Within 60000000) (sym (b.none i j hi hj)) tt };
      sound = λ i j hi hj v e. let z : ◌≡◌ {A = ℕ} 0 1 = cc (b.none i j hi hj) in absurd (omega arith);
      single = λ q l. absurd (omega arith);
    }

-- what one note makes of an entry: that of the link, or none
module _ (k : ℕ) (links : List Link) (t : List (List (Option ℤ))) (n : ℕ) (link : Link) (row : List (Option ℤ)) (few : k ≤ length t)
    (has : ContainsAt links link) (good : GoodLinks k links)
    (bound : ℤ) (bound-is : bound ≡ link.bound) (same : entry row link.left ≡ shorter (entry (get_or t link.right []) link.left) (Some bound))
    (other : (j : ℕ) → (j ≡ link.left → ⊥) → entry row j ≡ entry (get_or t link.right []) j) where
  now : List (List (Option ℤ))
  now = set t link.right row

  here : at now link.right link.left ≡ shorter (at t link.right link.left) (Some link.bound)
  unfolding now
  here =
      let lt : link.right < length t = omega (arith, good.right link has) in
      ap (λ (r : List (Option ℤ)). entry r link.left) (get_or-set_same t link.right row [] lt) ∙ same ∙ ap (λ z. shorter (at t link.right link.left) (Some z)) bound-is

  there : (i j : ℕ) → ((i ≡ link.right) × (j ≡ link.left) → ⊥) → at now i j ≡ at t i j
  unfolding now
  there i j ne =
      let lt : link.right < length t = omega (arith, good.right link has) in
      ⊎_elim
      (λ e. ap (λ (r : List (Option ℤ)). entry r j) (ap (λ (c : ℕ). get_or (set t link.right row) c []) e ∙ get_or-set_same t link.right row [] lt)
      ∙ other j (λ f. ne (e, f)) ∙ ap (λ (c : ℕ). at t c j) (sym e))
      (λ f. ap (λ (r : List (Option ℤ)). entry r j) (get_or-set_other t link.right i row [] f))
      (cases_eq i link.right)

  -- what holds of every old entry and of the new one holds of every entry
  each : (P : ℕ → ℕ → Option ℤ → Type 0) (i j : ℕ) → P i j (at t i j)
      → P link.right link.left (shorter (at t link.right link.left) (Some link.bound)) → P i j (at now i j)
  each P i j was is =
      ⊎_elim
      (λ e. ⊎_elim
      (λ f. subst (λ (c : ℕ). P c j (at now c j)) (sym e) (subst (λ (c : ℕ). P link.right c (at now link.right c)) (sym f) (subst (P link.right link.left) (sym here) is)))
      (λ f. subst (P i j) (sym (there i j (λ g. f g.1))) was)
      (cases_eq j link.left))
      (λ e. subst (P i j) (sym (there i j (λ g. e g.0))) was)
      (cases_eq i link.right)

  first : (o : Option ℤ) → Within 60000000 o → Within 60000000 (shorter o (Some link.bound))
  first None h = let l = good.low link has in let u = good.high link has in (omega (arith, ints), omega (arith, ints))
  first (Some v) h = let l = good.low link has in let u = good.high link has in (omega (arith, ints, clamps), omega (arith, ints, clamps))

  leads : (o : Option ℤ) → ((v : ℤ) → o ≡ Some v → Walk links link.right link.left v) → (v : ℤ) → shorter o (Some link.bound) ≡ Some v → Walk links link.right link.left v
  leads o h v e =
      ⊎_elim (h v)
      (λ (x, y, p, q, s). record { along = link ∷ []; leads = (has, refl, refl); long = let a : link.bound ≡ x = cc in let b : pos 0 ≡ y = cc in omega (arith, ints) })
      (came o (Some link.bound) (Some (pos 0)) v (ap (λ z. shorter o (Some z)) (omega (arith, ints)) ∙ e))

  noted : (o : Option ℤ) → AtMost (shorter o (Some link.bound)) link.bound
  noted None = omega (arith, ints)
  noted (Some v) = omega (arith, ints, clamps)

  kept : (i j : ℕ) (z : ℤ) → AtMost (at t i j) z → AtMost (at now i j) z
  kept i j z = each (λ a b o. AtMost (at t a b) z → AtMost o z) i j (λ h. h) (most_stays (at t link.right link.left) (Some link.bound) z)

  pub entering_more : get_or links n no_link ≡ link → Entering k links t n → Entering k links (set t link.right row) (n + 1)
  unfolding now
  entering_more is s =
      let hr = good.right link has in
      let hl = good.left link has in
      record {
        bounded = record { each = λ i j hi hj. each (λ _ _ o. Within 60000000 o) i j (s.bounded.each i j hi hj) (first _ (s.bounded.each link.right link.left hr hl)) };
        sound = λ i j hi hj. each (λ a b o. (v : ℤ) → o ≡ Some v → Walk links a b v) i j (s.sound i j hi hj) (leads _ (s.sound link.right link.left hr hl));
        single = λ q l. ⊎_elim
            (λ e. subst (λ (c : Link). AtMost (at now c.right c.left) c.bound) (sym (ap (λ (c : ℕ). get_or links c no_link) e ∙ is))
            (subst (λ (o : Option ℤ). AtMost o link.bound) (sym here) (noted (at t link.right link.left))))
            (λ ne. kept _ _ _ (s.single q (omega arith)))
            (cases_eq q n);
      }

pub entering_all : (k : ℕ) (links : List Link) (t : List (List (Option ℤ))) (n : ℕ) → length links ≤ n → Entering k links t n → Entered k links (at t)
entering_all k links t n h s =
    record {
      bounded = s.bounded;
      walks = record {
        sound = s.sound;
        single = λ l a. subst (λ (c : Link). AtMost (at t c.right c.left) c.bound) (a.2 no_link) (s.single a.0 (let lt = a.1 in omega arith));
        reach = λ i m j hi hm hj lt p q. absurd (omega arith);
        short = λ C cv nb i m j hi hm hj lt ci cm cj a b p q. absurd (omega arith);
      };
    }
