-- What a total leaves is exactly what the plans have that keep ways and meet the total.
use Rattle.std.proofs.Common.{◌≡◌, ℕ, zero, suc, ◌<◌, ◌≤◌, Bool, true, cond, eqb, List, length, ℤ, pos, negsuc, ◌≤ℤ◌, ◌<ℤ◌, None, Ok, Option, sym, refl, ap, ◌∙◌, subst, inl, inr, ⊎_elim, arith}
use Rattle.std.specs.Int.{int_max}
use Rattle.std.proofs.lemmas.Int.{ints, clamps, by_lt_z}
use Rattle.std.proofs.lemmas.Bool.{cases_eq, cond-true, cond-false, eq-eqb, ne_eqb}
use Rattle.rules.specs.declared.window.Window.{Window}
use Rattle.rules.specs.declared.verdict.Verdict.{Verdict}
use Rattle.rules.specs.declared.verdict.Verdict.TheVariants.{Open, Void}
use Rattle.rules.specs.Plans.{window_at, value_at, lies, inside, all_lawful, Supported, Filled, Keeps, NoPlan}
use Rattle.rules.specs.Refusals.{window_refusal}
use Rattle.rules.specs.Enumeration.{Left}
use Rattle.rules.specs.Meaning.{Meaning, tight_rule, Narrowed, Opened}
use Rattle.rules.proofs.Windows.{Holds, Ends, lawful_at, lawful_ends, lies_at, lies-length, lies_from, lies-inside, inside-length, inside_from, inside_trans, plan_of, plan_at, plan_lies}
use Rattle.rules.proofs.Failing.{taken}
use Rattle.rules.proofs.Outcomes.{opened}
use Rattle.differences.specs.Tables.{Obeys, Closed}
use Rattle.differences.specs.Ends.{first_at, last_at}
use Rattle.differences.proofs.Obeying.{each_obeys}
use Rattle.differences.proofs.Raising.{Under, raised, lowered, raised_obeys, raised_over, raised_under, raised_at, lowered_obeys, lowered_under, lowered_over, lowered_at, raised_lowered}
use Rattle.rings.proofs.Ways.{Ways, OnWays}
use Rattle.totals.specs.Adding.{sum_to, total}
use Rattle.totals.specs.Cuts.{column_at, ColumnCut, Trims, low_of, high_of, TotalCut, TotalVoid, TotalOutcome}
use Rattle.totals.proofs.Meeting.{ends_obey}
use Rattle.totals.proofs.Between.{Summands, Between, reach, total_mono, under_trans}

-- from -30,000,000 to 30,000,000 in each of k columns
pub record Valued (k : ℕ) (x : ℕ → ℤ) : Type 0 where
  pub low : (i : ℕ) → i < k → negsuc 29999999 ≤ℤ x i
  pub high : (i : ℕ) → i < k → x i ≤ℤ pos 30000000

-- A allows the plans of values that obey the distances d and whose column t is the total of the columns ss.
-- Among values, to obey d is to keep the ways w, and column t is bound by no way
pub record Meets (k : ℕ) (d : ℕ → ℕ → ℤ) (w : ℕ → ℕ → Option ℤ) (t : ℕ) (ss : List ℕ) (A : List ℤ → Bool) : Type 0 where
  pub closed : Closed k d
  pub ways : Ways k w
  pub summands : Summands k w (length ss) (column_at ss)
  pub there : t < k
  pub apart : (a : ℕ) → a < length ss → column_at ss a ≡ t → ⊥
  pub keeps : (x : ℕ → ℤ) → Valued k x → Obeys k d x → OnWays k w x
  pub loose : (x y : ℕ → ℤ) → ((i : ℕ) → i < k → (i ≡ t → ⊥) → y i ≡ x i) → Valued k y → OnWays k w x → Obeys k d y
  pub allows : (x : List ℤ) → length x ≡ k → Valued k (value_at x) → Obeys k d (value_at x) → value_at x t ≡ total (length ss) (column_at ss) (value_at x) → A x ≡ true
  pub obeys : (x : List ℤ) → length x ≡ k → Valued k (value_at x) → A x ≡ true → Obeys k d (value_at x)
  pub totals : (x : List ℤ) → A x ≡ true → value_at x t ≡ total (length ss) (column_at ss) (value_at x)

sum_same : (n : ℕ) (f g : ℕ → ℤ) → ((a : ℕ) → a < n → f a ≡ g a) → sum_to n f ≡ sum_to n g
sum_same zero f g h = refl
sum_same (suc n) f g h = let r = sum_same n f g (λ a l. h a (omega arith)) in let e = h n (omega arith) in omega (arith, ints)

-- facts about the values of k columns go over to values that are equal there
module _ (k : ℕ) (x y : ℕ → ℤ) (same : (i : ℕ) → i < k → y i ≡ x i) where
  valued_same : Valued k x → Valued k y
  valued_same v = record { low = λ i h. let e = same i h in let l = v.low i h in omega (arith, ints); high = λ i h. let e = same i h in let l = v.high i h in omega (arith, ints) }

  obeys_same : (d : ℕ → ℕ → ℤ) → Obeys k d x → Obeys k d y
  obeys_same d o = record { link = λ i j hi hj. let a = same i hi in let b = same j hj in let l = o.link i j hi hj in omega (arith, ints) }

module _ (k : ℕ) (d : ℕ → ℕ → ℤ) (w : ℕ → ℕ → Option ℤ) (t : ℕ) (ss : List ℕ) (A : List ℤ → Bool) (M : Meets k d w t ss A)
    (vs ms : List Window) (lawful-vs : all_lawful vs ≡ true) (long-vs : length vs ≡ k) (T : Trims k d vs ms) where
  abbrev n : ℕ
  n = length ss

  abbrev s : ℕ → ℕ
  s = column_at ss

  abbrev f : ℕ → ℤ
  f = first_at ms

  abbrev l : ℕ → ℤ
  l = last_at ms

  long_ms : length ms ≡ k
  long_ms = inside-length ms vs T.within ∙ long-vs

  ends_at : (i : ℕ) → i < k → Ends (window_at ms i)
  ends_at i h = lawful_ends (window_at ms i) (lawful_at ms i T.lawful_after (omega (arith, long_ms)))

  firsts_obey : Obeys k d f
  firsts_obey = (ends_obey k d vs ms long_ms T).firsts

  lasts_obey : Obeys k d l
  lasts_obey = (ends_obey k d vs ms long_ms T).lasts

  first_last : Under k f l
  first_last = record { under = λ i h. (ends_at i h).order }

  -- values between the ends are values
  between_valued : (x : ℕ → ℤ) → Under k f x → Under k x l → Valued k x
  between_valued x u v =
      record {
        low = λ i h. let a = (ends_at i h).low in let b = u.under i h in omega (arith, ints);
        high = λ i h. let a = (ends_at i h).high in let b = v.under i h in omega (arith, ints);
      }

  mono : (y z : ℕ → ℤ) → Under k y z → total n s y ≤ℤ total n s z
  mono = total_mono k w n s M.ways M.summands

  -- an allowed plan in vs, column by column
  module _ (x : List ℤ) (a : A x ≡ true) (h : lies x vs ≡ true) where
    long_x : length x ≡ k
    long_x = lies-length x vs h ∙ long-vs

    plan_valued : Valued k (value_at x)
    plan_valued =
        record {
          low = λ i hi. let p = lies_at x vs i h (omega (arith, long-vs)) in let e = lawful_ends (window_at vs i) (lawful_at vs i lawful-vs (omega (arith, long-vs))) in omega (arith, ints, p.low, e.low);
          high = λ i hi. let p = lies_at x vs i h (omega (arith, long-vs)) in let e = lawful_ends (window_at vs i) (lawful_at vs i lawful-vs (omega (arith, long-vs))) in omega (arith, ints, p.high, e.high);
        }

    plan_obeys : Obeys k d (value_at x)
    plan_obeys = M.obeys x long_x plan_valued a

    plan_in : lies x ms ≡ true
    plan_in = T.keeps x (each_obeys k d x plan_obeys) h

    plan_over : Under k f (value_at x)
    plan_over = record { under = λ i hi. (lies_at x ms i plan_in (omega (arith, long_ms))).low }

    plan_below : Under k (value_at x) l
    plan_below = record { under = λ i hi. (lies_at x ms i plan_in (omega (arith, long_ms))).high }

    plan_low : low_of ms t ss ≤ℤ value_at x t
    plan_low = let e = M.totals x a in let m = mono f (value_at x) plan_over in let u = plan_over.under t M.there in omega (arith, ints, clamps)

    plan_high : value_at x t ≤ℤ high_of ms t ss
    plan_high = let e = M.totals x a in let m = mono (value_at x) l plan_below in let u = plan_below.under t M.there in omega (arith, ints, clamps)

    plan_cut : (j : ℕ) (c : Window) → j < k → ColumnCut d ms ss j (low_of ms t ss) (high_of ms t ss) c → Holds c (value_at x j)
    plan_cut j c hj cut =
        let e = M.totals x a in
        let lo = plan_low in
        let hi = plan_high in
        let up = mono (value_at x) (lowered d l j (value_at x j)) (lowered_over k d M.closed (value_at x) l j (value_at x j) hj plan_below plan_obeys (omega (arith, ints))) in
        let down = mono (raised d f j (value_at x j)) (value_at x) (raised_under k d M.closed f (value_at x) j (value_at x j) hj plan_over plan_obeys (omega (arith, ints))) in
        record {
          low = by_lt_z (value_at x j) c.first (λ lt. let b = cut.first.before (value_at x j) (plan_over.under j hj) lt in absurd (omega (arith, ints))) (λ ge. ge);
          high = by_lt_z c.last (value_at x j) (λ lt. let b = cut.last.after (value_at x j) (plan_below.under j hj) lt in absurd (omega (arith, ints))) (λ ge. ge);
        }

  -- the total cannot be met
  pub none_met : high_of ms t ss <ℤ low_of ms t ss → NoPlan A vs
  none_met h x a lie = let lo = plan_low x a lie in let hi = plan_high x a lie in omega (arith, ints)

  -- values between, and the total in its column
  abbrev with_total : (ℕ → ℤ) → ℤ → ℕ → ℤ
  with_total x v i = cond (eqb i t) v (x i)

  at_t : (x : ℕ → ℤ) (v : ℤ) → with_total x v t ≡ v
  at_t x v = cond-true (eqb t t) v (x t) (eq-eqb t t refl)

  not_t : (x : ℕ → ℤ) (v : ℤ) (i : ℕ) → (i ≡ t → ⊥) → with_total x v i ≡ x i
  not_t x v i ne = cond-false (eqb i t) v (x i) (ne_eqb i t ne)

  -- a plan with a total from low to high, whose values lie between the ends
  module _ (x : ℕ → ℤ) (v : ℤ) (on : OnWays k w x) (over : Under k f x) (below : Under k x l) (sum : total n s x ≡ v)
      (low : low_of ms t ss ≤ℤ v) (high : v ≤ℤ high_of ms t ss) where
    abbrev y : ℕ → ℤ
    y = with_total x v

    y_holds : (i : ℕ) → i < k → Holds (window_at ms i) (y i)
    y_holds i hi =
        ⊎_elim
        (λ e.
        let g = ap y e ∙ at_t x v in
        let a = ap f e in
        let b = ap l e in
        record { low = omega (arith, ints, clamps); high = omega (arith, ints, clamps) })
        (λ ne. let g = not_t x v i ne in let a = over.under i hi in let b = below.under i hi in record { low = omega (arith, ints); high = omega (arith, ints) })
        (cases_eq i t)

    y_valued : Valued k y
    y_valued = between_valued y (record { under = λ i h. (y_holds i h).low }) (record { under = λ i h. (y_holds i h).high })

    abbrev plan : List ℤ
    plan = plan_of k y

    plan_same : (i : ℕ) → i < k → value_at plan i ≡ y i
    plan_same i h = plan_at k y i h

    plan_long : length plan ≡ k
    plan_long = lies-length plan ms (plan_lies k y ms long_ms y_holds) ∙ long_ms

    plan_total : value_at plan t ≡ total n s (value_at plan)
    plan_total =
        let e = plan_same t M.there ∙ at_t x v in
        let g = sum_same n (λ a. value_at plan (s a)) (λ a. x (s a)) (λ a h. plan_same (s a) (M.summands.column a h) ∙ not_t x v (s a) (M.apart a h)) in
        omega (arith, ints)

    pub met_allowed : A plan ≡ true
    met_allowed =
        M.allows plan plan_long (valued_same k y (value_at plan) plan_same y_valued)
        (obeys_same k y (value_at plan) plan_same d (M.loose x y (λ i h ne. not_t x v i ne) y_valued on)) plan_total

    pub met_lies : lies plan ms ≡ true
    met_lies = plan_lies k y ms long_ms y_holds

    pub met_at : (j : ℕ) → j < k → (j ≡ t → ⊥) → value_at plan j ≡ x j
    met_at j h ne = plan_same j h ∙ not_t x v j ne

    pub met_total : value_at plan t ≡ v
    met_total = plan_same t M.there ∙ at_t x v

  -- the windows ws after the cut by the total
  module _ (ws : List Window) (C : TotalCut k d t ss vs ms ws) where
    abbrev lo : ℤ
    lo = low_of ms t ss

    abbrev hi : ℤ
    hi = high_of ms t ss

    keeps_cut : Keeps A vs ws
    keeps_cut x a h =
        lies_from x ws (long_x x a h ∙ sym C.long) λ i hi'.
        ⊎_elim
        (λ e.
        let g = ap (window_at ws) e ∙ (C.met.each t M.there).at_total refl in
        let p = ap (λ (c : Window). c.first) g in
        let q = ap (λ (c : Window). c.last) g in
        let u = ap (value_at x) e in
        let b = plan_low x a h in
        let c = plan_high x a h in
        record { low = omega (arith, ints); high = omega (arith, ints) })
        (λ ne. plan_cut x a h i (window_at ws i) (omega (arith, C.long)) ((C.met.each i (omega (arith, C.long))).cut ne))
        (cases_eq i t)

    within_ms : inside ws ms ≡ true
    within_ms =
        inside_from ws ms (C.long ∙ sym long_ms) λ i hi'.
        ⊎_elim
        (λ e.
        let g = ap (window_at ws) e ∙ (C.met.each t M.there).at_total refl in
        let p = ap (λ (c : Window). c.first) g in
        let q = ap (λ (c : Window). c.last) g in
        let a = ap f e in
        let b = ap l e in
        record { low = omega (arith, ints, clamps); high = omega (arith, ints, clamps) })
        (λ ne. let c = (C.met.each i (omega (arith, C.long))).cut ne in record { low = c.first.late; high = c.last.early })
        (cases_eq i t)

    -- a value of another column than the total's
    module _ (j : ℕ) (v : ℤ) (hj : j < k) (ne : j ≡ t → ⊥) (from : (window_at ws j).first ≤ℤ v) (upto : v ≤ℤ (window_at ws j).last) where
      cut_j : ColumnCut d ms ss j lo hi (window_at ws j)
      cut_j = (C.met.each j hj).cut ne

      f_v : f j ≤ℤ v
      f_v = let a = cut_j.first.late in omega (arith, ints)

      v_l : v ≤ℤ l j
      v_l = let a = cut_j.last.early in omega (arith, ints)

      up : ℕ → ℤ
      up = lowered d l j v

      down : ℕ → ℤ
      down = raised d f j v

      reaches_low : lo ≤ℤ total n s up
      unfolding up
      reaches_low =
          let r = cut_j.first.reached in
          let m = mono (lowered d l j (window_at ws j).first) (lowered d l j v) (record { under = λ i h. omega (arith, ints, clamps) }) in
          omega (arith, ints)

      keeps_high : total n s down ≤ℤ hi
      unfolding down
      keeps_high =
          let r = cut_j.last.kept in
          let m = mono (raised d f j v) (raised d f j (window_at ws j).last) (record { under = λ i h. omega (arith, ints, clamps) }) in
          omega (arith, ints)

      down_up : Under k down up
      unfolding down up
      down_up = raised_lowered k d M.closed f l j v hj first_last firsts_obey lasts_obey f_v v_l

      f_down : Under k f down
      unfolding down
      f_down = raised_over k d M.closed f j v

      up_l : Under k up l
      unfolding up
      up_l = lowered_under k d M.closed l j v

      down_l : Under k down l
      unfolding down
      down_l = raised_under k d M.closed f l j v hj first_last lasts_obey v_l

      f_up : Under k f up
      unfolding up
      f_up = lowered_over k d M.closed f l j v hj first_last firsts_obey f_v

      down_on : OnWays k w down
      unfolding down
      down_on = M.keeps down (between_valued down f_down down_l) (raised_obeys k d M.closed f j v hj firsts_obey)

      up_on : OnWays k w up
      unfolding up
      up_on = M.keeps up (between_valued up f_up up_l) (lowered_obeys k d M.closed l j v hj lasts_obey)

      abbrev goal : ℤ
      goal = int_max lo (total n s down)

      at_v : (x : ℕ → ℤ) → Between k w down up x → x j ≡ v
      unfolding down up
      at_v x b =
          let o = b.over.under j hj in
          let u = b.below.under j hj in
          let r = raised_at k d M.closed f j v hj f_v in
          let q = lowered_at k d M.closed l j v hj v_l in
          omega (arith, ints)

      trans : (x y z : ℕ → ℤ) → Under k x y → Under k y z → Under k x z
      trans = under_trans k w n s M.ways M.summands

      supported : Supported A ws j v
      supported =
          let m = mono down up down_up in
          let a = reaches_low in
          let b = keeps_high in
          let some = C.met.some in
          let (x, xb, e) = reach k w n s M.ways M.summands down up goal down_up down_on up_on (omega (arith, ints, clamps)) (omega (arith, ints, clamps)) in
          let over = trans f down x f_down xb.over in
          let below = trans x up l xb.below up_l in
          let low : lo ≤ℤ goal = omega (arith, ints, clamps) in
          let high : goal ≤ℤ hi = omega (arith, ints, clamps) in
          let allowed = met_allowed x goal xb.keeps over below e low high in
          let in-ms = met_lies x goal xb.keeps over below e low high in
          record {
            plan = _;
            allowed = allowed;
            there = keeps_cut _ allowed (lies-inside _ ms vs in-ms T.within);
            at = met_at x goal xb.keeps over below e low high j hj ne ∙ at_v x xb;
          }

    -- a value of the total's column
    total_supported : (v : ℤ) → lo ≤ℤ v → v ≤ℤ hi → Supported A ws t v
    total_supported v low high =
        let (x, xb, e) = reach k w n s M.ways M.summands f l v first_last
        (M.keeps f (between_valued f (record { under = λ i h. omega (arith, ints) }) first_last) firsts_obey)
        (M.keeps l (between_valued l first_last (record { under = λ i h. omega (arith, ints) })) lasts_obey)
        (omega (arith, ints, clamps)) (omega (arith, ints, clamps)) in
        let allowed = met_allowed x v xb.keeps xb.over xb.below e low high in
        let in-ms = met_lies x v xb.keeps xb.over xb.below e low high in
        record {
          plan = _;
          allowed = allowed;
          there = keeps_cut _ allowed (lies-inside _ ms vs in-ms T.within);
          at = met_total x v xb.keeps xb.over xb.below e low high;
        }

    filled : Filled A ws
    filled = record {
      each = λ i v h from upto.
          ⊎_elim
          (λ e.
          let g = ap (window_at ws) e ∙ (C.met.each t M.there).at_total refl in
          let p = ap (λ (c : Window). c.first) g in
          let q = ap (λ (c : Window). c.last) g in
          subst (λ (j : ℕ). Supported A ws j v) (sym e) (total_supported v (omega (arith, ints)) (omega (arith, ints))))
          (λ ne. supported i v (omega (arith, C.long)) ne from upto)
          (cases_eq i t);
    }

    ordered : (i : ℕ) → i < length ws → (window_at ws i).first ≤ℤ (window_at ws i).last
    ordered i h =
        let a = total_supported lo (omega (arith, ints)) C.met.some in
        let p = lies_at a.plan ws i a.there h in
        omega (arith, ints, p.low, p.high)

    left : Left A vs ws
    left =
        record {
          within = inside_trans ws ms vs within_ms T.within;
          keeps = keeps_cut;
          ends = record {
            first_end = λ i h. filled.each i _ h (omega (arith, ints)) (ordered i h);
            last_end = λ i h. filled.each i _ h (ordered i h) (omega (arith, ints));
          };
        }

    pub cut_opened : 1 ≤ k → window_refusal k vs ≡ None → Opened (tight_rule (record { width = k; allows = A }) true) vs ws
    cut_opened some ok = opened (record { width = k; allows = A }) vs ws some ok left true (λ _. filled)

-- the outcome for the meaning of the total
module _ (k : ℕ) (d : ℕ → ℕ → ℤ) (w : ℕ → ℕ → Option ℤ) (t : ℕ) (ss : List ℕ) (A : List ℤ → Bool) (M : Meets k d w t ss A)
    (vs : List Window) (some : 1 ≤ k) (ok : window_refusal k vs ≡ None) where
  abbrev means : Meaning
  means = tight_rule (record { width = k; allows = A }) true

  no_plan : TotalVoid k d t ss vs → NoPlan A vs
  no_plan (inl none) x a h =
      let p = taken k vs ok in
      none x (each_obeys k d x (M.obeys x (lies-length x vs h ∙ p.1) (values x h) a)) h
    where
      values : (x : List ℤ) → lies x vs ≡ true → Valued k (value_at x)
      values x h =
          let p = taken k vs ok in
          let long = p.1 in
          record {
            low = λ i hi. let q = lies_at x vs i h (omega arith) in let e = lawful_ends (window_at vs i) (lawful_at vs i p.0 (omega arith)) in omega (arith, ints, q.low, e.low);
            high = λ i hi. let q = lies_at x vs i h (omega arith) in let e = lawful_ends (window_at vs i) (lawful_at vs i p.0 (omega arith)) in omega (arith, ints, q.high, e.high);
          }
  no_plan (inr (ms, T, lt)) x a h = none_met k d w t ss A M vs ms (taken k vs ok).0 (taken k vs ok).1 T lt x a h

  pub total_narrowed : (v : Verdict) (ws : List Window) → TotalOutcome k d t ss vs v ws → Narrowed means vs (Ok v) ws
  total_narrowed Open ws (ms, C) = cut_opened k d w t ss A M vs ms (taken k vs ok).0 (taken k vs ok).1 C.trims ws C some ok
  total_narrowed Void ws (v, e) = record { accepted = ok; stays = e; none = no_plan v }
