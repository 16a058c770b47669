-- A total reaches its goal by jumps: it rises at most as fast as its summands move.
use Rattle.std.proofs.Common.{◌≡◌, ℕ, zero, suc, ◌+◌, ◌*◌, ◌<◌, ◌≤◌, Bool, true, false, cond, List, length, ℤ, pos, negsuc, ◌+ℤ◌, ◌-ℤ◌, nat_abs, ◌≤ℤ◌, ◌<ℤ◌, sym, refl, ap, ◌∙◌, subst, ⊎_elim, mul-zero, mul-one, mul-add, add-one, arith}
use lib.Signed.{lt_z}
use Rattle.std.specs.Int.{int_min}
use Rattle.std.proofs.lemmas.Int.{ints, clamps, by_lt_z}
use Rattle.std.proofs.lemmas.Bool.{cases_lt}
use Rattle.totals.specs.declared.reaching.Limit.{Limit}
use Rattle.totals.specs.Reaching.{limit_at, limited, still_rises, reach_to, moving_to, reach_of, moving_of, Least, Next, Value, Reachable, Moderate}

-- what the loop over the summands has after a of them
pub record Partly (ls : List Limit) (v : ℤ) (a : ℕ) (sum : ℤ) (moving : ℕ) : Type 0 where
  pub sum_is : sum ≡ reach_to ls v a
  pub moving_is : moving ≡ moving_to ls v a
  pub low : negsuc 0 ≤ℤ (sum +ℤ pos (90000000 * a))
  pub high : sum ≤ℤ pos (30000000 * a)
  pub few : moving ≤ a

pub partly_none : (ls : List Limit) (v : ℤ) → Partly ls v 0 (pos 0) 0
partly_none ls v = record { sum_is = refl; moving_is = refl; low = omega (arith, ints); high = omega (arith, ints); few = omega arith }

-- one summand more
pub partly_more : (ls : List Limit) (v u : ℤ) (a : ℕ) (sum sum' one : ℤ) (moving moving' rise : ℕ) → Partly ls u a sum moving
    → one ≡ limited (limit_at ls a) v → rise ≡ still_rises (limit_at ls a) v → u ≡ v → rise ≤ 1
    → negsuc 89999999 ≤ℤ one → one ≤ℤ pos 30000000 → sum' ≡ sum +ℤ one → moving' ≡ moving + rise → Partly ls u (a + 1) sum' moving'
partly_more ls v u a sum sum' one moving moving' rise p e f same r lo hi s' m' =
    let s = p.sum_is in
    let m = p.moving_is in
    let l = p.low in
    let h = p.high in
    let few = p.few in
    let e' : one ≡ limited (limit_at ls a) u = e ∙ ap (limited (limit_at ls a)) (sym same) in
    let f' : rise ≡ still_rises (limit_at ls a) u = f ∙ ap (still_rises (limit_at ls a)) (sym same) in
    record {
      sum_is = rw add-one (omega (arith, ints));
      moving_is = rw add-one (omega arith);
      low = omega (arith, ints);
      high = omega (arith, ints);
      few = omega arith;
    }

-- all summands
pub partly_all : (ls : List Limit) (v u : ℤ) (a : ℕ) (sum : ℤ) (moving : ℕ) → Partly ls u a sum moving → u ≡ v → a ≡ length ls → (sum ≡ reach_of ls v) × (moving ≡ moving_of ls v)
partly_all ls v u a sum moving p same all =
    (p.sum_is ∙ ap (reach_to ls u) all ∙ ap (reach_of ls) same, p.moving_is ∙ ap (moving_to ls u) all ∙ ap (moving_of ls) same)

at_most_one : (b : Bool) → cond b 1 0 ≤ 1
at_most_one true = omega arith
at_most_one false = omega arith

module _ (ls : List Limit) where
  -- one summand, t further on
  one_more : (top at : ℤ) (t : ℕ) → int_min top (at +ℤ pos t) ≤ℤ (int_min top at +ℤ pos (t * cond (lt_z at top) 1 0))
  one_more top at t = go (lt_z at top) refl
    where
      go : (b : Bool) → lt_z at top ≡ b → int_min top (at +ℤ pos t) ≤ℤ (int_min top at +ℤ pos (t * cond b 1 0))
      go true e = let m = mul-one t in omega (arith, ints, clamps)
      go false e = let le : top ≤ℤ at = grind (arith, ints) in let m = mul-zero t in omega (arith, ints, clamps)

  -- the total rises at most as fast as its summands move
  pub rises : (v : ℤ) (t n : ℕ) → reach_to ls (v +ℤ pos t) n ≤ℤ (reach_to ls v n +ℤ pos (t * moving_to ls v n))
  rises v t zero = omega (arith, ints)
  rises v t (suc n) =
      let r = rises v t n in
      let o = one_more (limit_at ls n).top (v +ℤ (limit_at ls n).way) t in
      let m = mul-add t (moving_to ls v n) (cond (lt_z (v +ℤ (limit_at ls n).way) (limit_at ls n).top) 1 0) in
      omega (arith, ints, clamps)

  -- a sum lies in these bounds, and so does the total
  bounds_to : (v : ℤ) (n : ℕ) → Value v → Reachable ls → n ≤ length ls → (pos 0 ≤ℤ (reach_to ls v n +ℤ pos (90000000 * n))) × (reach_to ls v n ≤ℤ pos (30000000 * n))
  bounds_to v zero hv r h = (omega (arith, ints), omega (arith, ints))
  bounds_to v (suc n) hv r h =
      let b = bounds_to v n hv r (omega arith) in
      let t = r.top n (omega arith) in
      let w = r.way n (omega arith) in
      (omega (arith, ints, clamps), omega (arith, ints, clamps))

  pub bounds : (v : ℤ) → Value v → Reachable ls → (pos 0 ≤ℤ (reach_of ls v +ℤ pos (90000000 * length ls))) × (reach_of ls v ≤ℤ pos (30000000 * length ls))
  bounds v hv r = bounds_to v (length ls) hv r (omega arith)

  few_to : (v : ℤ) (n : ℕ) → moving_to ls v n ≤ n
  few_to v zero = omega arith
  few_to v (suc n) = let m = few_to v n in let c = at_most_one (lt_z (v +ℤ (limit_at ls n).way) (limit_at ls n).top) in omega arith

  pub few_move : (v : ℤ) → moving_of ls v ≤ length ls
  few_move v = few_to v (length ls)

-- where the jumps stand: every value passed is too small
pub record Jumping (ls : List Limit) (goal first last v sum : ℤ) (moving : ℕ) : Type 0 where
  pub low : first ≤ℤ v
  pub high : v ≤ℤ last
  pub before : (u : ℤ) → first ≤ℤ u → u <ℤ v → reach_of ls u <ℤ goal
  pub sum_is : sum ≡ reach_of ls v
  pub moving_is : moving ≡ moving_of ls v
  pub moderate : Moderate sum

-- what the search is asked for: the goal is reached at `last`
pub record Asked (ls : List Limit) (goal last : ℤ) : Type 0 where
  pub few : length ls ≤ 31
  pub reachable : Reachable ls
  pub value : Value last
  pub reached : goal ≤ℤ reach_of ls last

module _ (ls : List Limit) (goal first last : ℤ) (A : Asked ls goal last) where
  module _ (v sum : ℤ) (moving : ℕ) (hv : Value v) (j : Jumping ls goal first last v sum moving) (less : sum <ℤ goal) where
    -- t further on
    further : (t : ℕ) → reach_of ls (v +ℤ pos t) ≤ℤ (sum +ℤ pos (t * moving))
    further t =
        let r = rises ls v t (length ls) in
        let e = ap (λ (m : ℕ). t * m) j.moving_is in
        let s = j.sum_is in
        omega (arith, ints)

    at_last : (s : ℕ) → last ≡ v +ℤ pos s → goal ≤ℤ (sum +ℤ pos (s * moving))
    at_last s e =
        let f = further s in
        let g = ap (reach_of ls) e in
        let r = A.reached in
        omega (arith, ints)

    pub some_move : 0 < moving
    some_move =
        let s = nat_abs (last -ℤ v) in
        let h = j.high in
        ⊎_elim (λ p. p)
        (λ z. let zero_is : moving ≡ 0 = omega arith in
        let g = at_last s (omega (arith, ints)) in
        let e = ap (λ (m : ℕ). s * m) zero_is in
        let f = mul-zero s in
        absurd (omega (arith, ints)))
        (cases_lt 0 moving)

    pub within : (goal -ℤ sum) ≤ℤ pos (nat_abs (last -ℤ v) * moving)
    within = let h = j.high in let g = at_last (nat_abs (last -ℤ v)) (omega (arith, ints)) in omega (arith, ints)

    pub deficit_bound : goal ≤ℤ (sum +ℤ pos 10000000000)
    deficit_bound =
        let b = bounds ls v hv A.reachable in
        let c = bounds ls last A.value A.reachable in
        let s = j.sum_is in
        let few = A.few in
        let r = A.reached in
        omega (arith, ints)

    module _ (steps : ℕ) (deficit : ℤ) (deficit-is : deficit ≡ goal -ℤ sum) (short : (t : ℕ) → t < steps → pos (t * moving) <ℤ deficit) where
      pub jump_before : (u : ℤ) → first ≤ℤ u → u <ℤ (v +ℤ pos steps) → reach_of ls u <ℤ goal
      jump_before u l h =
          by_lt_z u v (j.before u l)
          (λ ge.
          let t = nat_abs (u -ℤ v) in
          let e : u ≡ v +ℤ pos t = omega (arith, ints) in
          let f = further t in
          let g = ap (reach_of ls) e in
          let s = short t (omega (arith, ints)) in
          omega (arith, ints))

  -- the state after a jump
  pub jumping_more : (v sum : ℤ) (moving : ℕ) → Value v → Jumping ls goal first last v sum moving → sum <ℤ goal
      → (deficit r v' sum' : ℤ) (moving' : ℕ) → Next v last deficit moving r → deficit ≡ goal -ℤ sum → v' ≡ r
      → sum' ≡ reach_of ls v' → moving' ≡ moving_of ls v' → Moderate sum' → Jumping ls goal first last v' sum' moving'
  jumping_more v sum moving hv j less deficit r v' sum' moving' x e at s m b =
      let is = x.is in
      let low = j.low in
      record {
        low = omega (arith, ints);
        high = let h = x.high in omega (arith, ints);
        before = λ u l h. jump_before v sum moving hv j less x.steps deficit e x.short u l (omega (arith, ints));
        sum_is = s;
        moving_is = m;
        moderate = b;
      }

-- the same state, of numbers that are equal
pub jumping_same : (ls : List Limit) (goal goal' first first' last last' v v' sum sum' : ℤ) (moving : ℕ) → goal ≡ goal' → first ≡ first' → last ≡ last' → v ≡ v' → sum ≡ sum'
    → Jumping ls goal first last v sum moving → Jumping ls goal' first' last' v' sum' moving
jumping_same ls goal goal' first first' last last' v v' sum sum' moving g f l e s j =
    subst (λ (x : ℤ). Jumping ls x first' last' v' sum' moving) g
    (subst (λ (x : ℤ). Jumping ls goal x last' v' sum' moving) f
    (subst (λ (x : ℤ). Jumping ls goal first x v' sum' moving) l
    (subst (λ (x : ℤ). Jumping ls goal first last x sum' moving) e
    (subst (λ (x : ℤ). Jumping ls goal first last v x moving) s j))))

pub jumping_none : (ls : List Limit) (goal first last v sum : ℤ) (moving : ℕ) → first ≤ℤ last → v ≡ first → sum ≡ reach_of ls v → moving ≡ moving_of ls v → Moderate sum → Jumping ls goal first last v sum moving
jumping_none ls goal first last v sum moving h e s m b =
    record { low = omega (arith, ints); high = omega (arith, ints); before = λ u l lt. absurd (omega (arith, ints)); sum_is = s; moving_is = m; moderate = b }

pub jumping_all : (ls : List Limit) (goal first last v sum : ℤ) (moving : ℕ) → goal ≤ℤ sum → Jumping ls goal first last v sum moving → Least ls goal first v
jumping_all ls goal first last v sum moving h j =
    let s = j.sum_is in
    record { late = j.low; reached = omega (arith, ints); first = j.before }

-- a jump in the numbers of the code
pub next_at : (v last deficit : ℤ) (m steps : ℕ) (r : ℤ) → v ≤ℤ last → 0 < steps → r ≡ v +ℤ pos steps → ((t : ℕ) → t < steps → pos (t * m) <ℤ deficit) → deficit ≤ℤ pos (nat_abs (last -ℤ v) * m) → Next v last deficit m r
next_at v last deficit m steps r le some e short fits =
    record {
      steps = steps;
      some = some;
      is = e;
      short = short;
      high = ⊎_elim (λ lt. let f = short (nat_abs (last -ℤ v)) lt in absurd (omega (arith, ints))) (λ ge. omega (arith, ints)) (cases_lt (nat_abs (last -ℤ v)) steps);
    }
