-- The first column that is named again.
use Rattle.std.proofs.Common.{◌≡◌, ℕ, zero, suc, ◌+◌, ◌<◌, ◌≤◌, Bool, true, false, cond, ◌||◌, eqb, ◌⊎◌, List, [], ◌∷◌, length, get_or, drop, set, replicate, Some, None, Option, sym, refl, ap, ◌∙◌, inl, inr, ⊎_elim, add-one, arith, length-set, drop-cons, get_or-set_other, get_or-set_same}
use Rattle.std.specs.Option.{option_map}
use Rattle.std.proofs.lemmas.Bool.{or_cases, or_left, or_right, eqb-true, eq-eqb, cases_eq, cases_Bool, both_ways, cond-true, cond-false, ne_eqb}
use Rattle.std.proofs.lemmas.List.{drop_all}
use Rattle.totals.specs.Sums.{named, first_again, Again}

-- a column that is named stands in the list, and conversely
pub named_at : (c : ℕ) (cs : List ℕ) → named c cs ≡ true → (j : ℕ) × (j < length cs) × (get_or cs j 0 ≡ c)
named_at c [] h = grind arith
named_at c (d ∷ ds) h =
    ⊎_elim
    (λ e. (0, omega arith, sym (eqb-true c d e)))
    (λ e. let (j, l, s) = named_at c ds e in (suc j, omega arith, s))
    (or_cases (eqb c d) (named c ds) h)

pub at_named : (c : ℕ) (cs : List ℕ) (j : ℕ) → j < length cs → get_or cs j 0 ≡ c → named c cs ≡ true
at_named c [] j l e = absurd (omega arith)
at_named c (d ∷ ds) zero l e = or_left (eqb c d) (named c ds) (eq-eqb c d (sym e))
at_named c (d ∷ ds) (suc j) l e = or_right (eqb c d) (named c ds) (at_named c ds j (omega arith) e)

-- what is found: the first of cs that is named by seen or by an earlier one of cs
pub record Found (seen cs : List ℕ) (i : ℕ) : Type 0 where
  pub within : i < length cs
  pub hit : (named (get_or cs i 0) seen ≡ true) ⊎ ((a : ℕ) × (a < i) × (get_or cs a 0 ≡ get_or cs i 0))
  pub fresh : (b : ℕ) → b < i → named (get_or cs b 0) seen ≡ false
  pub first : (a b : ℕ) → a < b → b < i → get_or cs a 0 ≡ get_or cs b 0 → ⊥

pub record Missed (seen cs : List ℕ) : Type 0 where
  pub fresh : (b : ℕ) → b < length cs → named (get_or cs b 0) seen ≡ false
  pub first : (a b : ℕ) → a < b → b < length cs → get_or cs a 0 ≡ get_or cs b 0 → ⊥

abbrev pub Finds : List ℕ → List ℕ → Option ℕ → Type 0
Finds seen cs None = Missed seen cs
Finds seen cs (Some i) = Found seen cs i

unseen : (c d : ℕ) (seen : List ℕ) → named c (d ∷ seen) ≡ false → (c ≡ d → ⊥) × (named c seen ≡ false)
unseen c d seen h = (
  λ e. both_ways _ h (or_left (eqb c d) (named c seen) (eq-eqb c d e)),
  ⊎_elim (λ t. absurd (both_ways _ h (or_right (eqb c d) (named c seen) t))) (λ f. f) (cases_Bool (named c seen)),
)

module _ (seen : List ℕ) (c : ℕ) (cs : List ℕ) (n : ℕ) (head : named c seen ≡ false) (fresh : (b : ℕ) → b < n → named (get_or cs b 0) (c ∷ seen) ≡ false) where
  tail_fresh : (b : ℕ) → b < suc n → named (get_or (c ∷ cs) b 0) seen ≡ false
  tail_fresh zero l = head
  tail_fresh (suc b) l = (unseen (get_or cs b 0) c seen (fresh b (omega arith))).1

  tail_first : ((a b : ℕ) → a < b → b < n → get_or cs a 0 ≡ get_or cs b 0 → ⊥) → (a b : ℕ) → a < b → b < suc n → get_or (c ∷ cs) a 0 ≡ get_or (c ∷ cs) b 0 → ⊥
  tail_first f a zero l h e = omega arith
  tail_first f zero (suc b) l h e = (unseen (get_or cs b 0) c seen (fresh b (omega arith))).0 (sym e)
  tail_first f (suc a) (suc b) l h e = f a b (omega arith) (omega arith) e

tail_hit : (seen : List ℕ) (c : ℕ) (cs : List ℕ) (i : ℕ) → i < length cs → (named (get_or cs i 0) (c ∷ seen) ≡ true) ⊎ ((a : ℕ) × (a < i) × (get_or cs a 0 ≡ get_or cs i 0))
    → (named (get_or cs i 0) seen ≡ true) ⊎ ((a : ℕ) × (a < suc i) × (get_or (c ∷ cs) a 0 ≡ get_or cs i 0))
tail_hit seen c cs i l (inl h) = ⊎_elim (λ e. inr (0, omega arith, sym (eqb-true (get_or cs i 0) c e))) inl (or_cases (eqb (get_or cs i 0) c) (named (get_or cs i 0) seen) h)
tail_hit seen c cs i l (inr (a, h, e)) = inr (suc a, omega arith, e)

tail : (seen : List ℕ) (c : ℕ) (cs : List ℕ) (o : Option ℕ) → named c seen ≡ false → Finds (c ∷ seen) cs o → Finds seen (c ∷ cs) (option_map suc o)
tail seen c cs None h f = record { fresh = tail_fresh seen c cs (length cs) h f.fresh; first = tail_first seen c cs (length cs) h f.fresh f.first }
tail seen c cs (Some i) h f =
    record {
      within = omega (arith, f.within);
      hit = tail_hit seen c cs i f.within f.hit;
      fresh = tail_fresh seen c cs i h f.fresh;
      first = tail_first seen c cs i h f.fresh f.first;
    }

either : (seen : List ℕ) (c : ℕ) (cs : List ℕ) (o : Option ℕ) (b : Bool) → named c seen ≡ b → Finds (c ∷ seen) cs o → Finds seen (c ∷ cs) (cond b (Some 0) (option_map suc o))
either seen c cs o true h f = record { within = omega arith; hit = inl h; fresh = λ b l. absurd (omega arith); first = λ a b l k. absurd (omega arith) }
either seen c cs o false h f = tail seen c cs o h f

pub finds_again : (seen cs : List ℕ) → Finds seen cs (first_again seen cs)
unfolding first_again
finds_again seen [] = record { fresh = λ b l. absurd (omega arith); first = λ a b l k. absurd (omega arith) }
finds_again seen (c ∷ cs) = either seen c cs (first_again (c ∷ seen) cs) (named c seen) refl (finds_again (c ∷ seen) cs)

-- in the words of the refusal
pub found_again : (cs : List ℕ) (i : ℕ) → Finds [] cs (Some i) → Again cs i
found_again cs i f = go f.hit
  where
    go : (named (get_or cs i 0) [] ≡ true) ⊎ ((a : ℕ) × (a < i) × (get_or cs a 0 ≡ get_or cs i 0)) → Again cs i
    go (inl h) = grind arith
    go (inr (a, h, e)) = record { within = f.within; earlier = a; before = h; same = e; first = f.first }

-- the columns seen after i of them
pub passed : List ℕ → List ℕ → ℕ → List ℕ
passed seen cs zero = seen
passed seen [] (suc i) = seen
passed seen (c ∷ cs) (suc i) = passed (c ∷ seen) cs i

pub passed_more : (seen cs : List ℕ) (i : ℕ) → i < length cs → passed seen cs (i + 1) ≡ get_or cs i 0 ∷ passed seen cs i
unfolding passed
passed_more seen [] i l = absurd (omega arith)
passed_more seen (c ∷ cs) zero l = let e : zero + 1 ≡ suc zero = omega arith in ap (passed seen (c ∷ cs)) e
passed_more seen (c ∷ cs) (suc i) l = let e : suc i + 1 ≡ suc (i + 1) = omega arith in ap (passed seen (c ∷ cs)) e ∙ passed_more (c ∷ seen) cs i (omega arith)

add_mapped : (i : ℕ) (o : Option ℕ) → option_map (λ n. i + n) (option_map suc o) ≡ option_map (λ n. (i + 1) + n) o
add_mapped i None = refl
add_mapped i (Some n) = ap Some (omega arith)

zero_mapped : (o : Option ℕ) → o ≡ option_map (λ n. 0 + n) o
zero_mapped None = refl
zero_mapped (Some n) = ap Some (omega arith)

-- a loop over the columns: those before i are all new, and the test of a column is at hand for each
pub record Looking (t : ℕ) (ss : List ℕ) (seen : List Bool) (i : ℕ) : Type 0 where
  pub long : length seen ≡ 32
  pub test : (c : ℕ) → c < 32 → get_or seen c false ≡ named c (passed (t ∷ []) ss i)
  pub rest : first_again (t ∷ []) ss ≡ option_map (λ n. i + n) (first_again (passed (t ∷ []) ss i) (drop i ss))

look_more : (seen cs : List ℕ) (i : ℕ) → i < length cs → first_again (passed seen cs i) (drop i cs)
    ≡ cond (named (get_or cs i 0) (passed seen cs i)) (Some 0) (option_map suc (first_again (passed seen cs (i + 1)) (drop (i + 1) cs)))
unfolding first_again
look_more seen cs i l =
    ap (first_again (passed seen cs i)) (drop-cons cs i 0 l)
    ∙ (λ j. cond (named (get_or cs i 0) (passed seen cs i)) (Some 0) (option_map suc (first_again (sym (passed_more seen cs i l) j) (drop (sym (add-one i) j) cs))))

pub looking_hit : (t : ℕ) (ss : List ℕ) (seen : List Bool) (i : ℕ) → i < length ss → get_or ss i 0 < 32 → get_or seen (get_or ss i 0) false ≡ true → Looking t ss seen i → first_again (t ∷ []) ss ≡ Some i
looking_hit t ss seen i l lt h k =
    let n = sym (k.test (get_or ss i 0) lt) ∙ h in
    k.rest ∙ ap (option_map (λ n. i + n)) (look_more (t ∷ []) ss i l ∙ cond-true _ _ _ n) ∙ ap Some (omega arith)

pub looking_more : (t : ℕ) (ss : List ℕ) (seen : List Bool) (i : ℕ) → i < length ss → get_or ss i 0 < 32 → get_or seen (get_or ss i 0) false ≡ false → Looking t ss seen i
    → Looking t ss (set seen (get_or ss i 0) true) (i + 1)
looking_more t ss seen i l lt h k =
    let c = get_or ss i 0 in
    let n = sym (k.test c lt) ∙ h in
    record {
      long = length-set seen c true ∙ k.long;
      test = λ d hd. ⊎_elim
          (λ e.
          let here : get_or (set seen c true) d false ≡ true = ap (λ (m : ℕ). get_or (set seen c true) m false) e ∙ get_or-set_same seen c true false (omega (arith, k.long)) in
          here ∙ sym (ap (named d) (passed_more (t ∷ []) ss i l) ∙ or_left (eqb d c) (named d (passed (t ∷ []) ss i)) (eq-eqb d c e)))
          (λ ne.
          get_or-set_other seen c d true false ne ∙ k.test d hd
          ∙ sym (ap (named d) (passed_more (t ∷ []) ss i l) ∙ ap (λ (b : Bool). b || named d (passed (t ∷ []) ss i)) (ne_eqb d c ne)))
          (cases_eq d c);
      rest = k.rest ∙ ap (option_map (λ n. i + n)) (look_more (t ∷ []) ss i l ∙ cond-false _ _ _ n) ∙ add_mapped i _;
    }

pub looking_all : (t : ℕ) (ss : List ℕ) (seen : List Bool) (i : ℕ) → length ss ≤ i → Looking t ss seen i → first_again (t ∷ []) ss ≡ None
unfolding first_again
looking_all t ss seen i h k = k.rest ∙ ap (λ (cs : List ℕ). option_map (λ n. i + n) (first_again (passed (t ∷ []) ss i) cs)) (drop_all i ss h)

pub looking_none : (t : ℕ) (ss : List ℕ) (seen : List Bool) → t < 32 → length seen ≡ 32 → ((c : ℕ) → c < 32 → get_or seen c false ≡ false) → Looking t ss (set seen t true) 0
unfolding passed
looking_none t ss seen lt l none =
    record {
      long = length-set seen t true ∙ l;
      test = λ d hd. ⊎_elim
          (λ e. ap (λ (m : ℕ). get_or (set seen t true) m false) e ∙ get_or-set_same seen t true false (omega arith) ∙ sym (or_left (eqb d t) false (eq-eqb d t e)))
          (λ ne. get_or-set_other seen t d true false ne ∙ none d hd ∙ sym (ap (λ (b : Bool). b || false) (ne_eqb d t ne)))
          (cases_eq d t);
      rest = zero_mapped (first_again (t ∷ []) ss);
    }

-- nothing is seen yet
pub none_seen : (n c : ℕ) → get_or (replicate n false) c false ≡ false
none_seen zero c = refl
none_seen (suc n) zero = refl
none_seen (suc n) (suc c) = none_seen n c
