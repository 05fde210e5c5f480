-- The refusals of sides that were read in their order, and the sides of accepted jobs as runs.
use Prim.Native.Nat.{ℕ, ◌≤◌, ◌<◌, min}
use native.Mathlib.Omega.{arith}
use mathlib.Core.Logic.{⊎_elim}
use mathlib.Core.Bool.{Bool, true, false, not, ◌&&◌}
use mathlib.Core.List.{List, [], ◌∷◌, ◌++◌, map}
use mathlib.Core.Path.{◌≡◌, refl, sym, ap, subst, ◌∙◌}
use lib.Dec.{T, leb}
use lib.ListN.{length}
use borrow.Author.Tests.{le-leb, lt-leb}
use Rattle.words.proofs.Canonical.{run_carries}
use Rattle.words.proofs.Kept as words
use denote.Ref.{Bor}
use Rattle.terms.specs.Equation.{Equation, orient}
use Rattle.terms.specs.Term.{Term, size, order, same}
use Rattle.terms.specs.Letters.{letters}
use Rattle.terms.specs.Run.{run}
use Rattle.terms.specs.Held.{Fine, IsRun}
use Rattle.terms.specs.Compare.{Ordering, lt, eq, gt, order_numbers}
use Rattle.terms.specs.Promises.{ordering_of, smaller_of, in_order_of, Compares, Equals}
use Rattle.std.specs.declared.cmp.Ordering as answered
use Rattle.std.specs.declared.cmp.Ordering.TheVariants.{Less, Equal, Greater}
use Rattle.std.specs.Ordering.{is_ge}
use Rattle.terms.specs.Theory.Order.{below?}
use Rattle.terms.specs.Theory.Held.{size_of}
use Rattle.terms.specs.Theory.Equation.{orient_either}
use Rattle.words.specs.Candidate.{Room, Keeps}
use Rattle.words.specs.Decoded.{both}
use Rattle.words.proofs.Coded.{code_orient}
use Rattle.search.specs.Line.{Limits}
use Rattle.search.specs.Runs.{HeldRuns, Shows, HoldsRun}
use Rattle.search.specs.Searched.{limits_of}
use Rattle.search.specs.declared.bounded_search.Limits as limits
use Rattle.search.proofs.Holding.{none_held, held_more}
use Rattle.std.specs.Prelude.{Ok, Err}
use Rattle.text.specs.declared.refusal.Refusal.TheVariants as refusal
use Rattle.text.specs.Answer.{refused, accepted, ◌>>=◌, require}
use Rattle.text.specs.Job.{in_range, oriented, few}
use Rattle.text.specs.FindJob.{every, comes_before, several, in_place, all_small, accept_each, job_of}
use Rattle.text.specs.LayoutRead.{capped}
use Rattle.text.specs.Accepting.{FewVariables, AllPass, Orients, Takes, AcceptsSides}
use Rattle.text.specs.Theory.Jobs.{in_range_true}
use Rattle.text.specs.Theory.FindJobs.{all_kept}

-- a number that is taken for 4,097 is above every limit's largest, as 4,097 is

pub cap_leb : (n k : ℕ) → k ≤ 4096 → leb (min n 4097) k ≡ leb n k
cap_leb n k h =
    ⊎_elim
    (λ l. lt-leb (min n 4097) k (omega arith) ∙ sym (lt-leb n k l))
    (λ l. le-leb (min n 4097) k (omega arith) ∙ sym (le-leb n k l))
    (below? k n)

pub in_range_capped : (m : Limits) → in_range (capped m) ≡ in_range m
unfolding in_range
in_range_capped m =
    rw (cap_leb m.steps 16 (omega arith), cap_leb m.size 31 (omega arith), cap_leb m.depth 15 (omega arith), cap_leb m.nodes 4096 (omega arith))

pub cap_small : (n : ℕ) → n ≤ 4096 → min n 4097 ≡ n
cap_small n h = omega arith

pub capped_small : (m : Limits) → in_range m ≡ true → capped m ≡ m
capped_small m e =
    let r = in_range_true m (subst T (sym e) tt) in
    λ i. record {
      steps = cap_small m.steps (omega (arith, r.steps)) i;
      size = cap_small m.size (omega (arith, r.size)) i;
      depth = cap_small m.depth (omega (arith, r.depth)) i;
      nodes = cap_small m.nodes r.nodes i;
    }

-- the sides as runs

module _ {xs ys : List ℕ} {e : Equation (List ℕ)} (h : Keeps xs ys 31 e) {s t : Term} (u : IsRun xs s) (v : IsRun ys t) where
  kept_runs : Room 31 xs ys 31 → (IsRun e.left (orient order s t).left) × (IsRun e.right (orient order s t).right)
  kept_runs room =
      let fine = orient_either (λ a b. Fine a × Fine b) order s t (u.fine, v.fine) (v.fine, u.fine) in
      let same : e ≡ both run (orient order s t) =
      h.exact 31 room ∙ rw (u.whole, v.whole) (sym (code_orient run Fine run_carries u.fine v.fine)) in (
        record { fine = fine.0; whole = ap (λ (z : Equation (List ℕ)). z.left) same },
        record { fine = fine.1; whole = ap (λ (z : Equation (List ℕ)). z.right) same },
      )

-- the smaller of two lent runs and the second of the two in order are the sides that they make
first_in_order : {A : Type 0} (o : Ordering) (a b : A) → smaller_of o a b ≡ (in_order_of o a b).0
first_in_order lt a b = refl
first_in_order eq a b = refl
first_in_order gt a b = refl

pub smaller_first : (a b : Bor (List ℕ)) {l : Bor (List ℕ)} {r : Bor (List ℕ) × Bor (List ℕ)} → l ≡ smaller_of (order_numbers a.now b.now) a b
    → r ≡ in_order_of (order_numbers a.now b.now) a b → words.Ordered a.now b.now l.now r.1.now
smaller_first a b {l} {r} h k =
    let both = words.in_order a b k in
    let first : l ≡ r.0 = h ∙ first_in_order (order_numbers a.now b.now) a b ∙ sym (ap (λ (z : Bor (List ℕ) × Bor (List ℕ)). z.0) k) in
    record { left = ap (λ (x : Bor (List ℕ)). x.now) first ∙ both.left; right = both.right }

-- the smaller of left and the only right side is left, and the other goes to slot 0
module _ {xs ys zs rights rights' : List ℕ} {e : Equation (List ℕ)} where
  pub kept_in_order : Shows rights 0 ys → Keeps xs ys 31 e → zs ≡ e.right → HoldsRun rights rights' 0 zs → Orients xs rights e.left rights'
  kept_in_order shown keeps same H =
      record {
        exact = λ s t u runs small.
            let right = runs.spelled 0 (omega arith) in
            let w = shown.exact t right in
            let kept = kept_runs keeps u w (record { first = omega (arith, size_of u); second = omega (arith, size_of w, right.small); sides = omega arith }) in
            (kept.0, held_more [] (orient order s t).right H (none_held rights) (rw same kept.1));
      }

-- what is asked of left and a right side: at most six v letters; that they differ; that right does not come before left

abbrev pub few_with : Term → Term → Bool
few_with s t = few (letters s ++ letters t)

abbrev pub differs_from : Term → Term → Bool
differs_from s t = not (same s t)

abbrev pub after : Term → Term → Bool
after s t = not (comes_before t s)

-- refusals 3 to 6 and 10

module _ (s : Term) (ts : List Term) (m : Limits) where
  pub one_large : (leb (size s) 31 && all_small ts) ≡ false → accept_each s ts m ≡ refused 3
  unfolding accept_each ◌>>=◌ require
  one_large h = rw h

  module _ (small : (leb (size s) 31 && all_small ts) ≡ true) where
    letters_many : every (few_with s) ts ≡ false → accept_each s ts m ≡ refused 4
    unfolding accept_each ◌>>=◌ require
    letters_many h = rw small (rw h)

    module _ (few : every (few_with s) ts ≡ true) where
      limits_over : in_range m ≡ false → accept_each s ts m ≡ refused 5
      unfolding accept_each ◌>>=◌ require
      limits_over h = rw small (rw few (rw h))

      module _ (ranged : in_range m ≡ true) where
        one_same : every (differs_from s) ts ≡ false → accept_each s ts m ≡ refused 6
        unfolding accept_each ◌>>=◌ require
        one_same h = rw small (rw few (rw ranged (rw h)))

        module _ (differ : every (differs_from s) ts ≡ true) where
          one_before : in_place s ts ≡ false → accept_each s ts m ≡ refused 10
          unfolding accept_each ◌>>=◌ require
          one_before h = rw small (rw few (rw ranged (rw differ (rw h))))

          each_accepted : in_place s ts ≡ true → accept_each s ts m ≡ accepted (map (λ t. oriented s t m) ts)
          unfolding accept_each ◌>>=◌ require
          each_accepted h = rw small (rw few (rw ranged (rw differ (rw h))))

-- one right side is in place, and its job is oriented

in_place_one : (s t : Term) → in_place s (t ∷ []) ≡ true
unfolding in_place several
in_place_one s t = refl

oriented_sides : (s t : Term) (m : Limits) → oriented s t m ≡ job_of (orient order s t).left m (orient order s t).right
unfolding oriented
oriented_sides s t m = refl

-- several are in place if none comes before left; without one that does, one or several are

several_true : (ts : List Term) → 0 < length ts → (length ts ≡ 1 → ⊥) → several ts ≡ true
unfolding several
several_true [] h k = absurd (omega (arith, h))
several_true (t ∷ []) h k = absurd (k refl)
several_true (t ∷ u ∷ us) h k = refl

in_place_several : (s : Term) (ts : List Term) → several ts ≡ true → in_place s ts ≡ every (after s) ts
unfolding in_place
in_place_several s ts h = rw (h, in_place)

in_place_after : (s : Term) (ts : List Term) → every (after s) ts ≡ true → in_place s ts ≡ true
unfolding in_place
in_place_after s ts h = go (several ts)
  where
    go : (b : Bool) → elim b [ true ↦ every (after s) ts | false ↦ true ] ≡ true
    go true = h
    go false = refl

-- what the code found of left, the right sides and the limits

abbrev pub Found : (Term → Term → Bool) → List ℕ → List ℕ → ℕ → Bool → Type 0
Found p xs rights n r = (s : Term) (ts : List Term) → IsRun xs s → HeldRuns rights ts → length ts ≡ n → r ≡ every (p s) ts

not_before : (o : answered.Ordering) (s t : Term) → ordering_of o ≡ order t s → is_ge o ≡ after s t
unfolding comes_before
not_before Less s t e = rw (← e, comes_before)
not_before Equal s t e = rw (← e, comes_before)
not_before Greater s t e = rw (← e, comes_before)

-- the code's tests of left and each right side in turn
module _ {Tells : List ℕ → Bool → Type 0} {xs rights : List ℕ} {n : ℕ} {r : Bool} (h : AllPass Tells rights n r) where
  pub letters_found : ((ys : List ℕ) (b : Bool) → Tells ys b → FewVariables xs ys b) → Found few_with xs rights n r
  letters_found d s ts u v e = h.exact (few_with s) (λ ys t b w told. (d ys b told).exact s t u w) ts v e

  pub differ_found : ((ys : List ℕ) (b : Bool) → Tells ys b → (q : Bool) × Equals xs ys q × (b ≡ not q)) → Found differs_from xs rights n r
  differ_found d s ts u v e =
      h.exact (differs_from s) (λ ys t b w told. let k = d ys b told in k.2 ∙ ap not (k.1.terms s t u w)) ts v e

  pub after_found : ((ys : List ℕ) (b : Bool) → Tells ys b → (o : answered.Ordering) × Compares ys xs o × (b ≡ is_ge o)) → Found after xs rights n r
  after_found d s ts u v e =
      h.exact (after s) (λ ys t b w told. let k = d ys b told in k.2 ∙ not_before k.0 s t (k.1.terms t s w u)) ts v e

found : (p : Term → Term → Bool) {xs rights : List ℕ} {n : ℕ} {f b : Bool} → Found p xs rights n f → f ≡ b
    → {s : Term} {ts : List Term} → IsRun xs s → HeldRuns rights ts → length ts ≡ n → every (p s) ts ≡ b
found p h k {s} {ts} u v e = sym (h s ts u v e) ∙ k

pub ranged : (m : limits.Limits) (y : Limits) {g b : Bool} → g ≡ in_range (limits_of m) → limits_of m ≡ capped y → g ≡ b → in_range y ≡ b
ranged m y i e h = sym (in_range_capped y) ∙ ap in_range (sym e) ∙ sym i ∙ h

small_enough : (s : Term) (ts : List Term) → size s ≤ 31 → all_small ts ≡ true → (leb (size s) 31 && all_small ts) ≡ true
small_enough s ts h k = rw (le-leb (size s) 31 h, k)

module _ (m : limits.Limits) {xs rights : List ℕ} {n : ℕ} {f : Bool} (letters : Found few_with xs rights n f) where
  pub refuse_letters : {rights' : List ℕ} → f ≡ false → AcceptsSides xs n m rights (Err refusal.TooManyVariables) rights'
  refuse_letters h = record { exact = λ s ts y u v c a b e. letters_many s ts y (small_enough s ts a b) (found few_with letters h u v c) }

  module _ (i : f ≡ true) {g : Bool} (limits : g ≡ in_range (limits_of m)) where
    pub refuse_limits : {rights' : List ℕ} → g ≡ false → AcceptsSides xs n m rights (Err refusal.LimitOver) rights'
    refuse_limits h =
        record { exact = λ s ts y u v c a b e. limits_over s ts y (small_enough s ts a b) (found few_with letters i u v c) (ranged m y limits e h) }

    module _ (j : g ≡ true) {d : Bool} (differ : Found differs_from xs rights n d) where
      pub refuse_same : {rights' : List ℕ} → d ≡ false → AcceptsSides xs n m rights (Err refusal.SameSides) rights'
      refuse_same h =
          record {
            exact = λ s ts y u v c a b e.
                one_same s ts y (small_enough s ts a b) (found few_with letters i u v c) (ranged m y limits e j) (found differs_from differ h u v c);
          }

      module _ (k : d ≡ true) where
        module _ (some_rights : 0 < n) {p : Bool} (later : Found after xs rights n p) where
          pub accept_after : n ≤ 16 → p ≡ true → AcceptsSides xs n m rights (Ok (record { left = xs; rights = n; limits = m })) rights
          accept_after few_rights h =
              record {
                exact = λ s ts y u v c a b e.
                    let in-limits = ranged m y limits e j in
                    let none_before = found after later h u v c in
                    let jobs =
                    each_accepted s ts y (small_enough s ts a b) (found few_with letters i u v c) in-limits (found differs_from differ k u v c) (in_place_after s ts none_before) in
                    record {
                      side = s;
                      others = ts;
                      limits = y;
                      accepted = jobs ∙ ap accepted (all_kept s y ts (subst T (sym none_before) tt));
                      run = u;
                      runs = v;
                      count = c;
                      some_rights = some_rights;
                      few_rights = few_rights;
                      is = e ∙ capped_small y in-limits;
                    };
              }

          pub refuse_before : (n ≡ 1 → ⊥) → {rights' : List ℕ} → p ≡ false → AcceptsSides xs n m rights (Err refusal.RightBeforeLeft) rights'
          refuse_before more h =
              record {
                exact = λ s ts y u v c a b e.
                    one_before s ts y (small_enough s ts a b) (found few_with letters i u v c) (ranged m y limits e j) (found differs_from differ k u v c)
                    (in_place_several s ts (several_true ts (omega arith) (λ q. more (sym c ∙ q))) ∙ found after later h u v c);
              }

        pub accept_one : n ≡ 1 → {r rights' : List ℕ} → Orients xs rights r rights'
            → AcceptsSides xs n m rights (Ok (record { left = r; rights = n; limits = m })) rights'
        accept_one one {r} {rights'} orients = record { exact = go }
          where
            go : (s : Term) (ts : List Term) (y : Limits) → IsRun xs s → HeldRuns rights ts → length ts ≡ n → size s ≤ 31 → all_small ts ≡ true → limits_of m ≡ capped y
                → Takes (accept_each s ts y) (record { left = r; rights = n; limits = m }) rights'
            go s [] y u v c a b e = absurd (omega (arith, c, one))
            go s (t ∷ []) y u v c a b e =
                let kept = orients.exact s t u v a in
                let in-limits = ranged m y limits e j in
                record {
                  side = (orient order s t).left;
                  others = (orient order s t).right ∷ [];
                  limits = y;
                  accepted = each_accepted s (t ∷ []) y (small_enough s (t ∷ []) a b) (found few_with letters i u v c) in-limits (found differs_from differ k u v c) (in_place_one s t)
                      ∙ ap (λ j. accepted (j ∷ [])) (oriented_sides s t y);
                  run = kept.0;
                  runs = kept.1;
                  count = sym one;
                  some_rights = omega (arith, one);
                  few_rights = omega (arith, one);
                  is = e ∙ capped_small y in-limits;
                }
            go s (t ∷ t' ∷ ts) y u v c a b e = absurd (omega (arith, c, one))

-- what accepting the sides gives, in the order of the tests, up to the one right side that is accepted alone
pub ruleset sides_accepted = (letters_found, refuse_letters, refuse_limits, differ_found, refuse_same, accept_one)
