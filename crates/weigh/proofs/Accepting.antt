-- A job accepted or refused: its weights, its sides in their order, refusal by refusal, and the whole text.
use Rattle.std.proofs.Common.{ℕ, ◌≤◌, ◌<◌, Bool, true, false, ◌&&◌, List, [], ◌∷◌, ◌++◌, min, ◌≡◌, refl, sym, ap, subst, ◌∙◌, arith, T, leb, leb→le, length, take, Ok, Err, Result}
use borrow.Author.Tests.{le-leb, lt-leb}
use mathlib.Core.Bool.{and-false}
use Rattle.std.specs.List.{list_all}
use Rattle.std.specs.Ordering.{is_gt}
use Rattle.std.specs.declared.cmp.Ordering as answered
use Rattle.std.specs.declared.cmp.Ordering.TheVariants.{Less, Equal, Greater}
use Rattle.std.proofs.Math.Option.{none, some}
use Rattle.terms.specs.Term.{Term, size, order, same}
use Rattle.terms.specs.Letters.{letters}
use Rattle.terms.specs.Equation.{orient}
use Rattle.terms.specs.Held.{IsRun}
use Rattle.terms.specs.Promises.{ordering_of, Compares, Equals}
use Rattle.terms.specs.Theory.Held.{size_of}
use Rattle.terms.specs.Theory.Reflects.{both}
use Rattle.search.specs.Law.{semiring}
use Rattle.search.specs.Searched.{limits_of}
use Rattle.text.specs.Answer.{refused, accepted, ◌>>=◌, require, or_refuse}
use Rattle.text.specs.TermText.{read_term}
use Rattle.text.specs.Job.{in_range, few}
use Rattle.text.specs.SideRead.{TermRead}
use Rattle.text.specs.Accepting.{FewVariables}
use Rattle.text.specs.declared.refusal.Refusal.{Refusal}
use Rattle.text.specs.declared.refusal.Refusal.TheVariants as refusal
use Rattle.text.proofs.Rights.{term_sized}
use Rattle.text.proofs.Accepts.{cap_leb, cap_small, capped_small, ranged}
use Rattle.weigh.specs.declared.job.Written.{Written}
use Rattle.weigh.specs.declared.job.Read.{Read}
use Rattle.weigh.specs.Layout.{WeighLayout, weigh_layout}
use Rattle.weigh.specs.Job.{weights_in_range, weigh_oriented, weigh_accept, read_weigh}
use Rattle.weigh.specs.Read.{capped_each, Shows, LaidOut, Answers, Orients, Accepts, job_in, ReadsSides, ReadsWeigh}

-- ---- the weights

-- whether a weight is in its range
abbrev pub may_weigh : ℕ → Bool
may_weigh n = leb 1 n && leb n 9

pub each_ranged : (ns : List ℕ) → list_all may_weigh ns ≡ weights_in_range ns
unfolding weights_in_range
each_ranged [] = refl
each_ranged (n ∷ ns) = rw (each_ranged ns)

-- a weight that is taken for 4,097 is out of its range, as 4,097 is

cap_some : (n : ℕ) → leb 1 (min n 4097) ≡ leb 1 n
cap_some ℕ.zero = refl
cap_some (ℕ.suc n) = le-leb 1 (min (ℕ.suc n) 4097) (omega arith) ∙ sym (le-leb 1 (ℕ.suc n) (omega arith))

weights_capped : (ns : List ℕ) → weights_in_range (capped_each ns) ≡ weights_in_range ns
unfolding weights_in_range
weights_capped [] = refl
weights_capped (n ∷ ns) = rw (cap_some n, cap_leb n 9 (omega arith), weights_capped ns)

weights_small : (ns : List ℕ) → T (weights_in_range ns) → capped_each ns ≡ ns
unfolding weights_in_range
weights_small [] t = refl
weights_small (n ∷ ns) t =
    let (first, rest) = both (leb 1 n && leb n 9) (weights_in_range ns) t in
    let (low, high) = both (leb 1 n) (leb n 9) first in
    rw (cap_small n (omega (arith, leb→le n 9 high)), weights_small ns rest)

-- ---- the sides in their order

module _ {xs ys : List ℕ} {o : answered.Ordering} (C : Compares xs ys o) where
  pub exchanged : is_gt o ≡ true → Orients xs ys (ys, xs)
  unfolding orient
  exchanged h = record { exact = λ s t u v. go o s t (C.terms s t u v) h u v }
    where
      go : (o : answered.Ordering) (s t : Term) → ordering_of o ≡ order s t → is_gt o ≡ true → IsRun xs s → IsRun ys t
          → IsRun ys (orient order s t).left × IsRun xs (orient order s t).right
      go Less s t e h u v = cc
      go Equal s t e h u v = cc
      go Greater s t e h u v = rw (← e, orient) (v, u)

  pub left_alone : is_gt o ≡ false → Orients xs ys (xs, ys)
  unfolding orient
  left_alone h = record { exact = λ s t u v. go o s t (C.terms s t u v) h u v }
    where
      go : (o : answered.Ordering) (s t : Term) → ordering_of o ≡ order s t → is_gt o ≡ false → IsRun xs s → IsRun ys t
          → IsRun xs (orient order s t).left × IsRun ys (orient order s t).right
      go Less s t e h u v = rw (← e, orient) (u, v)
      go Equal s t e h u v = rw (← e, orient) (u, v)
      go Greater s t e h u v = cc

-- ---- refusals 3 to 5, 16 and 6

module _ (s t : Term) (l : WeighLayout) where
  one_large : (leb (size s) 31 && leb (size t) 31) ≡ false → weigh_accept s t l ≡ refused 3
  unfolding weigh_accept ◌>>=◌ require
  one_large h = rw h

  module _ (small : (leb (size s) 31 && leb (size t) 31) ≡ true) where
    letters_many : few (letters s ++ letters t) ≡ false → weigh_accept s t l ≡ refused 4
    unfolding weigh_accept ◌>>=◌ require
    letters_many h = rw small (rw h)

    module _ (lettered : few (letters s ++ letters t) ≡ true) where
      limits_over : in_range l.limits ≡ false → weigh_accept s t l ≡ refused 5
      unfolding weigh_accept ◌>>=◌ require
      limits_over h = rw small (rw lettered (rw h))

      module _ (limits : in_range l.limits ≡ true) where
        weights_over : (leb l.cost 99 && weights_in_range l.weights) ≡ false → weigh_accept s t l ≡ refused 16
        unfolding weigh_accept ◌>>=◌ require
        weights_over h = rw small (rw lettered (rw limits (rw h)))

        module _ (light : (leb l.cost 99 && weights_in_range l.weights) ≡ true) where
          both_same : same s t ≡ true → weigh_accept s t l ≡ refused 6
          unfolding weigh_accept ◌>>=◌ require
          both_same h = rw small (rw lettered (rw limits (rw light (rw h))))

          job_accepted : same s t ≡ false → weigh_accept s t l ≡ accepted (weigh_oriented s t l)
          unfolding weigh_accept ◌>>=◌ require
          job_accepted h = rw small (rw lettered (rw limits (rw light (rw h))))

small_enough : (s t : Term) → size s ≤ 31 → size t ≤ 31 → (leb (size s) 31 && leb (size t) 31) ≡ true
small_enough s t h k = rw (le-leb (size s) 31 h, le-leb (size t) 31 k)

-- what the code found, of the job as it is written
module _ {xs ys : List ℕ} {w : Written} {f : Bool} (F : FewVariables xs ys f) where
  pub refuse_letters : f ≡ false → Accepts xs ys w (Err refusal.TooManyVariables)
  refuse_letters h = record { exact = λ s t l u v a b e. letters_many s t l (small_enough s t a b) (sym (F.exact s t u v) ∙ h) }

  module _ (i : f ≡ true) {g : Bool} (G : g ≡ in_range (limits_of w.limits)) where
    pub refuse_limits : g ≡ false → Accepts xs ys w (Err refusal.LimitOver)
    refuse_limits h =
        record { exact = λ s t l u v a b e. limits_over s t l (small_enough s t a b) (sym (F.exact s t u v) ∙ i) (ranged w.limits l.limits G e.limits h) }

    module _ (j : g ≡ true) where
      refuse_weights : ((l : WeighLayout) → Shows w l → (leb l.cost 99 && weights_in_range l.weights) ≡ false) → Accepts xs ys w (Err refusal.WeightOver)
      refuse_weights h =
          record {
            exact = λ s t l u v a b e.
                weights_over s t l (small_enough s t a b) (sym (F.exact s t u v) ∙ i) (ranged w.limits l.limits G e.limits j) (h l e);
          }

      pub cost_over : 99 < w.cost → Accepts xs ys w (Err refusal.WeightOver)
      cost_over h = refuse_weights (λ l e. rw (lt-leb l.cost 99 (omega (arith, h, e.cost))))

      module _ (cost : w.cost ≤ 99) {k : Bool} (K : k ≡ weights_in_range w.weights) where
        weights_are : {b : Bool} → k ≡ b → (l : WeighLayout) → Shows w l → weights_in_range l.weights ≡ b
        weights_are h l e = sym (weights_capped l.weights) ∙ ap weights_in_range (sym e.weights) ∙ sym K ∙ h

        cost_is : (l : WeighLayout) → Shows w l → w.cost ≡ l.cost
        cost_is l e = omega (arith, cost, e.cost)

        pub weight_over : k ≡ false → Accepts xs ys w (Err refusal.WeightOver)
        weight_over h = refuse_weights (λ l e. rw (weights_are h l e) (and-false (leb l.cost 99)))

        module _ (m : k ≡ true) {d : Bool} (D : Equals xs ys d) where
          light : (l : WeighLayout) → Shows w l → (leb l.cost 99 && weights_in_range l.weights) ≡ true
          light l e = rw (weights_are m l e, le-leb l.cost 99 (omega (arith, cost, e.cost)))

          pub refuse_same : d ≡ true → Accepts xs ys w (Err refusal.SameSides)
          refuse_same h =
              record {
                exact = λ s t l u v a b e.
                    both_same s t l (small_enough s t a b) (sym (F.exact s t u v) ∙ i) (ranged w.limits l.limits G e.limits j) (light l e)
                    (sym (D.terms s t u v) ∙ h);
              }

          pub accept_job : d ≡ false → {r : List ℕ × List ℕ} → Orients xs ys r
              → Accepts xs ys w (Ok (record { left = r.0; right = r.1; cost = w.cost; limits = w.limits; weights = w.weights }))
          unfolding weigh_oriented
          accept_job h O =
              record {
                exact = λ s t l u v a b e.
                    let sides = O.exact s t u v in
                    let limits = ranged w.limits l.limits G e.limits j in
                    record {
                      job = weigh_oriented s t l;
                      accepted = job_accepted s t l (small_enough s t a b) (sym (F.exact s t u v) ∙ i) limits (light l e) (sym (D.terms s t u v) ∙ h);
                      left_run = sides.0;
                      right_run = sides.1;
                      cost = cost_is l e;
                      limits = e.limits ∙ capped_small l.limits limits;
                      weights = e.weights ∙ weights_small l.weights (subst T (sym (weights_are m l e)) tt);
                    };
              }

-- ---- the sides

module _ (w : Written) where
  pub foul_left : read_term w.left.now ≡ none → ReadsSides w (Err refusal.NoTerm)
  unfolding ◌>>=◌ or_refuse
  foul_left h = record { exact = λ l e. rw (← e.left) (rw h) }

  module _ {run : List ℕ} {n : ℕ} (a : TermRead w.left.now run n) where
    pub foul_right : read_term w.right.now ≡ none → ReadsSides w (Err refusal.NoTerm)
    unfolding ◌>>=◌ or_refuse
    foul_right h = record { exact = λ l e. rw (← e.left, ← e.right) (rw a.read (rw h)) }

    module _ {run' : List ℕ} {m : ℕ} (b : TermRead w.right.now run' m) where
      both_read : (l : WeighLayout) → Shows w l → job_in l ≡ weigh_accept a.term b.term l
      unfolding ◌>>=◌ or_refuse
      both_read l e = rw (← e.left, ← e.right) (rw a.read (rw b.read))

      pub large_left : 31 < n → ReadsSides w (Err refusal.TooLarge)
      large_left h =
          record {
            exact = λ l e. both_read l e ∙ one_large a.term b.term l (rw (lt-leb (size a.term) 31 (omega (arith, h, term_sized a))));
          }

      pub large_right : 31 < m → ReadsSides w (Err refusal.TooLarge)
      large_right h =
          record {
            exact = λ l e.
                both_read l e
                ∙ one_large a.term b.term l (rw (lt-leb (size b.term) 31 (omega (arith, h, term_sized b))) (and-false (leb (size a.term) 31)));
          }

      pub sides_read : {xs ys : List ℕ} → xs ≡ take n run → length xs ≤ 31 → ys ≡ take m run' → length ys ≤ 31
          → {r : Result Read Refusal} → Accepts xs ys w r → ReadsSides w r
      sides_read {xs} {ys} p h q k {r} A =
          let u : IsRun xs a.term = rw p a.whole in
          let v : IsRun ys b.term = rw q b.whole in
          record {
            exact = λ l e.
                subst (λ x. Answers x r) (sym (both_read l e))
                (A.exact a.term b.term l u v (omega (arith, size_of u, h)) (omega (arith, size_of v, k)) e);
          }

-- ---- the whole text

module _ (s : List ℕ) where
  pub too_long : 1024 < length s → ReadsWeigh s (Err refusal.Malformed)
  unfolding read_weigh ◌>>=◌ require
  too_long h = rw (lt-leb (length s) 1024 h)

  module _ (short : length s ≤ 1024) where
    pub malformed : weigh_layout 10 s ≡ none → ReadsWeigh s (Err refusal.Malformed)
    unfolding read_weigh ◌>>=◌ require or_refuse semiring
    malformed h = rw (le-leb (length s) 1024 short) (rw h)

    lines_read : (l : WeighLayout) → weigh_layout 10 s ≡ some l → read_weigh s ≡ job_in l
    unfolding read_weigh ◌>>=◌ require or_refuse semiring
    lines_read l h = rw (le-leb (length s) 1024 short) (rw h)

    pub text_read : {w : Written} → LaidOut s w → (r : Result Read Refusal) → ReadsSides w r → ReadsWeigh s r
    text_read o r S = subst (λ x. Answers x r) (sym (lines_read o.layout o.lines)) (S.exact o.layout o.shown)
