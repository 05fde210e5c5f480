-- What is known of an accepted WEIGH job: its sides are small, oriented and readable, and its limits, cost and weights are in range.
use Rattle.std.specs.Prelude.{ℕ, ◌≤◌, ◌≡◌, refl, Bool, true, false, eqb, not, ◌&&◌, List, [], ◌∷◌, ◌++◌, length, get_or, T, leb}
use Prim.Native.Char.{code}
use Rattle.std.proofs.Common.{arith, sym, ap, ◌∙◌, ⊎_elim, leb→le}
use Rattle.std.proofs.Math.Option.{Option, none, some, none-ne-some, some-injective}
use Rattle.terms.specs.Lists.{◌∈◌, here, there, not-in-nil, cons-cases}
use Rattle.terms.specs.Term.{Term, size, order, same}
use Rattle.terms.specs.Letters.{letters}
use Rattle.terms.specs.Theory.Reflects.{Reflects, both, eqb_reflects}
use Rattle.terms.specs.Theory.Equation.{orient_either, orient_before}
use Rattle.terms.specs.Theory.TermOrder.{term_order, apart}
use Rattle.search.specs.Law.{semiring, rank}
use Rattle.weigh.specs.Claims.{Heavy}
use Rattle.text.specs.Answer.{or_refuse}
use Rattle.text.specs.Job.{few, in_range, Fit}
use Rattle.text.specs.Theory.Accepted.{If_accepted, accepted_then, required_then, or_refuse_some}
use Rattle.text.specs.Theory.Keyed.{some_then, end_only}
use Rattle.text.specs.Bytes.{pieces}
use Rattle.text.specs.Layout.{keyed, limit_line}
use Rattle.text.specs.Theory.Jobs.{in_range_true, fit_swap, read_then}
use Rattle.weigh.specs.Layout.{WeighLayout, read_numbers, so_many, weights_line, weigh_layout}
use Rattle.weigh.specs.Weigh.{weights_of}
use Rattle.weigh.specs.Job.{WeighJob, weights_in_range, weigh_oriented, weigh_accept, read_weigh, WeighAccepted}

weights_true : (ns : List ℕ) → T (weights_in_range ns) → (n : ℕ) → n ∈ ns → (1 ≤ n) × (n ≤ 9)
unfolding weights_in_range
weights_true [] t n i = absurd (not-in-nil i)
weights_true (m ∷ ms) t n i =
    let (first, rest) = both (leb 1 m && leb m 9) (weights_in_range ms) t in
    let (low, high) = both (leb 1 m) (leb m 9) first in
    ⊎_elim (λ (e : n ≡ m). rw e (leb→le 1 m low, leb→le m 9 high)) (weights_true ms rest n) (cons-cases i)

getD_low : (ns : List ℕ) → ((n : ℕ) → n ∈ ns → (1 ≤ n) × (n ≤ 9)) → (i : ℕ) → 1 ≤ get_or ns i 1
getD_low [] h i = omega arith
getD_low (n ∷ ns) h ℕ.zero = (h n (here refl)).0
getD_low (n ∷ ns) h (ℕ.suc i) = getD_low ns (λ m k. h m (there k)) i

-- every law weighs at least 1
pub accepted_heavy : (j : WeighJob) → WeighAccepted j → Heavy (weights_of j.weights)
unfolding weights_of
accepted_heavy j known n = getD_low j.weights known.weights (rank n)

-- there are as many weights as were asked for
so_many_counted : (k : ℕ) (ns : List ℕ) {ms : List ℕ} → so_many k ns ≡ some ms → length ms ≡ k
unfolding so_many
so_many_counted k ns {ms} = go (eqb (length ns) k) (eqb_reflects (length ns) k)
  where
    go : (b : Bool) → Reflects (length ns ≡ k) b → elim b as (λ _. Option (List ℕ)) [ true ↦ some ns | false ↦ none ] ≡ some ms → length ms ≡ k
    go true h e = ap length (sym (some-injective _ _ e)) ∙ h
    go false h e = absurd (none-ne-some _ e)

line_counted : (k : ℕ) (bs : List ℕ) {ms : List ℕ} → weights_line k bs ≡ some ms → length ms ≡ k
unfolding weights_line
line_counted k bs e =
    some_then (keyed "weights=" bs) _ e λ c _ e.
    some_then (read_numbers (pieces (code " ") c.front)) _ e λ ns _ e.
    some_then (so_many k ns) _ e λ w many e.
    ap length (sym (end_only w c.rest e).1) ∙ so_many_counted k ns many

weights_counted : (k : ℕ) (bs : List ℕ) (j : WeighLayout) → weigh_layout k bs ≡ some j → length j.weights ≡ k
unfolding weigh_layout
weights_counted k bs j e =
    some_then (keyed "left=" bs) _ e λ l _ e.
    some_then (keyed "right=" l.rest) _ e λ r _ e.
    some_then (limit_line "cost=" r.rest) _ e λ c _ e.
    some_then (limit_line "size=" c.rest) _ e λ z _ e.
    some_then (limit_line "depth=" z.rest) _ e λ d _ e.
    some_then (limit_line "nodes=" d.rest) _ e λ n _ e.
    some_then (weights_line k n.rest) _ e λ w read e.
    ap (λ (x : WeighLayout). length x.weights) (sym (some-injective _ _ e)) ∙ line_counted k n.rest read

oriented_accepted : (s t : Term) (j : WeighLayout) → length j.weights ≡ length semiring → Fit s t → T (in_range j.limits) → T (leb j.cost 99 && weights_in_range j.weights)
    → T (not (same s t)) → WeighAccepted (weigh_oriented s t j)
unfolding weigh_oriented
oriented_accepted s t j counted fit limits range differ =
    let (cost, weights) = both (leb j.cost 99) (weights_in_range j.weights) range in
    record {
      before = orient_before term_order s t (apart differ);
      sides = orient_either Fit order s t fit (fit_swap fit);
      limits = in_range_true j.limits limits;
      cost = leb→le j.cost 99 cost;
      count = counted;
      weights = weights_true j.weights weights;
    }

pub weigh_accepted : (bs : List ℕ) → If_accepted WeighAccepted (read_weigh bs)
unfolding read_weigh weigh_accept
weigh_accepted bs =
    required_then WeighAccepted 1 (leb (length bs) 1024) _ λ _.
    accepted_then WeighAccepted (or_refuse 1 (weigh_layout (length semiring) bs)) _ λ j laid.
    read_then WeighAccepted 2 j.left _ λ s read-s.
    read_then WeighAccepted 2 j.right _ λ t read-t.
    required_then WeighAccepted 3 (leb (size s) 31 && leb (size t) 31) _ λ small.
    required_then WeighAccepted 4 (few (letters s ++ letters t)) _ λ lettered.
    required_then WeighAccepted 5 (in_range j.limits) _ λ limits.
    required_then WeighAccepted 16 (leb j.cost 99 && weights_in_range j.weights) _ λ range.
    required_then WeighAccepted 6 (not (same s t)) _ λ differ.
    let (small-s, small-t) = both (leb (size s) 31) (leb (size t) 31) small in
    oriented_accepted s t j (weights_counted (length semiring) bs j (or_refuse_some 1 (weigh_layout (length semiring) bs) j laid))
    (record {
      small_left = leb→le (size s) 31 small-s;
      small_right = leb→le (size t) 31 small-t;
      few = leb→le _ 6 lettered;
      readable_left = read-s;
      readable_right = read-t;
    })
    limits range differ
