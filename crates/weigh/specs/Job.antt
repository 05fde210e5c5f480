-- Reading a WEIGH job, refusals 1 to 5, 16 and 6, and what is known of a job that is accepted.
use Rattle.std.specs.Prelude.{ℕ, ◌≤◌, ◌≡◌, Bool, true, not, ◌&&◌, List, [], ◌∷◌, ◌++◌, length, leb}
use Rattle.terms.specs.Compare.{lt}
use Rattle.terms.specs.Equation.{orient}
use Rattle.terms.specs.Lists.{◌∈◌}
use Rattle.terms.specs.Term.{Term, size, order, same}
use Rattle.terms.specs.Letters.{letters, rising, those_below}
use Rattle.search.specs.Law.{semiring}
use Rattle.search.specs.Line.{Limits}
use Rattle.text.specs.TermText.{read_term}
use Rattle.text.specs.Answer.{Answer, accepted, ◌>>=◌, require, or_refuse}
use Rattle.text.specs.Job.{in_range, few, In_range, Fit}
use Rattle.weigh.specs.Layout.{WeighLayout, weigh_layout}

-- the smaller side is the left one; the weights are in law order
pub record WeighJob : Type 0 where
  pub left : Term
  pub right : Term
  pub cost : ℕ
  pub limits : Limits
  pub weights : List ℕ

-- each weight is 1 to 9
unfoldable pub weights_in_range : List ℕ → Bool
weights_in_range [] = true
weights_in_range (n ∷ ns) = leb 1 n && leb n 9 && weights_in_range ns

unfoldable pub weigh_oriented : Term → Term → WeighLayout → WeighJob
unfolding orient order
weigh_oriented s t j =
    let e = orient order s t in record { left = e.left; right = e.right; cost = j.cost; limits = j.limits; weights = j.weights }

-- refusals 3 to 5, 16 and 6
unfoldable pub weigh_accept : Term → Term → WeighLayout → Answer WeighJob
unfolding ◌>>=◌ require size rising those_below letters in_range weights_in_range same weigh_oriented
weigh_accept s t j = do
  _ ← require 3 (leb (size s) 31 && leb (size t) 31)
  _ ← require 4 (few (letters s ++ letters t))
  _ ← require 5 (in_range j.limits)
  _ ← require 16 (leb j.cost 99 && weights_in_range j.weights)
  _ ← require 6 (not (same s t))
  accepted (weigh_oriented s t j)

unfoldable pub read_weigh : List ℕ → Answer WeighJob
unfolding ◌>>=◌ require or_refuse semiring weigh_layout read_term weigh_accept
read_weigh bs = do
  _ ← require 1 (leb (length bs) 1024)
  j ← or_refuse 1 (weigh_layout (length semiring) bs)
  s ← or_refuse 2 (read_term j.left)
  t ← or_refuse 2 (read_term j.right)
  weigh_accept s t j

-- a job that is not refused by 1 to 5, 16 and 6
pub record WeighAccepted (j : WeighJob) : Type 0 where
  pub before : order j.left j.right ≡ lt
  pub sides : Fit j.left j.right
  pub limits : In_range j.limits
  pub cost : j.cost ≤ 99
  pub count : length j.weights ≡ length semiring
  pub weights : (n : ℕ) → n ∈ j.weights → (1 ≤ n) × (n ≤ 9)
