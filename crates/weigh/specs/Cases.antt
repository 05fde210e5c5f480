-- Cases of WEIGH as one table, and one theorem that evaluates the definitions on all of it.
use Rattle.std.specs.Prelude.{ℕ, ◌≡◌, refl, List, [], ◌∷◌, map}
use Prim.Native.String.{String}
use Rattle.text.specs.Bytes.{ascii}
use Rattle.text.specs.Answer.{Answer, refused, accepted}
use Rattle.weigh.specs.Text.{weigh_entry}

pub record Case : Type 0 where
  pub job : String
  pub slots : ℕ
  pub room : ℕ
  pub answer : Answer (List ℕ)

abbrev case : String → ℕ → ℕ → Answer (List ℕ) → Case
case j s n a = record { job = j; slots = s; room = n; answer = a }

abbrev says : String → Answer (List ℕ)
says t = accepted (ascii t)

pub given : Case → Answer (List ℕ)
unfolding ascii
given c = weigh_entry (ascii c.job) c.slots c.room

pub cases : List Case
unfolding ascii
cases =
    -- no direct match is tried: left is opened before right comes up
    (case "left=v0\nright=+ v0 0\ncost=3\nsize=7\ndepth=3\nnodes=1000\nweights=1 1 2 1 1 1 1 1 1 1\n" 400 32768
    (says "answer=proved\nleft=v0\nright=+ v0 0\nsteps=1\ntotal=2\nexpanded=3\nuses=add_zero_right\nstep=add_zero_right forward at=. to=+ v0 0\nproof=(lam x0 (app (ref add_zero_right) (ref x0)))\n"))
    -- a path of two lines
    ∷ (case "left=v0\nright=+ 0 v0\ncost=3\nsize=7\ndepth=3\nnodes=1000\nweights=2 1 1 9 9 9 9 9 9 9\n" 400 32768
    (says "answer=proved\nleft=v0\nright=+ 0 v0\nsteps=2\ntotal=2\nexpanded=3\nuses=add_comm,add_zero_right\nstep=add_zero_right forward at=. to=+ v0 0\nstep=add_comm forward at=. to=+ 0 v0\nproof=(lam x0 (app (app (app (app (app (ref eq_trans) (ref x0)) (app (app (ref add) (ref x0)) (ref zeroA))) (app (app (ref add) (ref zeroA)) (ref x0))) (app (ref add_zero_right) (ref x0))) (app (app (ref add_comm) (ref x0)) (ref zeroA))))\n"))
    -- each path weighs more than cost
    ∷ (case "left=v0\nright=+ 0 v0\ncost=1\nsize=7\ndepth=3\nnodes=1000\nweights=1 1 1 9 9 9 9 9 9 9\n" 400 32768
    (says "answer=none\nleft=v0\nright=+ 0 v0\nexpanded=2\ncut=no\n"))
    -- nodes run out, and right was never noted
    ∷ (case "left=v0\nright=+ 0 v0\ncost=3\nsize=7\ndepth=3\nnodes=1\nweights=1 1 1 9 9 9 9 9 9 9\n" 400 32768
    (says "answer=none\nleft=v0\nright=+ 0 v0\nexpanded=1\ncut=yes\n"))
    ∷ (case "left=v0\nright=+ 0 v0\ncost=0\nsize=7\ndepth=3\nnodes=1\nweights=1 1 1 9 9 9 9 9 9 9\n" 400 32768
    (says "answer=none\nleft=v0\nright=+ 0 v0\nexpanded=1\ncut=no\n"))
    -- of two lines to one result the lightest counts, of two that weigh the same the first
    ∷ (case "left=1\nright=* 1 1\ncost=9\nsize=7\ndepth=3\nnodes=100\nweights=1 1 1 1 5 2 1 1 1 1\n" 400 32768
    (says "answer=proved\nleft=1\nright=* 1 1\nsteps=1\ntotal=2\nexpanded=5\nuses=mul_one_right\nstep=mul_one_right forward at=. to=* 1 1\nproof=(app (ref mul_one_right) (ref oneA))\n"))
    ∷ (case "left=1\nright=* 1 1\ncost=9\nsize=7\ndepth=3\nnodes=100\nweights=1 1 1 1 2 2 1 1 1 1\n" 400 32768
    (says "answer=proved\nleft=1\nright=* 1 1\nsteps=1\ntotal=2\nexpanded=5\nuses=mul_one_left\nstep=mul_one_left forward at=. to=* 1 1\nproof=(app (ref mul_one_left) (ref oneA))\n"))
    -- right is noted with a total of 10 first, by another term; right comes up before the node limit is looked at
    ∷ (case "left=1\nright=* 1 + 1 0\ncost=20\nsize=5\ndepth=2\nnodes=7\nweights=9 9 1 9 9 5 9 9 9 9\n" 400 32768
    (says "answer=proved\nleft=1\nright=* 1 + 1 0\nsteps=2\ntotal=6\nexpanded=7\nuses=add_zero_right,mul_one_right\nstep=mul_one_right forward at=. to=* 1 1\nstep=add_zero_right forward at=r to=* 1 + 1 0\nproof=(app (app (app (app (app (ref eq_trans) (ref oneA)) (app (app (ref mul) (ref oneA)) (ref oneA))) (app (app (ref mul) (ref oneA)) (app (app (ref add) (ref oneA)) (ref zeroA)))) (app (ref mul_one_right) (ref oneA))) (app (app (app (app (ref eq_ap) (lam hole (app (app (ref mul) (ref oneA)) (ref hole)))) (ref oneA)) (app (app (ref add) (ref oneA)) (ref zeroA))) (app (ref add_zero_right) (ref oneA))))\n"))
    -- with fewer nodes it is in hand, and heavier before it is lowered
    ∷ (case "left=1\nright=* 1 + 1 0\ncost=20\nsize=5\ndepth=2\nnodes=6\nweights=9 9 1 9 9 5 9 9 9 9\n" 400 32768
    (says "answer=atmost\nleft=1\nright=* 1 + 1 0\nsteps=2\ntotal=6\natleast=6\nexpanded=6\nuses=add_zero_right,mul_one_right\nstep=mul_one_right forward at=. to=* 1 1\nstep=add_zero_right forward at=r to=* 1 + 1 0\nproof=(app (app (app (app (app (ref eq_trans) (ref oneA)) (app (app (ref mul) (ref oneA)) (ref oneA))) (app (app (ref mul) (ref oneA)) (app (app (ref add) (ref oneA)) (ref zeroA)))) (app (ref mul_one_right) (ref oneA))) (app (app (app (app (ref eq_ap) (lam hole (app (app (ref mul) (ref oneA)) (ref hole)))) (ref oneA)) (app (app (ref add) (ref oneA)) (ref zeroA))) (app (ref add_zero_right) (ref oneA))))\n"))
    ∷ (case "left=1\nright=* 1 + 1 0\ncost=20\nsize=5\ndepth=2\nnodes=4\nweights=9 9 1 9 9 5 9 9 9 9\n" 400 32768
    (says "answer=atmost\nleft=1\nright=* 1 + 1 0\nsteps=2\ntotal=10\natleast=5\nexpanded=4\nuses=add_zero_right,mul_one_left\nstep=add_zero_right forward at=. to=+ 1 0\nstep=mul_one_left forward at=. to=* 1 + 1 0\nproof=(app (app (app (app (app (ref eq_trans) (ref oneA)) (app (app (ref add) (ref oneA)) (ref zeroA))) (app (app (ref mul) (ref oneA)) (app (app (ref add) (ref oneA)) (ref zeroA)))) (app (ref add_zero_right) (ref oneA))) (app (ref mul_one_left) (app (app (ref add) (ref oneA)) (ref zeroA))))\n"))
    ∷ (case "left=1\nright=* 1 + 1 0\ncost=5\nsize=5\ndepth=2\nnodes=100\nweights=9 9 1 9 9 5 9 9 9 9\n" 400 32768
    (says "answer=none\nleft=1\nright=* 1 + 1 0\nexpanded=5\ncut=no\n"))
    -- of terms with the same total the smallest is opened first: right is the second
    ∷ (case "left=+ v0 0\nright=+ 0 v0\ncost=9\nsize=3\ndepth=1\nnodes=2\nweights=1 1 1 1 1 1 1 1 1 1\n" 400 32768
    (says "answer=proved\nleft=+ v0 0\nright=+ 0 v0\nsteps=1\ntotal=1\nexpanded=2\nuses=add_comm\nstep=add_comm forward at=. to=+ 0 v0\nproof=(lam x0 (app (app (ref add_comm) (ref x0)) (ref zeroA)))\n"))
    -- nodes run out with right noted, also where no term that waits has a smaller total; with one node more it comes up
    ∷ (case "left=v0\nright=+ 0 v0\ncost=3\nsize=7\ndepth=3\nnodes=2\nweights=2 1 1 9 9 9 9 9 9 9\n" 400 32768
    (says "answer=atmost\nleft=v0\nright=+ 0 v0\nsteps=2\ntotal=2\natleast=2\nexpanded=2\nuses=add_comm,add_zero_right\nstep=add_zero_right forward at=. to=+ v0 0\nstep=add_comm forward at=. to=+ 0 v0\nproof=(lam x0 (app (app (app (app (app (ref eq_trans) (ref x0)) (app (app (ref add) (ref x0)) (ref zeroA))) (app (app (ref add) (ref zeroA)) (ref x0))) (app (ref add_zero_right) (ref x0))) (app (app (ref add_comm) (ref x0)) (ref zeroA))))\n"))
    ∷ (case "left=v0\nright=+ 0 v0\ncost=3\nsize=7\ndepth=3\nnodes=3\nweights=2 1 1 9 9 9 9 9 9 9\n" 400 32768
    (says "answer=proved\nleft=v0\nright=+ 0 v0\nsteps=2\ntotal=2\nexpanded=3\nuses=add_comm,add_zero_right\nstep=add_zero_right forward at=. to=+ v0 0\nstep=add_comm forward at=. to=+ 0 v0\nproof=(lam x0 (app (app (app (app (app (ref eq_trans) (ref x0)) (app (app (ref add) (ref x0)) (ref zeroA))) (app (app (ref add) (ref zeroA)) (ref x0))) (app (ref add_zero_right) (ref x0))) (app (app (ref add_comm) (ref x0)) (ref zeroA))))\n"))
    -- the path in hand is heavier than the lightest may be
    ∷ (case "left=v0\nright=+ v0 0\ncost=9\nsize=3\ndepth=1\nnodes=1\nweights=1 1 9 1 1 1 1 1 1 1\n" 400 32768
    (says "answer=atmost\nleft=v0\nright=+ v0 0\nsteps=1\ntotal=9\natleast=1\nexpanded=1\nuses=add_zero_right\nstep=add_zero_right forward at=. to=+ v0 0\nproof=(lam x0 (app (ref add_zero_right) (ref x0)))\n"))
    -- a path over cost is not in hand
    ∷ (case "left=v0\nright=+ v0 0\ncost=8\nsize=3\ndepth=1\nnodes=1\nweights=1 1 9 1 1 1 1 1 1 1\n" 400 32768
    (says "answer=none\nleft=v0\nright=+ v0 0\nexpanded=1\ncut=yes\n"))
    -- nor is one told without slots or room
    ∷ (case "left=v0\nright=+ v0 0\ncost=9\nsize=3\ndepth=1\nnodes=1\nweights=1 1 9 1 1 1 1 1 1 1\n" 3 32768 (refused 7))
    ∷ (case "left=v0\nright=+ v0 0\ncost=9\nsize=3\ndepth=1\nnodes=1\nweights=1 1 9 1 1 1 1 1 1 1\n" 4 0 (refused 8))
    -- refusals: eleven weights, nine, a needless zero, two spaces; then 5 before 16, 16 before 6
    ∷ (case "left=v0\nright=+ 0 v0\ncost=0\nsize=7\ndepth=3\nnodes=1\nweights=1 1 1 9 9 9 9 9 9 9 9\n" 400 32768 (refused 1))
    ∷ (case "left=v0\nright=+ 0 v0\ncost=0\nsize=7\ndepth=3\nnodes=1\nweights=1 1 1 9 9 9 9 9 9\n" 400 32768 (refused 1))
    ∷ (case "left=v0\nright=+ 0 v0\ncost=0\nsize=7\ndepth=3\nnodes=1\nweights=1 1 1 9 9 9 9 9 9 09\n" 400 32768 (refused 1))
    ∷ (case "left=v0\nright=+ 0 v0\ncost=0\nsize=7\ndepth=3\nnodes=1\nweights=1  1 1 9 9 9 9 9 9 9\n" 400 32768 (refused 1))
    ∷ (case "left=v0\nright=+ 0 v0\nsteps=0\nsize=7\ndepth=3\nnodes=1\nweights=1 1 1 9 9 9 9 9 9 9\n" 400 32768 (refused 1))
    ∷ (case "left=v0\nright=+ 0 v0\ncost=100\nsize=7\ndepth=3\nnodes=4097\nweights=1 1 1 9 9 9 9 9 9 9\n" 400 32768 (refused 5))
    ∷ (case "left=v0\nright=v0\ncost=100\nsize=7\ndepth=3\nnodes=1\nweights=1 1 1 9 9 9 9 9 9 9\n" 400 32768 (refused 16))
    ∷ (case "left=v0\nright=v0\ncost=99\nsize=7\ndepth=3\nnodes=1\nweights=1 1 1 9 9 9 9 0 9 9\n" 400 32768 (refused 16))
    ∷ (case "left=v0\nright=v0\ncost=99\nsize=7\ndepth=3\nnodes=1\nweights=1 1 1 9 9 9 9 10 9 9\n" 400 32768 (refused 16))
    ∷ (case "left=v0\nright=v0\ncost=99\nsize=7\ndepth=3\nnodes=1\nweights=1 1 1 9 9 9 9 9 9 9\n" 400 32768 (refused 6))
    -- a space behind the last weight
    ∷ (case "left=v0\nright=+ 0 v0\ncost=0\nsize=7\ndepth=3\nnodes=1\nweights=1 1 1 1 1 1 1 1 1 1 \n" 400 32768 (refused 1))
    -- numbers too long are numbers
    ∷ (case "left=v0\nright=+ 0 v0\ncost=99999999999999999999\nsize=7\ndepth=3\nnodes=1\nweights=1 1 1 1 1 1 1 1 1 1\n" 400 32768 (refused 16))
    ∷ (case "left=v0\nright=+ 0 v0\ncost=1\nsize=7\ndepth=3\nnodes=1\nweights=1 1 1 1 1 1 1 1 1 99999999999999999999\n" 400 32768 (refused 16))
    ∷ (case "left=v0\nright=+ 0 v0\ncost=1\nsize=7\ndepth=3\nnodes=99999999999999999999\nweights=1 1 1 1 1 1 1 1 1 1\n" 400 32768 (refused 5))
    ∷ (case "left=v0\nright=+ 0 v0\ncost=1\nsize=32\ndepth=3\nnodes=1\nweights=1 1 1 1 1 1 1 1 1 1\n" 400 32768 (refused 5))
    ∷ (case "left=v0\nright=+ 0 v0\ncost=1\nsize=7\ndepth=16\nnodes=1\nweights=1 1 1 1 1 1 1 1 1 1\n" 400 32768 (refused 5))
    -- a term of 33 nodes
    ∷ (case "left=v0\nright=+ + + + + + + + + + + + + + + + v0 v0 v0 v0 v0 v0 v0 v0 v0 v0 v0 v0 v0 v0 v0 v0 v0\ncost=1\nsize=7\ndepth=3\nnodes=1\nweights=1 1 1 1 1 1 1 1 1 1\n" 400 32768 (refused 3))
    -- a side that is no term; seven v letters, with limits and cost out of range
    ∷ (case "left=v0\nright=v\ncost=3\nsize=7\ndepth=3\nnodes=1000\nweights=1 1 1 1 1 1 1 1 1 1\n" 400 32768 (refused 2))
    ∷ (case "left=v0\nright=+ v1 + v2 + v3 + v4 + v5 v6\ncost=100\nsize=99\ndepth=3\nnodes=1000\nweights=1 1 1 1 1 1 1 1 1 1\n" 400 32768 (refused 4))
    -- the second case notes ten terms
    ∷ (case "left=v0\nright=+ 0 v0\ncost=3\nsize=7\ndepth=3\nnodes=1000\nweights=2 1 1 9 9 9 9 9 9 9\n" 9 0 (refused 7))
    ∷ (case "left=v0\nright=+ 0 v0\ncost=3\nsize=7\ndepth=3\nnodes=1000\nweights=2 1 1 9 9 9 9 9 9 9\n" 10 0 (refused 8))
    ∷ []

pub cases_hold : map given cases ≡ map (λ c. c.answer) cases
unfolding cases given weigh_entry ascii
cases_hold = refl
