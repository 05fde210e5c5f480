-- What the functions that answer WEIGH go by: what is put is the answer's text, and the search's end is the job's outcome.
use Rattle.std.specs.Prelude.{ℕ, ◌≤◌, ◌<◌, ◌≡◌, Bool, List, [], ◌++◌, length, take, Option, Some, None}
use Rattle.std.proofs.lemmas.Option.{same_Some, none-some}
use Rattle.std.proofs.Common.{arith, sym, ◌∙◌, ap}
use Rattle.std.proofs.Math.Path.{subst}
use mathlib.Core.List.{flatten, append_assoc}
use Rattle.search.specs.Law.{semiring}
use Rattle.search.specs.Line.{Line}
use Rattle.search.specs.Path.{Searchable, Path, end}
use Rattle.search.specs.Runs.{value_of}
use Rattle.search.specs.Theory.Stands.{path_end}
use Rattle.text.specs.Walk.{Walk}
use Rattle.weigh.specs.Copied.{CopiesPath}
use Rattle.terms.specs.Term.{zero}
use Rattle.terms.specs.Theory.Members.{getD_in}
use Rattle.text.specs.Bytes.{ascii, number}
use Rattle.text.specs.TermText.{write_term}
use Rattle.text.specs.Answer.{field}
use Rattle.text.specs.Printing.{path_text, none_text}
use Rattle.text.specs.Writer.{Writes}
use Rattle.text.specs.declared.writer.Writer.{Writer}
use Rattle.text.proofs.Writing.{put_as}
use Rattle.weigh.specs.Weigh.{Weights, weight, weights_of, Weighed, start}
use Rattle.weigh.specs.Outcome.{unproved, Returns, by_proved, by_atmost, weigh}
use Rattle.weigh.specs.Claims.{Heavy}
use Rattle.weigh.specs.Job.{WeighJob, WeighAccepted}
use Rattle.weigh.specs.Slots.{weighed_at}
use Rattle.weigh.specs.Searched.{returning}
use Rattle.weigh.specs.Answering.{path_verdict, totals_text, Held}
use Rattle.weigh.specs.Theory.State.{State}
use Rattle.weigh.specs.Theory.Final.{ended}
use Rattle.weigh.specs.Theory.Claims.{returned_short}
use Rattle.weigh.specs.Theory.Jobs.{accepted_heavy}
use Rattle.weigh.specs.Text.{total_line, weigh_lines, weigh_text}

-- what is put of a path or of a none is the outcome's text
module _ (j : WeighJob) {o o' : Writer} where
  pub path_put : (atleast : Option ℕ) (xs : List Line) (e n : ℕ)
      → Writes (path_text (path_verdict atleast) j.left j.right (totals_text (weight (weights_of j.weights) xs) atleast) xs e) o o'
      → Writes (weigh_text semiring j (returning atleast xs e n)) o o'
  unfolding weigh_text weigh_lines total_line flatten
  path_put None xs e n p = p
  path_put (Some l) xs e n p =
      put_as
      (ap (λ t. field "answer=" (ascii "atmost") ++ (field "left=" (write_term j.left) ++ (field "right=" (write_term j.right) ++ (field "steps=" (number (length xs)) ++ t))))
      (append_assoc (field "total=" (number (weight (weights_of j.weights) xs))) (field "atleast=" (number l)) _))
      p

  pub none_put : (e n : ℕ) (c : Bool) → Writes (none_text j.left j.right e c) o o' → Writes (weigh_text semiring j (unproved e n c)) o o'
  unfolding weigh_text weigh_lines
  none_put e n c p = p

returns : (atleast : Option ℕ) (xs : List Line) (e n : ℕ) → Returns (returning atleast xs e n) xs
returns None xs e n = by_proved
returns (Some l) xs e n = by_atmost

-- the path that is returned leads to slot k
module _ {ws : List ℕ} {k : ℕ} {atleast : Option ℕ} {j : WeighJob} {es : List Weighed} (known : WeighAccepted j) (H : Held ws k atleast j es) where
  abbrev w : Weights
  w = weights_of j.weights

  heavy : Heavy w
  heavy = accepted_heavy j known

  state : State (Searchable semiring j.limits) w j.cost j.left j.right es
  state = rw H.searched (ended semiring w heavy j.cost j.limits j.left j.right).state

  -- it is short enough, weighs what the slot tells, and begins with left
  held_short : length (weighed_at es k).trail ≤ 99
  unfolding weigh
  held_short =
      omega (
        arith,
        known.cost,
        returned_short semiring w heavy j.cost j.limits j.left j.right (weighed_at es k).trail
            (rw (← H.searched, H.ends.1) (returns atleast (weighed_at es k).trail H.ends.0 (length es))),
      )

  pub held_total : value_of ws k ≡ weight w (weighed_at es k).trail
  held_total = H.slots.total k H.within ∙ state.total (weighed_at es k) (getD_in (start zero) es k H.within)

  held_start : (weighed_at es 0).trail ≡ [] → (weighed_at es 0).term ≡ j.left
  held_start e =
      let some_term : 0 < length es = omega (arith, H.within) in
      let path : Path (Searchable semiring j.limits) j.left (weighed_at es 0).trail (weighed_at es 0).term =
      state.trail (weighed_at es 0) (getD_in (start zero) es 0 some_term) in
      path_end (subst (λ xs. Path (Searchable semiring j.limits) j.left xs (weighed_at es 0).term) e path) end

  -- so its copy is there, and is walked
  module _ {path out : List ℕ} {r : Option ℕ} (C : CopiesPath ws k path out r) (room : length path ≡ 99) where
    copied : ((weighed_at es 0).trail ≡ []) × ((n : ℕ) × (r ≡ Some n) × Walk out (take n path) (weighed_at es 0).term (weighed_at es k).trail)
    copied = C.exact es H.slots H.within (omega (arith, held_short))

    pub path_there : r ≡ None → ⊥
    path_there e = let (first, (n, is, walk)) = copied in none-some n (sym e ∙ is)

    pub path_walk : {n : ℕ} → r ≡ Some n → Walk out (take n path) j.left (weighed_at es k).trail
    path_walk {n} e =
        let (first, (m, is, walk)) = copied in
        let all : m ≡ n = same_Some m n (sym is ∙ e) in
        rw (← held_start first, ← all) walk
