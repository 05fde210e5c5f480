-- The answer to an accepted job, by how its search ended.
use Rattle.std.specs.Prelude.{ℕ, ◌≤◌, ◌≡◌, true, false, List, length, Option, Result, Err}
use Rattle.std.proofs.Common.{arith, ap, le-leb}
use Rattle.std.proofs.lemmas.Bool.{lt-leb}
use Rattle.std.proofs.Math.Path.{refl}
use Rattle.terms.specs.Term.{Term, size}
use Rattle.terms.specs.Held.{IsRun}
use Rattle.search.specs.Law.{semiring}
use Rattle.search.specs.Line as line
use Rattle.search.specs.Searched.{limits_of, slots_of}
use Rattle.search.specs.declared.bounded_search.Limits.{Limits}
use Rattle.text.specs.Answer.{◌>>=◌, require, fitting}
use Rattle.text.specs.Entry.{Gives}
use Rattle.text.specs.declared.refusal.Refusal.{Refusal}
use Rattle.text.specs.declared.refusal.Refusal.TheVariants.{OutOfSlots}
use Rattle.weigh.specs.Weigh.{weights_of, Weighed, weighed}
use Rattle.weigh.specs.Outcome.{Outcome, unproved, noted, outcome, weigh}
use Rattle.weigh.specs.Claims.{Heavy}
use Rattle.weigh.specs.Slots.{weighed_at}
use Rattle.weigh.specs.Job.{WeighJob, WeighAccepted, read_weigh}
use Rattle.weigh.specs.Text.{weigh_text, weigh_entry}
use Rattle.weigh.specs.Read.{Takes}
use Rattle.weigh.specs.Searched.{returning, PathAt, Why, Ends, Searches}
use Rattle.weigh.specs.Answering.{Sides, Held}
use Rattle.weigh.specs.Theory.Claims.{outcome_counts}
use Rattle.weigh.specs.Theory.Jobs.{accepted_heavy, weigh_accepted}
use Rattle.weigh.specs.declared.job.Read.{Read}
use Rattle.weigh.specs.declared.layers.Stop.{Stop}
use Rattle.weigh.specs.declared.layers.Stop.TheVariants.{Cut, Over, Full}
use Rattle.weigh.specs.declared.layers.Ended.{Ended}

-- what the search promises of a job whose cost, limits and weights are these
search_ends : {left right ws ws' ns : List ℕ} {cost : ℕ} {limits : Limits} {e : Ended} → Searches ns cost left right limits ws ws' e
    → (s t : Term) → IsRun left s → IsRun right t → size s ≤ 31 → (ns' : List ℕ) (cost' : ℕ) (m : line.Limits) → ns ≡ ns' → cost ≡ cost' → limits_of limits ≡ m
    → m.size ≤ 31 → m.nodes ≤ 4096 → Heavy (weights_of ns') → Ends e (slots_of (length ws)) ws' t (weighed semiring (weights_of ns') cost' m s t)
search_ends {limits = limits} S s t p q small ns' cost' m weights cost is small_size few heavy =
    rw (← weights, ← cost, ← is)
    (S.exact s t p q small (omega (arith, ap (λ l. l.size) is, small_size)) (omega (arith, ap (λ l. l.nodes) is, few)) (rw weights heavy))

module _ (bs : List ℕ) {read : Read} (T : Takes (read_weigh bs) read) where
  abbrev j : WeighJob
  j = T.job

  known : WeighAccepted j
  known = rw T.accepted at (weigh_accepted bs)

  -- the terms that the job's search notes
  abbrev final : List Weighed
  final = weighed semiring (weights_of j.weights) j.cost j.limits j.left j.right

  -- the answer where there are slots enough
  ended_so : (slots : ℕ) (out : List ℕ) (r : Result ℕ Refusal) (out' : List ℕ) (o : Outcome) → outcome j.right final ≡ o → length final ≤ slots
      → Gives (fitting (length out) (weigh_text semiring j o)) out r out' → Gives (weigh_entry bs slots (length out)) out r out'
  unfolding weigh_entry ◌>>=◌ require weigh
  ended_so slots out r out' o is h g =
      rw (T.accepted, le-leb (noted (outcome j.right final)) slots (omega (arith, (outcome_counts j.right final).0, h)), is) g

  module _ {left right : List ℕ} (l : left ≡ read.left) (f : right ≡ read.right) where
    pub job_sides : Sides left right j
    job_sides = record { known = known; left_run = rw l T.left_run; right_run = rw f T.right_run }

    module _ {ws ws' : List ℕ} {e : Ended} (S : Searches read.weights read.cost left right read.limits ws ws' e) where
      pub why : (q : Stop) → e.stop ≡ q → Why q e.opened e.noted (slots_of (length ws)) ws' j.right final
      why q is =
          rw is at
          (search_ends S j.left j.right job_sides.left_run job_sides.right_run known.sides.small_left j.weights j.cost j.limits T.weights T.cost T.limits
          known.limits.size known.limits.nodes (accepted_heavy j known))

      module _ (out : List ℕ) (r : Result ℕ Refusal) (out' : List ℕ) where
        -- the path that is returned leads to slot k
        pub ended_found : (atleast : Option ℕ) (k : ℕ) → PathAt atleast k e.opened e.noted (slots_of (length ws)) ws' j.right final
            → ((es : List Weighed) (n : ℕ) → Held ws' k atleast j es
            → Gives (fitting (length out) (weigh_text semiring j (returning atleast (weighed_at es k).trail e.opened n))) out r out')
            → Gives (weigh_entry bs (slots_of (length ws)) (length out)) out r out'
        ended_found atleast k (held, counted, few, within, came) answer =
            ended_so (slots_of (length ws)) out r out' (returning atleast (weighed_at final k).trail e.opened e.noted) came (omega (arith, counted, few))
            (answer final e.noted (record { slots = held; within = omega (arith, counted, within); searched = refl; ends = (e.opened, rw counted came) }))

        -- no path is returned, and a noted term was left unopened, or none was
        pub ended_cut : e.stop ≡ Cut → ((n : ℕ) → Gives (fitting (length out) (weigh_text semiring j (unproved e.opened n true))) out r out')
            → Gives (weigh_entry bs (slots_of (length ws)) (length out)) out r out'
        ended_cut is answer =
            let (counted, few, came) = why Cut is in
            ended_so (slots_of (length ws)) out r out' (unproved e.opened e.noted true) came (omega (arith, counted, few)) (answer e.noted)

        pub ended_over : e.stop ≡ Over → ((n : ℕ) → Gives (fitting (length out) (weigh_text semiring j (unproved e.opened n false))) out r out')
            → Gives (weigh_entry bs (slots_of (length ws)) (length out)) out r out'
        ended_over is answer =
            let (counted, few, came) = why Over is in
            ended_so (slots_of (length ws)) out r out' (unproved e.opened e.noted false) came (omega (arith, counted, few)) (answer e.noted)

      -- a term had no slot left
      pub ended_full : (out : List ℕ) → e.stop ≡ Full → Gives (weigh_entry bs (slots_of (length ws)) (length out)) out (Err OutOfSlots) out
      unfolding weigh_entry ◌>>=◌ require weigh
      ended_full out is =
          let many = why Full is in
          (rw (T.accepted, lt-leb (noted (outcome j.right final)) (slots_of (length ws)) (omega (arith, (outcome_counts j.right final).0, many))) refl, refl)
