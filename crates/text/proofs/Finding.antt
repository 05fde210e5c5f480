-- FIND's answer to accepted jobs, from the blocks.
use Prim.Native.Nat.{ℕ, ◌<◌}
use native.Mathlib.Omega.{arith}
use mathlib.Core.Path.{◌≡◌, refl, sym, ap, subst, ◌∙◌}
use mathlib.Core.Bool.{Bool, true, false}
use mathlib.Core.List.{List, [], ◌∷◌, append-nil, flat_map}
use lib.ListN.{length, get_or}
use Rattle.terms.specs.Lists.{◌∈◌, in_map}
use Rattle.terms.specs.Term.{Term, zero}
use Rattle.terms.specs.Held.{IsRun}
use Rattle.terms.specs.Theory.Members.{getD_in}
use Rattle.terms.specs.Theory.Order.{irreflexive}
use Rattle.terms.specs.Theory.TermOrder.{term_order}
use Rattle.search.specs.Law.{semiring}
use Rattle.search.specs.Line as line
use Rattle.search.specs.Cut as search-cut
use Rattle.search.specs.Runs.{term_at, HeldRuns}
use Rattle.search.specs.Searched.{limits_of, slots_of, Answers, Searches, Cuts}
use Rattle.search.specs.declared.replies.Reply.{Reply}
use Rattle.search.specs.declared.replies.Reply.TheVariants.{Unnoted}
use Rattle.search.specs.declared.bounded_search.Limits.{Limits}
use Rattle.search.specs.declared.bounded_search.Ended.{Ended}
use Rattle.text.specs.Answer.{refused, accepted, ◌>>=◌, fitting}
use Rattle.text.specs.Job.{Accepted}
use Rattle.text.specs.FindJob.{read_find, job_of, jobs_of}
use Rattle.text.specs.Find.{block, together, find}
use Rattle.std.specs.Prelude.{Result, Err}
use Rattle.text.specs.Entry.{Gives}
use Rattle.text.specs.declared.refusal.Refusal.{Refusal}
use Rattle.text.specs.declared.refusal.Refusal.TheVariants.{OutOfSlots}
use Rattle.text.specs.Answering.{AllKnown, runs_out}
use Rattle.text.specs.Theory.FindJobs.{AllAccepted, jobs_accepted}
use Rattle.text.proofs.Blocks.{Alone, alone_first}

-- ---- the jobs of an accepted text

module _ (bs : List ℕ) (s : Term) (ts : List Term) (m : line.Limits) (read : read_find bs ≡ accepted (jobs_of s ts m)) where
  each_accepted : AllAccepted (jobs_of s ts m)
  each_accepted = rw read at (jobs_accepted bs)

  accepted_at : (t : Term) → t ∈ ts → Accepted (job_of s m t)
  accepted_at t i = each_accepted (job_of s m t) (in_map (job_of s m) i)

  -- what the search leaves of them
  pub all_known : {left rights ws ws' : List ℕ} {replies replies' : List Reply} {limits : Limits} {ended : Ended} {cut : Bool}
      → Searches semiring left rights limits ws ws' replies replies' ended → Cuts ws' ended limits cut → length ws' ≡ length ws → 0 < length ts
      → IsRun left s → HeldRuns rights ts → length ts ≡ length replies → limits_of limits ≡ m
      → AllKnown left rights replies' ended cut ws' (slots_of (length ws)) s ts m
  all_known {ws = ws} {ws'} {replies' = replies'} {limits = limits} {ended = ended} {cut} found cuts long some_rights run runs count is =
      let first = accepted_at (term_at ts 0) (getD_in zero ts 0 some_rights) in
      let answers : Answers semiring (limits_of limits) (slots_of (length ws)) s ts ws' replies' ended =
      found.exact s ts run first.sides.small_left runs count (λ i. irreflexive term_order (accepted_at s i).before refl)
      (omega (arith, ap (λ k. k.size) is, first.limits.size)) in
      record {
        known = each_accepted;
        left_run = run;
        runs = runs;
        count = count ∙ sym found.kept;
        answers = subst (λ k. Answers semiring k (slots_of (length ws)) s ts ws' replies' ended) is answers;
        cut_is = λ over.
            subst (λ k. cut ≡ search-cut.cut semiring k s) is
            (cuts.exact semiring (slots_of (length ws)) s ts (rw long (omega arith)) answers.ends over);
      }

  -- ---- the answer

  module _ {left rights ws : List ℕ} {replies : List Reply} {ended : Ended} {cut : Bool} {slots : ℕ} (A : AllKnown left rights replies ended cut ws slots s ts m) where
    abbrev out_first : Bool
    out_first = runs_out (get_or replies 0 Unnoted) ended

    together_refused : (us : List Term) → length us ≡ 1 → Alone true slots (job_of s m (term_at us 0)) → together slots (jobs_of s us m) ≡ refused 7
    unfolding together
    together_refused [] one h = absurd (omega (arith, one))
    together_refused (t ∷ []) one h = h
    together_refused (t ∷ u ∷ us) one h = absurd (omega (arith, one))

    together_blocks : (us : List Term) → 0 < length us → (length us ≡ 1 → Alone false slots (job_of s m (term_at us 0)))
        → together slots (jobs_of s us m) ≡ accepted (flat_map (block slots) (jobs_of s us m))
    unfolding together flat_map
    together_blocks [] some_rights h = absurd (omega (arith, some_rights))
    together_blocks (t ∷ []) some_rights h = h refl ∙ ap accepted (sym (append-nil (block slots (job_of s m t))))
    together_blocks (t ∷ u ∷ us) some_rights h = refl

    module _ (out : List ℕ) where
      -- the only right side runs out
      pub find_out : length ts ≡ 1 → true ≡ out_first → Gives (find bs slots (length out)) out (Err OutOfSlots) out
      unfolding find ◌>>=◌
      find_out one e =
          let h : Alone true slots (job_of s m (term_at ts 0)) = subst (λ b. Alone b slots (job_of s m (term_at ts 0))) (sym e) (alone_first left rights replies ended cut ws A (omega arith)) in
          (rw (read, together_refused ts one h) refl, refl)

      -- otherwise the blocks are the answer, if there is room for them
      pub find_blocks : (r : Result ℕ Refusal) (out' : List ℕ) → 0 < length ts → (length ts ≡ 1 → false ≡ out_first)
          → Gives (fitting (length out) (flat_map (block slots) (jobs_of s ts m))) out r out' → Gives (find bs slots (length out)) out r out'
      unfolding find ◌>>=◌
      find_blocks r out' some_rights e call =
          let h : length ts ≡ 1 → Alone false slots (job_of s m (term_at ts 0)) =
          λ one. subst (λ b. Alone b slots (job_of s m (term_at ts 0))) (sym (e one)) (alone_first left rights replies ended cut ws A some_rights) in
          rw (read, together_blocks ts some_rights h) call
