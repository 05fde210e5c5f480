-- The blocks of FIND's answer, by what the one search left of each right side.
use Prim.Native.Nat.{ℕ, suc, ◌+◌, ◌≤◌, ◌<◌}
use native.Mathlib.Omega.{arith}
use native.Mathlib.Numerals.{add-one}
use mathlib.Core.Path.{◌≡◌, refl, sym, ap, subst, ◌∙◌}
use mathlib.Core.Bool.{Bool, true, false}
use mathlib.Core.List.{List, [], ◌∷◌, flat_map}
use lib.ListN.{length, take, get_or, length-map, get_or-map}
use Rattle.terms.specs.Lists.{in_map}
use Rattle.terms.specs.Term.{Term, zero}
use Rattle.terms.specs.Held.{IsRun}
use Rattle.terms.specs.Theory.Members.{getD_in}
use Rattle.terms.specs.Theory.Order.{irreflexive}
use Rattle.terms.specs.Theory.TermOrder.{term_order}
use Rattle.search.specs.Law.{semiring}
use Rattle.search.specs.Line as line
use Rattle.search.specs.Line.{Line}
use Rattle.search.specs.Search.{Noted, terms, proved, unproved, whole_line}
use Rattle.search.specs.Serve as serve
use Rattle.search.specs.Coded.{name_of}
use Rattle.search.specs.Runs.{origin_of, term_at, Originates, Shows}
use Rattle.search.specs.Slots.{noted_at, Comes}
use Rattle.search.specs.Replied.{Replied}
use Rattle.search.specs.Searched.{stop_of}
use Rattle.search.specs.Theory.Grows.{Knows}
use Rattle.search.specs.Theory.LookUp.{Meets}
use Rattle.search.specs.Theory.Serve.{Replies, served}
use Rattle.search.specs.Theory.Claims.{proved_short}
use Rattle.search.specs.declared.search.Law.{Law}
use Rattle.search.specs.declared.slots.Step.{Step}
use Rattle.search.specs.declared.slots.Origin.{Origin}
use Rattle.search.specs.declared.slots.Origin.TheVariants.{Start, From}
use Rattle.search.specs.declared.replies.Reply.{Reply}
use Rattle.search.specs.declared.replies.Reply.TheVariants.{Unnoted, Direct, Noted as NotedIn}
use Rattle.search.specs.declared.bounded_search.Stop.{Stop}
use Rattle.search.specs.declared.bounded_search.Stop.TheVariants.{All, Over, Full}
use Rattle.search.specs.declared.bounded_search.Ended.{Ended}
use Rattle.search.proofs.Noting.{counted, noted_term, noted_run}
use Rattle.search.proofs.Serving.{slot_meets}
use Rattle.text.specs.Answer.{refused, accepted, printed}
use Rattle.text.specs.FindJob.{job_of, jobs_of}
use Rattle.text.specs.Job.{Job}
use Rattle.text.specs.Find.{outcome_text, searched, alone, block}
use Rattle.text.specs.Writer.{Writes}
use Rattle.text.specs.declared.writer.Writer.{Writer}
use Rattle.text.specs.Answering.{Sides, Led, one_search, Known, Met, Unmet, AllKnown, runs_out}
use Rattle.text.specs.Theory.BlockServed as theory
use Rattle.text.specs.Theory.BlockServed.{block_served}
use Rattle.text.proofs.Writing.{put_none, put_each_more}
use Rattle.text.proofs.Starting.{first_noted}

-- a block is the answer to its job alone, printed
module _ (slots : ℕ) (j : Job) where
  block_answer : {t : List ℕ} → alone slots j ≡ accepted t → block slots j ≡ t
  unfolding block printed
  block_answer e = rw e

  block_alone : {t : List ℕ} → alone slots j ≡ accepted t → alone slots j ≡ accepted (block slots j)
  block_alone e = e ∙ ap accepted (sym (block_answer e))

  block_refused : alone slots j ≡ refused 7 → block slots j ≡ printed (refused 7)
  unfolding block
  block_refused e = rw e

differ : {left right : List ℕ} {j : Job} → Sides left right j → j.left ≡ j.right → ⊥
differ S = irreflexive term_order S.known.before

-- ---- a right side that is noted

module _ {left right ws : List ℕ} {k slots : ℕ} {j : Job} (S : Sides left right j) (M : Met ws k slots j) where
  abbrev noted : List Noted
  noted = (one_search slots j M.others).noted

  -- the lines that lead to it
  abbrev pub met_lines : List Line
  met_lines = (noted_at noted k).trail

  first : (noted_at noted 0).term ≡ j.left
  first = first_noted semiring j.limits slots j.left M.others (omega (arith, M.within))

  abbrev replies : Replies slots j.right (one_search slots j M.others) (searched j)
  replies = served semiring j.limits slots j.left M.others j.right M.among (differ S) M.indirect

  met_by : {n : Noted} {p i : ℕ} → Meets noted j.right n p i → alone slots j ≡ accepted (outcome_text semiring j (proved n.trail (suc p) (suc i)))
  met_by {n} {p} {i} meets = (block_served slots j M.others M.among (differ S)).met M.indirect n p i meets

  met_alone : alone slots j ≡ accepted (block slots j)
  met_alone =
      let (n, p, i, meets) = replies.comes (noted_at noted k, getD_in _ noted k M.within, M.is) in
      block_alone slots j (met_by meets)

  pub met_led : Led ws j.left k met_lines
  met_led = record { noted = noted; slots = M.held; start = first; within = M.within; trail = refl }

  module _ {o : Origin} (O : Originates ws k o) where
    origin : o ≡ origin_of ws k
    origin = O.exact (noted_at noted k).term (noted_run M.held k M.within)

    no_start : (q : Origin) → q ≡ Start → Comes q noted k (noted_at noted k) → ⊥
    no_start q e c =
        let z : Comes Start noted k (noted_at noted k) = rw e at c in
        differ S (sym first ∙ ap (λ i. (noted_at noted i).term) (sym z.0) ∙ M.is)

    pub met_not_first : o ≡ Start → ⊥
    met_not_first e = no_start (origin_of ws k) (sym origin ∙ e) (M.held.origin k M.within)

    module _ (s : Step) (e : o ≡ From s) where
      meets : Meets noted j.right (noted_at noted k) s.parent k
      meets =
          subst (λ t. Meets noted t (noted_at noted k) s.parent k) M.is (slot_meets ws noted k s M.held M.within (sym origin ∙ e))

      pub met_short : length met_lines ≤ 16
      met_short =
          omega (
            arith,
            proved_short semiring j.limits j.left j.right (differ S) met_lines (suc s.parent) (suc k)
                (replies.met (noted_at noted k) s.parent k meets),
            S.known.limits.steps,
          )

      pub met_block : outcome_text semiring j (proved met_lines (s.parent + 1) (suc k)) ≡ block slots j
      met_block = rw (add-one s.parent) (sym (block_answer slots j (met_by meets)))

-- ---- one that is not noted

module _ {left right : List ℕ} {ended : Ended} {cut : Bool} {slots : ℕ} {j : Job} (S : Sides left right j) (U : Unmet ended cut slots j) where
  abbrev whole : serve.Served
  whole = one_search slots j U.others

  unknown : Knows whole.noted j.right → ⊥
  unknown (z, m, e) = U.missing (rw (← e) (in_map (λ n. n.term) m))

  unmet_alone : theory.UnmetBlock (stop_of ended.stop) slots j whole
  unmet_alone =
      subst (λ s. theory.UnmetBlock s slots j whole) (sym U.ends.stop)
      ((block_served slots j U.others U.among (differ S)).unmet U.indirect unknown)

  module _ {stop : Stop} (is : ended.stop ≡ stop) where
    by_stop : theory.UnmetBlock (stop_of stop) slots j whole
    by_stop = rw is at unmet_alone

  pub unmet_some : ended.stop ≡ All → ⊥
  unmet_some e = by_stop e

  pub unmet_full : ended.stop ≡ Full → printed (refused 7) ≡ block slots j
  unmet_full e = sym (block_refused slots j (by_stop e))

  pub unmet_over : ended.stop ≡ Over → outcome_text semiring j (unproved ended.opened (length whole.noted)) ≡ block slots j
  unmet_over e = rw U.ends.opened (sym (block_answer slots j (by_stop e)))

-- ---- by the number of a right side

module _ {left right ws : List ℕ} {reply : Reply} {slots : ℕ} {ended : Ended} {cut : Bool} {j : Job} (K : Known left right reply ended cut ws slots j) where
  abbrev found : List Noted
  found = (one_search slots j K.others).noted

  direct_alone : (w : Law) → reply ≡ Direct w
      → alone slots j ≡ accepted (outcome_text semiring j (proved (whole_line (name_of w) j.right ∷ []) 0 0))
  direct_alone w e =
      let r : Replied semiring j.left j.right (terms found) (Direct w) = rw e at K.replied in
      (block_served slots j K.others K.among (differ K.sides)).matched (name_of w) r

  pub known_direct : (w : Law) → reply ≡ Direct w → outcome_text semiring j (proved (whole_line (name_of w) j.right ∷ []) 0 0) ≡ block slots j
  known_direct w e = sym (block_answer slots j (direct_alone w e))

  pub known_met : (k : ℕ) → reply ≡ NotedIn k → Met ws k slots j
  known_met k e =
      let r : Replied semiring j.left j.right (terms found) (NotedIn k) = rw e at K.replied in
      record {
        others = K.others;
        among = K.among;
        held = K.ends.slots;
        indirect = r.0;
        within = omega (arith, r.1, counted found);
        is = sym (noted_term found k) ∙ r.2;
      }

  pub known_unmet : reply ≡ Unnoted → Unmet ended cut slots j
  known_unmet e =
      let r : Replied semiring j.left j.right (terms found) Unnoted = rw e at K.replied in
      record { others = K.others; among = K.among; ws = ws; ends = K.ends; indirect = r.0; missing = r.1; cut_is = K.cut_is }

-- what the job alone is answered, by whether it runs out
abbrev pub Alone : Bool → ℕ → Job → Type 0
Alone true slots j = alone slots j ≡ refused 7
Alone false slots j = alone slots j ≡ accepted (block slots j)

known_alone : {left right ws : List ℕ} (reply : Reply) {slots : ℕ} {ended : Ended} {cut : Bool} {j : Job} → Known left right reply ended cut ws slots j
    → Alone (runs_out reply ended) slots j
known_alone reply {slots = slots} {ended} {j} K = go reply refl
  where
    by_stop : (v : serve.Served) (t : Stop) → theory.UnmetBlock (stop_of t) slots j v → Alone (elim t [ All ↦ true | Over ↦ false | Full ↦ true ]) slots j
    by_stop v All h = absurd h
    by_stop v Over h = block_alone slots j h
    by_stop v Full h = h

    go : (r : Reply) → reply ≡ r → Alone (runs_out r ended) slots j
    go Unnoted e = by_stop _ ended.stop (unmet_alone K.sides (known_unmet K e))
    go (Direct w) e = block_alone slots j (direct_alone K w e)
    go (NotedIn k) e = met_alone K.sides (known_met K k e)

-- ---- all right sides, one after the other

-- what putting the block of a right side promises
abbrev PutsBlock : (left right : List ℕ) (reply : Reply) (ended : Ended) (cut : Bool) (ws : List ℕ) (o o₁ : Writer) → Type 0
PutsBlock left right reply ended cut ws o o₁ =
    (j : Job) (slots : ℕ) → Known left right reply ended cut ws slots j → Writes (block slots j) o o₁

-- the blocks of the first i right sides are put
abbrev pub PutsBlocks : (left rights : List ℕ) (replies : List Reply) (ended : Ended) (cut : Bool) (ws : List ℕ) (i : ℕ) (o o₁ : Writer) → Type 0
PutsBlocks left rights replies ended cut ws i o o₁ =
    (s : Term) (ts : List Term) (m : line.Limits) (slots : ℕ) → AllKnown left rights replies ended cut ws slots s ts m
    → Writes (flat_map (block slots) (take i (jobs_of s ts m))) o o₁

module _ (left rights : List ℕ) (replies : List Reply) (ended : Ended) (cut : Bool) (ws : List ℕ) where
  pub blocks_start : (o : Writer) → PutsBlocks left rights replies ended cut ws 0 o o
  unfolding flat_map
  blocks_start o s ts m slots A = put_none o

  module _ {s : Term} {ts : List Term} {m : line.Limits} {slots : ℕ} (A : AllKnown left rights replies ended cut ws slots s ts m) where
    count : length (jobs_of s ts m) ≡ length replies
    count = length-map ts (job_of s m) ∙ A.count

    known_at : (i : ℕ) → i < length replies → {xs : List ℕ} → IsRun xs (term_at ts i)
        → Known left xs (get_or replies i Unnoted) ended cut ws slots (job_of s m (term_at ts i))
    known_at i h r =
        let k : i < length ts = omega (arith, A.count) in
        let listed = getD_in zero ts i k in
        record {
          sides = record {
            known = A.known (job_of s m (term_at ts i)) (in_map (job_of s m) listed);
            left_run = A.left_run;
            right_run = r;
          };
          others = ts;
          among = listed;
          ends = A.answers.ends;
          replied = A.answers.replied i k;
          cut_is = A.cut_is;
        }

    -- the first right side's job alone
    pub alone_first : 0 < length ts → Alone (runs_out (get_or replies 0 Unnoted) ended) slots (job_of s m (term_at ts 0))
    alone_first h =
        known_alone (get_or replies 0 Unnoted) (known_at 0 (omega (arith, A.count)) (record { fine = (A.runs.spelled 0 h).held.fine; whole = refl }))

  pub blocks_more : {xs : List ℕ} {o o₁ o₂ : Writer} (i : ℕ) → i < length replies → Shows rights i xs
      → PutsBlocks left rights replies ended cut ws i o o₁ → PutsBlock left xs (get_or replies i Unnoted) ended cut ws o₁ o₂
      → PutsBlocks left rights replies ended cut ws (i + 1) o o₂
  blocks_more {o₁ = o₁} {o₂ = o₂} i h R P Q s ts m slots A =
      put_each_more (block slots) (job_of s m zero) (jobs_of s ts m) i (omega (arith, count A)) (P s ts m slots A)
      (subst (λ j. Writes (block slots j) o₁ o₂) (sym (get_or-map (job_of s m) ts i zero))
      (Q (job_of s m (term_at ts i)) slots (known_at A i h (R.exact (term_at ts i) (A.runs.spelled i (omega (arith, A.count)))))))
