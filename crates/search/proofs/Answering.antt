-- The whole search: every right side matches directly, or there is no slot for left, or left is noted and one search serves the others.
use Prim.Native.Nat.{ℕ, ◌≤◌, ◌<◌}
use native.Mathlib.Omega.{arith}
use mathlib.Core.Path.{◌≡◌, refl, sym, ◌∙◌}
use mathlib.Core.Option.{none}
use mathlib.Core.List.{List, [], ◌∷◌}
use borrow.Author.Tests.{lt-ltb, le-ltb}
use lib.ListN.{length}
use Rattle.terms.specs.Lists.{not-in-nil}
use Rattle.terms.specs.Term.{Term, size}
use Rattle.terms.specs.Held.{IsRun}
use Rattle.terms.specs.Theory.Held.{size_of}
use Rattle.search.specs.Law as law
use Rattle.search.specs.Line as line
use Rattle.search.specs.Search.{terms, direct}
use Rattle.search.specs.Serve as serve
use Rattle.search.specs.Serve.{Served, stopped, waited}
use Rattle.search.specs.Runs.{term_at, HeldRuns}
use Rattle.search.specs.Slots.{Slots, Starts}
use Rattle.search.specs.Replied.{reply_at, waiting, Directly, Noticed, Replied, Matched}
use Rattle.search.specs.Searched.{limits_of, slots_of, Ends, Concludes, Explores, begins, Begins, Answers, Searches}
use Rattle.search.specs.declared.replies.Reply.{Reply}
use Rattle.search.specs.declared.replies.Reply.TheVariants.{Unnoted, Direct, Noted}
use Rattle.search.specs.declared.bounded_search.Limits.{Limits}
use Rattle.search.specs.declared.bounded_search.Stop.TheVariants.{All, Full}
use Rattle.search.specs.declared.bounded_search.Ended.{Ended}
use Rattle.search.proofs.Indexing.{no_runs}
use Rattle.search.proofs.Replying.{waiting_waited}

no_slots : (ws : List ℕ) → Slots ws []
no_slots ws = record { runs = no_runs ws; origin = λ k h. absurd (omega arith); distance = λ k h. absurd (omega arith) }

-- left noted

module _ {laws : List law.Law} {left rights : List ℕ} {before : List Reply} {n : ℕ} {m : Limits} {ws : List ℕ} where
  pub begins_none : {slots : ℕ} → slots ≡ slots_of (length ws) → slots ≡ 0
      → Begins laws left rights n m ws ws before before (record { stop = Full; opened = 0; noted = 0 })
  begins_none c h =
      record {
        exact = λ s ts hs p R l e f k.
            rw (le-ltb 0 (slots_of (length ws)) (omega arith), begins)
            (record { stop = refl; opened = refl; noted = refl; slots = no_slots ws }, record { kept = refl; still = λ k h. refl; noticed = λ k h z. rw z not-in-nil });
      }

  pub begins_long : 31 < length left → Begins laws left rights n m ws ws before before (record { stop = Full; opened = 0; noted = 0 })
  begins_long h = record { exact = λ s ts hs p R l e f k. absurd (omega (arith, size_of hs)) }

  module _ {slots : ℕ} {ws₁ ws' : List ℕ} {after : List Reply} {r : Ended} (c : slots ≡ slots_of (length ws)) (h : slots ≡ 0 → ⊥) (S : Starts ws₁ left) where
    -- left and the limit are small enough for the room that there is
    begun : {most : ℕ} → ((s : Term) → IsRun left s → size s ≤ 31 → m.size ≤ 31 → (size s ≤ most) × (m.size ≤ most))
        → Explores laws rights n m slots most ws₁ ws' before after r → Begins laws left rights n m ws ws' before after r
    begun fits E =
        record {
          exact = λ s ts hs p R l e f k.
              let (i, j) = fits s hs p k in
              rw (← c) (rw (lt-ltb 0 slots (omega (arith, h)), begins) (E.exact s ts (S.slots s hs) R l e f i j));
        }

    pub begins_small : length left ≤ 7 → m.size ≤ 7 → Explores laws rights n m slots 7 ws₁ ws' before after r
        → Begins laws left rights n m ws ws' before after r
    begins_small i j = begun (λ s hs p k. (omega (arith, size_of hs), j))

    pub begins_large : Explores laws rights n m slots 31 ws₁ ws' before after r → Begins laws left rights n m ws ws' before after r
    begins_large = begun (λ s hs p k. (p, k))

-- what became of a right side, from what was told before the search and after it

module _ (laws : List law.Law) (s t : Term) (us : List Term) where
  noticed : direct laws s t ≡ none → (r : Reply) → Noticed us t r → Replied laws s t us r
  noticed e Unnoted h = (e, h)
  noticed e (Direct w) h = absurd h
  noticed e (Noted k) h = (e, h.0, h.1)

  replied_by : (f g : Reply) → Directly (direct laws s t) f → (f ≡ Unnoted → Noticed us t g) → ((f ≡ Unnoted → ⊥) → g ≡ f) → Replied laws s t us g
  replied_by Unnoted g d i j = noticed d g (i refl)
  replied_by (Direct w) g d i j = rw (j (λ e. cc)) d
  replied_by (Noted k) g d i j = absurd d

-- the search as it is served

module _ (laws : List law.Law) (m : line.Limits) (slots : ℕ) (s : Term) (ts : List Term) where
  serve_none : waited laws s ts ≡ [] → serve.serve laws m slots s ts ≡ stopped serve.all 0 []
  unfolding serve.serve
  serve_none e = rw (e, serve.serve)

  serve_begins : (xs : List Term) → waited laws s ts ≡ xs → 0 < length xs → serve.serve laws m slots s ts ≡ begins laws m slots s xs
  unfolding serve.serve
  serve_begins [] e h = absurd (omega arith)
  serve_begins (x ∷ xs) e h = rw (e, serve.serve)

  answered : {x : Served} {ws : List ℕ} {fs : List Reply} {r : Ended} → serve.serve laws m slots s ts ≡ x → Ends r ws x
      → ((k : ℕ) → k < length ts → Replied laws s (term_at ts k) (terms x.noted) (reply_at fs k)) → Answers laws m slots s ts ws fs r
  answered e E R = record { ends = rw e E; replied = λ k h. rw e (R k h) }

module _ {laws : List law.Law} {left rights : List ℕ} {before fs : List Reply} {n : ℕ} (M : Matched laws left rights before fs n) where
  is_waited : (s : Term) (ts : List Term) → IsRun left s → size s ≤ 31 → HeldRuns rights ts → length ts ≡ length before → waiting ts fs ≡ waited laws s ts
  is_waited s ts hs p R c = waiting_waited laws s ts fs (c ∙ sym M.kept) (M.directly s ts hs p R c)

  module _ {m : Limits} {ws : List ℕ} where
    -- none waits
    pub searches_direct : n ≡ 0 → Searches laws left rights m ws ws before fs (record { stop = All; opened = 0; noted = 0 })
    searches_direct e =
        record {
          kept = M.kept;
          exact = λ s ts hs p R c f k.
              answered laws (limits_of m) (slots_of (length ws)) s ts
              (serve_none laws (limits_of m) (slots_of (length ws)) s ts (sym (is_waited s ts hs p R c) ∙ empty (waiting ts fs) (sym (M.others ts c) ∙ e)))
              (record { stop = refl; opened = refl; noted = refl; slots = no_slots ws })
              (λ k h.
              replied_by laws s (term_at ts k) [] (reply_at fs k) (reply_at fs k) (M.directly s ts hs p R c k h) (λ z. rw z not-in-nil) (λ z. refl));
        }
      where
        empty : (xs : List Term) → length xs ≡ 0 → xs ≡ []
        empty [] e = refl
        empty (x ∷ xs) e = absurd (omega arith)

    pub searches_begun : (n ≡ 0 → ⊥) → {ws' : List ℕ} {after : List Reply} {r : Ended} → Begins laws left rights n m ws ws' fs after r → length after ≡ length fs
        → Searches laws left rights m ws ws' before after r
    searches_begun z {ws'} {after} {r} B same-long =
        record {
          kept = same-long ∙ M.kept;
          exact = λ s ts hs p R c f k.
              let x = begins laws (limits_of m) (slots_of (length ws)) s (waiting ts fs) in
              let (e, S) : Concludes r ws' ts fs after x = B.exact s ts hs p R (c ∙ sym M.kept) (M.others ts c) f k in
              answered laws (limits_of m) (slots_of (length ws)) s ts
              (serve_begins laws (limits_of m) (slots_of (length ws)) s ts (waiting ts fs) (sym (is_waited s ts hs p R c)) (omega (arith, M.others ts c, z)))
              e
              (λ k h.
              replied_by laws s (term_at ts k) (terms x.noted) (reply_at fs k) (reply_at after k)
              (M.directly s ts hs p R c k h)
              (S.noticed k h)
              (S.still k));
        }
