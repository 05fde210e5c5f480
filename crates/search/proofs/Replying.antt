-- What became of the right sides: a law for each branch of the loops over them.
use Prim.Native.Nat.{ℕ, suc, ◌+◌, ◌≤◌, ◌<◌}
use native.Mathlib.Omega.{arith}
use native.Mathlib.Numerals.{add-one}
use mathlib.Core.Path.{◌≡◌, refl, sym, ap, ◌∙◌}
use mathlib.Core.Logic.{◌⊎◌, inl, inr, ⊎_elim}
use mathlib.Core.Bool.{Bool, true, false, cond}
use mathlib.Core.Option.{Option, none, some}
use mathlib.Core.List.{List, [], ◌∷◌}
use borrow.Author.Tests.{eqb-true, eqb-false}
use lib.Dec.{eqb}
use lib.ListN.{length, drop, set, length-set, drop_of_length-le}
use lib.Seq.{drop-cons, get_or-set_same, get_or-set_other}
use Rattle.terms.specs.Term.{Term, zero, size, same}
use Rattle.terms.specs.Held.{IsRun}
use Rattle.terms.specs.Theory.Order.{below?}
use Rattle.terms.specs.Theory.TermOrder.{same_reflects, told_apart}
use Rattle.search.specs.Law as law
use Rattle.search.specs.Law.{Name, semiring}
use Rattle.search.specs.Search.{direct}
use Rattle.search.specs.Serve.{times, waited}
use Rattle.search.specs.Coded.{name_of}
use Rattle.search.specs.Directly.{direct_name, Directs}
use Rattle.search.specs.Index.{hash}
use Rattle.search.specs.Runs.{term_at, HeldRuns, Shows, Compares}
use Rattle.search.specs.Replied.{reply_at, waiting, Directly, Matched, Strikes}
use Rattle.search.specs.declared.search.Law.{Law}
use Rattle.std.specs.Prelude.{Option as Maybe, Some, None}
use Rattle.search.specs.declared.replies.Reply.{Reply}
use Rattle.search.specs.declared.replies.Reply.TheVariants.{Unnoted, Direct, Noted}
use Rattle.search.proofs.Unknown.{told}
use Rattle.search.proofs.Serving.{times_here, times_there}

-- whether a right side waits
pub waits_or : (f : Reply) → (f ≡ Unnoted) ⊎ (f ≡ Unnoted → ⊥)
waits_or Unnoted = inl refl
waits_or (Direct w) = inr (λ e. cc)
waits_or (Noted k) = inr (λ e. cc)

waiting_rest : (t : Term) (ts : List Term) (f : Reply) (fs : List Reply) → (f ≡ Unnoted → ⊥) → waiting (t ∷ ts) (f ∷ fs) ≡ waiting ts fs
unfolding waiting
waiting_rest t ts Unnoted fs n = absurd (n refl)
waiting_rest t ts (Direct w) fs n = refl
waiting_rest t ts (Noted k) fs n = refl

-- the right sides that wait, from the r-th on
module _ (ts : List Term) (fs : List Reply) (r : ℕ) (p : r < length ts) (q : r < length fs) where
  pub waits : reply_at fs r ≡ Unnoted → waiting (drop r ts) (drop r fs) ≡ term_at ts r ∷ waiting (drop (r + 1) ts) (drop (r + 1) fs)
  unfolding waiting
  waits e = rw (drop-cons ts r zero p, drop-cons fs r Unnoted q, e, waiting, add-one)

  pub waits_not : (reply_at fs r ≡ Unnoted → ⊥) → waiting (drop r ts) (drop r fs) ≡ waiting (drop (r + 1) ts) (drop (r + 1) fs)
  waits_not n =
      rw (drop-cons ts r zero p, drop-cons fs r Unnoted q, add-one)
      (waiting_rest (term_at ts r) (drop (suc r) ts) (reply_at fs r) (drop (suc r) fs) n)

pub none_wait : (ts : List Term) (fs : List Reply) (r : ℕ) → length ts ≤ r → waiting (drop r ts) (drop r fs) ≡ []
unfolding waiting
none_wait ts fs r h = rw (drop_of_length-le ts h)

-- which of them have one run

same_turned : (t u : Term) → same t u ≡ same u t
same_turned t u =
    told (same t u)
    (λ e. let q : t ≡ u = rw e at (same_reflects t u) in rw q)
    (λ e. let q : t ≡ u → ⊥ = rw e at (same_reflects t u) in e ∙ sym (told_apart u t (λ k. q (sym k))))

-- the first r are struck, n of them, and the others are as they were
pub record StruckUpTo (rights xs : List ℕ) (h k : ℕ) (before fs : List Reply) (r n : ℕ) : Type 0 where
  pub still : (i : ℕ) → (reply_at before i ≡ Unnoted → ⊥) → reply_at fs i ≡ reply_at before i
  pub rest : (i : ℕ) → r ≤ i → reply_at fs i ≡ reply_at before i
  pub counted : (ts : List Term) (t : Term) → HeldRuns rights ts → length ts ≡ length before → IsRun xs t → h ≡ hash xs 0
      → times t (waiting ts before) ≡ n + times t (waiting (drop r ts) (drop r before))
  pub struck : (ts : List Term) (t : Term) → HeldRuns rights ts → length ts ≡ length before → IsRun xs t → h ≡ hash xs 0
      → (i : ℕ) → i < r → reply_at before i ≡ Unnoted → reply_at fs i ≡ cond (same (term_at ts i) t) (Noted k) Unnoted

module _ {rights xs : List ℕ} {h k : ℕ} {before fs : List Reply} {r n : ℕ} (S : StruckUpTo rights xs h k before fs r n) (same-long : length fs ≡ length before) where
  pub struck_all : length fs ≤ r → Strikes rights xs h k before fs n
  unfolding times
  struck_all p =
      record {
        exact = λ ts t R c l e.
            let z : times t (waiting (drop r ts) (drop r before)) ≡ 0 = rw (none_wait ts before r (omega arith)) in
            record {
              kept = same-long;
              counted = omega (arith, S.counted ts t R c l e, z);
              still = S.still;
              told = λ i q w. S.struck ts t R c l e i (omega arith) w;
            };
      }

  module _ (p : r < length fs) where
    -- only the r-th may be told anew
    struck_next : (gs : List Reply) (m : ℕ) → ((i : ℕ) → (i ≡ r → ⊥) → reply_at gs i ≡ reply_at fs i)
        → ((reply_at before r ≡ Unnoted → ⊥) → reply_at gs r ≡ reply_at before r)
        → ((ts : List Term) (t : Term) → HeldRuns rights ts → length ts ≡ length before → IsRun xs t → h ≡ hash xs 0
        → (n + times t (waiting (drop r ts) (drop r before)) ≡ m + times t (waiting (drop (r + 1) ts) (drop (r + 1) before)))
        × (reply_at before r ≡ Unnoted → reply_at gs r ≡ cond (same (term_at ts r) t) (Noted k) Unnoted))
        → StruckUpTo rights xs h k before gs (r + 1) m
    struck_next gs m f g w =
        record {
          still = λ i q. by i (λ e. (rw e at g) q) (λ e. f i e ∙ S.still i q);
          rest = λ i q. f i (λ e. omega arith) ∙ S.rest i (omega arith);
          counted = λ ts t R c l e. S.counted ts t R c l e ∙ (w ts t R c l e).0;
          struck = λ ts t R c l e i q z.
              by i
              (λ j. (rw j at (w ts t R c l e).1) z)
              (λ j. f i j ∙ S.struck ts t R c l e i (omega (arith, q, j)) z);
        }
      where
        by : {P : Type 0} (i : ℕ) → (r ≡ i → P) → ((i ≡ r → ⊥) → P) → P
        by i f g = told (eqb r i) (λ e. f (eqb-true r i e)) (λ e. g (λ q. eqb-false r i e (sym q)))

    -- the r-th does not wait
    pub struck_past : (reply_at fs r ≡ Unnoted → ⊥) → StruckUpTo rights xs h k before fs (r + 1) n
    struck_past z =
        let w : reply_at before r ≡ Unnoted → ⊥ = λ e. z (S.rest r (omega arith) ∙ e) in
        struck_next fs n (λ i q. refl) (λ q. S.rest r (omega arith))
        (λ ts t R c l e. (ap (λ l. n + times t l) (waits_not ts before r (omega arith) (omega arith) w), λ q. absurd (w q)))

    module _ {b : Bool} (D : Compares rights r xs h b) where
      compared_with : (ts : List Term) (t : Term) → HeldRuns rights ts → length ts ≡ length before → IsRun xs t → h ≡ hash xs 0 → same (term_at ts r) t ≡ b
      compared_with ts t R c l e = same_turned (term_at ts r) t ∙ sym (D.exact ts t R (omega arith) l e)

      -- it waits, and has another run
      pub struck_other : b ≡ false → StruckUpTo rights xs h k before fs (r + 1) n
      struck_other g =
          ⊎_elim
          (λ z.
          struck_next fs n (λ i q. refl) (λ q. S.rest r (omega arith))
          (λ ts t R c l e.
          let d = compared_with ts t R c l e ∙ g in
          let w = sym (S.rest r (omega arith)) ∙ z in (
            ap (λ l. n + times t l) (waits ts before r (omega arith) (omega arith) w)
                ∙ ap (λ m. n + m) (times_there t (term_at ts r) (waiting (drop (r + 1) ts) (drop (r + 1) before)) d),
            λ q. rw d z,
          )))
          struck_past
          (waits_or (reply_at fs r))

      -- it waits, and has this run
      pub struck_more : b ≡ true → reply_at fs r ≡ Unnoted → StruckUpTo rights xs h k before (set fs r (Noted k)) (r + 1) (n + 1)
      struck_more g z =
          let w = sym (S.rest r (omega arith)) ∙ z in
          struck_next (set fs r (Noted k)) (n + 1) (λ i q. get_or-set_other fs r i (Noted k) Unnoted q) (λ q. absurd (q w))
          (λ ts t R c l e.
          let d = compared_with ts t R c l e ∙ g in
          let u = times_here t (term_at ts r) (waiting (drop (r + 1) ts) (drop (r + 1) before)) d in (
            ap (λ l. n + times t l) (waits ts before r (omega arith) (omega arith) w) ∙ omega (arith, u),
            λ q. rw d (get_or-set_same fs r (Noted k) Unnoted p),
          ))

-- which of them match directly

-- the first r are told, and n of them wait, whatever is told of the others
pub record MatchedUpTo (left rights : List ℕ) (fs : List Reply) (r n : ℕ) : Type 0 where
  pub directly : (s : Term) (ts : List Term) → IsRun left s → size s ≤ 31 → HeldRuns rights ts → length ts ≡ length fs
      → (k : ℕ) → k < r → Directly (direct semiring s (term_at ts k)) (reply_at fs k)
  pub others : (ts : List Term) (gs : List Reply) → length ts ≡ length gs → length gs ≡ length fs → ((k : ℕ) → k < r → reply_at gs k ≡ reply_at fs k)
      → length (waiting ts gs) ≡ n + length (waiting (drop r ts) (drop r gs))

module _ {left rights : List ℕ} {fs : List Reply} {r n : ℕ} (M : MatchedUpTo left rights fs r n) where
  pub matched_all : {before : List Reply} → length fs ≤ r → length fs ≡ length before → Matched semiring left rights before fs n
  matched_all p e =
      record {
        kept = e;
        directly = λ s ts h z R c k q. M.directly s ts h z R (c ∙ sym e) k (omega arith);
        others = λ ts c.
            let z = ap length (none_wait ts fs r (omega arith)) in
            omega (arith, M.others ts fs (c ∙ sym e) refl (λ k q. refl), z);
      }

  module _ (p : r < length fs) {xs : List ℕ} (W : Shows rights r xs) {d : Maybe Law} (D : Directs left xs d) where
    directly_next : (f : Reply) → ((o : Option Name) → direct_name d ≡ o → Directly o f)
        → (s : Term) (ts : List Term) → IsRun left s → size s ≤ 31 → HeldRuns rights ts → length ts ≡ length (set fs r f)
        → (k : ℕ) → k < r + 1 → Directly (direct semiring s (term_at ts k)) (reply_at (set fs r f) k)
    directly_next f i s ts h z R c k q =
        let l = c ∙ length-set fs r f in
        ⊎_elim
        (λ b. rw (get_or-set_other fs r k f Unnoted (λ e. omega arith)) (M.directly s ts h z R l k b))
        (λ b.
        let e : k ≡ r = omega arith in
        let w = R.spelled r (omega arith) in
        rw (e, get_or-set_same fs r f Unnoted p) (i (direct semiring s (term_at ts r)) (D.exact s (term_at ts r) h (W.exact (term_at ts r) w) z w.small)))
        (below? k r)

    others_next : (f : Reply) (ts : List Term) (gs : List Reply) → length ts ≡ length gs → length gs ≡ length (set fs r f)
        → ((k : ℕ) → k < r + 1 → reply_at gs k ≡ reply_at (set fs r f) k)
        → (length (waiting ts gs) ≡ n + length (waiting (drop r ts) (drop r gs))) × (reply_at gs r ≡ f) × (r < length gs)
    others_next f ts gs c e g =
        let l = e ∙ length-set fs r f in (
          M.others ts gs c l (λ k q. g k (omega arith) ∙ get_or-set_other fs r k f Unnoted (λ z. omega arith)),
          g r (omega arith) ∙ get_or-set_same fs r f Unnoted p,
          omega arith,
        )

    pub matched_by : {w : Law} → d ≡ Some w → MatchedUpTo left rights (set fs r (Direct w)) (r + 1) n
    matched_by {w} e =
        record {
          directly = directly_next (Direct w) (λ o i. sym i ∙ ap direct_name e);
          others = λ ts gs c l g.
              let (i, j, q) = others_next (Direct w) ts gs c l g in
              i ∙ ap (λ l. n + length l) (waits_not ts gs r (omega arith) q (λ z. let z : Direct w ≡ Unnoted = sym j ∙ z in cc));
        }

    pub matched_none : d ≡ None → MatchedUpTo left rights (set fs r Unnoted) (r + 1) (n + 1)
    matched_none e =
        record {
          directly = directly_next Unnoted (λ o i. sym i ∙ ap direct_name e);
          others = λ ts gs c l g.
              let (i, j, q) = others_next Unnoted ts gs c l g in
              i ∙ ap (λ l. n + length l) (waits ts gs r (omega arith) q j) ∙ omega arith;
        }

-- which of them the search waits for

pub waiting_waited : (ws : List law.Law) (s : Term) (ts : List Term) (fs : List Reply) → length ts ≡ length fs
    → ((k : ℕ) → k < length ts → Directly (direct ws s (term_at ts k)) (reply_at fs k)) → waiting ts fs ≡ waited ws s ts
unfolding waiting waited
waiting_waited ws s [] fs c d = refl
waiting_waited ws s (t ∷ ts) [] c d = absurd (omega arith)
waiting_waited ws s (t ∷ ts) (Unnoted ∷ fs) c d =
    let n : direct ws s t ≡ none = d 0 (omega arith) in
    rw (n, waiting, waited) (ap (λ l. t ∷ l) (waiting_waited ws s ts fs (omega arith) (λ k h. d (suc k) (omega arith))))
waiting_waited ws s (t ∷ ts) (Direct w ∷ fs) c d =
    let n : direct ws s t ≡ some (name_of w) = d 0 (omega arith) in
    rw (n, waiting, waited) (waiting_waited ws s ts fs (omega arith) (λ k h. d (suc k) (omega arith)))
waiting_waited ws s (t ∷ ts) (Noted k ∷ fs) c d = absurd (d 0 (omega arith))
