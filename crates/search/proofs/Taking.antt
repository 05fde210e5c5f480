-- A noted term opened, and a result taken: there is no slot for it, or it is noted now, and the right sides equal to it are struck.
use Prim.Native.Nat.{ℕ, ◌+◌, ◌≤◌, ◌<◌}
use native.Mathlib.Omega.{arith}
use mathlib.Core.Path.{◌≡◌, refl, sym, ap, subst₂, ◌∙◌}
use mathlib.Core.List.{List, [], ◌∷◌, ◌++◌}
use lib.ListN.{length, length-append}
use Rattle.std.specs.Prelude.{Some, None}
use Rattle.terms.specs.Run.{run}
use Rattle.terms.specs.Held.{IsRun}
use Rattle.terms.specs.Theory.Held.{size_of}
use Rattle.search.specs.Law.{semiring}
use Rattle.search.specs.Line.{Line}
use Rattle.search.specs.Search.{Noted, terms, entry}
use Rattle.search.specs.Index.{hash, hash_of}
use Rattle.search.specs.Runs.{Originates, Shows, term_at}
use Rattle.search.specs.Slots.{Marks, noted_at, Slots, Notes}
use Rattle.search.specs.Ordered.{Result}
use Rattle.search.specs.Resulted.{Resulted}
use Rattle.search.specs.Replied.{Strikes}
use Rattle.search.specs.Searched.{limits_of, Opens, Takes}
use Rattle.search.specs.declared.slots.Step.{Step}
use Rattle.search.specs.declared.slots.Origin.{Origin}
use Rattle.search.specs.declared.slots.Origin.TheVariants.{Start, From}
use Rattle.search.specs.declared.bounded_search.Limits.{Limits}
use Rattle.search.specs.declared.replies.Reply.{Reply}
use Rattle.search.proofs.Noting.{counted, noted_term, noted_last}

pub opens : (ws : List ℕ) (noted i : ℕ) (m : Limits) (xs : List ℕ) → Shows ws i xs → (n : ℕ) (res order : List ℕ) (r : ℕ) → Resulted ws noted xs i m.size m.depth n res order r
    → Opens semiring ws noted i m n res order r
opens ws noted i m xs W n res order r R =
    record { few = R.few; exact = λ ns t S c s p k. R.exact ns t (limits_of m) S c (W.exact t s) p k refl refl }

-- the last slot has the hash of its term's run
hash_last : (ws : List ℕ) (ns : List Noted) (n : Noted) → Slots ws (ns ++ (n ∷ [])) → hash_of ws (length ns) ≡ hash (run n.term) 0
hash_last ws ns n S =
    let more = ns ++ (n ∷ []) in
    let e : term_at (terms more) (length ns) ≡ n.term = noted_term more (length ns) ∙ ap (λ x. x.term) (noted_last ns n) in
    S.runs.index.hashed (length ns) (omega (arith, counted more, length-append ns (n ∷ []))) ∙ ap (λ t. hash (run t) 0) e

module _ (ws : List ℕ) (count slots : ℕ) (res : List ℕ) (k d : ℕ) (rights : List ℕ) (replies : List Reply) where
  pub takes_full : slots ≤ count → Takes ws count slots res k d rights replies None ws replies
  takes_full h = record { room = tt; exact = λ ns i x ts S c p R e T l. (omega arith, S, refl) }

  -- xs is the run in slot k of res
  module _ (xs : List ℕ) (W : Shows res k xs) where
    result_run : (ns : List Noted) (i : ℕ) (x : Line) → Result (noted_at ns i).term i res k x → IsRun xs x.result
    result_run ns i x R = W.exact x.result R.run

    -- no slot has so long a run
    pub takes_long : 31 < length xs → Takes ws count slots res k d rights replies None ws replies
    takes_long h = record { room = tt; exact = λ ns i x ts S c p R e T l. absurd (omega (arith, size_of (result_run ns i x R), R.run.small)) }

    module _ (o : Origin) (O : Originates res k o) where
      -- no result is the start
      pub takes_start : o ≡ Start → Takes ws count slots res k d rights replies None ws replies
      takes_start g =
          record {
            room = tt;
            exact = λ ns i x ts S c p R e T l.
                let z : Start ≡ From R.step = sym g ∙ O.exact x.result R.run ∙ R.origin in
                let z : ◌≡◌ {A = ℕ} 0 1 = cc in
                absurd (omega arith);
          }

      -- the step that is stored with the result leads to one more noted term
      module _ (s : Step) (g : o ≡ From s) (ws' : List ℕ) (N : Notes ws ws' count xs s (d + 1)) where
        slots_more : (ns : List Noted) (i : ℕ) (x : Line) → Slots ws ns → length ns ≡ count → i < count → Result (noted_at ns i).term i res k x
            → d ≡ length (noted_at ns i).trail → Slots ws' (ns ++ (entry (noted_at ns i).trail x ∷ []))
        slots_more ns i x S c p R e =
            let z : From s ≡ From R.step = sym g ∙ O.exact x.result R.run ∙ R.origin in
            let q : s ≡ R.step = cc in
            let h : s.parent ≡ i = ap (λ y. y.parent) q ∙ R.parent in
            rw h at
            (N.slots ns x S c (omega arith) (subst₂ (λ y n. Marks y (noted_at ns n).term x) (sym q) (sym h) R.marks) (result_run ns i x R) (rw h (ap (λ n. n + 1) e)))

        -- the right sides are compared with it by the hash that its slot has now
        pub takes_noted : count < slots → (fs : List Reply) (n : ℕ) → Strikes rights xs (hash_of ws' count) count replies fs n
            → Takes ws count slots res k d rights replies (Some n) ws' fs
        takes_noted h fs n C =
            record {
              room = h;
              exact = λ ns i x ts S c p R e T l.
                  let S' = slots_more ns i x S c p R e in
                  let r = result_run ns i x R in
                  let q : hash_of ws' count ≡ hash xs 0 = rw (← c, r.whole) (hash_last ws' ns (entry (noted_at ns i).trail x) S') in
                  (S', rw c (C.exact ts x.result T l r q));
            }
