-- What became of the right sides that a search waits for, while terms are noted.
use Prim.Native.Nat.{ℕ, suc}
use native.Mathlib.Omega.{arith}
use mathlib.Core.Path.{◌≡◌, refl, sym, ap, ◌∙◌}
use mathlib.Core.Logic.{⊎_elim}
use mathlib.Core.Bool.{true, false}
use mathlib.Core.List.{List, [], ◌∷◌, ◌++◌}
use lib.ListN.{length, length-append, get_or-append}
use lib.Seq.{get_or_at}
use Rattle.terms.specs.Lists.{◌∈◌, append_cases, only_one}
use Rattle.terms.specs.Term.{Term, zero, same}
use Rattle.terms.specs.Theory.Members.{getD_in}
use Rattle.terms.specs.Theory.TermOrder.{same_reflects}
use Rattle.search.specs.Search as search
use Rattle.search.specs.Search.{terms, is_noted}
use Rattle.search.specs.Explore.{start}
use Rattle.search.specs.Serve.{unnoted}
use Rattle.search.specs.Runs.{term_at}
use Rattle.search.specs.Replied.{reply_at, waiting, Noticed, Struck, Settled}
use Rattle.search.specs.declared.replies.Reply.{Reply}
use Rattle.search.specs.declared.replies.Reply.TheVariants.{Unnoted, Direct, Noted}
use Rattle.search.proofs.Noting.{noted_in, noted_not}
use Rattle.search.proofs.Unknown.{told}
use Rattle.search.proofs.Serving.{unnoted_in, unnoted_out}
use Rattle.search.proofs.Replying.{waits_or}

-- left alone is noted, and is no right side
pub settled_start : (s : Term) (ts : List Term) (fs : List Reply) → (s ∈ ts → ⊥) → Settled (terms (start s)) ts fs fs
settled_start s ts fs other =
    record {
      kept = refl;
      still = λ k h. refl;
      noticed = λ k h z. rw z (λ m. other (rw (only_one m) at (getD_in zero ts k h)));
    }

-- one more term is noted

module _ (us : List Term) (u : Term) where
  abbrev more : List Term
  more = us ++ (u ∷ [])

  noticed_still : (t : Term) (f : Reply) → (f ≡ Unnoted → ⊥) → Noticed us t f → Noticed more t f
  noticed_still t Unnoted n h = absurd (n refl)
  noticed_still t (Direct w) n h = absurd h
  noticed_still t (Noted k) n (p, q) = (omega (arith, p, length-append us (u ∷ [])), get_or-append us (u ∷ []) zero k p ∙ q)

  noticed_now : Noticed more u (Noted (length us))
  noticed_now = (omega (arith, length-append us (u ∷ [])), get_or_at us u [] zero (length us) refl)

  pub settled_more : {ts : List Term} {before fs gs : List Reply} {c : ℕ} → Settled us ts before fs → Struck (length us) u ts fs gs c → Settled more ts before gs
  settled_more {ts} {before} {fs} {gs} S K =
      record {
        kept = K.kept ∙ S.kept;
        still = λ k h. K.still k (λ e. h (sym (S.still k h) ∙ e)) ∙ S.still k h;
        noticed = λ k h z.
            ⊎_elim
            (λ w.
            let out : term_at ts k ∈ us → ⊥ = rw w at (S.noticed k h z) in
            told (same (term_at ts k) u)
            (λ q.
            let i : term_at ts k ≡ u = rw q at (same_reflects (term_at ts k) u) in
            let j : reply_at gs k ≡ Noted (length us) = rw q at (K.told k h w) in
            rw (i, j) noticed_now)
            (λ q.
            let i : term_at ts k ≡ u → ⊥ = rw q at (same_reflects (term_at ts k) u) in
            let j : reply_at gs k ≡ Unnoted = rw q at (K.told k h w) in
            rw j (λ m. ⊎_elim out (λ n. i (only_one n)) (append_cases us m))))
            (λ w. rw (K.still k w) (noticed_still (term_at ts k) (reply_at fs k) w (S.noticed k h z)))
            (waits_or (reply_at fs k));
      }

-- the right sides that still wait are those that are not noted
pub waiting_unnoted : (ns : List search.Noted) (ts : List Term) (before fs : List Reply) → length ts ≡ length before → Settled (terms ns) ts before fs
    → waiting ts fs ≡ unnoted (waiting ts before) ns
unfolding waiting unnoted
waiting_unnoted ns [] before fs c S = refl
waiting_unnoted ns (t ∷ ts) [] fs c S = absurd (omega arith)
waiting_unnoted ns (t ∷ ts) (b ∷ before) [] c S = absurd (omega (arith, S.kept))
waiting_unnoted ns (t ∷ ts) (b ∷ before) (f ∷ fs) c S =
    let others : Settled (terms ns) ts before fs = record { kept = omega (arith, S.kept); still = λ k h. S.still (suc k) h; noticed = λ k h z. S.noticed (suc k) (omega arith) z } in
    one b f (S.still 0) (S.noticed 0 (omega arith)) (waiting_unnoted ns ts before fs (omega arith) others)
  where
    one : (b f : Reply) → ((b ≡ Unnoted → ⊥) → f ≡ b) → (b ≡ Unnoted → Noticed (terms ns) t f) → waiting ts fs ≡ unnoted (waiting ts before) ns
        → waiting (t ∷ ts) (f ∷ fs) ≡ unnoted (waiting (t ∷ ts) (b ∷ before)) ns
    one Unnoted Unnoted s n rest =
        let i : is_noted t ns ≡ false = noted_not t ns (n refl) in
        rw (waiting, unnoted_in t (waiting ts before) ns i) (ap (λ l. t ∷ l) rest)
    one Unnoted (Direct w) s n rest = absurd (n refl)
    one Unnoted (Noted k) s n rest =
        let (p, q) = n refl in
        let i : is_noted t ns ≡ true = noted_in t ns (rw (← q) (getD_in zero (terms ns) k p)) in
        rw (waiting, unnoted_out t (waiting ts before) ns i) rest
    one (Direct w) f s n rest = rw (s (λ e. cc), waiting) rest
    one (Noted k) f s n rest = rw (s (λ e. cc), waiting) rest
