-- `read_run` gives the term of a run, and of no other list.
use Rattle.std.specs.Prelude.{ℕ, ◌<◌, ◌≡◌, refl, ◌↔◌, List, [], ◌∷◌, ◌++◌}
use Rattle.std.proofs.Common.{arith, sym, ◌∙◌, ap, subst, append_assoc, append-nil, lt-ltb, le-ltb, ne_eqb}
use Rattle.std.proofs.Math.Decide.{dec_lt, ℕ_discrete}
use Rattle.std.proofs.Math.Option.{Option, none, some, none-ne-some}
use Rattle.terms.specs.Term.{Term, letter, zero, one, add, mul}
use Rattle.terms.specs.Run.{ZERO, ONE, ADD, MUL, run}
use Rattle.terms.specs.Build.{Token, atom, plus, times, operate, push, next, build, single, read}
use Rattle.terms.specs.Held.{Fine, IsRun, runs, AllFine}
use Rattle.terms.specs.Numbers.{token, read_run}
use Rattle.terms.specs.Theory.Build.{Written, read_written}
use Rattle.terms.specs.Theory.Held.{fine_letters}

-- what each number stands for
pub data Code : ℕ → Option Token → Type 0 where
  letter_code : {n : ℕ} → n < ZERO → Code n (some (atom (letter n)))
  zero_code : Code ZERO (some (atom zero))
  one_code : Code ONE (some (atom one))
  add_code : Code ADD (some plus)
  mul_code : Code MUL (some times)
  no_code : {n : ℕ} → MUL < n → Code n none

token_letter : (n : ℕ) → n < ZERO → token n ≡ some (atom (letter n))
unfolding token
token_letter n h = rw (lt-ltb n ZERO h, token)

pub token_none : (n : ℕ) → MUL < n → token n ≡ none
unfolding token
token_none n h =
    rw (le-ltb n ZERO (omega arith), token)
    (rw (ne_eqb n ZERO (omega arith), token)
    (rw (ne_eqb n ONE (omega arith), token) (rw (ne_eqb n ADD (omega arith), token) (rw (ne_eqb n MUL (omega arith), token)))))

pub code : (x : ℕ) → Code x (token x)
unfolding token
code x = go (dec_lt x ZERO) (ℕ_discrete x ZERO) (ℕ_discrete x ONE) (ℕ_discrete x ADD) (ℕ_discrete x MUL)
  where
    go : Dec (x < ZERO) → Dec (x ≡ ZERO) → Dec (x ≡ ONE) → Dec (x ≡ ADD) → Dec (x ≡ MUL) → Code x (token x)
    go (yes p) a b c d = rw (token_letter x p) (letter_code p)
    go (no p) (yes q) b c d = rw q zero_code
    go (no p) (no q) (yes r) c d = rw r one_code
    go (no p) (no q) (no r) (yes s) d = rw s add_code
    go (no p) (no q) (no r) (no s) (yes t) = rw t mul_code
    go (no p) (no q) (no r) (no s) (no t) = let h : MUL < x = omega arith in rw (token_none x h) (no_code h)

-- a run is read

written : Written token run (λ n. n < ZERO)
unfolding token run
written =
    record {
      letters = λ {n} h. (n, token_letter n h, refl);
      zeros = (ZERO, refl, refl);
      ones = (ONE, refl, refl);
      sums = (ADD, refl, λ s t. refl);
      products = (MUL, refl, λ s t. refl);
    }

pub run_read : {xs : List ℕ} {t : Term} → IsRun xs t → read_run xs ≡ some t
unfolding read_run
run_read {t = t} h = rw h.whole (read_written written t (fine_letters t h.fine))

-- what is read is a run

-- the list is the runs of the terms
abbrev Spelled : List ℕ → List Term → Type 0
Spelled xs ts = AllFine ts × (xs ≡ runs ts)

next_some : (k : Token) (b : Option (List Term)) {us : List Term} → next (some k) b ≡ some us → (ts : List Term) × (b ≡ some ts) × (push k ts ≡ some us)
unfolding next
next_some k none e = absurd (none-ne-some _ e)
next_some k (some ts) e = (ts, refl, e)

spelled_atom : {x : ℕ} (t : Term) → Fine t → run t ≡ x ∷ [] → {xs : List ℕ} (ts : List Term) {us : List Term} → Spelled xs ts → push (atom t) ts ≡ some us → Spelled (x ∷ xs) us
unfolding push
spelled_atom {x} t f r ts {us} s e = subst (Spelled _) all ((f, s.0), ap (λ l. x ∷ l) s.1 ∙ rw r)
  where
    all : t ∷ ts ≡ us
    all = cc

spelled_two : {x : ℕ} (f : Term → Term → Term) → ((s t : Term) → run (f s t) ≡ x ∷ (run s ++ run t)) → ((s t : Term) → Fine s → Fine t → Fine (f s t))
    → {xs : List ℕ} (ts : List Term) {us : List Term} → Spelled xs ts → operate f ts ≡ some us → Spelled (x ∷ xs) us
unfolding operate
spelled_two f r g [] s e = absurd (none-ne-some _ e)
spelled_two f r g (u ∷ []) s e = absurd (none-ne-some _ e)
spelled_two {x} f r g (u ∷ v ∷ ts) {us} (h, w) e =
    subst (Spelled _) all ((g u v h.0 h.1.0, h.1.1), ap (λ l. x ∷ l) (w ∙ sym (append_assoc (run u) (run v) (runs ts))) ∙ rw (r u v))
  where
    all : f u v ∷ ts ≡ us
    all = cc

spelled_next : {x : ℕ} {k : Option Token} → Code x k → {xs : List ℕ} (b : Option (List Term)) → ((ts : List Term) → b ≡ some ts → Spelled xs ts)
    → {us : List Term} → next k b ≡ some us → Spelled (x ∷ xs) us
unfolding next push run Fine
spelled_next (letter_code {n = n} h) b f e = let (ts, d, p) = next_some (atom (letter n)) b e in spelled_atom (letter n) h refl ts (f ts d) p
spelled_next zero_code b f e = let (ts, d, p) = next_some (atom zero) b e in spelled_atom zero tt refl ts (f ts d) p
spelled_next one_code b f e = let (ts, d, p) = next_some (atom one) b e in spelled_atom one tt refl ts (f ts d) p
spelled_next add_code b f e = let (ts, d, p) = next_some plus b e in spelled_two add (λ s t. refl) (λ s t g h. (g, h)) ts (f ts d) p
spelled_next mul_code b f e = let (ts, d, p) = next_some times b e in spelled_two mul (λ s t. refl) (λ s t g h. (g, h)) ts (f ts d) p
spelled_next (no_code h) b f e = absurd (none-ne-some _ e)

build_spelled : (xs : List ℕ) {ts : List Term} → build token xs ≡ some ts → Spelled xs ts
unfolding build
build_spelled [] {ts} e = subst (Spelled []) all (tt, refl)
  where
    all : [] ≡ ts
    all = cc
build_spelled (x ∷ xs) e = spelled_next (code x) (build token xs) (λ ts. build_spelled xs) e

pub read_is_run : {xs : List ℕ} {t : Term} → read_run xs ≡ some t → IsRun xs t
unfolding read_run read single
read_is_run {xs} {t} e = go (build token xs) refl e
  where
    go : (b : Option (List Term)) → build token xs ≡ b → single b ≡ some t → IsRun xs t
    go none d e = absurd (none-ne-some _ e)
    go (some []) d e = absurd (none-ne-some _ e)
    go (some (u ∷ [])) d e =
        let (h, w) = build_spelled xs d in
        let p : u ≡ t = cc in
        rw (← p) (record { fine = h.0; whole = w ∙ append-nil (run u) })
    go (some (u ∷ v ∷ ts)) d e = absurd (none-ne-some _ e)

pub read_run_is : (xs : List ℕ) (t : Term) → (read_run xs ≡ some t) ↔ IsRun xs t
read_run_is xs t = (read_is_run, run_read)
