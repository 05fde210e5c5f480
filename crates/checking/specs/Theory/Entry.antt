-- The claims hold of every call of CHECK, and the three kinds of line from every proved block of every call of FIND are good.
use Rattle.std.specs.Prelude.{ℕ, ◌-◌, ◌≤◌, ◌<◌, ◌≡◌, refl, ◌↔◌, List, [], ◌∷◌, ◌++◌, length, take, drop}
use Rattle.std.proofs.Common.{arith, sym, ap, ◌∙◌}
use Rattle.terms.specs.Lists.{of_map}
use Rattle.words.specs.Words.{words}
use Rattle.search.specs.Law.{semiring}
use Rattle.search.specs.Chain.{any_line, is_chain}
use Rattle.search.specs.Searched.{slots_of}
use Rattle.text.specs.Bytes.{ascii}
use Rattle.text.specs.Answer.{refused, accepted, field}
use Rattle.text.specs.Find.{block}
use Rattle.text.specs.Entry.{returned, output_after, FindCall}
use Rattle.text.specs.Claims.{CallClaims}
use Rattle.text.specs.Theory.StepText.{semiring_told}
use Rattle.text.specs.Theory.Blocks.{answered}
use Rattle.text.specs.Theory.Entry.{among, Numbered, numbered_first, numbered_require, fitting_numbered, call_claims, find_claims}
use Rattle.checking.specs.Check.{Derivation, read_check, good, judge, check_with, check, Derives, Chains, three_kinds}
use Rattle.checking.specs.Claims.{read_numbers, check_numbers, CheckCall, CheckClaims, Good, FoundGood}
use Rattle.checking.specs.Theory.Read.{read_check_exact}
use Rattle.checking.specs.Theory.Check.{Checked, read_numbered, checked_exact, checked_none, checked_broken, good_words}
use Rattle.checking.specs.Theory.Blocks.{find_good}

judge_numbered : (room : ℕ) (d : Derivation) → Numbered check_numbers (judge semiring room d)
unfolding judge
judge_numbered room d =
    numbered_require check_numbers 11 (any_line d.path) _ (search among depth 9)
    (numbered_require check_numbers 12 (is_chain semiring d.left d.path d.right) _ (search among depth 9)
    (fitting_numbered check_numbers room good (search among depth 9)))

check_numbered : (bs : List ℕ) (room : ℕ) → Numbered check_numbers (check bs room)
unfolding check check_with
check_numbered bs room = numbered_first read_numbers (11 ∷ 12 ∷ 8 ∷ []) (read_check semiring bs) _ (read_numbered semiring bs) (judge_numbered room)

good_length : length good ≡ 12
unfolding good field ascii
good_length = refl

module _ (text out : List ℕ) where
  -- a chain, and room for the answer
  abbrev Accepts : Type 0
  Accepts = (d : Derivation) × Derives semiring text d × Chains semiring d × (12 ≤ length out)

  accepts : {t : List ℕ} → Checked semiring text (length out) t → Accepts
  accepts c = (c.derivation, c.derives, c.chains, omega (arith, good_length, c.fits))

  checked : Accepts → check text (length out) ≡ accepted good
  checked (d, derives, chains, fits) =
      (checked_exact text (length out) good).1 (record { derivation = d; derives = derives; chains = chains; fits = omega (arith, good_length); answer = refl })

  same_words : {t : List ℕ} → check text (length out) ≡ accepted t → (d : Derivation) → Derives semiring text d → words d.left ≡ words d.right
  same_words {t} e d h =
      let (d', h', w) = good_words text (length out) t e in
      let f : accepted d' ≡ accepted d = sym ((read_check_exact semiring semiring_told text d').1 h') ∙ (read_check_exact semiring semiring_told text d).1 h in
      let g : d' ≡ d = cc in
      rw g at w

  module _ {r : ℕ} {out' : List ℕ} (c : CheckCall text out r out') where
    -- a text that is accepted is answered so
    pub answers_good : check text (length out) ≡ accepted good → Good out r out'
    answers_good e =
        let n : r ≡ returned (accepted good) = c.number ∙ ap returned e in
        let o : out' ≡ output_after out (accepted good) = c.output ∙ ap (output_after out) e in
        (omega (arith, good_length), o ∙ ap (λ k. good ++ drop k out) good_length)

    call : CallClaims check_numbers (check text (length out)) out r out'
    call = call_claims (search arith depth 12) (check_numbered text (length out)) c

    answer : 100 ≤ r → Checked semiring text (length out) (take (r - 100) out')
    answer h = (checked_exact text (length out) (take (r - 100) out')).0 (call.text h)

    -- a refusal's number is returned exactly where it is given
    by_number : (n : ℕ) → n < 100 → {P : Type 0} → (check text (length out) ≡ refused n) ↔ P → (r ≡ n) ↔ P
    by_number n small given =
        (λ e. given.0 (call.refusal.0 (omega arith) ∙ ap refused e), λ p. c.number ∙ ap returned (given.1 p))

    pub check_claims : CheckClaims text out r out'
    check_claims =
        record {
          call = call;
          answer = λ h. answers_good (checked (accepts (answer h)));
          exact = (λ h. accepts (answer h), λ a. let g = answers_good (checked a) in omega (arith, g.0));
          none = by_number 11 (omega arith) (checked_none text (length out));
          broken = by_number 12 (omega arith) (checked_broken text (length out));
          words = λ h. same_words (call.text h);
        }

-- from the bytes that a call of FIND leaves to those that a call of CHECK leaves
pub found_good : (job out work : List ℕ) {r : ℕ} {out' work' : List ℕ} → FindCall job out work r out' work' → 100 ≤ r → FoundGood (take (r - 100) out')
found_good job out work {r} {out'} c answers b i says space fits q space' d =
    let slots = slots_of (length work) in
    let t = take (r - 100) out' in
    let e = (find_claims job out c).call.text answers in
    let a = answered job slots (length out) t e in
    let (j, k, same) = of_map (block slots) a.jobs (rw a.parts at i) in
    let g = find_good job slots (length out) t e j k (rw (← same) at says) (length space) fits in
    answers_good (three_kinds b) space d (rw same at g)
