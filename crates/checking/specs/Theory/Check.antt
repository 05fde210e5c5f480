-- CHECK accepts exactly the nonempty chains among the texts that pass 1 to 4, and their ends have the same words.
use Rattle.std.specs.Prelude.{ℕ, ◌≤◌, ◌<◌, ◌≡◌, ◌↔◌, Bool, true, false, leb}
use Rattle.std.proofs.Math.Path.{refl, sym, ap}
use Rattle.std.proofs.Common.{◌∙◌, le→leb}
use mathlib.Core.List.{List, [], ◌∷◌, flat_map}
use native.Mathlib.Omega.{arith}
use Rattle.std.proofs.Math.ListN.{length}
use Rattle.std.proofs.Math.Dec.{leb→le}
use Rattle.terms.specs.Term.{Term}
use Rattle.terms.specs.Letters.{letters}
use Rattle.terms.specs.Theory.Reflects.{Reflects, reflects_true}
use Rattle.words.specs.Words.{words}
use Rattle.search.specs.Law.{Law, semiring}
use Rattle.search.specs.Line.{Line}
use Rattle.search.specs.Path.{IsLine, Path}
use Rattle.search.specs.Chain.{any_line, is_chain}
use Rattle.search.specs.Claims.{Respects}
use Rattle.search.specs.Theory.Chain.{Different, semiring_different, any_line_reflects, is_chain_reflects, is_chain_exact}
use Rattle.search.specs.Theory.Words.{path_keeps}
use Rattle.search.specs.Theory.Respect.{semiring_respected}
use Rattle.text.specs.TermText.{read_term}
use Rattle.text.specs.Answer.{Answer, refused, accepted, ◌>>=◌, require, fitting}
use Rattle.text.specs.Job.{few}
use Rattle.text.specs.FindJob.{all_small}
use Rattle.text.specs.Theory.Entry.{among, Numbered, numbered_or, numbered_require, each_in}
use Rattle.checking.specs.Layout.{check_layout, read_results}
use Rattle.checking.specs.Claims.{read_numbers}
use Rattle.checking.specs.Check.{Derivation, terms_of, accept_terms, derivation_in, read_check, good, judge, check_with, check, Derives, Chains, NoLine, NoChain}
use Rattle.text.specs.Theory.StepText.{Told, semiring_told}
use Rattle.text.specs.Theory.Accepted.{If_accepted, accepted_then, required_then}
use Rattle.checking.specs.Theory.Read.{test_true, read_check_exact}

-- what an accepted text is
pub record Checked (ws : List Law) (bs : List ℕ) (room : ℕ) (t : List ℕ) : Type 0 where
  pub derivation : Derivation
  pub derives : Derives ws bs derivation
  pub chains : Chains ws derivation
  pub fits : length good ≤ room
  pub answer : t ≡ good

-- 1 to 4 are the refusals before the lines are judged
pub read_numbered : (ws : List Law) (bs : List ℕ) → Numbered read_numbers (read_check ws bs)
unfolding read_check derivation_in accept_terms
read_numbered ws bs =
    numbered_require ns 1 (leb (length bs) 8192) _ (search among)
    (numbered_or ns 1 (check_layout ws bs) _ (search among) λ c.
    numbered_or ns 2 (read_term c.left) _ (search among) λ s.
    numbered_or ns 2 (read_term c.right) _ (search among) λ t.
    numbered_or ns 2 (read_results c.steps) _ (search among) λ xs.
    let d : Derivation = record { left = s; right = t; path = xs } in
    numbered_require ns 3 (all_small (terms_of d)) _ (search among)
    (numbered_require ns 4 (few (flat_map letters (terms_of d))) _ (search among) tt))
  where
    ns : List ℕ
    ns = read_numbers

-- a test of what does not hold
failed : (P : Type 0) (b : Bool) → Reflects P b → (P → ⊥) → b ≡ false
failed P true h no-p = absurd (no-p h)
failed P false h no-p = refl

module _ (ws : List Law) (told : Told ws) (different : Different ws) where
  judge_true : (room : ℕ) (d : Derivation) → Chains ws d → length good ≤ room → judge ws room d ≡ accepted good
  unfolding judge fitting require ◌>>=◌
  judge_true room d c fits =
      rw (
        (is_chain_exact ws different d.left d.path d.right).1 (c.any, c.path),
        (reflects_true (0 < length d.path) (any_line d.path) (any_line_reflects ws different d.path)).1 c.any,
        test_true (leb (length good) room) (le→leb (length good) room fits),
      )

  check_checked : (bs : List ℕ) (room : ℕ) → If_accepted (Checked ws bs room) (check_with ws bs room)
  unfolding check_with judge fitting
  check_checked bs room =
      accepted_then (Checked ws bs room) (read_check ws bs) _ λ d read.
      required_then (Checked ws bs room) 11 (any_line d.path) _ λ any.
      required_then (Checked ws bs room) 12 (is_chain ws d.left d.path d.right) _ λ chain.
      required_then (Checked ws bs room) 8 (leb (length good) room) _ λ fits.
      let (positive, path) = (is_chain_exact ws different d.left d.path d.right).0 (test_true _ chain) in
      record {
        derivation = d;
        derives = (read_check_exact ws told bs d).0 read;
        chains = record { any = positive; path = path };
        fits = leb→le (length good) room fits;
        answer = refl;
      }

  -- a text is accepted exactly if it derives a nonempty chain, and there is room
  pub check_exact : (bs : List ℕ) (room : ℕ) (t : List ℕ) → (check_with ws bs room ≡ accepted t) ↔ Checked ws bs room t
  unfolding check_with ◌>>=◌
  check_exact bs room t = (λ e. rw e at (check_checked bs room), back)
    where
      back : Checked ws bs room t → check_with ws bs room ≡ accepted t
      back c = rw ((read_check_exact ws told bs c.derivation).1 c.derives, c.answer) (judge_true room c.derivation c.chains c.fits)

  -- past 1 to 4, and with room, the lines are accepted exactly if they are a nonempty chain
  pub past_exact : (bs : List ℕ) (room : ℕ) (d : Derivation) → read_check ws bs ≡ accepted d → length good ≤ room
      → (check_with ws bs room ≡ accepted good) ↔ Chains ws d
  unfolding check_with ◌>>=◌
  past_exact bs room d read fits = (λ e. same_path ((check_exact bs room good).0 e), λ c. ap (λ a. ◌>>=◌ a (judge ws room)) read ∙ judge_true room d c fits)
    where
      same_path : Checked ws bs room good → Chains ws d
      same_path c = let e : c.derivation ≡ d = (let f = sym ((read_check_exact ws told bs c.derivation).1 c.derives) ∙ read in cc) in rw e at c.chains

  -- past 1 to 4: 11 if there is no line
  past_none : (bs : List ℕ) (room : ℕ) (d : Derivation) → read_check ws bs ≡ accepted d → (0 < length d.path → ⊥) → check_with ws bs room ≡ refused 11
  unfolding check_with judge require ◌>>=◌
  past_none bs room d read none = rw (read, failed (0 < length d.path) (any_line d.path) (any_line_reflects ws different d.path) none)

  -- 12 if the lines are no chain
  past_no_chain : (bs : List ℕ) (room : ℕ) (d : Derivation) → read_check ws bs ≡ accepted d → 0 < length d.path
      → (Path (IsLine ws) d.left d.path d.right → ⊥) → check_with ws bs room ≡ refused 12
  unfolding check_with judge require ◌>>=◌
  past_no_chain bs room d read any no-path =
      rw (
        read,
        failed _ (is_chain ws d.left d.path d.right) (is_chain_reflects ws different d.left d.path d.right) (λ h. no-path h.1),
        (reflects_true (0 < length d.path) (any_line d.path) (any_line_reflects ws different d.path)).1 any,
      )

  -- what a refusal by 11 or 12 says
  abbrev Says : List ℕ → Answer (List ℕ) → Type 0
  Says bs (refused n) = (n ≡ 11 → NoLine ws bs) × (n ≡ 12 → NoChain ws bs)
  Says bs (accepted t) = Unit {0}

  judge_says : (bs : List ℕ) (room : ℕ) (d : Derivation) → Derives ws bs d → Says bs (judge ws room d)
  unfolding judge fitting require ◌>>=◌
  judge_says bs room d h =
      go (any_line d.path) (any_line_reflects ws different d.path) (is_chain ws d.left d.path d.right)
      (is_chain_reflects ws different d.left d.path d.right) (leb (length good) room)
    where
      nothing : (xs : List Line) → (0 < length xs → ⊥) → xs ≡ []
      nothing [] none = refl
      nothing (x ∷ xs) none = absurd (none (omega arith))

      go : (a : Bool) → Reflects (0 < length d.path) a → (c : Bool)
          → Reflects ((0 < length d.path) × Path (IsLine ws) d.left d.path d.right) c → (f : Bool)
          → Says bs (◌>>=◌ (require 11 a) (λ _. ◌>>=◌ (require 12 c) (λ _. ◌>>=◌ (require 8 f) (λ _. accepted good))))
      go false any c chain f = (λ _. (d, h, nothing d.path any), λ z. absurd (omega arith))
      go true any false chain f = (λ z. absurd (omega arith), λ _. (d, h, any, λ path. chain (any, path)))
      go true any true chain false = (λ z. absurd (omega arith), λ z. absurd (omega arith))
      go true any true chain true = tt

  check_says : (bs : List ℕ) (room : ℕ) → Says bs (check_with ws bs room)
  unfolding check_with ◌>>=◌
  check_says bs room = go (read_check ws bs) refl (read_numbered ws bs)
    where
      go : (a : Answer Derivation) → read_check ws bs ≡ a → Numbered read_numbers a → Says bs (◌>>=◌ a (judge ws room))
      go (refused n) e i =
          let small : n ≤ 4 = each_in (λ n. n ≤ 4) read_numbers (search arith depth 9) i in
          (λ z. absurd (omega arith), λ z. absurd (omega arith))
      go (accepted d) e i = judge_says bs room d ((read_check_exact ws told bs d).0 e)

  -- past 1 to 4, with any room: 11 exactly if there is no line
  pub none_exact : (bs : List ℕ) (room : ℕ) → (check_with ws bs room ≡ refused 11) ↔ NoLine ws bs
  none_exact bs room = (
    λ e. (rw e at (check_says bs room)).0 refl,
    λ (d, h, nil). past_none bs room d ((read_check_exact ws told bs d).1 h) (λ any. omega (arith, ap length nil)),
  )

  -- and 12 exactly if there are lines that are no chain
  pub broken_exact : (bs : List ℕ) (room : ℕ) → (check_with ws bs room ≡ refused 12) ↔ NoChain ws bs
  broken_exact bs room = (
    λ e. (rw e at (check_says bs room)).1 refl,
    λ (d, h, any, no-path). past_no_chain bs room d ((read_check_exact ws told bs d).1 h) any no-path,
  )

  -- good paths have ends with the same words, by any word rule that the laws respect
  pub good_with : {W : Type 0} {words : Term → W} → Respects ws W words → (bs : List ℕ) (room : ℕ) (t : List ℕ) → check_with ws bs room ≡ accepted t
      → (d : Derivation) × Derives ws bs d × (words d.left ≡ words d.right)
  good_with respects bs room t e =
      let c = (check_exact bs room t).0 e in (c.derivation, c.derives, path_keeps respects c.chains.path)

-- the ten laws

pub checked_exact : (bs : List ℕ) (room : ℕ) (t : List ℕ) → (check bs room ≡ accepted t) ↔ Checked semiring bs room t
unfolding check
checked_exact = check_exact semiring semiring_told semiring_different

pub good_words : (bs : List ℕ) (room : ℕ) (t : List ℕ) → check bs room ≡ accepted t
    → (d : Derivation) × Derives semiring bs d × (words d.left ≡ words d.right)
unfolding check
good_words = good_with semiring semiring_told semiring_different semiring_respected

pub checked_none : (bs : List ℕ) (room : ℕ) → (check bs room ≡ refused 11) ↔ NoLine semiring bs
unfolding check
checked_none = none_exact semiring semiring_told semiring_different

pub checked_broken : (bs : List ℕ) (room : ℕ) → (check bs room ≡ refused 12) ↔ NoChain semiring bs
unfolding check
checked_broken = broken_exact semiring semiring_told semiring_different
