-- A law used at a place, on runs: the runs are the same before the place's position and after the two subterms there, and the law's
-- sides match these with the same terms put in.
use Prim.Native.Nat.{ℕ, ◌+◌, ◌<◌}
use native.Mathlib.Omega.{arith}
use mathlib.Core.Path.{◌≡◌, refl, sym, ap, ◌∙◌}
use mathlib.Core.Bool.{Bool, true, false}
use mathlib.Core.Option.{none, some, none-ne-some, some-injective}
use mathlib.Core.List.{List, ◌++◌}
use lib.ListN.{length, take, drop, take-append-drop}
use lib.Seq.{take_at, drop_at, length-take-le}
use Rattle.terms.specs.Term.{Term, subst, size}
use Rattle.terms.specs.Run.{run}
use Rattle.terms.specs.Held.{IsRun}
use Rattle.terms.specs.Theory.Reflects.{Reflects, like}
use Rattle.terms.specs.Theory.Held.{length_run, size_of}
use Rattle.terms.proofs.Positions.{drop_past}
use Rattle.terms.proofs.Held.{run_one}
use Rattle.search.specs.Law.{Law}
use Rattle.search.specs.Line.{Direction, Side, from, to}
use Rattle.search.specs.Place.{subterm_at, replace_at}
use Rattle.search.specs.Chain.{is_use}
use Rattle.search.specs.Position.{position}
use Rattle.search.specs.Theory.Chain.{Both, Use, subterm_replaced, is_use_reflects}
use Rattle.search.specs.Theory.Position.{position_numbered, subterm_position, replace_position, position_replaced, no_position}
use Rattle.search.proofs.Splits.{fine_at, starts, run_spliced, fine_replaced}

-- a use of a law, seen on the runs xs and ys of s and t
pub record RunUse (w : Law) (d : Direction) (xs ys : List ℕ) (i : ℕ) (s t : Term) : Type 0 where
  pub inside : i < length ys
  pub before : take i xs ≡ take i ys
  pub after : drop (i + size (subterm_at s i)) xs ≡ drop (i + size (subterm_at t i)) ys
  pub sides : Both (from d w) (to d w) (subterm_at s i) (subterm_at t i)

-- the run around a subterm
around : {ys : List ℕ} {t : Term} {i : ℕ} → IsRun ys t → i < size t → ys ≡ take i ys ++ (run (subterm_at t i) ++ drop (i + size (subterm_at t i)) ys)
around {ys} {t} {i} ht h =
    let b = subterm_at t i in
    let k = starts ht h in
    let rest : drop (i + size b) ys ≡ k.rest = rw (length_run b) at (drop_past ys (run b) k.rest i k.here) in
    sym (take-append-drop i ys) ∙ ap (λ l. take i ys ++ l) k.here ∙ rw (← rest) refl

module _ (w : Law) (d : Direction) (p : List Side) {s t : Term} {xs ys : List ℕ} (hs : IsRun xs s) (ht : IsRun ys t) where
  module _ {i : ℕ} (e : position p s ≡ some i) where
    inside_source : i < size s
    inside_source = (position_numbered p s e).0

    to_runs : Use w d p s t → RunUse w d xs ys i s t
    to_runs u =
        let σ = u.terms in
        let f : position p t ≡ some i = position_replaced p s (subst σ (to d w)) u.replacement ∙ e in
        let a : subst σ (from d w) ≡ subterm_at s i = some-injective _ _ (sym u.replaced ∙ subterm_position p s e) in
        let b : subst σ (to d w) ≡ subterm_at t i = some-injective _ _ (sym (subterm_replaced p s _ u.replacement) ∙ subterm_position p t f) in
        let whole : replace_at s i (subterm_at t i) ≡ t = some-injective _ _ (sym (replace_position p s e (subterm_at t i)) ∙ rw b at u.replacement) in
        let spliced : ys ≡ take i xs ++ (run (subterm_at t i) ++ drop (i + size (subterm_at s i)) xs) =
        ht.whole ∙ ap run (sym whole) ∙ rw hs.whole (run_spliced s i inside_source (subterm_at t i)) in
        let front : length (take i xs) ≡ i = length-take-le i xs (omega (arith, size_of hs, inside_source)) in
        let behind : drop i ys ≡ run (subterm_at t i) ++ drop (i + size (subterm_at s i)) xs = ap (drop i) spliced ∙ drop_at (take i xs) _ i front in
        record {
          inside = omega (arith, size_of ht, (position_numbered p t f).0);
          before = sym (ap (take i) spliced ∙ take_at (take i xs) _ i front);
          after = sym (rw (length_run (subterm_at t i)) at (drop_past ys (run (subterm_at t i)) _ i behind));
          sides = (σ, a, b);
        }

    from_runs : RunUse w d xs ys i s t → Use w d p s t
    from_runs h =
        let b = subterm_at t i in
        let (σ, is-a, is_b) = h.sides in
        let k : i < size t = omega (arith, size_of ht, h.inside) in
        let spliced : run (replace_at s i b) ≡ ys =
        run_spliced s i inside_source b ∙ rw (← hs.whole, h.before, h.after) (sym (around ht k)) in
        let whole : replace_at s i b ≡ t = run_one (record { fine = fine_replaced s i b hs.fine (fine_at t i ht.fine); whole = sym spliced }) ht in
        record {
          terms = σ;
          replaced = subterm_position p s e ∙ ap some (sym is-a);
          replacement = rw is_b (replace_position p s e b ∙ ap some whole);
        }

    -- the test of a use is a test of the runs
    pub use_on_runs : Reflects (RunUse w d xs ys i s t) (is_use w d p s t)
    use_on_runs = like (Use w d p s t) (RunUse w d xs ys i s t) (is_use w d p s t) to_runs from_runs (is_use_reflects w d p s t)

  -- a place that is not in the source
  pub use_nowhere : position p s ≡ none → is_use w d p s t ≡ false
  use_nowhere e = go (is_use w d p s t) (is_use_reflects w d p s t)
    where
      go : (b : Bool) → Reflects (Use w d p s t) b → b ≡ false
      go true u = absurd (none-ne-some _ (sym (no_position p s e) ∙ u.replaced))
      go false u = refl
