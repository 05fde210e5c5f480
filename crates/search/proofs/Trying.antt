-- A law at one place, read in a direction: its sides give the line there.
use Prim.Native.Nat.{ℕ, ◌<◌}
use mathlib.Core.Path.{◌≡◌, refl, ◌∙◌}
use mathlib.Core.Logic.{inl, inr}
use mathlib.Core.Bool.{Bool, true, false, cond}
use mathlib.Core.Option.{Option, none, some}
use mathlib.Core.List.{List, [], ◌∷◌, map}
use borrow.Author.Tests.{le-leb, lt-leb}
use Rattle.std.specs.Prelude.{Option as Answer, Some, None}
use Rattle.terms.specs.Term.{Term, size, same}
use Rattle.terms.specs.Promises.{Ends}
use Rattle.search.specs.Law as law
use Rattle.search.specs.Line as line
use Rattle.search.specs.Line.{Line, from, to, rewrite, changed, at_root}
use Rattle.search.specs.Place.{subterm_at, replace_at, placed}
use Rattle.search.specs.Coded.{law_of, direction_of, SideRun}
use Rattle.search.specs.Bound.{BindsSide, BindsLaw}
use Rattle.search.specs.Spliced.{Put, Splices, kept, tried, Gives, Tries}
use Rattle.search.specs.declared.search.Law.{Law}
use Rattle.search.specs.declared.search.Direction.{Direction}
use Rattle.search.specs.declared.search.Spans.{Spans}
use Rattle.search.specs.declared.search.Binding.{Binding}
use Rattle.search.specs.declared.search.Binding.TheVariants.{Bound, Unbound}
use Rattle.search.proofs.Splits.{starts}
use Rattle.search.proofs.Rewriting.{rewrite_matched}

-- the line that is tried, by what `rewrite` gives

module _ (room : ℕ) (t : Term) (at : ℕ) (w : law.Law) (d : line.Direction) where
  abbrev made : Option Term → List Line
  made o = kept room (map (placed t at) (changed (subterm_at t at) w d o))

  tried_is : (o : Option Term) → rewrite (from d w) (to d w) (subterm_at t at) ≡ o → tried room t at w d ≡ made o
  unfolding tried at_root
  tried_is o e = rw e

  gives_none : (out : List ℕ) → Gives out None (made none)
  unfolding changed kept
  gives_none out = tt

  gives_put : (out : List ℕ) (f : Answer ℕ) (u : Term) → Put t at room out f u → Gives out f (made (some u))
  unfolding changed kept placed
  gives_put out (Some k) u P = rw P.0 (rw (le-leb (size (replace_at t at u)) room P.1) P.2)
  gives_put out None u (inl s) = rw s tt
  gives_put out None u (inr h) = go (same u (subterm_at t at))
    where
      go : (b : Bool) → Gives out None (kept room (map (placed t at) (cond b [] (record { law = w.name; direction = d; place = []; result = u } ∷ []))))
      go true = tt
      go false = rw (lt-leb (size (replace_at t at u)) room h) tt

  -- a result that has no room is no line
  pub tried_long : (u : Term) → rewrite (from d w) (to d w) (subterm_at t at) ≡ some u → room < size (replace_at t at u) → tried room t at w d ≡ []
  tried_long u e h = tried_is (some u) e ∙ none_given (made (some u)) (gives_put [] None u (inr h))
    where
      none_given : (ls : List Line) → Gives [] None ls → ls ≡ []
      none_given [] G = refl
      none_given (x ∷ ls) G = absurd G

module _ (w : Law) (d : Direction) (xs : List ℕ) (at : ℕ) where
  pub binds_law : (p q : List ℕ) (r : Binding) → SideRun p (from (direction_of d) (law_of w)) → SideRun q (to (direction_of d) (law_of w)) → BindsSide p q xs at r → BindsLaw w d xs at r
  binds_law p q r P Q B =
      record {
        within = B.within;
        exact = λ t ht h. B.exact (from (direction_of d) (law_of w)) (to (direction_of d) (law_of w)) (subterm_at t at) P.is P.pattern Q.is Q.pattern (starts ht h);
      }

  pub tries_nothing : (r : Binding) (room : ℕ) (out : List ℕ) → BindsLaw w d xs at r → r ≡ Unbound → Tries w d xs at room out None
  tries_nothing r room out B e =
      record {
        within = tt;
        exact = λ t ht h.
            rw (tried_is room t at (law_of w) (direction_of d) none ((rw e at B).exact t ht h)) (gives_none room t at (law_of w) (direction_of d) out);
      }

  pub tries_put : (q : List ℕ) (z : Spans) (end room : ℕ) (out : List ℕ) (f : Answer ℕ) → SideRun q (to (direction_of d) (law_of w)) → BindsLaw w d xs at (Bound z) → Ends xs at end
      → Splices q xs z at end room out f → Tries w d xs at room out f
  tries_put q z end room out f Q B E S =
      record {
        within = S.within;
        exact = λ t ht h.
            let v = law_of w in
            let c = direction_of d in
            let u = subterm_at t at in
            let b = B.exact t ht h in
            rw (tried_is room t at v c (some b.result) (rewrite_matched (from c v) (to c v) u b.terms b.matched ∙ b.put_in))
            (gives_put room t at v c out f b.result
            (S.exact t (to c v) b.result b.terms ht h (E.exact u (starts ht h)) b.means Q.is Q.pattern b.put_in));
      }
