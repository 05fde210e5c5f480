-- What the one search says of a block: the answer to a job with one right side, from the slots.
use Rattle.std.specs.Prelude.{ℕ, suc, ◌≤◌, ◌<◌, ◌≡◌, List, [], ◌∷◌, length}
use Rattle.std.proofs.Common.{arith}
use Rattle.std.proofs.Math.Option.{none, some}
use borrow.Author.Tests.{le-leb, lt-leb}
use Rattle.terms.specs.Lists.{◌∈◌}
use Rattle.terms.specs.Term.{Term}
use Rattle.search.specs.Law.{Name, semiring}
use Rattle.search.specs.Search.{Noted, Outcome, proved, unproved, noted, direct, whole_line}
use Rattle.search.specs.Theory.Grows.{Knows}
use Rattle.search.specs.Serve.{Stop, all, over, full, Served, serve}
use Rattle.search.specs.Theory.Stands.{stands_within}
use Rattle.search.specs.Theory.LookUp.{Meets, search_explored}
use Rattle.search.specs.Theory.Serve.{Missing, served}
use Rattle.text.specs.Answer.{refused, accepted, ◌>>=◌, require}
use Rattle.text.specs.Job.{Job}
use Rattle.text.specs.Find.{outcome_text, searched, alone}

module _ (slots : ℕ) (j : Job) where
  alone_answers : (o : Outcome) → searched j ≡ o → noted o ≤ slots → alone slots j ≡ accepted (outcome_text semiring j o)
  unfolding alone ◌>>=◌ require
  alone_answers o e h = rw (e, le-leb (noted o) slots h)

  alone_refuses : slots < noted (searched j) → alone slots j ≡ refused 7
  unfolding alone ◌>>=◌ require
  alone_refuses h = rw (lt-leb (noted (searched j)) slots h)

-- a right side that the search has not noted
abbrev pub UnmetBlock : Stop → ℕ → Job → Served → Type 0
UnmetBlock all slots j s = ⊥
UnmetBlock over slots j s = alone slots j ≡ accepted (outcome_text semiring j (unproved s.opened (length s.noted)))
UnmetBlock full slots j s = alone slots j ≡ refused 7

pub record BlockServed (slots : ℕ) (j : Job) (s : Served) : Type 0 where
  -- a law matches the whole equation
  pub matched : (n : Name) → direct semiring j.left j.right ≡ some n
      → alone slots j ≡ accepted (outcome_text semiring j (proved (whole_line n j.right ∷ []) 0 0))
  -- right is noted in slot k, with the term in slot p as its parent
  pub met : direct semiring j.left j.right ≡ none → (n : Noted) (p k : ℕ) → Meets s.noted j.right n p k
      → alone slots j ≡ accepted (outcome_text semiring j (proved n.trail (suc p) (suc k)))
  -- it is not noted
  pub unmet : direct semiring j.left j.right ≡ none → (Knows s.noted j.right → ⊥) → UnmetBlock s.stop slots j s

pub block_served : (slots : ℕ) (j : Job) (rights : List Term) → j.right ∈ rights → (j.left ≡ j.right → ⊥)
    → BlockServed slots j (serve semiring j.limits slots j.left rights)
block_served slots j rights i differ =
    record {
      matched = λ n e. alone_answers slots j _ ((search_explored semiring j.limits j.left j.right).matched n e) (omega arith);
      met = λ e n p k m.
          let r = served semiring j.limits slots j.left rights j.right i differ e in
          alone_answers slots j _ (r.met n p k m) (omega (arith, r.few, stands_within m.at));
      unmet = λ e h.
          let r = served semiring j.limits slots j.left rights j.right i differ e in
          go (serve semiring j.limits slots j.left rights) (serve semiring j.limits slots j.left rights).stop r.few (r.missed h);
    }
  where
    go : (s : Served) (t : Stop) → length s.noted ≤ slots → Missing t slots s (searched j) → UnmetBlock t slots j s
    go s all few m = m
    go s over few m = alone_answers slots j _ m few
    go s full few m = alone_refuses slots j m
