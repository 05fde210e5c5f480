-- The direct match on runs: the laws one after another, each side at its position of one list.
use Rattle.std.specs.Prelude.{ℕ, ◌≤◌, ◌≡◌, List, length, Option as Answer, Some, None}
use Rattle.std.proofs.Math.Option.{Option, none, some}
use Rattle.terms.specs.Term.{Term, size}
use Rattle.terms.specs.Held.{IsRun, Holds}
use Rattle.search.specs.Law as law
use Rattle.search.specs.Law.{Name, semiring}
use Rattle.search.specs.Match.{Bindings, unbound, match}
use Rattle.search.specs.Search.{direct}
use Rattle.search.specs.Span.{Found, BoundWithin}
use Rattle.search.specs.Coded.{name_of, law_of}
use Rattle.search.specs.declared.search.Law.{Law}
use Rattle.search.specs.declared.search.Binding.{Binding}

-- what the letters stand for where a law's sides are s and t
unfoldable pub match_sides : law.Law → Term → Term → Option Bindings
unfolding match unbound
match_sides w s t = elim (match w.left s unbound) [ none ↦ none | some u ↦ match w.right t u ]

abbrev pub direct_name : Answer Law → Option Name
direct_name (Some w) = some (name_of w)
direct_name None = none

-- of `bind_sides`: the parts lie in the list, and say what matching the terms gives
pub record BindsSides (w : Law) (xs : List ℕ) (middle : ℕ) (r : Binding) : Type 0 where
  pub within : BoundWithin (length xs) r
  pub exact : (s t : Term) → Holds xs 0 s → Holds xs middle t → Found xs r (match_sides (law_of w) s t)

pub record TakesFirst (xs : List ℕ) (middle : ℕ) (r : Answer Law) : Type 0 where
  pub exact : (s t : Term) → Holds xs 0 s → Holds xs middle t → direct_name r ≡ direct semiring s t

pub record Directs (left right : List ℕ) (r : Answer Law) : Type 0 where
  pub exact : (s t : Term) → IsRun left s → IsRun right t → size s ≤ 31 → size t ≤ 31 → direct_name r ≡ direct semiring s t
