-- What is claimed of every answer of WEIGH's search, for any list of laws, any weights of at least 1 and any word rule that the laws respect.
use Rattle.std.specs.Prelude.{ℕ, ◌≤◌, ◌<◌, min, ◌≡◌, ◌↔◌, Bool, true, false, List, length, ltb}
use Rattle.terms.specs.Lists.{◌∈◌, Distinct}
use Rattle.terms.specs.Term.{Term}
use Rattle.search.specs.Law.{Law, Name}
use Rattle.search.specs.Line.{Line, Limits}
use Rattle.search.specs.Path.{Searchable, Path}
use Rattle.weigh.specs.Weigh.{Weights, weight, Weighed, opened_count, weighed}
use Rattle.weigh.specs.Outcome.{Outcome, proved, unproved, Returns, expanded, noted, weigh}

-- every law weighs at least 1
abbrev pub Heavy : Weights → Type 0
Heavy w = (n : Name) → 1 ≤ w n

-- t is reached from s by searchable lines that weigh at most cost in all; s itself by none
abbrev pub Light : List Law → Weights → ℕ → Limits → Term → Term → Type 0
Light ws w cost m s t = (xs : List Line) × Path (Searchable ws m) s xs t × (weight w xs ≤ cost)

-- the different terms so reached
pub record Reachable (ws : List Law) (w : Weights) (cost : ℕ) (m : Limits) (s : Term) (ts : List Term) : Type 0 where
  pub distinct : Distinct ts
  pub all : (t : Term) → Light ws w cost m s t → t ∈ ts
  pub only : (t : Term) → t ∈ ts → Light ws w cost m s t

-- no path is returned
abbrev pub None : Outcome → Type 0
None o = (e : ℕ) × (n : ℕ) × (c : Bool) × (o ≡ unproved e n c)

-- a noted term was left unopened
abbrev pub LeftUnopened : List Weighed → Type 0
LeftUnopened noted = (x : Weighed) × x ∈ noted × (x.opened ≡ false)

pub record WeighClaims (ws : List Law) (W : Type 0) (words : Term → W) (w : Weights) (cost : ℕ) (m : Limits) (left right : Term) : Type 0 where
  -- a proved answer or an atmost gives a path of searchable lines, never empty, whose two ends have the same words and whose lines weigh at
  -- most cost
  pub path : (xs : List Line) → Returns (weigh ws w cost m left right) xs
      → Path (Searchable ws m) left xs right × (0 < length xs) × (words left ≡ words right) × (weight w xs ≤ cost)
  -- every other path of searchable lines weighs at least as much as a proved one
  pub lightest : (xs ys : List Line) (e n : ℕ) → weigh ws w cost m left right ≡ proved xs e n
      → Path (Searchable ws m) left ys right → weight w xs ≤ weight w ys
  -- when expanded is below nodes, the answer is a none exactly if each such path weighs more than cost
  pub complete : expanded (weigh ws w cost m left right) < m.nodes
      → None (weigh ws w cost m left right) ↔ ((ys : List Line) → Path (Searchable ws m) left ys right → cost < weight w ys)
  -- each such path weighs more than cost in every none that is not cut, also where as many terms are opened as may be
  pub uncut : (e n : ℕ) → weigh ws w cost m left right ≡ unproved e n false
      → (ys : List Line) → Path (Searchable ws m) left ys right → cost < weight w ys
  -- every answer counts the terms that are noted, and those of them that were opened: no more than the node limit
  pub counts : (noted (weigh ws w cost m left right) ≡ length (weighed ws w cost m left right))
      × (expanded (weigh ws w cost m left right) ≡ opened_count (weighed ws w cost m left right))
  pub few : expanded (weigh ws w cost m left right) ≤ m.nodes
  -- in a none the terms opened are the smaller of nodes and the count of different terms reached by searchable lines that weigh at
  -- most cost in all
  pub opened : (e n : ℕ) (c : Bool) → weigh ws w cost m left right ≡ unproved e n c
      → (ts : List Term) × Reachable ws w cost m left ts × (e ≡ min m.nodes (length ts))
  -- its cut is yes exactly when a noted term was left unopened
  pub cut : (e n : ℕ) (c : Bool) → weigh ws w cost m left right ≡ unproved e n c
      → (c ≡ true) ↔ LeftUnopened (weighed ws w cost m left right)
  -- which is exactly when the node limit is below the count of different terms reached by searchable lines that weigh at most cost in all
  pub cut_count : (e n : ℕ) (c : Bool) → weigh ws w cost m left right ≡ unproved e n c
      → (ts : List Term) → Reachable ws w cost m left ts → c ≡ ltb m.nodes (length ts)
